use Rattle.std.proofs.Common.{◌+◌, length, get_or}
use Rattle.std.specs.Ordering.{nat_cmp}
use Rattle.std.specs.BTreeSet.{IsOrdered}
use Rattle.oram_geometry.specs.Sizes.{depth_of as depth}
use Rattle.oram_stash.specs.Plan.{IsPlan, Reaches, Waits}
use Rattle.oram_stash.proofs.levels.chosen_levels.Given as goal

abbrev pub invariant-loop-level : goal.invariant-loop-level
invariant-loop-level l = let deep = depth l.device l.tree in record {
  plan : IsPlan (Reaches deep l.leaf l.leaves) (length l.leaves) deep l.device.slots (l.level + 1) l.levels.items;
  waits : Waits (λ j. get_or l.shared.items j 0) (length l.leaves) (l.level + 1) l.levels.items l.waiting.keys;
  ordered : IsOrdered nat_cmp l.waiting;
}
