use Rattle.std.proofs.Common.{map, Vec, Global}
use Rattle.oram_bucket.specs.declared.block.Block.{Block}
use Rattle.oram_geometry.specs.Sizes.{depth_of as depth}
use Rattle.oram_stash.proofs.Tight.{TightTo}
use Rattle.oram_stash.proofs.Stash.tight_level.Given as goal

abbrev pub invariant-loop-level : goal.invariant-loop-level
invariant-loop-level l = TightTo (depth l.device l.tree) l.device.slots l.leaf (map (λ (list : Vec Block Global). list.items) l.lists) l.self l.level l.tight
