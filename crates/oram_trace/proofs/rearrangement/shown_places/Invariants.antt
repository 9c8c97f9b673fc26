use Rattle.std.proofs.Common.{◌≡◌, ℕ, map}
use Rattle.std.specs.BTreeMap.{get}
use Rattle.std.specs.List.{range_with_len}
use Rattle.std.specs.Ordering.{nat_cmp}
use Rattle.oram_trace.specs.Tape.{place}
use Rattle.oram_trace.proofs.Uses.{last_with}
use Rattle.oram_trace.proofs.rearrangement.shown_places.Given as goal

-- the map has the last use of each block
abbrev pub invariant-loop-index : goal.invariant-loop-index
invariant-loop-index l = record {
  places : l.places.items ≡ map (place l.device l.addresses l.tree) (range_with_len 0 l.index);
  last : (block : ℕ) → get nat_cmp l.last_uses block ≡ last_with l.device l.addresses l.tree l.index block;
}
