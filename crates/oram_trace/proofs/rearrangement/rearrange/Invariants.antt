use Rattle.std.proofs.Common.{◌≡◌, ℕ, ◌<◌, length, map, slice_index}
use Rattle.oram_trace.specs.TapeRearrangement.{tape_len, arranged_places}
use Rattle.oram_trace.proofs.rearrangement.rearrange.Given as goal

-- the trees so far are done
abbrev pub invariant-loop-tree : goal.invariant-loop-tree
invariant-loop-tree l = record {
  long : length l.order.items ≡ tape_len l.device (length l.a);
  sent : (i : ℕ) → i < l.tree → map (slice_index l.order.items) (arranged_places l.device l.b i) ≡ arranged_places l.device l.a i;
}
