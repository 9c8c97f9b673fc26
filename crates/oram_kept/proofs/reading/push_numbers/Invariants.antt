use Rattle.std.proofs.Common.{◌≡◌, ◌*◌, ℕ, length}
use Rattle.std.specs.Slice.Iter.{chunks_exact_rest, chunks_exact_size}
use Rattle.oram_kept.proofs.Numbers.{AreAdded}
use Rattle.oram_kept.proofs.reading.push_numbers.Given as goal

abbrev pub invariant-loop-number : goal.invariant-loop-number
invariant-loop-number l = record {
  size : chunks_exact_size l.number-iterator ≡ 4;
  whole : (count : ℕ) × (length (chunks_exact_rest l.number-iterator) ≡ 4 * count);
  added : AreAdded l.fn.table.items l.table.items l.bytes (chunks_exact_rest l.number-iterator);
}
