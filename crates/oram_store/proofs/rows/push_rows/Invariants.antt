use Rattle.std.proofs.Common.{◌≡◌}
use Rattle.std.specs.Slice.Iter.{chunks_exact_rest, chunks_exact_size}
use Rattle.oram_store.proofs.RowBytes.{AreLeft}
use Rattle.oram_store.proofs.rows.push_rows.Given as goal

abbrev pub invariant-loop-cell : goal.invariant-loop-cell
invariant-loop-cell l = record {
  size : chunks_exact_size l.cell-iterator ≡ l.width;
  left : AreLeft l.record_len l.width l.cells (chunks_exact_rest l.cell-iterator) l.fn.rows.items l.rows.items;
}
