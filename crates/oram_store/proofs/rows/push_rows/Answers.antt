use Rattle.std.proofs.Common.{ap, ◌∙◌, arith}
use Rattle.std.specs.Slice.Iter.{chunks_exact_rest, chunks_exact_size}
use Rattle.oram_store.proofs.RowBytes.{all_left, none_left, one_less}
use Rattle.oram_store.proofs.rows.push_rows.Goals as goal

pub loop-cell-init : goal.loop-cell-init
loop-cell-init c = record {
  size = ap chunks_exact_size c.into_iter-cell-iterator.ensures.into_iter_gives ∙ c.chunks_exact-cell-items.ensures.size;
  left = all_left c.args.record_len c.args.width c.args.cells.now _ c.args.rows.now.items
      (ap chunks_exact_rest c.into_iter-cell-iterator.ensures.into_iter_gives ∙ c.chunks_exact-cell-items.ensures.rest);
}

pub loop-cell-preserved : goal.loop-cell-preserved
loop-cell-preserved c = record {
  size = c.in-Some.ensures.steps.0 ∙ c.loop-cell.invariant.size;
  left = one_less c.args.record_len c.args.width c.args.cells.now c.in-Some.cell.now _ _ c.args.rows.now.items _ _ (omega (arith, c.requires.wide)) c.in-Some.ensures.steps.1.0 (c.in-Some.ensures.steps.1.1 ∙ c.loop-cell.invariant.size)
      c.in_ok-push_row.ensures c.loop-cell.invariant.left;
}

pub returns : goal.returns
returns c = none_left c.args.record_len c.args.width c.args.cells.now _ c.args.rows.now.items c.loop-cell.rows.items (let short = c.in-None.ensures.steps.1 in omega (arith, short, c.loop-cell.invariant.size)) c.loop-cell.invariant.left
