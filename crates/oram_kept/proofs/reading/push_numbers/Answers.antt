use Rattle.std.proofs.Common.{length, ap, ◌∙◌, arith}
use Rattle.std.specs.Slice.Iter.{chunks_exact_rest, chunks_exact_size}
use Rattle.oram_kept.proofs.Numbers.{all_added, none_added, one_added, one_less}
use Rattle.oram_kept.proofs.reading.push_numbers.Goals as goal

pub loop-number-init : goal.loop-number-init
loop-number-init c =
    let rest = ap chunks_exact_rest c.into_iter-number-iterator.ensures.into_iter_gives ∙ c.chunks_exact-number-items.ensures.rest in
    record {
      size = ap chunks_exact_size c.into_iter-number-iterator.ensures.into_iter_gives ∙ c.chunks_exact-number-items.ensures.size;
      whole = (c.requires.0, ap length rest ∙ c.requires.1);
      added = none_added c.args.table.now.items c.args.bytes.now _ rest;
    }

pub number_in-requires : goal.number_in-requires
number_in-requires c = c.in-Some.ensures.steps.1.1 ∙ c.loop-number.invariant.size

pub loop-number-preserved : goal.loop-number-preserved
loop-number-preserved c =
    let whole = c.loop-number.invariant.whole in
    let four = c.in-Some.ensures.steps.1.1 ∙ c.loop-number.invariant.size in
    let cut = c.in-Some.ensures.steps.1.0 in
    record {
      size = c.in-Some.ensures.steps.0 ∙ c.loop-number.invariant.size;
      whole = one_less whole.0 _ c.in-Some.number.now _ cut four whole.1;
      added = one_added c.args.table.now.items _ _ c.in-Some.number.now c.args.bytes.now _ _ c.number_in.result cut c.in_ok-push.ensures.items c.number_in.ensures c.loop-number.invariant.added;
    }

pub returns : goal.returns
returns c =
    let whole = c.loop-number.invariant.whole in
    let short = c.in-None.ensures.steps.1 in
    all_added c.args.table.now.items c.loop-number.table.items c.args.bytes.now _ (omega (arith, whole.1, short, c.loop-number.invariant.size)) c.loop-number.invariant.added
