use Rattle.std.proofs.Common.{List, get_or, take, refl, subst, sym, ◌∙◌, ap, Vec, Global}
use Rattle.std.proofs.lemmas.List.{take_more}
use Rattle.oram_redo.specs.Memory.{IsOutside}
use Rattle.oram_redo.specs.declared.memory.Range.{Range}
use Rattle.oram_redo.specs.declared.file_pair.FileKind.TheVariants.{Records}
use Rattle.oram_redo.proofs.Kept.{outside_more, outside_front}
use Rattle.oram_redo.proofs.memory.ranges_but.Goals as goal
use Rattle.oram_redo.proofs.memory.ranges_but.Goals.{then-is_of_another+in_ok-push, else-is_of_another}

abbrev none : Range
none = record { file = Records; at = 0; len = 0 }

pub loop-range-preserved : goal.loop-range-preserved
loop-range-preserved c =
    let range = get_or c.args.ranges.now c.loop-range.range-index none in
    let more = take_more c.args.ranges.now c.loop-range.range-index none c.loop-range-test.true in
    elim c.if-is_of_another.branch [
      | then-is_of_another+in_ok-push w ↦
          let kept = ap (λ (v : Vec Range Global). v.items) w.kept-is ∙ w.in_ok-push.ensures.items in
          record {
            synced = λ i.
                subst (λ (rs : List Range). IsOutside rs c.args.file i) (sym kept)
                (outside_more c.loop-range.kept.items range c.args.file i (c.loop-range.invariant.synced i) (λ same. absurd (w.if-is_of_another.ensures.0 refl same)));
            fewer = λ other i outside.
                let parts = outside_front (take c.loop-range.range-index c.args.ranges.now) range other i (subst (λ (rs : List Range). IsOutside rs other i) more outside) in
                subst (λ (rs : List Range). IsOutside rs other i) (sym kept) (outside_more c.loop-range.kept.items range other i (c.loop-range.invariant.fewer other i parts.0) parts.1);
          }
      | else-is_of_another w ↦
          let kept = ap (λ (v : Vec Range Global). v.items) w.kept-is in
          record {
            synced = λ i. subst (λ (rs : List Range). IsOutside rs c.args.file i) (sym kept) (c.loop-range.invariant.synced i);
            fewer = λ other i outside.
                let parts = outside_front (take c.loop-range.range-index c.args.ranges.now) range other i (subst (λ (rs : List Range). IsOutside rs other i) more outside) in
                subst (λ (rs : List Range). IsOutside rs other i) (sym kept) (c.loop-range.invariant.fewer other i parts.0);
          }
    ]
