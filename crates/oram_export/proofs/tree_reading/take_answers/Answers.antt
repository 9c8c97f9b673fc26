use Rattle.std.proofs.Common.{◌≡◌, ℕ, ◌+◌, ◌-◌, ◌*◌, ◌++◌, List, [], ◌∷◌, length, min, drop, ap, sym, ◌∙◌, subst, length-append}
use Rattle.std.specs.List.{flat_map}
use Rattle.oram_rounds.specs.Batches.{texts}
use Rattle.oram_rounds.proofs.Texts.{texts_more}
use Rattle.oram_export.specs.Stages.{IsFurther, TakesRows, stage_of}
use Rattle.oram_export.proofs.Asked.{next_count, text_more}
use Rattle.oram_export.proofs.Staging.{further_again, more_rows}
use Rattle.oram_export.proofs.tree_reading.take_answers.Goals as goal

pub loop-answer-preserved : goal.loop-answer-preserved
loop-answer-preserved g c =
    let sees = g.V.RecordVisitor.sees c.args.visitor.now in
    let before = c.loop-answer.yielded in
    let x = c.in-Some.answer in
    let most = c.args.requests.now.most in
    let nodes = c.args.requests.now.nodes in
    let first = c.args.progress.now.scan.node in
    let so_far = length (texts before) in
    let one_more : texts (before ++ x ∷ []) ≡ texts before ++ x.items ∷ [] = texts_more before x in
    let count : length (texts (before ++ x ∷ [])) ≡ so_far + 1 = ap length one_more ∙ length-append (texts before) (x.items ∷ []) in
    let took = c.in_ok-take_answer.ensures.ok in
    let text : flat_map (drop 1) (texts (before ++ x ∷ [])) ≡ flat_map (drop 1) (texts before) ++ took.0 =
    ap (flat_map (drop 1)) one_more ∙ text_more (texts before) x.items took.0 (sym c.deref.ensures.value ∙ took.1) in
    let start = stage_of c.args.progress.now c.args.target.now in
    let now = stage_of c.take_answer.new.progress c.take_answer.new.target in
    let next : IsFurther c.loop-answer.progress c.take_answer.new.progress (min most (nodes - (first + min (so_far * most) (nodes - first)))) =
    let here = c.node.ensures ∙ c.loop-answer.invariant.further.node in
    let asked : c.min-count.result ≡ min most (nodes - (first + min (so_far * most) (nodes - first))) = c.min-count.ensures ∙ ap (λ (n : ℕ). min most (nodes - n)) here in
    subst (λ (n : ℕ). IsFurther c.loop-answer.progress c.take_answer.new.progress n) asked c.in_ok-take_answer.ensures.next in
    record {
      further = further_again c.args.progress.now c.loop-answer.progress c.take_answer.new.progress (min (so_far * most) (nodes - first)) (min most (nodes - (first + min (so_far * most) (nodes - first)))) _
          (next_count so_far most nodes first c.requires.within ∙ ap (λ (k : ℕ). min (k * most) (nodes - first)) (sym count)) c.loop-answer.invariant.further next;
      taken = subst (λ (t : List ℕ). TakesRows sees c.args.record_len start t now) (sym text)
          (more_rows sees c.args.record_len start (stage_of c.loop-answer.progress c.loop-answer.target) now (flat_map (drop 1) (texts before)) took.0 c.loop-answer.invariant.taken took.2);
    }
