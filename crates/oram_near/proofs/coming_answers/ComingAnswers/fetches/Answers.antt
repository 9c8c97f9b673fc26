use Rattle.std.proofs.Common.{ℕ, ◌-◌, arith, List, drop, length, ap, ◌∙◌}
use Rattle.std.specs.Global.{Vec}
use Rattle.std.proofs.lemmas.List.{length-drop, take_all}
use Rattle.oram_rounds.specs.Batches.{texts}
use Rattle.oram_near.specs.ComingAnswers.{Coming}
use Rattle.oram_near.proofs.RequestLists.{texts_drop}
use Rattle.oram_near.proofs.coming_answers.ComingAnswers.fetches.Goals as goal

pub returns : goal.returns
returns c =
    let all = c.deref.result.now in
    let k = c.self.inside.answered in
    ap texts (take_all (length all - k) (drop k all) (omega (arith, length-drop k all))) ∙ texts_drop k all ∙ ap (λ (vs : List (Vec ℕ)). drop k (texts vs)) c.deref.ensures.value
    ∙ ap (λ (x : Coming). x.fetches) c.self.view_is
