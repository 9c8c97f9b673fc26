use Rattle.std.proofs.Common.{◌≡◌, ℕ, List, [], ◌∷◌, ◌++◌, length, Ok, sym, ap, ◌∙◌}
use Rattle.std.proofs.lemmas.List.{length-map, map-append}
use Rattle.std.specs.Global.{Vec}
use Rattle.oram_link_laws.specs.Runs.{Exchange}
use Rattle.oram_rounds.specs.Batches.{answered, texts}
use Rattle.oram_rounds.proofs.Round.{answered_split}
use Rattle.oram_rounds.proofs.ahead.FetchedAhead.push.Goals as goal

-- one more FETCH, with its answer
answered_more : (fetches answers more_fetches more_answers : List (Vec ℕ)) (fetch answer : Vec ℕ) → more_fetches ≡ fetches ++ fetch ∷ [] → more_answers ≡ answers ++ answer ∷ [] → length fetches ≡ length answers
    → answered (texts more_fetches) (texts more_answers) ≡ answered (texts fetches) (texts answers) ++ (fetch.items, Ok answer.items) ∷ []
answered_more fetches answers more_fetches more_answers fetch answer first second count =
    let items : Vec ℕ → List ℕ = λ v. v.items in
    let one : texts more_fetches ≡ texts fetches ++ fetch.items ∷ [] = ap texts first ∙ map-append items fetches (fetch ∷ []) in
    let two : texts more_answers ≡ texts answers ++ answer.items ∷ [] = ap texts second ∙ map-append items answers (answer ∷ []) in
    ap (λ (x : List (List ℕ)). answered x (texts more_answers)) one ∙ ap (λ (x : List (List ℕ)). answered (texts fetches ++ fetch.items ∷ []) x) two
    ∙ answered_split (texts fetches) (texts answers) fetch.items answer.items (length-map answers items ∙ sym count ∙ sym (length-map fetches items))

pub returns-clause-ok : goal.returns-clause-ok
returns-clause-ok c =
    answered_more c.self.inside.fetches.items c.self.inside.answers.items c.push_back_reserved.new.self.items c.push_back_reserved-2.new.self.items c.args.fetch c.args.answer
    (c.push_back_reserved.ensures.items ∙ ap (λ (xs : List (Vec ℕ)). xs ++ c.args.fetch ∷ []) c.in_ok-reserve.ensures.items)
    (c.push_back_reserved-2.ensures.items ∙ ap (λ (xs : List (Vec ℕ)). xs ++ c.args.answer ∷ []) c.in_ok-reserve-2.ensures.items) c.self.invariant
    ∙ ap (λ (xs : List Exchange). xs ++ (c.args.fetch.items, Ok c.args.answer.items) ∷ []) c.self.view_is
