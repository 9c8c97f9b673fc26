use Rattle.std.proofs.Common.{◌≡◌, ◌<◌, ℕ, arith, get_or, List, [], ◌∷◌, length, sym, ap, ◌∙◌, subst}
use Rattle.std.proofs.lemmas.Slice.Eq.{bytes_eq-Decides}
use Rattle.std.proofs.lemmas.Bool.Decides.{nat_tests}
use Rattle.std.specs.Global.{Vec}
use Rattle.oram_link_laws.specs.Runs.{Exchange}
use Rattle.oram_rounds.specs.Batches.{answered, texts}
use Rattle.oram_rounds.specs.Rounds.{IsFirstAhead}
use Rattle.oram_rounds.proofs.ahead.FetchedAhead.is_first.Goals as goal

-- the first FETCH is the one at the front
first_is : (fetches answers : List (Vec ℕ)) (x : Vec ℕ) (body : List ℕ) → x ≡ get_or fetches 0 x → 0 < length fetches → length fetches ≡ length answers
    → (x.items ≡ body → IsFirstAhead (answered (texts fetches) (texts answers)) body) × (IsFirstAhead (answered (texts fetches) (texts answers)) body → x.items ≡ body)
first_is [] answers x body is some count = absurd (omega (arith, some))
first_is (f ∷ fetches) [] x body is some count = absurd (omega (arith, count))
first_is (f ∷ fetches) (a ∷ answers) x body is some count =
    let same : x.items ≡ f.items = ap (λ (v : Vec ℕ). v.items) is in
    (λ here. sym same ∙ here, λ first. same ∙ first)

pub returns-in-Some : goal.returns-in-Some
returns-in-Some c =
    let front = c.in-Some.ensures in
    let fetches = c.self.inside.fetches.items in
    let first = first_is fetches c.self.inside.answers.items c.in-Some.first.now c.args.fetch.now front.lookup (grind (arith, nat_tests, front.item.0)) c.self.invariant in
    let tests = bytes_eq-Decides c.as_slice.result.now c.args.fetch.now in (
      λ yes. subst (λ (es : List Exchange). IsFirstAhead es c.args.fetch.now) c.self.view_is (first.0 (sym c.as_slice.ensures.value ∙ tests.0 (sym c.eq.ensures ∙ yes))),
      λ is. c.eq.ensures ∙ tests.1 (c.as_slice.ensures.value ∙ first.1 (subst (λ (es : List Exchange). IsFirstAhead es c.args.fetch.now) (sym c.self.view_is) is)),
    )
