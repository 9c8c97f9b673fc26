use Rattle.std.proofs.Common.{◌≡◌, ◌≢◌, ℕ, true, false, not, bytes_eq, get_or, List, [], ◌∷◌, refl, sym, ap, ◌∙◌, subst}
use Rattle.std.specs.Global.{Vec}
use Rattle.oram_link_laws.specs.Runs.{Exchange}
use Rattle.oram_semantics.proofs.Judged.{bytes_same}
use Rattle.oram_rounds.specs.Batches.{answered, texts}
use Rattle.oram_rounds.specs.Rounds.{IsFirstAhead}
use Rattle.oram_rounds.proofs.ahead.FetchedAhead.take.Goals as goal

-- the first FETCH is another one
other_first : (fetches : List (Vec ℕ)) (answers : List (List ℕ)) (x : Vec ℕ) (body : List ℕ) → x ≡ get_or fetches 0 x → x.items ≢ body → IsFirstAhead (answered (texts fetches) answers) body → ⊥
other_first [] answers x body is apart first = first
other_first (f ∷ fetches) [] x body is apart first = first
other_first (f ∷ fetches) (a ∷ answers) x body is apart first = apart (ap (λ (v : Vec ℕ). v.items) is ∙ first)

apart_by : (xs ys : List ℕ) → true ≡ not (bytes_eq xs ys) → xs ≡ ys → ⊥
apart_by xs ys differ same = let both : true ≡ false = differ ∙ ap not (bytes_same xs ys same) in cc

pub returns-then-ne : goal.returns-then-ne
returns-then-ne c = (
  refl,
  subst (λ (ahead : List Exchange). IsFirstAhead ahead c.args.fetch.now → ⊥) c.self.view_is
      (other_first c.self.inside.fetches.items (texts c.self.inside.answers.items) c.in_ok-front.field-0.now c.args.fetch.now c.in_ok-front.ensures.lookup
      (λ same. apart_by c.as_slice.result.now c.args.fetch.now (sym c.if-ne.true ∙ c.ne.ensures) (c.as_slice.ensures.value ∙ same))),
)
