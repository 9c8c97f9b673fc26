-- The exchanges of a link that completes rows are such as `IsBatch` allows.
use Rattle.std.specs.Prelude.{◌≡◌, ℕ, zero, suc, ◌-◌, List, [], ◌∷◌, ◌++◌, length, take, MatchResult, Ok, Err, refl}
use Rattle.std.proofs.Common.{arith, sym, ap, ◌∙◌, subst, inl, inr}
use Rattle.oram_link_laws.specs.Repair.{AreAmong, IsAmong}
use Rattle.oram_link_laws.specs.Runs.{Exchange, bodies_of}
use Rattle.oram_rounds.specs.Batches.{BatchOutcome, IsBatch, SendsNothing, answered}
use Rattle.oram_rounds.specs.Law.{AreBatches}
use Rattle.oram_near.specs.Completion.{ClientRecords}
use Rattle.oram_near.specs.EmptyRecords.{WithRest}
use Rattle.oram_rows.specs.Rows.{AreCompleted, KnownValue, client_of}
use Rattle.oram_rows.specs.RowsLink.{IsGiven, RowsBatch, RowsValue, told, unheard}

completed_count : (c : ClientRecords) (bodies answers given : List (List ℕ)) → AreCompleted c bodies answers given → length given ≡ length bodies
completed_count c [] answers given are = ap length are.1
completed_count c (body ∷ bodies) [] given are = absurd are
completed_count c (body ∷ bodies) (answer ∷ answers) [] are = absurd are
completed_count c (body ∷ bodies) (answer ∷ answers) (one ∷ given) are = omega (arith, completed_count c bodies answers given are.1)

among_both : (bodies : List (List ℕ)) (first second : List Exchange) → AreAmong (bodies_of first) bodies → AreAmong (bodies_of second) bodies → AreAmong (bodies_of (first ++ second)) bodies
among_both bodies [] second one two = two
among_both bodies (e ∷ first) second one two = (one.0, among_both bodies first second one.1 two)

answered_among : (all bodies answers : List (List ℕ)) → ((x : List ℕ) → IsAmong x bodies → IsAmong x all) → AreAmong (bodies_of (answered bodies answers)) all
answered_among all [] answers inside = tt
answered_among all (b ∷ bodies) [] inside = tt
answered_among all (b ∷ bodies) (a ∷ answers) inside = (inside b (inl refl), answered_among all bodies answers (λ x k. inside x (inr k)))

batch_among : (bodies : List (List ℕ)) (o : BatchOutcome) (exchanges : List Exchange) → IsBatch bodies o exchanges → AreAmong (bodies_of exchanges) bodies
batch_among bodies (Ok answers) exchanges h =
    subst (λ (es : List Exchange). AreAmong (bodies_of es) bodies) (sym h.3)
    (among_both bodies h.1 (answered bodies answers) h.2 (answered_among bodies bodies answers (λ x k. k)))
batch_among bodies (Err fault) exchanges h = h

unheard_among : (bodies : List (List ℕ)) (exchanges : List Exchange) → AreAmong (bodies_of exchanges) bodies → AreAmong (bodies_of (unheard exchanges)) bodies
unheard_among bodies [] are = tt
unheard_among bodies (e ∷ exchanges) are = (are.0, unheard_among bodies exchanges are.1)

first_among : (bodies : List (List ℕ)) (n : ℕ) (exchanges : List Exchange) → AreAmong (bodies_of exchanges) bodies → AreAmong (bodies_of (take n exchanges)) bodies
first_among bodies zero exchanges are = tt
first_among bodies (suc n) [] are = tt
first_among bodies (suc n) (e ∷ exchanges) are = (are.0, first_among bodies n exchanges are.1)

told_batch : (bodies : List (List ℕ)) (o : BatchOutcome) (below : List Exchange) → AreAmong (bodies_of below) bodies → MatchResult o (λ given. length given ≡ length bodies) (λ fault. Unit {0})
    → IsBatch bodies o (told bodies o below)
told_batch bodies (Ok given) below among count =
    let tries : List Exchange = take (length below - length bodies) below in
    (count, unheard tries, unheard_among bodies tries (first_among bodies (length below - length bodies) below among), refl)
told_batch bodies (Err fault) below among count = unheard_among bodies below among

module _ {B E : Type 0} (batches : B → List (List ℕ) → BatchOutcome → List Exchange → B → Type 0) (record_at : WithRest E → ℕ → ℕ → ℕ → List ℕ) where
  counted : (c : ClientRecords) (bodies : List (List ℕ)) (o outcome : BatchOutcome)
      → IsGiven c bodies outcome o → MatchResult o (λ given. length given ≡ length bodies) (λ fault. Unit {0})
  counted c bodies (Ok given) (Ok answers) gives = completed_count c bodies answers given gives
  counted c bodies (Err fault) (Ok answers) gives = tt
  counted c bodies o (Err fault) gives = subst (λ (x : BatchOutcome). MatchResult x (λ given. length given ≡ length bodies) (λ f. Unit {0})) (sym gives) tt

  pub rows_are_batches : AreBatches batches → (l m : RowsValue B E) (bodies : List (List ℕ)) (o : BatchOutcome) (exchanges : List Exchange) → RowsBatch batches record_at l bodies o exchanges m
      → IsBatch bodies o exchanges
  rows_are_batches law l m bodies o exchanges h =
      subst (λ (es : List Exchange). IsBatch bodies o es) (sym h.exchanges_are)
      (told_batch bodies o h.below (batch_among bodies h.outcome h.below (law l.inner m.inner bodies h.outcome h.below h.sent)) (counted (client_of record_at l.known) bodies o h.outcome h.gives))

  -- A link that learns that its process was kept: the link below learns it.
  pub learnt_nothing_sent : (l m : RowsValue B E) → SendsNothing batches l.inner m.inner → m.known ≡ l.known → SendsNothing (RowsBatch batches record_at) l m
  learnt_nothing_sent l m (inl stays) same = inl (ap (λ (b : B). let x : RowsValue B E = record { inner = b; known = m.known } in x) stays ∙ ap (λ (k : KnownValue E). let x : RowsValue B E = record { inner = l.inner; known = k } in x) same)
  learnt_nothing_sent l m (inr idles) same = inr (record { same = same; outcome = Ok []; below = []; sent = idles; gives = (refl, refl); exchanges_are = refl })
