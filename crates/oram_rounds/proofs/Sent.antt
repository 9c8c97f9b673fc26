-- What the exchanges of a batch have sent.
use Rattle.std.proofs.Common.{ℕ, List, [], ◌∷◌, ◌++◌, Ok, Err, refl, sym, subst, inl, inr}
use Rattle.std.specs.List.{AllByRecursion}
use Rattle.oram_link_laws.specs.Repair.{AreAmong, IsAmong}
use Rattle.oram_link_laws.specs.Runs.{Exchange, bodies_of}
use Rattle.oram_rounds.specs.Batches.{BatchOutcome, IsBatch, answered}

pub among_append : (xs ys : List Exchange) (all : List (List ℕ)) → AreAmong (bodies_of xs) all → AreAmong (bodies_of ys) all → AreAmong (bodies_of (xs ++ ys)) all
among_append [] ys all first second = second
among_append (e ∷ xs) ys all first second = (first.0, among_append xs ys all first.1 second)

pub answered_among : (bodies answers all : List (List ℕ)) → ((x : List ℕ) → IsAmong x bodies → IsAmong x all) → AreAmong (bodies_of (answered bodies answers)) all
answered_among [] answers all inside = tt
answered_among (b ∷ bodies) [] all inside = tt
answered_among (b ∷ bodies) (a ∷ answers) all inside = (inside b (inl refl), answered_among bodies answers all (λ x k. inside x (inr k)))

pub batch_among : (bodies : List (List ℕ)) (o : BatchOutcome) (exchanges : List Exchange) → IsBatch bodies o exchanges → AreAmong (bodies_of exchanges) bodies
batch_among bodies (Err fault) exchanges batch = batch
batch_among bodies (Ok answers) exchanges batch =
    let P : List Exchange → Type 0 = λ xs. AreAmong (bodies_of xs) bodies in
    subst P (sym batch.3) (among_append batch.1 (answered bodies answers) bodies batch.2 (answered_among bodies answers bodies (λ x k. k)))

-- what holds of each of some bodies, holds of those among them
pub all_among : (P : List ℕ → Type 0) (all bodies : List (List ℕ)) → AllByRecursion P all → AreAmong bodies all → AllByRecursion P bodies
all_among P all [] each are = tt
all_among P all (b ∷ bodies) each are = (one all each are.0, all_among P all bodies each are.1)
  where
    one : (xs : List (List ℕ)) → AllByRecursion P xs → IsAmong b xs → P b
    one [] each among = absurd among
    one (x ∷ xs) each (inl same) = subst P (sym same) each.0
    one (x ∷ xs) each (inr later) = one xs each.1 later
