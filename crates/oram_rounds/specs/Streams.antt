-- A batch whose answers are taken one by one.
use Rattle.std.specs.Prelude.{◌≡◌, ◌⊎◌, ℕ, Bool, List, [], ◌∷◌, ◌++◌, drop, length, MatchBool, MatchResult, Ok, Err}
use Rattle.oram_session.specs.Outcome.{Outcome}
use Rattle.oram_session.specs.declared.link.LinkFault.{LinkFault}
use Rattle.oram_link_laws.specs.Runs.{Exchange}
use Rattle.oram_rounds.specs.Batches.{BatchOutcome, BreaksOff}

-- For a link whose batches have the first relation. The second one: the first value has sent these messages in one batch, has given the answers to
-- the first of them, and is now the second value.
module _ {B : Type 0} (batches : B → List (List ℕ) → BatchOutcome → List Exchange → B → Type 0) (streams : B → List (List ℕ) → List (List ℕ) → B → Type 0) where
  -- The messages are sent, and no answer has been given yet. Or nothing has happened, or the whole was a batch without answers.
  abbrev pub BeginsBatch : B → List (List ℕ) → Bool → B → Type 0
  BeginsBatch l bodies begun m =
      MatchBool begun (streams l bodies [] m) ((m ≡ l) ⊎ ((fault : LinkFault) × (exchanges : List Exchange) × batches l bodies (Err fault) exchanges m))

  -- The next message of the batch is this one, and its answer is given. Or the batch has broken off.
  abbrev pub GivesNext : B → List ℕ → Outcome → B → Type 0
  GivesNext k body o m = (l : B) (bodies answers rest : List (List ℕ)) → streams l bodies answers k → drop (length answers) bodies ≡ body ∷ rest
      → MatchResult o (λ answer. streams l bodies (answers ++ answer ∷ []) m)
      (λ fault. (exchanges : List Exchange) × batches l bodies (Err fault) exchanges m × BreaksOff bodies answers exchanges)

  -- once all answers are given, the whole was a batch with these answers
  abbrev pub EndsAsBatch : Type 0
  EndsAsBatch = (l m : B) (bodies answers : List (List ℕ)) → streams l bodies answers m → length answers ≡ length bodies → (exchanges : List Exchange) × batches l bodies (Ok answers) exchanges m
