-- What a link does that completes the answers to requests for rows.
use Rattle.std.specs.Prelude.{◌≡◌, ℕ, ◌-◌, ◌++◌, List, length, map, take, MatchResult, Ok, Err}
use Rattle.oram_session.specs.declared.link.LinkFault.TheVariants.{Closed, OutOfMemory}
use Rattle.oram_link_laws.specs.Runs.{Exchange}
use Rattle.oram_rounds.specs.Batches.{BatchOutcome, answered}
use Rattle.oram_near.specs.Completion.{ClientRecords}
use Rattle.oram_near.specs.EmptyRecords.{WithRest}
use Rattle.oram_near.specs.NearCalls.{NearValue}
use Rattle.oram_rows.specs.Rows.{AreCompleted, KnownValue, client_of}

-- the link below, and what the client has of the records
pub record RowsValue (B E : Type 0) : Type 0 where
  pub inner : B
  pub known : KnownValue E

-- the link that takes what a link for whole paths has
abbrev pub over : {B E : Type 0} → NearValue B (WithRest E) → RowsValue B E
over l = record { inner = l.inner; known = record { empty = l.empty; device = l.device; near = l.near } }

-- exchanges whose answers nobody gets
abbrev pub unheard : List Exchange → List Exchange
unheard exchanges = map {A = Exchange} (λ e. (e.0, Err Closed)) exchanges

-- The exchanges of a batch as they are told, with those of the link below. Of its tries nobody gets the answers; and if the batch has answers,
-- these are the last ones.
abbrev pub told : List (List ℕ) → BatchOutcome → List Exchange → List Exchange
told bodies (Ok given) below = unheard (take (length below - length bodies) below) ++ answered bodies given
told bodies (Err fault) below = unheard below

-- What a link gives for some bodies, if the link below has this outcome: the completed answers, unless memory runs out.
abbrev pub IsGiven : ClientRecords → List (List ℕ) → BatchOutcome → BatchOutcome → Type 0
IsGiven c bodies (Ok answers) o = MatchResult o (AreCompleted c bodies answers) (λ fault. fault ≡ OutOfMemory)
IsGiven c bodies (Err fault) o = o ≡ Err fault

-- for links over `batches`, with the records that the formatting makes
module _ {B E : Type 0} (batches : B → List (List ℕ) → BatchOutcome → List Exchange → B → Type 0) (record_at : WithRest E → ℕ → ℕ → ℕ → List ℕ) where
  -- The same bodies are a batch of the link below, and each of its answers is completed.
  pub record RowsBatch (l : RowsValue B E) (bodies : List (List ℕ)) (o : BatchOutcome) (exchanges : List Exchange) (m : RowsValue B E) : Type 0 where
    pub same : m.known ≡ l.known
    pub outcome : BatchOutcome
    pub below : List Exchange
    pub sent : batches l.inner bodies outcome below m.inner
    pub gives : IsGiven (client_of record_at l.known) bodies outcome o
    pub exchanges_are : exchanges ≡ told bodies o below
