-- What a batch of messages over a dialer's connection comes to.
use Rattle.std.specs.Prelude.{◌≡◌, ℕ, List, Result, Ok, Err}
use Rattle.std.specs.Global.{Vec}
use Rattle.oram_link_laws.specs.Runs.{Exchange}
use Rattle.oram_rounds.specs.Batches.{BatchOutcome, IsBatch, texts}
use Rattle.oram_client.specs.Dialer.{fault_of}
use Rattle.oram_client.specs.declared.dialer.Trouble.{Trouble}
use Rattle.oram_client.specs.declared.dialer.Trouble.TheVariants.{OutOfReach}

-- the outcome of a try: the host's answers to all messages, or why they are missing
abbrev pub Attempt : Type 0
Attempt = Result (List (List ℕ)) Trouble

-- an attempt, without where the answers' bytes lie in memory
abbrev pub attempt_of : Result (Vec (Vec ℕ)) Trouble → Attempt
attempt_of (Ok answers) = Ok (texts answers.items)
attempt_of (Err trouble) = Err trouble

-- what the caller receives for an attempt
abbrev pub link_outcome : Attempt → BatchOutcome
link_outcome (Ok answers) = Ok answers
link_outcome (Err trouble) = Err (fault_of trouble)

-- the attempt for the outcome of a batch over a connection
abbrev pub attempt_for : BatchOutcome → Attempt
attempt_for (Ok answers) = Ok answers
attempt_for (Err fault) = Err (OutOfReach fault)

-- each batch over a dialer's connection has exchanges such as `IsBatch` allows
abbrev pub DialersAreBatches : {D L : Type 0} → (D → L → List (List ℕ) → Attempt → List Exchange → D → L → Type 0) → Type 0
DialersAreBatches {D} {L} carries = (d e : D) (line line' : L) (bodies : List (List ℕ)) (came : Attempt) (exchanges : List Exchange)
    → carries d line bodies came exchanges e line' → IsBatch bodies (link_outcome came) exchanges

-- how a dialer carries batches that adds nothing to them
abbrev pub Plainly : {D L : Type 0} → (L → List (List ℕ) → BatchOutcome → List Exchange → L → Type 0) → D → L → List (List ℕ) → Attempt → List Exchange → D → L → Type 0
Plainly batches d line bodies came exchanges e line' = (outcome : BatchOutcome) × batches line bodies outcome exchanges line' × (came ≡ attempt_for outcome) × (e ≡ d)
