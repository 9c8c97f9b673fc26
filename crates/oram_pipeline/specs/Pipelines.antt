-- Messages that are sent ahead of their answers.
use Rattle.std.specs.Prelude.{ℕ, List}
use Rattle.oram_link_laws.specs.Runs.{Exchange}
use Rattle.oram_rounds.specs.Batches.{BatchOutcome}

-- Whichever link became `k` when it was asked to send these messages, for it the whole is a batch with this outcome, which leads to `m`.
abbrev pub EndsBatch : {B : Type 0} → (B → List (List ℕ) → BatchOutcome → List Exchange → B → Type 0) → (B → List (List ℕ) → B → Type 0)
    → List (List ℕ) → B → BatchOutcome → B → Type 0
EndsBatch {B} batches asks bodies k o m = (l : B) → asks l bodies k → (exchanges : List Exchange) × batches l bodies o exchanges m
