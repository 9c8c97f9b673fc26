-- Batches that a link carried one after the other.
use Rattle.std.proofs.Common.{ℕ, List, [], ◌∷◌, ◌++◌, refl}
use Rattle.oram_link_laws.proofs.Exchanged.{folds_join}
use Rattle.oram_link_laws.specs.Runs.{Exchange}
use Rattle.oram_rounds.specs.Batches.{BatchOutcome}
use Rattle.oram_client.specs.Introduction.{Turn, TurnsRun}

module _ {L : Type 0} (batches : L → List (List ℕ) → BatchOutcome → List Exchange → L → Type 0) where
  pub no_turn : (l : L) → TurnsRun batches l [] l
  no_turn l = refl

  pub one_turn : (l m : L) (bodies : List (List ℕ)) (outcome : BatchOutcome) (exchanges : List Exchange) → batches l bodies outcome exchanges m
      → TurnsRun batches l ((bodies, outcome) ∷ []) m
  one_turn l m bodies outcome exchanges batch = (m, (exchanges, batch), refl)

  pub more_turns : (l mid m : L) (before after : List Turn) → TurnsRun batches l before mid → TurnsRun batches mid after m → TurnsRun batches l (before ++ after) m
  more_turns l mid m before after first second =
      folds_join {P = L} {A = Turn} (λ a t b. (exchanges : List Exchange) × batches a t.0 t.1 exchanges b) l mid m before after first second
