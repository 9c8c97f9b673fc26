-- A batch of a link that completes rows.
use Rattle.std.proofs.Common.{◌≡◌, ℕ, List, length, Ok, Err, refl, ◌∙◌, subst}
use Rattle.std.specs.Prelude.{IfOk}
use Rattle.oram_link_laws.specs.Runs.{Exchange}
use Rattle.oram_rounds.specs.Batches.{BatchOutcome, IsBatch}
use Rattle.oram_rounds.specs.Law.{AreBatches}
use Rattle.oram_pipeline.specs.Pipelines.{EndsBatch}
use Rattle.oram_near.specs.EmptyRecords.{WithRest}
use Rattle.oram_rows.specs.Rows.{KnownValue, client_of}
use Rattle.oram_rows.specs.RowsLink.{IsGiven, RowsBatch, RowsValue, told}

counted_by : (bodies : List (List ℕ)) (o : BatchOutcome) (exchanges : List Exchange) → IsBatch bodies o exchanges → IfOk o (λ answers. length answers ≡ length bodies)
counted_by bodies (Ok answers) exchanges is = is.0
counted_by bodies (Err fault) exchanges is = tt

module _ {B E : Type 0} (batches : B → List (List ℕ) → BatchOutcome → List Exchange → B → Type 0) (record_at : WithRest E → ℕ → ℕ → ℕ → List ℕ) (law : AreBatches batches) where
  -- the link below has sent the bodies, and its answers were completed
  pub completes : (l m : RowsValue B E) (bodies : List (List ℕ)) (outcome o : BatchOutcome) → m.known ≡ l.known → ((below : List Exchange) × batches l.inner bodies outcome below m.inner)
      → (IfOk outcome (λ answers. length answers ≡ length bodies) → IsGiven (client_of record_at l.known) bodies outcome o)
      → (exchanges : List Exchange) × RowsBatch batches record_at l bodies o exchanges m
  completes l m bodies outcome o same sent gives = (
    told bodies o sent.0,
    record {
      same = same;
      outcome = outcome;
      below = sent.0;
      sent = sent.1;
      gives = gives (counted_by bodies outcome sent.0 (law l.inner m.inner bodies outcome sent.0 sent.1));
      exchanges_are = refl;
    },
  )

  -- it had sent them ahead
  pub ends : (asks : B → List (List ℕ) → B → Type 0) (k m : RowsValue B E) (bodies : List (List ℕ)) (outcome o : BatchOutcome) → m.known ≡ k.known → EndsBatch batches asks bodies k.inner outcome m.inner
      → (IfOk outcome (λ answers. length answers ≡ length bodies) → IsGiven (client_of record_at k.known) bodies outcome o)
      → EndsBatch (RowsBatch batches record_at) (λ (l : RowsValue B E) bodies' k'. asks l.inner bodies' k'.inner × (k'.known ≡ l.known)) bodies k o m
  ends asks k m bodies outcome o same below gives l asked =
      completes l m bodies outcome o (same ∙ asked.1) (below l.inner asked.0)
      (subst (λ (known : KnownValue E). IfOk outcome (λ answers. length answers ≡ length bodies) → IsGiven (client_of record_at known) bodies outcome o) asked.1 gives)
