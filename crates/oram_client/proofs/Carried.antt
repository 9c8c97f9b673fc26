-- A batch whose messages were sent, by what was received.
use Rattle.std.proofs.Common.{◌≡◌, ◌||◌, ℕ, Bool, false, List, [], Option, Result, Ok, Err, inr, refl, ap, ◌∙◌, subst}
use Rattle.std.specs.Prelude.{IfOk, IfErr, MatchBool, is_err}
use Rattle.std.specs.Global.{Vec}
use Rattle.oram_session.specs.declared.link.LinkFault.{LinkFault}
use Rattle.oram_link_laws.specs.Runs.{Exchange}
use Rattle.oram_rounds.specs.Batches.{answered, batch_outcome_of, texts}
use Rattle.oram_client.specs.AnswerLengths.{longest_answer}
use Rattle.oram_client.specs.BatchExchanges.{sends_all}
use Rattle.oram_client.specs.StreamBatches.{AreReceived, AreSent, Carries, Connection, IsClosed, StopsAfter, StreamBatch, cut_short}

-- a result fails if its outcome does
outcome_fails : (result : Result (Vec (Vec ℕ)) LinkFault) → is_err result ≡ (false || is_err (batch_outcome_of result))
outcome_fails (Ok answers) = refl
outcome_fails (Err fault) = refl

module _ {R W : Type 0} (remaining : R → Option (List ℕ)) (contents : W → Option (List ℕ)) where
  pub carried : (result : Result (Vec (Vec ℕ)) LinkFault) (bodies : List (List ℕ)) (longest : List ℕ → ℕ) (reader reader' : R) (writer writer' : W)
      → AreSent contents writer bodies writer'
      → IfOk result (λ answers. AreReceived longest (remaining reader) (remaining reader') bodies (texts answers.items))
      → IfErr result (λ fault. (answers : List (List ℕ)) × StopsAfter longest (remaining reader) (remaining reader') bodies answers fault)
      → (exchanges : List Exchange) × Carries remaining contents longest reader writer bodies (batch_outcome_of result) exchanges reader' writer'
  carried (Ok answers) bodies longest reader reader' writer writer' sent received stops =
      (answered bodies (texts answers.items), (record { sent = sent; received = received }, refl))
  carried (Err fault) bodies longest reader reader' writer writer' sent received stops =
      (cut_short bodies stops.0 fault, (stops.0, refl, inr (record { unsent = []; sends = sends_all contents writer writer' bodies sent; stops = stops.1 })))

  -- a batch over an open connection, which a fault closes
  pub a_batch : (l m : Connection R W) (bodies : List (List ℕ)) (result : Result (Vec (Vec ℕ)) LinkFault) (exchanges : List Exchange) → false ≡ l.closed → m.closed ≡ is_err result → m.disk ≡ l.disk
      → Carries remaining contents (longest_answer l.disk) l.reader l.writer bodies (batch_outcome_of result) exchanges m.reader m.writer
      → StreamBatch remaining contents l bodies (batch_outcome_of result) exchanges m
  a_batch l m bodies result exchanges unclosed closes same carries = record {
    closed = closes ∙ outcome_fails result ∙ ap (λ (b : Bool). b || is_err (batch_outcome_of result)) unclosed;
    disk = same;
    carried = subst (λ (b : Bool). MatchBool b (IsClosed l (batch_outcome_of result) exchanges m)
        (Carries remaining contents (longest_answer l.disk) l.reader l.writer bodies (batch_outcome_of result) exchanges m.reader m.writer)) unclosed carries;
  }
