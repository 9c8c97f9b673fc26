-- Messages that are sent over a connection ahead of their answers.
use Rattle.std.proofs.Common.{◌≡◌, ℕ, true, false, List, [], Option, Result, Ok, Err, inl, refl, sym, ◌∙◌, subst}
use Rattle.std.specs.Prelude.{IfOk, IfErr, is_err}
use Rattle.std.specs.Global.{Vec}
use Rattle.oram_session.specs.declared.link.LinkFault.{LinkFault}
use Rattle.oram_link_laws.specs.Runs.{Exchange}
use Rattle.oram_pipeline.specs.Pipelines.{EndsBatch}
use Rattle.oram_rounds.specs.Batches.{BatchOutcome, batch_outcome_of, texts}
use Rattle.oram_client.specs.AnswerLengths.{DiskSizes, longest_answer}
use Rattle.oram_client.specs.StreamBatches.{AreReceived, AreSent, Connection, FailsToSendAll, StopsAfter, StreamAsk, StreamBatch, cut_short}
use Rattle.std.specs.Io.KnownBytes.{Keeps}
use Rattle.std.proofs.KnownBytes.{Keeps-refl}
use Rattle.std.proofs.lemmas.Bool.{true≢false}
use Rattle.oram_client.proofs.Carried.{a_batch, carried}

module _ {R W : Type 0} (remaining : R → Option (List ℕ)) (contents : W → Option (List ℕ)) where
  -- Messages that couldn't be sent are a batch.
  pub unsent_batch : (result : Result Unit LinkFault) (l m : Connection R W) (bodies : List (List ℕ)) → false ≡ l.closed → m.closed ≡ is_err result → m.reader ≡ l.reader → m.disk ≡ l.disk
      → IfErr result (λ fault. FailsToSendAll contents l.writer bodies fault m.writer)
      → IfErr result (λ fault. (exchanges : List Exchange) × StreamBatch remaining contents l bodies (Err fault) exchanges m)
  unsent_batch (Ok u) l m bodies unclosed closes unread same fails = fails
  unsent_batch (Err fault) l m bodies unclosed closes unread same fails = (
    cut_short bodies [] fault,
    a_batch remaining contents l m bodies (Err fault) (cut_short bodies [] fault) unclosed closes same ([], refl, inl (record { none = refl; wrote = fails; unread = subst (λ (r : R). Keeps (remaining l.reader) (remaining r)) (sym unread) (Keeps-refl (remaining l.reader)) })),
  )

  -- what was received ends the batch of the messages that were sent
  pub batch_ends : (result : Result (Vec (Vec ℕ)) LinkFault) (k m : Connection R W) (bodies : List (List ℕ)) → m.closed ≡ is_err result → m.writer ≡ k.writer → m.disk ≡ k.disk
      → IfOk result (λ answers. AreReceived (longest_answer k.disk) (remaining k.reader) (remaining m.reader) bodies (texts answers.items))
      → IfErr result (λ fault. (answers : List (List ℕ)) × StopsAfter (longest_answer k.disk) (remaining k.reader) (remaining m.reader) bodies answers fault)
      → EndsBatch (StreamBatch remaining contents) (StreamAsk contents) bodies k (batch_outcome_of result) m
  batch_ends result k m bodies closes unwritten same received stops l asked =
      let sent : AreSent contents l.writer bodies m.writer = subst (λ (w : W). AreSent contents l.writer bodies w) (sym unwritten) asked.sent in
      let all : IfOk result (λ answers. AreReceived (longest_answer l.disk) (remaining l.reader) (remaining m.reader) bodies (texts answers.items)) =
      subst (λ (r : R). IfOk result (λ answers. AreReceived (longest_answer l.disk) (remaining r) (remaining m.reader) bodies (texts answers.items))) asked.unread
      (subst (λ (d : DiskSizes). IfOk result (λ answers. AreReceived (longest_answer d) (remaining k.reader) (remaining m.reader) bodies (texts answers.items))) asked.disk received) in
      let some : IfErr result (λ fault. (answers : List (List ℕ)) × StopsAfter (longest_answer l.disk) (remaining l.reader) (remaining m.reader) bodies answers fault) =
      subst (λ (r : R). IfErr result (λ fault. (answers : List (List ℕ)) × StopsAfter (longest_answer l.disk) (remaining r) (remaining m.reader) bodies answers fault)) asked.unread
      (subst (λ (d : DiskSizes). IfErr result (λ fault. (answers : List (List ℕ)) × StopsAfter (longest_answer d) (remaining k.reader) (remaining m.reader) bodies answers fault)) asked.disk stops) in
      let carries = carried remaining contents result bodies (longest_answer l.disk) l.reader m.reader l.writer m.writer sent all some in
      (carries.0, a_batch remaining contents l m bodies result carries.0 (sym asked.was_open) closes (same ∙ asked.disk) carries.1)

  -- no messages were sent over a closed connection
  pub closed_ends : (k m : Connection R W) (bodies : List (List ℕ)) (o : BatchOutcome) → true ≡ k.closed → EndsBatch (StreamBatch remaining contents) (StreamAsk contents) bodies k o m
  closed_ends k m bodies o closed l asked = absurd (true≢false (closed ∙ asked.is_open))
