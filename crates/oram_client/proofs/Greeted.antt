-- A host that was asked for the identity of its disk.
use Rattle.std.proofs.Common.{◌≡◌, ℕ, List, [], ◌∷◌, Option, Result, Ok, Err, inl, inr, length, get_or, refl, sym, ap, ◌∙◌, subst, arith}
use Rattle.std.specs.Global.{Vec}
use Rattle.std.specs.Prelude.{IfErr, IfOk}
use Rattle.oram_wire.specs.HostMessages.{payload_answer}
use Rattle.oram_session.specs.declared.link.LinkFault.{LinkFault}
use Rattle.oram_link_laws.specs.Runs.{Exchange}
use Rattle.oram_rounds.specs.Batches.{BatchOutcome, texts}
use Rattle.oram_client.specs.AnswerLengths.{DiskSizes}
use Rattle.oram_client.specs.Dialer.{Destination, IsUngreeted, IsUngreetedOver, SendsGreeting, Shows, greeting, mismatch_trouble, stamps_question}
use Rattle.oram_client.specs.Stamped.{GivesStamps, IsUncompared}
use Rattle.oram_client.specs.BatchExchanges.{streams_are_batches}
use Rattle.oram_stamps.specs.Known.{IsMismatch}
use Rattle.oram_stamps.specs.Stamps.{shown_text}
use Rattle.oram_stamps.specs.declared.known.Mismatch.{Mismatch}
use Rattle.oram_stamps.specs.declared.stamp.Shown.{Shown}
use Rattle.oram_client.specs.StreamBatches.{Connection, StreamBatch, connection}
use Rattle.oram_client.specs.declared.dialer.Trouble.{Trouble}
use Rattle.oram_client.specs.declared.dialer.Trouble.TheVariants.{OutOfReach}

-- the one answer
pub only : (xs : List (Vec ℕ)) (x : Vec ℕ) → length (texts xs) ≡ 1 → x ≡ get_or xs 0 x → texts xs ≡ x.items ∷ []
only [] x one is = cc
only (y ∷ []) x one is = ap (λ (v : Vec ℕ). v.items ∷ []) (sym is)
only (y ∷ (z ∷ xs)) x one is = absurd (omega (arith, one))

module _ {S : Type 0} (remaining contents : S → Option (List ℕ)) where
  -- The host was sent the greeting.
  pub sends_greeting : (reader writer : S) (disk : DiskSizes) (before line : Connection S S) (bodies : List (List ℕ)) (outcome : BatchOutcome) (exchanges : List Exchange)
      → before ≡ connection reader writer disk → bodies ≡ greeting ∷ [] → StreamBatch remaining contents before bodies outcome exchanges line
      → SendsGreeting remaining contents reader writer disk outcome exchanges line
  sends_greeting reader writer disk before line bodies outcome exchanges is greets called =
      subst (λ (b : Connection S S). StreamBatch remaining contents b (greeting ∷ []) outcome exchanges line) is
      (subst (λ (ms : List (List ℕ)). StreamBatch remaining contents before ms outcome exchanges line) greets called)

  -- It gave another answer.
  pub another : (reader writer : S) (disk : DiskSizes) (before line : Connection S S) (bodies : List (List ℕ)) (identity answer : List ℕ) (answers : List (List ℕ)) (exchanges : List Exchange) (trouble : Trouble)
      → before ≡ connection reader writer disk → bodies ≡ greeting ∷ [] → StreamBatch remaining contents before bodies (Ok answers) exchanges line
      → answers ≡ answer ∷ [] → Shows identity answer trouble → IsUngreetedOver remaining contents reader writer disk identity trouble
  another reader writer disk before line bodies identity answer answers exchanges trouble is greets called one shows =
      inr (Ok answers, exchanges, line, sends_greeting reader writer disk before line bodies (Ok answers) exchanges is greets called, (answer, one, shows))

  -- It gave no answer.
  pub none : (reader writer : S) (disk : DiskSizes) (before line : Connection S S) (bodies : List (List ℕ)) (identity : List ℕ) (exchanges : List Exchange) (fault : LinkFault)
      → before ≡ connection reader writer disk → bodies ≡ greeting ∷ [] → StreamBatch remaining contents before bodies (Err fault) exchanges line
      → IsUngreetedOver remaining contents reader writer disk identity (OutOfReach fault)
  none reader writer disk before line bodies identity exchanges fault is greets called =
      inr (Err fault, exchanges, line, sends_greeting reader writer disk before line bodies (Err fault) exchanges is greets called, refl)

  -- The connection may be any.
  pub somewhere : (reader writer : S) (disk : DiskSizes) (identity : List ℕ) (trouble : Trouble) → IsUngreetedOver remaining contents reader writer disk identity trouble
      → IsUngreeted remaining contents disk identity trouble
  somewhere reader writer disk identity trouble shows = inr (reader, writer, shows)

  -- It gave its stamps.
  pub shown_by : (line line' : Connection S S) (key question now : List ℕ) (answers : List (Vec ℕ)) (answer : Vec ℕ) (result : Result Shown Trouble) (exchanges : List Exchange)
      → question ≡ stamps_question → StreamBatch remaining contents line (question ∷ []) (Ok (texts answers)) exchanges line' → answer ≡ get_or answers 0 answer → now ≡ answer.items
      → IfOk result (λ shown. now ≡ payload_answer (shown_text key shown)) → IfOk result (λ shown. GivesStamps remaining contents key line shown line')
  shown_by line line' key question now answers answer (Ok shown) exchanges asks called first reads is =
      let batch = streams_are_batches remaining contents line line' (question ∷ []) (Ok (texts answers)) exchanges called in
      let one : texts answers ≡ payload_answer (shown_text key shown) ∷ [] = only answers answer batch.0 first ∙ ap (λ (l : List ℕ). l ∷ []) (sym reads ∙ is) in
      let asked = subst (λ (q : List ℕ). StreamBatch remaining contents line (q ∷ []) (Ok (texts answers)) exchanges line') asks called in
      (exchanges, subst (λ (all : List (List ℕ)). StreamBatch remaining contents line (stamps_question ∷ []) (Ok all) exchanges line') one asked)
  shown_by line line' key question now answers answer (Err trouble) exchanges asks called first reads is = tt

  -- Its stamps aren't such as it may have.
  pub mismatched : (d e : Destination) (line line' : Connection S S) (shown : Shown) (result : Result Unit Trouble) → GivesStamps remaining contents d.key line shown line'
      → IfErr result (λ trouble. (e ≡ d) × ((why : Mismatch) × IsMismatch d.known shown why × (trouble ≡ mismatch_trouble why)))
      → IfErr result (λ trouble. (e ≡ d) × IsUncompared remaining contents d line trouble)
  mismatched d e line line' shown (Ok u) gives fails = tt
  mismatched d e line line' shown (Err trouble) gives fails = (fails.0, inr (inl (line', shown, fails.1.0, gives, fails.1.1, fails.1.2)))
