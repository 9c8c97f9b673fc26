-- A link over a reader whose bytes are known.
use Rattle.std.proofs.Common.{◌≡◌, ◌⊎◌, ℕ, ◌+◌, ◌-◌, ◌^◌, arith, Bool, true, false, List, [], ◌∷◌, ◌++◌, length, min, take, drop, Option, Some, None, Ok, Err, refl, sym, ap, ◌∙◌, subst, inl, inr}
use Rattle.std.specs.Prelude.{MatchBool, nat_lt}
use Rattle.std.specs.Int.{w32, to_be_bytes}
use Rattle.std.proofs.lemmas.Bool.{lt-ltb}
use Rattle.std.proofs.lemmas.List.{append_assoc, drop_at, take_at}
use Rattle.byteorder.specs.Numbers.{big_number-reads_back}
use Rattle.oram_wire.specs.FrameStream.{IsBody, frame, length_at}
use Rattle.oram_wire.specs.HostMessages.{answer_body}
use Rattle.oram_wire.specs.FrameIo.{GivesFrame}
use Rattle.oram_host.specs.Host.{Host}
use Rattle.oram_session.specs.Honesty.{IsHonestCall}
use Rattle.oram_session.specs.Links.{DirectCall}
use Rattle.oram_session.specs.Outcome.{Outcome, faults_after}
use Rattle.oram_session.specs.Streams.{Asks, Receives, StreamCall, ToStreams, is_closed}
use Rattle.oram_session.specs.declared.link.LinkFault.{LinkFault}
use Rattle.oram_session.specs.declared.link.LinkFault.TheVariants.{Closed}
use Rattle.oram_link_laws.specs.Examples.{AreAnswered, DirectSessionsAreStreamed, known, over_bytes}
use Rattle.oram_link_laws.specs.Runs.{Exchange, HostRun, LinkRun, bodies_of, exchanges_in}
use Rattle.oram_link_laws.specs.Streamed.{StreamedSessionsAreTheArrays, StreamsAreRun, Supplies}
use Rattle.oram_link_laws.proofs.Exchanged.{turns_over, turns_ran}
use Rattle.oram_link_laws.proofs.Paired.{sessions_are_the_arrays_beside}
use Rattle.oram_link_laws.proofs.Ran.{direct_sessions_are_run}

length_at-frame : (body after : List ℕ) → IsBody body → length_at (frame body ++ after) ≡ length body
length_at-frame body after fits = ap length_at (append_assoc (to_be_bytes w32 (length body)) body after) ∙ big_number-reads_back 4 (length body) (body ++ after) (omega arith)

-- bytes begin with only one frame
same_frame : (b c u v : List ℕ) → IsBody b → IsBody c → frame b ++ u ≡ frame c ++ v → (b ≡ c) × (u ≡ v)
same_frame b c u v b_fits c_fits e =
    let count : length b ≡ length c = sym (length_at-frame b u b_fits) ∙ ap length_at e ∙ length_at-frame c v c_fits in
    let left : drop 4 (frame b ++ u) ≡ b ++ u = ap (drop 4) (append_assoc (to_be_bytes w32 (length b)) b u) ∙ drop_at (to_be_bytes w32 (length b)) (b ++ u) 4 refl in
    let right : drop 4 (frame c ++ v) ≡ c ++ v = ap (drop 4) (append_assoc (to_be_bytes w32 (length c)) c v) ∙ drop_at (to_be_bytes w32 (length c)) (c ++ v) 4 refl in
    let behind : b ++ u ≡ c ++ v = sym left ∙ ap (drop 4) e ∙ right in (
      sym (take_at b u (length b) refl) ∙ ap (take (length b)) behind ∙ take_at c v (length b) (sym count),
      sym (drop_at b u (length b) refl) ∙ ap (drop (length b)) behind ∙ drop_at c v (length b) (sym count),
    )

-- if a frame was read and the known bytes begin with a frame, it is that one
taken : (bytes : List ℕ) (new : Option (List ℕ)) (body expected rest : List ℕ) → IsBody expected → bytes ≡ frame expected ++ rest → GivesFrame (Some bytes) new body
    → (body ≡ expected) × (new ≡ Some rest)
taken bytes None body expected rest fits is gives = absurd gives.1
taken bytes (Some left) body expected rest fits is gives =
    let both = same_frame body expected left rest gives.0 fits (sym gives.1 ∙ is) in (both.0, ap (λ (xs : List ℕ). Some xs) both.1)

-- a call with a fault may have left the host as it was
unheard : (host : Host) (body : List ℕ) (o : Outcome) (fault : LinkFault) → o ≡ Err fault → IsHonestCall host body o host
unheard host body o fault e = subst (λ (k : Outcome). IsHonestCall host body k host) (sym e) (inl refl)

one_more_fault : (n : ℕ) → nat_lt 0 (min (n + 1) (2 ^ 64 - 1)) ≡ true
one_more_fault n = lt-ltb 0 (min (n + 1) (2 ^ 64 - 1)) (omega arith)

module _ {R W : Type 0} (remaining : R → Option (List ℕ)) (contents : W → Option (List ℕ)) where
  closed_now : (l m : ToStreams R W) (body : List ℕ) (o : Outcome) (fault : LinkFault) → o ≡ Err fault → StreamCall remaining contents l body o m → is_closed m ≡ true
  closed_now l m body o fault e call =
      ap (nat_lt 0) (call.faults ∙ ap (faults_after l.faults) e) ∙ one_more_fault l.faults

  closed_call : (l m : ToStreams R W) (body : List ℕ) (o : Outcome) → is_closed l ≡ true → StreamCall remaining contents l body o m → o ≡ Err Closed
  closed_call l m body o closed call =
      let P : Bool → Type 0 = λ b. MatchBool b ((o ≡ Err Closed) × (m.reader ≡ l.reader) × (m.writer ≡ l.writer)) (Asks remaining contents l.reader l.writer body o m.reader m.writer) in
      let a = subst P closed call.answer in a.0

  closed_run : (exchanges : List Exchange) (l m : ToStreams R W) (host : Host) → is_closed l ≡ true → LinkRun (StreamCall remaining contents) l exchanges m
      → HostRun host exchanges host
  closed_run [] l m host closed run = refl
  closed_run (e ∷ exchanges) l m host closed run =
      let fault : e.1 ≡ Err Closed = closed_call l run.0 e.0 e.1 closed run.1 in
      (host, unheard host e.0 e.1 Closed fault, closed_run exchanges run.0 m host (closed_now l run.0 e.0 e.1 Closed fault run.1) run.2)

  -- a call had a fault, or read a frame of the known bytes
  abbrev Gave : ToStreams R W → List ℕ → Outcome → Type 0
  Gave m bytes o = ((fault : LinkFault) × (o ≡ Err fault)) ⊎ ((body : List ℕ) × (o ≡ Ok body) × GivesFrame (Some bytes) (remaining m.reader) body)

  received : (m : ToStreams R W) (bytes : List ℕ) (o : Outcome) → Receives (Some bytes) (remaining m.reader) o → Gave m bytes o
  received m bytes (Ok body) r = inr (body, refl, r)
  received m bytes (Err fault) r = inl (fault, refl)

  gave : (l m : ToStreams R W) (body bytes : List ℕ) (o : Outcome) (closed : Bool) → remaining l.reader ≡ Some bytes
      → MatchBool closed ((o ≡ Err Closed) × (m.reader ≡ l.reader) × (m.writer ≡ l.writer)) (Asks remaining contents l.reader l.writer body o m.reader m.writer)
      → Gave m bytes o
  gave l m body bytes o true known a = inl (Closed, a.0)
  gave l m body bytes o false known (inl unsent) = inl (unsent.fault, unsent.outcome_is)
  gave l m body bytes o false known (inr delivered) =
      let P : Option (List ℕ) → Type 0 = λ old. Receives old (remaining m.reader) o in
      received m bytes o (subst P known delivered.read)

  pub streams_are_run : StreamsAreRun remaining contents
  streams_are_run l m [] host bytes known supplies run = (host, refl)
  streams_are_run l m (e ∷ exchanges) host bytes known supplies run =
      elim (gave l run.0 e.0 bytes e.1 (is_closed l) known run.1.answer) [
        | inl failed ↦ (
          host,
          (host, unheard host e.0 e.1 failed.0 failed.1, closed_run exchanges run.0 m host (closed_now l run.0 e.0 e.1 failed.0 failed.1 run.1) run.2),
        )
        | inr given ↦
            let read = taken bytes (remaining run.0.reader) given.0 (answer_body supplies.0) supplies.2 supplies.4 supplies.6 given.2 in
            let rest = streams_are_run run.0 m exchanges supplies.1 supplies.2 read.1 supplies.7 run.2 in
            let call : IsHonestCall host e.0 e.1 supplies.1 =
            subst (λ (k : Outcome). IsHonestCall host e.0 k supplies.1) (sym given.1) (supplies.0, supplies.3, read.0, supplies.5) in
            (rest.0, (supplies.1, call, rest.1))
      ]

  pub streamed_sessions_are_the_arrays : StreamedSessionsAreTheArrays remaining contents
  streamed_sessions_are_the_arrays v words session p q turns host array bytes device held fold known supplies =
      let link = turns_ran (StreamCall remaining contents) v words session turns p q fold in
      let run = streams_are_run p.1 q.1 (exchanges_in turns) host bytes known supplies link in
      let done = sessions_are_the_arrays_beside (StreamCall remaining contents) v words session p q turns host run.0 array device held fold run.1 in
      (run.0, done.0, done.1, done.2)

-- a reader with the frames of a host's answers
record IsStreamed (host : Host) (exchanges : List Exchange) (done : List ℕ) : Type 0 where
  bytes : List ℕ
  written : List ℕ
  supplies : Supplies host (bodies_of exchanges) bytes
  run : LinkRun (StreamCall known known) (over_bytes bytes done) exchanges (over_bytes [] written)

answered_call : (body answer rest done : List ℕ) (o : Outcome) → o ≡ Ok answer → IsBody body → IsBody answer
    → StreamCall known known (over_bytes (frame answer ++ rest) done) body o (over_bytes rest (done ++ frame body))
answered_call body answer rest done o is fits fits_answer =
    let call : StreamCall known known (over_bytes (frame answer ++ rest) done) body (Ok answer) (over_bytes rest (done ++ frame body)) =
    record { faults = refl; answer = inr (record { fits = fits; wrote = refl; read = (fits_answer, refl) }) } in
    subst (λ (k : Outcome). StreamCall known known (over_bytes (frame answer ++ rest) done) body k (over_bytes rest (done ++ frame body))) (sym is) call

streamed : (exchanges : List Exchange) (host after : Host) (done : List ℕ) → HostRun host exchanges after → AreAnswered exchanges → IsStreamed host exchanges done
streamed [] host after done run answered = record { bytes = []; written = done; supplies = tt; run = refl }
streamed (e ∷ exchanges) host after done run answered =
    let a = answered.0 in
    let call : IsHonestCall host e.0 (Ok a.0) run.0 = subst (λ (k : Outcome). IsHonestCall host e.0 k run.0) a.1 run.1 in
    let rest = streamed exchanges run.0 after (done ++ frame e.0) run.2 answered.1 in
    let fits : IsBody (answer_body call.0) = subst IsBody call.2 a.3 in
    let is : e.1 ≡ Ok (answer_body call.0) = a.1 ∙ ap (λ (xs : List ℕ). let k : Outcome = Ok xs in k) call.2 in
    record {
      bytes = frame (answer_body call.0) ++ rest.bytes;
      written = rest.written;
      supplies = (call.0, run.0, rest.bytes, call.1, fits, call.3, refl, rest.supplies);
      run = (over_bytes rest.bytes (done ++ frame e.0), answered_call e.0 (answer_body call.0) rest.bytes done e.1 is a.2 fits, rest.run);
    }

pub direct_sessions_are_streamed : DirectSessionsAreStreamed
direct_sessions_are_streamed v words session p q turns fold answered =
    let s = streamed (exchanges_in turns) p.1.host q.1.host [] (direct_sessions_are_run v words session p q turns fold) answered in (
      s.bytes,
      s.written,
      s.supplies,
      turns_over v DirectCall (StreamCall known known) words session turns p q (over_bytes s.bytes []) (over_bytes [] s.written) fold s.run,
    )
