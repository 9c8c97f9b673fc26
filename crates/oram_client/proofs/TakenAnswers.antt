-- A batch over a connection whose answers are read one by one.
use Rattle.std.proofs.Common.{◌≡◌, ◌||◌, ℕ, ◌-◌, ◌<◌, Bool, true, false, List, [], ◌∷◌, ◌++◌, length, take, drop, Option, Result, Ok, Err, MatchBool, MatchResult, inl, inr, refl, sym, ap, ◌∙◌, subst, arith, length-append}
use Rattle.std.specs.Global.{Vec}
use Rattle.std.specs.List.{flat_map}
use Rattle.std.specs.Prelude.{OnOk}
use Rattle.std.proofs.KnownBytes.{Consumes-kept}
use Rattle.std.specs.Io.KnownBytes.{Keeps}
use Rattle.oram_session.specs.Outcome.{Outcome, outcome_of}
use Rattle.oram_wire.specs.FrameStream.{frame}
use Rattle.oram_session.specs.declared.link.LinkFault.{LinkFault}
use Rattle.oram_link_laws.specs.Repair.{IsAmong}
use Rattle.oram_link_laws.specs.Runs.{Exchange}
use Rattle.oram_rounds.specs.Batches.{BreaksOff, answered}
use Rattle.oram_rounds.specs.Streams.{GivesNext}
use Rattle.oram_rounds.proofs.NextAnswers.{next_fits}
use Rattle.oram_client.specs.AnswerLengths.{DiskSizes, longest_answer}
use Rattle.oram_client.specs.BatchExchanges.{cut_among}
use Rattle.oram_client.specs.StreamBatches.{AreReceived, Carries, Connection, Due, FailsToSendAll, IsClosed, ReceivesWithin, SendsUntil, StreamBatch, Streams, WritesOn, cut_short}
use Rattle.oram_client.proofs.Carried.{a_batch}
use Rattle.oram_client.proofs.Received.{received_both, received_none, received_one}
use Rattle.oram_client.proofs.Writing.{writes_both}

-- the next of the messages

take_more : (bodies answers rest : List (List ℕ)) (body answer : List ℕ) → drop (length answers) bodies ≡ body ∷ rest
    → take (length (answers ++ answer ∷ [])) bodies ≡ take (length answers) bodies ++ body ∷ []
take_more [] [] rest body answer next = absurd cc
take_more [] (a ∷ answers) rest body answer next = absurd cc
take_more (b ∷ bodies) [] rest body answer next = let same : b ≡ body = cc in ap (λ (x : List ℕ). x ∷ []) same
take_more (b ∷ bodies) (a ∷ answers) rest body answer next = ap (λ (bs : List (List ℕ)). b ∷ bs) (take_more bodies answers rest body answer next)

parts_of : (bodies answers rest : List (List ℕ)) (body : List ℕ) → drop (length answers) bodies ≡ body ∷ rest → bodies ≡ take (length answers) bodies ++ body ∷ rest
parts_of [] [] rest body next = absurd cc
parts_of [] (a ∷ answers) rest body next = absurd cc
parts_of (b ∷ bodies) [] rest body next = next
parts_of (b ∷ bodies) (a ∷ answers) rest body next = ap (λ (bs : List (List ℕ)). b ∷ bs) (parts_of bodies answers rest body next)

-- the exchanges of a batch that a fault cut short: those that were answered, and the others
cut_is : (bodies answers : List (List ℕ)) (fault : LinkFault) → cut_short bodies answers fault ≡ answered bodies answers ++ cut_short (drop (length answers) bodies) [] fault
cut_is [] [] fault = refl
cut_is [] (a ∷ answers) fault = refl
cut_is (b ∷ bodies) [] fault = refl
cut_is (b ∷ bodies) (a ∷ answers) fault = ap (λ (es : List Exchange). (b, Ok a) ∷ es) (cut_is bodies answers fault)

among_rest : (bodies answers : List (List ℕ)) (x : List ℕ) → IsAmong x (drop (length answers) bodies) → IsAmong x bodies
among_rest [] [] x k = k
among_rest [] (a ∷ answers) x k = absurd k
among_rest (b ∷ bodies) [] x k = k
among_rest (b ∷ bodies) (a ∷ answers) x k = inr (among_rest bodies answers x k)

pub cut_breaks : (bodies answers : List (List ℕ)) (fault : LinkFault) → BreaksOff bodies answers (cut_short bodies answers fault)
cut_breaks bodies answers fault = (
  [],
  cut_short (drop (length answers) bodies) [] fault,
  tt,
  cut_among bodies (drop (length answers) bodies) [] fault (λ x k. among_rest bodies answers x k),
  cut_is bodies answers fault,
)

nothing_behind : (front rest : List ℕ) → front ++ rest ≡ [] → rest ≡ []
nothing_behind [] rest is = is
nothing_behind (x ∷ front) rest is = absurd cc

module _ {R W : Type 0} (remaining : R → Option (List ℕ)) (contents : W → Option (List ℕ)) where
  -- Messages that couldn't be sent are a batch.
  pub unsent_over : (fault : LinkFault) (l m : Connection R W) (bodies : List (List ℕ)) → false ≡ l.closed → m.closed ≡ true → m.disk ≡ l.disk
      → Keeps (remaining l.reader) (remaining m.reader) → FailsToSendAll contents l.writer bodies fault m.writer
      → (exchanges : List Exchange) × StreamBatch remaining contents l bodies (Err fault) exchanges m
  unsent_over fault l m bodies unclosed closes same unread fails = (
    cut_short bodies [] fault,
    a_batch remaining contents l m bodies (Err fault) (cut_short bodies [] fault) unclosed closes same ([], refl, inl (record { none = refl; wrote = fails; unread = unread })),
  )

  -- the reader had the same bytes to give for a while
  received_kept : (longest : List ℕ → ℕ) (a b c : Option (List ℕ)) (bodies answers : List (List ℕ)) → AreReceived longest a b bodies answers → Keeps b c → AreReceived longest a c bodies answers
  received_kept longest a b c bodies answers r kept = record { count = r.count; read = (r.read.0, Consumes-kept a b c (flat_map frame answers) r.read.1 kept); within = r.within }

  -- whether the connection still takes no other batch
  awaits_more : (closed : Bool) (due : Due) → MatchBool closed (0 < due.left) (due.left ≡ 0) → (due.left ≡ 0 → due.unsent ≡ [])
      → MatchBool closed (0 < due.left) ((due.left ≡ 0) × (due.unsent ≡ []))
  awaits_more true due more last = more
  awaits_more false due none last = (none, last none)

  -- if no message was to be sent, all is written
  none_left : (l m : Connection R W) (bodies : List (List ℕ)) → length bodies ≡ 0 → SendsUntil contents l.writer bodies m.writer m.due.unsent → m.due.unsent ≡ []
  none_left l m [] none sends = nothing_behind sends.wrote.0 m.due.unsent sends.wrote.2
  none_left l m (b ∷ bodies) none sends = absurd (omega (arith, none))

  -- messages whose frames were written, all but some last bytes, and no answer was read
  pub begun_over : (l m : Connection R W) (bodies : List (List ℕ)) → false ≡ l.closed → MatchBool m.closed (0 < m.due.left) (m.due.left ≡ 0) → m.disk ≡ l.disk
      → Keeps (remaining l.reader) (remaining m.reader) → SendsUntil contents l.writer bodies m.writer m.due.unsent → m.due.left ≡ length bodies → Streams remaining contents l bodies [] m
  begun_over l m bodies unclosed closes same unread sends count = record {
    was_open = sym unclosed;
    disk = same;
    sends = sends;
    count = omega (arith, count);
    awaits = awaits_more m.closed m.due closes (λ none. none_left l m bodies (sym count ∙ none) sends);
    received = received_kept (longest_answer l.disk) (remaining l.reader) (remaining l.reader) (remaining m.reader) [] [] (received_none (longest_answer l.disk) (remaining l.reader)) unread;
  }

  -- more of the frames were written
  sends_more : (l k m : Connection R W) (bodies : List (List ℕ)) → SendsUntil contents l.writer bodies k.writer k.due.unsent
      → WritesOn (contents k.writer) (contents m.writer) k.due.unsent m.due.unsent → SendsUntil contents l.writer bodies m.writer m.due.unsent
  sends_more l k m bodies sends more = record {
    fit = sends.fit;
    wrote = writes_both (contents l.writer) (contents k.writer) (contents m.writer) (flat_map frame bodies) k.due.unsent m.due.unsent sends.wrote more;
  }

  -- what is read next: an answer, or a fault that closes the connection
  pub next_read : (result : Result (Vec ℕ) LinkFault) (k m : Connection R W) (body : List ℕ) (mid : Option (List ℕ))
      → MatchResult result (λ bytes. MatchBool m.closed (0 < m.due.left) (m.due.left ≡ 0)) (λ fault. m.closed ≡ true)
      → WritesOn (contents k.writer) (contents m.writer) k.due.unsent m.due.unsent
      → MatchResult result (λ bytes. m.due.left ≡ k.due.left - 1) (λ fault. m.due.left ≡ 0)
      → OnOk result (m.due.left ≡ 0 → m.due.unsent ≡ [])
      → m.disk ≡ k.disk → Keeps (remaining k.reader) mid → ReceivesWithin (longest_answer k.disk body) mid (remaining m.reader) (outcome_of result)
      → GivesNext (StreamBatch remaining contents) (Streams remaining contents) k body (outcome_of result) m
  next_read (Ok answer) k m body mid closes wrote left last same kept read l bodies answers rest s next =
      let longest = longest_answer l.disk in
      let here = subst (λ (d : DiskSizes). ReceivesWithin (longest_answer d body) mid (remaining m.reader) (Ok answer.items)) s.disk read in
      let before : AreReceived longest (remaining l.reader) mid (take (length answers) bodies) answers = received_kept longest (remaining l.reader) (remaining k.reader) mid (take (length answers) bodies) answers s.received kept in
      let more = received_both longest (remaining l.reader) mid (remaining m.reader) (take (length answers) bodies) (body ∷ []) answers (answer.items ∷ [])
      before (received_one longest mid (remaining m.reader) body answer.items here) in
      record {
        was_open = s.was_open;
        disk = same ∙ s.disk;
        sends = sends_more l k m bodies s.sends wrote;
        count = omega (arith, left, s.count, next_fits bodies answers rest body [] next, length-append answers ([] ∷ []), length-append answers (answer.items ∷ []));
        awaits = awaits_more m.closed m.due closes last;
        received = subst (λ (bs : List (List ℕ)). AreReceived longest (remaining l.reader) (remaining m.reader) bs (answers ++ answer.items ∷ []))
            (sym (take_more bodies answers rest body answer.items next)) more;
      }
  next_read (Err fault) k m body mid closes wrote left last same kept read l bodies answers rest s next =
      let here = subst (λ (d : DiskSizes). ReceivesWithin (longest_answer d body) mid (remaining m.reader) (Err fault)) s.disk read in
      let exchanges = cut_short bodies answers fault in (
        exchanges,
        record {
          closed = closes ∙ sym (ap (λ (b : Bool). b || true) s.was_open);
          disk = same ∙ s.disk;
          carried = subst (λ (b : Bool). MatchBool b (IsClosed l (Err fault) exchanges m)
              (Carries remaining contents (longest_answer l.disk) l.reader l.writer bodies (Err fault) exchanges m.reader m.writer)) (sym s.was_open) (
                answers,
                refl,
                inr (record {
                  unsent = m.due.unsent;
                  sends = sends_more l k m bodies s.sends wrote;
                  stops = record {
                    first = take (length answers) bodies;
                    next = body;
                    others = rest;
                    all = parts_of bodies answers rest body next;
                    mid = mid;
                    received = received_kept (longest_answer l.disk) (remaining l.reader) (remaining k.reader) mid (take (length answers) bodies) answers s.received kept;
                    stop = inl here;
                  };
                }),
              );
        },
        cut_breaks bodies answers fault,
      )

  -- no answer is due, so none is asked for
  pub none_due : (k : Connection R W) (body : List ℕ) (o : Outcome) (m : Connection R W) → k.due.left ≡ 0 → GivesNext (StreamBatch remaining contents) (Streams remaining contents) k body o m
  none_due k body o m none l bodies answers rest s next =
      absurd (omega (arith, none, s.count, next_fits bodies answers rest body [] next, length-append answers ([] ∷ [])))
