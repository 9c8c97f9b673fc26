-- The exchanges of a batch over a connection, and those of a batch over a link that tries until its host answers, are such as
-- `IsBatch` allows.
use Rattle.std.proofs.Common.{◌≡◌, ◌≤◌, ◌||◌, ℕ, Bool, true, false, List, [], ◌∷◌, ◌++◌, length, take, take_all, ◌<◌, Option, None, Some, Ok, Err, MatchOption, inl, inr, refl, sym, ap, ◌∙◌, subst, append_assoc, append-nil, arith}
use Rattle.std.specs.List.{FoldsTo, flat_map}
use Rattle.std.specs.Prelude.{MatchBool}
use Rattle.std.specs.Io.KnownBytes.{Appends}
use Rattle.oram_wire.specs.FrameStream.{frame}
use Rattle.std.proofs.Math.Nat.{le_refl}
use Rattle.oram_rounds.specs.Streams.{EndsAsBatch}
use Rattle.oram_session.specs.declared.link.LinkFault.{LinkFault}
use Rattle.oram_link_laws.specs.Repair.{AreAmong, IsAmong}
use Rattle.oram_link_laws.specs.Runs.{Exchange, bodies_of}
use Rattle.oram_rounds.specs.Batches.{BatchOutcome, IsBatch, SendsNothing, answered}
use Rattle.oram_client.specs.Attempts.{Attempt, DialersAreBatches, link_outcome}
use Rattle.oram_session.specs.declared.link.LinkFault.TheVariants.{Closed}
use Rattle.oram_client.specs.Dialer.{fault_of}
use Rattle.oram_client.specs.declared.dialer.Limits.{Limits}
use Rattle.oram_client.specs.declared.dialer.Trouble.{Trouble}
use Rattle.oram_client.specs.Reconnect.{DialerKind, IsDelayed, IsGivenUp, IsTried, LinkBatch, LinkLearns, MakesTries, NextTry, ReconnectBatch, ReconnectState, SentBatch, VainTry}
use Rattle.oram_client.specs.AnswerLengths.{longest_answer}
use Rattle.oram_client.specs.StreamBatches.{AreReceived, AreSent, Carries, Connection, Due, IsClosed, SendsUntil, StreamBatch, Streams, cut_short}

-- if the messages of two lists of exchanges are among these bodies, so are those of both lists together
pub among_both : (bodies : List (List ℕ)) (first second : List Exchange) → AreAmong (bodies_of first) bodies → AreAmong (bodies_of second) bodies
    → AreAmong (bodies_of (first ++ second)) bodies
among_both bodies [] second one two = two
among_both bodies (e ∷ first) second one two = (one.0, among_both bodies first second one.1 two)

answered_among : (all bodies answers : List (List ℕ)) → ((x : List ℕ) → IsAmong x bodies → IsAmong x all) → AreAmong (bodies_of (answered bodies answers)) all
answered_among all [] answers inside = tt
answered_among all (b ∷ bodies) [] inside = tt
answered_among all (b ∷ bodies) (a ∷ answers) inside = (inside b (inl refl), answered_among all bodies answers (λ x k. inside x (inr k)))

pub cut_among : (all bodies answers : List (List ℕ)) (fault : LinkFault) → ((x : List ℕ) → IsAmong x bodies → IsAmong x all)
    → AreAmong (bodies_of (cut_short bodies answers fault)) all
cut_among all [] answers fault inside = tt
cut_among all (b ∷ bodies) [] fault inside = (inside b (inl refl), cut_among all bodies [] fault (λ x k. inside x (inr k)))
cut_among all (b ∷ bodies) (a ∷ answers) fault inside = (inside b (inl refl), cut_among all bodies answers fault (λ x k. inside x (inr k)))

-- each message in a batch's exchanges is one of the batch's messages
pub batch_among : (bodies : List (List ℕ)) (o : BatchOutcome) (exchanges : List Exchange) → IsBatch bodies o exchanges → AreAmong (bodies_of exchanges) bodies
batch_among bodies (Ok answers) exchanges h =
    subst (λ (es : List Exchange). AreAmong (bodies_of es) bodies) (sym h.3)
    (among_both bodies h.1 (answered bodies answers) h.2 (answered_among bodies bodies answers (λ x k. k)))
batch_among bodies (Err fault) exchanges h = h

-- All was written, and nothing is left of it.

pub sends_all : {W : Type 0} (contents : W → Option (List ℕ)) (writer writer' : W) (bodies : List (List ℕ)) → AreSent contents writer bodies writer' → SendsUntil contents writer bodies writer' []
sends_all contents writer writer' bodies sent = record { fit = sent.fit; wrote = (flat_map frame bodies, sent.wrote, append-nil (flat_map frame bodies)) }

sent_all : {W : Type 0} (contents : W → Option (List ℕ)) (writer writer' : W) (bodies : List (List ℕ)) → SendsUntil contents writer bodies writer' [] → AreSent contents writer bodies writer'
sent_all contents writer writer' bodies sends =
    let all : sends.wrote.0 ≡ flat_map frame bodies = sym (append-nil sends.wrote.0) ∙ sends.wrote.2 in
    record { fit = sends.fit; wrote = subst (Appends (contents writer) (contents writer')) all sends.wrote.1 }

-- once no answer is to come, the connection takes another batch
all_over : (closed : Bool) (due : Due) → due.left ≡ 0 → MatchBool closed (0 < due.left) ((due.left ≡ 0) × (due.unsent ≡ [])) → (closed ≡ false) × (due.unsent ≡ [])
all_over true due none more = absurd (omega (arith, none, more))
all_over false due none over = (refl, over.1)

-- a fault, and exchanges with these messages
faulty : (bodies : List (List ℕ)) (o : BatchOutcome) (fault : LinkFault) (exchanges heard : List Exchange) → o ≡ Err fault → exchanges ≡ heard
    → AreAmong (bodies_of heard) bodies → IsBatch bodies o exchanges
faulty bodies o fault exchanges heard says all among =
    subst (λ (k : BatchOutcome). IsBatch bodies k exchanges) (sym says) (subst (λ (es : List Exchange). AreAmong (bodies_of es) bodies) (sym all) among)

module _ {R W : Type 0} (remaining : R → Option (List ℕ)) (contents : W → Option (List ℕ)) where
  carried : (closed : Bool) (l m : Connection R W) (bodies : List (List ℕ)) (o : BatchOutcome) (exchanges : List Exchange)
      → MatchBool closed (IsClosed l o exchanges m) (Carries remaining contents (longest_answer l.disk) l.reader l.writer bodies o exchanges m.reader m.writer) → IsBatch bodies o exchanges
  carried true l m bodies o exchanges h = faulty bodies o Closed exchanges [] h.says h.none tt
  carried false l m bodies (Ok answers) exchanges h = (h.0.received.count, [], tt, h.1)
  carried false l m bodies (Err fault) exchanges h =
      faulty bodies (Err fault) fault exchanges (cut_short bodies h.0 fault) refl h.1 (cut_among bodies bodies h.0 fault (λ x k. k))

  -- A batch over a connection has exchanges such as `IsBatch` allows.
  pub streams_are_batches : (l m : Connection R W) (bodies : List (List ℕ)) (o : BatchOutcome) (exchanges : List Exchange)
      → StreamBatch remaining contents l bodies o exchanges m → IsBatch bodies o exchanges
  streams_are_batches l m bodies o exchanges h = carried l.closed l m bodies o exchanges h.carried

  -- Once all answers were read one by one, the whole was a batch with these answers: nothing is left to be written.
  pub streams_end : EndsAsBatch (StreamBatch remaining contents) (Streams remaining contents)
  streams_end l m bodies answers h count =
      let all : take (length answers) bodies ≡ bodies = take_all (length answers) bodies (subst (λ (n : ℕ). n ≤ length answers) count (le_refl (length answers))) in
      let received = subst (λ (bs : List (List ℕ)). AreReceived (longest_answer l.disk) (remaining l.reader) (remaining m.reader) bs answers) all h.received in
      let over = all_over m.closed m.due (omega (arith, h.count, count)) h.awaits in (
        answered bodies answers,
        record {
          closed = over.0 ∙ sym (ap (λ (b : Bool). b || false) h.was_open);
          disk = h.disk;
          carried = subst (λ (b : Bool). MatchBool b (IsClosed l (Ok answers) (answered bodies answers) m)
              (Carries remaining contents (longest_answer l.disk) l.reader l.writer bodies (Ok answers) (answered bodies answers) m.reader m.writer))
              (sym h.was_open) (record { sent = sent_all contents l.writer m.writer bodies (subst (λ (u : List ℕ). SendsUntil contents l.writer bodies m.writer u) over.1 h.sends); received = received }, refl);
        },
      )

module _ {D L : Type 0} (kind : DialerKind D L) (law : DialersAreBatches kind.carries) where
  tried_among : (dialer dialer' : D) (line line' : Option L) (limits : Limits) (bodies : List (List ℕ)) (came : Attempt) (exchanges : List Exchange)
      → IsTried kind.opens kind.fails kind.carries dialer line limits bodies came exchanges dialer' line' → AreAmong (bodies_of exchanges) bodies
  tried_among dialer dialer' line line' limits bodies came exchanges (inl unopened) =
      subst (λ (es : List Exchange). AreAmong (bodies_of es) bodies) (sym unopened.unsent) tt
  tried_among dialer dialer' line line' limits bodies came exchanges (inr called) =
      batch_among bodies (link_outcome came) exchanges (law called.mid dialer' called.way called.way' bodies came exchanges called.called)

  -- the messages of all tries that failed
  pub vain_among : (reconnect_timeout : ℕ) (begin : Option ℕ) (bodies : List (List ℕ)) (w x : NextTry D L) (vain : List VainTry)
      → FoldsTo (IsDelayed kind reconnect_timeout begin bodies) w vain x → AreAmong (bodies_of (flat_map (λ v. v.exchanges) vain)) bodies
  vain_among reconnect_timeout begin bodies w x [] folds = tt
  vain_among reconnect_timeout begin bodies w x (v ∷ vain) folds =
      let one = folds.1 in
      among_both bodies v.exchanges (flat_map (λ (u : VainTry). u.exchanges) vain)
      (tried_among w.dialer one.mid w.line folds.0.line _ bodies one.came v.exchanges one.tried)
      (vain_among reconnect_timeout begin bodies folds.0 x vain folds.2)

  -- the last try, after tries that failed with these exchanges
  last_try : (bodies : List (List ℕ)) (o : BatchOutcome) (came : Attempt) (before heard exchanges : List Exchange) → AreAmong (bodies_of before) bodies → IsBatch bodies (link_outcome came) heard
      → o ≡ link_outcome came → exchanges ≡ before ++ heard → IsBatch bodies o exchanges
  last_try bodies o (Ok answers) before heard exchanges among batch says all =
      subst (λ (k : BatchOutcome). IsBatch bodies k exchanges) (sym says) (
        batch.0,
        before ++ batch.1,
        among_both bodies before batch.1 among batch.2,
        all ∙ ap (λ (es : List Exchange). before ++ es) batch.3 ∙ sym (append_assoc before batch.1 (answered bodies answers)),
      )
  last_try bodies o (Err trouble) before heard exchanges among batch says all =
      faulty bodies o (fault_of trouble) exchanges (before ++ heard) says all (among_both bodies before heard among batch)

  made : (l m : ReconnectState D L) (bodies : List (List ℕ)) (o : BatchOutcome) (exchanges : List Exchange)
      → MakesTries kind l bodies o exchanges m → IsBatch bodies o exchanges
  made l m bodies o exchanges h =
      let before = flat_map (λ (v : VainTry). v.exchanges) h.vain in
      let among : AreAmong (bodies_of before) bodies = vain_among l.reconnect_timeout h.begin bodies _ h.last h.vain h.delays in
      elim h.tried [
        | inl unopened ↦
            faulty bodies o (fault_of unopened.why) exchanges (before ++ h.heard) (h.says ∙ ap link_outcome unopened.says) h.all
            (among_both bodies before h.heard among (subst (λ (es : List Exchange). AreAmong (bodies_of es) bodies) (sym unopened.unsent) tt))
        | inr called ↦
            last_try bodies o h.came before h.heard exchanges among (law called.mid h.mid called.way called.way' bodies h.came h.heard called.called) h.says h.all
      ]

  passed : (gave_up : Option Trouble) (l m : ReconnectState D L) (bodies : List (List ℕ)) (o : BatchOutcome) (exchanges : List Exchange)
      → MatchOption gave_up (MakesTries kind l bodies o exchanges m) (λ why. IsGivenUp kind l o exchanges m)
      → IsBatch bodies o exchanges
  passed None l m bodies o exchanges h = made l m bodies o exchanges h
  passed (Some why) l m bodies o exchanges h = faulty bodies o Closed exchanges [] h.says h.unsent tt

  -- So has a batch over a link that tries again: the exchanges of its earlier tries may have any outcomes.
  pub reconnects_are_batches : (l m : ReconnectState D L) (bodies : List (List ℕ)) (o : BatchOutcome) (exchanges : List Exchange)
      → ReconnectBatch kind l bodies o exchanges m → IsBatch bodies o exchanges
  reconnects_are_batches l m bodies o exchanges h = passed l.trouble l m bodies o exchanges h.passed

  -- So has a batch whose answers are taken one by one, which is one try.
  pub sent_are_batches : (l m : ReconnectState D L) (bodies : List (List ℕ)) (o : BatchOutcome) (exchanges : List Exchange)
      → SentBatch kind l bodies o exchanges m → IsBatch bodies o exchanges
  sent_are_batches l m bodies o exchanges (inl h) = reconnects_are_batches l m bodies o exchanges h
  sent_are_batches l m bodies o exchanges (inr h) =
      subst (λ (k : BatchOutcome). IsBatch bodies k exchanges) (sym h.says) (law l.dialer m.dialer h.line h.line' bodies h.came exchanges h.called)

  -- A link that learns that its process was kept has no exchanges.
  pub links_are_batches : (learns : D → ℕ → D → Type 0) (l m : ReconnectState D L) (bodies : List (List ℕ)) (o : BatchOutcome) (exchanges : List Exchange)
      → LinkBatch kind learns l bodies o exchanges m → IsBatch bodies o exchanges
  links_are_batches learns l m bodies o exchanges (inl h) = sent_are_batches l m bodies o exchanges h
  links_are_batches learns l m bodies o exchanges (inr h) =
      subst (λ (k : BatchOutcome). IsBatch bodies k exchanges) (sym h.no_answers)
      (subst (λ (bs : List (List ℕ)). IsBatch bs (Ok []) exchanges) (sym h.no_bodies) (refl, [], tt, h.unsent))

-- What a link does when it learns that its process was kept is a batch of no messages.
pub learnt_nothing_sent : {D L : Type 0} (kind : DialerKind D L) (learns : D → ℕ → D → Type 0) (l m : ReconnectState D L) (check : ℕ) → LinkLearns learns l check m → SendsNothing (LinkBatch kind learns) l m
learnt_nothing_sent kind learns l m check learnt = inr (inr (record { no_bodies = refl; no_answers = refl; unsent = refl; check = check; learnt = learnt }))
