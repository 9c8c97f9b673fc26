-- A batch between its stamps, whose two exchanges are left out.
use Rattle.std.proofs.Common.{◌≡◌, ◌⊎◌, ◌∙◌, ℕ, ◌<◌, ◌≤◌, List, [], ◌∷◌, ◌++◌, length, Option, Result, Ok, Err, inl, inr, refl, sym, ap, subst, arith, append_assoc, length-append}
use Rattle.oram_session.specs.declared.link.LinkFault.{LinkFault}
use Rattle.oram_link_laws.specs.Repair.{AreAmong, IsAmong}
use Rattle.oram_link_laws.specs.Runs.{Exchange, bodies_of}
use Rattle.oram_rounds.specs.Batches.{BatchOutcome, BreaksOff, IsBatch, answered, batch_outcome_of}
use Rattle.oram_rounds.proofs.NextAnswers.{answered_none}
use Rattle.oram_rounds.proofs.Sent.{answered_among}
use Rattle.std.specs.Global.{Vec}
use Rattle.std.specs.Prelude.{IfOk}
use Rattle.std.proofs.lemmas.List.{length-map}
use Rattle.oram_client.specs.Attempts.{Attempt, link_outcome}
use Rattle.oram_client.specs.BatchExchanges.{among_both, batch_among, streams_are_batches}
use Rattle.oram_client.specs.Dialer.{Destination, fault_of}
use Rattle.oram_client.specs.StampMessages.{stamp_put}
use Rattle.oram_client.specs.Stamped.{CarriesStamped, ComesTo, IsStampPut, LeavesOut, between}
use Rattle.oram_client.specs.StreamBatches.{Connection, StreamBatch}
use Rattle.oram_client.proofs.Frames.{among_left, among_right}
use Rattle.oram_stamps.specs.Known.{IsSent, Stamps, next_stamp}
use Rattle.oram_stamps.specs.Stamps.{record_text}
use Rattle.oram_stamps.specs.declared.stamp.Place.TheVariants.{Begun, Done}

leaves_all : (heard : List Exchange) → LeavesOut heard heard
leaves_all [] = refl
leaves_all (e ∷ heard) = inr (heard, refl, leaves_all heard)

leaves_both : (first second one two : List Exchange) → LeavesOut first one → LeavesOut second two → LeavesOut (first ++ second) (one ++ two)
leaves_both [] second one two none left = subst (λ (es : List Exchange). LeavesOut second (es ++ two)) (sym none) left
leaves_both (e ∷ first) second one two (inl (put, more)) left = inl (put, leaves_both first second one two more left)
leaves_both (e ∷ first) second one two (inr (rest, is, more)) left = inr (rest ++ two, ap (λ (es : List Exchange). es ++ two) is, leaves_both first second rest two more left)

-- a message behind the first one is that which puts the stamp as done, or another one
which : (done : List ℕ) (bodies : List (List ℕ)) (x : List ℕ) → IsAmong x (bodies ++ done ∷ []) → (x ≡ done) ⊎ IsAmong x bodies
which done [] x (inl same) = inl same
which done [] x (inr none) = absurd none
which done (b ∷ bodies) x (inl same) = inr (inl same)
which done (b ∷ bodies) x (inr later) = elim (which done bodies x later) [ inl same ↦ inl same | inr among ↦ inr (inr among) ]

-- the exchanges without those that put a stamp, whatever their outcomes
record Left (heard : List Exchange) (bodies : List (List ℕ)) : Type 0 where
  exchanges : List Exchange
  left : LeavesOut heard exchanges
  among : AreAmong (bodies_of exchanges) bodies

module _ (begun done : List ℕ) (bodies : List (List ℕ)) (put_begun : IsStampPut begun) (put_done : IsStampPut done) where
  abbrev All : List (List ℕ)
  All = between begun bodies done

  one_left : (e : Exchange) (heard : List Exchange) → IsAmong e.0 All → Left heard bodies → Left (e ∷ heard) bodies
  one_left e heard (inl same) rest = record {
    exchanges = rest.exchanges;
    left = inl (subst IsStampPut (sym same) put_begun, rest.left);
    among = rest.among;
  }
  one_left e heard (inr later) rest =
      elim (which done bodies e.0 later) [
        | inl same ↦ record { exchanges = rest.exchanges; left = inl (subst IsStampPut (sym same) put_done, rest.left); among = rest.among }
        | inr among ↦ record { exchanges = e ∷ rest.exchanges; left = inr (rest.exchanges, refl, rest.left); among = (among, rest.among) }
      ]

  some_left : (heard : List Exchange) → AreAmong (bodies_of heard) All → Left heard bodies
  some_left [] among = record { exchanges = []; left = refl; among = tt }
  some_left (e ∷ heard) among = one_left e heard among.0 (some_left heard among.1)

  -- a batch without answers for its caller
  pub none_answered : (outcome : BatchOutcome) (fault : LinkFault) (heard : List Exchange) → IsBatch All outcome heard
      → (exchanges : List Exchange) × LeavesOut heard exchanges × IsBatch bodies (Err fault) exchanges
  none_answered outcome fault heard batch =
      let left = some_left heard (batch_among All outcome heard batch) in
      (left.exchanges, left.left, left.among)

  -- the answers that are left
  rest_answered : (d : List ℕ) (sent given : List (List ℕ)) → length given ≡ length sent → LeavesOut (answered (sent ++ done ∷ []) (given ++ d ∷ [])) (answered sent given)
  rest_answered d [] [] count = inl (put_done, refl)
  rest_answered d [] (o ∷ given) count = absurd (omega (arith, count))
  rest_answered d (b ∷ sent) [] count = absurd (omega (arith, count))
  rest_answered d (b ∷ sent) (o ∷ given) count = inr (answered sent given, refl, rest_answered d sent given (omega (arith, count)))

  -- a batch with answers
  pub all_answered : (b d : List ℕ) (given : List (List ℕ)) (heard : List Exchange) → IsBatch All (Ok (b ∷ (given ++ d ∷ []))) heard
      → (exchanges : List Exchange) × LeavesOut heard exchanges × IsBatch bodies (Ok given) exchanges
  all_answered b d given heard batch =
      let count : length given ≡ length bodies = omega (arith, batch.0, length-append given (d ∷ []), length-append bodies (done ∷ [])) in
      let tries = some_left batch.1 batch.2 in
      let rest : LeavesOut (answered All (b ∷ (given ++ d ∷ []))) (answered bodies given) = inl (put_begun, rest_answered d bodies given count) in
      let left : LeavesOut (batch.1 ++ answered All (b ∷ (given ++ d ∷ []))) (tries.exchanges ++ answered bodies given) =
      leaves_both batch.1 (answered All (b ∷ (given ++ d ∷ []))) tries.exchanges (answered bodies given) tries.left rest in (
        tries.exchanges ++ answered bodies given,
        subst (λ (es : List Exchange). LeavesOut es (tries.exchanges ++ answered bodies given)) (sym batch.3) left,
        (count, tries.exchanges, tries.among, refl),
      )

  -- what is left of a batch's exchanges, once it broke off after these answers to its own messages
  abbrev pub Parted : List (List ℕ) → List Exchange → Type 0
  Parted answers heard = (exchanges : List Exchange) × LeavesOut heard exchanges × BreaksOff bodies answers exchanges

  -- none of them has an answer
  pub parted_early : (heard : List Exchange) → AreAmong (bodies_of heard) All → Parted [] heard
  parted_early heard among =
      let left = some_left heard among in
      (left.exchanges, left.left, ([], left.exchanges, tt, left.among, sym (ap (λ (es : List Exchange). es ++ left.exchanges) (answered_none bodies))))

  -- the exchanges of the first answers, and those behind them
  behind : (bs answers more : List (List ℕ)) → length answers ≤ length bs → ((x : List ℕ) → IsAmong x bs → IsAmong x bodies)
      → (rest : List Exchange) × (answered (bs ++ done ∷ []) (answers ++ more) ≡ answered bs answers ++ rest) × AreAmong (bodies_of rest) All
  behind bs [] more few inside = (
    answered (bs ++ done ∷ []) more,
    sym (ap (λ (es : List Exchange). es ++ answered (bs ++ done ∷ []) more) (answered_none bs)),
    answered_among (bs ++ done ∷ []) more All (λ x k. elim (which done bs x k) [
      | inl same ↦ inr (among_right bodies (done ∷ []) x (inl same))
      | inr among ↦ inr (among_left bodies (done ∷ []) x (inside x among))
    ]),
  )
  behind [] (a ∷ answers) more few inside = absurd (omega (arith, few))
  behind (b ∷ bs) (a ∷ answers) more few inside =
      let rest = behind bs answers more (omega (arith, few)) (λ x k. inside x (inr k)) in
      (rest.0, ap (λ (es : List Exchange). (b, Ok a) ∷ es) rest.1, rest.2)

  -- The first message, which puts the stamp as begun, has this answer, and the first of the others have these. Some more may have come.
  pub parted_later : (b : List ℕ) (answers more : List (List ℕ)) (tries after heard : List Exchange) → length answers ≤ length bodies → AreAmong (bodies_of tries) All
      → AreAmong (bodies_of after) All → heard ≡ tries ++ answered All (b ∷ (answers ++ more)) ++ after → Parted answers heard
  parted_later b answers more tries after heard few one two is =
      let own = answered bodies answers in
      let rest = behind bodies answers more few (λ x k. k) in
      let before = some_left tries one in
      let later = some_left (rest.0 ++ after) (among_both All rest.0 after rest.2 two) in
      let front = tries ++ ((begun, Ok b) ∷ own) in
      let whole : heard ≡ front ++ (rest.0 ++ after) =
      is ∙ ap (λ (es : List Exchange). (tries ++ ((begun, Ok b) ∷ es)) ++ after) rest.1 ∙ ap (λ (es : List Exchange). es ++ after) (sym (append_assoc tries ((begun, Ok b) ∷ own) rest.0))
      ∙ append_assoc front rest.0 after in (
        (before.exchanges ++ own) ++ later.exchanges,
        subst (λ (es : List Exchange). LeavesOut es ((before.exchanges ++ own) ++ later.exchanges)) (sym whole)
            (leaves_both front (rest.0 ++ after) (before.exchanges ++ own) later.exchanges
            (leaves_both tries ((begun, Ok b) ∷ own) before.exchanges own before.left (inl (put_begun, leaves_all own))) later.left),
        (before.exchanges, later.exchanges, before.among, later.among, refl),
      )

  -- the messages of a batch that broke off
  pub off_among : (answers : List (List ℕ)) (exchanges : List Exchange) → BreaksOff bodies answers exchanges → AreAmong (bodies_of exchanges) bodies
  off_among answers exchanges off =
      subst (λ (es : List Exchange). AreAmong (bodies_of es) bodies) (sym off.4) (among_both bodies (off.0 ++ answered bodies answers) off.1
      (among_both bodies off.0 (answered bodies answers) off.2 (answered_among bodies answers bodies (λ x k. k))) off.3)

-- all answers of such a batch
pub long_enough : (outcome : Result (Vec (Vec ℕ)) LinkFault) (begun done : List ℕ) (bodies : List (List ℕ)) (heard : List Exchange)
    → IsBatch (between begun bodies done) (batch_outcome_of outcome) heard → IfOk outcome (λ answers. 1 < length answers.items)
long_enough (Ok answers) begun done bodies heard batch =
    omega (arith, batch.0, length-map answers.items (λ (v : Vec ℕ). v.items), length-append bodies (done ∷ []))
long_enough (Err fault) begun done bodies heard batch = tt

module _ {S : Type 0} (remaining contents : S → Option (List ℕ)) where
  abbrev Way : Type 0
  Way = Connection S S

  module _ (d e : Destination) (known : Stamps) (line line' : Way) (bodies : List (List ℕ)) (sent : IsSent d.known known) where
    abbrev begun_put : List ℕ
    begun_put = stamp_put d.key Begun (next_stamp d.known)

    abbrev done_put : List ℕ
    done_put = stamp_put d.key Done (next_stamp d.known)

    put_begun : IsStampPut begun_put
    put_begun = (0, record_text d.key Begun (next_stamp d.known), omega arith, refl)

    put_done : IsStampPut done_put
    put_done = (1, record_text d.key Done (next_stamp d.known), omega arith, refl)

    abbrev Carried : Attempt → Type 0
    Carried came = (exchanges : List Exchange) × CarriesStamped remaining contents d line bodies came exchanges e line'

    made : (outcome : BatchOutcome) (came : Attempt) (heard exchanges : List Exchange) → StreamBatch remaining contents line (between begun_put bodies done_put) outcome heard line'
        → ComesTo d known outcome came e → LeavesOut heard exchanges → IsBatch bodies (link_outcome came) exchanges → Carried came
    made outcome came heard exchanges batch comes left is =
        (exchanges, inr (inr (inl (record { known = known; sent = sent; outcome = outcome; heard = heard; batch = batch; comes = comes; left = left; is_batch = is }))))

    with_answers : (answers : List (List ℕ)) (came : Attempt) (heard : List Exchange) → StreamBatch remaining contents line (between begun_put bodies done_put) (Ok answers) heard line'
        → ComesTo d known (Ok answers) came e → IsBatch (between begun_put bodies done_put) (Ok answers) heard → Carried came
    with_answers answers (Ok given) heard batch comes is =
        let t = comes.1 in
        let here : IsBatch (between begun_put bodies done_put) (Ok (t.begun ∷ (comes.0 ++ t.done ∷ []))) heard =
        subst (λ (as' : List (List ℕ)). IsBatch (between begun_put bodies done_put) (Ok as') heard) t.all is in
        let left = all_answered begun_put done_put bodies put_begun put_done t.begun t.done comes.0 heard here in
        made (Ok answers) (Ok given) heard left.0 batch comes left.1 (subst (λ (as' : List (List ℕ)). IsBatch bodies (Ok as') left.0) (sym comes.2.0) left.2)
    with_answers answers (Err trouble) heard batch comes is =
        let left = none_answered begun_put done_put bodies put_begun put_done (Ok answers) (fault_of trouble) heard is in
        made (Ok answers) (Err trouble) heard left.0 batch comes left.1 left.2

    pub carried_between : (outcome : BatchOutcome) (came : Attempt) (heard : List Exchange) → StreamBatch remaining contents line (between begun_put bodies done_put) outcome heard line'
        → ComesTo d known outcome came e → Carried came
    carried_between (Ok answers) came heard batch comes =
        with_answers answers came heard batch comes (streams_are_batches remaining contents line line' (between begun_put bodies done_put) (Ok answers) heard batch)
    carried_between (Err fault) came heard batch comes =
        let is : IsBatch (between begun_put bodies done_put) (Err fault) heard = streams_are_batches remaining contents line line' (between begun_put bodies done_put) (Err fault) heard batch in
        let left = none_answered begun_put done_put bodies put_begun put_done (Err fault) fault heard is in
        made (Err fault) came heard left.0 batch comes left.1 (subst (λ (c : Attempt). IsBatch bodies (link_outcome c) left.0) (sym comes.0) left.2)

  -- the same, for messages that are those that put the stamp
  pub carried_so : (d e : Destination) (known : Stamps) (line line' : Way) (bodies : List (List ℕ)) (begun done : List ℕ) (outcome : BatchOutcome) (came : Attempt) (heard : List Exchange)
      → begun ≡ stamp_put d.key Begun (next_stamp d.known) → done ≡ stamp_put d.key Done (next_stamp d.known) → IsSent d.known known
      → StreamBatch remaining contents line (between begun bodies done) outcome heard line' → ComesTo d known outcome came e
      → (exchanges : List Exchange) × CarriesStamped remaining contents d line bodies came exchanges e line'
  carried_so d e known line line' bodies begun done outcome came heard begun_is done_is sent batch comes =
      carried_between d e known line line' bodies sent outcome came heard
      (subst (λ (b : List ℕ). StreamBatch remaining contents line (between b bodies (stamp_put d.key Done (next_stamp d.known))) outcome heard line') begun_is
      (subst (λ (b : List ℕ). StreamBatch remaining contents line (between begun bodies b) outcome heard line') done_is batch)) comes

-- the stamps around the messages of two lists
pub around : (begun done : List ℕ) (first last : List (List ℕ)) → ((begun ∷ []) ++ first) ++ (last ++ (done ∷ [])) ≡ between begun (first ++ last) done
around begun done first last = ap (λ (rest : List (List ℕ)). begun ∷ rest) (sym (append_assoc first last (done ∷ [])))
