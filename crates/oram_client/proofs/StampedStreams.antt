-- A batch whose answers are taken one by one, over a dialer that puts a stamp with it.
use Rattle.std.proofs.Common.{◌≡◌, ◌≢◌, ◌⊎◌, ℕ, zero, suc, ◌+◌, ◌<◌, ◌≤◌, Bool, true, false, List, [], ◌∷◌, ◌++◌, length, drop, Option, None, Some, Result, Ok, Err, MatchBool, MatchOption, MatchResult, inl, inr, refl, sym, ap, ◌∙◌, subst, arith, append_assoc, append-nil, length-append}
use Rattle.std.specs.Prelude.{IsOk}
use Rattle.std.specs.Global.{Vec}
use Rattle.std.proofs.lemmas.Bool.{true≢false}
use Rattle.std.proofs.lemmas.List.{drop_at}
use Rattle.oram_session.specs.Outcome.{Outcome}
use Rattle.oram_session.specs.declared.link.LinkFault.{LinkFault}
use Rattle.oram_session.specs.declared.link.LinkFault.TheVariants.{Closed}
use Rattle.oram_link_laws.specs.Repair.{IsAmong}
use Rattle.oram_link_laws.specs.Runs.{Exchange}
use Rattle.oram_rounds.specs.Batches.{BatchOutcome, BreaksOff, answered}
use Rattle.oram_rounds.proofs.NextAnswers.{next_fits}
use Rattle.oram_stamps.specs.Known.{IsSent, Stamps, next_stamp}
use Rattle.oram_stamps.specs.Known as stamps
use Rattle.oram_stamps.specs.Stamps.{record_text}
use Rattle.oram_stamps.specs.declared.stamp.Place.TheVariants.{Begun, Done}
use Rattle.oram_wire.specs.HostMessages.{done_answer, no_room_answer}
use Rattle.oram_client.specs.BatchExchanges.{batch_among, streams_are_batches, streams_end}
use Rattle.oram_client.specs.Dialer.{Destination}
use Rattle.oram_client.specs.StampMessages.{stamp_put}
use Rattle.oram_client.specs.Stamped.{ArePutFor, CarriesStamped, ComesTo, IsBetween, IsLearnt, IsPutFor, IsStampPut, between, with_known}
use Rattle.oram_client.specs.StampedStreams.{CountsAnswer, HearsBegun, HearsDone, HearsOwn, HearsStamp, StreamsBetween, StreamsPlainly, StreamsStamped, learnt_done}
use Rattle.oram_client.specs.StreamBatches.{Connection, StreamBatch, Streams, cut_short}
use Rattle.oram_client.specs.Streaming.{BreaksOver}
use Rattle.oram_client.specs.declared.awaited.Progress.{Progress}
use Rattle.oram_client.specs.declared.dialer.Trouble.{Trouble}
use Rattle.oram_client.specs.declared.dialer.Trouble.TheVariants.{OutOfReach, NoRoom, AnotherDisk, NoDisk, OlderState, OlderHost, NoStamps}
use Rattle.oram_client.proofs.Between.{Parted, all_answered, off_among, parted_early, parted_later}
use Rattle.oram_client.proofs.Frames.{among_left, among_right}
use Rattle.oram_client.proofs.TakenAnswers.{cut_breaks}

-- the next message, if others come behind

drop_more : (bodies answers rest behind : List (List ℕ)) (body : List ℕ) → drop (length answers) bodies ≡ body ∷ rest → drop (length answers) (bodies ++ behind) ≡ body ∷ (rest ++ behind)
drop_more [] [] rest behind body next = absurd cc
drop_more [] (a ∷ answers) rest behind body next = absurd cc
drop_more (b ∷ bodies) [] rest behind body next = ap (λ (bs : List (List ℕ)). bs ++ behind) next
drop_more (b ∷ bodies) (a ∷ answers) rest behind body next = drop_more bodies answers rest behind body next

-- there is one more message than answers
one_more : (bodies answers rest : List (List ℕ)) (body : List ℕ) → drop (length answers) bodies ≡ body ∷ rest → length answers + 1 ≤ length bodies
one_more bodies answers rest body next = omega (arith, next_fits bodies answers rest body [] next, length-append answers ([] ∷ []))

-- whether the host had no room for one of the messages

among_last : (front : List (List ℕ)) (last x : List ℕ) → IsAmong x (front ++ last ∷ []) → IsAmong x front ⊎ (x ≡ last)
among_last [] last x (inl same) = inr same
among_last [] last x (inr none) = absurd none
among_last (b ∷ front) last x (inl same) = inl (inl same)
among_last (b ∷ front) last x (inr later) = elim (among_last front last x later) [ inl among ↦ inl (inr among) | inr same ↦ inr same ]

room_more : (old new : Bool) (answers : List (List ℕ)) (answer : List ℕ) → MatchBool old (IsAmong no_room_answer answers) (¬ IsAmong no_room_answer answers)
    → MatchBool new ((old ≡ true) ⊎ (answer ≡ no_room_answer)) ((old ≡ false) × (answer ≢ no_room_answer))
    → MatchBool new (IsAmong no_room_answer (answers ++ answer ∷ [])) (¬ IsAmong no_room_answer (answers ++ answer ∷ []))
room_more old true answers answer before (inl was) =
    among_left answers (answer ∷ []) no_room_answer (subst (λ (b : Bool). MatchBool b (IsAmong no_room_answer answers) (¬ IsAmong no_room_answer answers)) was before)
room_more old true answers answer before (inr here) = among_right answers (answer ∷ []) no_room_answer (inl (sym here))
room_more old false answers answer before (was, other) = λ among.
    elim (among_last answers answer no_room_answer among) [
      | inl earlier ↦ subst (λ (b : Bool). MatchBool b (IsAmong no_room_answer answers) (¬ IsAmong no_room_answer answers)) was before earlier
      | inr here ↦ other (sym here)
    ]

-- the trouble that comes of the answer to the last message
put_last : (answer : List ℕ) (trouble : Trouble) → IsPutFor answer trouble → ArePutFor done_answer answer trouble
put_last answer NoRoom wrong = inr wrong
put_last answer NoStamps wrong = ((λ both. wrong.0 both.1), (λ same. cc), wrong.1)
put_last answer (OutOfReach fault) wrong = wrong
put_last answer AnotherDisk wrong = wrong
put_last answer NoDisk wrong = wrong
put_last answer OlderState wrong = wrong
put_last answer OlderHost wrong = wrong

-- what is known once the host has done a batch
learnt : (d k e : Destination) (sent_as : Stamps) (no_room : Bool) (answers : List (List ℕ)) → k ≡ with_known d sent_as → e ≡ learnt_done k no_room
    → MatchBool no_room (IsAmong no_room_answer answers) (¬ IsAmong no_room_answer answers)
    → (after : Stamps) × IsLearnt sent_as answers after × (e ≡ with_known d after)
learnt d k e sent_as true answers was is room = (sent_as, inl (room, refl), is ∙ was)
learnt d k e sent_as false answers was is room =
    (stamps.answered sent_as, inr (room, refl), is ∙ ap (λ (x : Destination). with_known x (stamps.answered x.known)) was)

module _ {S : Type 0} (remaining contents : S → Option (List ℕ)) where
  abbrev Way : Type 0
  Way = Connection S S

  abbrev Batch : Way → List (List ℕ) → BatchOutcome → List Exchange → Way → Type 0
  Batch = StreamBatch remaining contents

  abbrev Reads : Way → List (List ℕ) → List (List ℕ) → Way → Type 0
  Reads = Streams remaining contents

  abbrev Stamped : Destination → Way → List (List ℕ) → List (List ℕ) → Progress → Destination → Way → Type 0
  Stamped = StreamsStamped remaining contents

  abbrev Broken : Destination → Way → List (List ℕ) → List (List ℕ) → Trouble → Destination → Way → Type 0
  Broken = BreaksOver (CarriesStamped remaining contents) (StreamsStamped remaining contents)

  module _ (d : Destination) (bodies : List (List ℕ)) where
    abbrev begun_put : List ℕ
    begun_put = stamp_put d.key Begun (next_stamp d.known)

    abbrev done_put : List ℕ
    done_put = stamp_put d.key Done (next_stamp d.known)

    abbrev All : List (List ℕ)
    All = between begun_put bodies done_put

    put_begun : IsStampPut begun_put
    put_begun = (0, record_text d.key Begun (next_stamp d.known), omega arith, refl)

    put_done : IsStampPut done_put
    put_done = (1, record_text d.key Done (next_stamp d.known), omega arith, refl)

    abbrev PartedHere : List (List ℕ) → List Exchange → Type 0
    PartedHere = Parted begun_put done_put bodies put_begun put_done

    -- a batch without answers for its caller, by what is left of its exchanges
    broken : (k : Destination) (sent_as : Stamps) (line line' : Way) (answers : List (List ℕ)) (o : BatchOutcome) (heard : List Exchange) (trouble : Trouble) → IsSent d.known sent_as
        → Batch line All o heard line' → ComesTo d sent_as o (Err trouble) k → PartedHere answers heard → Broken d line bodies answers trouble k line'
    broken k sent_as line line' answers o heard trouble sent batch comes left = (
      left.0,
      inr (inr (inl (record {
        known = sent_as;
        sent = sent;
        outcome = o;
        heard = heard;
        batch = batch;
        comes = comes;
        left = left.1;
        is_batch = off_among begun_put done_put bodies put_begun put_done answers left.0 left.2;
      }))),
      left.2,
    )

    -- the connection failed before the first answer
    failed_early : (k : Destination) (sent_as : Stamps) (line line' : Way) (heard : List Exchange) (fault : LinkFault) → IsSent d.known sent_as → k ≡ with_known d sent_as
        → Batch line All (Err fault) heard line' → Broken d line bodies [] (OutOfReach fault) k line'
    failed_early k sent_as line line' heard fault sent is batch =
        broken k sent_as line line' [] (Err fault) heard (OutOfReach fault) sent batch (refl, is)
        (parted_early begun_put done_put bodies put_begun put_done heard (batch_among All (Err fault) heard (streams_are_batches remaining contents line line' All (Err fault) heard batch)))

    -- the connection failed after these answers, or more
    failed_later : (k : Destination) (sent_as : Stamps) (line line' : Way) (answers more : List (List ℕ)) (heard : List Exchange) (fault : LinkFault) → IsSent d.known sent_as → k ≡ with_known d sent_as
        → length answers ≤ length bodies → Batch line All (Err fault) heard line' → BreaksOff All (done_answer ∷ (answers ++ more)) heard → Broken d line bodies answers (OutOfReach fault) k line'
    failed_later k sent_as line line' answers more heard fault sent is few batch off =
        broken k sent_as line line' answers (Err fault) heard (OutOfReach fault) sent batch (refl, is)
        (parted_later begun_put done_put bodies put_begun put_done done_answer answers more off.0 off.1 heard few off.2 off.3 off.4)

    -- the answer to the message that puts the stamp as begun

    begun_said : (k : Destination) (sent_as : Stamps) (line line' : Way) (o : Outcome) (result : Result (Unit {0}) Trouble) → IsSent d.known sent_as → k ≡ with_known d sent_as
        → MatchResult o (λ answer. Reads line All ([] ++ answer ∷ []) line') (λ fault. (exchanges : List Exchange) × Batch line All (Err fault) exchanges line' × BreaksOff All [] exchanges)
        → MatchResult o (λ answer. MatchResult result (λ put. answer ≡ done_answer) (λ trouble. IsPutFor answer trouble)) (λ fault. result ≡ Err (OutOfReach fault))
        → MatchResult result (λ put. Reads line All (done_answer ∷ []) line') (λ trouble. Broken d line bodies [] trouble k line')
    begun_said k sent_as line line' (Ok answer) (Ok put) sent is read said = subst (λ (a : List ℕ). Reads line All (a ∷ []) line') said read
    begun_said k sent_as line line' (Ok answer) (Err trouble) sent is read said = (
      cut_short bodies [] Closed,
      inr (inr (inr (record { known = sent_as; sent = sent; answer = answer; read = read; trouble = trouble; wrong = said; says = refl; unheard = refl; after = is }))),
      cut_breaks bodies [] Closed,
    )
    begun_said k sent_as line line' (Err fault) result sent is (heard, batch, off) said =
        subst (λ (r : Result (Unit {0}) Trouble). MatchResult r (λ put. Reads line All (done_answer ∷ []) line') (λ trouble. Broken d line bodies [] trouble k line'))
        (sym said) (failed_early k sent_as line line' heard fault sent is batch)

    -- the answer to the message that puts the stamp as done, once all others have come

    whole : (line line' : Way) (given : List (List ℕ)) (last : List ℕ) → length given ≡ length bodies → Reads line All (done_answer ∷ (given ++ last ∷ [])) line'
        → (exchanges : List Exchange) × Batch line All (Ok (done_answer ∷ (given ++ last ∷ []))) exchanges line'
    whole line line' given last count read =
        streams_end remaining contents line line' All (done_answer ∷ (given ++ last ∷ [])) read (omega (arith, count, length-append given (last ∷ []), length-append bodies (done_put ∷ [])))

    fewer : (answers : List (List ℕ)) (answer : List ℕ) → length (answers ++ answer ∷ []) ≡ length bodies → length answers ≤ length bodies
    fewer answers answer count = omega (arith, count, length-append answers (answer ∷ []))

    done_said : (k e : Destination) (sent_as : Stamps) (no_room : Bool) (line line' : Way) (answers : List (List ℕ)) (answer : List ℕ) (o : Outcome) (result : Result (Unit {0}) Trouble)
        → IsSent d.known sent_as → k ≡ with_known d sent_as → length (answers ++ answer ∷ []) ≡ length bodies
        → MatchBool no_room (IsAmong no_room_answer (answers ++ answer ∷ [])) (¬ IsAmong no_room_answer (answers ++ answer ∷ []))
        → MatchResult o (λ last. Reads line All ((done_answer ∷ (answers ++ answer ∷ [])) ++ last ∷ []) line')
        (λ fault. (exchanges : List Exchange) × Batch line All (Err fault) exchanges line' × BreaksOff All (done_answer ∷ (answers ++ answer ∷ [])) exchanges)
        → MatchResult o (λ last. MatchResult result (λ put. last ≡ done_answer) (λ trouble. IsPutFor last trouble)) (λ fault. result ≡ Err (OutOfReach fault))
        → MatchResult result (λ put. e ≡ learnt_done k no_room) (λ trouble. e ≡ k)
        → MatchResult result (λ put. (exchanges : List Exchange) × IsBetween remaining contents d line bodies (Ok (answers ++ answer ∷ [])) exchanges e line')
        (λ trouble. Broken d line bodies answers trouble e line')
    done_said k e sent_as no_room line line' answers answer (Ok last) (Ok put) sent is count room read said after =
        let given = answers ++ answer ∷ [] in
        let all = done_answer ∷ (given ++ last ∷ []) in
        let batch = whole line line' given last count read in
        let left = all_answered begun_put done_put bodies put_begun put_done done_answer last given batch.0 (streams_are_batches remaining contents line line' All (Ok all) batch.0 batch.1) in
        let know = learnt d k e sent_as no_room given is after room in (
          left.0,
          record {
            known = sent_as;
            sent = sent;
            outcome = Ok all;
            heard = batch.0;
            batch = batch.1;
            comes = (given, record { begun = done_answer; done = last; all = refl; puts = (refl, said) }, (refl, know));
            left = left.1;
            is_batch = left.2;
          },
        )
    done_said k e sent_as no_room line line' answers answer (Ok last) (Err trouble) sent is count room read said after =
        let given = answers ++ answer ∷ [] in
        let all = done_answer ∷ (given ++ last ∷ []) in
        let batch = whole line line' given last count read in
        let is_batch = streams_are_batches remaining contents line line' All (Ok all) batch.0 batch.1 in
        let heard_is : batch.0 ≡ (is_batch.1 ++ answered All (done_answer ∷ (answers ++ (answer ∷ last ∷ [])))) ++ [] =
        is_batch.3 ∙ ap (λ (as' : List (List ℕ)). is_batch.1 ++ answered All (done_answer ∷ as')) (append_assoc answers (answer ∷ []) (last ∷ []))
        ∙ sym (append-nil (is_batch.1 ++ answered All (done_answer ∷ (answers ++ (answer ∷ last ∷ []))))) in
        broken e sent_as line line' answers (Ok all) batch.0 trouble sent batch.1
        (given, record { begun = done_answer; done = last; all = refl; puts = put_last last trouble said }, after ∙ is)
        (parted_later begun_put done_put bodies put_begun put_done done_answer answers (answer ∷ last ∷ []) is_batch.1 [] batch.0 (fewer answers answer count) is_batch.2 tt heard_is)
    done_said k e sent_as no_room line line' answers answer (Err fault) result sent is count room (heard, batch, off) said after =
        let same : e ≡ k = subst (λ (r : Result (Unit {0}) Trouble). MatchResult r (λ put. e ≡ learnt_done k no_room) (λ trouble. e ≡ k)) said after in
        subst (λ (r : Result (Unit {0}) Trouble).
        MatchResult r (λ put. (exchanges : List Exchange) × IsBetween remaining contents d line bodies (Ok (answers ++ answer ∷ [])) exchanges e line')
        (λ trouble. Broken d line bodies answers trouble e line')) (sym said)
        (failed_later e sent_as line line' answers (answer ∷ []) heard fault sent (same ∙ is) (fewer answers answer count) batch off)

  -- The answer to the message that puts the stamp as begun has come, or it needn't come.

  module _ (d k : Destination) (line way way' : Way) (bodies answers : List (List ℕ)) (progress progress' : Progress) where
    abbrev GoesOn : Result (Unit {0}) Trouble → Type 0
    GoesOn result = MatchResult result (λ put. Stamped d line bodies answers progress' k way' × (progress'.begun ≡ None)) (λ trouble. Broken d line bodies answers trouble k way')

    none_due : (result : Result (Unit {0}) Trouble) → Stamped d line bodies answers progress k way → progress.begun ≡ None → IsOk result × (way' ≡ way) × (progress' ≡ progress) → GoesOn result
    none_due (Ok put) h none (ok, same_way, same) = (
      subst (λ (p : Progress). Stamped d line bodies answers p k way') (sym same) (subst (λ (w : Way). Stamped d line bodies answers progress k w) (sym same_way) h),
      ap (λ (p : Progress). p.begun) same ∙ none,
    )
    none_due (Err trouble) h none (ok, same_way, same) = absurd (true≢false (sym ok))

    put_heard : (result : Result (Unit {0}) Trouble) → progress.left + length answers ≡ length bodies → 0 < progress.left → StreamsBetween remaining contents d line bodies answers progress k way
        → answers ≡ [] → progress' ≡ record progress { begun = None }
        → MatchResult result (λ put. Reads line (All d bodies) (done_answer ∷ []) way') (λ trouble. Broken d line bodies [] trouble k way') → GoesOn result
    put_heard (Ok put) counts more s none is read =
        let next : Progress = record progress { begun = None } in (
          subst (λ (p : Progress). Stamped d line bodies answers p k way') (sym is) (
            counts,
            inr (inl (
              more,
              record {
                known = s.known;
                sent = s.sent;
                done = s.done;
                due = s.due;
                puts_done = s.puts_done;
                room = s.room;
                read = subst (λ (as' : List (List ℕ)). Reads line (All d bodies) (done_answer ∷ as') way') (sym none) read;
                after = s.after;
              },
            )),
          ),
          ap (λ (p : Progress). p.begun) is,
        )
    put_heard (Err trouble) counts more s none is broke = subst (λ (as' : List (List ℕ)). Broken d line bodies as' trouble k way') (sym none) broke

    some_due : (result : Result (Unit {0}) Trouble) (begun : Vec ℕ) → progress.left + length answers ≡ length bodies → 0 < progress.left
        → StreamsBetween remaining contents d line bodies answers progress k way → progress.begun ≡ Some begun
        → HearsStamp remaining contents begun.items way result way' → progress' ≡ record progress { begun = None } → GoesOn result
    some_due result begun counts more s is (o, gives, said) after =
        let due = subst (λ (b : Option (Vec ℕ)). MatchOption b (Reads line (All d bodies) (done_answer ∷ answers) way)
        (λ (b : Vec ℕ). (b.items ≡ begun_put d bodies) × (answers ≡ []) × Reads line (All d bodies) [] way)) is s.read in
        let others = bodies ++ done_put d bodies ∷ [] in
        put_heard result counts more s due.1 after
        (begun_said d bodies k s.known line way' o result s.sent s.after (gives line (All d bodies) [] others due.2 (ap (λ (x : List ℕ). x ∷ others) (sym due.0))) said)

    by_begun : (b : Option (Vec ℕ)) (result : Result (Unit {0}) Trouble) → progress.left + length answers ≡ length bodies → 0 < progress.left
        → StreamsBetween remaining contents d line bodies answers progress k way → progress.begun ≡ b
        → MatchOption b (IsOk result × (way' ≡ way) × (progress' ≡ progress)) (λ begun. HearsStamp remaining contents begun.items way result way' × (progress' ≡ record progress { begun = None })) → GoesOn result
    by_begun None result counts more s is heard = none_due result (counts, inr (inl (more, s))) is heard
    by_begun (Some begun) result counts more s is heard = some_due result begun counts more s is heard.0 heard.1

    pub begun_heard : (rest : List (List ℕ)) (body : List ℕ) (result : Result (Unit {0}) Trouble) → Stamped d line bodies answers progress k way → drop (length answers) bodies ≡ body ∷ rest
        → HearsBegun remaining contents way progress result way' progress' → GoesOn result
    begun_heard rest body result (counts, inl plain) next heard =
        none_due result (counts, inl plain) plain.not_begun
        (subst (λ (b : Option (Vec ℕ)). MatchOption b (IsOk result × (way' ≡ way) × (progress' ≡ progress))
        (λ (b : Vec ℕ). HearsStamp remaining contents b.items way result way' × (progress' ≡ record progress { begun = None }))) plain.not_begun heard)
    begun_heard rest body result (counts, inr (inl (more, s))) next heard = by_begun progress.begun result counts more s refl heard
    begun_heard rest body result (counts, inr (inr over)) next heard = absurd (omega (arith, over.0, counts, one_more bodies answers rest body next))

  -- The answer to one of the batch's own messages has come, and what puts the stamp as done may be due.

  abbrev Heard : Destination → Destination → Way → Way → List (List ℕ) → List (List ℕ) → Progress → Type 0
  Heard d k line way bodies answers progress = (progress.left + length answers ≡ length bodies) × (
      StreamsPlainly remaining contents d line bodies answers progress k way
      ⊎ (StreamsBetween remaining contents d line bodies answers progress k way × (progress.begun ≡ None)))

  module _ (d k : Destination) (line way way' : Way) (bodies answers rest : List (List ℕ)) (body : List ℕ) (progress progress' : Progress) (next : drop (length answers) bodies ≡ body ∷ rest) where
    abbrev Own : Result (Vec ℕ) Trouble → Type 0
    Own result = MatchResult result (λ answer. Heard d k line way' bodies (answers ++ answer.items ∷ []) progress') (λ trouble. Broken d line bodies answers trouble k way')

    abbrev Said : Outcome → Result (Vec ℕ) Trouble → Type 0
    Said o result = MatchResult result (λ answer. (o ≡ Ok answer.items) × CountsAnswer progress answer.items progress') (λ trouble. (fault : LinkFault) × (o ≡ Err fault) × (trouble ≡ OutOfReach fault))

    counted : (answer : List ℕ) → progress.left + length answers ≡ length bodies → CountsAnswer progress answer progress' → progress'.left + length (answers ++ answer ∷ []) ≡ length bodies
    counted answer counts one = omega (arith, counts, one.left, one_more bodies answers rest body next, length-append answers (answer ∷ []))

    plain_own : (o : Outcome) (result : Result (Vec ℕ) Trouble) → progress.left + length answers ≡ length bodies → StreamsPlainly remaining contents d line bodies answers progress k way
        → MatchResult o (λ answer. Reads line bodies (answers ++ answer ∷ []) way') (λ fault. (exchanges : List Exchange) × Batch line bodies (Err fault) exchanges way' × BreaksOff bodies answers exchanges)
        → Said o result → Own result
    plain_own (Ok bytes) (Ok answer) counts s read (is, one) = (
      counted answer.items counts one,
      inl (record {
        settled = s.settled;
        not_begun = one.begun ∙ s.not_begun;
        not_done = one.done ∙ s.not_done;
        read = subst (λ (a : List ℕ). Reads line bodies (answers ++ a ∷ []) way') (let same : bytes ≡ answer.items = cc in same) read;
        same = s.same;
      }),
    )
    plain_own (Ok bytes) (Err trouble) counts s read (fault, is, says) = absurd cc
    plain_own (Err fault) (Ok answer) counts s read (is, one) = absurd cc
    plain_own (Err fault) (Err trouble) counts s (heard, batch, off) (why, is, says) =
        let same : trouble ≡ OutOfReach fault = says ∙ ap (λ (f : LinkFault). OutOfReach f) (let f : why ≡ fault = cc in f) in
        subst (λ (t : Trouble). Broken d line bodies answers t k way') (sym same)
        (heard, inr (inl (record { settled = s.settled; outcome = Err fault; batch = batch; says = refl; same = s.same })), off)

    between_own : (o : Outcome) (result : Result (Vec ℕ) Trouble) → progress.left + length answers ≡ length bodies → StreamsBetween remaining contents d line bodies answers progress k way
        → progress.begun ≡ None
        → MatchResult o (λ answer. Reads line (All d bodies) (done_answer ∷ (answers ++ answer ∷ [])) way')
        (λ fault. (exchanges : List Exchange) × Batch line (All d bodies) (Err fault) exchanges way' × BreaksOff (All d bodies) (done_answer ∷ answers) exchanges)
        → Said o result → Own result
    between_own (Ok bytes) (Ok answer) counts s none read (is, one) =
        let begun : progress'.begun ≡ None = one.begun ∙ none in
        let here : Reads line (All d bodies) (done_answer ∷ (answers ++ answer.items ∷ [])) way' =
        subst (λ (a : List ℕ). Reads line (All d bodies) (done_answer ∷ (answers ++ a ∷ [])) way') (let same : bytes ≡ answer.items = cc in same) read in (
          counted answer.items counts one,
          inr (
            record {
              known = s.known;
              sent = s.sent;
              done = s.done;
              due = one.done ∙ s.due;
              puts_done = s.puts_done;
              room = room_more progress.no_room progress'.no_room answers answer.items s.room one.room;
              read = subst (λ (b : Option (Vec ℕ)). MatchOption b (Reads line (All d bodies) (done_answer ∷ (answers ++ answer.items ∷ [])) way')
                  (λ (v : Vec ℕ). (v.items ≡ begun_put d bodies) × (answers ++ answer.items ∷ [] ≡ []) × Reads line (All d bodies) [] way')) (sym begun) here;
              after = s.after;
            },
            begun,
          ),
        )
    between_own (Ok bytes) (Err trouble) counts s none read (fault, is, says) = absurd cc
    between_own (Err fault) (Ok answer) counts s none read (is, one) = absurd cc
    between_own (Err fault) (Err trouble) counts s none (heard, batch, off) (why, is, says) =
        let same : trouble ≡ OutOfReach fault = says ∙ ap (λ (f : LinkFault). OutOfReach f) (let f : why ≡ fault = cc in f) in
        let more : BreaksOff (All d bodies) (done_answer ∷ (answers ++ [])) heard =
        subst (λ (as' : List (List ℕ)). BreaksOff (All d bodies) (done_answer ∷ as') heard) (sym (append-nil answers)) off in
        subst (λ (t : Trouble). Broken d line bodies answers t k way') (sym same)
        (failed_later d bodies k s.known line way' answers [] heard fault s.sent s.after (omega (arith, one_more bodies answers rest body next)) batch more)

    pub own_heard : (result : Result (Vec ℕ) Trouble) → Stamped d line bodies answers progress k way → progress.begun ≡ None
        → HearsOwn remaining contents way progress body result way' progress' → Own result
    own_heard result (counts, inl plain) none (o, gives, said) = plain_own o result counts plain (gives line bodies answers rest plain.read next) said
    own_heard result (counts, inr (inl (more, s))) none (o, gives, said) =
        let read = subst (λ (b : Option (Vec ℕ)). MatchOption b (Reads line (All d bodies) (done_answer ∷ answers) way)
        (λ (v : Vec ℕ). (v.items ≡ begun_put d bodies) × (answers ≡ []) × Reads line (All d bodies) [] way)) none s.read in
        between_own o result counts s none
        (gives line (All d bodies) (done_answer ∷ answers) (rest ++ done_put d bodies ∷ []) read (drop_more bodies answers rest (done_put d bodies ∷ []) body next)) said
    own_heard result (counts, inr (inr over)) none heard = absurd (omega (arith, over.0, counts, one_more bodies answers rest body next))

  -- The answer to the message that puts the stamp as done has come, if it was due.

  module _ (d k e : Destination) (line way way' : Way) (bodies answers : List (List ℕ)) (answer : List ℕ) (progress progress' : Progress) where
    abbrev given : List (List ℕ)
    given = answers ++ answer ∷ []

    abbrev Ends : Result (Unit {0}) Trouble → Type 0
    Ends result = MatchResult result (λ put. Stamped d line bodies given progress' e way') (λ trouble. Broken d line bodies answers trouble e way')

    not_yet : (result : Result (Unit {0}) Trouble) → Stamped d line bodies given progress k way → IsOk result × (e ≡ k) × (way' ≡ way) × (progress' ≡ progress) → Ends result
    not_yet (Ok put) h (ok, same, same_way, same_progress) =
        subst (λ (x : Destination). Stamped d line bodies given progress' x way') (sym same) (subst (λ (w : Way). Stamped d line bodies given progress' k w) (sym same_way)
        (subst (λ (p : Progress). Stamped d line bodies given p k way) (sym same_progress) h))
    not_yet (Err trouble) h (ok, same, same_way, same_progress) = absurd (true≢false (sym ok))

    over : (result : Result (Unit {0}) Trouble) → progress.left + length given ≡ length bodies → progress.left ≡ 0 → progress' ≡ record progress { done = None }
        → MatchResult result (λ put. (exchanges : List Exchange) × IsBetween remaining contents d line bodies (Ok given) exchanges e way') (λ trouble. Broken d line bodies answers trouble e way') → Ends result
    over (Ok put) counts none is carried =
        let left : progress'.left ≡ progress.left = ap (λ (p : Progress). p.left) is in
        (ap (λ (n : ℕ). n + length given) left ∙ counts, inr (inr (left ∙ none, carried)))
    over (Err trouble) counts none is broke = broke

    by_left : (n : ℕ) (result : Result (Unit {0}) Trouble) → progress.left ≡ n → progress.left + length given ≡ length bodies → StreamsBetween remaining contents d line bodies given progress k way
        → progress.begun ≡ None → HearsDone remaining contents k way progress result e way' progress' → Ends result
    by_left zero result none counts s heard_begun heard =
        let due = heard.due s.done none s.due in
        let gives = due.0.1 in
        let count : length given ≡ length bodies = omega (arith, none, counts) in
        let read = subst (λ (b : Option (Vec ℕ)). MatchOption b (Reads line (All d bodies) (done_answer ∷ given) way)
        (λ (v : Vec ℕ). (v.items ≡ begun_put d bodies) × (given ≡ []) × Reads line (All d bodies) [] way)) heard_begun s.read in
        let last : drop (length given) (bodies ++ done_put d bodies ∷ []) ≡ s.done.items ∷ [] =
        drop_at bodies (done_put d bodies ∷ []) (length given) (sym count) ∙ ap (λ (x : List ℕ). x ∷ []) (sym s.puts_done) in
        over result counts none due.1
        (done_said d bodies k e s.known progress.no_room line way' answers answer due.0.0 result s.sent s.after count s.room (gives line (All d bodies) (done_answer ∷ given) [] read last) due.0.2 due.2)
    by_left (suc n) result some counts s heard_begun heard =
        let more : 0 < progress.left = omega (arith, some) in
        not_yet result (counts, inr (inl (more, s))) (heard.not_due (inl more))

    pub done_heard : (result : Result (Unit {0}) Trouble) → Heard d k line way bodies given progress → HearsDone remaining contents k way progress result e way' progress' → Ends result
    done_heard result (counts, inl plain) heard = not_yet result (counts, inl plain) (heard.not_due (inr plain.not_done))
    done_heard result (counts, inr (s, none)) heard = by_left progress.left result refl counts s none heard

  -- a batch that goes between its stamps is begun

  pub begins_between : (d e : Destination) (sent_as : Stamps) (line line' : Way) (bodies : List (List ℕ)) (begun done : Vec ℕ) (progress : Progress) → IsSent d.known sent_as
      → begun.items ≡ stamp_put d.key Begun (next_stamp d.known) → done.items ≡ stamp_put d.key Done (next_stamp d.known) → progress.left ≡ length bodies → 0 < length bodies
      → progress.no_room ≡ false → progress.begun ≡ Some begun → progress.done ≡ Some done → Reads line (between begun.items bodies done.items) [] line' → e ≡ with_known d sent_as
      → Stamped d line bodies [] progress e line'
  begins_between d e sent_as line line' bodies begun done progress sent begun_is done_is left more no_room with_begun with_done read after =
      let all : Reads line (All d bodies) [] line' = subst (λ (b : List ℕ). Reads line (between b bodies (done_put d bodies)) [] line') begun_is
      (subst (λ (x : List ℕ). Reads line (between begun.items bodies x) [] line') done_is read) in (
        omega (arith, left),
        inr (inl (
          omega (arith, left, more),
          record {
            known = sent_as;
            sent = sent;
            done = done;
            due = with_done;
            puts_done = done_is;
            room = subst (λ (b : Bool). MatchBool b (IsAmong no_room_answer []) (¬ IsAmong no_room_answer [])) (sym no_room) (λ none. none);
            read = subst (λ (b : Option (Vec ℕ)). MatchOption b (Reads line (All d bodies) (done_answer ∷ []) line')
                (λ (v : Vec ℕ). (v.items ≡ begun_put d bodies) × (let none : List (List ℕ) = [] in none ≡ []) × Reads line (All d bodies) [] line')) (sym with_begun) (begun_is, refl, all);
            after = after;
          },
        )),
      )
