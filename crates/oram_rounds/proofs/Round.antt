-- Each call of a link that holds STOREs back is one of the host as it will be.
use Rattle.std.proofs.Common.{◌≡◌, ◌≢◌, ℕ, arith, Bool, true, false, if◌then◌else◌, ◌==◌, ◌&&◌, List, [], ◌∷◌, ◌++◌, length, slice_index, Ok, Err, refl, sym, ap, ◌∙◌, subst, inl, inr, append-nil, append_assoc}
use Rattle.std.specs.Prelude.{MatchResult}
use Rattle.std.specs.List.{AllByRecursion}
use Rattle.std.proofs.lemmas.Bool.Decides.{nat_tests}
use Rattle.std.proofs.lemmas.List.{length-append}
use Rattle.oram_geometry.specs.declared.Sizes.{Sizes}
use Rattle.oram_wire.specs.HostMessages.{answer_body, done_answer, no_room_answer}
use Rattle.oram_wire.specs.declared.host_messages.HostAnswer.{HostAnswer}
use Rattle.oram_wire.specs.declared.host_messages.HostAnswer.TheVariants.{Done, Payload, Refused}
use Rattle.oram_wire.specs.declared.host_messages.HostRequest.TheVariants.{Store}
use Rattle.oram_host.specs.Host.{Host}
use Rattle.oram_host.specs.Service.{Serves}
use Rattle.oram_semantics.specs.Scheme.{Scheme, record_len}
use Rattle.oram_host_laws.specs.Honest.{HeardOrNot}
use Rattle.oram_host_laws.proofs.Handed.{store_refused}
use Rattle.oram_session.specs.Honesty.{IsHeardCall, IsHonestCall}
use Rattle.oram_session.specs.Outcome.{Outcome}
use Rattle.oram_session.specs.declared.link.LinkFault.{LinkFault}
use Rattle.oram_link_laws.specs.Repair.{AreAmong, IsAmong}
use Rattle.oram_link_laws.specs.Runs.{Exchange, bodies_of}
use Rattle.oram_link_laws.proofs.Exchanged.{folds_split}
use Rattle.oram_rounds.specs.Batches.{BatchOutcome, IsBatch, answered}
use Rattle.oram_rounds.specs.CatchUp.{CatchesUp, IsPlainCall, IsPlainLie, PlainRun}
use Rattle.oram_rounds.specs.Law.{AreAhead, AreBatches, CallsAreOfTheHostLater, IsFetchNow, IsStocked}
use Rattle.oram_rounds.specs.PathMessages.{IsPathFetch, IsPathStore}
use Rattle.oram_rounds.specs.Overlay.{IsOverlaid, holds_path}
use Rattle.oram_rounds.specs.Rounds.{AreDone, Declines, Does, Fetches, Gives, HoldsBack, Round, TakesAhead, is_refusal_body, refused_with, waiting}
use Rattle.oram_rounds.proofs.Calls.{honest_later, lie_later, pathless_lie, refuses_later}
use Rattle.oram_rounds.proofs.KeptPaths.{leaf_small}
use Rattle.oram_rounds.proofs.Sent.{batch_among}
use Rattle.oram_rounds.proofs.Unchanged.{ahead_on}
use Rattle.oram_rounds.proofs.CatchUp.{IsWaitingOrFetch, acked_catches, catches_apart, heard_catches, hears, path_among, put_catches, run_catches}

second_true : (a b : Bool) → (a && b) ≡ true → b ≡ true
second_true true b e = e
second_true false b e = absurd cc

-- what a batch of STOREs and a FETCH after them sends is one of those STOREs, or that FETCH

among_more : (b : List ℕ) (kept held : List (List ℕ)) → IsAmong b kept → IsAmong b (kept ++ held)
among_more b [] held among = absurd among
among_more b (first ∷ kept) held (inl same) = inl same
among_more b (first ∷ kept) held (inr later) = inr (among_more b kept held later)

module _ (v : Scheme) (kept held : List (List ℕ)) (fetch : List ℕ) (f : IsPathFetch v.device fetch) where
  one_sent : (b : List ℕ) (sent : List (List ℕ)) → ((x : List ℕ) → IsAmong x sent → IsAmong x kept) → IsAmong b (sent ++ fetch ∷ []) → IsWaitingOrFetch v (kept ++ held) b
  one_sent b [] inside (inl same) = inr (subst (IsPathFetch v.device) (sym same) f)
  one_sent b [] inside (inr none) = absurd none
  one_sent b (first ∷ sent) inside (inl same) = inl (among_more b kept held (inside b (inl same)))
  one_sent b (first ∷ sent) inside (inr later) = one_sent b sent (λ x among. inside x (inr among)) later

  each_sent : (bodies : List (List ℕ)) → AreAmong bodies (kept ++ fetch ∷ []) → AllByRecursion (IsWaitingOrFetch v (kept ++ held)) bodies
  each_sent [] are = tt
  each_sent (b ∷ bodies) are = (one_sent b kept (λ x among. among) are.0, each_sent bodies are.1)

-- the exchanges of a batch that was answered

pub answered_split : (bodies answers : List (List ℕ)) (last answer : List ℕ) → length answers ≡ length bodies
    → answered (bodies ++ last ∷ []) (answers ++ answer ∷ []) ≡ answered bodies answers ++ (last, Ok answer) ∷ []
answered_split [] [] last answer count = refl
answered_split [] (a ∷ answers) last answer count = absurd (omega (arith, count))
answered_split (b ∷ bodies) [] last answer count = absurd (omega (arith, count))
answered_split (b ∷ bodies) (a ∷ answers) last answer count =
    ap (λ (rest : List Exchange). let e : Exchange = (b, Ok a) in e ∷ rest) (answered_split bodies answers last answer (omega (arith, count)))

count_acks : (kept acks : List (List ℕ)) (last answer : List ℕ) → length (acks ++ answer ∷ []) ≡ length (kept ++ last ∷ []) → length acks ≡ length kept
count_acks kept acks last answer e = omega (arith, e, length-append acks (answer ∷ []), length-append kept (last ∷ []))

-- an exchange among those of the acknowledgements, and the host at it

module _ (may_lie : Bool) (v : Scheme) where
  record Met (stores : List (List ℕ)) (host : Host) (refusal : List ℕ) : Type 0 where
    body : List ℕ
    before : Host
    after : Host
    among : IsAmong body stores
    call : IsPlainCall may_lie v before body (Ok refusal) after
    later : Host
    catches : CatchesUp v before stores later

  met_at : (stores : List (List ℕ)) (later : Host) (kept acks : List (List ℕ)) (host after : Host) (refusal : List ℕ)
      → ((x : List ℕ) → IsAmong x kept → IsAmong x stores) → length acks ≡ length kept → IsAmong refusal acks
      → PlainRun may_lie v host (answered kept acks) after → CatchesUp v host stores later → Met stores host refusal
  met_at stores later kept [] host after refusal inside count among run c = absurd among
  met_at stores later [] (a ∷ acks) host after refusal inside count among run c = absurd (omega (arith, count))
  met_at stores later (b ∷ kept) (a ∷ acks) host after refusal inside count (inl same) run c =
      let P : List ℕ → Type 0 = λ x. IsPlainCall may_lie v host b (Ok x) run.0 in
      record { body = b; before = host; after = run.0; among = inside b (inl refl); call = subst P (sym same) run.1; later = later; catches = c }
  met_at stores later (b ∷ kept) (a ∷ acks) host after refusal inside count (inr more) run c =
      let next = run_catches v stores later may_lie ((b, Ok a) ∷ []) host run.0 (inl (inside b (inl refl)), tt) (run.0, run.1, refl) c in
      let m = met_at stores later kept acks run.0 after refusal (λ x k. inside x (inr k)) (omega (arith, count)) more run.2 next in
      record { body = m.body; before = m.before; after = m.after; among = m.among; call = m.call; later = m.later; catches = m.catches }

module _ {B : Type 0} (batches : B → List (List ℕ) → BatchOutcome → List Exchange → B → Type 0) (are : AreBatches batches) (may_lie : Bool) (v : Scheme) (l m : Round B) (body : List ℕ) (o : Outcome) (exchanges : List Exchange) (host after later : Host) (c : CatchesUp v host (waiting l) later) (run : PlainRun may_lie v host exchanges after) where
  abbrev Becomes : Type 0
  Becomes = (next : Host) × CatchesUp v after (waiting m) next × IsHeardCall may_lie v later body o next

  unsent : exchanges ≡ [] → after ≡ host
  unsent none = sym (subst (λ (xs : List Exchange). PlainRun may_lie v host xs after) none run)

  held_back : HoldsBack batches v.device (record_len v) l body o exchanges m → Becomes
  held_back h =
      let put = put_catches v (waiting l) body host later h.path c in
      let same : waiting m ≡ waiting l ++ body ∷ [] =
      ap (λ (k : List (List ℕ)). k ++ m.held) h.kept ∙ ap (λ (k : List (List ℕ)). l.kept ++ k) h.held ∙ sym (append_assoc l.kept l.held (body ∷ [])) in (
        put.0,
        subst (λ (g : Host). CatchesUp v g (waiting m) put.0) (sym (unsent h.none)) (subst (λ (k : List (List ℕ)). CatchesUp v host k put.0) (sym same) put.1),
        inl (subst (λ (x : Outcome). IsHonestCall later body x put.0) (sym h.answer) (Done, tt, refl, put.2)),
      )

  declined : Declines batches v.device (record_len v) l body o exchanges m → Becomes
  declined d =
      let same : waiting m ≡ waiting l = ap (λ (k : List (List ℕ)). k ++ m.held) d.kept ∙ ap (λ (k : List (List ℕ)). l.kept ++ k) d.held in (
        later,
        subst (λ (g : Host). CatchesUp v g (waiting m) later) (sym (unsent d.none)) (subst (λ (k : List (List ℕ)). CatchesUp v host k later) (sym same) c),
        inl (subst (λ (x : Outcome). IsHonestCall later body x later) (sym d.answer) (inl refl)),
      )

  same_waiting : m.kept ≡ l.kept → m.held ≡ l.held → waiting m ≡ waiting l
  same_waiting kept held = ap (λ (k : List (List ℕ)). k ++ m.held) kept ∙ ap (λ (k : List (List ℕ)). l.kept ++ k) held

  module _ (f : IsPathFetch v.device body) (stocked : IsStocked v later) where
    -- the batch had no answers
    unanswered : (fault : LinkFault) → AreAmong (bodies_of exchanges) (l.kept ++ body ∷ []) → o ≡ Err fault → m.kept ≡ l.kept → m.held ≡ l.held → Becomes
    unanswered fault among outcome_is kept held =
        let on = run_catches v (waiting l) later may_lie exchanges host after (each_sent v l.kept l.held body f (bodies_of exchanges) among) run c in (
          later,
          subst (λ (k : List (List ℕ)). CatchesUp v after k later) (sym (same_waiting kept held)) on,
          inl (subst (λ (x : Outcome). IsHonestCall later body x later) (sym outcome_is) (inl refl)),
        )

    acks_sent : (kept acks : List (List ℕ)) → ((x : List ℕ) → IsAmong x kept → IsAmong x l.kept) → AllByRecursion (IsWaitingOrFetch v (waiting l)) (bodies_of (answered kept acks))
    acks_sent [] acks inside = tt
    acks_sent (b ∷ kept) [] inside = tt
    acks_sent (b ∷ kept) (a ∷ acks) inside = (inl (among_more b l.kept l.held (inside b (inl refl))), acks_sent kept acks (λ x k. inside x (inr k)))

    -- what the FETCH after acknowledged STOREs gives
    given_to : (at : Host) → CatchesUp v at l.held later → (answer given : List ℕ) (next : Host) → IsPlainCall may_lie v at body (Ok answer) next
        → IsOverlaid v.device (record_len v) f.tree f.leaf l.held answer given → IsHeardCall may_lie v later body (Ok given) later
    given_to at held answer given next (inl honest) over = inl (honest_later v at later l.held held body f answer given next honest over)
    given_to at held answer given next (inr lie) over =
        let same : answer ≡ lie.1 = ap (λ (x : Outcome). elim x as (λ _. List ℕ) [ Ok b ↦ b | Err e ↦ answer ]) lie.2 in
        let plain_lie : IsPlainLie v at body answer next = subst (λ (b : List ℕ). IsPlainLie v at body b next) (sym same) lie.3 in
        inr (lie.0, given, refl, lie_later v at later l.held held body f answer given next stocked plain_lie over)

    -- what the core receives where a STORE was refused
    pathless_by : (b : Bool) (answer : List ℕ) → is_refusal_body answer ≡ b → holds_path v.device (record_len v) f.tree f.leaf (if b then answer else []) ≡ false
    pathless_by true answer is =
        let second : (slice_index answer 0 == 129) ≡ true = second_true (length answer == 2) (slice_index answer 0 == 129) is in
        let head : slice_index answer 0 ≡ 129 = grind (arith, nat_tests, second) in
        let other : (slice_index answer 0 == 128) ≡ false = grind (arith, nat_tests) in
        rw other refl
    pathless_by false answer is = refl

    refused_to : (at : Host) (refusal : List ℕ) → Met may_lie v (waiting l) at refusal → refusal ≢ done_answer → IsHeardCall may_lie v later body (Ok (refused_with refusal)) later
    refused_to at refusal met apart = elim met.call [
      | inl honest ↦ refused_by honest.0 honest.2 honest.3
      | inr lie ↦ inr (
        lie.0,
        refused_with refusal,
        refl,
        pathless_lie v host later (waiting l) c body f (refused_with refusal) stocked (pathless_by (is_refusal_body refusal) refusal refl),
      )
    ]
      where
        s : IsPathStore v.device (record_len v) met.body
        s = path_among v met.body (waiting l) met.catches.paths met.among

        refused_by : (answer : HostAnswer) → refusal ≡ answer_body answer → Serves met.before met.body answer met.after → IsHeardCall may_lie v later body (Ok (refused_with refusal)) later
        refused_by Done named serves = absurd (apart named)
        refused_by (Payload bytes) named serves = absurd (serves.request (Store s.tree s.leaf s.records) (leaf_small v s.tree s.leaf s.leaf_in) s.named)
        refused_by (Refused code) named serves =
            let a = serves.request (Store s.tree s.leaf s.records) (leaf_small v s.tree s.leaf s.leaf_in) s.named in
            let eight : code ≡ 8 =
            a.1 ∙ store_refused v s.tree s.leaf (met.catches.records s.tree) met.before (met.catches.keeps s.tree s.tree_in) s.leaf_in s.records a.0 s.whole a.2 in
            let full : refusal ≡ no_room_answer = named ∙ ap (λ (n : ℕ). 129 ∷ n ∷ []) eight in
            subst (λ (r : List ℕ). IsHeardCall may_lie v later body (Ok (refused_with r)) later) (sym full)
            (inl (Refused 8, (omega arith, omega arith), refl, refuses_later v host later (waiting l) c body f))

  module _ (f : IsPathFetch v.device body) (answers : List (List ℕ)) (gives : Gives batches v.device (record_len v) l f answers o m) (count : length answers ≡ length (l.kept ++ body ∷ [])) (tries : List Exchange) (among : AreAmong (bodies_of tries) (l.kept ++ body ∷ [])) (split : exchanges ≡ tries ++ answered (l.kept ++ body ∷ []) answers) where
    few : length gives.acks ≡ length l.kept
    few = count_acks l.kept gives.acks body gives.answer (sym (ap length gives.all) ∙ count)

    ran : PlainRun may_lie v host (tries ++ (answered l.kept gives.acks ++ (body, Ok gives.answer) ∷ [])) after
    ran =
        subst (λ (xs : List Exchange). PlainRun may_lie v host xs after)
        (split ∙ ap (λ (a : List (List ℕ)). tries ++ answered (l.kept ++ body ∷ []) a) gives.all
        ∙ ap (λ (xs : List Exchange). tries ++ xs) (answered_split l.kept gives.acks body gives.answer few)) run

    abbrev Call : Host → Exchange → Host → Type 0
    Call h e g = IsPlainCall may_lie v h e.0 e.1 g

    answered_fetch : IsStocked v later → m.held ≡ l.held → Becomes
    answered_fetch stocked held =
        let first = folds_split {P = Host} {A = Exchange} Call host after tries (answered l.kept gives.acks ++ (body, Ok gives.answer) ∷ []) ran in
        let second = folds_split {P = Host} {A = Exchange} Call first.0 after (answered l.kept gives.acks) ((body, Ok gives.answer) ∷ []) first.2 in
        let tried = run_catches v (waiting l) later may_lie tries host first.0 (each_sent v l.kept l.held body f (bodies_of tries) among) first.1 c in
        let last : HeardOrNot body second.0 after =
        subst (λ (g : Host). HeardOrNot body second.0 g) second.2.2 (hears may_lie v second.0 second.2.0 body (Ok gives.answer) second.2.1) in
        elim gives.either [
          | inl done ↦
              let caught = acked_catches may_lie v l.kept l.held gives.acks first.0 second.0 later few done.0 second.1 tried in
              let now = heard_catches v l.held later second.0 after body (inr f) last caught in
              let same : waiting m ≡ l.held = ap (λ (k : List (List ℕ)). k ++ m.held) done.1 ∙ held in (
                later,
                subst (λ (k : List (List ℕ)). CatchesUp v after k later) (sym same) now,
                subst (λ (x : Outcome). IsHeardCall may_lie v later body x later) (sym done.3)
                    (given_to f stocked second.0 caught gives.answer done.2 second.2.0 second.2.1 done.4),
              )
          | inr refused ↦
              let acked = run_catches v (waiting l) later may_lie (answered l.kept gives.acks) first.0 second.0 (acks_sent f stocked l.kept gives.acks (λ x k. k)) second.1 tried in
              let now = heard_catches v (waiting l) later second.0 after body (inr f) last acked in
              let met = met_at may_lie v (waiting l) later l.kept gives.acks first.0 second.0 refused.1 (λ x k. among_more x l.kept l.held k) few refused.2 second.1 tried in (
                later,
                subst (λ (k : List (List ℕ)). CatchesUp v after k later) (sym (same_waiting refused.0 held)) now,
                subst (λ (x : Outcome). IsHeardCall may_lie v later body x later) (sym refused.4) (refused_to f stocked first.0 refused.1 met refused.3),
              )
        ]

    -- the STOREs that were kept are carried out
    answered_caught : (reached : Host) → CatchesUp v host l.kept reached → AreDone gives.acks → m.kept ≡ [] → CatchesUp v after m.kept reached
    answered_caught reached caught done none =
        let first = folds_split {P = Host} {A = Exchange} Call host after tries (answered l.kept gives.acks ++ (body, Ok gives.answer) ∷ []) ran in
        let second = folds_split {P = Host} {A = Exchange} Call first.0 after (answered l.kept gives.acks) ((body, Ok gives.answer) ∷ []) first.2 in
        let last : HeardOrNot body second.0 after =
        subst (λ (g : Host). HeardOrNot body second.0 g) second.2.2 (hears may_lie v second.0 second.2.0 body (Ok gives.answer) second.2.1) in
        let start : CatchesUp v host (l.kept ++ []) reached = subst (λ (x : List (List ℕ)). CatchesUp v host x reached) (sym (append-nil l.kept)) caught in
        let tried = run_catches v (l.kept ++ []) reached may_lie tries host first.0 (each_sent v l.kept [] body f (bodies_of tries) among) first.1 start in
        let acked = acked_catches may_lie v l.kept [] gives.acks first.0 second.0 reached few done second.1 tried in
        subst (λ (k : List (List ℕ)). CatchesUp v after k reached) (sym none) (heard_catches v [] reached second.0 after body (inr f) last acked)

  fetched : (IsPathFetch v.device body → IsStocked v later) → Fetches batches v.device (record_len v) l body o exchanges m → Becomes
  fetched stocked h = by h.outcome (are l.inner m.inner (l.kept ++ body ∷ []) h.outcome exchanges h.batch) h.gives
    where
      by : (outcome : BatchOutcome) → IsBatch (l.kept ++ body ∷ []) outcome exchanges
          → MatchResult outcome (λ answers. Gives batches v.device (record_len v) l h.path answers o m) (λ fault. (o ≡ Err fault) × (m.kept ≡ l.kept)) → Becomes
      by (Err fault) among g = unanswered h.path (stocked h.path) fault among g.0 g.1 h.held
      by (Ok answers) batch g = answered_fetch h.path answers g batch.0 batch.1 batch.2 batch.3 (stocked h.path) h.held

  -- what the host has carried out of the STOREs that are kept, after a call

  stays_caught : m.kept ≡ l.kept → exchanges ≡ [] → (reached : Host) → CatchesUp v host l.kept reached → CatchesUp v after m.kept reached
  stays_caught kept none reached caught =
      subst (λ (g : Host). CatchesUp v g m.kept reached) (sym (unsent none)) (subst (λ (k : List (List ℕ)). CatchesUp v host k reached) (sym kept) caught)

  -- STOREs that are kept, and no others
  alone : (k : List (List ℕ)) (g reached : Host) → CatchesUp v g k reached → CatchesUp v g (k ++ []) reached
  alone k g reached caught = subst (λ (x : List (List ℕ)). CatchesUp v g x reached) (sym (append-nil k)) caught

  module _ (f : IsPathFetch v.device body) (reached : Host) (caught : CatchesUp v host l.kept reached) where
    tried_caught : (tries : List Exchange) (mid : Host) → AreAmong (bodies_of tries) (l.kept ++ body ∷ []) → PlainRun may_lie v host tries mid → CatchesUp v mid (l.kept ++ []) reached
    tried_caught tries mid among ran = run_catches v (l.kept ++ []) reached may_lie tries host mid (each_sent v l.kept [] body f (bodies_of tries) among) ran (alone l.kept host reached caught)

    all_caught : AreAmong (bodies_of exchanges) (l.kept ++ body ∷ []) → m.kept ≡ l.kept → CatchesUp v after m.kept reached
    all_caught among kept = subst (λ (k : List (List ℕ)). CatchesUp v after k reached) (append-nil l.kept ∙ sym kept) (tried_caught exchanges after among run)

  fetched_caught : Fetches batches v.device (record_len v) l body o exchanges m → (reached : Host) → CatchesUp v host l.kept reached → CatchesUp v after m.kept reached
  fetched_caught h reached caught = by h.outcome (are l.inner m.inner (l.kept ++ body ∷ []) h.outcome exchanges h.batch) h.path h.gives
    where
      by : (outcome : BatchOutcome) → IsBatch (l.kept ++ body ∷ []) outcome exchanges → (path : IsPathFetch v.device body)
          → MatchResult outcome (λ answers. Gives batches v.device (record_len v) l path answers o m) (λ fault. (o ≡ Err fault) × (m.kept ≡ l.kept)) → CatchesUp v after m.kept reached
      by (Err fault) among path g = all_caught path reached caught among g.1
      by (Ok answers) batch path g = elim g.either [
        | inl done ↦ answered_caught path answers g batch.0 batch.1 batch.2 batch.3 reached caught done.0 done.1
        | inr refused ↦ all_caught path reached caught (batch_among (l.kept ++ body ∷ []) (Ok answers) exchanges batch) refused.0
      ]

  module _ (a : AreAhead may_lie v host l) where
    -- the answer that is taken is the one that the host gives once it has carried out the STOREs that are kept

    some_ahead : (t : TakesAhead batches v.device (record_len v) l body o exchanges m)
        → (reached : Host) × CatchesUp v host l.kept reached × AllByRecursion (IsFetchNow may_lie v reached) ((body, Ok t.answer) ∷ m.ahead)
    some_ahead t = elim a [
      | inl none ↦ absurd (let both : [] ≡ (body, Ok t.answer) ∷ m.ahead = sym none ∙ t.next in cc)
      | inr some ↦ (some.0, some.1, subst (AllByRecursion (IsFetchNow may_lie v some.0)) t.next some.2)
    ]

    taken_ahead : (IsPathFetch v.device body → IsStocked v later) → TakesAhead batches v.device (record_len v) l body o exchanges m → Becomes
    taken_ahead stocked t =
        let some = some_ahead t in
        let now : IsFetchNow may_lie v some.0 (body, Ok t.answer) = some.2.0 in
        let caught : CatchesUp v some.0 l.held later = catches_apart v l.kept l.held host some.0 later c some.1 in (
          later,
          subst (λ (g : Host). CatchesUp v g (waiting m) later) (sym (unsent t.none)) (subst (λ (k : List (List ℕ)). CatchesUp v host k later) (sym (same_waiting t.kept t.held)) c),
          subst (λ (x : Outcome). IsHeardCall may_lie v later body x later) (sym t.reported)
              (given_to t.path (stocked t.path) some.0 caught t.answer t.given now.1.0 now.1.1 t.over),
        )

    becomes : (IsPathFetch v.device body → IsStocked v later) → Does batches v.device (record_len v) l body o exchanges m → Becomes
    becomes stocked (inl h) = held_back h
    becomes stocked (inr (inl h)) = fetched stocked h
    becomes stocked (inr (inr (inl d))) = declined d
    becomes stocked (inr (inr (inr t))) = taken_ahead stocked t

    ahead_after : Does batches v.device (record_len v) l body o exchanges m → AreAhead may_lie v after m
    ahead_after (inl h) = ahead_on may_lie v l m host after h.ahead (stays_caught h.kept h.none) a
    ahead_after (inr (inl h)) = ahead_on may_lie v l m host after h.ahead (fetched_caught h) a
    ahead_after (inr (inr (inl d))) = ahead_on may_lie v l m host after d.ahead (stays_caught d.kept d.none) a
    ahead_after (inr (inr (inr t))) = let some = some_ahead t in inr (some.0, stays_caught t.kept t.none some.0 some.1, some.2.1)

    abbrev pub AllOf : Type 0
    AllOf = (next : Host) × CatchesUp v after (waiting m) next × IsHeardCall may_lie v later body o next × AreAhead may_lie v after m

    pub does : (IsPathFetch v.device body → IsStocked v later) → Does batches v.device (record_len v) l body o exchanges m → AllOf
    does stocked d = let b = becomes stocked d in (b.0, b.1, b.2, ahead_after d)

pub calls_are_of_the_host_later : {B : Type 0} (batches : B → List (List ℕ) → BatchOutcome → List Exchange → B → Type 0) → CallsAreOfTheHostLater batches
calls_are_of_the_host_later batches are may_lie v l m body o exchanges host after later device len c ahead stocked call run =
    does batches are may_lie v l m body o exchanges host after later c run ahead stocked
    (subst (λ (n : ℕ). Does batches v.device n l body o exchanges m) len (subst (λ (d : Sizes). Does batches d l.record_len l body o exchanges m) device call.does))
