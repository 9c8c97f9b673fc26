-- The law of the link with near records.
use Rattle.std.proofs.Common.{◌≡◌, ◌⊎◌, ℕ, ◌+◌, ◌^◌, ◌<◌, ◌≤◌, arith, Bool, true, false, if◌then◌else◌, List, [], ◌∷◌, ◌++◌, length, map, drop, take, Option, Some, None, unwrap_or, Ok, Err, refl, sym, ap, ◌∙◌, subst, inl, inr}
use Rattle.std.specs.List.{AllByRecursion, FoldsTo}
use Rattle.std.specs.Prelude.{MatchResult, is_some}
use Rattle.std.proofs.lemmas.Bool.{cases_lt}
use Rattle.std.proofs.lemmas.List.{length-append, length-drop, length-map, length-take-le, map-append, take-append-drop}
use Rattle.oram_geometry.specs.Sizes.{depth_of, trees_of}
use Rattle.oram_geometry.specs.declared.Sizes.{Sizes}
use Rattle.oram_host.specs.Host.{Host}
use Rattle.oram_host.specs.Path.{node_on as host_node}
use Rattle.oram_host.specs.Swaps.{stored_at}
use Rattle.oram_host_laws.specs.Honest.{KeepsAll, Takes}
use Rattle.oram_levels.specs.Messages.{LevelsMessage, levels_body}
use Rattle.oram_link_laws.specs.Repair.{AreAmong}
use Rattle.oram_link_laws.specs.Runs.{Exchange, bodies_of}
use Rattle.oram_link_laws.proofs.Exchanged.{folds_join, folds_split}
use Rattle.oram_semantics.specs.Scheme.{Scheme, record_len}
use Rattle.oram_session.specs.declared.link.LinkFault.{LinkFault}
use Rattle.oram_session.specs.declared.link.LinkFault.TheVariants.{Closed, OutOfMemory}
use Rattle.oram_wire.specs.HostMessages.{done_answer, refusal_answer, store_body}
use Rattle.oram_wire.specs.declared.host_messages.HostAnswer.TheVariants.{Done}
use Rattle.oram_rounds.specs.Batches.{BatchOutcome, BreaksOff, IsBatch, answered}
use Rattle.oram_rounds.specs.CatchUp.{IsPlainCall, PlainRun, left_by as records_left}
use Rattle.oram_rounds.specs.Law.{AreBatches}
use Rattle.oram_rounds.specs.Rounds.{AreDone, refused_with}
use Rattle.oram_rounds.proofs.Sent.{answered_among}
use Rattle.oram_rounds.proofs.Tries.{answered_join}
use Rattle.oram_near.specs.ComingAnswers.{Coming}
use Rattle.oram_near.specs.Completion.{ClientRecords, left_by}
use Rattle.oram_near.specs.Law.{AreWhole, CompletesHost, CompletesPaths, HasFarLevels}
use Rattle.oram_near.specs.LevelsHost.{IsLevelsCall, LevelsRun}
use Rattle.oram_near.specs.Near.{Near}
use Rattle.oram_near.specs.NearCalls.{IsOneOf, AreAnswered, Declines, FitsTogether, GivesWhole, Idles, IsRefusal, NearBatch, NearValue, Sends, SendsAgain, StopsShort, TakesNear, client_of, far_messages, is_in_order, only_fetches, path_exchanges, store_answer, store_answers, store_tries, stores_among, unsure_with}
use Rattle.oram_near.specs.PathRequests.{IsFarStore, IsOfDevice, PathRequest, StorePath, far_of, first_far, path_body}
use Rattle.oram_near.specs.StreamsEnd.{host_count}
use Rattle.oram_near.proofs.Blocks.{acks_are, acks_step, batch_acks, fetch_block, full_block, full_by, order_block, tries_step}
use Rattle.oram_near.proofs.FarAnswers.{acks_carried, batch_carried}
use Rattle.oram_near.proofs.Kernel.{left_append, one_left, one_right}
use Rattle.oram_near.proofs.PathHost.{store_bodies, tried, twice}
use Rattle.oram_near.proofs.Paths.{whole_far, whole_near}
use Rattle.oram_near.proofs.Resumed.{without_old}
use Rattle.oram_near.proofs.RequestLists.{all_first, all_join}
use Rattle.oram_near.proofs.Sent.{stores_are}
use Rattle.oram_near.proofs.StreamSteps.{answered_front}
use Rattle.oram_near.proofs.Told.{store_told}

-- once all unsure STOREs are carried out, none needs to be laid over
module _ (v : Scheme) (near : Near) (unsure : List LevelsMessage) (empty : ℕ → ℕ → ℕ → List ℕ) (same_len : near.record_len ≡ record_len v) (r : ℕ → ℕ → List ℕ) (before after : Host) where
  none_unsure : AreWhole v (record { device = v.device; near = near; unsure = unsure; empty = empty }) before r → HasFarLevels v near.levels after
      → ((tree leaf level : ℕ) → tree < trees_of v.device → leaf < 2 ^ depth_of v.device tree → first_far near.levels tree ≤ level → level ≤ depth_of v.device tree
      → stored_at after tree (host_node (depth_of v.device tree) leaf level) ≡ left_by v.device (record_len v) tree leaf level unsure (stored_at before tree (host_node (depth_of v.device tree) leaf level)))
      → AreWhole v (record { device = v.device; near = near; unsure = []; empty = empty }) after r
  none_unsure w has carried =
      let old : ClientRecords = record { device = v.device; near = near; unsure = unsure; empty = empty } in
      let new : ClientRecords = record { device = v.device; near = near; unsure = []; empty = empty } in
      record {
        has = has;
        long = w.long;
        each = λ tree leaf level tree_in leaf_in within.
            let node : ℕ = host_node (depth_of v.device tree) leaf level in
            w.each tree leaf level tree_in leaf_in within ∙ elim (cases_lt level (first_far near.levels tree)) [
              | inl near_level ↦ whole_near old tree leaf level (stored_at before tree node) near_level ∙ sym (whole_near new tree leaf level (stored_at after tree node) near_level)
              | inr low ↦
                  whole_far old tree leaf level (stored_at before tree node) low
                  ∙ ap (λ (n : ℕ). unwrap_or (left_by v.device n tree leaf level unsure (stored_at before tree node)) (empty tree leaf level)) same_len
                  ∙ sym (ap (λ (o : Option (List ℕ)). unwrap_or o (empty tree leaf level)) (carried tree leaf level tree_in leaf_in low within))
                  ∙ sym (whole_far new tree leaf level (stored_at after tree node) low)
            ];
      }

done_first : (xs ys : List (List ℕ)) → AreDone (xs ++ ys) → AreDone xs
done_first [] ys done = tt
done_first (x ∷ xs) ys done = (done.0, done_first xs ys done.1)

done_second : (xs ys : List (List ℕ)) → AreDone (xs ++ ys) → AreDone ys
done_second [] ys done = done
done_second (x ∷ xs) ys done = done_second xs ys done.1

module _ {B E : Type 0} (record_at : E → ℕ → ℕ → ℕ → List ℕ) (device_of : E → Sizes) (len_of : E → ℕ) (may_lie : Bool) (v : Scheme) (inner : B) (maker : E) (coming : Coming) (near : Near) (unsure : List LevelsMessage)
    (m : NearValue B E) (below : List Exchange) (far after whole : Host) (e_len : near.record_len ≡ record_len v) where
  abbrev before : NearValue B E
  before = record { inner = inner; empty = maker; device = v.device; near = near; unsure = unsure; coming = coming }

  abbrev Concluded : List Exchange → Type 0
  Concluded exchanges = (later : Host) × PlainRun may_lie v whole exchanges later × CompletesHost v (client_of record_at m) after later × FitsTogether device_of len_of m

  -- the host of whole paths has received the STOREs, and completes the host of levels before anything is sent
  abbrev pub IsTried : List PathRequest → (ℕ → ℕ → List ℕ) → LinkFault → Type 0
  IsTried requests r fault = (later : Host) × PlainRun may_lie v whole (store_tries fault requests) later × KeepsAll v (records_left v r (store_bodies requests)) later
      × AreWhole v (record { device = v.device; near = m.near; unsure = unsure ++ stores_among (map (far_of v.device near.levels (record_len v)) requests); empty = record_at maker }) far (records_left v r (store_bodies requests))
      × (m.near.levels ≡ near.levels) × (m.near.record_len ≡ record_len v)

  module _ (fits : FitsTogether device_of len_of before) (run : LevelsRun v (record_at maker) may_lie far below after)
      (m_device : m.device ≡ v.device) (m_empty : m.empty ≡ maker) (requests : List PathRequest) (paths : AllByRecursion (IsOfDevice v.device near.record_len) requests)
      (order : is_in_order requests ≡ true) (r : ℕ → ℕ → List ℕ) (all_tried : (fault : LinkFault) → IsTried requests r fault) where
    are_of : AllByRecursion (IsOfDevice v.device (record_len v)) requests
    are_of = subst (λ (n : ℕ). AllByRecursion (IsOfDevice v.device n) requests) e_len paths

    old_stores : AllByRecursion (IsFarStore v.device near.levels (record_len v)) unsure
    old_stores = subst (λ (n : ℕ). AllByRecursion (IsFarStore v.device near.levels n) unsure) e_len fits.are_stores

    abbrev messages : List LevelsMessage
    messages = map (far_of v.device near.levels (record_len v)) requests

    abbrev all_unsure : List LevelsMessage
    all_unsure = unsure ++ stores_among messages

    abbrev left : ℕ → ℕ → List ℕ
    left = records_left v r (store_bodies requests)

    abbrev client : List LevelsMessage → ClientRecords
    client u = record { device = v.device; near = m.near; unsure = u; empty = record_at maker }

    -- the numbers of the near records now

    levels_now : m.near.levels ≡ near.levels
    levels_now = (all_tried Closed).4

    len_now : m.near.record_len ≡ record_len v
    len_now = (all_tried Closed).5

    shallow_now : m.near.levels ≤ depth_of v.device 0
    shallow_now = let P : ℕ → Type 0 = λ n. n ≤ depth_of v.device 0 in subst P (sym levels_now) fits.leaves_far

    abbrev messages_now : List LevelsMessage
    messages_now = map (far_of v.device m.near.levels (record_len v)) requests

    same_messages : messages_now ≡ messages
    same_messages = ap (λ (n : ℕ). map (far_of v.device n (record_len v)) requests) levels_now

    unsure_is : unsure ++ stores_among messages_now ≡ all_unsure
    unsure_is = ap (λ (ms : List LevelsMessage). unsure ++ stores_among ms) same_messages

    are_stores : AllByRecursion (IsFarStore v.device m.near.levels (record_len v)) all_unsure
    are_stores =
        subst (λ (n : ℕ). AllByRecursion (IsFarStore v.device n (record_len v)) all_unsure) (sym levels_now)
        (all_join (IsFarStore v.device near.levels (record_len v)) unsure (stores_among messages) old_stores (stores_are v.device near.levels (record_len v) fits.leaves_far requests are_of))

    front_stores : AllByRecursion (IsFarStore v.device m.near.levels (record_len v)) unsure
    front_stores = subst (λ (n : ℕ). AllByRecursion (IsFarStore v.device n (record_len v)) unsure) (sym levels_now) old_stores

    front_inside : (n : LevelsMessage) → IsOneOf n unsure → IsOneOf n all_unsure
    front_inside n one = one_left n unsure (stores_among messages) one

    all_inside : (n : LevelsMessage) → IsOneOf n (stores_among messages_now) → IsOneOf n all_unsure
    all_inside n one = one_right n unsure (stores_among messages) (subst (λ (ms : List LevelsMessage). IsOneOf n (stores_among ms)) same_messages one)

    -- the bodies that are sent below
    abbrev sent : List (List ℕ)
    sent = map levels_body (unsure ++ messages_now)

    sent_is : map levels_body (unsure ++ map (far_of v.device near.levels near.record_len) requests) ≡ sent
    sent_is =
        ap (λ (n : ℕ). map levels_body (unsure ++ map (far_of v.device near.levels n) requests)) e_len
        ∙ ap (λ (ms : List LevelsMessage). map levels_body (unsure ++ ms)) (sym same_messages)

    unsure_so : unsure ++ stores_among (map (far_of v.device near.levels near.record_len) requests) ≡ all_unsure
    unsure_so = ap (λ (n : ℕ). unsure ++ stores_among (map (far_of v.device near.levels n) requests)) e_len

    -- what is concluded of the host of whole paths and of the link
    completes_so : (u : List LevelsMessage) (later : Host) → m.unsure ≡ u → AreWhole v (client u) after left → KeepsAll v left later → CompletesHost v (client_of record_at m) after later
    completes_so u later same w keeps = record {
      records = left;
      are = subst (λ (d : Sizes). AreWhole v (record { device = d; near = m.near; unsure = m.unsure; empty = record_at m.empty }) after left) (sym m_device)
          (subst (λ (x : List LevelsMessage). AreWhole v (record { device = v.device; near = m.near; unsure = x; empty = record_at m.empty }) after left) (sym same)
          (subst (λ (e : E). AreWhole v (record { device = v.device; near = m.near; unsure = u; empty = record_at e }) after left) (sym m_empty) w));
      keeps = keeps;
    }

    fits_so : (u : List LevelsMessage) → m.unsure ≡ u → AllByRecursion (IsFarStore v.device m.near.levels (record_len v)) u → FitsTogether device_of len_of m
    fits_so u same are = record {
      same_device = ap device_of m_empty ∙ fits.same_device ∙ sym m_device;
      same_len = ap len_of m_empty ∙ fits.same_len ∙ e_len ∙ sym len_now;
      leaves_far = let P : Sizes → Type 0 = λ d. m.near.levels ≤ depth_of d 0 in subst P (sym m_device) shallow_now;
      are_stores = subst (λ (d : Sizes). AllByRecursion (IsFarStore d m.near.levels m.near.record_len) m.unsure) (sym m_device)
          (subst (λ (n : ℕ). AllByRecursion (IsFarStore v.device m.near.levels n) m.unsure) (sym len_now)
          (subst (λ (x : List LevelsMessage). AllByRecursion (IsFarStore v.device m.near.levels (record_len v)) x) (sym same) are));
    }

    -- the batch has a fault, or memory runs out
    faulted : (fault : LinkFault) → m.unsure ≡ all_unsure → AreWhole v (client all_unsure) after left → Concluded (store_tries fault requests)
    faulted fault same w =
        let t = all_tried fault in (t.0, t.1, completes_so all_unsure t.0 same w t.2, fits_so all_unsure same are_stores)

    after_tries : (exchanges : List Exchange) (from to : Host) → AreAmong (bodies_of exchanges) sent → LevelsRun v (record_at maker) may_lie from exchanges to → AreWhole v (client all_unsure) from left
        → AreWhole v (client all_unsure) to left
    after_tries exchanges from to among tries w =
        tries_step v m.near all_unsure (record_at maker) len_now shallow_now are_stores left may_lie unsure requests exchanges from to front_inside are_of all_inside among tries w

    pub lost : (fault : LinkFault) → AreAmong (bodies_of below) sent → m.unsure ≡ all_unsure → Concluded (store_tries fault requests)
    lost fault among same = faulted fault same (after_tries below far after among run (all_tried fault).3)

    -- the batch breaks off once the first requests, which are FETCHes, have been given their answers
    pub broke : (fault : LinkFault) (front rest : List PathRequest) → requests ≡ front ++ rest → only_fetches front ≡ true → (answers given : List (List ℕ)) → BreaksOff (map levels_body messages_now) answers below
        → AreAnswered (client all_unsure) None front answers given → m.unsure ≡ all_unsure → Concluded (store_tries fault requests ++ answered (map path_body front) given)
    broke fault front rest split only answers given b are same =
        let t = all_tried fault in
        let R : Host → Exchange → Host → Type 0 = λ h e g. IsLevelsCall v (record_at maker) may_lie h e.0 e.1 g in
        let Plain : Host → Exchange → Host → Type 0 = λ h e g. IsPlainCall may_lie v h e.0 e.1 g in
        let firsts : List Exchange = answered (map levels_body (map (far_of v.device m.near.levels (record_len v)) front)) answers in
        let count = host_count (client all_unsure) None front answers given are in
        let front_is : answered (map levels_body messages_now) answers ≡ firsts =
        ap (λ (rs : List PathRequest). answered (map levels_body (map (far_of v.device m.near.levels (record_len v)) rs)) answers) split
        ∙ ap (λ (ms : List LevelsMessage). answered (map levels_body ms) answers) (map-append (far_of v.device m.near.levels (record_len v)) front rest)
        ∙ ap (λ (bs : List (List ℕ)). answered bs answers) (map-append levels_body (map (far_of v.device m.near.levels (record_len v)) front) (map (far_of v.device m.near.levels (record_len v)) rest))
        ∙ answered_front (map levels_body (map (far_of v.device m.near.levels (record_len v)) front)) (map levels_body (map (far_of v.device m.near.levels (record_len v)) rest)) answers
        (count ∙ sym (length-map front (far_of v.device m.near.levels (record_len v))) ∙ sym (length-map (map (far_of v.device m.near.levels (record_len v)) front) levels_body)) in
        let all : LevelsRun v (record_at maker) may_lie far ((b.0 ++ firsts) ++ b.1) after =
        subst (λ (es : List Exchange). LevelsRun v (record_at maker) may_lie far ((b.0 ++ es) ++ b.1) after) front_is (subst (λ (es : List Exchange). LevelsRun v (record_at maker) may_lie far es after) b.4 run) in
        let last = folds_split R far after (b.0 ++ firsts) b.1 all in
        let first = folds_split R far last.0 b.0 firsts last.1 in
        let step = λ (exchanges : List Exchange) (from to : Host) (among : AreAmong (bodies_of exchanges) (map levels_body messages_now)) (ran : LevelsRun v (record_at maker) may_lie from exchanges to) (w : AreWhole v (client all_unsure) from left).
        tries_step v m.near all_unsure (record_at maker) len_now shallow_now are_stores left may_lie [] requests exchanges from to (λ x one. absurd one) are_of all_inside among ran w in
        let w = step b.0 far first.0 b.2 first.1 t.3 in
        let block = fetch_block v m.near all_unsure (record_at maker) len_now shallow_now are_stores left may_lie None front answers given first.0 last.0 t.0 only
        (all_first (IsOfDevice v.device (record_len v)) front rest (subst (AllByRecursion (IsOfDevice v.device (record_len v))) split are_of)) first.2 are w t.2 in (
          t.0,
          folds_join Plain whole t.0 t.0 (store_tries fault requests) (answered (map path_body front) given) t.1 block.0,
          completes_so all_unsure t.0 same (step b.1 last.0 after b.3 last.2 block.1) t.2,
          fits_so all_unsure same are_stores,
        )

    -- the batch has answers
    module _ (answers : List (List ℕ)) (tries : List Exchange) (count : length answers ≡ length sent) (among : AreAmong (bodies_of tries) sent) (is : below ≡ tries ++ answered sent answers) where
      abbrev n : ℕ
      n = length unsure

      abbrev acks : List (List ℕ)
      acks = take n answers

      abbrev rest : List (List ℕ)
      rest = drop n answers

      abbrev Runs : Host → List Exchange → Host → Type 0
      Runs from exchanges to = LevelsRun v (record_at maker) may_lie from exchanges to

      sent_long : length sent ≡ n + length requests
      sent_long =
          length-map (unsure ++ messages_now) levels_body ∙ length-append unsure messages_now ∙ ap (λ (k : ℕ). n + k) (length-map requests (far_of v.device m.near.levels (record_len v)))

      acks_long : length acks ≡ n
      acks_long = length-take-le n answers (omega (arith, count, sent_long))

      rest_long : length rest ≡ length requests
      rest_long = omega (arith, length-drop n answers, count, sent_long)

      parts : answered sent answers ≡ answered (map levels_body unsure) acks ++ answered (map levels_body messages_now) rest
      parts =
          ap (λ (bs : List (List ℕ)). answered bs answers) (map-append levels_body unsure messages_now)
          ∙ ap (answered (map levels_body unsure ++ map levels_body messages_now)) (sym (take-append-drop n answers))
          ∙ answered_join (map levels_body unsure) acks (map levels_body messages_now) rest (acks_long ∙ sym (length-map unsure levels_body))

      abbrev Split : Type 0
      Split = (one : Host) × (two : Host) × Runs far tries one × Runs one (answered (map levels_body unsure) acks) two × Runs two (answered (map levels_body messages_now) rest) after

      split : Split
      split =
          let R : Host → Exchange → Host → Type 0 = λ h e g. IsLevelsCall v (record_at maker) may_lie h e.0 e.1 g in
          let whole_run : Runs far (tries ++ (answered (map levels_body unsure) acks ++ answered (map levels_body messages_now) rest)) after =
          subst (λ (es : List Exchange). Runs far (tries ++ es) after) parts (subst (λ (es : List Exchange). Runs far es after) is run) in
          let first = folds_split R far after tries (answered (map levels_body unsure) acks ++ answered (map levels_body messages_now) rest) whole_run in
          let second = folds_split R first.0 after (answered (map levels_body unsure) acks) (answered (map levels_body messages_now) rest) first.2 in
          (first.0, second.0, first.1, second.1, second.2)

      first_whole : AreWhole v (client all_unsure) split.0 left
      first_whole = after_tries tries far split.0 among split.2 (all_tried Closed).3

      second_whole : AreWhole v (client all_unsure) split.1 left
      second_whole = acks_step v m.near all_unsure (record_at maker) len_now shallow_now are_stores left may_lie unsure acks split.0 split.1 front_inside split.3 first_whole

      starved : m.unsure ≡ all_unsure → Concluded (store_tries OutOfMemory requests)
      starved same = faulted OutOfMemory same
          (tries_step v m.near all_unsure (record_at maker) len_now shallow_now are_stores left may_lie [] requests (answered (map levels_body messages_now) rest) split.1 after (λ x one. absurd one) are_of all_inside
          (answered_among (map levels_body messages_now) rest (map levels_body messages_now) (λ x k. k)) split.4 second_whole)

      -- the host of whole paths answers the requests in one of three ways
      abbrev Block : List (List ℕ) → Host → Type 0
      Block given from = (later : Host) × PlainRun may_lie v from (answered (map path_body requests) given) later × KeepsAll v left later × AreWhole v (client all_unsure) after left

      joined : (given : List (List ℕ)) (u : List LevelsMessage) → m.unsure ≡ u → AllByRecursion (IsFarStore v.device m.near.levels (record_len v)) u → AreWhole v (client u) after left → Block given (all_tried Closed).0
          → Concluded (path_exchanges requests (Ok given))
      joined given u same are w block =
          let t = all_tried Closed in
          let R : Host → Exchange → Host → Type 0 = λ h e g. IsPlainCall may_lie v h e.0 e.1 g in (
            block.0,
            folds_join R whole t.0 block.0 (store_tries Closed requests) (answered (map path_body requests) given) t.1 block.1,
            completes_so u block.0 same w block.2,
            fits_so u same are,
          )

      in_order_block : (refusal : Option (List ℕ)) (given : List (List ℕ)) → ((from next : Host) (t x : ℕ) (bytes : List ℕ) → IsOfDevice v.device (record_len v) (StorePath t x bytes) → Takes from (store_body t x bytes) next
          → IsPlainCall may_lie v from (store_body t x bytes) (Ok (store_answer refusal)) next) → AreAnswered (client all_unsure) refusal requests rest given → Block given (all_tried Closed).0
      in_order_block refusal given tells are =
          order_block v m.near all_unsure (record_at maker) len_now shallow_now are_stores left may_lie refusal tells requests rest given split.1 after (all_tried Closed).0 order are_of all_inside split.4 are second_whole
          (all_tried Closed).2 (twice v (store_bodies requests) r)

      acknowledged : (given : List (List ℕ)) → AreDone (acks ++ store_answers requests rest) → AreAnswered (client all_unsure) None requests rest given → m.unsure ≡ [] → Concluded (path_exchanges requests (Ok given))
      acknowledged given done are same =
          let block = in_order_block None given (λ from next t x bytes of takes. inl (Done, tt, refl, takes)) are in
          let front = acks_carried v m.near.levels shallow_now (record_at maker) may_lie unsure acks split.0 split.1 front_stores acks_long (done_first acks (store_answers requests rest) done) first_whole.has split.3 in
          let back = batch_carried v m.near.levels shallow_now (record_at maker) may_lie requests rest split.1 after are_of rest_long (done_second acks (store_answers requests rest) done) front.0 split.4 in
          let carried : (tree leaf level : ℕ) → tree < trees_of v.device → leaf < 2 ^ depth_of v.device tree → first_far m.near.levels tree ≤ level → level ≤ depth_of v.device tree
          → stored_at after tree (host_node (depth_of v.device tree) leaf level)
          ≡ left_by v.device (record_len v) tree leaf level all_unsure (stored_at split.0 tree (host_node (depth_of v.device tree) leaf level)) =
          λ tree leaf level tree_in leaf_in low within.
          back.1 tree leaf level tree_in leaf_in low within
          ∙ ap (left_by v.device (record_len v) tree leaf level (stores_among messages_now)) (front.1 tree leaf level tree_in leaf_in low within)
          ∙ sym (left_append v.device (record_len v) tree leaf level unsure (stores_among messages_now) (stored_at split.0 tree (host_node (depth_of v.device tree) leaf level)))
          ∙ ap (λ (u : List LevelsMessage). left_by v.device (record_len v) tree leaf level u (stored_at split.0 tree (host_node (depth_of v.device tree) leaf level))) unsure_is in
          joined given [] same tt (none_unsure v m.near all_unsure (record_at maker) len_now left split.0 after first_whole back.0 carried) block

      refused : (b : Bool) (refusal : List ℕ) (given : List (List ℕ)) → may_lie ≡ b → IsRefusal (acks ++ store_answers requests rest) (Some refusal) → AreAnswered (client all_unsure) (Some refusal) requests rest given
          → m.unsure ≡ all_unsure → Concluded (path_exchanges requests (Ok given))
      refused true refusal given lies is are same =
          let block = in_order_block (Some refusal) given (λ from next t x bytes of takes. store_told v may_lie from next t x bytes refusal lies of takes) are in
          joined given all_unsure same are_stores block.3 block
      refused false refusal given honest is are same =
          let one : LevelsRun v (record_at maker) false split.0 (answered (map levels_body unsure) acks) split.1 = subst (λ (b : Bool). LevelsRun v (record_at maker) b split.0 (answered (map levels_body unsure) acks) split.1) honest split.3 in
          let two : LevelsRun v (record_at maker) false split.1 (answered (map levels_body messages_now) rest) after = subst (λ (b : Bool). LevelsRun v (record_at maker) b split.1 (answered (map levels_body messages_now) rest) after) honest split.4 in
          let front = acks_are v m.near.levels (record_at maker) shallow_now unsure acks split.0 split.1 front_stores acks_long first_whole.has one in
          let back = batch_acks v m.near.levels (record_at maker) shallow_now requests rest split.1 after are_of rest_long front.1 two in
          let all = all_join (λ (a : List ℕ). (a ≡ done_answer) ⊎ (a ≡ refusal_answer 8)) acks (store_answers requests rest) front.0 back in
          let full : refusal ≡ refusal_answer 8 = full_by v m.near.levels (record_at maker) shallow_now (acks ++ store_answers requests rest) refusal all is.0 is.1 in
          let block = full_block v m.near all_unsure (record_at maker) len_now shallow_now are_stores left may_lie (Some refusal) (ap refused_with full) requests rest given split.1 after (all_tried Closed).0 are_of all_inside split.4 are
          second_whole (all_tried Closed).2 in
          joined given all_unsure same are_stores block.3 block

      pub told : (refusal : Option (List ℕ)) (given : List (List ℕ)) → IsRefusal (acks ++ store_answers requests rest) refusal → AreAnswered (client all_unsure) refusal requests rest given
          → m.unsure ≡ (if is_some refusal then all_unsure else []) → Concluded (path_exchanges requests (Ok given))
      told None given is are same = acknowledged given is are same
      told (Some refusal) given is are same = refused may_lie refusal given refl is are same

module _ {B E : Type 0} (batches : B → List (List ℕ) → BatchOutcome → List Exchange → B → Type 0) (record_at : E → ℕ → ℕ → ℕ → List ℕ) (device_of : E → Sizes) (len_of : E → ℕ)
    (are_batches : AreBatches batches) (may_lie : Bool) (v : Scheme) (m : NearValue B E) (bodies : List (List ℕ)) (o : BatchOutcome) (exchanges below : List Exchange) (far after whole : Host) where
  abbrev Conclusion : Type 0
  Conclusion = (later : Host) × PlainRun may_lie v whole exchanges later × CompletesHost v (client_of record_at m) after later × FitsTogether device_of len_of m

  abbrev Claim : NearValue B E → Type 0
  Claim l = l.near.record_len ≡ record_len v → FitsTogether device_of len_of l → CompletesHost v (client_of record_at l) far whole → NearBatch batches record_at l bodies o exchanges below m
      → LevelsRun v (record_at l.empty) may_lie far below after → Conclusion

  module _ (inner : B) (maker : E) (coming : Coming) (near : Near) (unsure : List LevelsMessage) where
    abbrev link : NearValue B E
    link = record { inner = inner; empty = maker; device = v.device; near = near; unsure = unsure; coming = coming }

    module _ (e_len : near.record_len ≡ record_len v) (fits : FitsTogether device_of len_of link)
        (run : LevelsRun v (record_at maker) may_lie far below after) (m_device : m.device ≡ v.device) (m_empty : m.empty ≡ maker) where
      -- the batch is sent
      module _ (s : Sends batches record_at link bodies o exchanges below m) (r : ℕ → ℕ → List ℕ)
          (all_tried : (fault : LinkFault) → IsTried record_at device_of len_of may_lie v inner maker coming near unsure m below far after whole e_len s.requests r fault) where
        abbrev Paths : BatchOutcome → Type 0
        Paths outcome = (later : Host) × PlainRun may_lie v whole (path_exchanges s.requests outcome) later × CompletesHost v (client_of record_at m) after later × FitsTogether device_of len_of m

        abbrev stores : List LevelsMessage
        stores = unsure ++ stores_among (map (far_of v.device near.levels (record_len v)) s.requests)

        same_unsure : unsure_with batches record_at link s.requests ≡ stores
        same_unsure = unsure_so record_at device_of len_of may_lie v inner maker coming near unsure m below far after whole e_len fits run m_device m_empty s.requests s.paths s.in_order r all_tried

        same_sent : map levels_body (unsure ++ far_messages batches record_at link s.requests) ≡ map levels_body (unsure ++ map (far_of v.device m.near.levels (record_len v)) s.requests)
        same_sent = sent_is record_at device_of len_of may_lie v inner maker coming near unsure m below far after whole e_len fits run m_device m_empty s.requests s.paths s.in_order r all_tried

        batch_of : (outcome : BatchOutcome) → batches inner (map levels_body (unsure ++ far_messages batches record_at link s.requests)) outcome below m.inner
            → IsBatch (map levels_body (unsure ++ map (far_of v.device m.near.levels (record_len v)) s.requests)) outcome below
        batch_of outcome batch =
            subst (λ (bs : List (List ℕ)). IsBatch bs outcome below) same_sent
            (are_batches inner m.inner (map levels_body (unsure ++ far_messages batches record_at link s.requests)) outcome below batch)

        gives_paths : (outcome : BatchOutcome) → batches inner (map levels_body (unsure ++ far_messages batches record_at link s.requests)) outcome below m.inner
            → MatchResult outcome (λ answers. GivesWhole batches record_at link s.requests answers o m ⊎ ((o ≡ Err OutOfMemory) × (m.unsure ≡ unsure_with batches record_at link s.requests)))
            (λ fault. (o ≡ Err fault) × (m.unsure ≡ unsure_with batches record_at link s.requests))
            → Paths o
        gives_paths (Err fault) batch gives =
            subst Paths (sym gives.0)
            (lost record_at device_of len_of may_lie v inner maker coming near unsure m below far after whole e_len fits run m_device m_empty s.requests s.paths s.in_order r all_tried fault (batch_of (Err fault) batch)
            (gives.1 ∙ same_unsure))
        gives_paths (Ok answers) batch (inr memory) =
            let b = batch_of (Ok answers) batch in
            subst Paths (sym memory.0)
            (starved record_at device_of len_of may_lie v inner maker coming near unsure m below far after whole e_len fits run m_device m_empty s.requests s.paths s.in_order r all_tried answers b.1 b.0 b.2 b.3
            (memory.1 ∙ same_unsure))
        gives_paths (Ok answers) batch (inl gives) =
            let b = batch_of (Ok answers) batch in
            let client = λ (d : Sizes) (u : List LevelsMessage) (e : E). let x : ClientRecords = record { device = d; near = m.near; unsure = u; empty = record_at e } in x in
            let rest = drop (length unsure) answers in
            let are = subst (λ (e : E). AreAnswered (client v.device stores e) gives.refusal s.requests rest gives.given) m_empty
            (subst (λ (u : List LevelsMessage). AreAnswered (client v.device u m.empty) gives.refusal s.requests rest gives.given) same_unsure
            (subst (λ (d : Sizes). AreAnswered (client d (unsure_with batches record_at link s.requests) m.empty) gives.refusal s.requests rest gives.given) m_device gives.are)) in
            subst Paths (sym gives.reported)
            (told record_at device_of len_of may_lie v inner maker coming near unsure m below far after whole e_len fits run m_device m_empty s.requests s.paths s.in_order r all_tried answers b.1 b.0 b.2 b.3
            gives.refusal gives.given gives.refused are (gives.unsure ∙ ap (λ (u : List LevelsMessage). if is_some gives.refusal then u else []) same_unsure))

        pub sends : Conclusion
        sends =
            subst (λ (es : List Exchange). (later : Host) × PlainRun may_lie v whole es later × CompletesHost v (client_of record_at m) after later × FitsTogether device_of len_of m) (sym s.as_paths)
            (gives_paths s.outcome s.sent s.gives)

  -- by the STOREs that are unsure
  module _ (inner : B) (maker : E) (coming : Coming) (near : Near) (unsure : List LevelsMessage) where
    module _ (e_len : near.record_len ≡ record_len v) (fits : FitsTogether device_of len_of (link inner maker coming near unsure)) (c : CompletesHost v (client_of record_at (link inner maker coming near unsure)) far whole)
        (run : LevelsRun v (record_at maker) may_lie far below after) (m_device : m.device ≡ v.device) (m_empty : m.empty ≡ maker) where
      -- the host of whole paths receives the STOREs
      all_tried : (requests : List PathRequest) → AllByRecursion (IsOfDevice v.device near.record_len) requests → FoldsTo {P = Near} (TakesNear v.device) near requests m.near → (fault : LinkFault)
          → IsTried record_at device_of len_of may_lie v inner maker coming near unsure m below far after whole e_len requests c.records fault
      all_tried requests paths stored fault =
          tried v (record_at maker) far near.levels fits.leaves_far may_lie fault requests near m.near unsure c.records whole (subst (λ (n : ℕ). AllByRecursion (IsOfDevice v.device n) requests) e_len paths) refl e_len stored c.are c.keeps

      sends_all : Sends batches record_at (link inner maker coming near unsure) bodies o exchanges below m → Conclusion
      sends_all s = sends inner maker coming near unsure e_len fits run m_device m_empty s c.records (all_tried s.requests s.paths s.stored)

      -- the unsure STOREs are in the batch again
      sends_again : SendsAgain batches record_at (link inner maker coming near unsure) bodies o exchanges below m → Conclusion
      sends_again a =
          let s = a.sends in
          let messages : List LevelsMessage = stores_among (map (far_of v.device near.levels (record_len v)) s.requests) in
          let inside : (message : LevelsMessage) → IsOneOf message unsure → IsOneOf message messages =
          λ message one. subst (λ (n : ℕ). IsOneOf message (stores_among (map (far_of v.device near.levels n) s.requests))) e_len (a.again message one) in
          let fit : FitsTogether device_of len_of (link inner maker coming near []) = record { same_device = fits.same_device; same_len = fits.same_len; leaves_far = fits.leaves_far; are_stores = tt } in
          sends inner maker coming near [] e_len fit run m_device m_empty s c.records
          (λ fault. let t = all_tried s.requests s.paths s.stored fault in
          (t.0, t.1, t.2, without_old v m.near (record_at maker) (records_left v c.records (store_bodies s.requests)) unsure messages far inside t.3, t.4, t.5))

      -- a batch whose answers are taken one by one breaks off
      stops_short : StopsShort batches record_at (link inner maker coming near unsure) bodies o exchanges below m → Conclusion
      stops_short s =
          let messages : List LevelsMessage = stores_among (map (far_of v.device near.levels (record_len v)) s.requests) in
          let inside : (message : LevelsMessage) → IsOneOf message unsure → IsOneOf message messages =
          λ message one. subst (λ (n : ℕ). IsOneOf message (stores_among (map (far_of v.device near.levels n) s.requests))) e_len (s.again message one) in
          let fit : FitsTogether device_of len_of (link inner maker coming near []) = record { same_device = fits.same_device; same_len = fits.same_len; leaves_far = fits.leaves_far; are_stores = tt } in
          let tried_so : (fault : LinkFault) → IsTried record_at device_of len_of may_lie v inner maker coming near [] m below far after whole e_len s.requests c.records fault =
          λ fault. let t = all_tried s.requests s.paths s.stored fault in
          (t.0, t.1, t.2, without_old v m.near (record_at maker) (records_left v c.records (store_bodies s.requests)) unsure messages far inside t.3, t.4, t.5) in
          let same_sent = sent_is record_at device_of len_of may_lie v inner maker coming near [] m below far after whole e_len fit run m_device m_empty s.requests s.paths s.in_order c.records tried_so in
          let same_unsure = unsure_so record_at device_of len_of may_lie v inner maker coming near [] m below far after whole e_len fit run m_device m_empty s.requests s.paths s.in_order c.records tried_so in
          let unsure_now : m.unsure ≡ messages = s.unsure ∙ same_unsure in
          let broke_so : BreaksOff (map levels_body (map (far_of v.device m.near.levels (record_len v)) s.requests)) s.answers below = subst (λ (bs : List (List ℕ)). BreaksOff bs s.answers below) same_sent s.broke in
          let client = λ (d : Sizes) (u : List LevelsMessage) (e : E). let x : ClientRecords = record { device = d; near = m.near; unsure = u; empty = record_at e } in x in
          let are = subst (λ (e : E). AreAnswered (client v.device messages e) None s.front s.answers s.given) m_empty
          (subst (λ (u : List LevelsMessage). AreAnswered (client v.device u m.empty) None s.front s.answers s.given) unsure_now
          (subst (λ (d : Sizes). AreAnswered (client d m.unsure m.empty) None s.front s.answers s.given) m_device s.are)) in
          subst (λ (es : List Exchange). (later : Host) × PlainRun may_lie v whole es later × CompletesHost v (client_of record_at m) after later × FitsTogether device_of len_of m) (sym s.as_paths)
          (broke record_at device_of len_of may_lie v inner maker coming near [] m below far after whole e_len fit run m_device m_empty s.requests s.paths s.in_order c.records tried_so s.fault s.front s.rest s.split s.fetches s.answers s.given
          broke_so are unsure_now)

      -- nothing is sent, and the link is as it was but for the link below
      idles : exchanges ≡ [] → below ≡ [] → m ≡ record (link inner maker coming near unsure) { inner = m.inner; near = record near { noted = m.near.noted } } → Conclusion
      idles none none_below same =
          let still : far ≡ after = subst (λ (es : List Exchange). LevelsRun v (record_at maker) may_lie far es after) none_below run in
          let here : CompletesHost v (client_of record_at (link inner maker coming near unsure)) after whole = subst (λ (h : Host). CompletesHost v (client_of record_at (link inner maker coming near unsure)) h whole) still c in
          let moved : NearValue B E = record (link inner maker coming near unsure) { inner = m.inner; near = record near { noted = m.near.noted } } in
          let there : CompletesHost v (client_of record_at moved) after whole =
          record { records = here.records; are = record { has = here.are.has; long = here.are.long; each = here.are.each }; keeps = here.keeps } in
          let now : CompletesHost v (client_of record_at m) after whole = subst (λ (x : NearValue B E). CompletesHost v (client_of record_at x) after whole) (sym same) there in
          let fit : FitsTogether device_of len_of moved =
          record { same_device = fits.same_device; same_len = fits.same_len; leaves_far = fits.leaves_far; are_stores = fits.are_stores } in
          (whole, subst (λ (es : List Exchange). PlainRun may_lie v whole es whole) (sym none) refl, now, subst (FitsTogether device_of len_of) (sym same) fit)

      any_batch : Sends batches record_at (link inner maker coming near unsure) bodies o exchanges below m
          ⊎ (SendsAgain batches record_at (link inner maker coming near unsure) bodies o exchanges below m
          ⊎ (Declines batches record_at (link inner maker coming near unsure) bodies o exchanges below m
          ⊎ (Idles batches record_at (link inner maker coming near unsure) bodies o exchanges below m ⊎ StopsShort batches record_at (link inner maker coming near unsure) bodies o exchanges below m))) → Conclusion
      any_batch (inl s) = sends_all s
      any_batch (inr (inl a)) = sends_again a
      any_batch (inr (inr (inl d))) = idles d.none d.none_below
          (d.same ∙ ap (λ (x : NearValue B E). let y : NearValue B E = record (link inner maker coming near unsure) { inner = x.inner; near = record near { noted = x.near.noted } } in y) (sym d.same))
      any_batch (inr (inr (inr (inl i)))) = idles i.none i.none_below i.same
      any_batch (inr (inr (inr (inr s)))) = stops_short s

    claimed : Claim (link inner maker coming near unsure)
    claimed e_len fits c batch run = any_batch e_len fits c run batch.0 batch.1 batch.2

pub completes_paths : {B E : Type 0} (batches : B → List (List ℕ) → BatchOutcome → List Exchange → B → Type 0) (record_at : E → ℕ → ℕ → ℕ → List ℕ) (device_of : E → Sizes) (len_of : E → ℕ)
    → CompletesPaths batches record_at device_of len_of
completes_paths {B} {E} batches record_at device_of len_of are_batches may_lie v l m bodies o exchanges below far after whole device len fits c batch run =
    let same : l ≡ record l { device = v.device } = ap (λ (d : Sizes). let x : NearValue B E = record l { device = d } in x) device in
    subst (Claim batches record_at device_of len_of are_batches may_lie v m bodies o exchanges below far after whole) (sym same)
    (claimed batches record_at device_of len_of are_batches may_lie v m bodies o exchanges below far after whole l.inner l.empty l.coming l.near l.unsure) len fits c batch run
