-- The answered messages of a batch, as a host of whole paths answers its requests.
use Rattle.std.proofs.Common.{lit≤, ◌≡◌, ◌≢◌, ◌⊎◌, ℕ, ◌+◌, ◌*◌, ◌^◌, ◌<◌, ◌≤◌, arith, Bool, true, false, List, [], ◌∷◌, ◌++◌, length, map, drop, take, Option, Ok, refl, sym, ap, ◌∙◌, subst, inl, inr}
use Rattle.std.specs.List.{AllByRecursion}
use Rattle.std.specs.Int.{w32, to_be_bytes, from_be_bytes}
use Rattle.std.specs.Prelude.{MatchOption, nat_le}
use Rattle.std.proofs.lemmas.Bool.{le-leb}
use Rattle.std.proofs.lemmas.List.{drop_at, length-append, take_at}
use Rattle.std.proofs.lemmas.Nat.{from_be_bytes-to_be_bytes_4}
use Rattle.oram_geometry.specs.Sizes.{depth_of}
use Rattle.oram_host.specs.Answers.{Answers}
use Rattle.oram_host.specs.Host.{Host, Kept}
use Rattle.oram_host.specs.Refusals.{Refuses, RefusesStore}
use Rattle.oram_host.specs.Service.{Serves}
use Rattle.oram_host.specs.declared.refusals.HostRefusal.TheVariants.{NoShape, OutOfMemory}
use Rattle.oram_host_laws.specs.Honest.{KeepsAll, Takes}
use Rattle.oram_levels.specs.Messages.{FetchLevels, LevelsMessage, StoreLevels, levels_body}
use Rattle.oram_link_laws.specs.Repair.{AreAmong, IsAmong}
use Rattle.oram_link_laws.specs.Runs.{Exchange, bodies_of}
use Rattle.oram_link_laws.proofs.Put.{first}
use Rattle.oram_semantics.specs.Moves.{records_after}
use Rattle.oram_semantics.specs.Scheme.{Scheme, record_len}
use Rattle.oram_session.specs.Honesty.{IsHonestCall}
use Rattle.oram_session.specs.Outcome.{Outcome}
use Rattle.oram_wire.specs.HostBodies.{HasNumbers, IsMisfit}
use Rattle.oram_wire.specs.HostMessages.{answer_body, done_answer, refusal_answer, request_body, store_body}
use Rattle.oram_wire.specs.declared.host_messages.HostAnswer.TheVariants.{Refused}
use Rattle.oram_wire.specs.declared.host_messages.HostRequest.{HostRequest}
use Rattle.oram_wire.specs.declared.host_messages.HostRequest.TheVariants.{Fetch, Put, Shape, Store}
use Rattle.oram_rounds.specs.Batches.{answered}
use Rattle.oram_rounds.specs.CatchUp.{IsPlainCall, PlainRun, left_by}
use Rattle.oram_rounds.proofs.KeptPaths.{leaf_small}
use Rattle.oram_near.specs.Completion.{ClientRecords}
use Rattle.oram_near.specs.Law.{AreWhole, HasFarLevels}
use Rattle.oram_near.specs.LevelsHost.{IsLevelsCall, LevelsRun}
use Rattle.oram_near.specs.Near.{Near}
use Rattle.oram_near.specs.NearCalls.{IsOneOf, AreAnswered, is_in_order, only_fetches, store_answer, store_answers, stores_among, stores_first}
use Rattle.oram_near.specs.PathRequests.{FetchPath, IsFarStore, IsOfDevice, PathRequest, StorePath, far_of, first_far, path_body}
use Rattle.oram_near.proofs.FarAnswers.{fetch_answer_is, received, received_or_not, store_answer_is}
use Rattle.oram_near.proofs.FarHeard.{fetch_heard, has_now, heard}
use Rattle.oram_near.proofs.Kernel.{body_of_one, of_one}
use Rattle.oram_near.proofs.PathHost.{carries, store_bodies}
use Rattle.oram_near.proofs.Sent.{stores_are}
use Rattle.oram_near.proofs.Told.{fetch_told}

-- a host without room refuses a STORE

only_store : (Q : HostRequest → Type 0) (tree leaf : ℕ) (records : List ℕ) → leaf < 2 ^ 32 → Q (Store tree leaf records)
    → (message : HostRequest) → HasNumbers message → store_body tree leaf records ≡ request_body message → Q message
only_store Q tree leaf records fits is (Fetch t l) numbers e = absurd (let two : 2 ≡ 1 = ap first e in omega arith)
only_store Q tree leaf records fits is (Put t n bytes) numbers e = absurd (let two : 2 ≡ 3 = ap first e in omega arith)
only_store Q tree leaf records fits is (Shape t d l) numbers e = absurd (let two : 2 ≡ 4 = ap first e in omega arith)
only_store Q tree leaf records fits is (Store t l r) numbers e =
    let same_tree : tree ≡ t = ap (λ (b : List ℕ). first (drop 1 b)) e in
    let behind : to_be_bytes w32 leaf ++ records ≡ to_be_bytes w32 l ++ r = ap (λ (b : List ℕ). drop 2 b) e in
    let number : to_be_bytes w32 leaf ≡ to_be_bytes w32 l = sym (take_at (to_be_bytes w32 leaf) records 4 refl) ∙ ap (take 4) behind ∙ take_at (to_be_bytes w32 l) r 4 refl in
    let same_leaf : leaf ≡ l = sym (from_be_bytes-to_be_bytes_4 leaf fits) ∙ ap (from_be_bytes w32) number ∙ from_be_bytes-to_be_bytes_4 l numbers in
    let same_records : records ≡ r = sym (drop_at (to_be_bytes w32 leaf) records 4 refl) ∙ ap (drop 4) behind ∙ drop_at (to_be_bytes w32 l) r 4 refl in
    subst (λ (x : ℕ). Q (Store x l r)) same_tree (subst (λ (x : ℕ). Q (Store tree x r)) same_leaf (subst (λ (x : List ℕ). Q (Store tree leaf x)) same_records is))

no_misfit : (tree leaf : ℕ) (records : List ℕ) → IsMisfit (store_body tree leaf records) → ⊥
no_misfit tree leaf records misfit =
    let six : length (store_body tree leaf records) ≡ 6 + length records = omega (arith, length-append (to_be_bytes w32 leaf) records) in
    let long : nat_le 6 (length (store_body tree leaf records)) ≡ true = le-leb 6 (length (store_body tree leaf records)) (omega (arith, six)) in
    let both : true ≡ false = sym long ∙ misfit.1 in cc

refuses_store : (v : Scheme) (r : ℕ → ℕ → List ℕ) (host : Host) (t x : ℕ) (bytes : List ℕ) → IsOfDevice v.device (record_len v) (StorePath t x bytes) → KeepsAll v r host
    → Serves host (store_body t x bytes) (Refused 8) host
refuses_store v r host t x bytes of keeps =
    let k = keeps t of.0 in
    let P : ℕ → Type 0 = λ d. x < 2 ^ d in
    let whole : length bytes ≡ (k.kept.depth + 1) * k.kept.record_len =
    of.2 ∙ ap (λ (d : ℕ). (d + 1) * record_len v) (sym k.depth) ∙ ap (λ (n : ℕ). (k.kept.depth + 1) * n) (sym k.record_len) in
    let refuses : Refuses host (Store t x bytes) OutOfMemory =
    subst (λ (o : Option Kept). MatchOption o (OutOfMemory ≡ NoShape) (λ kept. RefusesStore kept x bytes OutOfMemory)) (sym k.there) (subst P (sym k.depth) of.1, whole) in
    record {
      request = only_store (λ message. Answers host message (Refused 8) host) t x bytes (leaf_small v t x of.1) (OutOfMemory, refl, refuses, refl);
      op = λ e. absurd cc;
      misfit = λ m. absurd (no_misfit t x bytes m);
    }

-- only FETCHes have no STOREs
no_stores : (requests : List PathRequest) → only_fetches requests ≡ true → store_bodies requests ≡ []
no_stores [] only = refl
no_stores (FetchPath tree leaf ∷ requests) only = no_stores requests only
no_stores (StorePath tree leaf records ∷ requests) only = absurd (let q : false ≡ true = only in cc)

-- one of two lists
one_either : (m : LevelsMessage) (xs ys : List LevelsMessage) → IsOneOf m (xs ++ ys) → IsOneOf m xs ⊎ IsOneOf m ys
one_either m [] ys one = inr one
one_either m (x ∷ xs) ys (inl here) = inl (inl here)
one_either m (x ∷ xs) ys (inr later) = elim (one_either m xs ys later) [ inl front ↦ inl (inr front) | inr back ↦ inr back ]

module _ (v : Scheme) (near : Near) (unsure : List LevelsMessage) (empty : ℕ → ℕ → ℕ → List ℕ) (same_len : near.record_len ≡ record_len v) (shallow : near.levels ≤ depth_of v.device 0)
    (are_stores : AllByRecursion (IsFarStore v.device near.levels (record_len v)) unsure) (r : ℕ → ℕ → List ℕ) (may_lie : Bool) where
  abbrev client : ClientRecords
  client = record { device = v.device; near = near; unsure = unsure; empty = empty }

  abbrev far_messages : List PathRequest → List LevelsMessage
  far_messages requests = map (far_of v.device near.levels (record_len v)) requests

  abbrev AreOf : List PathRequest → Type 0
  AreOf requests = AllByRecursion (IsOfDevice v.device (record_len v)) requests

  abbrev Runs : Host → List Exchange → Host → Type 0
  Runs host exchanges after = LevelsRun v empty may_lie host exchanges after

  -- all STOREs of these requests are unsure
  abbrev pub AreUnsure : List PathRequest → Type 0
  AreUnsure requests = (m : LevelsMessage) → IsOneOf m (stores_among (far_messages requests)) → IsOneOf m unsure

  -- the host of levels receives a FETCH
  fetch_step : (host after : Host) (t l : ℕ) (answer : List ℕ) → l < 2 ^ depth_of v.device t → IsLevelsCall v empty may_lie host (levels_body (FetchLevels t (first_far near.levels t) (depth_of v.device t) l)) (Ok answer) after
      → AreWhole v client host r → AreWhole v client after r
  fetch_step host after t l answer leaf_in call w =
      let got = received v near.levels shallow empty may_lie host after (levels_body (FetchLevels t (first_far near.levels t) (depth_of v.device t) l)) answer call in
      fetch_heard v client refl same_len r host after t (first_far near.levels t) (depth_of v.device t) l got.0 (leaf_small v t l leaf_in) got.1 w

  -- it receives an unsure STORE
  store_step : (host after : Host) (m : LevelsMessage) (answer : List ℕ) → IsOneOf m unsure → IsLevelsCall v empty may_lie host (levels_body m) (Ok answer) after → AreWhole v client host r → AreWhole v client after r
  store_step host after m answer one call w =
      let got = received v near.levels shallow empty may_lie host after (levels_body m) answer call in
      heard v client refl same_len r host after m got.0 (of_one (IsFarStore v.device near.levels (record_len v)) m unsure are_stores one) one got.1 w

  -- any of the unsure STOREs, and of the FETCHes of some requests
  one_of_far : (m : LevelsMessage) (requests : List PathRequest) → AreOf requests → IsOneOf m (far_messages requests)
      → IsOneOf m (stores_among (far_messages requests)) ⊎ ((t : ℕ) × (l : ℕ) × (m ≡ FetchLevels t (first_far near.levels t) (depth_of v.device t) l) × (l < 2 ^ depth_of v.device t))
  one_of_far m [] are one = absurd one
  one_of_far m (FetchPath t l ∷ requests) are (inl here) = inr (t, l, here, are.0.1)
  one_of_far m (FetchPath t l ∷ requests) are (inr later) = one_of_far m requests are.1 later
  one_of_far m (StorePath t l records ∷ requests) are (inl here) = inl (inl here)
  one_of_far m (StorePath t l records ∷ requests) are (inr later) = elim (one_of_far m requests are.1 later) [ inl store ↦ inl (inr store) | inr fetch ↦ inr fetch ]

  lost_step : (host after : Host) (m : LevelsMessage) (o : Outcome) → IsOneOf m unsure → IsLevelsCall v empty may_lie host (levels_body m) o after → AreWhole v client host r → AreWhole v client after r
  lost_step host after m o one call w = elim (received_or_not v near.levels shallow empty may_lie host after (levels_body m) o call) [
    | inl same ↦ subst (λ (h : Host). AreWhole v client h r) (sym same) w
    | inr got ↦ heard v client refl same_len r host after m got.0 (of_one (IsFarStore v.device near.levels (record_len v)) m unsure are_stores one) one got.1 w
  ]

  lost_fetch : (host after : Host) (t l : ℕ) (o : Outcome) → l < 2 ^ depth_of v.device t → IsLevelsCall v empty may_lie host (levels_body (FetchLevels t (first_far near.levels t) (depth_of v.device t) l)) o after
      → AreWhole v client host r → AreWhole v client after r
  lost_fetch host after t l o leaf_in call w = elim (received_or_not v near.levels shallow empty may_lie host after (levels_body (FetchLevels t (first_far near.levels t) (depth_of v.device t) l)) o call) [
    | inl same ↦ subst (λ (h : Host). AreWhole v client h r) (sym same) w
    | inr got ↦ fetch_heard v client refl same_len r host after t (first_far near.levels t) (depth_of v.device t) l got.0 (leaf_small v t l leaf_in) got.1 w
  ]

  -- tries of the messages of a batch, whatever their outcomes
  pub tries_step : (front : List LevelsMessage) (requests : List PathRequest) (exchanges : List Exchange) (host after : Host) → ((m : LevelsMessage) → IsOneOf m front → IsOneOf m unsure) → AreOf requests → AreUnsure requests
      → AreAmong (bodies_of exchanges) (map levels_body (front ++ far_messages requests)) → Runs host exchanges after → AreWhole v client host r → AreWhole v client after r
  tries_step front requests [] host after inside are stores among run w = subst (λ (h : Host). AreWhole v client h r) run w
  tries_step front requests (e ∷ exchanges) host after inside are stores among run w =
      let one = body_of_one e.0 (front ++ far_messages requests) among.0 in
      let call = subst (λ (b : List ℕ). IsLevelsCall v empty may_lie host b e.1 run.0) one.2 run.1 in
      let now : AreWhole v client run.0 r = elim (one_either one.0 front (far_messages requests) one.1) [
        | inl here ↦ lost_step host run.0 one.0 e.1 (inside one.0 here) call w
        | inr there ↦ elim (one_of_far one.0 requests are there) [
          | inl store ↦ lost_step host run.0 one.0 e.1 (stores one.0 store) call w
          | inr fetch ↦ lost_fetch host run.0 fetch.0 fetch.1 e.1 fetch.3 (subst (λ (m : LevelsMessage). IsLevelsCall v empty may_lie host (levels_body m) e.1 run.0) fetch.2 call) w
        ]
      ] in
      tries_step front requests exchanges run.0 after inside are stores among.1 run.2 now

  -- the answers to the STOREs that were unsure before the batch
  pub acks_step : (messages : List LevelsMessage) (answers : List (List ℕ)) (host after : Host) → ((m : LevelsMessage) → IsOneOf m messages → IsOneOf m unsure)
      → Runs host (answered (map levels_body messages) answers) after → AreWhole v client host r → AreWhole v client after r
  acks_step [] answers host after inside run w = subst (λ (h : Host). AreWhole v client h r) run w
  acks_step (m ∷ messages) [] host after inside run w = subst (λ (h : Host). AreWhole v client h r) run w
  acks_step (m ∷ messages) (a ∷ answers) host after inside run w =
      acks_step messages answers run.0 after (λ n one. inside n (inr one)) run.2 (store_step host run.0 m a (inside m (inl refl)) run.1 w)

  module _ (refusal : Option (List ℕ)) where
    -- a FETCH with its answer
    fetch_both : (host mid whole : Host) (t l : ℕ) (a one : List ℕ) → IsOfDevice v.device (record_len v) (FetchPath t l)
        → IsLevelsCall v empty may_lie host (levels_body (FetchLevels t (first_far near.levels t) (depth_of v.device t) l)) (Ok a) mid
        → AreWhole v client host r → KeepsAll v r whole → AreAnswered client refusal (FetchPath t l ∷ []) (a ∷ []) (one ∷ [])
        → IsPlainCall may_lie v whole (path_body (FetchPath t l)) (Ok one) whole
    fetch_both host mid whole t l a one of call w keeps are =
        fetch_told v near unsure empty same_len shallow r host whole w keeps t l of.0 of.1 may_lie mid a one call are.0

    -- FETCHes alone
    pub fetch_block : (requests : List PathRequest) (answers given : List (List ℕ)) (host after whole : Host) → only_fetches requests ≡ true → AreOf requests
        → Runs host (answered (map levels_body (far_messages requests)) answers) after → AreAnswered client refusal requests answers given → AreWhole v client host r → KeepsAll v r whole
        → PlainRun may_lie v whole (answered (map path_body requests) given) whole × AreWhole v client after r
    fetch_block [] answers given host after whole only are run answered_so w keeps = (refl, subst (λ (h : Host). AreWhole v client h r) run w)
    fetch_block (request ∷ requests) [] given host after whole only are run answered_so w keeps = absurd answered_so
    fetch_block (request ∷ requests) (a ∷ answers) [] host after whole only are run answered_so w keeps = absurd answered_so
    fetch_block (FetchPath t l ∷ requests) (a ∷ answers) (one ∷ given) host after whole only are run answered_so w keeps =
        let told = fetch_both host run.0 whole t l a one are.0 run.1 w keeps (answered_so.0, (refl, refl)) in
        let now = fetch_step host run.0 t l a are.0.1 run.1 w in
        let rest = fetch_block requests answers given run.0 after whole only are.1 run.2 answered_so.1 now keeps in
        ((whole, told, rest.0), rest.1)
    fetch_block (StorePath t l records ∷ requests) (a ∷ answers) (one ∷ given) host after whole only are run answered_so w keeps = absurd (let q : false ≡ true = only in cc)

    -- how the host of whole paths answers a STORE that it carries out
    abbrev pub TellsStores : Type 0
    TellsStores = (whole next : Host) (t x : ℕ) (bytes : List ℕ) → IsOfDevice v.device (record_len v) (StorePath t x bytes) → Takes whole (store_body t x bytes) next
        → IsPlainCall may_lie v whole (store_body t x bytes) (Ok (store_answer refusal)) next

    abbrev pub IsBlock : List PathRequest → List (List ℕ) → Host → Host → Type 0
    IsBlock requests given after whole = (later : Host) × PlainRun may_lie v whole (answered (map path_body requests) given) later × KeepsAll v r later × AreWhole v client after r

    -- STOREs that the host of whole paths carries out, and then FETCHes
    store_block : TellsStores → (requests : List PathRequest) (answers given : List (List ℕ)) (host after whole : Host) (before : ℕ → ℕ → List ℕ) → stores_first requests ≡ true → AreOf requests → AreUnsure requests
        → Runs host (answered (map levels_body (far_messages requests)) answers) after → AreAnswered client refusal requests answers given → AreWhole v client host r → KeepsAll v before whole
        → left_by v before (store_bodies requests) ≡ r → IsBlock requests given after whole
    store_block tells [] answers given host after whole before order are stores run answered_so w keeps same =
        (whole, refl, subst (λ (q : ℕ → ℕ → List ℕ). KeepsAll v q whole) same keeps, subst (λ (h : Host). AreWhole v client h r) run w)
    store_block tells (request ∷ requests) [] given host after whole before order are stores run answered_so w keeps same = absurd answered_so
    store_block tells (request ∷ requests) (a ∷ answers) [] host after whole before order are stores run answered_so w keeps same = absurd answered_so
    store_block tells (FetchPath t l ∷ requests) (a ∷ answers) (one ∷ given) host after whole before order are stores run answered_so w keeps same =
        let now : KeepsAll v r whole = subst (λ (q : ℕ → ℕ → List ℕ). KeepsAll v q whole) (sym (ap (left_by v before) (no_stores requests order)) ∙ same) keeps in
        let all = fetch_block (FetchPath t l ∷ requests) (a ∷ answers) (one ∷ given) host after whole order are run answered_so w now in
        (whole, all.0, now, all.1)
    store_block tells (StorePath t l records ∷ requests) (a ∷ answers) (one ∷ given) host after whole before order are stores run answered_so w keeps same =
        let carried = carries v before whole t l records are.0 keeps in
        let m : LevelsMessage = far_of v.device near.levels (record_len v) (StorePath t l records) in
        let told = subst (λ (b : List ℕ). IsPlainCall may_lie v whole (store_body t l records) (Ok b) carried.0) (sym answered_so.0) (tells whole carried.0 t l records are.0 carried.1) in
        let now = store_step host run.0 m a (stores m (inl refl)) run.1 w in
        let rest = store_block tells requests answers given run.0 after carried.0 (records_after v before (store_body t l records ∷ [])) order are.1 (λ n other. stores n (inr other)) run.2 answered_so.1 now carried.2 same in
        (rest.0, (carried.0, told, rest.1), rest.2, rest.3)

    -- FETCHes, then STOREs, then FETCHes
    pub order_block : TellsStores → (requests : List PathRequest) (answers given : List (List ℕ)) (host after whole : Host) → is_in_order requests ≡ true → AreOf requests → AreUnsure requests
        → Runs host (answered (map levels_body (far_messages requests)) answers) after → AreAnswered client refusal requests answers given → AreWhole v client host r → KeepsAll v r whole
        → left_by v r (store_bodies requests) ≡ r → IsBlock requests given after whole
    order_block tells [] answers given host after whole order are stores run answered_so w keeps same = (whole, refl, keeps, subst (λ (h : Host). AreWhole v client h r) run w)
    order_block tells (request ∷ requests) [] given host after whole order are stores run answered_so w keeps same = absurd answered_so
    order_block tells (request ∷ requests) (a ∷ answers) [] host after whole order are stores run answered_so w keeps same = absurd answered_so
    order_block tells (FetchPath t l ∷ requests) (a ∷ answers) (one ∷ given) host after whole order are stores run answered_so w keeps same =
        let told = fetch_both host run.0 whole t l a one are.0 run.1 w keeps (answered_so.0, (refl, refl)) in
        let now = fetch_step host run.0 t l a are.0.1 run.1 w in
        let rest = order_block tells requests answers given run.0 after whole order are.1 stores run.2 answered_so.1 now keeps same in
        (rest.0, (whole, told, rest.1), rest.2, rest.3)
    order_block tells (StorePath t l records ∷ requests) (a ∷ answers) (one ∷ given) host after whole order are stores run answered_so w keeps same =
        store_block tells (StorePath t l records ∷ requests) (a ∷ answers) (one ∷ given) host after whole r order are stores run answered_so w keeps same

    -- the host of whole paths has no room for any STORE
    pub full_block : store_answer refusal ≡ refusal_answer 8 → (requests : List PathRequest) (answers given : List (List ℕ)) (host after whole : Host) → AreOf requests → AreUnsure requests
        → Runs host (answered (map levels_body (far_messages requests)) answers) after → AreAnswered client refusal requests answers given → AreWhole v client host r → KeepsAll v r whole
        → IsBlock requests given after whole
    full_block full [] answers given host after whole are stores run answered_so w keeps = (whole, refl, keeps, subst (λ (h : Host). AreWhole v client h r) run w)
    full_block full (request ∷ requests) [] given host after whole are stores run answered_so w keeps = absurd answered_so
    full_block full (request ∷ requests) (a ∷ answers) [] host after whole are stores run answered_so w keeps = absurd answered_so
    full_block full (FetchPath t l ∷ requests) (a ∷ answers) (one ∷ given) host after whole are stores run answered_so w keeps =
        let told = fetch_both host run.0 whole t l a one are.0 run.1 w keeps (answered_so.0, (refl, refl)) in
        let now = fetch_step host run.0 t l a are.0.1 run.1 w in
        let rest = full_block full requests answers given run.0 after whole are.1 stores run.2 answered_so.1 now keeps in
        (rest.0, (whole, told, rest.1), rest.2, rest.3)
    full_block full (StorePath t l records ∷ requests) (a ∷ answers) (one ∷ given) host after whole are stores run answered_so w keeps =
        let m : LevelsMessage = far_of v.device near.levels (record_len v) (StorePath t l records) in
        let honest : IsHonestCall whole (store_body t l records) (Ok (refusal_answer 8)) whole = (Refused 8, (lit≤ tt, lit≤ tt), refl, refuses_store v r whole t l records are.0 keeps) in
        let told : IsPlainCall may_lie v whole (store_body t l records) (Ok one) whole =
        inl (subst (λ (b : List ℕ). IsHonestCall whole (store_body t l records) (Ok b) whole) (sym (answered_so.0 ∙ full)) honest) in
        let now = store_step host run.0 m a (stores m (inl refl)) run.1 w in
        let rest = full_block full requests answers given run.0 after whole are.1 (λ n other. stores n (inr other)) run.2 answered_so.1 now keeps in
        (rest.0, (whole, told, rest.1), rest.2, rest.3)

-- A host of levels that doesn't lie acknowledges a STORE, or has no room for it.
module _ (v : Scheme) (levels : ℕ) (empty : ℕ → ℕ → ℕ → List ℕ) (shallow : levels ≤ depth_of v.device 0) where
  abbrev pub IsAck : List ℕ → Type 0
  IsAck answer = (answer ≡ done_answer) ⊎ (answer ≡ refusal_answer 8)

  abbrev HonestRun : Host → List Exchange → Host → Type 0
  HonestRun host exchanges after = LevelsRun v empty false host exchanges after

  ack_of : (host after : Host) (has : HasFarLevels v levels host) (m : LevelsMessage) (answer : List ℕ) → IsFarStore v.device levels (record_len v) m → IsLevelsCall v empty false host (levels_body m) (Ok answer) after
      → IsAck answer × HasFarLevels v levels after
  ack_of host after has (FetchLevels t f last l) answer far call = absurd far
  ack_of host after has (StoreLevels t f l records) answer far (inr lie) = absurd (let q : false ≡ true = lie.0 in cc)
  ack_of host after has (StoreLevels t f l records) answer far (inl honest) = elim (store_answer_is v levels shallow host after has (StoreLevels t f l records) honest.0 far honest.3) [
    | inl stored ↦ (inl (honest.2 ∙ ap answer_body stored.0), has_now v levels host after has t f l records far stored.1)
    | inr full ↦ (inr (honest.2 ∙ ap answer_body full.0), subst (HasFarLevels v levels) (sym full.1) has)
  ]

  pub acks_are : (messages : List LevelsMessage) (answers : List (List ℕ)) (host after : Host) → AllByRecursion (IsFarStore v.device levels (record_len v)) messages → length answers ≡ length messages
      → HasFarLevels v levels host → HonestRun host (answered (map levels_body messages) answers) after → AllByRecursion IsAck answers × HasFarLevels v levels after
  acks_are [] [] host after are count has run = (tt, subst (HasFarLevels v levels) run has)
  acks_are [] (a ∷ answers) host after are count has run = absurd (omega (arith, count))
  acks_are (m ∷ messages) [] host after are count has run = absurd (omega (arith, count))
  acks_are (m ∷ messages) (a ∷ answers) host after are count has run =
      let here = ack_of host run.0 has m a are.0 run.1 in
      let rest = acks_are messages answers run.0 after are.1 (omega (arith, count)) here.1 run.2 in
      ((here.0, rest.0), rest.1)

  pub batch_acks : (requests : List PathRequest) (answers : List (List ℕ)) (host after : Host) → AllByRecursion (IsOfDevice v.device (record_len v)) requests → length answers ≡ length requests
      → HasFarLevels v levels host → HonestRun host (answered (map levels_body (map (far_of v.device levels (record_len v)) requests)) answers) after → AllByRecursion IsAck (store_answers requests answers)
  batch_acks [] [] host after are count has run = tt
  batch_acks [] (a ∷ answers) host after are count has run = absurd (omega (arith, count))
  batch_acks (request ∷ requests) [] host after are count has run = absurd (omega (arith, count))
  batch_acks (FetchPath t l ∷ requests) (a ∷ answers) host after are count has run =
      let got = received v levels shallow empty false host run.0 (levels_body (FetchLevels t (first_far levels t) (depth_of v.device t) l)) a run.1 in
      let is = fetch_answer_is v levels shallow host run.0 has t l got.0 are.0.0 are.0.1 got.1 in
      let same : run.0 ≡ host = elim is [ inl payload ↦ payload.3 | inr full ↦ full.1 ] in
      batch_acks requests answers run.0 after are.1 (omega (arith, count)) (subst (HasFarLevels v levels) (sym same) has) run.2
  batch_acks (StorePath t l records ∷ requests) (a ∷ answers) host after are count has run =
      let far = (stores_are v.device levels (record_len v) shallow (StorePath t l records ∷ []) (are.0, tt)).0 in
      let here = ack_of host run.0 has (far_of v.device levels (record_len v) (StorePath t l records)) a far run.1 in
      (here.0, batch_acks requests answers run.0 after are.1 (omega (arith, count)) here.1 run.2)

  -- so an answer among them that isn't an acknowledgement says that there is no room
  pub full_by : (answers : List (List ℕ)) (refusal : List ℕ) → AllByRecursion IsAck answers → IsAmong refusal answers → refusal ≢ done_answer → refusal ≡ refusal_answer 8
  full_by [] refusal are among not = absurd among
  full_by (a ∷ answers) refusal are (inl here) not = elim are.0 [ inl done ↦ absurd (not (here ∙ done)) | inr full ↦ here ∙ full ]
  full_by (a ∷ answers) refusal are (inr later) not = full_by answers refusal are.1 later not
