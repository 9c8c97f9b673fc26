-- What a host of levels answers to the messages of the link, and what it has afterwards.
use Rattle.std.proofs.Common.{◌≡◌, ◌≢◌, ◌⊎◌, ℕ, ◌+◌, ◌-◌, ◌*◌, ◌^◌, ◌<◌, ◌≤◌, arith, Bool, List, [], ◌∷◌, length, map, drop, Option, Some, Ok, Err, refl, sym, ap, ◌∙◌, subst, inl, inr}
use Rattle.std.specs.List.{AllByRecursion}
use Rattle.std.specs.Prelude.{MatchOption}
use Rattle.oram_geometry.specs.Sizes.{depth_of, trees_of}
use Rattle.oram_levels.specs.Messages.{FetchLevels, LevelsMessage, StoreLevels, levels_body}
use Rattle.oram_wire.specs.HostBodies.{IsAnswer}
use Rattle.oram_wire.specs.HostMessages.{answer_body, done_answer}
use Rattle.oram_wire.specs.declared.host_messages.HostAnswer.{HostAnswer}
use Rattle.oram_wire.specs.declared.host_messages.HostAnswer.TheVariants.{Done, Payload, Refused}
use Rattle.oram_host.specs.declared.refusals.HostRefusal.{HostRefusal}
use Rattle.oram_host.specs.declared.refusals.HostRefusal.TheVariants.{NoShape, BadLeaf, BadNode, BadLength, ShapeTaken, Missing, BadOp, OutOfMemory}
use Rattle.oram_host.specs.Host.{Host, Kept, tree_at}
use Rattle.oram_host.specs.Path.{node_on as host_node}
use Rattle.oram_host.specs.Refusals.{code_of}
use Rattle.oram_host.specs.Swaps.{stored_at}
use Rattle.oram_session.specs.Outcome.{Outcome}
use Rattle.oram_semantics.specs.Scheme.{Scheme, record_len}
use Rattle.oram_rounds.specs.Batches.{answered}
use Rattle.oram_rounds.specs.Rounds.{AreDone}
use Rattle.oram_rounds.proofs.KeptPaths.{leaf_small}
use Rattle.oram_near.specs.Completion.{left_by}
use Rattle.oram_near.specs.Law.{HasFarLevels, HasShape}
use Rattle.oram_near.specs.LevelsHost.{AreLevelsFetched, AreLevelsStored, IsLevelsCall, LevelsRun, RefusesFetchLevels, RefusesStoreLevels, ServesLevels}
use Rattle.oram_near.specs.NearCalls.{store_answers, stores_among}
use Rattle.oram_near.specs.PathRequests.{FetchPath, IsFarStore, IsOfDevice, PathRequest, StorePath, far_of, first_far}
use Rattle.oram_near.proofs.FarHeard.{has_now, stored_now}
use Rattle.oram_near.proofs.Paths.{first_far-deep}
use Rattle.oram_near.proofs.Sent.{stores_are}

module _ (v : Scheme) (levels : ℕ) (shallow : levels ≤ depth_of v.device 0) where
  abbrev deep : ℕ → ℕ
  deep tree = depth_of v.device tree

  -- of a tree that the host has
  module _ (host : Host) (has : HasFarLevels v levels host) (tree : ℕ) (tree_in : tree < trees_of v.device) where
    shape : HasShape host tree (deep tree) (record_len v)
    shape = has.shapes tree tree_in

    store_code : (first leaf : ℕ) (records : List ℕ) (why : HostRefusal) → leaf < 2 ^ deep tree → first ≤ deep tree → length records ≡ (deep tree + 1 - first) * record_len v
        → RefusesStoreLevels shape.kept first leaf records why → code_of why ≡ 8
    store_code first leaf records NoShape leaf_in first_in whole why = absurd why
    store_code first leaf records BadLeaf leaf_in first_in whole why = absurd (let P : ℕ → Type 0 = λ d. 2 ^ d ≤ leaf in let q : 2 ^ deep tree ≤ leaf = subst P shape.is_depth why in omega (arith, q, leaf_in))
    store_code first leaf records BadNode leaf_in first_in whole why = absurd (omega (arith, shape.is_depth, first_in, why.1))
    store_code first leaf records BadLength leaf_in first_in whole why =
        absurd (why.2 (whole ∙ ap (λ (d : ℕ). (d + 1 - first) * record_len v) (sym shape.is_depth) ∙ ap (λ (n : ℕ). (shape.kept.depth + 1 - first) * n) (sym shape.is_len)))
    store_code first leaf records ShapeTaken leaf_in first_in whole why = absurd why
    store_code first leaf records Missing leaf_in first_in whole why = absurd why
    store_code first leaf records BadOp leaf_in first_in whole why = absurd why
    store_code first leaf records OutOfMemory leaf_in first_in whole why = refl

    fetch_code : (first leaf : ℕ) (why : HostRefusal) → leaf < 2 ^ deep tree → first ≤ deep tree → RefusesFetchLevels shape.kept first (deep tree) leaf why → code_of why ≡ 8
    fetch_code first leaf NoShape leaf_in first_in why = absurd why
    fetch_code first leaf BadLeaf leaf_in first_in why = absurd (let P : ℕ → Type 0 = λ d. 2 ^ d ≤ leaf in let q : 2 ^ deep tree ≤ leaf = subst P shape.is_depth why in omega (arith, q, leaf_in))
    fetch_code first leaf BadNode leaf_in first_in why = absurd (omega (arith, shape.is_depth, why.1))
    fetch_code first leaf BadLength leaf_in first_in why = absurd (omega (arith, first_in, why.2))
    fetch_code first leaf ShapeTaken leaf_in first_in why = absurd why
    fetch_code first leaf Missing leaf_in first_in why = absurd why
    fetch_code first leaf BadOp leaf_in first_in why = absurd why
    fetch_code first leaf OutOfMemory leaf_in first_in why = refl

    by_shape : (P : Kept → Type 0) (Q : Type 0) → MatchOption (tree_at host tree) Q P → P shape.kept
    by_shape P Q is = let at : MatchOption (Some shape.kept) Q P = subst (λ (o : Option Kept). MatchOption o Q P) shape.there is in at

  -- a STORE of the far levels is carried out, or the host has no room for it
  abbrev pub IsStoreAnswer : Host → LevelsMessage → HostAnswer → Host → Type 0
  IsStoreAnswer host (FetchLevels t f last l) answer after = ⊥
  IsStoreAnswer host (StoreLevels t f l records) answer after =
      ((answer ≡ Done) × AreLevelsStored host t f l records after) ⊎ ((answer ≡ Refused 8) × (after ≡ host))

  store_answers_so : (host after : Host) (has : HasFarLevels v levels host) (t f l : ℕ) (records : List ℕ) (answer : HostAnswer) → IsFarStore v.device levels (record_len v) (StoreLevels t f l records)
      → ServesLevels host (levels_body (StoreLevels t f l records)) answer after → IsStoreAnswer host (StoreLevels t f l records) answer after
  store_answers_so host after has t f l records Done far serves = inl (refl, serves.levels (StoreLevels t f l records) (leaf_small v t l far.1) refl)
  store_answers_so host after has t f l records (Payload payload) far serves = absurd (serves.levels (StoreLevels t f l records) (leaf_small v t l far.1) refl)
  store_answers_so host after has t f l records (Refused code) far serves =
      let is = serves.levels (StoreLevels t f l records) (leaf_small v t l far.1) refl in
      let low : f ≤ deep t = omega (arith, far.2, first_far-deep v.device levels t shallow) in
      let why = by_shape host has t far.0 (λ kept. RefusesStoreLevels kept f l records is.0) (is.0 ≡ NoShape) is.2 in
      inr (ap Refused (is.1 ∙ store_code host has t far.0 f l records is.0 far.1 low far.3 why), is.3)

  pub store_answer_is : (host after : Host) (has : HasFarLevels v levels host) (m : LevelsMessage) (answer : HostAnswer) → IsFarStore v.device levels (record_len v) m → ServesLevels host (levels_body m) answer after
      → IsStoreAnswer host m answer after
  store_answer_is host after has (FetchLevels t f last l) answer far serves = far
  store_answer_is host after has (StoreLevels t f l records) answer far serves = store_answers_so host after has t f l records answer far serves

  -- a FETCH of the far levels is answered, or the host has no room
  abbrev pub IsFetchAnswer : Host → ℕ → ℕ → HostAnswer → Host → Type 0
  IsFetchAnswer host t l answer after =
      ((payload : List ℕ) × (answer ≡ Payload payload) × AreLevelsFetched host t (first_far levels t) (deep t) l payload × (after ≡ host))
      ⊎ ((answer ≡ Refused 8) × (after ≡ host))

  pub fetch_answer_is : (host after : Host) (has : HasFarLevels v levels host) (t l : ℕ) (answer : HostAnswer) → t < trees_of v.device → l < 2 ^ deep t
      → ServesLevels host (levels_body (FetchLevels t (first_far levels t) (deep t) l)) answer after → IsFetchAnswer host t l answer after
  fetch_answer_is host after has t l Done tree_in leaf_in serves = absurd (serves.levels (FetchLevels t (first_far levels t) (deep t) l) (leaf_small v t l leaf_in) refl)
  fetch_answer_is host after has t l (Payload payload) tree_in leaf_in serves =
      let is = serves.levels (FetchLevels t (first_far levels t) (deep t) l) (leaf_small v t l leaf_in) refl in inl (payload, refl, is.0, is.1)
  fetch_answer_is host after has t l (Refused code) tree_in leaf_in serves =
      let is = serves.levels (FetchLevels t (first_far levels t) (deep t) l) (leaf_small v t l leaf_in) refl in
      let why = by_shape host has t tree_in (λ kept. RefusesFetchLevels kept (first_far levels t) (deep t) l is.0) (is.0 ≡ NoShape) is.2 in
      inr (ap Refused (is.1 ∙ fetch_code host has t tree_in (first_far levels t) l is.0 leaf_in (first_far-deep v.device levels t shallow) why), is.3)

  -- an answer that says that a STORE was carried out
  done_by : (answer : HostAnswer) → IsAnswer answer → done_answer ≡ answer_body answer → answer ≡ Done
  done_by Done is e = refl
  done_by (Payload bytes) is e =
      let none : [] ≡ bytes = ap (λ (b : List ℕ). drop 1 b) e in
      absurd (let some : 0 < length bytes = is in let few : length bytes ≡ 0 = ap length (sym none) in omega arith)
  done_by (Refused code) is e = absurd cc

  module _ (empty : ℕ → ℕ → ℕ → List ℕ) (may_lie : Bool) where
    -- whoever answers, an honest host receives the message
    pub received : (host after : Host) (body bytes : List ℕ) → IsLevelsCall v empty may_lie host body (Ok bytes) after → (answer : HostAnswer) × ServesLevels host body answer after
    received host after body bytes (inl honest) = (honest.0, honest.3)
    received host after body bytes (inr lie) = (lie.3.answer, lie.3.heard)

    -- or a message is lost
    pub received_or_not : (host after : Host) (body : List ℕ) (o : Outcome) → IsLevelsCall v empty may_lie host body o after → (after ≡ host) ⊎ ((answer : HostAnswer) × ServesLevels host body answer after)
    received_or_not host after body (Ok bytes) (inl honest) = inr (honest.0, honest.3)
    received_or_not host after body (Err fault) (inl honest) = honest
    received_or_not host after body o (inr lie) = inr (lie.3.answer, lie.3.heard)

    not_done : (host after : Host) (t f l : ℕ) (records : List ℕ) (answer : HostAnswer) → answer ≢ Refused 8 → IsStoreAnswer host (StoreLevels t f l records) answer after → AreLevelsStored host t f l records after
    not_done host after t f l records answer room (inl stored) = stored.1
    not_done host after t f l records answer room (inr full) = absurd (room full.0)

    -- an acknowledged STORE was carried out
    carried_out : (host after : Host) (has : HasFarLevels v levels host) (t f l : ℕ) (records : List ℕ) → IsFarStore v.device levels (record_len v) (StoreLevels t f l records)
        → IsLevelsCall v empty may_lie host (levels_body (StoreLevels t f l records)) (Ok done_answer) after → AreLevelsStored host t f l records after
    carried_out host after has t f l records far (inl honest) =
        let done = done_by honest.0 honest.1 honest.2 in
        not_done host after t f l records honest.0 (λ e. let q : Done ≡ Refused 8 = sym done ∙ e in cc) (store_answers_so host after has t f l records honest.0 far honest.3)
    carried_out host after has t f l records far (inr lie) =
        not_done host after t f l records lie.3.answer lie.3.room (store_answers_so host after has t f l records lie.3.answer far lie.3.heard)

    -- what the host has at the far levels, once it has carried out these STOREs
    abbrev pub IsCarried : List LevelsMessage → Host → Host → Type 0
    IsCarried messages host after = (tree leaf level : ℕ) → tree < trees_of v.device → leaf < 2 ^ deep tree → first_far levels tree ≤ level → level ≤ deep tree
        → stored_at after tree (host_node (deep tree) leaf level) ≡ left_by v.device (record_len v) tree leaf level messages (stored_at host tree (host_node (deep tree) leaf level))

    -- the STOREs that were unsure, each acknowledged
    pub acks_carried : (messages : List LevelsMessage) (answers : List (List ℕ)) (host after : Host) → AllByRecursion (IsFarStore v.device levels (record_len v)) messages → length answers ≡ length messages
        → AreDone answers → HasFarLevels v levels host → LevelsRun v empty may_lie host (answered (map levels_body messages) answers) after → HasFarLevels v levels after × IsCarried messages host after
    acks_carried [] [] host after are count done has run =
        (subst (HasFarLevels v levels) run has, λ tree leaf level _ _ _ _. ap (λ (h : Host). stored_at h tree (host_node (deep tree) leaf level)) (sym run))
    acks_carried [] (a ∷ answers) host after are count done has run = absurd (omega (arith, count))
    acks_carried (m ∷ messages) [] host after are count done has run = absurd (omega (arith, count))
    acks_carried (FetchLevels t f last l ∷ messages) (a ∷ answers) host after are count done has run = absurd are.0
    acks_carried (StoreLevels t f l records ∷ messages) (a ∷ answers) host after are count done has run =
        let call = subst (λ (b : List ℕ). IsLevelsCall v empty may_lie host (levels_body (StoreLevels t f l records)) (Ok b) run.0) done.0 run.1 in
        let stored = carried_out host run.0 has t f l records are.0 call in
        let now = has_now v levels host run.0 has t f l records are.0 stored in
        let rest = acks_carried messages answers run.0 after are.1 (omega (arith, count)) done.1 now run.2 in (
          rest.0,
          λ tree leaf level tree_in leaf_in low within. rest.1 tree leaf level tree_in leaf_in low within
              ∙ ap (left_by v.device (record_len v) tree leaf level messages) (stored_now v levels host run.0 has t f l records are.0 stored tree leaf level tree_in leaf_in low within),
        )

    -- the messages of a batch, each STORE acknowledged
    pub batch_carried : (requests : List PathRequest) (answers : List (List ℕ)) (host after : Host) → AllByRecursion (IsOfDevice v.device (record_len v)) requests → length answers ≡ length requests
        → AreDone (store_answers requests answers) → HasFarLevels v levels host
        → LevelsRun v empty may_lie host (answered (map levels_body (map (far_of v.device levels (record_len v)) requests)) answers) after
        → HasFarLevels v levels after × IsCarried (stores_among (map (far_of v.device levels (record_len v)) requests)) host after
    batch_carried [] [] host after are count done has run =
        (subst (HasFarLevels v levels) run has, λ tree leaf level _ _ _ _. ap (λ (h : Host). stored_at h tree (host_node (deep tree) leaf level)) (sym run))
    batch_carried [] (a ∷ answers) host after are count done has run = absurd (omega (arith, count))
    batch_carried (r ∷ requests) [] host after are count done has run = absurd (omega (arith, count))
    batch_carried (FetchPath t l ∷ requests) (a ∷ answers) host after are count done has run =
        let got = received host run.0 (levels_body (FetchLevels t (first_far levels t) (deep t) l)) a run.1 in
        let is = fetch_answer_is host run.0 has t l got.0 are.0.0 are.0.1 got.1 in
        let same : run.0 ≡ host = elim is [ inl payload ↦ payload.3 | inr full ↦ full.1 ] in
        let rest = batch_carried requests answers run.0 after are.1 (omega (arith, count)) done (subst (HasFarLevels v levels) (sym same) has) run.2 in (
          rest.0,
          λ tree leaf level tree_in leaf_in low within. rest.1 tree leaf level tree_in leaf_in low within
              ∙ ap (λ (h : Host). left_by v.device (record_len v) tree leaf level (stores_among (map (far_of v.device levels (record_len v)) requests)) (stored_at h tree (host_node (deep tree) leaf level))) same,
        )
    batch_carried (StorePath t l records ∷ requests) (a ∷ answers) host after are count done has run =
        let f : ℕ = first_far levels t in
        let bytes : List ℕ = drop (f * record_len v) records in
        let far = (stores_are v.device levels (record_len v) shallow (StorePath t l records ∷ []) (are.0, tt)).0 in
        let call = subst (λ (b : List ℕ). IsLevelsCall v empty may_lie host (levels_body (StoreLevels t f l bytes)) (Ok b) run.0) done.0 run.1 in
        let stored = carried_out host run.0 has t f l bytes far call in
        let now = has_now v levels host run.0 has t f l bytes far stored in
        let rest = batch_carried requests answers run.0 after are.1 (omega (arith, count)) done.1 now run.2 in (
          rest.0,
          λ tree leaf level tree_in leaf_in low within. rest.1 tree leaf level tree_in leaf_in low within
              ∙ ap (left_by v.device (record_len v) tree leaf level (stores_among (map (far_of v.device levels (record_len v)) requests)))
              (stored_now v levels host run.0 has t f l bytes far stored tree leaf level tree_in leaf_in low within),
        )
