-- A STORE of a whole path: what the client has after it, and what a host of whole paths has.
use Rattle.std.proofs.Common.{◌≡◌, ◌≢◌, ◌⊎◌, ℕ, ◌+◌, ◌-◌, ◌*◌, ◌^◌, ◌<◌, ◌≤◌, ◌==◌, arith, Bool, true, false, List, [], ◌∷◌, ◌++◌, length, take, drop, Option, unwrap_or, sym, ap, ◌∙◌, subst, inl, inr}
use Rattle.std.specs.Option.{option_or}
use Rattle.std.specs.Prelude.{MatchBool}
use Rattle.std.proofs.Math.Nat.{mul-le-mul_right}
use Rattle.std.proofs.lemmas.Bool.{MatchBool-at_false, MatchBool-at_true, cases_eq, cases_lt, eq-eqb, ne_eqb}
use Rattle.std.proofs.lemmas.List.{drop-drop, length-drop, length-take-le}
use Rattle.oram_geometry.specs.Path.{IsOffPath, node_on}
use Rattle.oram_geometry.specs.Sizes.{depth_of, trees_of}
use Rattle.oram_geometry.specs.declared.Sizes.{Sizes}
use Rattle.oram_hash.specs.Path.{path_of}
use Rattle.oram_host.specs.Host.{Host}
use Rattle.oram_host.specs.Path.{node_on as host_node, record_at}
use Rattle.oram_host.specs.Swaps.{stored_at}
use Rattle.oram_host_laws.proofs.Handed.{record_same}
use Rattle.oram_levels.specs.Messages.{LevelsMessage, StoreLevels}
use Rattle.oram_semantics.proofs.Replaced.{store_leaves, store_replaces}
use Rattle.oram_semantics.specs.Moves.{records_after}
use Rattle.oram_semantics.specs.Scheme.{Scheme, record_len}
use Rattle.oram_wire.specs.HostMessages.{store_body}
use Rattle.oram_rounds.proofs.KeptPaths.{leaf_small}
use Rattle.oram_near.specs.Completion.{ClientRecords, left_by}
use Rattle.oram_near.specs.Law.{AreWhole}
use Rattle.oram_near.specs.Near.{Near, StoresNear, near_record}
use Rattle.oram_near.specs.NearCalls.{TakesNear}
use Rattle.oram_near.specs.PathRequests.{FetchPath, IsOfDevice, PathRequest, StorePath, first_far}
use Rattle.oram_near.proofs.Kernel.{left_append}
use Rattle.oram_near.proofs.Laid.{given, not_given}
use Rattle.oram_near.proofs.Nodes.{same_level}
use Rattle.oram_near.proofs.Paths.{first_far-other, whole_far, whole_near}

-- a request changes neither the number of near levels nor the length of the records
sizes_by : (b : Bool) (depth leaf : ℕ) (records : List ℕ) (old new : Near) → MatchBool b (StoresNear depth leaf records old new) (new ≡ old)
    → (new.levels ≡ old.levels) × (new.record_len ≡ old.record_len)
sizes_by true depth leaf records old new is = (is.levels, is.record_len)
sizes_by false depth leaf records old new is = (ap (λ (n : Near). n.levels) is, ap (λ (n : Near). n.record_len) is)

pub sizes_same : (d : Sizes) (request : PathRequest) (old new : Near) → TakesNear d old request new → (new.levels ≡ old.levels) × (new.record_len ≡ old.record_len)
sizes_same d (FetchPath tree leaf) old new is = (ap (λ (n : Near). n.levels) is, ap (λ (n : Near). n.record_len) is)
sizes_same d (StorePath tree leaf records) old new is = sizes_by (tree == 0) (depth_of d 0) leaf records old new is

-- a record behind the first ones
behind_first : (len first level : ℕ) (bytes : List ℕ) → first ≤ level → record_at len (drop (first * len) bytes) (level - first) ≡ record_at len bytes level
behind_first len first level bytes low =
    let i : ℕ = level - first in
    let at : level * len ≡ first * len + i * len = let e : level ≡ first + i = omega (arith, low) in ap (λ (k : ℕ). k * len) e ∙ omega arith in
    let upto : (level + 1) * len ≡ level * len + len = omega arith in
    let more : (i + 1) * len ≡ i * len + len = omega arith in
    ap (λ (k : ℕ). take k (drop (i * len) (drop (first * len) bytes))) (let e : (i + 1) * len - i * len ≡ len = omega (arith, more) in e)
    ∙ ap (take len) (drop-drop (i * len) (first * len) bytes ∙ ap (λ (k : ℕ). drop k bytes) (sym at))
    ∙ sym (ap (λ (k : ℕ). take k (drop (level * len) bytes)) (let e : (level + 1) * len - level * len ≡ len = omega (arith, upto) in e))

module _ (v : Scheme) (r : ℕ → ℕ → List ℕ) (t x : ℕ) (bytes : List ℕ) (of : IsOfDevice v.device (record_len v) (StorePath t x bytes)) where
  abbrev deep : ℕ → ℕ
  deep tree = depth_of v.device tree

  abbrev pub now : ℕ → ℕ → List ℕ
  now = records_after v r (store_body t x bytes ∷ [])

  -- A STORE leaves its own record of a level, if it stores at that level's node. Otherwise it leaves what was there.
  abbrev pub IsStoredAt : ℕ → ℕ → ℕ → Type 0
  IsStoredAt tree leaf level = (t ≡ tree) × (node_on (deep tree) x level ≡ node_on (deep tree) leaf level) × (now tree (node_on (deep tree) leaf level) ≡ record_at (record_len v) bytes level)

  abbrev pub IsOtherAt : ℕ → ℕ → ℕ → Type 0
  IsOtherAt tree leaf level = (t ≡ tree → node_on (deep tree) x level ≢ node_on (deep tree) leaf level) × (now tree (node_on (deep tree) leaf level) ≡ r tree (node_on (deep tree) leaf level))

  pub left_at : (tree leaf level : ℕ) → leaf < 2 ^ deep tree → level ≤ deep tree → IsStoredAt tree leaf level ⊎ IsOtherAt tree leaf level
  left_at tree leaf level leaf_in low = elim (cases_eq t tree) [
    | inr other ↦ inr (
      (λ e. absurd (other e)),
      ap (λ (f : ℕ → List ℕ). f (node_on (deep tree) leaf level)) (store_leaves v r t x tree bytes (λ e. other (sym e))),
    )
    | inl there ↦
        let P : ℕ → Type 0 = λ i. x < 2 ^ deep i in
        let leaf_there : x < 2 ^ deep tree = subst P there of.1 in
        let here : now ≡ records_after v r (store_body tree x bytes ∷ []) = ap (λ (i : ℕ). records_after v r (store_body i x bytes ∷ [])) there in
        let new_there = store_replaces v r tree x [] bytes (leaf_small v tree x leaf_there) in
        elim (cases_eq (node_on (deep tree) x level) (node_on (deep tree) leaf level)) [
          | inl shared ↦ inl (
            there,
            shared,
            ap (λ (f : ℕ → ℕ → List ℕ). f tree (node_on (deep tree) leaf level)) here
                ∙ ap (λ (n : ℕ). records_after v r (store_body tree x bytes ∷ []) tree n) (sym shared)
                ∙ new_there.on_path level low ∙ sym (record_same (path_of v.device tree x v.cipher.overhead bytes) level),
          )
          | inr apart ↦
              let off : IsOffPath (deep tree) x (node_on (deep tree) leaf level) = λ j within e.
              let one : level ≡ j = same_level (deep tree) leaf x level j leaf_in leaf_there low within e in
              apart (ap (node_on (deep tree) x) one ∙ sym e) in
              inr ((λ e. apart), ap (λ (f : ℕ → ℕ → List ℕ). f tree (node_on (deep tree) leaf level)) here ∙ new_there.off_path (node_on (deep tree) leaf level) off)
        ]
  ]

  module _ (c : ClientRecords) (device : c.device ≡ v.device) (len : c.near.record_len ≡ record_len v) (shallow : c.near.levels ≤ deep 0) (far : Host) (w : AreWhole v c far r) (near' : Near)
      (takes : TakesNear v.device c.near (StorePath t x bytes) near') where
    abbrev store : LevelsMessage
    store = StoreLevels t (first_far c.near.levels t) x (drop (first_far c.near.levels t * record_len v) bytes)

    -- what the client has after the STORE
    abbrev pub after : ClientRecords
    after = record { device = c.device; near = near'; unsure = c.unsure ++ store ∷ []; empty = c.empty }

    same_levels : near'.levels ≡ c.near.levels
    same_levels = (sizes_same v.device (StorePath t x bytes) c.near near' takes).0

    same_len : near'.record_len ≡ c.near.record_len
    same_len = (sizes_same v.device (StorePath t x bytes) c.near near' takes).1

    at_zero : t ≡ 0 → StoresNear (deep 0) x bytes c.near near'
    at_zero e = MatchBool-at_true (StoresNear (deep 0) x bytes c.near near') (near' ≡ c.near) (eq-eqb t 0 e) takes

    elsewhere : t ≢ 0 → near' ≡ c.near
    elsewhere other = MatchBool-at_false (StoresNear (deep 0) x bytes c.near near') (near' ≡ c.near) (ne_eqb t 0 other) takes

    was_near : (leaf level : ℕ) → leaf < 2 ^ deep 0 → level < c.near.levels → 0 < trees_of v.device → r 0 (node_on (deep 0) leaf level) ≡ near_record c.near (node_on (deep 0) leaf level)
    was_near leaf level leaf_in low some =
        w.each 0 leaf level some leaf_in (omega (arith, low, shallow))
        ∙ whole_near c 0 leaf level (stored_at far 0 (host_node (deep 0) leaf level)) low
        ∙ ap (λ (d : Sizes). near_record c.near (node_on (depth_of d 0) leaf level)) device

    -- the near records of tree 0
    near_zero : (leaf level : ℕ) → leaf < 2 ^ deep 0 → level < c.near.levels → 0 < trees_of v.device → now 0 (node_on (deep 0) leaf level) ≡ near_record near' (node_on (deep 0) leaf level)
    near_zero leaf level leaf_in low some = elim (left_at 0 leaf level leaf_in (omega (arith, low, shallow))) [
      | inl here ↦
          let puts = at_zero here.0 in
          here.2 ∙ ap (λ (n : ℕ). record_at n bytes level) (sym len)
          ∙ sym (puts.records.put level low)
          ∙ ap (record_at c.near.record_len near'.bytes) here.1
          ∙ ap (λ (n : ℕ). record_at n near'.bytes (node_on (deep 0) leaf level)) (sym same_len)
      | inr other ↦ other.1 ∙ was_near leaf level leaf_in low some ∙ elim (cases_eq t 0) [
        | inr not_zero ↦ ap (λ (n : Near). near_record n (node_on (deep 0) leaf level)) (sym (elsewhere not_zero))
        | inl zero_tree ↦
            let puts = at_zero zero_tree in
            let P : ℕ → Type 0 = λ i. x < 2 ^ deep i in
            let off : (j : ℕ) → j < c.near.levels → node_on (deep 0) leaf level ≢ node_on (deep 0) x j = λ j j_low e.
            let one : level ≡ j = same_level (deep 0) leaf x level j leaf_in (subst P zero_tree of.1) (omega (arith, low, shallow)) (omega (arith, j_low, shallow)) e in
            other.0 zero_tree (ap (node_on (deep 0) x) one ∙ sym e) in
            sym (puts.records.others (node_on (deep 0) leaf level) off) ∙ ap (λ (n : ℕ). record_at n near'.bytes (node_on (deep 0) leaf level)) (sym same_len)
      ]
    ]

    near_each : (tree leaf level : ℕ) → tree < trees_of v.device → leaf < 2 ^ deep tree → level < first_far c.near.levels tree → now tree (node_on (deep tree) leaf level) ≡ near_record near' (node_on (deep tree) leaf level)
    near_each tree leaf level tree_in leaf_in low = elim (cases_eq tree 0) [
      | inr other ↦ absurd (omega (arith, low, first_far-other c.near.levels tree other))
      | inl zero_tree ↦
          let P : ℕ → Type 0 = λ i. leaf < 2 ^ deep i in
          let Q : ℕ → Type 0 = λ i. level < first_far c.near.levels i in
          let R : ℕ → Type 0 = λ i. i < trees_of v.device in
          let S : ℕ → Type 0 = λ i. now i (node_on (deep i) leaf level) ≡ near_record near' (node_on (deep i) leaf level) in
          subst S (sym zero_tree) (near_zero leaf level (subst P zero_tree leaf_in) (subst Q zero_tree low) (subst R zero_tree tree_in))
    ]

    -- the far records
    far_each : (tree leaf level : ℕ) → tree < trees_of v.device → leaf < 2 ^ deep tree → first_far c.near.levels tree ≤ level → level ≤ deep tree
        → (old : Option (List ℕ)) → r tree (node_on (deep tree) leaf level) ≡ unwrap_or (left_by v.device (record_len v) tree leaf level c.unsure old) (c.empty tree leaf level)
        → now tree (node_on (deep tree) leaf level) ≡ unwrap_or (left_by v.device (record_len v) tree leaf level (c.unsure ++ store ∷ []) old) (c.empty tree leaf level)
    far_each tree leaf level tree_in leaf_in low within old was =
        let before : Option (List ℕ) = left_by v.device (record_len v) tree leaf level c.unsure old in
        let more = left_append v.device (record_len v) tree leaf level c.unsure (store ∷ []) old in
        let value : Option (List ℕ) → List ℕ = λ o. unwrap_or (option_or o before) (c.empty tree leaf level) in
        elim (left_at tree leaf level leaf_in within) [
          | inl here ↦
              let first_low : first_far c.near.levels t ≤ level = omega (arith, low, ap (first_far c.near.levels) here.0) in
              let is = given v.device (record_len v) tree leaf t (first_far c.near.levels t) x level (drop (first_far c.near.levels t * record_len v) bytes) here.0 first_low here.1 in
              here.2 ∙ sym (behind_first (record_len v) (first_far c.near.levels t) level bytes first_low) ∙ sym (ap value is)
              ∙ sym (ap (λ (o : Option (List ℕ)). unwrap_or o (c.empty tree leaf level)) more)
          | inr other ↦
              let is = not_given v.device (record_len v) tree leaf t (first_far c.near.levels t) x level (drop (first_far c.near.levels t * record_len v) bytes) (λ here _ same. other.0 here same) in
              other.1 ∙ was ∙ sym (ap value is) ∙ sym (ap (λ (o : Option (List ℕ)). unwrap_or o (c.empty tree leaf level)) more)
        ]

    pub whole_after : AreWhole v after far now
    whole_after = record {
      has = record {
        shapes = w.has.shapes;
        no_gap = λ tree leaf level tree_in leaf_in low within none. w.has.no_gap tree leaf level tree_in leaf_in (omega (arith, low, ap (λ (n : ℕ). first_far n tree) same_levels)) within none;
      };
      long = λ tree leaf level tree_in leaf_in within. elim (left_at tree leaf level leaf_in within) [
        | inl here ↦
            let upto : (level + 1) * record_len v ≡ level * record_len v + record_len v = omega arith in
            let P : ℕ → Type 0 = λ i. level ≤ deep i in
            let most : (level + 1) * record_len v ≤ (deep t + 1) * record_len v = mul-le-mul_right (record_len v) (let q : level ≤ deep t = subst P (sym here.0) within in omega (arith, q)) in
            ap length here.2
            ∙ ap (λ (k : ℕ). length (take k (drop (level * record_len v) bytes))) (let e : (level + 1) * record_len v - level * record_len v ≡ record_len v = omega (arith, upto) in e)
            ∙ length-take-le (record_len v) (drop (level * record_len v) bytes) (omega (arith, length-drop (level * record_len v) bytes, of.2, most, upto))
        | inr other ↦ ap length other.1 ∙ w.long tree leaf level tree_in leaf_in within
      ];
      each = λ tree leaf level tree_in leaf_in within.
          let old : Option (List ℕ) = stored_at far tree (host_node (deep tree) leaf level) in
          let first_same : first_far near'.levels tree ≡ first_far c.near.levels tree = ap (λ (n : ℕ). first_far n tree) same_levels in
          elim (cases_lt level (first_far c.near.levels tree)) [
            | inl near ↦
                near_each tree leaf level tree_in leaf_in near
                ∙ ap (λ (d : Sizes). near_record near' (node_on (depth_of d tree) leaf level)) (sym device)
                ∙ sym (whole_near after tree leaf level old (omega (arith, near, first_same)))
            | inr low ↦
                let was : r tree (node_on (deep tree) leaf level) ≡ unwrap_or (left_by v.device (record_len v) tree leaf level c.unsure old) (c.empty tree leaf level) =
                w.each tree leaf level tree_in leaf_in within ∙ whole_far c tree leaf level old low
                ∙ ap (λ (d : Sizes). unwrap_or (left_by d c.near.record_len tree leaf level c.unsure old) (c.empty tree leaf level)) device
                ∙ ap (λ (n : ℕ). unwrap_or (left_by v.device n tree leaf level c.unsure old) (c.empty tree leaf level)) len in
                far_each tree leaf level tree_in leaf_in low within old was
                ∙ ap (λ (n : ℕ). unwrap_or (left_by v.device n tree leaf level (c.unsure ++ store ∷ []) old) (c.empty tree leaf level)) (sym (same_len ∙ len))
                ∙ ap (λ (d : Sizes). unwrap_or (left_by d near'.record_len tree leaf level (c.unsure ++ store ∷ []) old) (c.empty tree leaf level)) (sym device)
                ∙ sym (whole_far after tree leaf level old (omega (arith, low, first_same)))
          ];
    }
