-- A host of levels receives a STORE of levels, or a FETCH.
use Rattle.std.proofs.Common.{◌≡◌, ◌≢◌, ℕ, ◌+◌, ◌-◌, ◌^◌, ◌<◌, ◌≤◌, arith, List, Option, Some, None, unwrap_or, refl, sym, ap, ◌∙◌, subst, inl, inr}
use Rattle.std.specs.Option.{option_and_then, option_or}
use Rattle.std.proofs.lemmas.Bool.{cases_eq, cases_lt}
use Rattle.oram_geometry.specs.Path.{node_on}
use Rattle.oram_geometry.specs.Sizes.{depth_of, trees_of}
use Rattle.oram_geometry.proofs.Meet.{MeetsAt-nearer}
use Rattle.oram_levels.specs.Messages.{FetchLevels, LevelsMessage, StoreLevels, levels_body}
use Rattle.oram_wire.specs.declared.host_messages.HostAnswer.{HostAnswer}
use Rattle.oram_wire.specs.declared.host_messages.HostAnswer.TheVariants.{Done, Payload, Refused}
use Rattle.oram_host.specs.Host.{Host, Kept, record_of, tree_at}
use Rattle.oram_host.specs.Path.{node_on as host_node, record_at}
use Rattle.oram_host.specs.Swaps.{stored_at}
use Rattle.oram_host_laws.proofs.Handed.{kept_same, node_same}
use Rattle.oram_semantics.specs.Scheme.{Scheme, record_len}
use Rattle.oram_rounds.proofs.KeptPaths.{leaf_small}
use Rattle.oram_near.specs.Completion.{ClientRecords, left_by, stored_by}
use Rattle.oram_near.specs.Law.{AreWhole, HasFarLevels, HasShape}
use Rattle.oram_near.specs.LevelsHost.{AreLevelsStored, ServesLevels}
use Rattle.oram_near.specs.PathRequests.{IsFarStore, first_far}
use Rattle.oram_near.specs.NearCalls.{IsOneOf}
use Rattle.oram_near.proofs.Kernel.{absorbed}
use Rattle.oram_near.proofs.Laid.{given, meets_by, nodes_by, not_given}
use Rattle.oram_near.proofs.Nodes.{same_level}
use Rattle.oram_near.proofs.Paths.{whole_far, whole_near}

-- what a host has at a node
pub stored_is : (host : Host) (tree node : ℕ) (kept : Kept) → tree_at host tree ≡ Some kept → stored_at host tree node ≡ record_of kept node
unfolding stored_at
stored_is host tree node kept there = ap (λ (o : Option Kept). option_and_then (λ k. record_of k node) o) there

pub stored_other : (old new : Host) (tree node : ℕ) → tree_at new tree ≡ tree_at old tree → stored_at new tree node ≡ stored_at old tree node
unfolding stored_at
stored_other old new tree node same = ap (λ (o : Option Kept). option_and_then (λ k. record_of k node) o) same

-- two paths with one node at a level have one at the level above
nodes_above : (depth x y level : ℕ) → level < depth → node_on depth x (level + 1) ≡ node_on depth y (level + 1) → node_on depth x level ≡ node_on depth y level
nodes_above depth x y level low e =
    nodes_by depth x y level (MeetsAt-nearer depth x y level (level + 1) (omega arith) (omega (arith, low)) (meets_by depth x y (level + 1) e))

module _ (v : Scheme) (levels : ℕ) where
  abbrev deep : ℕ → ℕ
  deep tree = depth_of v.device tree

  -- a host of levels that carries out a STORE of the far levels of a path
  module _ (old new : Host) (has : HasFarLevels v levels old) (t f l : ℕ) (records : List ℕ) (far : IsFarStore v.device levels (record_len v) (StoreLevels t f l records))
      (is : AreLevelsStored old t f l records new) where
    shape : HasShape old t (deep t) (record_len v)
    shape = has.shapes t far.0

    same_kept : is.kept ≡ shape.kept
    same_kept = kept_same (tree_at old t) is.kept shape.kept is.shaped shape.there

    is_depth : is.kept.depth ≡ deep t
    is_depth = ap (λ (k : Kept). k.depth) same_kept ∙ shape.is_depth

    is_len : is.kept.record_len ≡ record_len v
    is_len = ap (λ (k : Kept). k.record_len) same_kept ∙ shape.is_len

    -- at a node of the path
    on_path : (level : ℕ) → f ≤ level → level ≤ deep t → stored_at new t (host_node (deep t) l level) ≡ Some (record_at (record_len v) records (level - f))
    on_path level low within =
        let P : ℕ → Type 0 = λ d. level ≤ d in
        stored_is new t (host_node (deep t) l level) is.stored is.keeps.here
        ∙ ap (λ (d : ℕ). record_of is.stored (host_node d l level)) (sym is_depth)
        ∙ is.stores.each level low (subst P (sym is_depth) within)
        ∙ ap (λ (n : ℕ). Some (record_at n records (level - f))) is_len

    -- at a node off the path
    off_path : (node : ℕ) → ((level : ℕ) → f ≤ level → level ≤ deep t → node ≢ host_node (deep t) l level) → stored_at new t node ≡ stored_at old t node
    off_path node off =
        stored_is new t node is.stored is.keeps.here
        ∙ is.stores.others node (λ level low within e.
        let P : ℕ → Type 0 = λ d. level ≤ d in
        off level low (subst P is_depth within) (e ∙ ap (λ (d : ℕ). host_node d l level) is_depth))
        ∙ sym (stored_is old t node is.kept is.shaped)

    -- at a far level of any path
    pub stored_now : (tree leaf level : ℕ) → tree < trees_of v.device → leaf < 2 ^ deep tree → first_far levels tree ≤ level → level ≤ deep tree
        → stored_at new tree (host_node (deep tree) leaf level)
        ≡ option_or (stored_by v.device (record_len v) tree leaf level (StoreLevels t f l records)) (stored_at old tree (host_node (deep tree) leaf level))
    stored_now tree leaf level tree_in leaf_in low within = elim (cases_eq t tree) [
      | inr other ↦
          stored_other old new tree (host_node (deep tree) leaf level) (is.keeps.others tree (λ e. other (sym e)))
          ∙ sym (ap (λ (o : Option (List ℕ)). option_or o (stored_at old tree (host_node (deep tree) leaf level)))
          (not_given v.device (record_len v) tree leaf t f l level records (λ here _ _. other here)))
      | inl here ↦ elim (cases_eq (node_on (deep tree) l level) (node_on (deep tree) leaf level)) [
        | inl same ↦
            let f_low : f ≤ level = omega (arith, low, far.2, ap (first_far levels) here) in
            let Q : ℕ → Type 0 = λ k. stored_at new k (host_node (deep k) l level) ≡ Some (record_at (record_len v) records (level - f)) in
            let P : ℕ → Type 0 = λ k. level ≤ deep k in
            ap (stored_at new tree) (node_same (deep tree) leaf level ∙ sym same ∙ sym (node_same (deep tree) l level))
            ∙ subst Q here (on_path level f_low (subst P (sym here) within))
            ∙ sym (ap (λ (o : Option (List ℕ)). option_or o (stored_at old tree (host_node (deep tree) leaf level)))
            (given v.device (record_len v) tree leaf t f l level records here f_low same))
        | inr apart ↦
            let Q : ℕ → Type 0 = λ k. stored_at new k (host_node (deep tree) leaf level) ≡ stored_at old k (host_node (deep tree) leaf level) in
            let R : ℕ → Type 0 = λ k. l < 2 ^ deep k in
            let off : (j : ℕ) → f ≤ j → j ≤ deep t → host_node (deep tree) leaf level ≢ host_node (deep t) l j = λ j _ j_within e.
            let e2 : node_on (deep tree) leaf level ≡ node_on (deep tree) l j =
            sym (node_same (deep tree) leaf level) ∙ e ∙ node_same (deep t) l j ∙ ap (λ (k : ℕ). node_on (deep k) l j) here in
            let S : ℕ → Type 0 = λ k. j ≤ deep k in
            let one : level ≡ j = same_level (deep tree) leaf l level j leaf_in (subst R here far.1) within (subst S here j_within) e2 in
            apart (ap (node_on (deep tree) l) one ∙ sym e2) in
            subst Q here (off_path (host_node (deep tree) leaf level) off)
            ∙ sym (ap (λ (o : Option (List ℕ)). option_or o (stored_at old tree (host_node (deep tree) leaf level)))
            (not_given v.device (record_len v) tree leaf t f l level records (λ _ _ same. apart same)))
      ]
    ]

    new_shapes : (tree : ℕ) → tree < trees_of v.device → HasShape new tree (deep tree) (record_len v)
    new_shapes tree tree_in = elim (cases_eq tree t) [
      | inl here ↦
          let P : ℕ → Type 0 = λ k. HasShape new k (deep k) (record_len v) in
          subst P (sym here) (record { kept = is.stored; there = is.keeps.here; is_depth = is.stores.depth ∙ is_depth; is_len = is.stores.record_len ∙ is_len })
      | inr other ↦
          let s = has.shapes tree tree_in in record { kept = s.kept; there = is.keeps.others tree other ∙ s.there; is_depth = s.is_depth; is_len = s.is_len }
    ]

    none_both : (a b : Option (List ℕ)) → option_or a b ≡ None → (a ≡ None) × (b ≡ None)
    none_both None b e = (refl, e)
    none_both (Some x) b e = absurd (let q : Some x ≡ None = e in cc)

    no_gap_by : (tree leaf level : ℕ) → tree < trees_of v.device → leaf < 2 ^ deep tree → first_far levels tree ≤ level → level < deep tree
        → stored_at new tree (host_node (deep tree) leaf level) ≡ None → stored_at new tree (host_node (deep tree) leaf (level + 1)) ≡ None
    no_gap_by tree leaf level tree_in leaf_in low within none =
        let both = none_both (stored_by v.device (record_len v) tree leaf level (StoreLevels t f l records)) (stored_at old tree (host_node (deep tree) leaf level))
        (sym (stored_now tree leaf level tree_in leaf_in low (omega (arith, within))) ∙ none) in
        let below = has.no_gap tree leaf level tree_in leaf_in low within both.1 in
        let never : t ≡ tree → f ≤ level + 1 → node_on (deep tree) l (level + 1) ≡ node_on (deep tree) leaf (level + 1) → ⊥ = λ here _ same.
        let f_low : f ≤ level = omega (arith, low, far.2, ap (first_far levels) here) in
        let there = given v.device (record_len v) tree leaf t f l level records here f_low (nodes_above (deep tree) l leaf level within same) in
        let q : Some (record_at (record_len v) records (level - f)) ≡ None = sym there ∙ both.0 in cc in
        stored_now tree leaf (level + 1) tree_in leaf_in (omega (arith, low)) (omega (arith, within))
        ∙ ap (λ (o : Option (List ℕ)). option_or o (stored_at old tree (host_node (deep tree) leaf (level + 1))))
        (not_given v.device (record_len v) tree leaf t f l (level + 1) records never)
        ∙ below

    pub has_now : HasFarLevels v levels new
    has_now = record { shapes = new_shapes; no_gap = no_gap_by }

-- a host of levels whose records the whole paths complete
module _ (v : Scheme) (c : ClientRecords) (device : c.device ≡ v.device) (len : c.near.record_len ≡ record_len v) (records : ℕ → ℕ → List ℕ) where
  -- it carries out an unsure STORE
  store_heard : (old new : Host) (t f l : ℕ) (bytes : List ℕ) → IsFarStore v.device c.near.levels (record_len v) (StoreLevels t f l bytes) → IsOneOf (StoreLevels t f l bytes) c.unsure
      → AreLevelsStored old t f l bytes new → AreWhole v c old records → AreWhole v c new records
  store_heard old new t f l bytes far one is w = record {
    has = has_now v c.near.levels old new w.has t f l bytes far is;
    long = w.long;
    each = λ tree leaf level tree_in leaf_in within.
        let node : ℕ = host_node (depth_of v.device tree) leaf level in
        w.each tree leaf level tree_in leaf_in within ∙ elim (cases_lt level (first_far c.near.levels tree)) [
          | inl near ↦ whole_near c tree leaf level (stored_at old tree node) near ∙ sym (whole_near c tree leaf level (stored_at new tree node) near)
          | inr low ↦
              let now = stored_now v c.near.levels old new w.has t f l bytes far is tree leaf level tree_in leaf_in low within in
              let here : stored_at new tree node ≡ option_or (stored_by c.device c.near.record_len tree leaf level (StoreLevels t f l bytes)) (stored_at old tree node) =
              now ∙ ap (λ (d : _). option_or (stored_by d (record_len v) tree leaf level (StoreLevels t f l bytes)) (stored_at old tree node)) (sym device)
              ∙ ap (λ (n : ℕ). option_or (stored_by c.device n tree leaf level (StoreLevels t f l bytes)) (stored_at old tree node)) (sym len) in
              let same : left_by c.device c.near.record_len tree leaf level c.unsure (stored_at new tree node) ≡ left_by c.device c.near.record_len tree leaf level c.unsure (stored_at old tree node) =
              ap (left_by c.device c.near.record_len tree leaf level c.unsure) here
              ∙ absorbed c.device c.near.record_len tree leaf level (StoreLevels t f l bytes) c.unsure (stored_at old tree node) one in
              whole_far c tree leaf level (stored_at old tree node) low
              ∙ ap (λ (o : Option (List ℕ)). unwrap_or o (c.empty tree leaf level)) (sym same)
              ∙ sym (whole_far c tree leaf level (stored_at new tree node) low)
        ];
  }

  -- it receives an unsure STORE, or a FETCH of levels
  pub heard : (old new : Host) (m : LevelsMessage) (answer : HostAnswer) → IsFarStore v.device c.near.levels (record_len v) m → IsOneOf m c.unsure → ServesLevels old (levels_body m) answer new
      → AreWhole v c old records → AreWhole v c new records
  heard old new (FetchLevels t f last l) answer far one serves w = absurd far
  heard old new (StoreLevels t f l bytes) Done far one serves w =
      store_heard old new t f l bytes far one (serves.levels (StoreLevels t f l bytes) (leaf_small v t l far.1) refl) w
  heard old new (StoreLevels t f l bytes) (Payload payload) far one serves w = absurd (serves.levels (StoreLevels t f l bytes) (leaf_small v t l far.1) refl)
  heard old new (StoreLevels t f l bytes) (Refused code) far one serves w =
      let is = serves.levels (StoreLevels t f l bytes) (leaf_small v t l far.1) refl in subst (λ (h : Host). AreWhole v c h records) (sym is.3) w

  pub fetch_heard : (old new : Host) (t f last l : ℕ) (answer : HostAnswer) → l < 2 ^ 32 → ServesLevels old (levels_body (FetchLevels t f last l)) answer new
      → AreWhole v c old records → AreWhole v c new records
  fetch_heard old new t f last l Done fits serves w = absurd (serves.levels (FetchLevels t f last l) fits refl)
  fetch_heard old new t f last l (Payload payload) fits serves w =
      let is = serves.levels (FetchLevels t f last l) fits refl in subst (λ (h : Host). AreWhole v c h records) (sym is.1) w
  fetch_heard old new t f last l (Refused code) fits serves w =
      let is = serves.levels (FetchLevels t f last l) fits refl in subst (λ (h : Host). AreWhole v c h records) (sym is.3) w
