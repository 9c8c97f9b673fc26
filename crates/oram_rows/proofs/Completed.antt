-- The completed answer of a host that answers by what it has.
use Rattle.std.proofs.Common.{◌≡◌, ℕ, zero, suc, ◌+◌, ◌-◌, ◌*◌, ◌^◌, ◌<◌, ◌≤◌, arith, List, [], ◌∷◌, length, map, drop, inl, inr, refl, sym, ap, ◌∙◌, subst}
use Rattle.std.specs.Prelude.{Option, IfSome}
use Rattle.std.specs.List.{AllByRecursion, range_with_len}
use Rattle.std.proofs.lemmas.Bool.{cases_lt}
use Rattle.std.proofs.lemmas.List.{length-map}
use Rattle.std.proofs.lemmas.List.FromFn.{length-range_with_len}
use Rattle.std.proofs.lemmas.Nat.{pow-add, pow_pos}
use Rattle.oram_geometry.specs.declared.Sizes.{Sizes}
use Rattle.oram_geometry.specs.Path.{node_on}
use Rattle.oram_geometry.specs.Sizes.{depth_of, trees_of}
use Rattle.oram_wire.specs.HostMessages.{payload_answer}
use Rattle.oram_host.specs.Host.{Host}
use Rattle.oram_host.specs.Swaps.{stored_at}
use Rattle.oram_host_laws.proofs.Handed.{node_same}
use Rattle.oram_semantics.specs.Scheme.{Scheme, record_len}
use Rattle.oram_semantics.proofs.Bounds.{depth_small}
use Rattle.oram_tree.specs.Content.{node_count}
use Rattle.oram_records.specs.Messages.{records_body, rows_text}
use Rattle.oram_records.specs.declared.request.RecordsRequest.{RecordsRequest}
use Rattle.oram_records.proofs.Numbers.{one_request}
use Rattle.oram_near.specs.Completion.{ClientRecords, whole_record}
use Rattle.oram_near.specs.Law.{AreWhole}
use Rattle.oram_rows.specs.Law.{CompletedAnswersAreWhole, HasLengths, all_records, stored_rows}
use Rattle.oram_rows.specs.Rows.{AreWholeRows, IsCompleted, IsOfDevice, IsWholeRow, records_answer}
use Rattle.oram_rows.proofs.Numbers.{numbers_fit}
use Rattle.oram_rows.proofs.Places.{leftmost_in, leftmost_there, level_in}
use Rattle.oram_rows.proofs.RowTexts.{IsLong, same_rows}

-- each node has a level
level_there : (depth node : ℕ) → node < 2 ^ (depth + 1) - 1 → (l : ℕ) × (2 ^ l ≤ node + 1) × (node + 1 < 2 * 2 ^ l)
level_there zero node low = (0, omega arith, omega arith)
level_there (suc d) node low = elim (cases_lt node (2 ^ (d + 1) - 1)) [
  | inl below ↦ level_there d node below
  | inr above ↦
      let same : 2 ^ suc d ≡ 2 ^ (d + 1) = ap (λ (k : ℕ). 2 ^ k) (let e : suc d ≡ d + 1 = omega arith in e) in
      let twice : 2 ^ (suc d + 1) ≡ 2 ^ suc d * 2 = pow-add 2 (suc d) 1 in
      (suc d, omega (arith, above, same, pow_pos (d + 1)), omega (arith, low, twice))
]

-- and a leaf below it
node_there : (d : Sizes) (tree node : ℕ) → node < node_count (depth_of d tree)
    → (leaf : ℕ) × (level : ℕ) × (leaf < 2 ^ depth_of d tree) × (level ≤ depth_of d tree) × (node_on (depth_of d tree) leaf level ≡ node)
node_there d tree node low =
    let depth = depth_of d tree in
    let l = level_there depth node low in (
      (node + 1 - 2 ^ l.0) * 2 ^ (depth - l.0),
      l.0,
      leftmost_in depth node l.0 (depth_small d tree) low l.1 l.2,
      level_in depth node l.0 (depth_small d tree) low l.1 l.2,
      leftmost_there depth node l.0 (depth_small d tree) low l.1 l.2,
    )

module _ (v : Scheme) (c : ClientRecords) (far : Host) (records : ℕ → ℕ → List ℕ) (device : c.device ≡ v.device) (are : AreWhole v c far records) where
  one_whole : (tree node : ℕ) (r : List ℕ) → tree < trees_of v.device → node < node_count (depth_of v.device tree) → IsWholeRow c tree node (stored_at far tree node) r → r ≡ records tree node
  one_whole tree node r tree_in node_in is =
      let there = node_there v.device tree node node_in in
      let leaf = there.0 in
      let level = there.1 in
      let P : Sizes → Type 0 = λ d. leaf < 2 ^ depth_of d tree in
      let Q : Sizes → Type 0 = λ d. level ≤ depth_of d tree in
      let R : Sizes → Type 0 = λ d. node_on (depth_of d tree) leaf level ≡ node in
      is leaf level (subst P (sym device) there.2) (subst Q (sym device) there.3) (subst R (sym device) there.4)
      ∙ ap (λ (n : ℕ). whole_record c tree leaf level (stored_at far tree n)) (sym there.4 ∙ sym (node_same (depth_of v.device tree) leaf level))
      ∙ sym (are.each tree leaf level tree_in there.2 there.3) ∙ ap (records tree) there.4

  all_whole : (tree node n : ℕ) (rs : List (List ℕ)) → tree < trees_of v.device → node + n ≤ node_count (depth_of v.device tree)
      → AreWholeRows c tree node (map (stored_at far tree) (range_with_len node n)) rs → rs ≡ map (records tree) (range_with_len node n)
  all_whole tree node zero rs tree_in within whole = whole
  all_whole tree node (suc n) [] tree_in within whole = absurd whole
  all_whole tree node (suc n) (r ∷ rs) tree_in within whole =
      ap (λ (x : List ℕ). x ∷ rs) (one_whole tree node r tree_in (omega (arith, within)) whole.0)
      ∙ ap (λ (xs : List (List ℕ)). records tree node ∷ xs) (all_whole tree (node + 1) n rs tree_in (omega (arith, within)) whole.1)

all_long : (v : Scheme) (far : Host) (len tree node n : ℕ) → len ≡ record_len v → HasLengths v far → tree < trees_of v.device → AllByRecursion (IsLong len) (map (stored_at far tree) (range_with_len node n))
all_long v far len tree node zero same lengths tree_in = tt
all_long v far len tree node (suc n) same lengths tree_in =
    (subst (λ (k : ℕ). IfSome (stored_at far tree node) (λ r. length r ≡ k)) (sym same) (lengths tree node tree_in), all_long v far len tree (node + 1) n same lengths tree_in)

pub completed_whole : CompletedAnswersAreWhole
completed_whole v c far records r given device len are lengths asked completed = by completed
  where
    stored : List (Option (List ℕ))
    stored = stored_rows far r

    of_client : IsOfDevice c.device c.near.record_len r
    of_client =
        let P : Sizes → Type 0 = λ d. IsOfDevice d c.near.record_len r in
        let Q : ℕ → Type 0 = λ n. IsOfDevice v.device n r in
        subst P (sym device) (subst Q (sym len) asked)

    long : AllByRecursion (IsLong c.near.record_len) stored
    long = all_long v far c.near.record_len r.tree r.first r.count len lengths asked.tree_in

    count : length stored ≡ r.count
    count = length-map (range_with_len r.first r.count) (stored_at far r.tree) ∙ length-range_with_len r.first r.count

    by : IsCompleted c (records_body r) (payload_answer (rows_text stored)) given → given ≡ records_answer (all_records records r)
    by (inl h) =
        let is = h.0 in
        let same : r ≡ is.request = one_request r is.request (numbers_fit v.device (record_len v) r asked) (numbers_fit c.device c.near.record_len is.request is.of_device) is.asked in
        let rows : stored ≡ is.has.rows =
        same_rows c.near.record_len stored is.has.rows long is.has.are.long (count ∙ ap (λ (x : RecordsRequest). x.count) same ∙ sym is.has.are.count_is) (ap (drop 1) is.has.spelled) in
        let P : RecordsRequest → Type 0 = λ x. AreWholeRows c x.tree x.first is.has.rows h.1.records in
        let Q : List (Option (List ℕ)) → Type 0 = λ xs. AreWholeRows c r.tree r.first xs h.1.records in
        h.1.given_is ∙ ap records_answer (all_whole v c far records device are r.tree r.first r.count h.1.records asked.tree_in asked.nodes_in (subst Q (sym rows) (subst P (sym same) h.1.whole)))
    by (inr h) = absurd (h.0 (record {
      request = r;
      asked = refl;
      of_device = of_client;
      has = record { rows = stored; are = record { count_is = count; long = long }; spelled = refl };
    }))
