-- The records that a client makes: each node has one, and with the digests of the formatting they are those of the formatting.
use Rattle.std.proofs.Common.{◌≡◌, ℕ, zero, suc, ◌+◌, ◌-◌, ◌*◌, ◌^◌, ◌<◌, ◌≤◌, Bool, true, false, if◌then◌else◌, List, ◌++◌, length, drop, inl, inr, refl, ap, sym, ◌∙◌, arith}
use Rattle.std.specs.Prelude.{nat_lt}
use Rattle.std.proofs.lemmas.Bool.{cases_lt}
use Rattle.std.proofs.lemmas.List.{length-take-le, length-drop}
use Rattle.oram_geometry.specs.declared.Sizes.{Sizes}
use Rattle.oram_geometry.specs.Sizes.{blocks_in, trees_of, depth_of, level_for}
use Rattle.oram_geometry.specs.Least.{least_from}
use Rattle.oram_geometry.specs.Path.{node_on}
use Rattle.oram_geometry.proofs.Nodes.{node_on-child}
use Rattle.oram_hash.specs.Record.{is_left_child}
use Rattle.oram_bucket.specs.Cipher.{Cipher}
use Rattle.oram_tree.specs.Content.{node_count}
use Rattle.oram_tree.specs.Subtree.{root_record}
use Rattle.oram_semantics.specs.Nonces.{formatted_below}
use Rattle.oram_empty.specs.EmptyRecords.{begins_at, empty_path, empty_record, seal_empty}
use Rattle.oram_empty.specs.KeptDigests.{AreOfFormatting, Digests, children_in, digests_len, made_path, made_record, piece, upper_below, upper_count, upper_record}
use Rattle.oram_empty.specs.Laws.{MadeExample, MadeRecordsAreEmpty, MadeRecordsAreOfNodes, example_scheme}
use Rattle.oram_empty.proofs.CollectedAll.{collections_have}
use Rattle.oram_empty.proofs.Counts.{upper_end, upper_node}
use Rattle.oram_empty.proofs.Example.{example, plain_law}
use Rattle.oram_empty.proofs.Joined.{joined-same, length-empty_record, length-upper, made_below, made_upper, upper_is}

-- the node above one that two paths share is on both
one_parent : (depth a b level : ℕ) → level < depth → node_on depth a (level + 1) ≡ node_on depth b (level + 1) → node_on depth a level ≡ node_on depth b level
one_parent depth a b level within same = elim (node_on-child depth a level within) [
  | inl x ↦ elim (node_on-child depth b level within) [ inl y ↦ omega (arith, same, x, y) | inr y ↦ absurd (omega (arith, same, x, y)) ]
  | inr x ↦ elim (node_on-child depth b level within) [ inl y ↦ absurd (omega (arith, same, x, y)) | inr y ↦ omega (arith, same, x, y) ]
]

-- so its subtree begins at one nonce
begins_one : (base depth a b level : ℕ) → level ≤ depth → node_on depth a level ≡ node_on depth b level → begins_at base depth a level ≡ begins_at base depth b level
unfolding begins_at
begins_one base depth a b zero within same = refl
begins_one base depth a b (suc level) within same =
    let next : level + 1 ≡ suc level = omega arith in
    let here : node_on depth a (level + 1) ≡ node_on depth b (level + 1) = ap (node_on depth a) next ∙ same ∙ ap (node_on depth b) (sym next) in
    let above = begins_one base depth a b level (omega arith) (one_parent depth a b level (omega arith) here) in
    ap (λ (k : ℕ). k + (if is_left_child (node_on depth a (level + 1)) then 0 else node_count (depth - (level + 1)))) above
    ∙ ap (λ (n : ℕ). begins_at base depth b level + (if is_left_child n then 0 else node_count (depth - (level + 1)))) here

module _ (cipher : Cipher) (s : Digests) (tree leaf other level : ℕ) (within : level ≤ depth_of s.device tree)
    (same : node_on (depth_of s.device tree) leaf level ≡ node_on (depth_of s.device tree) other level) where
  begins_same : begins_at (formatted_below s.device tree) (depth_of s.device tree) leaf level ≡ begins_at (formatted_below s.device tree) (depth_of s.device tree) other level
  begins_same = begins_one (formatted_below s.device tree) (depth_of s.device tree) leaf other level within same

  one_below : empty_record cipher s.device tree leaf level ≡ empty_record cipher s.device tree other level
  one_below = ap (root_record (seal_empty cipher s.device) (depth_of s.device tree - level)) begins_same

  one_upper : upper_record cipher s tree leaf level ≡ upper_record cipher s tree other level
  one_upper =
      ap (λ (k : ℕ). seal_empty cipher s.device (k + 2 * node_count (depth_of s.device tree - (level + 1))) ++ children_in s.device s.bytes tree (node_on (depth_of s.device tree) leaf level)) begins_same
      ∙ ap (λ (n : ℕ). seal_empty cipher s.device (begins_at (formatted_below s.device tree) (depth_of s.device tree) other level + 2 * node_count (depth_of s.device tree - (level + 1))) ++ children_in s.device s.bytes tree n) same

  one_made : made_record cipher s tree leaf level ≡ made_record cipher s tree other level
  one_made = by (nat_lt (level + 3) (depth_of s.device tree))
    where
      by : (b : Bool) → (if b then upper_record cipher s tree leaf level else empty_record cipher s.device tree leaf level)
          ≡ (if b then upper_record cipher s tree other level else empty_record cipher s.device tree other level)
      by true = one_upper
      by false = one_below

-- the digests that are kept for an upper node are whole
children_whole : (d : Sizes) (bytes : List ℕ) (tree node : ℕ) → length bytes ≡ digests_len d → tree < trees_of d → node < upper_count (depth_of d tree)
    → length (children_in d bytes tree node) ≡ 64
unfolding piece
children_whole d bytes tree node whole tree_in node_in =
    let end = upper_end d tree (trees_of d) tree_in in
    let at : (upper_below d tree + node) * 64 + 64 ≤ length bytes = omega (arith, whole, end, node_in) in
    length-take-le 64 (drop ((upper_below d tree + node) * 64) bytes) (omega (arith, at, length-drop ((upper_below d tree + node) * 64) bytes))

pub of_nodes : MadeRecordsAreOfNodes
of_nodes cipher s law whole = record {
  long = λ tree leaf level tree_in leaf_in within. elim (cases_lt (level + 3) (depth_of s.device tree)) [
    | inl low ↦
        ap length (sym (made_upper cipher s tree leaf level low))
        ∙ length-upper cipher s tree leaf level law (children_whole s.device s.bytes tree (node_on (depth_of s.device tree) leaf level) whole tree_in (upper_node (depth_of s.device tree) leaf level leaf_in low))
    | inr high ↦ ap length (sym (made_below cipher s tree leaf level (omega (arith, high)))) ∙ length-empty_record cipher s.device tree leaf level law
  ];
  one = λ tree leaf other level within same. one_made cipher s tree leaf other level within same;
}

pub made_empty : MadeRecordsAreEmpty
made_empty cipher s are tree leaf level tree_in leaf_in within = elim (cases_lt (level + 3) (depth_of s.device tree)) [
  | inl low ↦ sym (made_upper cipher s tree leaf level low) ∙ upper_is cipher s tree leaf level are tree_in leaf_in low
  | inr high ↦ sym (made_below cipher s tree leaf level (omega (arith, high)))
]

-- so the path is that of the formatting
pub path_empty : (cipher : Cipher) (s : Digests) (tree leaf first : ℕ) (old new : List ℕ) → tree < trees_of s.device → leaf < 2 ^ depth_of s.device tree → first ≤ depth_of s.device tree
    → new ≡ old ++ made_path cipher s tree leaf first → AreOfFormatting cipher s → new ≡ old ++ empty_path cipher s.device tree leaf first
path_empty cipher s tree leaf first old new tree_in leaf_in first_in is are =
    is ∙ ap (λ (xs : List ℕ). old ++ xs)
    (joined-same (made_record cipher s tree leaf) (empty_record cipher s.device tree leaf) first (depth_of s.device tree + 1 - first)
    (λ l from to. made_empty cipher s are tree leaf l tree_in leaf_in (omega (arith, first_in, to))))

deep_enough : 2 ≤ depth_of example_scheme.device 0
unfolding level_for least_from blocks_in trees_of
deep_enough = let e : depth_of example_scheme.device 0 ≡ 7 = refl in omega (arith, e)

pub made_instance : MadeExample
made_instance =
    let v = example_scheme in
    let has = collections_have v example.0 example.1 2 example.2 deep_enough example.3 example.4 in
    let s : Digests = record { device = v.device; bytes = example.2.digests } in
    (s, refl, plain_law, has.digests_whole, has.digests)
