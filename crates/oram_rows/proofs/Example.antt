-- A device of two blocks, whose root is near. Its host has the record of the left leaf alone.
use Rattle.std.proofs.Common.{◌≡◌, ℕ, ◌≤◌, arith, List, [], ◌∷◌, ◌++◌, length, false, inl, inr, refl, sym, subst, Ok}
use Rattle.std.specs.Prelude.{Option, Some, None, IfSome, ⊤}
use Rattle.std.proofs.lemmas.Bool.{cases_eq}
use Rattle.oram_geometry.specs.Least.{least_from}
use Rattle.oram_geometry.specs.Sizes.{blocks_in, depth_of, level_for, record_len_of, trees_of}
use Rattle.oram_wire.specs.HostMessages.{done_answer, fetch_body, payload_answer, store_body}
use Rattle.oram_host.specs.Host.{Kept, record_of}
use Rattle.oram_host.specs.Swaps.{stored_at}
use Rattle.oram_tree.specs.Content.{node_count}
use Rattle.oram_semantics.specs.Scheme.{record_len}
use Rattle.oram_records.specs.Messages.{records_body, rows_text}
use Rattle.oram_link_laws.proofs.Same.{look_past}
use Rattle.oram_near.specs.Examples.{TwoLevelsBatches, device_of_two, leaves_below, left_leaf, len_of_one, maker_with, near_root, nine, no_leaf, ones, paths_given, three_zeros, two_blocks, zero_records, zeros}
use Rattle.oram_near.specs.Law.{AreWhole}
use Rattle.oram_near.proofs.Completed.{completes_paths}
use Rattle.oram_near.proofs.FarHeard.{stored_is}
use Rattle.oram_near.proofs.TwoLevels.{two_levels_example}
use Rattle.oram_rows.specs.Examples.{RowsExample, left_rows, root_client, three_nodes}
use Rattle.oram_rows.specs.Law.{HasLengths, stored_rows}
use Rattle.oram_rows.specs.Rows.{IsCompleted, IsOfDevice, KnownValue, records_answer}
use Rattle.oram_rows.proofs.WholeRows.{far_row, near_row}

one_deep : 1 ≡ depth_of two_blocks.device 0
unfolding level_for blocks_in least_from
one_deep = refl

one_tree : trees_of two_blocks.device ≡ 1
unfolding trees_of blocks_in least_from
one_tree = refl

eighty_eight : 88 ≡ record_len two_blocks
unfolding record_len_of
eighty_eight = refl

-- what some whole paths have once the left one is stored
whole_paths : (records : ℕ → ℕ → List ℕ) × AreWhole two_blocks root_client left_leaf records
whole_paths =
    let e = two_levels_example in
    let later = completes_paths TwoLevelsBatches zero_records device_of_two len_of_one e.0 false two_blocks (near_root no_leaf zeros []) (near_root left_leaf ones (0 ∷ []))
    (store_body 0 0 (ones ++ ones) ∷ fetch_body 0 1 ∷ []) (Ok (done_answer ∷ payload_answer (ones ++ zeros) ∷ [])) paths_given leaves_below no_leaf left_leaf three_zeros refl eighty_eight e.1 e.2 e.3 (e.4 false) in
    (later.2.records, later.2.are)

abbrev left : Kept
left = record { depth = 1; record_len = 88; records = (1, ones) ∷ [] }

left_length : (node : ℕ) → IfSome (record_of left node) (λ stored. length stored ≡ record_len two_blocks)
left_length node = elim (cases_eq node 1) [
  | inl is ↦ let P : ℕ → Type 0 = λ n. IfSome (record_of left n) (λ stored. length stored ≡ record_len two_blocks) in subst P (sym is) eighty_eight
  | inr other ↦
      let entry : ℕ × List ℕ = (1, ones) in
      let none : record_of left node ≡ None = look_past node entry [] (λ same. other (sym same)) in
      subst (λ (o : Option (List ℕ)). IfSome o (λ stored. length stored ≡ record_len two_blocks)) (sym none) tt
]

lengths : HasLengths two_blocks left_leaf
lengths tree node low =
    let first : 0 ≡ tree = omega (arith, low, one_tree) in
    let P : ℕ → Type 0 = λ t. IfSome (stored_at left_leaf t node) (λ stored. length stored ≡ record_len two_blocks) in
    subst P first (subst (λ (o : Option (List ℕ)). IfSome o (λ stored. length stored ≡ record_len two_blocks)) (sym (stored_is left_leaf 0 node left refl)) (left_length node))

three_there : (len : ℕ) → 88 ≡ len → IsOfDevice two_blocks.device len three_nodes
three_there len same = record {
  tree_in = omega (arith, one_tree);
  nodes_in = (let P : ℕ → Type 0 = λ d. 3 ≤ node_count d in subst P one_deep (omega arith));
  fits = omega (arith, same);
}

rows_are : stored_rows left_leaf three_nodes ≡ left_rows
unfolding stored_at
rows_are = refl

abbrev known : KnownValue ⊤
known = record { empty = maker_with nine; device = two_blocks.device; near = (near_root left_leaf ones (0 ∷ [])).near }

completed : IsCompleted root_client (records_body three_nodes) (payload_answer (rows_text left_rows)) (records_answer (ones ∷ ones ∷ zeros ∷ []))
completed = inl (
  record {
    request = three_nodes;
    asked = refl;
    of_device = three_there 88 refl;
    has = record { rows = left_rows; are = record { count_is = refl; long = (tt, (refl, (tt, tt))) }; spelled = refl };
  },
  record {
    records = ones ∷ ones ∷ zeros ∷ [];
    whole = (
      near_row zero_records known 0 0 None refl (omega arith),
      (
        far_row zero_records known 0 1 (Some ones) ones (λ near. absurd (omega (arith, near.1))) (λ leaf level leaf_in within there. refl),
        (far_row zero_records known 0 2 None zeros (λ near. absurd (omega (arith, near.1))) (λ leaf level leaf_in within there. refl), refl),
      ),
    );
    given_is = refl;
  },
)

pub rows_example : RowsExample
rows_example = (whole_paths, lengths, three_there (record_len two_blocks) eighty_eight, rows_are, completed)
