-- A device of two blocks, whose root's record is near, over a host of levels without a record.
use Rattle.std.proofs.Common.{◌≡◌, ◌≢◌, ℕ, zero, suc, ◌+◌, ◌-◌, ◌*◌, ◌^◌, ◌<◌, ◌≤◌, arith, Bool, true, false, Option, Some, None, List, [], ◌∷◌, ◌++◌, length, take, drop, Ok, refl, sym, ap, ◌∙◌, subst, inl, inr}
use Rattle.std.specs.Prelude.{MatchBool}
use Rattle.std.proofs.Math.Seq.{drop-append-add}
use Rattle.oram_geometry.specs.Least.{least_from}
use Rattle.oram_geometry.specs.Path.{node_on}
use Rattle.oram_geometry.specs.Sizes.{blocks_in, depth_of, level_for, record_len_of, trees_of}
use Rattle.oram_levels.specs.Messages.{StoreLevels, fetch_levels_body, levels_payload, store_levels_body}
use Rattle.oram_wire.specs.HostMessages.{done_answer, fetch_body, payload_answer, store_body}
use Rattle.oram_wire.specs.declared.host_messages.HostAnswer.TheVariants.{Done, Payload}
use Rattle.oram_host.specs.Host.{Kept, record_of}
use Rattle.oram_host.specs.Path.{node_on as host_node, record_at}
use Rattle.oram_host.specs.Swaps.{stored_at}
use Rattle.oram_host_laws.specs.Honest.{KeepsAll, KeepsTree}
use Rattle.oram_semantics.specs.Scheme.{record_len}
use Rattle.oram_tree.specs.Content.{node_count}
use Rattle.oram_link_laws.proofs.Same.{look_past}
use Rattle.oram_near.specs.Completion.{ClientRecords, IsCompleted, IsWholePath, far_level, gives_records, whole_record}
use Rattle.oram_near.specs.Examples.{ResumedExample, resumed_root, TwoLevelsBatches, TwoLevelsExample, leaves_below, left_leaf, maker_with, near_root, nine, no_leaf, ones, paths_given, three_zeros, two_blocks, zero_records, zeros}
use Rattle.oram_near.specs.Law.{AreWhole, CompletesHost, HasFarLevels, HasShape}
use Rattle.oram_near.specs.LevelsHost.{AnswersLevels, AreLevelsFetched, AreLevelsStored, LevelsRun, ServesLevels, StoresLevels}
use Rattle.oram_near.specs.Near.{StoresNear}
use Rattle.oram_near.specs.NearCalls.{NearBatch, TakesUnsure, client_of}
use Rattle.oram_near.specs.PathRequests.{FetchPath, StorePath}
use Rattle.oram_near.proofs.Example.{only_fetch, only_store}
use Rattle.oram_near.proofs.FarHeard.{stored_is}

abbrev deep : ℕ
deep = depth_of two_blocks.device 0

one_deep : 1 ≡ deep
unfolding level_for blocks_in least_from
one_deep = refl

one_tree : trees_of two_blocks.device ≡ 1
unfolding trees_of blocks_in least_from
one_tree = refl

eighty_eight : 88 ≡ record_len_of two_blocks.device 0
unfolding record_len_of
eighty_eight = refl

first_tree : 0 < trees_of two_blocks.device
first_tree = omega (arith, one_tree)

leaf_in : (leaf : ℕ) → leaf < 2 ^ 1 → leaf < 2 ^ deep
leaf_in leaf low = let P : ℕ → Type 0 = λ d. leaf < 2 ^ d in subst P one_deep low

two_records : (path : List ℕ) → length path ≡ 176 → length path ≡ (deep + 1) * 88
two_records path long = let P : ℕ → Type 0 = λ d. length path ≡ (d + 1) * 88 in subst P one_deep long

abbrev bare : Kept
bare = record { depth = 1; record_len = 88; records = [] }

abbrev left : Kept
left = record { depth = 1; record_len = 88; records = (1, ones) ∷ [] }

abbrev full : Kept
full = record { depth = 1; record_len = 88; records = (0, zeros) ∷ (1, zeros) ∷ (2, zeros) ∷ [] }

-- the host takes the left leaf's record

left_node : host_node 1 0 1 ≡ 1
unfolding host_node
left_node = refl

stores_left : StoresLevels bare 1 0 ones left
stores_left = record {
  depth = refl;
  record_len = refl;
  leaf_in = omega arith;
  first_in = omega arith;
  whole = refl;
  each = λ level from low.
      let P : ℕ → Type 0 = λ k. record_of left (host_node 1 0 k) ≡ Some (record_at 88 ones (k - 1)) in
      let here : 1 ≡ level = omega (arith, from, low) in subst P here (ap (record_of left) left_node);
  others = λ node apart. (let e : ℕ × List ℕ = (1, ones) in look_past node e [] (λ same. apart 1 (omega arith) (omega arith) (sym same ∙ sym left_node)));
}

left_kept : AreLevelsStored no_leaf 0 1 0 ones left_leaf
left_kept = record {
  kept = bare;
  stored = left;
  shaped = refl;
  stores = stores_left;
  keeps = record {
    here = refl;
    others = λ other apart.
        (let e : ℕ × Kept = (0, left) in let f : ℕ × Kept = (0, bare) in
        look_past other e [] (λ same. apart (sym same)) ∙ sym (look_past other f [] (λ same. apart (sym same))));
  };
}

serves_store : ServesLevels no_leaf (store_levels_body 0 1 0 ones) Done left_leaf
serves_store = record {
  levels = only_store (λ message. AnswersLevels no_leaf message Done left_leaf) 0 1 0 ones (omega arith) left_kept;
  misfit = λ m. absurd (let both : true ≡ false = m.1 in cc);
  other = λ e. absurd (let both : true ≡ false = e in cc);
}

-- it has no record of the right leaf

right_node : record_of left (host_node 1 1 1) ≡ None
unfolding host_node
right_node = refl

nothing_right : AreLevelsFetched left_leaf 0 1 deep 1 (levels_payload 0 [])
nothing_right = record {
  kept = left;
  shaped = refl;
  leaf_in = omega arith;
  last_in = omega (arith, one_deep);
  first_in = omega (arith, one_deep);
  count = 0;
  bytes = [];
  is = refl;
  within = omega (arith, one_deep);
  long = refl;
  each = λ i low. absurd (omega (arith, low));
  ends = λ more. right_node;
}

serves_right : ServesLevels left_leaf (fetch_levels_body 0 1 deep 1) (Payload (levels_payload 0 [])) left_leaf
serves_right = record {
  levels = only_fetch (λ message. AnswersLevels left_leaf message (Payload (levels_payload 0 [])) left_leaf) 0 1 deep 1 (omega arith) (nothing_right, refl);
  misfit = λ m. absurd (let both : true ≡ false = m.1 in cc);
  other = λ e. absurd (let both : true ≡ false = e in cc);
}

leaves_run : (may_lie : Bool) → LevelsRun two_blocks (zero_records (maker_with [])) may_lie no_leaf leaves_below left_leaf
leaves_run may_lie = (left_leaf, inl (Done, tt, refl, serves_store), (left_leaf, inl (Payload (levels_payload 0 []), omega arith, refl, serves_right), refl))

-- the root's record becomes ones

abbrev after : ClientRecords
after = record (client_of zero_records (near_root left_leaf ones (0 ∷ []))) { unsure = StoreLevels 0 1 0 ones ∷ [] }

root_by : (leaf : ℕ) → leaf < 2 ^ 1 → 0 ≡ node_on 1 leaf 0
unfolding node_on
root_by zero low = refl
root_by (suc zero) low = refl
root_by (suc (suc leaf)) low = absurd (omega (arith, low))

root_node : (leaf : ℕ) → leaf < 2 ^ 1 → 0 ≡ node_on deep leaf 0
root_node leaf low =
    let P : ℕ → Type 0 = λ d. 0 ≡ node_on d leaf 0 in subst P one_deep (root_by leaf low)

-- past the root's record lies the rest
past : (root : List ℕ) (n : ℕ) → length root ≡ 88 → 88 ≤ n → drop n (root ++ nine) ≡ drop (n - 88) nine
past root n long beyond = ap (λ (k : ℕ). drop k (root ++ nine)) (let e : n ≡ length root + (n - 88) = omega (arith, long, beyond) in e) ∙ drop-append-add root nine (n - 88)

near_left : StoresNear deep 0 (ones ++ ones) (near_root no_leaf zeros []).near (near_root left_leaf ones (0 ∷ [])).near
near_left = record {
  levels = refl;
  record_len = refl;
  records = record {
    long = refl;
    put = λ level low. (
        let P : ℕ → Type 0 = λ k. record_at 88 (ones ++ nine) (node_on deep 0 k) ≡ record_at 88 (ones ++ ones) k in
        let here : 0 ≡ level = omega (arith, low) in
        let Q : ℕ → Type 0 = λ n. record_at 88 (ones ++ nine) n ≡ record_at 88 (ones ++ ones) 0 in
        subst P here (subst Q (root_node 0 (omega arith)) refl)
        );
    others = λ node apart. (
        let other : 0 ≢ node = λ same. apart 0 (omega arith) (sym same ∙ root_node 0 (omega arith)) in
        let beyond : 88 ≤ node * 88 = omega (arith, other) in
        ap (take ((node + 1) * 88 - node * 88)) (past ones (node * 88) refl beyond ∙ sym (past zeros (node * 88) refl beyond))
        );
  };
  rest = refl;
  noted = λ none. (refl, ap (λ (n : ℕ). n ∷ []) (root_node 0 (omega arith)));
  room = λ none few. refl;
}

-- the right leaf's path

right_level : (level : ℕ) → level ≤ deep → record_at 88 (ones ++ zeros) level ≡ whole_record after 0 1 level (far_level 88 1 0 [] level)
unfolding level_for blocks_in least_from node_on
right_level zero within = refl
right_level (suc zero) within = refl
right_level (suc (suc level)) within = absurd (omega (arith, within, one_deep))

right_whole : IsWholePath after 0 1 0 [] (ones ++ zeros)
right_whole = record { long = two_records (ones ++ zeros) refl; each = right_level }

right_completed : IsCompleted after 0 1 (payload_answer (levels_payload 0 [])) (payload_answer (ones ++ zeros))
right_completed =
    let P : ℕ → Type 0 = λ d. gives_records 88 (d + 1 - 1) (payload_answer (levels_payload 0 [])) ≡ true in
    let none_given : P deep = subst P one_deep refl in
    subst (λ (b : Bool). MatchBool b ((path : List ℕ) × IsWholePath after 0 1 0 [] path × (payload_answer (ones ++ zeros) ≡ payload_answer path)) (payload_answer (ones ++ zeros) ≡ []))
    (sym none_given) (ones ++ zeros, right_whole, refl)

leaves_batch : NearBatch TwoLevelsBatches zero_records (near_root no_leaf zeros []) (store_body 0 0 (ones ++ ones) ∷ fetch_body 0 1 ∷ []) (Ok (done_answer ∷ payload_answer (ones ++ zeros) ∷ [])) paths_given leaves_below
    (near_root left_leaf ones (0 ∷ []))
leaves_batch = (
  refl,
  refl,
  inl (record {
    requests = StorePath 0 0 (ones ++ ones) ∷ FetchPath 0 1 ∷ [];
    named = refl;
    paths = ((first_tree, leaf_in 0 (omega arith), two_records (ones ++ ones) refl), ((first_tree, leaf_in 1 (omega arith)), tt));
    in_order = refl;
    stored = ((near_root left_leaf ones (0 ∷ [])).near, near_left, ((near_root left_leaf ones (0 ∷ [])).near, refl, refl));
    outcome = Ok (done_answer ∷ payload_answer (levels_payload 0 []) ∷ []);
    sent = (leaves_run false, (refl, [], tt, refl));
    gives = inl (record { refusal = None; refused = (refl, tt); given = done_answer ∷ payload_answer (ones ++ zeros) ∷ []; reported = refl; are = (refl, (right_completed, (refl, refl))); unsure = refl });
    as_paths = refl;
  }),
)

-- the host of whole paths completes the host without a record

abbrev before : ClientRecords
before = client_of zero_records (near_root no_leaf zeros [])

no_tree_but_one : (tree : ℕ) → tree < trees_of two_blocks.device → 0 ≡ tree
no_tree_but_one tree low = omega (arith, low, one_tree)

nothing_at : (tree leaf level : ℕ) → 0 ≡ tree → stored_at no_leaf tree (host_node (depth_of two_blocks.device tree) leaf level) ≡ None
nothing_at tree leaf level is_tree =
    let P : ℕ → Type 0 = λ t. stored_at no_leaf t (host_node (depth_of two_blocks.device t) leaf level) ≡ None in
    subst P is_tree (stored_is no_leaf 0 (host_node deep leaf level) bare refl)

has_levels : HasFarLevels two_blocks 1 no_leaf
has_levels = record {
  shapes = λ tree low. subst (λ (t : ℕ). HasShape no_leaf t (depth_of two_blocks.device t) (record_len two_blocks)) (no_tree_but_one tree low) (record { kept = bare; there = refl; is_depth = one_deep; is_len = eighty_eight });
  no_gap = λ tree leaf level low inside from above none. nothing_at tree leaf (level + 1) (no_tree_but_one tree low);
}

three_kept : (n : ℕ) → n < 3 → record_of full n ≡ Some zeros
three_kept zero low = refl
three_kept (suc zero) low = refl
three_kept (suc (suc zero)) low = refl
three_kept (suc (suc (suc n))) low = absurd (omega (arith, low))

keeps_zeros : KeepsAll two_blocks (λ i n. zeros) three_zeros
keeps_zeros i low = subst (λ (t : ℕ). KeepsTree two_blocks t (λ n. zeros) three_zeros) (no_tree_but_one i low) (record {
  kept = full;
  there = refl;
  depth = one_deep;
  record_len = eighty_eight;
  each = λ n inside. (let P : ℕ → Type 0 = λ d. n < node_count d in let few : n < node_count 1 = subst P (sym one_deep) inside in three_kept n (omega (arith, few)));
})

zeros_at : (leaf level : ℕ) → leaf < 2 ^ 1 → level ≤ 1 → zeros ≡ whole_record before 0 leaf level None
zeros_at leaf zero low within =
    let Q : ℕ → Type 0 = λ n. zeros ≡ record_at 88 (zeros ++ nine) n in subst Q (root_node leaf low) refl
zeros_at leaf (suc zero) low within = refl
zeros_at leaf (suc (suc level)) low within = absurd (omega (arith, within))

zeros_there : (tree leaf level : ℕ) → 0 ≡ tree → leaf < 2 ^ 1 → level ≤ 1
    → zeros ≡ whole_record before tree leaf level (stored_at no_leaf tree (host_node (depth_of two_blocks.device tree) leaf level))
zeros_there tree leaf level is_tree low within =
    let P : ℕ → Type 0 = λ t. zeros ≡ whole_record before t leaf level None in
    subst (λ (o : Option (List ℕ)). zeros ≡ whole_record before tree leaf level o) (sym (nothing_at tree leaf level is_tree)) (subst P is_tree (zeros_at leaf level low within))

are_zeros : AreWhole two_blocks before no_leaf (λ i n. zeros)
are_zeros = record {
  has = has_levels;
  long = λ tree leaf level low inside within. eighty_eight;
  each = λ tree leaf level low inside within.
      let is_tree = no_tree_but_one tree low in
      let P : ℕ → Type 0 = λ t. leaf < 2 ^ depth_of two_blocks.device t in
      let Q : ℕ → Type 0 = λ d. leaf < 2 ^ d in
      let few : leaf < 2 ^ 1 = subst Q (sym one_deep) (subst P (sym is_tree) inside) in
      let R : ℕ → Type 0 = λ t. level ≤ depth_of two_blocks.device t in
      let top : level ≤ deep = subst R (sym is_tree) within in
      zeros_there tree leaf level is_tree few (omega (arith, top, one_deep));
}

completes_nothing : CompletesHost two_blocks before no_leaf three_zeros
completes_nothing = record { records = λ i n. zeros; are = are_zeros; keeps = keeps_zeros }

pub two_levels_example : TwoLevelsExample
two_levels_example = (
  λ l m bodies o exchanges h. h.1,
  record { same_device = refl; same_len = refl; leaves_far = omega (arith, one_deep); are_stores = tt },
  completes_nothing,
  leaves_batch,
  leaves_run,
)

-- the next process takes the STORE

resumed : TakesUnsure (near_root no_leaf zeros []) (store_body 0 0 (ones ++ ones) ∷ []) resumed_root
resumed = record {
  requests = StorePath 0 0 (ones ++ ones) ∷ [];
  named = refl;
  paths = ((first_tree, leaf_in 0 (omega arith), two_records (ones ++ ones) refl), tt);
  stored = ((near_root left_leaf ones (0 ∷ [])).near, near_left, refl);
  same = refl;
}

pub resumed_example : ResumedExample
resumed_example = (
  record { same_device = refl; same_len = refl; leaves_far = omega (arith, one_deep); are_stores = tt },
  record { device = refl; levels = refl; record_len = refl; bytes = refl; empty = refl },
  completes_nothing,
  resumed,
  ((StoreLevels 0 1 0 ones, inl refl, refl), tt),
  λ may_lie. (left_leaf, inl (inr (Done, serves_store)), refl),
)
