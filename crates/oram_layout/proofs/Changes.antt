-- What each patch does to a bucket file and to its records.
use Rattle.std.proofs.Common.{◌≡◌, ◌≢◌, ◌⊎◌, inl, inr, ℕ, zero, suc, ◌+◌, ◌-◌, ◌*◌, ◌^◌, ◌<◌, ◌≤◌, List, [], ◌∷◌, ◌++◌, length, drop, All, Some, refl, sym, ◌∙◌, ap, subst, arith, ◌==◌}
use Rattle.std.proofs.Math.Nat.{add-mul, mul-le-mul_right}
use Rattle.std.proofs.lemmas.Bool.{cases_eq, cases_lt, cond-true, cond-false, eq-eqb, ne_eqb}
use Rattle.std.proofs.lemmas.List.{length-drop, length-take, map-append}
use Rattle.std.proofs.lemmas.List.Elements.{All-append}
use Rattle.oram_host.specs.Path.{node_on, record_at}
use Rattle.oram_host.proofs.Nodes.{node_on-injective, node_on-within}
use Rattle.oram_redo.specs.Content.{Content, Agrees, Has, bytes_at, put}
use Rattle.oram_redo.specs.Log.{Patch, Spares, put_all}
use Rattle.oram_redo.proofs.Bytes.{has-put, put_outside}
use Rattle.oram_redo.proofs.Heal.{put_all-append, put_all_heals, put_all_spares, put_heals}
use Rattle.oram_layout.specs.BucketFile.{IsBucketFile}
use Rattle.oram_layout.specs.Changes.{IsCell, IsOffRecords, level_patches, marks, record_patch}
use Rattle.oram_layout.specs.Laws.{HasNode, LevelsArePut, LooseKeepsRecords, MarkPutsRecord, MarksKeepFile, OffStaysOff, PutsLevels, PutsRecord, RecordIsPut, UnmarkedIsOff}
use Rattle.oram_layout.specs.Records.{KeepsOthers, records_in}
use Rattle.oram_layout.specs.Trees.{AreApart, Trees, cell_at, next_of, tree_at}
use Rattle.oram_layout.specs.declared.trees.Tree.{Tree}
use Rattle.oram_layout.proofs.Contents.{CellIsSame, content_is, file_same, record_marked, records_same}
use Rattle.oram_layout.proofs.Places.{cell_before_next, cell_behind_header, cell_fits, cells_apart, len_of, one_cell_or_apart}

-- a place that is not in a node's cell
abbrev IsOutside : Tree → ℕ → ℕ → Type 0
IsOutside tree node i = (i < cell_at tree node) ⊎ (cell_at tree node + len_of tree ≤ i)

module _ (trees : Trees) (c d : Content) (is : IsBucketFile trees c) (n : ℕ) (tree : Tree) (node : ℕ) (has : HasNode trees n tree node)
    (out : (i : ℕ) → IsOutside tree node i → d i ≡ c i) where
  -- a change within one cell
  cell_changed : IsBucketFile trees d
  cell_changed = file_same trees c d is
      (λ i h. out i (inl (omega (arith, cell_behind_header trees is.apart n tree node has))))
      (λ i h. out i (inr (omega (arith, cell_before_next trees is.apart n tree node has))))

  others_kept : KeepsOthers (records_in trees c) n node (records_in trees d)
  others_kept m b differ = records_same trees c d m b (λ s there. same s there (cells_apart trees is.apart m n s tree b node there has differ))
    where
      same : (s : Tree) → HasNode trees m s b → (cell_at s b + len_of s ≤ cell_at tree node) ⊎ (cell_at tree node + len_of tree ≤ cell_at s b) → CellIsSame s b c d
      same s there (inl before) =
          let fits = cell_fits s.shape.record_len in
          (out (cell_at s b) (inl (omega arith)), λ one i from below. out i (inl (omega arith)))
      same s there (inr behind) = (out (cell_at s b) (inr behind), λ one i from below. out i (inr (omega arith)))

-- the record that a put wrote
record_there : (trees : Trees) (c : Content) (n : ℕ) (tree : Tree) (node : ℕ) (bytes : List ℕ) → HasNode trees n tree node → length bytes ≡ tree.shape.record_len
    → records_in trees (put (1 ∷ bytes) (cell_at tree node) c) n node ≡ Some bytes
record_there trees c n tree node bytes has long =
    record_marked trees (put (1 ∷ bytes) (cell_at tree node) c) n node tree has (mark (put (1 ∷ bytes) (cell_at tree node) c) wrote)
    ∙ ap (λ (l : List ℕ). Some l) (ap (λ (k : ℕ). bytes_at k (suc (cell_at tree node)) (put (1 ∷ bytes) (cell_at tree node) c)) (sym long) ∙ rest (put (1 ∷ bytes) (cell_at tree node) c) wrote)
  where
    wrote : Has (1 ∷ bytes) (cell_at tree node) (put (1 ∷ bytes) (cell_at tree node) c)
    wrote = has-put (1 ∷ bytes) (cell_at tree node) c

    mark : (e : Content) → Has (1 ∷ bytes) (cell_at tree node) e → e (cell_at tree node) ≡ 1
    mark e h = cc

    rest : (e : Content) → Has (1 ∷ bytes) (cell_at tree node) e → bytes_at (length bytes) (suc (cell_at tree node)) e ≡ bytes
    rest e h = cc

put_is : (trees : Trees) (c : Content) (n : ℕ) (tree : Tree) (node : ℕ) (bytes : List ℕ) → IsBucketFile trees c → HasNode trees n tree node → length bytes ≡ tree.shape.record_len
    → PutsRecord trees c n node bytes (put (1 ∷ bytes) (cell_at tree node) c)
put_is trees c n tree node bytes is has long = record {
  is_file = cell_changed trees c (put (1 ∷ bytes) (cell_at tree node) c) is n tree node has out;
  there = record_there trees c n tree node bytes has long;
  others = others_kept trees c (put (1 ∷ bytes) (cell_at tree node) c) is n tree node has out;
}
  where
    room : (i : ℕ) → IsOutside tree node i → (i < cell_at tree node) ⊎ (cell_at tree node + length (1 ∷ bytes) ≤ i)
    room i (inl below) = inl below
    room i (inr above) = inr (omega (arith, cell_fits tree.shape.record_len))

    out : (i : ℕ) → IsOutside tree node i → put (1 ∷ bytes) (cell_at tree node) c i ≡ c i
    out i outside = put_outside (1 ∷ bytes) (cell_at tree node) c i (room i outside)

pub record_put : RecordIsPut
record_put trees c new n tree node bytes is has long same =
    subst (λ (e : Content). PutsRecord trees c n node bytes e) (sym (content_is (put_all (record_patch tree node bytes ∷ []) c) new same)) (put_is trees c n tree node bytes is has long)

-- the records of some levels of a path are put: n of them, from the i-th on
record PutsSome (trees : Trees) (c : Content) (number : ℕ) (tree : Tree) (leaf first : ℕ) (bytes : List ℕ) (i n : ℕ) (new : Content) : Type 0 where
  is_file : IsBucketFile trees new
  each : (k : ℕ) → i ≤ k → k < i + n → records_in trees new number (node_on tree.shape.depth leaf (first + k)) ≡ Some (record_at tree.shape.record_len bytes k)
  others : (other node : ℕ) → ((other ≢ number) ⊎ ((k : ℕ) → i ≤ k → k < i + n → node ≢ node_on tree.shape.depth leaf (first + k))) → records_in trees new other node ≡ records_in trees c other node

pub length-record_at : (len : ℕ) (bytes : List ℕ) (level levels : ℕ) → length bytes ≡ levels * len → level < levels → length (record_at len bytes level) ≡ len
length-record_at len bytes level levels whole below =
    let end : (level + 1) * len ≤ levels * len = mul-le-mul_right len (omega arith) in
    let step = add-mul level 1 len in
    length-take ((level + 1) * len - level * len) (drop (level * len) bytes) ∙ (omega (arith, length-drop (level * len) bytes))

module _ (trees : Trees) (number : ℕ) (tree : Tree) (there : tree_at trees number ≡ Some tree) (leaf : ℕ) (leaf_in : leaf < 2 ^ tree.shape.depth) (first count : ℕ)
    (within : first + count ≤ tree.shape.depth + 1) (bytes : List ℕ) (whole : length bytes ≡ count * tree.shape.record_len) where
  some_put : (n i : ℕ) (c : Content) → IsBucketFile trees c → i + n ≤ count
      → PutsSome trees c number tree leaf first bytes i n (put_all (level_patches tree leaf first bytes i n) c)
  some_put zero i c is fits = record {
    is_file = is;
    each = λ k from below. absurd (omega arith);
    others = λ other node differ. refl;
  }
  some_put (suc n) i c is fits =
      let depth : ℕ = tree.shape.depth in
      let node : ℕ = node_on depth leaf (first + i) in
      let piece : List ℕ = record_at tree.shape.record_len bytes i in
      let has : HasNode trees number tree node = record { is_there = there; within = node_on-within depth leaf (first + i) leaf_in (omega arith) } in
      let here : PutsRecord trees c number node piece (put (1 ∷ piece) (cell_at tree node) c) =
      put_is trees c number tree node piece is has (length-record_at tree.shape.record_len bytes i count whole (omega arith)) in
      let rest = some_put n (suc i) (put (1 ∷ piece) (cell_at tree node) c) here.is_file (omega arith) in
      record {
        is_file = rest.is_file;
        each = λ k from below. elim (cases_eq k i) [
          | inl same ↦
              rest.others number (node_on depth leaf (first + k))
              (inr (λ j above under e. absurd (omega (arith, node_on-injective depth leaf (first + k) (first + j) (omega arith) (omega arith) e))))
              ∙ ap (λ (l : ℕ). records_in trees (put (1 ∷ piece) (cell_at tree node) c) number (node_on depth leaf (first + l))) same ∙ here.there
              ∙ ap (λ (l : ℕ). Some (record_at tree.shape.record_len bytes l)) (sym same)
          | inr other ↦ rest.each k (omega arith) (omega arith)
        ];
        others = λ other b differ. elim differ [
          | inl ne ↦ rest.others other b (inl ne) ∙ here.others other b (inl ne)
          | inr off ↦
              rest.others other b (inr (λ k from below. off k (omega arith) (omega arith))) ∙ here.others other b (inr (off i (omega arith) (omega arith)))
        ];
      }

pub levels_put : LevelsArePut
levels_put trees c new number tree leaf first count bytes is there leaf_in within whole same =
    let put = some_put trees number tree there leaf leaf_in first count within bytes whole count 0 c is (omega arith) in
    subst (λ (e : Content). PutsLevels trees c number tree leaf first count bytes e) (sym (content_is (put_all (level_patches tree leaf first bytes 0 count) c) new same))
    (record {
      is_file = put.is_file;
      levels = record { whole = whole; each = λ i below. put.each i (omega arith) (omega arith) };
      others = λ other node differ. put.others other node (elim differ [
        | inl ne ↦ inl ne
        | inr off ↦ inr (λ k from below. off k (omega arith))
      ]);
    })

-- a place that a patch does not reach
abbrev Misses : ℕ → Patch → Type 0
Misses i p = (i < p.0) ⊎ (p.0 + length p.1 ≤ i)

all_spare : (Q : Patch → Type 0) (ps : List Patch) (i : ℕ) → All Q ps → ((p : Patch) → Q p → Misses i p) → Spares ps i
all_spare Q [] i all each = tt
all_spare Q (p ∷ ps) i all each = (each p (all 0 p (omega arith)), all_spare Q ps i (λ k d h. all (suc k) d (omega arith)) each)

module _ (trees : Trees) (apart : AreApart trees) (c : Content) where
  off_misses_header : (p : Patch) → IsOffRecords trees c p → (i : ℕ) → i < 8192 → Misses i p
  off_misses_header p off i low =
      inl (omega (arith, off.behind, cell_behind_header trees apart off.number off.tree off.node (record { is_there = off.is_there; within = off.within })))

  off_misses_rest : (p : Patch) → IsOffRecords trees c p → (i : ℕ) → next_of trees ≤ i → Misses i p
  off_misses_rest p off i high =
      inr (omega (arith, off.ends, cell_before_next trees apart off.number off.tree off.node (record { is_there = off.is_there; within = off.within })))

  -- how a cell and a patch off the records lie: the patch is in that cell, or misses it whole
  off_in_cell : (p : Patch) → IsOffRecords trees c p → (n : ℕ) (tree : Tree) (node : ℕ) → HasNode trees n tree node
      → ((cell_at tree node < p.0) × (c (cell_at tree node) ≢ 1)) ⊎ ((p.0 + length p.1 ≤ cell_at tree node) ⊎ (cell_at tree node + len_of tree ≤ p.0))
  off_in_cell p off n tree node has =
      let own : HasNode trees off.number off.tree off.node = record { is_there = off.is_there; within = off.within } in
      elim (one_cell_or_apart trees apart n off.number tree off.tree node off.node has own) [
        | inl one ↦
            let place : cell_at off.tree off.node ≡ cell_at tree node = ap (λ (t : Tree). cell_at t off.node) (sym one.0) ∙ ap (cell_at tree) (sym one.1) in
            inl (subst (λ (k : ℕ). k < p.0) place off.behind, subst (λ (k : ℕ). c k ≢ 1) place off.unset)
        | inr beside ↦ elim beside [
          | inl before ↦ inr (inr (omega (arith, before, off.behind)))
          | inr behind ↦ inr (inl (omega (arith, behind, off.ends)))
        ]
      ]

  off_misses_mark : (p : Patch) → IsOffRecords trees c p → (n : ℕ) (tree : Tree) (node : ℕ) → HasNode trees n tree node → Misses (cell_at tree node) p
  off_misses_mark p off n tree node has = elim (off_in_cell p off n tree node has) [
    | inl own ↦ inl own.0
    | inr beside ↦ elim beside [
      | inl before ↦ inr before
      | inr behind ↦ inl (omega (arith, behind, cell_fits tree.shape.record_len))
    ]
  ]

  off_misses_record : (p : Patch) → IsOffRecords trees c p → (n : ℕ) (tree : Tree) (node : ℕ) → HasNode trees n tree node → c (cell_at tree node) ≡ 1
      → (i : ℕ) → suc (cell_at tree node) ≤ i → i < suc (cell_at tree node) + tree.shape.record_len → Misses i p
  off_misses_record p off n tree node has one i from below = elim (off_in_cell p off n tree node has) [
    | inl own ↦ absurd (own.1 one)
    | inr beside ↦ elim beside [
      | inl before ↦ inr (omega (arith, before))
      | inr behind ↦ inl (omega (arith, behind, cell_fits tree.shape.record_len))
    ]
  ]

pub loose_kept : LooseKeepsRecords
loose_kept trees loose c d is off but = record {
  is_file = file_same trees c d is (λ i low. same i (λ p o. off_misses_header trees is.apart c p o i low)) (λ i high. same i (λ p o. off_misses_rest trees is.apart c p o i high));
  kept = λ n node. records_same trees c d n node (λ tree has. (
    same (cell_at tree node) (λ p o. off_misses_mark trees is.apart c p o n tree node has),
    λ one i from below. same i (λ p o. off_misses_record trees is.apart c p o n tree node has one i from below),
  ));
}
  where
    same : (i : ℕ) → ((p : Patch) → IsOffRecords trees c p → Misses i p) → d i ≡ c i
    same i each = sym (but i (all_spare (IsOffRecords trees c) loose i off each))

pub unmarked_off : UnmarkedIsOff
unmarked_off trees c number tree node bytes has unset short = record {
  number = number;
  tree = tree;
  node = node;
  is_there = has.is_there;
  within = has.within;
  behind = omega arith;
  ends = omega (arith, cell_fits tree.shape.record_len);
  unset = unset;
}

pub off_stays : OffStaysOff
off_stays trees loose c new patch is off one same = All-append (IsOffRecords trees new) loose (patch ∷ []) (λ k d h. still _ (off k d h)) last
  where
    still : (p : Patch) → IsOffRecords trees c p → IsOffRecords trees new p
    still p o =
        let mark : new (cell_at o.tree o.node) ≡ c (cell_at o.tree o.node) =
        same (cell_at o.tree o.node)
        ∙ put_outside patch.1 patch.0 c (cell_at o.tree o.node) (off_misses_mark trees is.apart c patch one o.number o.tree o.node (record { is_there = o.is_there; within = o.within })) in
        record {
          number = o.number;
          tree = o.tree;
          node = o.node;
          is_there = o.is_there;
          within = o.within;
          behind = o.behind;
          ends = o.ends;
          unset = λ e. o.unset (sym mark ∙ e);
        }

    last : All (IsOffRecords trees new) (patch ∷ [])
    last zero d h = still patch one
    last (suc k) d h = absurd (omega arith)

-- the places that marks change
marks_spare : (trees : Trees) (cells : List ℕ) (i : ℕ) → All (IsCell trees) cells → ((cell : ℕ) → IsCell trees cell → (i < cell) ⊎ (cell + 1 ≤ i)) → Spares (marks cells) i
marks_spare trees [] i all each = tt
marks_spare trees (cell ∷ cells) i all each = (each cell (all 0 cell (omega arith)), marks_spare trees cells i (λ k d h. all (suc k) d (omega arith)) each)

pub marks_kept : MarksKeepFile
marks_kept trees cells c is all =
    file_same trees c (put_all (marks cells) c) is
    (λ i low. put_all_spares (marks cells) c i (marks_spare trees cells i all (λ cell its. inl (omega (arith, its.place, cell_behind_header trees is.apart its.number its.tree its.node (record { is_there = its.is_there; within = its.within }))))))
    (λ i high. put_all_spares (marks cells) c i (marks_spare trees cells i all (λ cell its. inr (omega (arith, its.place, cell_fits its.tree.shape.record_len, cell_before_next trees is.apart its.number its.tree its.node (record { is_there = its.is_there; within = its.within }))))))

module _ (trees : Trees) (apart : AreApart trees) (cells : List ℕ) (all : All (IsCell trees) cells) (n : ℕ) (tree : Tree) (node : ℕ) (has : HasNode trees n tree node) where
  -- no mark is after the first byte of a cell
  behind_mark : (i : ℕ) → cell_at tree node < i → i < cell_at tree node + len_of tree → Spares (marks cells) i
  behind_mark i from below = marks_spare trees cells i all (λ cell its. misses cell its)
    where
      misses : (cell : ℕ) → IsCell trees cell → (i < cell) ⊎ (cell + 1 ≤ i)
      misses cell its =
          let own : HasNode trees its.number its.tree its.node = record { is_there = its.is_there; within = its.within } in
          elim (one_cell_or_apart trees apart n its.number tree its.tree node its.node has own) [
            | inl one ↦
                let place : cell_at tree node ≡ cell_at its.tree its.node = ap (λ (t : Tree). cell_at t node) one.0 ∙ ap (cell_at its.tree) one.1 in
                inr (omega (arith, place, its.place))
            | inr beside ↦ elim beside [
              | inl before ↦ inl (omega (arith, before, its.place))
              | inr behind ↦ inr (omega (arith, behind, its.place, cell_fits its.tree.shape.record_len))
            ]
          ]

  marks_then : (bytes : List ℕ) (c new : Content) → length bytes ≡ tree.shape.record_len → Agrees new (put bytes (suc (cell_at tree node)) c) → (i : ℕ) → i ≢ cell_at tree node
      → put_all (marks cells) new i ≡ put bytes (suc (cell_at tree node)) (put_all (marks cells) c) i
  marks_then bytes c new long same i other =
      elim (cases_lt i (suc (cell_at tree node))) [
        | inl below ↦ outside (inl below)
        | inr from ↦ elim (cases_lt i (suc (cell_at tree node) + length bytes)) [
          | inl within ↦
              put_all_spares (marks cells) new i (behind_mark i from (omega (arith, long, cell_fits tree.shape.record_len)))
              ∙ same i ∙ put_heals bytes (suc (cell_at tree node)) c (put_all (marks cells) c) i (λ out. absurd (never out from within))
          | inr above ↦ outside (inr above)
        ]
      ]
    where
      never : ((i < suc (cell_at tree node)) ⊎ (suc (cell_at tree node) + length bytes ≤ i)) → suc (cell_at tree node) ≤ i → i < suc (cell_at tree node) + length bytes → ⊥
      never (inl low) from within = omega arith
      never (inr high) from within = omega arith

      outside : ((i < suc (cell_at tree node)) ⊎ (suc (cell_at tree node) + length bytes ≤ i)) → put_all (marks cells) new i ≡ put bytes (suc (cell_at tree node)) (put_all (marks cells) c) i
      outside out =
          put_all_heals (marks cells) new c i (λ spared. same i ∙ put_outside bytes (suc (cell_at tree node)) c i out)
          ∙ sym (put_outside bytes (suc (cell_at tree node)) (put_all (marks cells) c) i out)

-- setting the mark over a record that is in its cell is the record's patch
mark_over : (cell : ℕ) (bytes : List ℕ) (marked now : Content) → ((i : ℕ) → i ≢ cell → now i ≡ put bytes (suc cell) marked i) → Agrees (put (1 ∷ []) cell now) (put (1 ∷ bytes) cell marked)
mark_over cell bytes marked now same i =
    elim (cases_eq i cell) [
      | inl here ↦ cond-true (i == cell) 1 (now i) (eq-eqb i cell here) ∙ sym (cond-true (i == cell) 1 (put bytes (suc cell) marked i) (eq-eqb i cell here))
      | inr other ↦
          cond-false (i == cell) 1 (now i) (ne_eqb i cell other) ∙ same i other ∙ sym (cond-false (i == cell) 1 (put bytes (suc cell) marked i) (ne_eqb i cell other))
    ]

pub mark_puts : MarkPutsRecord
mark_puts trees cells c new n tree node bytes is all has long same =
    record_put trees (put_all (marks cells) c) (put_all (marks (cells ++ cell_at tree node ∷ [])) new) n tree node bytes (marks_kept trees cells c is all) has long
    (λ i.
    ap (λ (ps : List Patch). put_all ps new i) (map-append (λ (cell : ℕ). (cell, 1 ∷ [])) cells (cell_at tree node ∷ []))
    ∙ ap (λ (e : Content). e i) (put_all-append (marks cells) ((cell_at tree node, 1 ∷ []) ∷ []) new)
    ∙ mark_over (cell_at tree node) bytes (put_all (marks cells) c) (put_all (marks cells) new) (marks_then trees is.apart cells all n tree node has bytes c new long same) i)
