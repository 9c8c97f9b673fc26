-- A bucket file that is new, and one that a tree is added to.
use Rattle.std.proofs.Common.{◌%◌, ◌≡◌, ◌≢◌, ◌⊎◌, inl, inr, ℕ, zero, suc, ◌+◌, ◌<◌, ◌≤◌, [], ◌∷◌, length, get_or, replicate, Option, Some, None, refl, sym, ◌∙◌, ap, subst, arith}
use Rattle.std.proofs.lemmas.Bool.{cases_eq, cases_lt}
use Rattle.std.proofs.lemmas.List.{get_or-replicate, get_or_past, length-append, length-replicate}
use Rattle.oram_redo.specs.Content.{Content, bytes_at, put}
use Rattle.oram_redo.specs.Log.{put_all}
use Rattle.oram_redo.proofs.Bytes.{bytes_at-agrees, has-put, has_front, has_same, put_outside}
use Rattle.oram_layout.specs.BucketFile.{IsBucketFile}
use Rattle.oram_layout.specs.Changes.{tree_patch}
use Rattle.oram_pair.specs.Fronts.{front_bytes}
use Rattle.oram_layout.specs.Header.{entry_at, entry_bytes, letters}
use Rattle.oram_layout.specs.Laws.{IsFileAtFirst, KeepsRecords, TreeIsAdded}
use Rattle.oram_layout.specs.Records.{record_in, records_in}
use Rattle.oram_layout.specs.Trees.{AddsTree, HasNoTree, Trees, cell_at, end_of, next_of, tree_at}
use Rattle.oram_layout.specs.declared.trees.Tree.{Tree}
use Rattle.oram_layout.proofs.Contents.{content_is, record_unmarked, records_same}
use Rattle.oram_layout.proofs.Places.{cell_behind_header, cell_from, end_before_next, next_at_most, next_even, next_behind_header}
use Rattle.oram_layout.proofs.TreeEntries.{length-entry_bytes}

module _ (trees more : Trees) (c : Content) (n : ℕ) (tree : Tree) (is : IsBucketFile trees c) (added : AddsTree trees n tree more) (base : tree.base ≡ next_of trees) where
  with_entry : Content
  with_entry = put (entry_bytes (Some tree)) (entry_at n) c

  outside : (i : ℕ) → ((i < entry_at n) ⊎ (entry_at n + 16 ≤ i)) → with_entry i ≡ c i
  unfolding with_entry
  outside i (inl below) = put_outside (entry_bytes (Some tree)) (entry_at n) c i (inl below)
  outside i (inr above) = put_outside (entry_bytes (Some tree)) (entry_at n) c i (inr (omega (arith, length-entry_bytes (Some tree))))

  behind : (i : ℕ) → 8192 ≤ i → with_entry i ≡ c i
  behind i h = outside i (inr (omega (arith, added.within)))

  entry_there : bytes_at 16 (entry_at n) with_entry ≡ entry_bytes (Some tree)
  unfolding with_entry
  entry_there = ap (λ (k : ℕ). bytes_at k (entry_at n) (put (entry_bytes (Some tree)) (entry_at n) c)) (sym (length-entry_bytes (Some tree))) ∙ has-put (entry_bytes (Some tree)) (entry_at n) c

  -- a tree of the new list is the new one, or an old one
  old_or_new : (m : ℕ) (t : Tree) → tree_at more m ≡ Some t → ((m ≡ n) × (t ≡ tree)) ⊎ ((m ≢ n) × (tree_at trees m ≡ Some t))
  old_or_new m t there =
      elim (cases_eq m n) [
        | inl same ↦ inl (same, one same)
        | inr differ ↦ inr (differ, sym (added.others m differ) ∙ there)
      ]
    where
      one : m ≡ n → t ≡ tree
      one same =
          let at : tree_at more m ≡ tree_at more n = ap (tree_at more) same in
          let its : tree_at more n ≡ Some tree = added.there in
          cc

  still : (m : ℕ) (t : Tree) → tree_at trees m ≡ Some t → tree_at more m ≡ Some t
  still m t there =
      elim (cases_eq m n) [
        | inl same ↦ absurd (none same)
        | inr differ ↦ added.others m differ ∙ there
      ]
    where
      none : m ≡ n → ⊥
      none same =
          let at : tree_at trees m ≡ tree_at trees n = ap (tree_at trees) same in
          let free : tree_at trees n ≡ None = added.free in
          cc

  next_rises : next_of trees ≤ next_of more
  next_rises = next_at_most trees (next_of more) (next_behind_header more) (λ m t there. end_before_next more m t (still m t there))

  apart_more : (m k : ℕ) (s t : Tree) → m ≢ k → tree_at more m ≡ Some s → tree_at more k ≡ Some t → (end_of s ≤ t.base) ⊎ (end_of t ≤ s.base)
  apart_more m k s t differ p q =
      elim (old_or_new m s p) [
        | inl new ↦ elim (old_or_new k t q) [
          | inl also ↦ absurd (differ (new.0 ∙ sym also.0))
          | inr old ↦ inr (omega (arith, end_before_next trees k t old.1, base, ap (λ (u : Tree). u.base) new.1))
        ]
        | inr old ↦ elim (old_or_new k t q) [
          | inl new ↦ inl (omega (arith, end_before_next trees m s old.1, base, ap (λ (u : Tree). u.base) new.1))
          | inr also ↦ is.apart.apart m k s t differ old.1 also.1
        ]
      ]

  entry_each : (m : ℕ) → m < 256 → bytes_at 16 (entry_at m) with_entry ≡ entry_bytes (tree_at more m)
  entry_each m h =
      elim (cases_eq m n) [
        | inl same ↦
            ap (λ (k : ℕ). bytes_at 16 (entry_at k) with_entry) same ∙ entry_there ∙ ap entry_bytes (sym added.there)
            ∙ ap (λ (k : ℕ). entry_bytes (tree_at more k)) (sym same)
        | inr differ ↦
            bytes_at-agrees 16 (entry_at m) with_entry c (λ i from below. outside i (beside i differ from below))
            ∙ is.trees_stand.each m h ∙ ap entry_bytes (sym (added.others m differ))
      ]
    where
      beside : (i : ℕ) → m ≢ n → entry_at m ≤ i → i < entry_at m + 16 → (i < entry_at n) ⊎ (entry_at n + 16 ≤ i)
      beside i differ from below = grind arith

  file_with : IsBucketFile more with_entry
  file_with = record {
    front = has_same letters 0 c with_entry (λ i from below. outside i (inl (omega arith))) is.front;
    trees_stand = record { all = added.all; each = entry_each };
    apart = record {
      from = λ m t there. elim (old_or_new m t there) [
        | inl new ↦ omega (arith, next_behind_header trees, base, ap (λ (u : Tree). u.base) new.1)
        | inr old ↦ is.apart.from m t old.1
      ];
      even = λ m t there. elim (old_or_new m t there) [
        | inl new ↦ ap (λ (u : Tree). u.base % 2) new.1 ∙ ap (λ (k : ℕ). k % 2) base ∙ next_even trees is.apart.even
        | inr old ↦ is.apart.even m t old.1
      ];
      apart = apart_more;
    };
    blank = λ i h. behind i (omega (arith, next_behind_header more, h)) ∙ is.blank i (omega (arith, next_rises, h));
  }

  no_record : (node : ℕ) → records_in more with_entry n node ≡ None
  no_record node =
      let from = cell_from tree node in
      let zero_there : with_entry (cell_at tree node) ≡ 0 = behind (cell_at tree node) (omega (arith, next_behind_header trees, base, from)) ∙ is.blank (cell_at tree node) (omega (arith, base, from)) in
      record_unmarked more with_entry n node tree added.there (λ one. absurd (omega (arith, zero_there, one)))

  none_before : (node : ℕ) → records_in trees c n node ≡ None
  none_before node = ap (λ (found : Option Tree). record_in found node c) added.free

  records_kept : (m node : ℕ) → records_in more with_entry m node ≡ records_in trees c m node
  records_kept m node =
      elim (cases_eq m n) [
        | inl same ↦
            ap (λ (k : ℕ). records_in more with_entry k node) same ∙ no_record node ∙ sym (none_before node) ∙ ap (λ (k : ℕ). records_in trees c k node) (sym same)
        | inr differ ↦
            ap (λ (found : Option Tree). record_in found node with_entry) (added.others m differ)
            ∙ records_same trees c with_entry m node (λ t has. (
              behind (cell_at t node) (cell_behind_header trees is.apart m t node has),
              λ one i from below. behind i (omega (arith, cell_behind_header trees is.apart m t node has, from)),
            ))
      ]

  added_is : KeepsRecords trees c more (put (entry_bytes (Some tree)) (entry_at n) c)
  unfolding with_entry
  added_is = record { is_file = file_with; kept = records_kept }

pub tree_added : TreeIsAdded
tree_added trees more c new n tree is added base same =
    subst (λ (e : Content). KeepsRecords trees c more e) (sym (content_is (put_all (tree_patch n tree ∷ []) c) new same)) (added_is trees more c n tree is added base)

-- a list that has no tree at any number
pub has_no_tree : (n : ℕ) (trees : Trees) → n ≡ 256 → trees ≡ replicate n None → HasNoTree trees
has_no_tree n trees all is = record {
  all = ap length is ∙ length-replicate n None ∙ all;
  none = λ i. elim (cases_lt i n) [
    | inl within ↦ ap (λ (l : Trees). get_or l i None) is ∙ get_or-replicate n i None None within
    | inr past ↦ get_or_past trees i None (omega (arith, past, ap length is, length-replicate {A = Option Tree} n None))
  ];
}

next_of_none : (trees : Trees) → ((n : ℕ) → tree_at trees n ≡ None) → next_of trees ≡ 8192
next_of_none [] none = refl
next_of_none (None ∷ trees) none = next_of_none trees (λ n. none (suc n))
next_of_none (Some tree ∷ trees) none = absurd (clash (none zero))
  where
    clash : Some tree ≡ None → ⊥
    clash e = cc

zeros_there : (n at : ℕ) (c : Content) → ((i : ℕ) → at ≤ i → c i ≡ 0) → bytes_at n at c ≡ bytes_at n at (λ i. 0)
zeros_there n at c zeros = bytes_at-agrees n at c (λ i. 0) (λ i from below. zeros i from)

pub file_at_first : IsFileAtFirst
file_at_first trees identity c none whole same = record {
  front = has_front letters identity.0 0 c (has_same (front_bytes letters identity) 0 (put (front_bytes letters identity) 0 (λ i. 0)) c (λ i from below. same i) (has-put (front_bytes letters identity) 0 (λ i. 0)));
  trees_stand = record {
    all = none.all;
    each = λ n h. zeros_there 16 (entry_at n) c (λ i from. behind i (omega arith)) ∙ ap entry_bytes (sym (none.none n));
  };
  apart = record {
    from = λ n t is. absurd (no n t is);
    even = λ n t is. absurd (no n t is);
    apart = λ m n s t differ p q. absurd (no m s p);
  };
  blank = λ i h. behind i (omega (arith, next_of_none trees none.none, h));
}
  where
    behind : (i : ℕ) → 32 ≤ i → c i ≡ 0
    behind i h = same i ∙ put_outside (front_bytes letters identity) 0 (λ i. 0) i (inr (omega (arith, length-append letters identity.0, whole)))

    no : (n : ℕ) (t : Tree) → tree_at trees n ≡ Some t → ⊥
    no n t is = let empty : tree_at trees n ≡ None = none.none n in cc
