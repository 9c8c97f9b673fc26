-- Which changes of a content keep a bucket file, and which keep a record.
use Rattle.std.proofs.Common.{◌≡◌, ◌≢◌, inl, inr, ℕ, suc, ◌+◌, ◌<◌, ◌≤◌, Bool, true, false, List, Option, Some, None, refl, sym, ◌∙◌, ap, subst, arith, nat_lt, ◌==◌, ◌&&◌, if◌then◌else◌}
use Rattle.std.proofs.lemmas.Bool.{cases_eq, cases_lt, and_right, ne_eqb, le-ltb, lt-ltb, and_left, cond-true, cond-false, and_from, eq-eqb}
use Rattle.oram_redo.specs.Content.{Content, Agrees, bytes_at}
use Rattle.oram_redo.proofs.Bytes.{bytes_at-agrees, has_same}
use Rattle.oram_layout.specs.BucketFile.{IsBucketFile}
use Rattle.oram_layout.specs.Header.{entry_at, letters}
use Rattle.oram_layout.specs.Laws.{HasNode, KeepsRecords}
use Rattle.oram_layout.specs.Limits.{nodes_of}
use Rattle.oram_layout.specs.Records.{record_in, records_in}
use Rattle.oram_layout.specs.Trees.{Trees, cell_at, next_of, sizes_of, tree_at}
use Rattle.oram_layout.specs.declared.trees.Tree.{Tree}

-- nothing changed in the header, nor after the last tree
pub file_same : (trees : Trees) (c d : Content) → IsBucketFile trees c → ((i : ℕ) → i < 8192 → d i ≡ c i) → ((i : ℕ) → next_of trees ≤ i → d i ≡ c i) → IsBucketFile trees d
file_same trees c d is low high = record {
  front = has_same letters 0 c d (λ i from below. low i (omega arith)) is.front;
  trees_stand = record {
    all = is.trees_stand.all;
    each = λ n h. bytes_at-agrees 16 (entry_at n) d c (λ i from below. low i (omega arith)) ∙ is.trees_stand.each n h;
  };
  apart = is.apart;
  blank = λ i h. high i h ∙ is.blank i h;
}

marked_same : (within : Bool) (b b' : ℕ) (bytes bytes' : List ℕ) → b' ≡ b → (b ≡ 1 → bytes' ≡ bytes)
    → (if within && (b' == 1) then Some bytes' else None) ≡ (if within && (b == 1) then Some bytes else None)
marked_same within b b' bytes bytes' e same =
    ap (λ (x : ℕ). if within && (x == 1) then Some bytes' else None) e ∙ elim (cases_eq b 1) [
      | inl one ↦ ap (λ (l : List ℕ). if within && (b == 1) then Some l else None) (same one)
      | inr other ↦
          let off : (within && (b == 1)) ≡ false = and_right within (b == 1) (ne_eqb b 1 other) in
          cond-false (within && (b == 1)) (Some bytes') None off ∙ sym (cond-false (within && (b == 1)) (Some bytes) None off)
    ]

-- the mark is as it was, and so are the bytes after it if the mark is 1
abbrev pub CellIsSame : Tree → ℕ → Content → Content → Type 0
CellIsSame tree node c d =
    (d (cell_at tree node) ≡ c (cell_at tree node))
    × (c (cell_at tree node) ≡ 1 → (i : ℕ) → suc (cell_at tree node) ≤ i → i < suc (cell_at tree node) + tree.shape.record_len → d i ≡ c i)

record_same : (tree : Tree) (node : ℕ) (c d : Content) → CellIsSame tree node c d → record_in (Some tree) node d ≡ record_in (Some tree) node c
record_same tree node c d same =
    marked_same (nat_lt node (nodes_of (sizes_of tree.shape))) (c (cell_at tree node)) (d (cell_at tree node)) _ _ same.0
    (λ one. bytes_at-agrees tree.shape.record_len (suc (cell_at tree node)) d c (λ i from below. same.1 one i from below))

record_outside : (tree : Tree) (node : ℕ) (c : Content) → nodes_of (sizes_of tree.shape) ≤ node → record_in (Some tree) node c ≡ None
record_outside tree node c out =
    let off : (nat_lt node (nodes_of (sizes_of tree.shape)) && (c (cell_at tree node) == 1)) ≡ false = and_left (nat_lt node (nodes_of (sizes_of tree.shape))) (c (cell_at tree node) == 1) (le-ltb node (nodes_of (sizes_of tree.shape)) out) in
    cond-false (nat_lt node (nodes_of (sizes_of tree.shape)) && (c (cell_at tree node) == 1)) (Some (bytes_at tree.shape.record_len (suc (cell_at tree node)) c)) None off

at_same : (found : Option Tree) (node : ℕ) (c d : Content) → ((tree : Tree) → found ≡ Some tree → node < nodes_of (sizes_of tree.shape) → CellIsSame tree node c d)
    → record_in found node d ≡ record_in found node c
at_same None node c d same = refl
at_same (Some tree) node c d same =
    elim (cases_lt node (nodes_of (sizes_of tree.shape))) [
      | inl within ↦ record_same tree node c d (same tree refl within)
      | inr out ↦ record_outside tree node d out ∙ sym (record_outside tree node c out)
    ]

-- a record is as it was if its cell is
pub records_same : (trees : Trees) (c d : Content) (n node : ℕ) → ((tree : Tree) → HasNode trees n tree node → CellIsSame tree node c d) → records_in trees d n node ≡ records_in trees c n node
records_same trees c d n node same = at_same (tree_at trees n) node c d (λ tree is within. same tree (record { is_there = is; within = within }))

-- there is a record if its mark is set
pub record_marked : (trees : Trees) (c : Content) (n node : ℕ) (tree : Tree) → HasNode trees n tree node → c (cell_at tree node) ≡ 1
    → records_in trees c n node ≡ Some (bytes_at tree.shape.record_len (suc (cell_at tree node)) c)
record_marked trees c n node tree has one =
    let on : (nat_lt node (nodes_of (sizes_of tree.shape)) && (c (cell_at tree node) == 1)) ≡ true = and_from (nat_lt node (nodes_of (sizes_of tree.shape))) (c (cell_at tree node) == 1) (lt-ltb node (nodes_of (sizes_of tree.shape)) has.within) (eq-eqb (c (cell_at tree node)) 1 one) in
    ap (λ (found : Option Tree). record_in found node c) has.is_there
    ∙ cond-true (nat_lt node (nodes_of (sizes_of tree.shape)) && (c (cell_at tree node) == 1)) (Some (bytes_at tree.shape.record_len (suc (cell_at tree node)) c)) None on

-- and there is none if it isn't
pub record_unmarked : (trees : Trees) (c : Content) (n node : ℕ) (tree : Tree) → tree_at trees n ≡ Some tree → c (cell_at tree node) ≢ 1 → records_in trees c n node ≡ None
record_unmarked trees c n node tree is other =
    let off : (nat_lt node (nodes_of (sizes_of tree.shape)) && (c (cell_at tree node) == 1)) ≡ false = and_right (nat_lt node (nodes_of (sizes_of tree.shape))) (c (cell_at tree node) == 1) (ne_eqb (c (cell_at tree node)) 1 other) in
    ap (λ (found : Option Tree). record_in found node c) is
    ∙ cond-false (nat_lt node (nodes_of (sizes_of tree.shape)) && (c (cell_at tree node) == 1)) (Some (bytes_at tree.shape.record_len (suc (cell_at tree node)) c)) None off

pub content_is : (c d : Content) → Agrees d c → d ≡ c
content_is c d same = λ k i. same i k

-- a content that agrees with a bucket file's everywhere
pub same_records : (trees : Trees) (c d : Content) → IsBucketFile trees c → Agrees d c → KeepsRecords trees c trees d
same_records trees c d is same =
    subst (λ (e : Content). KeepsRecords trees c trees e) (sym (content_is c d same)) (record { is_file = is; kept = λ n node. refl })
