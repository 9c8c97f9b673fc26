-- The patches fit in a redo log over a file of the greatest length.
use Rattle.std.proofs.Common.{◌≡◌, ℕ, zero, suc, ◌+◌, ◌*◌, ◌^◌, ◌<◌, ◌≤◌, List, [], ◌∷◌, length, All, Some, arith}
use Rattle.oram_host.specs.Path.{node_on, record_at}
use Rattle.oram_host.proofs.Nodes.{node_on-within}
use Rattle.oram_redo.specs.Log.{Fits}
use Rattle.oram_redo.specs.declared.bounds.Bounds.{Bounds}
use Rattle.oram_layout.specs.Changes.{IsCell, level_patches, marks, record_patch, tree_patch}
use Rattle.oram_layout.specs.Laws.{AllPatchesFit}
use Rattle.oram_layout.specs.Limits.{nodes_of}
use Rattle.oram_layout.specs.Trees.{Trees, cell_at, end_of, sizes_of}
use Rattle.oram_layout.specs.declared.trees.Tree.{Tree}
use Rattle.oram_layout.proofs.Changes.{length-record_at}
use Rattle.oram_layout.proofs.Places.{cell_fits, cells_rise, len_of}
use Rattle.oram_layout.proofs.TreeEntries.{length-entry_bytes, record_len_small}

-- a cell ends within the greatest length of a file
pub cell_within : (tree : Tree) (node : ℕ) → node < nodes_of (sizes_of tree.shape) → cell_at tree node + len_of tree ≤ 2 ^ 62
cell_within tree node h =
    let ends : end_of tree ≤ 2 ^ 62 = tree.within in
    omega (arith, cells_rise tree node (nodes_of (sizes_of tree.shape)) h, ends)

all_cons : {X : Type 0} (P : X → Type 0) (x : X) (xs : List X) → P x → All P xs → All P (x ∷ xs)
all_cons P x xs here rest zero d h = here
all_cons P x xs here rest (suc k) d h = rest k d (omega arith)

module _ (bounds : Bounds) (end : bounds.records_end ≡ 2 ^ 62) where
  pub record_fits : (tree : Tree) (node : ℕ) (bytes : List ℕ) → node < nodes_of (sizes_of tree.shape) → length bytes ≡ tree.shape.record_len → Fits bounds (record_patch tree node bytes)
  record_fits tree node bytes h long =
      let room = cell_within tree node h in
      let fits = cell_fits tree.shape.record_len in
      record {
        within = omega (arith, room, fits, long, end);
        place_fits = omega (arith, room);
        length_fits = omega (arith, long, record_len_small tree.shape);
      }

  levels_fit : (tree : Tree) (leaf first count : ℕ) (bytes : List ℕ) → leaf < 2 ^ tree.shape.depth → first + count ≤ tree.shape.depth + 1 → length bytes ≡ count * tree.shape.record_len
      → (n i : ℕ) → i + n ≤ count → All (Fits bounds) (level_patches tree leaf first bytes i n)
  levels_fit tree leaf first count bytes leaf_in within whole zero i fits = λ k d h. absurd (omega arith)
  levels_fit tree leaf first count bytes leaf_in within whole (suc n) i fits =
      all_cons (Fits bounds) _ _
      (record_fits tree (node_on tree.shape.depth leaf (first + i)) (record_at tree.shape.record_len bytes i) (node_on-within tree.shape.depth leaf (first + i) leaf_in (omega arith))
      (length-record_at tree.shape.record_len bytes i count whole (omega arith)))
      (levels_fit tree leaf first count bytes leaf_in within whole n (suc i) (omega arith))

  mark_fits : (trees : Trees) (cell : ℕ) → IsCell trees cell → Fits bounds (cell, 1 ∷ [])
  mark_fits trees cell its =
      let room = cell_within its.tree its.node its.within in
      let fits = cell_fits its.tree.shape.record_len in
      record {
        within = omega (arith, its.place, room, fits, end);
        place_fits = omega (arith, its.place, room, fits);
        length_fits = omega arith;
      }

  marks_fit : (trees : Trees) (cells : List ℕ) → All (IsCell trees) cells → All (Fits bounds) (marks cells)
  marks_fit trees [] all = λ k d h. absurd (omega arith)
  marks_fit trees (cell ∷ cells) all =
      all_cons (Fits bounds) _ _ (mark_fits trees cell (all 0 cell (omega arith))) (marks_fit trees cells (λ j e l. all (suc j) e (omega arith)))

  tree_fits : (number : ℕ) (tree : Tree) → number < 256 → Fits bounds (tree_patch number tree)
  tree_fits number tree h = record {
    within = omega (arith, length-entry_bytes (Some tree), end);
    place_fits = omega arith;
    length_fits = omega (arith, length-entry_bytes (Some tree));
  }

pub patches_fit : AllPatchesFit
patches_fit bounds end = record {
  of_record = record_fits bounds end;
  of_levels = λ tree leaf first count bytes leaf_in within whole. levels_fit bounds end tree leaf first count bytes leaf_in within whole count 0 (omega arith);
  of_marks = marks_fit bounds end;
  of_tree = tree_fits bounds end;
}
