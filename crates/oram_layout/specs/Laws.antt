-- What the patches do to a bucket file, and what its header determines.
use Rattle.std.specs.Prelude.{◌≡◌, ◌≢◌, ◌<◌, ◌≤◌, ℕ, suc, ◌+◌, ◌*◌, ◌/◌, ◌^◌, List, [], ◌∷◌, ◌++◌, length, All, Some}
use Rattle.oram_redo.specs.Content.{Content, Agrees, put}
use Rattle.oram_redo.specs.Log.{Patch, AgreesBut, Fits, put_all}
use Rattle.oram_redo.specs.declared.bounds.Bounds.{Bounds}
use Rattle.oram_layout.specs.BucketFile.{IsBucketFile}
use Rattle.oram_layout.specs.Changes.{IsCell, IsOffRecords, level_patches, marks, record_patch, tree_patch, unmarked_patch}
use Rattle.oram_pair.specs.Fronts.{front_bytes}
use Rattle.oram_layout.specs.Header.{HasTrees, letters}
use Rattle.oram_layout.specs.Limits.{nodes_of}
use Rattle.oram_layout.specs.Records.{AreKept, AreLevelsOf, KeepsOffLevels, KeepsOthers, records_in}
use Rattle.oram_layout.specs.Trees.{AddsTree, AreApart, HasNoTree, Trees, cell_at, next_of, sizes_of, tree_at}
use Rattle.oram_layout.specs.declared.entries.TheConstants.{TREES}
use Rattle.oram_pair.specs.declared.fronts.Identity.{Identity}
use Rattle.oram_layout.specs.declared.trees.TheConstants.{CELLS_END}
use Rattle.oram_layout.specs.declared.trees.Tree.{Tree}

-- the tree has this number, and the node is one of its nodes
pub record HasNode (trees : Trees) (number : ℕ) (tree : Tree) (node : ℕ) : Type 0 where
  pub is_there : tree_at trees number ≡ Some tree
  pub within : node < nodes_of (sizes_of tree.shape)

-- The new content is a bucket file too, and each record is as it was.
pub record KeepsRecords (old_trees : Trees) (old : Content) (trees : Trees) (new : Content) : Type 0 where
  pub is_file : IsBucketFile trees new
  pub kept : AreKept (records_in old_trees old) (records_in trees new)

-- The new content is a bucket file too, with this record, and every other record is as it was.
pub record PutsRecord (trees : Trees) (old : Content) (number node : ℕ) (bytes : List ℕ) (new : Content) : Type 0 where
  pub is_file : IsBucketFile trees new
  pub there : records_in trees new number node ≡ Some bytes
  pub others : KeepsOthers (records_in trees old) number node (records_in trees new)

-- The new content is a bucket file too, with these records on some levels of a leaf's path, and every other record is as it was.
pub record PutsLevels (trees : Trees) (old : Content) (number : ℕ) (tree : Tree) (leaf first count : ℕ) (bytes : List ℕ) (new : Content) : Type 0 where
  pub is_file : IsBucketFile trees new
  pub levels : AreLevelsOf (records_in trees new) number (sizes_of tree.shape) leaf first count bytes
  pub others : KeepsOffLevels (records_in trees old) number (sizes_of tree.shape) leaf first count (records_in trees new)

-- A content that agrees with a bucket file's everywhere is a bucket file with the same records.
abbrev pub SameRecords : Type 0
SameRecords = (trees : Trees) (c d : Content) → IsBucketFile trees c → Agrees d c → KeepsRecords trees c trees d

-- A header has only one list of trees.
abbrev pub TreesAreOne : Type 0
TreesAreOne = (trees others : Trees) (c : Content) → HasTrees trees c → HasTrees others c → trees ≡ others

-- A front and then zeros are a bucket file without trees.
abbrev pub IsFileAtFirst : Type 0
IsFileAtFirst = (trees : Trees) (identity : Identity) (c : Content) → HasNoTree trees → length identity.0 ≡ 16
    → Agrees c (put (front_bytes letters identity) 0 (λ i. 0)) → IsBucketFile trees c

-- A record's patch writes that record, and no other.
abbrev pub RecordIsPut : Type 0
RecordIsPut = (trees : Trees) (c new : Content) (number : ℕ) (tree : Tree) (node : ℕ) (bytes : List ℕ) → IsBucketFile trees c
    → HasNode trees number tree node → length bytes ≡ tree.shape.record_len
    → Agrees new (put_all (record_patch tree node bytes ∷ []) c) → PutsRecord trees c number node bytes new

-- The patches of some levels of a path write their records, and no others.
abbrev pub LevelsArePut : Type 0
LevelsArePut = (trees : Trees) (c new : Content) (number : ℕ) (tree : Tree) (leaf first count : ℕ) (bytes : List ℕ) → IsBucketFile trees c
    → tree_at trees number ≡ Some tree → leaf < 2 ^ tree.shape.depth → first + count ≤ tree.shape.depth + 1 → length bytes ≡ count * tree.shape.record_len
    → Agrees new (put_all (level_patches tree leaf first bytes 0 count) c) → PutsLevels trees c number tree leaf first count bytes new

-- Whatever bytes are in places off the records, the records are the same.
abbrev pub LooseKeepsRecords : Type 0
LooseKeepsRecords = (trees : Trees) (loose : List Patch) (c d : Content) → IsBucketFile trees c → All (IsOffRecords trees c) loose
    → AgreesBut loose c d → KeepsRecords trees c trees d

-- If a node has no record, an unmarked patch for it is off the records.
abbrev pub UnmarkedIsOff : Type 0
UnmarkedIsOff = (trees : Trees) (c : Content) (number : ℕ) (tree : Tree) (node : ℕ) (bytes : List ℕ) → HasNode trees number tree node
    → c (cell_at tree node) ≢ 1 → length bytes ≤ tree.shape.record_len → IsOffRecords trees c (unmarked_patch tree node bytes)

-- Loose patches stay off the records when another one is written.
abbrev pub OffStaysOff : Type 0
OffStaysOff = (trees : Trees) (loose : List Patch) (c new : Content) (patch : Patch) → IsBucketFile trees c → All (IsOffRecords trees c) loose
    → IsOffRecords trees c patch → Agrees new (put patch.1 patch.0 c) → All (IsOffRecords trees new) (loose ++ patch ∷ [])

-- Some cells still have to be marked, and then a record is written without its mark. Setting the marks, with that of
-- its cell among them, puts this record, and no other.
abbrev pub MarkPutsRecord : Type 0
MarkPutsRecord = (trees : Trees) (cells : List ℕ) (c new : Content) (number : ℕ) (tree : Tree) (node : ℕ) (bytes : List ℕ) → IsBucketFile trees c
    → All (IsCell trees) cells → HasNode trees number tree node → length bytes ≡ tree.shape.record_len
    → Agrees new (put bytes (suc (cell_at tree node)) c)
    → PutsRecord trees (put_all (marks cells) c) number node bytes (put_all (marks (cells ++ cell_at tree node ∷ [])) new)

-- A bucket file is still one after some of its cells are marked.
abbrev pub MarksKeepFile : Type 0
MarksKeepFile = (trees : Trees) (cells : List ℕ) (c : Content) → IsBucketFile trees c → All (IsCell trees) cells → IsBucketFile trees (put_all (marks cells) c)

-- A tree's patch adds that tree, without records.
abbrev pub TreeIsAdded : Type 0
TreeIsAdded = (trees more : Trees) (c new : Content) (number : ℕ) (tree : Tree) → IsBucketFile trees c → AddsTree trees number tree more
    → tree.base ≡ next_of trees → Agrees new (put_all (tree_patch number tree ∷ []) c) → KeepsRecords trees c more new

-- A cell's mark and the first byte of its record lie in one block of the disk, if blocks have an even length: a write of
-- one of the two finds out whether the disk has room for both.
abbrev pub MarkSharesBlock : Type 0
MarkSharesBlock = (trees : Trees) (number : ℕ) (tree : Tree) (node half : ℕ) → AreApart trees → HasNode trees number tree node
    → cell_at tree node / (2 * half) ≡ suc (cell_at tree node) / (2 * half)

-- Each patch that changes a bucket file fits these bounds of a redo log.
pub record PatchesFit (bounds : Bounds) : Type 0 where
  pub of_record : (tree : Tree) (node : ℕ) (bytes : List ℕ) → node < nodes_of (sizes_of tree.shape) → length bytes ≡ tree.shape.record_len → Fits bounds (record_patch tree node bytes)
  pub of_levels : (tree : Tree) (leaf first count : ℕ) (bytes : List ℕ) → leaf < 2 ^ tree.shape.depth → first + count ≤ tree.shape.depth + 1
      → length bytes ≡ count * tree.shape.record_len → All (Fits bounds) (level_patches tree leaf first bytes 0 count)
  pub of_marks : (trees : Trees) (cells : List ℕ) → All (IsCell trees) cells → All (Fits bounds) (marks cells)
  pub of_tree : (number : ℕ) (tree : Tree) → number < TREES → Fits bounds (tree_patch number tree)

-- Each fits if the records end where the cells of all trees must end.
abbrev pub AllPatchesFit : Type 0
AllPatchesFit = (bounds : Bounds) → bounds.records_end ≡ CELLS_END → PatchesFit bounds
