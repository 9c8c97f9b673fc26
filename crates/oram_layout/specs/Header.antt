-- The header of a bucket file: 16 bytes of letters and version, 16 of the file's identity, and from place 4096 on, for
-- each of 256 trees, an entry of 16 bytes. The cells of trees begin at place 8192.
use Rattle.std.specs.Prelude.{◌≡◌, ◌<◌, ℕ, ◌+◌, ◌*◌, List, [], ◌∷◌, ◌++◌, length, take, Option, Some, None}
use Rattle.std.specs.Int.{w32, to_le_bytes}
use Rattle.oram_redo.specs.Content.{Content, bytes_at}
use Rattle.oram_redo.specs.Log.{check_bytes}
use Rattle.oram_pair.specs.Fronts.{eight_bytes}
use Rattle.oram_layout.specs.Trees.{Trees, tree_at}
use Rattle.oram_layout.specs.declared.entries.TheConstants.{ENTRIES_AT, TREES}
use Rattle.oram_layout.specs.declared.trees.TheConstants.{ENTRY_LEN}
use Rattle.oram_layout.specs.declared.trees.Tree.{Tree}

-- "VIDLAQEB", and the version, 3, in 8 bytes
abbrev pub letters : List ℕ
letters = 86 ∷ 73 ∷ 68 ∷ 76 ∷ 65 ∷ 81 ∷ 69 ∷ 66 ∷ 3 ∷ 0 ∷ 0 ∷ 0 ∷ 0 ∷ 0 ∷ 0 ∷ 0 ∷ []

-- a number in 4 bytes, the low byte first
unfoldable pub four_bytes : ℕ → List ℕ
four_bytes n = to_le_bytes w32 n

-- two bytes of the checksum of what an entry says
abbrev pub entry_check : ℕ → ℕ → ℕ → List ℕ
entry_check depth record_len base = take 2 (check_bytes (depth ∷ (four_bytes record_len ++ eight_bytes base)))

-- A tree's entry: 1, the depth, two bytes of the entry's checksum, the length of a record in 4 bytes, and the place of its
-- first cell in 8. It is 16 bytes of 0 if there is no tree.
abbrev pub entry_bytes : Option Tree → List ℕ
entry_bytes None = 0 ∷ 0 ∷ 0 ∷ 0 ∷ 0 ∷ 0 ∷ 0 ∷ 0 ∷ 0 ∷ 0 ∷ 0 ∷ 0 ∷ 0 ∷ 0 ∷ 0 ∷ 0 ∷ []
entry_bytes (Some tree) =
    1 ∷ tree.shape.depth ∷ (entry_check tree.shape.depth tree.shape.record_len tree.base ++ (four_bytes tree.shape.record_len ++ eight_bytes tree.base))

abbrev pub entry_at : ℕ → ℕ
entry_at number = ENTRIES_AT + ENTRY_LEN * number

-- the header has these trees
pub record HasTrees (trees : Trees) (c : Content) : Type 0 where
  pub all : length trees ≡ TREES
  pub each : (number : ℕ) → number < TREES → bytes_at ENTRY_LEN (entry_at number) c ≡ entry_bytes (tree_at trees number)
