-- The outcome of an eviction to the path of a leaf, as a property of a list of blocks for each level and a rest.
use Rattle.std.specs.Prelude.{◌≡◌, ℕ, ◌+◌, ◌<◌, ◌≤◌, ◌⊎◌, List, [], length, All, Contains, slice_index_or}
use Rattle.std.specs.List.{flat_map}
use Rattle.std.specs.Prelude.{IsPermutation, ◌++◌}
use Rattle.oram_bucket.specs.declared.block.Block.{Block}
use Rattle.oram_geometry.specs.Path.{MeetsAt}
use Rattle.oram_bucket.specs.Cell.{IsRising}

-- the list of this level
abbrev pub listed : List (List Block) → ℕ → List Block
listed lists level = slice_index_or lists level []

-- the blocks of all lists, from the root down
abbrev pub all_listed : List (List Block) → List Block
all_listed lists = flat_map (λ list. list) lists

-- the blocks are distributed over the path of leaf x and the rest: each block is there once, each listed block's own
-- path meets that path at its level, and no list has more blocks than a bucket has slots
pub record IsPlacement (deep slots x : ℕ) (blocks : List Block) (lists : List (List Block)) (rest : List Block) : Type 0 where
  pub levels : length lists ≡ deep + 1
  pub on_path : (l : ℕ) (b : Block) → Contains (listed lists l) b → MeetsAt deep x b.leaf l
  pub within : (l : ℕ) → length (listed lists l) ≤ slots
  pub each_once : IsPermutation blocks (all_listed lists ++ rest)

-- the block is in the rest, or in the list of a level nearer the root than l
abbrev pub IsNearer : List (List Block) → List Block → ℕ → Block → Type 0
IsNearer lists rest l b = Contains rest b ⊎ ((k : ℕ) × (k < l) × Contains (listed lists k) b)

-- if a block is in the rest, or nearer the root than level l though its path meets that of x at l, then the list of l is
-- full of blocks with lesser addresses
pub record IsGreedy (deep slots x : ℕ) (lists : List (List Block)) (rest : List Block) : Type 0 where
  pub rising : (l : ℕ) → IsRising (listed lists l)
  pub full : (l : ℕ) (b : Block) → l ≤ deep → MeetsAt deep x b.leaf l → IsNearer lists rest l b → length (listed lists l) ≡ slots
  pub least : (l : ℕ) (b : Block) → l ≤ deep → MeetsAt deep x b.leaf l → IsNearer lists rest l b → All (λ c. c.address < b.address) (listed lists l)

-- the outcome of an eviction of the blocks
pub record IsEviction (deep slots x : ℕ) (blocks : List Block) (lists : List (List Block)) (rest : List Block) : Type 0 where
  pub placement : IsPlacement deep slots x blocks lists rest
  pub greedy : IsGreedy deep slots x lists rest
  pub rising : IsRising rest

-- no other placement of the same blocks leaves fewer blocks in the rest
abbrev pub LeavesFewest : ℕ → ℕ → ℕ → List Block → List Block → Type 0
LeavesFewest deep slots x blocks rest = (lists : List (List Block)) (other : List Block) → IsPlacement deep slots x blocks lists other → length rest ≤ length other

-- level c proves that the rest can't be smaller: down to c the lists are full, and no block in them or in the rest has a
-- path that meets that of x below c, so these blocks fit nowhere else
pub record IsTight (deep slots x : ℕ) (lists : List (List Block)) (rest : List Block) (c : ℕ) : Type 0 where
  pub in_tree : c ≤ deep
  pub full : (l : ℕ) → l ≤ c → length (listed lists l) ≡ slots
  pub apart : (b : Block) (k : ℕ) → IsNearer lists rest (c + 1) b → c < k → k ≤ deep → MeetsAt deep x b.leaf k → ⊥

-- the eviction of given blocks has exactly one outcome
abbrev pub OneOutcome : Type 0
OneOutcome = (deep slots x : ℕ) (blocks : List Block) (lists others : List (List Block)) (rest other : List Block) → IsRising blocks → IsEviction deep slots x blocks lists rest → IsEviction deep slots x blocks others other → (lists ≡ others) × (rest ≡ other)
