-- The blocks that a stored tree and a stash hold, as a map from addresses to leaves and data.
use Rattle.std.specs.Prelude.{◌≡◌, ◌≢◌, ℕ, ◌+◌, ◌-◌, ◌^◌, ◌<◌, ◌≤◌, ◌⊎◌, List, Option, Some, None, IsSome, Contains, if◌then◌else◌, ◌==◌}
use Rattle.oram_geometry.specs.Path.{node_on}
use Rattle.oram_hash.specs.Record.{sealed_part}
use Rattle.oram_bucket.specs.Cell.{Cell, IsRising}

-- the leaf and the data that a map has at an address
pub record Entry : Type 0 where
  pub leaf : ℕ
  pub content : List ℕ

abbrev pub Map : Type 0
Map = ℕ → Option Entry

-- the map without blocks
abbrev pub no_blocks : Map
no_blocks address = None

-- the entry that a map has for this block
abbrev pub entry_of : Cell → Entry
entry_of c = record { leaf = c.leaf; content = c.content }

-- the map with one address changed
abbrev pub put : Map → ℕ → Entry → Map
put content address e a = if a == address then Some e else content a

-- the number of nodes of a tree of this depth
abbrev pub node_count : ℕ → ℕ
node_count depth = 2 ^ (depth + 1) - 1

-- Below, `reads` relates the bytes of a sealed bucket to its blocks.

-- the block is in the bucket of this record
abbrev pub Holds : (List ℕ → List Cell → Type 0) → List ℕ → Cell → Type 0
Holds reads r c = (cells : List Cell) × reads (sealed_part r) cells × Contains cells c

-- the node is on the path of the leaf
abbrev pub IsOnPath : ℕ → ℕ → ℕ → Type 0
IsOnPath depth leaf n = (level : ℕ) × (level ≤ depth) × (n ≡ node_on depth leaf level)

-- a stored tree and a stash hold this map: each block is there once, and a block in the tree is on its own path
pub record HasContent (reads : List ℕ → List Cell → Type 0) (depth : ℕ) (records : ℕ → List ℕ) (stash : List Cell) (content : Map) : Type 0 where
  pub readable : (n : ℕ) → n < node_count depth → (cells : List Cell) × reads (sealed_part (records n)) cells
  pub on_own_path : (n : ℕ) (c : Cell) → n < node_count depth → Holds reads (records n) c → IsOnPath depth c.leaf n
  pub once_in_tree : (n m : ℕ) (c d : Cell) → n < node_count depth → m < node_count depth → Holds reads (records n) c → Holds reads (records m) d → c.address ≡ d.address → n ≡ m
  pub once_in_stash : IsRising stash
  pub once_in_all : (n : ℕ) (c d : Cell) → n < node_count depth → Holds reads (records n) c → Contains stash d → c.address ≢ d.address
  pub from_tree : (n : ℕ) (c : Cell) → n < node_count depth → Holds reads (records n) c → content c.address ≡ Some (entry_of c)
  pub from_stash : (c : Cell) → Contains stash c → content c.address ≡ Some (entry_of c)
  pub held : (address : ℕ) → IsSome (content address)
      → ((c : Cell) × (c.address ≡ address) × Contains stash c) ⊎ ((c : Cell) × (n : ℕ) × (c.address ≡ address) × (n < node_count depth) × Holds reads (records n) c)
