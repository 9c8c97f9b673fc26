-- One access to a tree.
use Rattle.std.specs.Prelude.{◌≡◌, ◌≢◌, ℕ, ◌+◌, ◌<◌, ◌≤◌, ◌⊎◌, ◌↔◌, List, ◌++◌, length, map, All, Option, Some, None, Bool, true, false, is_some, slice_index_or, [], Contains, replicate}
use Rattle.std.specs.Option.{option_map_or}
use Rattle.oram_geometry.specs.declared.Sizes.{Sizes}
use Rattle.oram_hash.specs.Path.{Path, record_at}
use Rattle.oram_hash.specs.Record.{sealed_part}
use Rattle.oram_hash.specs.Rebuild.{joined_from, IsRebuilt, StandsRebuilt}
use Rattle.oram_hash.specs.Tree.{IsReplaced}
use Rattle.oram_bucket.specs.Cell.{Cell, IsRising}
use Rattle.oram_bucket.specs.Bucket.{spelling}
use Rattle.oram_bucket.specs.Cipher.{Cipher}
use Rattle.oram_bucket.specs.SealedBlocks.{Reads}
use Rattle.oram_stash.specs.Blocks.{block_at}
use Rattle.oram_stash.specs.Eviction.{IsEviction, listed}
use Rattle.oram_tree.specs.Content.{Map, Entry, entry_of, Holds, put}
use Rattle.oram_tree.specs.State.{State, IsStoredWith}

-- if the map has the address, it has it with this leaf
abbrev pub IsAtOrAbsent : Map → ℕ → ℕ → Type 0
IsAtOrAbsent content address leaf = (e : Entry) → content address ≡ Some e → e.leaf ≡ leaf

-- the data of a block, or zeros if there is no block
abbrev pub content_or_zeros : ℕ → Option Entry → List ℕ
content_or_zeros len None = replicate len 0
content_or_zeros len (Some e) = e.content

-- the sealed bucket at a level
abbrev pub part_at : List (List ℕ) → ℕ → List ℕ
part_at parts level = slice_index_or parts level []

-- Below, `reads` relates the bytes of a sealed bucket to its blocks.

-- the block is in a bucket of the path
abbrev pub IsInBucket : (List ℕ → List Cell → Type 0) → Path → Cell → Type 0
IsInBucket reads p c = (level : ℕ) × (level ≤ p.depth) × Holds reads (record_at p level) c

-- the block is in the stash or in a bucket of the path
abbrev pub IsNear : (List ℕ → List Cell → Type 0) → Path → List Cell → Cell → Type 0
IsNear reads p stash c = Contains stash c ⊎ IsInBucket reads p c

-- each bucket of the path can be read, and no two blocks of the path and the stash have the same address
pub record IsReadable (reads : List ℕ → List Cell → Type 0) (p : Path) (stash : List Cell) : Type 0 where
  pub readable : (level : ℕ) → level ≤ p.depth → (cells : List Cell) × reads (sealed_part (record_at p level)) cells
  pub once_on_path : (i k : ℕ) (c d : Cell) → i ≤ p.depth → k ≤ p.depth → Holds reads (record_at p i) c → Holds reads (record_at p k) d → c.address ≡ d.address → i ≡ k
  pub once_in_all : (i : ℕ) (c d : Cell) → i ≤ p.depth → Holds reads (record_at p i) c → Contains stash d → c.address ≢ d.address

-- `found` says whether a near block has the address, and `before` is its data, or zeros if there is none
pub record IsLookup (near : Cell → Type 0) (len address : ℕ) (found : Bool) (before : List ℕ) : Type 0 where
  pub present : found ≡ true → (c : Cell) × near c × (c.address ≡ address) × (c.content ≡ before)
  pub absent : found ≡ false → ((c : Cell) → near c → c.address ≢ address) × (before ≡ replicate len 0)

-- the data of the stash's block with this address, or `other` if it has none
abbrev pub content_in : List Cell → ℕ → List ℕ → List ℕ
content_in stash address other = option_map_or (λ c. c.content) (block_at stash address) other

-- the blocks that wait for an eviction are the accessed block c, as changed, and the other near blocks
abbrev pub IsWaiting : (Cell → Type 0) → Cell → List Cell → Type 0
IsWaiting near c waiting = (d : Cell) → Contains waiting d ↔ ((d ≡ c) ⊎ (near d × (d.address ≢ c.address)))

-- what an access writes: new records for this path of a tree, their buckets sealed under rising nonces from `nonce` on
pub record Rewriting : Type 0 where
  pub device : Sizes
  pub tree : ℕ
  pub cipher : Cipher
  pub path : Path
  pub nonce : ℕ

-- relates a sealed bucket of the tree to its blocks
abbrev pub reads_in : Rewriting → List ℕ → List Cell → Type 0
reads_in w = Reads w.cipher.opening w.device w.tree

-- the bucket with these blocks, as it is sealed at this level
abbrev pub sealed_at : Rewriting → ℕ → List Cell → List ℕ
sealed_at w level cells = w.cipher.sealing (w.nonce + level) (spelling w.device cells)

-- `now` is `old` followed by the records of the path's first `levels` levels, not linked yet: each is the sealed bucket
-- of its level's list, and then the path's digests; each bucket reads back as its list
pub record IsSealedTo (w : Rewriting) (lists : List (List Cell)) (levels : ℕ) (old now : List ℕ) : Type 0 where
  pub parts : List (List ℕ)
  pub count : length parts ≡ levels
  pub lengths : All (λ part. length part + 64 ≡ w.path.record_len) parts
  pub gained : now ≡ old ++ joined_from w.path 0 parts
  pub sealed : (level : ℕ) → level < levels → part_at parts level ≡ sealed_at w level (listed lists level)
  pub read_back : (level : ℕ) → level < levels → reads_in w (part_at parts level) (listed lists level)

-- `now` is `old` followed by the path's new records, which have the lists as their buckets and are linked; `root` is the
-- new root digest
pub record IsAppended (w : Rewriting) (lists : List (List Cell)) (old now root : List ℕ) : Type 0 where
  pub records : List ℕ
  pub gained : now ≡ old ++ records
  pub parts : List (List ℕ)
  pub rebuilt : IsRebuilt w.path parts records root
  pub stands : StandsRebuilt w.path records root
  pub sealed : (level : ℕ) → level ≤ w.path.depth → part_at parts level ≡ sealed_at w level (listed lists level)
  pub read_back : (level : ℕ) → level ≤ w.path.depth → reads_in w (part_at parts level) (listed lists level)

-- what an access has prepared, before it changes the tree
pub record Preparation : Type 0 where
  pub near : List Cell  -- the path's blocks and the accessed block, as changed
  pub stays : List ℕ  -- the addresses of the blocks that stay in the stash
  pub old : List ℕ  -- the bytes to which the new records were appended
  pub now : List ℕ  -- those bytes and the new records
  pub root : List ℕ  -- the new root digest

-- The waiting blocks have been evicted to the path, and its new records are written. The waiting blocks are those of the
-- stash, except the one with the address of the accessed block c, and those of `near`.
pub record IsPrepared (w : Rewriting) (stash : List Cell) (c : Cell) (p : Preparation) : Type 0 where
  pub waiting : List Cell
  pub lists : List (List Cell)
  pub rest : List Cell
  pub rising : IsRising waiting
  pub waits : IsWaiting (IsNear (reads_in w) w.path stash) c waiting
  pub from_both : (d : Cell) → Contains waiting d ↔ ((Contains stash d × (d.address ≢ c.address)) ⊎ Contains p.near d)
  pub evicted : IsEviction w.path.depth w.device.slots w.path.leaf waiting lists rest
  pub stays_are : p.stays ≡ map (λ b. b.address) rest
  pub appended : IsAppended w lists p.old p.now p.root

-- The waiting blocks have been evicted to the path; q is the path with its new records. Their buckets are the lists, and
-- read back as the lists.
pub record IsRewritten (w : Rewriting) (stash : List Cell) (q : Path) (c : Cell) (rest : List Cell) : Type 0 where
  pub waiting : List Cell
  pub lists : List (List Cell)
  pub rising : IsRising waiting
  pub waits : IsWaiting (IsNear (reads_in w) w.path stash) c waiting
  pub evicted : IsEviction w.path.depth w.device.slots w.path.leaf waiting lists rest
  pub sealed : (level : ℕ) → level ≤ w.path.depth → sealed_part (record_at q level) ≡ sealed_at w level (listed lists level)
  pub read_back : (level : ℕ) → level ≤ w.path.depth → reads_in w (sealed_part (record_at q level)) (listed lists level)

-- what an access to a stored tree started from, and what it has made of it
pub record Update : Type 0 where
  pub device : Sizes
  pub cipher : Cipher
  pub path : Path  -- as it was fetched
  pub written : Path  -- with its new records
  pub records : ℕ → List ℕ  -- those of the tree before the access
  pub content : Map  -- what the tree held before the access
  pub block : Cell  -- the accessed block, as changed
  pub found : Bool  -- whether the access has found the block
  pub before : List ℕ  -- the block's data before the change
  pub after : State  -- the tree after the access

-- The access reports the map's data at the block's address. Once the path's new records replace the old ones, the records
-- are stored under the new tree and hold the same map, except at this address.
pub record IsUpdate (u : Update) : Type 0 where
  pub reported : u.found ≡ is_some (u.content u.block.address)
  pub data_reported : u.before ≡ content_or_zeros u.device.block_bytes (u.content u.block.address)
  pub updated : (new : ℕ → List ℕ) → IsReplaced u.path u.written u.records new
      → IsStoredWith u.cipher.opening u.cipher.overhead u.device u.after new (put u.content u.block.address (entry_of u.block))
