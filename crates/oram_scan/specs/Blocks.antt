-- The blocks that the records of a tree hold, with those of the stash, laid out as an image: a function from addresses to data.
use Rattle.std.specs.Prelude.{◌≡◌, ◌≢◌, ◌⊎◌, ℕ, ◌<◌, Bool, true, List, Option, replicate, Contains}
use Rattle.oram_geometry.specs.declared.Sizes.{Sizes}
use Rattle.oram_geometry.specs.Sizes.{IsDevice, depth_of}
use Rattle.oram_hash.specs.Record.{sealed_part}
use Rattle.oram_bucket.specs.Cell.{Cell}
use Rattle.oram_bucket.specs.SealedBlocks.{Reads}
use Rattle.oram_tree.specs.Access.{content_or_zeros}
use Rattle.oram_tree.specs.Content.{Map, node_count}
use Rattle.oram_tree.specs.State.{IsStoredWith, State}

-- the bucket of each node that was read has these blocks
abbrev pub AreRead : (List ℕ → List Cell → Type 0) → (ℕ → List ℕ) → (ℕ → Type 0) → (ℕ → List Cell) → Type 0
AreRead reads records WasRead found = (n : ℕ) → WasRead n → reads (sealed_part (records n)) (found n)

-- the block is in the bucket of a node that was read, or in the stash
abbrev pub IsFound : (ℕ → Type 0) → (ℕ → List Cell) → List Cell → Cell → Type 0
IsFound WasRead found stash c = ((n : ℕ) × WasRead n × Contains (found n) c) ⊎ Contains stash c

-- an image with the data of each block that was found, and zeros for all other blocks
pub record IsImageOf (len : ℕ) (Found : Cell → Type 0) (image : ℕ → List ℕ) : Type 0 where
  pub written : (c : Cell) → Found c → image c.address ≡ c.content
  pub zeros : (a : ℕ) → ((c : Cell) → Found c → c.address ≢ a) → image a ≡ replicate len 0

-- If the buckets of all nodes were read, the image is what the tree holds.
abbrev pub WholeTreesGiveTheContent : Type 0
WholeTreesGiveTheContent = (opening : List ℕ → Option (List ℕ)) (overhead : ℕ) (d : Sizes) (t : State) (records : ℕ → List ℕ) (content : Map)
    (found : ℕ → List Cell) (image : ℕ → List ℕ) → IsDevice d → IsStoredWith opening overhead d t records content
    → AreRead (Reads opening d t.number) records (λ n. n < node_count (depth_of d t.number)) found
    → IsImageOf d.block_bytes (IsFound (λ n. n < node_count (depth_of d t.number)) found t.stash) image
    → (a : ℕ) → image a ≡ content_or_zeros d.block_bytes (content a)

-- If only some of the buckets were read, each block that was found has the data that the tree holds at its address.
abbrev pub FoundBlocksAreTheContents : Type 0
FoundBlocksAreTheContents = (opening : List ℕ → Option (List ℕ)) (overhead : ℕ) (d : Sizes) (t : State) (records : ℕ → List ℕ) (content : Map)
    (was_read : ℕ → Bool) (found : ℕ → List Cell) (image : ℕ → List ℕ) → IsStoredWith opening overhead d t records content
    → ((n : ℕ) → was_read n ≡ true → n < node_count (depth_of d t.number)) → AreRead (Reads opening d t.number) records (λ n. was_read n ≡ true) found
    → IsImageOf d.block_bytes (IsFound (λ n. was_read n ≡ true) found t.stash) image
    → (c : Cell) → IsFound (λ n. was_read n ≡ true) found t.stash c → image c.address ≡ content_or_zeros d.block_bytes (content c.address)
