-- The blocks that are written into an image.
use Rattle.std.specs.Prelude.{◌≡◌, ◌⊎◌, ℕ, ◌==◌, if◌then◌else◌, List, [], ◌∷◌, ◌++◌, map, replicate}
use Rattle.std.specs.List.{All, FoldsTo, flat_map}
use Rattle.oram_bucket.specs.Cell.{Cell}
use Rattle.oram_hash.specs.Record.{sealed_part}
use Rattle.oram_semantics.specs.declared.events.Command.{Command}
use Rattle.oram_semantics.specs.declared.events.Command.TheVariants.{Read, Write, Discard}
use Rattle.oram_semantics.specs.declared.events.Submission.{Submission}

-- the data of a block at its address
pub record BlockWrite : Type 0 where
  pub address : ℕ
  pub content : List ℕ

abbrev pub write_of : Cell → BlockWrite
write_of c = record { address = c.address; content = c.content }

-- the blocks of a record's bucket are put into the sink
pub record PutsBlocks {K : Type 0} (reads : List ℕ → List Cell → Type 0) (takes : K → BlockWrite → K → Type 0) (s : K) (r : List ℕ) (t : K) : Type 0 where
  pub cells : List Cell
  pub read : reads (sealed_part r) cells
  pub put : FoldsTo takes s (map write_of cells) t

-- what a command writes, where `zeros` is a block of zeros
abbrev pub writes_of : List ℕ → Command → List BlockWrite
writes_of zeros (Read a) = []
writes_of zeros (Write a bytes) = record { address = a; content = bytes } ∷ []
writes_of zeros (Discard a) = record { address = a; content = zeros } ∷ []

-- what the commands write that wait
abbrev pub waiting_writes : List ℕ → List Submission → List BlockWrite
waiting_writes zeros queue = flat_map (λ x. writes_of zeros x.command) queue

-- these are the blocks of the records' buckets, one record after the other
abbrev pub AreBlocksOf : (List ℕ → List Cell → Type 0) → List (List ℕ) → List Cell → Type 0
AreBlocksOf reads [] cells = cells ≡ []
AreBlocksOf reads (r ∷ records) cells =
    (first : List Cell) × (rest : List Cell) × reads (sealed_part r) first × AreBlocksOf reads records rest × (cells ≡ first ++ rest)

-- an image, as a function from addresses to data, after some writes
abbrev pub image_after : (ℕ → List ℕ) → List BlockWrite → ℕ → List ℕ
image_after image [] a = image a
image_after image (w ∷ writes) a = image_after (λ b. if w.address == b then w.content else image b) writes a

-- the image that these writes make of zeros, with blocks of this length
abbrev pub image_of : ℕ → List BlockWrite → ℕ → List ℕ
image_of len writes a = image_after (λ b. replicate len 0) writes a

-- What an image of writes is to an array: each write is the array's block, and each block of the image is the array's or zeros. If no
-- record of the tree was lost, the image is the array.
pub record IsImage (len : ℕ) (array : ℕ → List ℕ) (writes : List BlockWrite) (IsWhole : Type 0) : Type 0 where
  pub written : All (λ w. w.content ≡ array w.address) writes
  pub each : (a : ℕ) → (image_of len writes a ≡ array a) ⊎ (image_of len writes a ≡ replicate len 0)
  pub whole : IsWhole → (a : ℕ) → image_of len writes a ≡ array a

-- The same once the commands that wait have written, too: each block of the image is the array's or zeros, and it is the array if no
-- record was lost.
pub record IsBackup (len : ℕ) (array : ℕ → List ℕ) (writes : List BlockWrite) (IsWhole : Type 0) : Type 0 where
  pub each : (a : ℕ) → (image_of len writes a ≡ array a) ⊎ (image_of len writes a ≡ replicate len 0)
  pub whole : IsWhole → (a : ℕ) → image_of len writes a ≡ array a
