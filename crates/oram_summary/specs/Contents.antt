-- What a summary says.
use Rattle.std.specs.Prelude.{◌≡◌, ℕ, ◌<◌, ◌≤◌, ◌^◌, List, length, All}
use Rattle.oram_geometry.specs.declared.Sizes.{Sizes}
use Rattle.oram_geometry.specs.Sizes.{IsDevice, depth_of}
use Rattle.oram_bucket.specs.Bucket.{IsBlockOf}
use Rattle.oram_bucket.specs.Cell.{Cell, IsRising}
use Rattle.oram_summary.specs.declared.summary.TheConstants.{MOST_BLOCKS}
use Rattle.oram_summary.specs.declared.summary.SealerKind.{SealerKind}
use Rattle.oram_summary.specs.declared.summary.SealerKind.TheVariants.{Plain, ChaCha20}

-- the number for how buckets are sealed
abbrev pub sealer_number : SealerKind → ℕ
sealer_number Plain = 0
sealer_number ChaCha20 = 1

pub record Contents : Type 0 where
  pub sealer : SealerKind
  pub device : Sizes
  pub near_levels : ℕ  -- how many levels of tree 0 the client keeps itself
  pub time : ℕ  -- in seconds since 1970
  pub number : ℕ  -- of the checkpoint
  pub next_ticket : ℕ
  pub next_nonce : ℕ
  pub root : List ℕ  -- the root digest of tree 0
  pub stash : List Cell

-- the stash has room in a summary
abbrev pub HasRoom : Contents → Type 0
HasRoom c = length c.stash ≤ MOST_BLOCKS

-- what a client says of its disk: the leaves' level isn't near, and the blocks of the stash are blocks of tree 0, by rising address
pub record IsOfDevice (c : Contents) : Type 0 where
  pub near : c.near_levels ≤ depth_of c.device 0
  pub rising : IsRising c.stash
  pub blocks : All (IsBlockOf c.device 0) c.stash

-- the numbers that aren't the device's fit eight bytes
pub record FitLongs (c : Contents) : Type 0 where
  pub time : c.time < 2 ^ 64
  pub number : c.number < 2 ^ 64
  pub ticket : c.next_ticket < 2 ^ 64
  pub nonce : c.next_nonce < 2 ^ 64

-- a summary: its stash has room, it can be one of a device, its numbers fit eight bytes, and its root digest has 32 bytes
pub record IsSummary (c : Contents) : Type 0 where
  pub device : IsDevice c.device
  pub of_device : IsOfDevice c
  pub room : HasRoom c
  pub fit : FitLongs c
  pub root : length c.root ≡ 32
