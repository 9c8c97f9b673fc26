-- The records that a device and a sealer make, with a formatting's digests as the rest.
use Rattle.std.specs.Prelude.{◌≡◌, ℕ, ◌^◌, ◌<◌, ◌≤◌, List, ◌++◌, length}
use Rattle.oram_geometry.specs.declared.Sizes.{Sizes}
use Rattle.oram_geometry.specs.Path.{node_on}
use Rattle.oram_geometry.specs.Sizes.{depth_of, record_len_of, trees_of}
use Rattle.oram_bucket.specs.Cipher.{Cipher, IsCipher}
use Rattle.oram_semantics.specs.Scheme.{Scheme, record_len}
use Rattle.oram_empty.specs.Collecting.{Collection}
use Rattle.oram_empty.specs.EmptyRecords.{empty_record}
use Rattle.oram_empty.specs.KeptDigests.{Digests, digests_len, made_record}
use Rattle.oram_empty.specs.Laws.{HasFormatting, example_scheme}
use Rattle.oram_empty.proofs.Made.{of_nodes}
use Rattle.oram_near.specs.EmptyRecords.{AreEmptyRecords}
use Rattle.oram_near.specs.Near.{Near, near_record, rest_of}

-- a device, and what seals its buckets
pub record SealedDevice (S : Type 0) : Type 0 where
  pub device : Sizes
  pub sealer : S

-- the rest as the digests of a device
abbrev pub digests_with : Sizes → List ℕ → Digests
digests_with d rest = record { device = d; bytes = rest }

-- each node has one record, and all these records have the same length
pub are_made : (cipher : Cipher) (d : Sizes) (rest : List ℕ) → IsCipher cipher → length rest ≡ digests_len d
    → AreEmptyRecords d (record_len_of d cipher.overhead) (made_record cipher (digests_with d rest))
are_made cipher d rest law whole =
    let are = of_nodes cipher (digests_with d rest) law whole in
    record { long = are.long; one = λ tree leaf other level tree_in leaf_in other_in within same. are.one tree leaf other level within same }

-- The bytes of a client are what was collected of a formatting: the near records, and the digests behind them.
pub record AreCollected (v : Scheme) (s : Collection) (near : Near) : Type 0 where
  pub formatting : HasFormatting v near.levels s
  pub leaves_far : near.levels ≤ depth_of v.device 0
  pub record_len_is : near.record_len ≡ record_len v
  pub bytes : near.bytes ≡ s.records ++ s.digests

-- Then the near records are those of the formatting, the rest has as many bytes as the device's digests, and the records that are made with
-- it are those of the formatting.
abbrev pub CollectedBytesAreOfFormatting : Type 0
CollectedBytesAreOfFormatting = (v : Scheme) (s : Collection) (near : Near) → AreCollected v s near
    → (length (rest_of near) ≡ digests_len v.device)
    × ((leaf level : ℕ) → leaf < 2 ^ depth_of v.device 0 → level < near.levels → near_record near (node_on (depth_of v.device 0) leaf level) ≡ empty_record v.cipher v.device 0 leaf level)
    × ((tree leaf level : ℕ) → tree < trees_of v.device → leaf < 2 ^ depth_of v.device tree → level ≤ depth_of v.device tree
    → made_record v.cipher (digests_with v.device (rest_of near)) tree leaf level ≡ empty_record v.cipher v.device tree leaf level)

-- an example for this law: the device with two trees
abbrev pub CollectedExample : Type 0
CollectedExample = (s : Collection) × (near : Near) × AreCollected example_scheme s near
