-- A device, and what its sealer does.
use Rattle.std.specs.Prelude.{ℕ}
use Rattle.oram_geometry.specs.declared.Sizes.{Sizes}
use Rattle.oram_geometry.specs.Sizes.{record_len_of}
use Rattle.oram_bucket.specs.Cipher.{Cipher}

pub record Scheme : Type 0 where
  pub device : Sizes
  pub cipher : Cipher

-- the number of bytes of a record
abbrev pub record_len : Scheme → ℕ
record_len v = record_len_of v.device v.cipher.overhead
