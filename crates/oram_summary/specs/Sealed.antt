-- A sealed summary.
use Rattle.std.specs.Prelude.{ℕ, ◌+◌, List}
use Rattle.oram_summary.specs.Contents.{Contents, IsSummary}
use Rattle.oram_summary.specs.Sealing.{IsSealingOf}
use Rattle.oram_summary.specs.Text.{text_len_of, text_of}

-- how many bytes it has, for a device with blocks of so many bytes
abbrev pub sealed_len_of : ℕ → ℕ
sealed_len_of block_bytes = 64 + text_len_of block_bytes

-- the bytes are this summary, sealed under this key
pub record IsSealedSummary (key sealed : List ℕ) (c : Contents) : Type 0 where
  pub summary : IsSummary c
  pub opens : IsSealingOf key sealed (text_of c)
