-- The blocks that sealed bytes hold.
use Rattle.std.specs.Prelude.{◌≡◌, ℕ, List, Option, Some}
use Rattle.oram_geometry.specs.declared.Sizes.{Sizes}
use Rattle.oram_bucket.specs.Cell.{Cell}
use Rattle.oram_bucket.specs.Bucket.{IsSpelling}

-- the sealed bytes open, and the opened bytes spell these blocks as a bucket of tree i
pub record Reads (opening : List ℕ → Option (List ℕ)) (d : Sizes) (i : ℕ) (sealed : List ℕ) (cells : List Cell) : Type 0 where
  pub plain : List ℕ
  pub opens : opening sealed ≡ Some plain
  pub spelled : IsSpelling d i cells plain
