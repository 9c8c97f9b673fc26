-- The result for sealed bytes, given the plain bytes that the sealer opens them to.
use Rattle.std.specs.Prelude.{◌≡◌, ℕ, List, Option, Some, None, Result, Err, MatchOption, IsOkUnless, IsErr}
use Rattle.oram_geometry.specs.declared.Sizes.{Sizes}
use Rattle.oram_bucket.specs.declared.sealer.OpenFault.{OpenFault}
use Rattle.oram_bucket.specs.declared.sealer.OpenFault.TheVariants.{Broken, OutOfMemory}
use Rattle.oram_bucket.specs.Fault.{first_fault}

-- if the sealer finds the bytes broken, the result says so, even if memory is short; plain bytes with a fault as a
-- bucket of tree i give no blocks; plain bytes without a fault give blocks, unless memory runs out
abbrev pub IsOpened : {T : Type 0} → Sizes → ℕ → Option (List ℕ) → Result T OpenFault → Type 0
IsOpened d i None result = result ≡ Err Broken
IsOpened d i (Some plain) result = MatchOption (first_fault d i plain) (IsOkUnless result OutOfMemory) (λ _. IsErr result)
