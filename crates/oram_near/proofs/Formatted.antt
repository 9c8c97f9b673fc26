-- The records of a path, one behind the other, as two crates write them.
use Rattle.std.proofs.Common.{◌≡◌, ℕ, zero, suc, ◌+◌, ◌-◌, List, ◌++◌, refl, ap, ◌∙◌}
use Rattle.oram_geometry.specs.declared.Sizes.{Sizes}
use Rattle.oram_geometry.specs.Sizes.{depth_of}
use Rattle.oram_bucket.specs.Cipher.{Cipher}
use Rattle.oram_empty.specs.EmptyRecords.{joined}
use Rattle.oram_empty.specs.KeptDigests.{Digests, made_path, made_record}
use Rattle.oram_near.specs.EmptyRecords.{records_from}
use Rattle.oram_near.specs.FormattedRecords.{digests_with}

joined_are : (f : ℕ → List ℕ) (first count : ℕ) → joined f first count ≡ records_from f first count
unfolding joined
joined_are f first zero = refl
joined_are f first (suc n) = ap (λ (rest : List ℕ). f first ++ rest) (joined_are f (first + 1) n)

-- the made path of a device's digests
pub made_as : (cipher : Cipher) (s : Digests) (d : Sizes) (rest : List ℕ) (tree leaf first : ℕ) (old new : List ℕ) → s ≡ digests_with d rest
    → new ≡ old ++ made_path cipher s tree leaf first → new ≡ old ++ records_from (made_record cipher (digests_with d rest) tree leaf) first (depth_of d tree + 1 - first)
made_as cipher s d rest tree leaf first old new same is =
    is ∙ ap (λ (x : Digests). old ++ made_path cipher x tree leaf first) same
    ∙ ap (λ (records : List ℕ). old ++ records) (joined_are (made_record cipher (digests_with d rest) tree leaf) first (depth_of d tree + 1 - first))
