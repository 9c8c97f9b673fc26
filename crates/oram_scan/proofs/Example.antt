-- A tree of three records, and a scan to which the last one isn't given.
use Rattle.std.proofs.Common.{◌≡◌, ℕ, zero, suc, ◌+◌, ◌-◌, ◌*◌, ◌<◌, ◌≤◌, refl, arith, ap, ◌∙◌, List, length, take, slice_range, Some, length-append, take_all}
use Rattle.std.proofs.lemmas.List.{take_at, drop_at}
use Rattle.sha2.specs.Sha256.{sha256}
use Rattle.sha2.proofs.Facts256.{length-sha256}
use Rattle.oram_hash.specs.Record.{HoldsDigests, left_digest, right_digest, no_digest}
use Rattle.oram_hash.specs.Tree.{IsStored}
use Rattle.oram_scan.specs.Scan.{Scan, begun, passed, told}
use Rattle.oram_scan.specs.Laws.{ScanExample, example_records, leaf_record, root_of_two}

abbrev A : List ℕ
A = sha256 (leaf_record 8)

abbrev B : List ℕ
B = sha256 (leaf_record 9)

len : length root_of_two ≡ 65
len = omega (arith, length-append A B, length-sha256 (leaf_record 8), length-sha256 (leaf_record 9))

left_is : left_digest root_of_two ≡ A
unfolding left_digest
left_is = ap (λ (n : ℕ). slice_range root_of_two (n - 64) (n - 32)) len ∙ take_at A B 32 (length-sha256 (leaf_record 8))

right_is : right_digest root_of_two ≡ B
unfolding right_digest
right_is =
    ap (λ (n : ℕ). slice_range root_of_two (n - 32) n) len ∙ ap (take 32) (drop_at A B 32 (length-sha256 (leaf_record 8)))
    ∙ take_all 32 B (omega (arith, length-sha256 (leaf_record 9)))

leaf_is : (byte : ℕ) → HoldsDigests (leaf_record byte) no_digest no_digest
unfolding left_digest right_digest
leaf_is byte = record { left_held = refl; right_held = refl }

lengths : (n : ℕ) → n < 3 → length (example_records n) ≡ 65
lengths zero below = len
lengths (suc zero) below = refl
lengths (suc (suc n)) below = refl

inner : (n : ℕ) → n < 1 → HoldsDigests (example_records n) (sha256 (example_records (2 * n + 1))) (sha256 (example_records (2 * n + 2)))
inner zero below = record { left_held = left_is; right_held = right_is }
inner (suc n) below = absurd (omega arith)

leaves : (n : ℕ) → 1 ≤ n → n < 3 → HoldsDigests (example_records n) no_digest no_digest
leaves zero above below = absurd (omega arith)
leaves (suc zero) above below = leaf_is 8
leaves (suc (suc n)) above below = leaf_is 9

stored : IsStored 1 65 (sha256 root_of_two) example_records
stored = record { lengths = lengths; top = refl; inner = inner; leaves = leaves }

abbrev first : Scan
first = told (begun 1 65 (sha256 root_of_two)) root_of_two

abbrev second : Scan
second = told first (leaf_record 8)

pub example : ScanExample
example = (
  stored,
  (
    passed second,
    (
      first,
      (omega arith, ((len, refl), refl)),
      (
        second,
        (omega arith, ((refl, ap Some left_is), refl)),
        (passed second, (omega arith, refl), refl),
      ),
    ),
    refl,
  ),
)
