-- How many digests a scan knows.
use Rattle.std.proofs.Common.{◌≡◌, ℕ, ◌+◌, ◌*◌, ◌^◌, ◌<◌, ◌≤◌, arith, List, [], ◌∷◌, length, Option, Some, ap}
use Rattle.std.proofs.lemmas.Nat.{pow_pos, pow-add}
use Rattle.oram_scan.specs.Scan.{IsScan}

pub twice : (depth : ℕ) → 2 ^ (depth + 1) ≡ 2 ^ depth * 2
twice depth = pow-add 2 depth 1

pub begun_is_scan : (depth record_len : ℕ) (root : List ℕ) (digests : List (Option (List ℕ))) → depth ≤ 24 → 64 < record_len → digests ≡ Some root ∷ []
    → IsScan (record { depth = depth; record_len = record_len; node = 0; digests = digests })
begun_is_scan depth record_len root digests depth_in len_in is =
    let one : length digests ≡ 1 = ap length is in
    record { depth_in = depth_in; len_in = len_in; node_in = omega arith; count = omega (arith, one, twice depth, pow_pos depth) }
