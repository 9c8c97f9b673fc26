-- Findings with one more node.
use Rattle.std.proofs.Common.{◌≡◌, ℕ, ◌+◌, ◌^◌, ◌<◌, ◌≤◌, inl, inr, arith, ap, ◌∙◌, List, length, get_or, Option, Some, None, sum_by}
use Rattle.std.proofs.lemmas.Bool.{cases_lt}
use Rattle.std.proofs.Math.ListN.{set, length-set}
use Rattle.std.proofs.Math.Nat.{pow-le-pow_right}
use Rattle.std.proofs.lemmas.List.Sums.{sum_by-le-sum_by, sum_by-set}
use Rattle.oram_scan.specs.declared.tree_scan.Finding.{Finding}
use Rattle.oram_scan.specs.declared.tree_scan.Finding.TheVariants.{Sound, Changed, Unchecked}
use Rattle.oram_export.specs.Findings.{IsCounted, count_of, lost_of, none_found, one_more}
use Rattle.oram_export.specs.declared.findings.LevelFindings.{LevelFindings}

pub level_below : (level n k : ℕ) → 2 ^ level ≤ n → n < 2 ^ k → level < k
level_below level n k least most =
    elim (cases_lt level k) [
      | inl below ↦ below
      | inr above ↦ let more : 2 ^ k ≤ 2 ^ level = pow-le-pow_right {n = 2} (omega arith) above in absurd (omega arith)
    ]

pub count_of_more : (f : LevelFindings) (x : Option Finding) → count_of (one_more f x) ≡ count_of f + 1
count_of_more f None = omega arith
count_of_more f (Some Sound) = omega arith
count_of_more f (Some Changed) = omega arith
count_of_more f (Some Unchecked) = omega arith

pub counted_length : (old new : List LevelFindings) (node : ℕ) (x : Option Finding) → IsCounted old node x new → length new ≡ length old
counted_length old new node x is = ap length is.counted ∙ length-set old is.level (one_more (get_or old is.level none_found) x)

pub counted_sum : (old new : List LevelFindings) (node : ℕ) (x : Option Finding) → IsCounted old node x new → node + 1 < 2 ^ length old → sum_by count_of new ≡ sum_by count_of old + 1
counted_sum old new node x is within =
    let f = get_or old is.level none_found in
    let below : is.level < length old = level_below is.level (node + 1) (length old) is.at_level.0 within in
    let after : sum_by count_of (set old is.level (one_more f x)) + count_of f ≡ sum_by count_of old + count_of (one_more f x) = sum_by-set count_of old is.level (one_more f x) none_found below in
    ap (sum_by count_of) is.counted ∙ omega (arith, after, count_of_more f x)

pub lost_within : (levels : List LevelFindings) → sum_by lost_of levels ≤ sum_by count_of levels
lost_within levels = sum_by-le-sum_by lost_of count_of levels (λ f. omega arith)
