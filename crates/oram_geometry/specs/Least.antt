-- The least number that passes a test.
use Rattle.std.specs.Prelude.{◌≡◌, ℕ, zero, suc, ◌+◌, ◌≤◌, Bool, true, if◌then◌else◌}

-- n is the least number, from `from` on, that passes the test
pub record IsLeastFrom (test : ℕ → Bool) (from n : ℕ) : Type 0 where
  pub begins : from ≤ n
  pub passes : test n ≡ true
  pub least : (m : ℕ) → from ≤ m → test m ≡ true → n ≤ m

-- the first of the numbers `from`, `from` + 1, .. that passes the test; `from` + `more` if none of the `more` numbers
-- before it passes
unfoldable pub least_from : (ℕ → Bool) → ℕ → ℕ → ℕ
least_from test from zero = from
least_from test from (suc more) = if test from then from else least_from test (from + 1) more
