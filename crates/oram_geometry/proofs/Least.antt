-- The least number that passes a test is the first that does.
use Rattle.std.proofs.Common.{◌≡◌, ℕ, zero, suc, ◌+◌, ◌≤◌, Bool, true, false, refl, ap, ◌∙◌, subst, arith}
use Rattle.oram_geometry.specs.Least.{IsLeastFrom, least_from}

-- if `from` fails the test, the search goes on from the next number
pub least_from-fails : (test : ℕ → Bool) (from more : ℕ) → test from ≡ false → least_from test from (suc more) ≡ least_from test (from + 1) more
unfolding least_from
least_from-fails test from more h = rw h refl

pub least_from-passes : (test : ℕ → Bool) (from more : ℕ) → test from ≡ true → least_from test from (suc more) ≡ from
unfolding least_from
least_from-passes test from more h = rw h refl

pub least_from-zero : (test : ℕ → Bool) (from : ℕ) → least_from test from 0 ≡ from
unfolding least_from
least_from-zero test from = refl

-- a number that passes differs from one that fails
differ : (test : ℕ → Bool) (m n : ℕ) → test m ≡ false → test n ≡ true → m ≡ n → ⊥
differ test m n fails passes same = let both : test m ≡ test n = ap test same in cc

-- the search finds the least number that passes, if it is within reach
pub least_from-is : (test : ℕ → Bool) (from more n : ℕ) → IsLeastFrom test from n → n ≤ from + more → least_from test from more ≡ n
least_from-is test from zero n l h = least_from-zero test from ∙ (let low = l.begins in omega arith)
least_from-is test from (suc more) n l h =
    elim (test from) as (λ b. test from ≡ b → least_from test from (suc more) ≡ n) [
      | true ↦ λ passes. least_from-passes test from more passes ∙ (let low = l.begins in let high = l.least from (omega arith) passes in omega arith)
      | false ↦ λ fails.
          let apart : from ≡ n → ⊥ = differ test from n fails l.passes in
          let low = l.begins in
          least_from-fails test from more fails ∙ least_from-is test (from + 1) more n
          (record { begins = omega arith; passes = l.passes; least = λ m above h. l.least m (omega arith) h }) (omega arith)
    ] refl

-- if the last number within reach passes, the search finds the least one that passes
pub least_from-least : (test : ℕ → Bool) (from more : ℕ) → test (from + more) ≡ true → IsLeastFrom test from (least_from test from more)
least_from-least test from zero h =
    rw (least_from-zero test from) (record { begins = omega arith; passes = (let e : from + 0 ≡ from = omega arith in subst (λ n. test n ≡ true) e h); least = λ m above passes. above })
least_from-least test from (suc more) h =
    elim (test from) as (λ b. test from ≡ b → IsLeastFrom test from (least_from test from (suc more))) [
      | true ↦ λ passes. rw (least_from-passes test from more passes) (record { begins = omega arith; passes = passes; least = λ m above _. above })
      | false ↦ λ fails.
          let e : from + suc more ≡ from + 1 + more = omega arith in
          let l = least_from-least test (from + 1) more (subst (λ n. test n ≡ true) e h) in
          rw (least_from-fails test from more fails) (record {
            begins = (let low = l.begins in omega arith);
            passes = l.passes;
            least = λ m above passes. l.least m (let apart : from ≡ m → ⊥ = differ test from m fails passes in omega arith) passes;
          })
    ] refl
