use Rattle.std.proofs.Common.{◌≤◌, ◌<◌, ◌+◌, ℕ, arith, subst, inl, inr}
use Rattle.std.proofs.Math.Nat.{mul-le-mul_right}
use Rattle.std.proofs.Math.Pow.{pow_mono}
use Rattle.std.proofs.lemmas.Bool.{cases_lt}
use Rattle.oram_geometry.specs.Sizes.{record_len_of}
use Rattle.oram_semantics.proofs.Bounds.{some_trees}
use Rattle.oram_near.specs.NearLevels.{IsMostLevels, near_len}
use Rattle.oram_near.proofs.levels.near_levels.Goals as goal

longer : (a b len : ℕ) → a ≤ b → near_len a len ≤ near_len b len
longer a b len low = mul-le-mul_right len (omega (arith, pow_mono {i = a} {j = b} low))

pub depth-depth-requires : goal.depth-depth-requires
depth-depth-requires c = some_trees c.args.device.now

most : (depth len bytes levels : ℕ) → levels ≤ depth → near_len levels len ≤ bytes → (levels < depth → bytes < near_len (levels + 1) len)
    → IsMostLevels depth len bytes levels
most depth len bytes levels within fits next = record {
  within = within;
  fits = fits;
  greatest = λ other low short. elim (cases_lt levels other) [
    | inr done ↦ done
    | inl more ↦ absurd (omega (arith, next (omega (arith, more, low)), longer (levels + 1) other len (omega (arith, more)), short))
  ];
}

pub returns-else-near_len-most_bytes : goal.returns-else-near_len-most_bytes
returns-else-near_len-most_bytes c =
    let depth = c.depth-depth.result in
    let len = c.record_len-record_len.result in
    let next : c.args.most_bytes < near_len (c.loop-levels.levels + 1) len = omega (arith, c.if-near_len-most_bytes.false, c.near_len.ensures.value) in
    subst (λ (d : ℕ). IsMostLevels d (record_len_of c.args.device.now c.args.overhead) c.args.most_bytes c.loop-levels.levels) c.depth-depth.ensures.count
    (subst (λ (n : ℕ). IsMostLevels depth n c.args.most_bytes c.loop-levels.levels) c.record_len-record_len.ensures.value
    (most depth len c.args.most_bytes c.loop-levels.levels c.loop-levels.invariant.within c.loop-levels.invariant.fits (λ _. next)))
