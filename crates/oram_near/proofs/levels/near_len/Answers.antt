use Rattle.std.proofs.Common.{◌≡◌, ◌-◌, ◌*◌, ◌%◌, ◌^◌, ◌<◌, ◌≤◌, arith, sym, subst, ℕ}
use Rattle.std.proofs.Math.Pow.{pow_mono}
use Rattle.std.proofs.lemmas.Nat.{mul-lt, one_shl, pow_pos}
use Rattle.oram_near.proofs.levels.near_len.Goals as goal

nodes_few : (levels : ℕ) → levels ≤ 24 → 2 ^ levels - 1 < 2 ^ 24
nodes_few levels low = omega (arith, pow_mono {i = levels} {j = 24} low, pow_pos levels)

product_small : (n len : ℕ) → n < 2 ^ 24 → len < 2 ^ 32 → n * len < 2 ^ 56
product_small n len few short = mul-lt n len (2 ^ 24) (2 ^ 32) few short

pub returns-clause-small : goal.returns-clause-small
returns-clause-small c =
    let nodes : (1 * 2 ^ c.args.levels) % 2 ^ 64 ≡ 2 ^ c.args.levels = one_shl c.args.levels 64 (omega arith) in
    let small : (2 ^ c.args.levels - 1) * c.args.record_len < 2 ^ 56 = product_small _ _ (nodes_few c.args.levels c.requires.levels) c.requires.few in
    let P : ℕ → Type 0 = λ n. (n - 1) * c.args.record_len < 2 ^ 56 in
    subst P (sym nodes) small
