use Rattle.std.proofs.Common.{◌≤◌, ◌^◌, arith}
use Rattle.std.proofs.Math.Nat.{pow-le-pow_right}
use Rattle.std.proofs.lemmas.Nat.{pow-add, pow_pos}
use Rattle.oram_rows.proofs.known_records.node_count.Goals as goal

pub returns-clause-value : goal.returns-clause-value
returns-clause-value c =
    let most : 2 ^ c.args.depth ≤ 2 ^ 24 = pow-le-pow_right (omega arith) c.requires in
    omega (arith, pow-add 2 c.args.depth 1, most)

pub returns-clause-few : goal.returns-clause-few
returns-clause-few c =
    let most : 2 ^ c.args.depth ≤ 2 ^ 24 = pow-le-pow_right (omega arith) c.requires in
    omega (arith, most, pow_pos c.args.depth)
