use Rattle.std.proofs.Common.{◌≤◌, ◌^◌, arith}
use Rattle.std.proofs.Math.Nat.{pow-le-pow_right}
use Rattle.std.proofs.lemmas.Nat.{one_shl, pow_pos}
use Rattle.oram_rows.proofs.known_records.near_nodes.Goals as goal

pub returns-clause-few : goal.returns-clause-few
returns-clause-few c =
    let most : 2 ^ c.args.levels ≤ 2 ^ 24 = pow-le-pow_right (omega arith) c.requires in
    omega (arith, most, one_shl c.args.levels 32 (omega arith), pow_pos c.args.levels)
