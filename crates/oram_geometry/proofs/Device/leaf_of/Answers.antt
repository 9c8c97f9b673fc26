use Rattle.std.proofs.Common.{◌≡◌, ◌^◌, ◌*◌, ◌%◌, ◌<◌, ◌≤◌, arith}
use Rattle.std.proofs.lemmas.Nat.{one_shl, pow_pos}
use Rattle.std.proofs.Math.Nat.{pow-le-pow_right, mod-lt}
use Rattle.oram_geometry.proofs.Device.leaf_of.Goals as goal

pub returns-clause-small : goal.returns-clause-small
returns-clause-small c =
    let depth = c.depth.result in
    let leaves : 1 * 2 ^ depth % 2 ^ 64 ≡ 2 ^ depth = one_shl depth 64 (omega (arith, c.depth.ensures.range)) in
    let most : 2 ^ depth ≤ 2 ^ 24 = pow-le-pow_right (omega arith) c.depth.ensures.range in
    rw leaves (let below : c.args.word % 2 ^ depth < 2 ^ depth = mod-lt c.args.word (pow_pos depth) in omega arith)
