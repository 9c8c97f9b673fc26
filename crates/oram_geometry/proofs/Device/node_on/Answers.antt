use Rattle.std.proofs.Common.{◌≡◌, ◌*◌, ◌%◌, ◌^◌, arith, refl}
use Rattle.std.proofs.lemmas.Nat.{one_shl, pow_pos}
use Rattle.oram_geometry.specs.Path.{node_on}
use Rattle.oram_geometry.proofs.Device.node_on.Goals as goal

pub overflow_sub-result : goal.overflow_sub-result
overflow_sub-result c = omega (arith, one_shl c.args.level 32 (omega arith), pow_pos c.args.level)

pub returns-clause-value : goal.returns-clause-value
unfolding node_on
returns-clause-value c =
    let nodes : (1 * 2 ^ c.args.level) % 2 ^ 32 ≡ 2 ^ c.args.level = one_shl c.args.level 32 (omega arith) in
    rw (nodes, c.depth-depth.ensures.count) refl
