use Rattle.std.proofs.Common.{◌≡◌, ◌*◌, ◌%◌, ◌^◌, arith, refl}
use Rattle.std.proofs.lemmas.Nat.{one_shl}
use Rattle.oram_host.specs.Path.{node_on}
use Rattle.oram_host.proofs.Nodes.{node_on-within}
use Rattle.oram_layout.proofs.shapes.Shape.node_at.Goals as goal

pub returns-clause-place : goal.returns-clause-place
unfolding node_on
returns-clause-place c =
    let nodes : (1 * 2 ^ c.args.level) % 2 ^ 32 ≡ 2 ^ c.args.level = one_shl c.args.level 32 (omega arith) in
    rw nodes refl

pub returns-clause-within : goal.returns-clause-within
unfolding node_on
returns-clause-within c =
    let nodes : (1 * 2 ^ c.args.level) % 2 ^ 32 ≡ 2 ^ c.args.level = one_shl c.args.level 32 (omega arith) in
    rw nodes (node_on-within c.args.self.now.depth c.args.leaf c.args.level c.requires.leaf c.requires.level)
