use Rattle.std.proofs.Common.{ℕ, ◌<◌, subst}
use Rattle.oram_store.proofs.Allowed.{put_allowed}
use Rattle.oram_store.proofs.store.FileStore.accepted_put.Goals as goal

pub returns-clause-allowed : goal.returns-clause-allowed
returns-clause-allowed g c =
    put_allowed c.args.self.now.trees c.args.number c.args.node c.args.bytes.now c.in_ok-tree.tree c.in_ok-tree.ensures.of c.in_ok-tree.ensures.not_fixed
    (subst (λ (n : ℕ). c.args.node < n) c.nodes.ensures c.if-node-nodes.false) c.if-bytes-tree.false
