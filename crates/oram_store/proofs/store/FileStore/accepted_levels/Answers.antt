use Rattle.std.proofs.Common.{ℕ, ◌<◌, subst, arith}
use Rattle.oram_store.proofs.Allowed.{levels_store_allowed}
use Rattle.oram_store.proofs.store.FileStore.accepted_levels.Goals as goal

pub returns-clause-allowed : goal.returns-clause-allowed
returns-clause-allowed g c =
    levels_store_allowed c.args.self.now.trees c.args.number c.args.first c.args.leaf c.args.records.now c.in_ok-tree.tree c.in_ok-tree.ensures.of c.in_ok-tree.ensures.not_fixed
    (subst (λ (n : ℕ). c.args.leaf < n) c.leaves.ensures c.if-leaf-leaves.false) (omega arith) (cc)
