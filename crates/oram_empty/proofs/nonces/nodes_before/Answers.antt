use Rattle.std.proofs.Common.{ℕ, ap, ◌-◌, ◌∙◌}
use Rattle.oram_tree.specs.Content.{node_count}
use Rattle.oram_empty.proofs.Counts.{before-left, before-right}
use Rattle.oram_empty.proofs.nonces.nodes_before.Goals as goal

pub returns-then-node_on-eq1-clause-value : goal.returns-then-node_on-eq1-clause-value
returns-then-node_on-eq1-clause-value c = before-left c.node_on.result _ _ c.node_on.ensures.value c.if-node_on-eq1.true

pub returns-clause-value : goal.returns-clause-value
returns-clause-value c = before-right c.node_on.result _ _ _ c.node_on.ensures.value c.if-node_on-eq1.false (c.node_count.ensures.value ∙ ap (λ (h : ℕ). node_count (h - c.args.level)) c.depth.ensures.count)
