use Rattle.std.proofs.Common.{All, List, sym, subst, arith}
use Rattle.oram_bucket.specs.Cell.{IsRising}
use Rattle.oram_tree.specs.declared.parts.TreeParts.{TreeParts}
use Rattle.std.proofs.lemmas.Result.{IfOk-from_err}
use Rattle.oram_core.proofs.parts.trees_parts.Goals as goal

pub returns-in_err-parts-clause-same : goal.returns-in_err-parts-clause-same
returns-in_err-parts-clause-same c = IfOk-from_err c.from_residual.result _ c.from_residual.ensures.0

pub returns-in_err-parts-clause-rising : goal.returns-in_err-parts-clause-rising
returns-in_err-parts-clause-rising c = IfOk-from_err c.from_residual.result _ c.from_residual.ensures.0

pub returns-in_err-parts-2-clause-same : goal.returns-in_err-parts-2-clause-same
returns-in_err-parts-2-clause-same c = IfOk-from_err c.from_residual-in_err-parts-2.result _ c.from_residual-in_err-parts-2.ensures.0

pub returns-in_err-parts-2-clause-rising : goal.returns-in_err-parts-2-clause-rising
returns-in_err-parts-2-clause-rising c = IfOk-from_err c.from_residual-in_err-parts-2.result _ c.from_residual-in_err-parts-2.ensures.0

pub returns-in_err-push-clause-same : goal.returns-in_err-push-clause-same
returns-in_err-push-clause-same c = IfOk-from_err c.from_residual-in_err-push.result _ c.from_residual-in_err-push.ensures.0

pub returns-in_err-push-clause-rising : goal.returns-in_err-push-clause-rising
returns-in_err-push-clause-rising c = IfOk-from_err c.from_residual-in_err-push.result _ c.from_residual-in_err-push.ensures.0

pub returns-clause-rising : goal.returns-clause-rising
returns-clause-rising c = c.loop-tree.invariant.rising

pub loop-tree-init : goal.loop-tree-init
loop-tree-init c = record { filled = c.in_ok-parts.ensures.items; rising = subst (λ (xs : List TreeParts). All (λ t. IsRising t.stash) xs) (sym c.in_ok-parts.ensures.items) (λ k d h. absurd (omega (arith, h))) }
