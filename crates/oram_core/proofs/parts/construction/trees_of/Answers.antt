use Rattle.std.proofs.Common.{arith, ◌≡◌, true, false, Ok, Err}
use Rattle.std.proofs.lemmas.Result.{IfOk-from_err}
use Rattle.oram_core.proofs.Fits.{memory_apart}
use Rattle.oram_core.proofs.Heard.{no_ok}
use Rattle.oram_tree.specs.declared.faults.PartsFault.{PartsFault}
use Rattle.oram_core.proofs.parts.construction.trees_of.Goals as goal

pub overflow_add-number : goal.overflow_add-number
overflow_add-number c = omega (arith, c.loop-parts.invariant.few, c.trees.ensures.few, c.trees.ensures.count)

pub returns-in_err-trees-clause-made : goal.returns-in_err-trees-clause-made
returns-in_err-trees-clause-made c = IfOk-from_err c.from_residual.result _ c.from_residual.ensures.0

pub returns-in_err-trees-clause-fits : goal.returns-in_err-trees-clause-fits
returns-in_err-trees-clause-fits c = no_ok _ c.from_residual.result c.from_residual.ensures.0

pub returns-in_err-tree-clause-made : goal.returns-in_err-tree-clause-made
returns-in_err-tree-clause-made c = IfOk-from_err c.from_residual-in_err-tree.result _ c.from_residual-in_err-tree.ensures.0

pub returns-in_err-tree-clause-fits : goal.returns-in_err-tree-clause-fits
returns-in_err-tree-clause-fits c = no_ok _ c.from_residual-in_err-tree.result c.from_residual-in_err-tree.ensures.0

pub returns-in-Err-clause-fits : goal.returns-in-Err-clause-fits
returns-in-Err-clause-fits c = λ ok. absurd (let no_way : false ≡ true = ok in cc)

pub returns-in_err-trees-clause-ranges : goal.returns-in_err-trees-clause-ranges
returns-in_err-trees-clause-ranges c = c.trees.ensures.ranges

pub returns-in_err-tree-clause-ranges : goal.returns-in_err-tree-clause-ranges
returns-in_err-tree-clause-ranges c = c.trees.ensures.ranges

pub returns-in-Err-clause-ranges : goal.returns-in-Err-clause-ranges
returns-in-Err-clause-ranges c = c.trees.ensures.ranges

pub returns-clause-ranges : goal.returns-clause-ranges
returns-clause-ranges c = c.trees.ensures.ranges

pub returns-clause-content : goal.returns-clause-content
returns-clause-content c = λ err. absurd (let no_way : Ok c.loop-parts.trees ≡ Err PartsFault.Content = err in cc)

pub returns-in-Err-clause-made : goal.returns-in-Err-clause-made
returns-in-Err-clause-made c = tt

pub returns-in_err-trees-clause-content : goal.returns-in_err-trees-clause-content
returns-in_err-trees-clause-content c = λ same are. memory_apart c.from_residual.result c.from_residual.ensures.1 same
