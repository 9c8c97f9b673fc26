use Rattle.oram_rounds.specs.Batches.{texts}
use Rattle.oram_export.proofs.WholeTrees.{HasReadAhead}
use Rattle.oram_export.proofs.tree_reading.read_tree.Given as goal

abbrev pub invariant-loop-index : goal.invariant-loop-index
invariant-loop-index g l = HasReadAhead g.B.BatchLink.batches g.B.PipelinedLink.asks (g.V.RecordVisitor.sees l.visitor) l.tree l.fn.link l.fn.target l.index l.progress (texts l.bodies.items) l.link l.target
