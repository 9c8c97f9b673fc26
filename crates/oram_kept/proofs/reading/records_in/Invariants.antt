use Rattle.oram_kept.proofs.ReadPages.{AreMoved}
use Rattle.oram_kept.proofs.reading.records_in.Given as goal

abbrev pub invariant-loop-index : goal.invariant-loop-index
invariant-loop-index l = AreMoved l.fn.pages.items l.len l.index l.pages.items
