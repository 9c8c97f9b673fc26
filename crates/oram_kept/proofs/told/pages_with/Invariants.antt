use Rattle.oram_kept.proofs.ToldPages.{Covers}
use Rattle.oram_kept.proofs.told.pages_with.Given as goal

abbrev pub invariant-loop-index : goal.invariant-loop-index
invariant-loop-index l = Covers l.record_len l.count l.index-items l.index-index l.pages.items
