use Rattle.oram_kept.proofs.ToldPages.{HasAdded}
use Rattle.oram_kept.proofs.told.add_range.Given as goal

abbrev pub invariant-loop-page : goal.invariant-loop-page
invariant-loop-page l = HasAdded l.first l.fn.range.end l.page l.fn.pages.items l.pages.items
