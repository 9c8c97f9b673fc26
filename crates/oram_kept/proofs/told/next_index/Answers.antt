use Rattle.oram_kept.proofs.ToldPages.{below_next}
use Rattle.oram_kept.proofs.told.next_index.Goals as goal

pub returns-in-Some-clause-above : goal.returns-in-Some-clause-above
returns-in-Some-clause-above c = below_next c.args.pages.now c.in-Some.last.now c.requires.rising c.in-Some.ensures.item.1
