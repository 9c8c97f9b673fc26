use Rattle.oram_layout.proofs.Changes.{loose_kept, off_stays, unmarked_off}
use Rattle.oram_layout.proofs.laws.loose_patches.Goals as goal

pub returns-clause-kept : goal.returns-clause-kept
returns-clause-kept c = loose_kept

pub returns-clause-off : goal.returns-clause-off
returns-clause-off c = unmarked_off

pub returns-clause-more : goal.returns-clause-more
returns-clause-more c = off_stays
