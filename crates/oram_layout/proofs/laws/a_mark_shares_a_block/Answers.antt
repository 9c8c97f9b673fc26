use Rattle.oram_layout.proofs.Places.{mark_shares_block}
use Rattle.oram_layout.proofs.laws.a_mark_shares_a_block.Goals as goal

pub returns : goal.returns
returns c = mark_shares_block
