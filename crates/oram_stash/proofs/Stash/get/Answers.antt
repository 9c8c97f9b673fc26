use Rattle.std.proofs.Common.{sym}
use Rattle.oram_stash.proofs.Order.{block_at-removed, block_at-gap}
use Rattle.oram_stash.proofs.Stash.get.Goals as goal

pub returns-in-Ok : goal.returns-in-Ok
returns-in-Ok c = block_at-removed _ _ _ _ _ c.self.view_is c.search.ensures.rising c.in-Ok.ensures.found c.index.ensures

pub returns-in-Err : goal.returns-in-Err
returns-in-Err c = sym (block_at-gap _ _ _ c.in-Err.ensures.absent)
