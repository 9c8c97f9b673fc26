use Rattle.std.proofs.Common.{is_some, [], sym, ap}
use Rattle.oram_bucket.specs.declared.block.Block.{Block}
use Rattle.oram_stash.proofs.Order.{block_at-found, block_at-gap}
use Rattle.oram_stash.proofs.Stash.contains.Goals as goal

pub returns-in-Ok : goal.returns-in-Ok
returns-in-Ok c =
    let any : Block = record { address = 0; leaf = 0; content = [] } in
    sym (ap is_some (block_at-found c.args.self.now c.search.ensures.rising c.args.address _ any c.in-Ok.ensures.found))

pub returns-in-Err : goal.returns-in-Err
returns-in-Err c = sym (ap is_some (block_at-gap _ _ _ c.in-Err.ensures.absent))
