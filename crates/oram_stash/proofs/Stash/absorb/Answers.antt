use Rattle.std.proofs.Common.{refl, ◌≡◌, ap}
use Rattle.oram_bucket.specs.declared.block.Block.{Block}
use Rattle.oram_stash.proofs.Order.{block_at-found, block_at-gap, IsRising-absorbed, IsPermutation-absorbed}
use Rattle.oram_stash.proofs.Stash.absorb.Goals as goal

-- the address is there
pub returns-in_default-clause-duplicate : goal.returns-in_default-clause-duplicate
returns-in_default-clause-duplicate c =
    let e : c.block.inside.address ≡ c.args.block.address = ap (λ (b : Block). b.address) c.block.view_is in
    let found = block_at-found _ c.search.ensures.rising c.args.block.address _ c.args.block (rw e at c.in_default.ensures.found) in rw found (λ _. refl, λ _. refl)

-- memory was refused, so it is not
pub returns-in-Err-insert-clause-duplicate : goal.returns-in-Err-insert-clause-duplicate
returns-in-Err-insert-clause-duplicate c =
    let e : c.block.inside.address ≡ c.args.block.address = ap (λ (b : Block). b.address) c.block.view_is in
    let gap = block_at-gap _ c.args.block.address _ (rw e at c.in-Err.ensures.absent) in rw gap (λ e. cc, λ e. cc)

-- the block goes into its gap
pub returns-clause-rising : goal.returns-clause-rising
returns-clause-rising c =
    let e : c.block.inside.address ≡ c.args.block.address = ap (λ (b : Block). b.address) c.block.view_is in
    let gap = rw e at c.in-Err.ensures.absent in
    IsRising-absorbed _ _ _ c.args.block _ c.self.view_is gap c.search.ensures.rising c.in_default-insert.ensures.items

pub invariant_of-self-2 : goal.invariant_of-self-2
invariant_of-self-2 c = returns-clause-rising c

pub returns-clause-ok : goal.returns-clause-ok
returns-clause-ok c = rw c.in_default-insert.ensures.items (IsPermutation-absorbed _ _ _ _ c.self.view_is)

pub returns-clause-duplicate : goal.returns-clause-duplicate
returns-clause-duplicate c =
    let e : c.block.inside.address ≡ c.args.block.address = ap (λ (b : Block). b.address) c.block.view_is in
    let gap = block_at-gap _ c.args.block.address _ (rw e at c.in-Err.ensures.absent) in rw gap (λ e. cc, λ e. cc)
