use Rattle.std.proofs.Common.{All, sym, ap, ◌∙◌}
use mathlib.Core.Bool.{false≢true}
use Rattle.oram_bucket.specs.Bucket.{IsBlockOf}
use Rattle.oram_bucket.specs.Cell.{IsRising}
use Rattle.oram_tree.specs.Parts.{Parts}
use Rattle.oram_tree.proofs.Tree.from_parts.Goals as goal

-- a block can't be in this tree
pub returns-then-not-are_blocks-clause-fits : goal.returns-then-not-are_blocks-clause-fits
returns-then-not-are_blocks-clause-fits c = (
  λ no. absurd (false≢true no),
  λ fits.
      let stash_is = ap (λ (p : Parts). p.stash) c.parts.view_is in
      let all : All (IsBlockOf c.args.device.now c.args.tree) c.deref.result.now = rw (c.deref.ensures.value, stash_is) fits.blocks in
      sym c.if-not-are_blocks.true ∙ c.are_blocks.ensures.1 all,
)

-- the blocks' addresses don't rise
pub returns-in-None-clause-fits : goal.returns-in-None-clause-fits
returns-in-None-clause-fits c = (
  λ no. absurd (false≢true no),
  λ fits.
      let rising : IsRising c.parts.inside.stash.items = rw (ap (λ (p : Parts). p.stash) c.parts.view_is) fits.rising in
      c.in-None.ensures.rising.1 rising,
)
