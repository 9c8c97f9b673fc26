use Rattle.std.proofs.Common.{◌++◌, List, Bor, map, not, eqb, sym, subst, rules}
use Rattle.std.specs.List.{filter}
use Rattle.std.specs.List.Sorted.{IsPermutation}
use Rattle.std.proofs.lemmas.List.Sorted.{IsPermutation-map, IsNonDecreasingBy-from_sort_by_key}
use Rattle.oram_bucket.specs.declared.block.Block.{Block}
use Rattle.oram_stash.proofs.SortedBlocks.{AreApart}
use Rattle.oram_stash.proofs.StayingBlocks.{sorted_rises, waiting_apart, waiting_are}
use Rattle.oram_stash.proofs.Stash.waiting.Goals as goal

pub returns-clause-rising : goal.returns-clause-rising
returns-clause-rising c =
    let lent : List Block = filter (λ (b : Block). not (eqb b.address c.args.address)) c.args.self.now ++ c.args.other.now in
    sorted_rises (λ (b : Bor Block). b.now) c.in_ok-blocks.blocks.items c.sort_unstable_by_key.new.self.items c.sort_unstable_by_key.ensures.permutation
    (subst AreApart (sym c.in_ok-blocks.ensures.lent) (waiting_apart c.args.self.now c.args.other.now c.args.address c.lend.ensures.rising c.lend.ensures.other_rising c.requires.apart))
    (IsNonDecreasingBy-from_sort_by_key (λ (b : Bor Block). b.now.address) c.sort_unstable_by_key.new.self.items c.sort_unstable_by_key.ensures.sorted (λ a r f called. search rules))

pub returns-clause-waits : goal.returns-clause-waits
returns-clause-waits c =
    let P : List Block → Type 0 = λ xs. IsPermutation xs (map (λ (b : Bor Block). b.now) c.sort_unstable_by_key.new.self.items) in
    waiting_are c.args.self.now c.args.other.now _ c.args.address (subst P c.in_ok-blocks.ensures.lent (IsPermutation-map (λ (b : Bor Block). b.now) _ _ c.sort_unstable_by_key.ensures.permutation))
