use Rattle.std.proofs.Common.{ltb, rules}
use Rattle.std.proofs.lemmas.Fn.{answers_by}
use Rattle.oram_bucket.specs.declared.block.Block.{Block}
use Rattle.oram_stash.proofs.Adjacent.{rising_if_adjacent}
use Rattle.oram_summary.proofs.stash.is_rising.Goals as goal

pub returns : goal.returns
returns c = rising_if_adjacent c.args.blocks.now c.is_sorted_by.result
    (c.is_sorted_by.ensures.cases (λ (b d : Block). ltb b.address d.address) (answers_by _ _ (λ _. Unit {0}) (λ f a r f' called _. (search rules, tt)) _ tt))
