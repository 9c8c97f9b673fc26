use Rattle.std.proofs.Common.{◌≡◌, sym, ◌∙◌, subst}
use Rattle.std.proofs.lemmas.Bool.{false≢true}
use Rattle.oram_layout.specs.Trees.{AreApart}
use Rattle.oram_layout.proofs.TreeEntries.{trees_one}
use Rattle.oram_layout.proofs.entries.read_trees.Goals as goal

pub returns-then-not-are_apart-clause-damaged : goal.returns-then-not-are_apart-clause-damaged
returns-then-not-are_apart-clause-damaged c is trees content has its apart =
    let found = c.in_ok-trees.trees.items in
    let same : trees ≡ found = trees_one trees found content its (c.in_ok-trees.ensures.trees content has) in
    false≢true (sym c.if-not-are_apart.true ∙ c.are_apart.ensures.1 (subst AreApart (same ∙ sym c.deref.ensures.value) apart))
