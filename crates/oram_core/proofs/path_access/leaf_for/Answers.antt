use Rattle.std.proofs.Common.{◌<◌, ◌==◌, ◌*◌, ◌-◌, ℕ, slice_index, ap, sym, ◌∙◌, arith}
use Rattle.std.proofs.lemmas.Bool.{cond-true, cond-false}
use borrow.Author.Tests.{eq-eqb, ne_eqb}
use Rattle.oram_geometry.specs.Sizes.{leaf_of}
use Rattle.oram_core.proofs.path_access.leaf_for.Goals as goal

pub returns-in-0-clause-value : goal.returns-in-0-clause-value
returns-in-0-clause-value c =
    let d = c.args.device.now in
    let words = c.args.words.now in
    c.leaf_of.ensures.value ∙ ap (λ (k : ℕ). leaf_of d c.args.tree (slice_index words (2 * k))) c.from.ensures
    ∙ sym (cond-true (c.args.map_entry == 0) (leaf_of d c.args.tree (slice_index words (2 * c.args.tree))) (c.args.map_entry - 1) (eq-eqb c.args.map_entry 0 c.in-0.is))

pub returns-in-0-clause-range : goal.returns-in-0-clause-range
returns-in-0-clause-range c = c.leaf_of.ensures.range

pub returns-in_default-clause-value : goal.returns-in_default-clause-value
returns-in_default-clause-value c =
    let d = c.args.device.now in
    let some : 0 < c.args.map_entry = omega arith in
    sym (cond-false (c.args.map_entry == 0) (leaf_of d c.args.tree (slice_index c.args.words.now (2 * c.args.tree))) (c.args.map_entry - 1) (ne_eqb c.args.map_entry 0 (λ none. omega (arith, some, none))))

pub returns-in_default-clause-range : goal.returns-in_default-clause-range
returns-in_default-clause-range c = omega arith
