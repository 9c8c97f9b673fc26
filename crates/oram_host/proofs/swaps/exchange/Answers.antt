use Rattle.std.proofs.Common.{◌≡◌, ◌∙◌, ℕ, List, IsSome, Option, Some, None, subst, rules}
use Rattle.std.specs.Ordering.{nat_cmp}
use Rattle.std.specs.BTreeMap.{WritesThrough, get}
use Rattle.oram_host.proofs.Hosts.{trees_written}
use Rattle.oram_host.proofs.Swapped.{exchanged, no_slot, shape_in-found, slot_at-found}
use Rattle.oram_host.proofs.swaps.exchange.Goals as goal

pub exchange-requires-clause-there : goal.exchange-requires-clause-there
exchange-requires-clause-there c =
    let found : get nat_cmp c.args.trees.now c.args.tree ≡ Some c.in-Some.kept.now = search rules in
    let P : Option (List ℕ) → Type 0 = λ o. IsSome o in
    subst P (slot_at-found c.args.trees.now c.args.tree c.args.node c.in-Some.kept.now found) c.requires.there

pub exchange-requires-clause-fits : goal.exchange-requires-clause-fits
exchange-requires-clause-fits c =
    let found : get nat_cmp c.args.trees.now c.args.tree ≡ Some c.in-Some.kept.now = search rules in
    c.requires.fits (c.in-Some.kept.now.depth, c.in-Some.kept.now.record_len) (shape_in-found c.args.trees.now c.args.tree c.in-Some.kept.now found)

pub unreachable-requires : goal.unreachable-requires
unreachable-requires c =
    let none : get nat_cmp c.args.trees.now c.args.tree ≡ None = search rules in
    no_slot c.args.trees.now c.args.tree c.args.node c.requires.there none

pub returns-clause-trees : goal.returns-clause-trees
returns-clause-trees c =
    let changed = c.exchange.new.self in
    let written : WritesThrough nat_cmp (nat_cmp c.args.tree) c.args.trees.now changed (c.get_mut.follows.lender changed) = c.get_mut.follows.holds changed in
    trees_written c.args.trees.now (c.get_mut.follows.lender changed) c.args.tree changed c.requires.trees written c.exchange.ensures.tree

pub returns-clause-taken : goal.returns-clause-taken
returns-clause-taken c =
    let found : get nat_cmp c.args.trees.now c.args.tree ≡ Some c.in-Some.kept.now = search rules in
    slot_at-found c.args.trees.now c.args.tree c.args.node c.in-Some.kept.now found ∙ c.exchange.ensures.taken

pub returns-clause-given : goal.returns-clause-given
returns-clause-given c =
    let found : get nat_cmp c.args.trees.now c.args.tree ≡ Some c.in-Some.kept.now = search rules in
    let changed = c.exchange.new.self in
    let written : WritesThrough nat_cmp (nat_cmp c.args.tree) c.args.trees.now changed (c.get_mut.follows.lender changed) = c.get_mut.follows.holds changed in
    exchanged c.args.trees.now (c.get_mut.follows.lender changed) c.args.tree c.args.node c.in-Some.kept.now changed c.args.bytes.now found written
    c.exchange.ensures.given c.exchange.ensures.depth c.exchange.ensures.record_len
