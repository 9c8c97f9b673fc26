use Rattle.std.proofs.Common.{◌≡◌, Some, None, rules}
use Rattle.std.specs.Ordering.{nat_cmp}
use Rattle.std.specs.BTreeMap.{get}
use Rattle.oram_host.proofs.Swapped.{is_there_at, no_tree, not_stored}
use Rattle.oram_host.proofs.swaps.len_at.Goals as goal

pub returns-in_default : goal.returns-in_default
returns-in_default c =
    let none : get nat_cmp c.args.trees.now c.args.tree ≡ None = search rules in
    no_tree c.args.trees.now c.args.tree c.args.node c.requires none

pub returns-in-Some-record : goal.returns-in-Some-record
returns-in-Some-record c =
    let found : get nat_cmp c.args.trees.now c.args.tree ≡ Some c.in-Some.kept.now = search rules in
    is_there_at c.args.trees.now c.args.tree c.args.node c.in-Some.kept.now _ c.requires found c.in-Some-record.ensures.there c.in-Some-record.ensures.whole

pub returns-in-None : goal.returns-in-None
returns-in-None c =
    let found : get nat_cmp c.args.trees.now c.args.tree ≡ Some c.in-Some.kept.now = search rules in
    not_stored c.args.trees.now c.args.tree c.args.node c.in-Some.kept.now c.requires found c.in-None.ensures.there
