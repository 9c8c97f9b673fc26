use Rattle.std.proofs.Common.{◌≡◌, ◌∙◌, sym, subst, ℕ, List, Some, None, rules}
use Rattle.std.specs.Ordering.{nat_cmp}
use Rattle.std.specs.BTreeMap.{WritesThrough, get}
use Rattle.oram_host.specs.declared.trees.Tree.{Tree}
use Rattle.oram_host.proofs.Overwritten.{overwritten, there_in_map, whole_in_map}
use Rattle.oram_host.proofs.trees.Tree.overwrite.Goals as goal

pub copy_from_slice-requires : goal.copy_from_slice-requires
copy_from_slice-requires c =
    let tree : Tree = c.args.self.now in
    let there : get nat_cmp tree.records c.args.node ≡ Some c.in-Some.record.now = search rules in
    c.requires.whole ∙ sym (whole_in_map tree c.args.node c.in-Some.record.now c.requires.tree c.requires.there there)

pub unreachable-requires : goal.unreachable-requires
unreachable-requires c =
    let tree : Tree = c.args.self.now in
    let none : get nat_cmp tree.records c.args.node ≡ None = search rules in
    there_in_map tree c.args.node c.requires.tree c.requires.there none

pub returns-clause-tree : goal.returns-clause-tree
returns-clause-tree c =
    let tree : Tree = c.args.self.now in
    let there : get nat_cmp tree.records c.args.node ≡ Some c.in-Some.record.now = search rules in
    let new = c.get_mut.follows.lender c.copy_from_slice.new.self in
    let W : List ℕ → Type 0 = λ xs. WritesThrough nat_cmp (nat_cmp c.args.node) tree.records xs new in
    let written : WritesThrough nat_cmp (nat_cmp c.args.node) tree.records c.copy_from_slice.new.self new = c.get_mut.follows.holds c.copy_from_slice.new.self in
    (overwritten tree new c.args.node c.in-Some.record.now c.args.bytes.now c.requires.tree c.requires.there there c.requires.whole (subst W c.copy_from_slice.ensures written)).0

pub returns-clause-put : goal.returns-clause-put
returns-clause-put c =
    let tree : Tree = c.args.self.now in
    let there : get nat_cmp tree.records c.args.node ≡ Some c.in-Some.record.now = search rules in
    let new = c.get_mut.follows.lender c.copy_from_slice.new.self in
    let W : List ℕ → Type 0 = λ xs. WritesThrough nat_cmp (nat_cmp c.args.node) tree.records xs new in
    let written : WritesThrough nat_cmp (nat_cmp c.args.node) tree.records c.copy_from_slice.new.self new = c.get_mut.follows.holds c.copy_from_slice.new.self in
    (overwritten tree new c.args.node c.in-Some.record.now c.args.bytes.now c.requires.tree c.requires.there there c.requires.whole (subst W c.copy_from_slice.ensures written)).1
