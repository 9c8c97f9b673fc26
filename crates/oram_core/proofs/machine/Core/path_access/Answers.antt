use Rattle.std.proofs.Common.{◌≡◌, ◌^◌, ◌<◌, ap, sym, ◌∙◌, subst}
use Rattle.oram_geometry.specs.Sizes.{depth_of, blocks_in}
use Rattle.oram_semantics.specs.Content.{entry_tree}
use Rattle.oram_semantics.specs.Messages.{requested, message_place}
use Rattle.oram_semantics.specs.Progress.Status.{Waiting}
use Rattle.oram_semantics.specs.State.{status_in}
use Rattle.oram_core.specs.Core.{CoreValue}
use Rattle.oram_core.proofs.Small.{requested_leaf}
use Rattle.oram_core.proofs.MethodEnds.{leaf_here}
use Rattle.oram_core.proofs.machine.Core.path_access.Goals as goal

pub returns-clause-leaf : goal.returns-clause-leaf
returns-clause-leaf g c =
    c.leaf_named.ensures ∙ ap message_place (c.as_slice.ensures ∙ ap (λ (v : CoreValue g.row.S.Denot). v.state.message) c.self.view_is) ∙ requested_leaf _

pub returns-clause-ranges : goal.returns-clause-ranges
returns-clause-ranges g c =
    let tree = c.tree_at_work-tree.result in
    let leaf_is : c.leaf_named.result ≡ (requested c.args.self.now.state.message).leaf = c.leaf_named.ensures ∙ ap message_place (c.as_slice.ensures ∙ ap (λ (v : CoreValue g.row.S.Denot). v.state.message) c.self.view_is) ∙ requested_leaf _ in
    let block = subst (λ (v : CoreValue g.row.S.Denot). c.address_in.result < blocks_in v.device tree) c.self.view_is c.address_in.ensures.range in
    let new = subst (λ (v : CoreValue g.row.S.Denot). c.new_leaf.result < 2 ^ depth_of v.device tree) c.self.view_is c.new_leaf.ensures.range in
    let waits = subst (λ (v : CoreValue g.row.S.Denot). status_in v.state ≡ Waiting) (sym c.self.view_is) c.requires in
    let leaf = subst (λ (v : CoreValue g.row.S.Denot). (requested v.state.message).leaf < 2 ^ depth_of v.device (entry_tree v.device v.state.entry_number)) c.self.view_is (leaf_here _ _ _ c.self.invariant waits) in
    (c.tree_at_work-tree.ensures.range, block, rw (leaf_is, c.tree_at_work-tree.ensures.value) leaf, new)
