use Rattle.std.proofs.Common.{◌≡◌, ◌^◌, ◌<◌, IfOk, ap, sym, ◌∙◌, subst, ◌≤◌, length}
use Rattle.oram_geometry.specs.Sizes.{depth_of, trees_of}
use Rattle.oram_hash.specs.Path.{Path}
use Rattle.oram_semantics.specs.Messages.{requested, message_place}
use Rattle.oram_core.specs.Core.{CoreValue, scheme_of, IsSound}
use Rattle.oram_core.proofs.Small.{requested_leaf}
use Rattle.oram_core.proofs.MethodEnds.{leaf_here}
use Rattle.oram_core.proofs.AnswerVerdicts.{lends, path_same, checked_as, lent_within}
use Rattle.oram_core.proofs.Sound.{has_oldest}
use Rattle.oram_core.proofs.machine.Core.checked.Goals as goal

pub check-requires-clause-leaf : goal.check-requires-clause-leaf
check-requires-clause-leaf g c =
    let now = c.args.self.now in
    let v = scheme_of g.S.Sealer.cipher now in
    let h = lends g.S.Sealer.cipher _ now c.index.result.now c.from.result c.tree_at_work-tree.result c.self.view_is c.self.invariant c.requires c.from.ensures c.tree_at_work-tree.ensures.value c.index.ensures in
    let leaf_is : c.leaf_named-leaf.result ≡ (requested now.state.message).leaf = c.leaf_named-leaf.ensures ∙ ap message_place (c.as_slice.ensures ∙ ap (λ (u : CoreValue g.row.S.Denot). u.state.message) c.self.view_is) ∙ requested_leaf _ in
    subst (λ (u : CoreValue g.row.S.Denot). c.leaf_named-leaf.result < 2 ^ depth_of u.device c.index.result.now.number) (sym c.self.view_is) (rw (leaf_is, h.at.number) (leaf_here v.device v.cipher.overhead now.state h.sound c.requires))

pub returns-clause-checked : goal.returns-clause-checked
returns-clause-checked g c =
    let now = c.args.self.now in
    let v = scheme_of g.S.Sealer.cipher now in
    let h = lends g.S.Sealer.cipher _ now c.index.result.now c.from.result c.tree_at_work-tree.result c.self.view_is c.self.invariant c.requires c.from.ensures c.tree_at_work-tree.ensures.value c.index.ensures in
    let leaf_is : c.leaf_named-leaf.result ≡ (requested now.state.message).leaf = c.leaf_named-leaf.ensures ∙ ap message_place (c.as_slice.ensures ∙ ap (λ (u : CoreValue g.row.S.Denot). u.state.message) c.self.view_is) ∙ requested_leaf _ in
    let device_is : c.self.inside.device ≡ now.device = ap (λ (u : CoreValue g.row.S.Denot). u.device) c.self.view_is in
    let overhead_is : c.overhead-overhead.result ≡ v.cipher.overhead = c.overhead-overhead.ensures ∙ ap (λ (u : CoreValue g.row.S.Denot). (g.S.Sealer.cipher u.sealer).overhead) c.self.view_is in
    checked_as v now.state c.index.result.now.number c.leaf_named-leaf.result c.overhead-overhead.result c.self.inside.device c.index.result.now c.args.records.now c.check.result device_is h.at.number leaf_is overhead_is h.at.is c.check.ensures.accepted c.check.ensures.length c.check.ensures.tampered c.check.ensures.judged

pub returns-clause-view : goal.returns-clause-view
returns-clause-view g c =
    let now = c.args.self.now in
    let v = scheme_of g.S.Sealer.cipher now in
    let h = lends g.S.Sealer.cipher _ now c.index.result.now c.from.result c.tree_at_work-tree.result c.self.view_is c.self.invariant c.requires c.from.ensures c.tree_at_work-tree.ensures.value c.index.ensures in
    let leaf_is : c.leaf_named-leaf.result ≡ (requested now.state.message).leaf = c.leaf_named-leaf.ensures ∙ ap message_place (c.as_slice.ensures ∙ ap (λ (u : CoreValue g.row.S.Denot). u.state.message) c.self.view_is) ∙ requested_leaf _ in
    let device_is : c.self.inside.device ≡ now.device = ap (λ (u : CoreValue g.row.S.Denot). u.device) c.self.view_is in
    let overhead_is : c.overhead-overhead.result ≡ v.cipher.overhead = c.overhead-overhead.ensures ∙ ap (λ (u : CoreValue g.row.S.Denot). (g.S.Sealer.cipher u.sealer).overhead) c.self.view_is in
    subst (λ (p : Path). IfOk c.check.result (λ q. q ≡ p)) (path_same v now.state c.index.result.now.number c.leaf_named-leaf.result c.overhead-overhead.result c.self.inside.device c.args.records.now device_is h.at.number leaf_is overhead_is) c.check.ensures.view

pub leaf_named-leaf-requires : goal.leaf_named-leaf-requires
leaf_named-leaf-requires g c =
    let now = c.args.self.now in
    let sound = subst (λ (u : CoreValue g.row.S.Denot). IsSound u.device (g.S.Sealer.cipher u.sealer).overhead u.state) c.self.view_is c.self.invariant in
    rw c.as_slice.ensures (subst (λ (u : CoreValue g.row.S.Denot). 6 ≤ length u.state.message) (sym c.self.view_is) (has_oldest now.device (g.S.Sealer.cipher now.sealer).overhead now.state sound c.requires).work.header)

pub check-requires-clause-overhead : goal.check-requires-clause-overhead
check-requires-clause-overhead g c = rw c.overhead-overhead.ensures c.self.invariant.small

pub returns-clause-sound : goal.returns-clause-sound
returns-clause-sound g c = subst (λ (u : CoreValue g.row.S.Denot). IsSound u.device (g.S.Sealer.cipher u.sealer).overhead u.state) c.self.view_is c.self.invariant

pub index-requires : goal.index-requires
index-requires g c = lent_within g.S.Sealer.cipher _ c.args.self.now c.from.result c.tree_at_work-tree.result _ c.self.view_is c.self.invariant c.requires c.from.ensures c.tree_at_work-tree.ensures.range c.self.inside.trees.ok.0

pub check-requires-clause-number : goal.check-requires-clause-number
check-requires-clause-number g c =
    let now = c.args.self.now in
    let h = lends g.S.Sealer.cipher _ now c.index.result.now c.from.result c.tree_at_work-tree.result c.self.view_is c.self.invariant c.requires c.from.ensures c.tree_at_work-tree.ensures.value c.index.ensures in
    subst (λ (u : CoreValue g.row.S.Denot). c.index.result.now.number < trees_of u.device) (sym c.self.view_is) (rw h.number c.tree_at_work-tree.ensures.range)
