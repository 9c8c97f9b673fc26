use Rattle.std.proofs.Common.{◌∙◌, All, List, ap, map, subst}
use Rattle.oram_bucket.specs.Cell.{IsRising}
use Rattle.oram_tree.specs.Parts.{Parts as TreeParts, parts_of as tree_parts}
use Rattle.oram_core.specs.Core.{CoreValue, IsSound}
use Rattle.oram_core.proofs.Again.{again_if, right_if, whole_if}
use Rattle.oram_core.proofs.machine.Core.parts_without_table.Goals as goal

pub returns-clause-right : goal.returns-clause-right
returns-clause-right g c =
    let now = c.args.self.now in
    let sound = subst (λ (u : CoreValue g.row.S.Denot). IsSound u.device (g.S.Sealer.cipher u.sealer).overhead u.state) c.self.view_is c.self.invariant in
    let same = c.in_ok-trees.ensures.same ∙ ap (λ ts. map tree_parts ts) (c.deref.ensures.value ∙ ap (λ (u : CoreValue g.row.S.Denot). u.state.trees) c.self.view_is) in
    right_if now.device (g.S.Sealer.cipher now.sealer).overhead now.state (λ p. record p { table = now.state.table }) c.parts_beside.result sound (subst (λ (ts : List TreeParts). All (λ t. IsRising t.stash) ts) same c.in_ok-trees.ensures.rising)
    (whole_if now.device now.state (λ p. p) c.parts_beside.result c.parts_beside.ensures)

pub returns-clause-again : goal.returns-clause-again
returns-clause-again g c =
    let now = c.args.self.now in
    let sound = subst (λ (u : CoreValue g.row.S.Denot). IsSound u.device (g.S.Sealer.cipher u.sealer).overhead u.state) c.self.view_is c.self.invariant in
    again_if now.device (g.S.Sealer.cipher now.sealer).overhead now.state (λ p. record p { table = now.state.table }) c.parts_beside.result sound
    (whole_if now.device now.state (λ p. p) c.parts_beside.result c.parts_beside.ensures)
