use Rattle.std.proofs.Common.{◌≡◌, ◌+◌, ◌^◌, ◌<◌, ◌==◌, if◌then◌else◌, slice_set, arith, sym, subst, ap, ◌∙◌}
use Rattle.oram_geometry.specs.Sizes.{depth_of}
use Rattle.oram_core.specs.Core.{CoreValue, IsNotedSince, IsSound, scheme_of}
use Rattle.oram_semantics.proofs.Bounds.{depth_small}
use Rattle.oram_core.proofs.LocalRule.{waits}
use Rattle.oram_core.proofs.Small.{leaf_fits}
use Rattle.oram_core.proofs.Sound.{nonce_low}
use Rattle.oram_core.proofs.MethodEnds.{commit_sound}
use Rattle.oram_core.proofs.machine.Core.commit.Goals as goal

pub set_map_entry-requires-clause-leaf : goal.set_map_entry-requires-clause-leaf
set_map_entry-requires-clause-leaf g c = leaf_fits c.args.self.now.device c.args.path_access.tree c.args.path_access.new_leaf c.requires.leaf

pub overflow_add-self-2 : goal.overflow_add-self-2
overflow_add-self-2 g c =
    let now = c.args.self.now in
    let v = scheme_of g.S.Sealer.cipher now in
    let sound : IsSound v.device v.cipher.overhead now.state = subst (λ (u : CoreValue g.row.S.Denot). IsSound u.device (g.S.Sealer.cipher u.sealer).overhead u.state) c.self.view_is c.self.invariant in
    let low = subst (λ (u : CoreValue g.row.S.Denot). u.state.nonce < 2 ^ 62) (sym c.self.view_is) (nonce_low v.device v.cipher.overhead now.state sound (waits now.state c.requires.waiting).healthy) in
    let deep = depth_small c.self.inside.device c.args.path_access.tree in
    omega (arith, low, deep, c.from.ensures, c.depth.ensures.count)

pub invariant_of-self : goal.invariant_of-self
invariant_of-self g c =
    let now = c.args.self.now in
    let v = scheme_of g.S.Sealer.cipher now in
    let sound : IsSound v.device v.cipher.overhead now.state = subst (λ (u : CoreValue g.row.S.Denot). IsSound u.device (g.S.Sealer.cipher u.sealer).overhead u.state) c.self.view_is c.self.invariant in
    let table : c.set_map_entry.new.table.items ≡ (if now.state.entry_number == 0 then slice_set now.state.table c.args.path_access.block (c.args.path_access.new_leaf + 1) else now.state.table) =
    subst (λ (u : CoreValue g.row.S.Denot). c.set_map_entry.new.table.items ≡ (if u.state.entry_number == 0 then slice_set u.state.table c.args.path_access.block (c.args.path_access.new_leaf + 1) else u.state.table)) c.self.view_is c.set_map_entry.ensures.set in
    let deep : now.state.nonce + (c.from.result + 1) ≡ now.state.nonce + (depth_of now.device c.args.path_access.tree + 1) =
    ap (λ k. now.state.nonce + (k + 1)) (c.from.ensures ∙ c.depth.ensures.count ∙ ap (λ (u : CoreValue g.row.S.Denot). depth_of u.device c.args.path_access.tree) c.self.view_is) in
    subst (λ (u : CoreValue g.row.S.Denot). IsSound u.device (g.S.Sealer.cipher u.sealer).overhead (record u.state { table = c.set_map_entry.new.table.items; nonce = u.state.nonce + (c.from.result + 1); entry_number = u.state.entry_number + 1; held_entry = c.args.map_entry; held_data = c.kept_for_reply.result; message = c.args.sending.kept })) (sym c.self.view_is)
    (commit_sound v.device v.cipher.overhead now.state c.args.path_access.tree c.args.path_access.block c.args.path_access.new_leaf c.args.map_entry (now.state.nonce + (c.from.result + 1)) c.args.before.items c.set_map_entry.new.table.items c.kept_for_reply.result c.args.sending.kept sound c.requires.waiting c.requires.entry_number c.requires.tree c.requires.whole c.requires.sending.0 c.requires.oldest c.requires.map_entry table deep c.kept_for_reply.ensures)

pub returns-clause-noted : goal.returns-clause-noted
returns-clause-noted g c = λ table noted.
    c.set_map_entry.ensures.noted table (subst (λ (u : CoreValue g.row.S.Denot). IsNotedSince table u) (sym c.self.view_is) noted)
