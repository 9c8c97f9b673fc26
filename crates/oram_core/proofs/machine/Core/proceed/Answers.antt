use Rattle.std.proofs.Common.{◌≡◌, ◌≢◌, ◌+◌, ◌*◌, ◌<◌, ap, sym, ◌∙◌, subst, arith, refl}
use Rattle.oram_geometry.specs.Sizes.{trees_of}
use Rattle.oram_core.specs.Core.{CoreValue, IsSound, scheme_of}
use Rattle.oram_core.proofs.Sound.{stage_within}
use Rattle.oram_core.specs.PlainSteps.{Done}
use Rattle.oram_core.proofs.LocalRule.{Waits, waits, finish_moves, fetch_moves}
use Rattle.oram_core.proofs.Heard.{if_ok, finish_heard, fetch_heard}
use Rattle.oram_core.proofs.machine.Core.proceed.Goals as goal

pub returns-then-from-clause-moves : goal.returns-then-from-clause-moves
returns-then-from-clause-moves g c = λ w fits.
    let now = c.args.self.now in
    let v = scheme_of g.S.Sealer.cipher now in
    let end : now.state.entry_number + 1 ≡ 2 * trees_of now.device = subst (λ (u : CoreValue g.row.S.Denot). u.state.entry_number + 1 ≡ 2 * trees_of u.device) c.self.view_is (ap (λ k. k + 1) (sym c.from.ensures) ∙ c.if-from.true ∙ ap (λ k. 2 * k) (c.from-2.ensures ∙ c.trees.ensures.count)) in
    finish_moves v now.state c.finish.result c.finish.new.self.state c.requires.waiting c.requires.entry_number end c.finish.ensures.ok w fits

pub returns-then-from-clause-heard : goal.returns-then-from-clause-heard
returns-then-from-clause-heard g c =
    let now = c.args.self.now in
    let v = scheme_of g.S.Sealer.cipher now in
    let sound : IsSound v.device v.cipher.overhead now.state = subst (λ (u : CoreValue g.row.S.Denot). IsSound u.device (g.S.Sealer.cipher u.sealer).overhead u.state) c.self.view_is c.self.invariant in
    let end : now.state.entry_number + 1 ≡ 2 * trees_of now.device = subst (λ (u : CoreValue g.row.S.Denot). u.state.entry_number + 1 ≡ 2 * trees_of u.device) c.self.view_is (ap (λ k. k + 1) (sym c.from.ensures) ∙ c.if-from.true ∙ ap (λ k. 2 * k) (c.from-2.ensures ∙ c.trees.ensures.count)) in
    finish_heard v now.state c.finish.result c.finish.new.self.state sound c.requires.waiting end c.finish.ensures.ok

pub returns-else-from-clause-moves : goal.returns-else-from-clause-moves
returns-else-from-clause-moves g c = λ w fits.
    let now = c.args.self.now in
    let v = scheme_of g.S.Sealer.cipher now in
    let sound : IsSound v.device v.cipher.overhead now.state = subst (λ (u : CoreValue g.row.S.Denot). IsSound u.device (g.S.Sealer.cipher u.sealer).overhead u.state) c.self.view_is c.self.invariant in
    let differs : now.state.entry_number + 1 ≢ 2 * trees_of now.device = λ end. c.if-from.false (ap (λ k. k + 1) c.from.ensures ∙ subst (λ (u : CoreValue g.row.S.Denot). u.state.entry_number + 1 ≡ 2 * trees_of u.device) (sym c.self.view_is) end ∙ ap (λ k. 2 * k) (sym (c.from-2.ensures ∙ c.trees.ensures.count))) in
    let more : now.state.entry_number + 1 < 2 * trees_of now.device = omega (arith, stage_within v.device v.cipher.overhead now.state sound, differs) in
    fetch_moves v now.state c.fetch_next.result c.fetch_next.new.self.state c.requires.waiting c.requires.entry_number more c.fetch_next.ensures.ok w fits

pub returns-else-from-clause-heard : goal.returns-else-from-clause-heard
returns-else-from-clause-heard g c =
    let now = c.args.self.now in
    let v = scheme_of g.S.Sealer.cipher now in
    let sound : IsSound v.device v.cipher.overhead now.state = subst (λ (u : CoreValue g.row.S.Denot). IsSound u.device (g.S.Sealer.cipher u.sealer).overhead u.state) c.self.view_is c.self.invariant in
    let differs : now.state.entry_number + 1 ≢ 2 * trees_of now.device = λ end. c.if-from.false (ap (λ k. k + 1) c.from.ensures ∙ subst (λ (u : CoreValue g.row.S.Denot). u.state.entry_number + 1 ≡ 2 * trees_of u.device) (sym c.self.view_is) end ∙ ap (λ k. 2 * k) (sym (c.from-2.ensures ∙ c.trees.ensures.count))) in
    let more : now.state.entry_number + 1 < 2 * trees_of now.device = omega (arith, stage_within v.device v.cipher.overhead now.state sound, differs) in
    fetch_heard v now.state c.fetch_next.result c.fetch_next.new.self.state sound c.requires.waiting more c.fetch_next.ensures.ok

pub returns-then-from-clause-taken : goal.returns-then-from-clause-taken
returns-then-from-clause-taken g c =
    let now = c.args.self.now in
    let o : Waits now.state = waits now.state c.requires.waiting in
    if_ok _ _ c.finish.result (λ y e. ap (λ (d : Done). d.note) e) (c.finish.ensures.ok o.oldest o.rest o.queue)

pub returns-else-from-clause-taken : goal.returns-else-from-clause-taken
returns-else-from-clause-taken g c =
    let now = c.args.self.now in
    let o : Waits now.state = waits now.state c.requires.waiting in
    if_ok _ _ c.fetch_next.result (λ y e. ap (λ (d : Done). d.note) e) (c.fetch_next.ensures.ok o.oldest o.rest o.queue)

pub same-self : goal.same-self
same-self g c = refl

pub same-self-else-from : goal.same-self-else-from
same-self-else-from g c = refl

pub finish-requires-clause-waiting : goal.finish-requires-clause-waiting
finish-requires-clause-waiting g c = c.requires.waiting

pub fetch_next-requires-clause-waiting : goal.fetch_next-requires-clause-waiting
fetch_next-requires-clause-waiting g c = c.requires.waiting

pub fetch_next-requires-clause-entry_number : goal.fetch_next-requires-clause-entry_number
fetch_next-requires-clause-entry_number g c = c.requires.entry_number

pub returns-then-from-clause-kept : goal.returns-then-from-clause-kept
returns-then-from-clause-kept g c = c.finish.ensures.kept

pub returns-then-from-clause-err : goal.returns-then-from-clause-err
returns-then-from-clause-err g c = c.finish.ensures.err

pub returns-else-from-clause-kept : goal.returns-else-from-clause-kept
returns-else-from-clause-kept g c = c.fetch_next.ensures.kept

pub returns-else-from-clause-err : goal.returns-else-from-clause-err
returns-else-from-clause-err g c = c.fetch_next.ensures.err
