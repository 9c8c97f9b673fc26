use Rattle.oram_core.proofs.Small.{copied, fine_allowed, granted, unfailed}
use Rattle.std.proofs.Common.{ap, refl, rules}
use Rattle.std.proofs.lemmas.Result.{IfOk-from_err}
use Rattle.oram_core.specs.Core.{CoreValue, scheme_of}
use Rattle.oram_core.proofs.MethodEnds.{begun_so, enqueued_so}
use Rattle.oram_core.proofs.Heard.{on_err}
use Rattle.oram_core.proofs.machine.Core.accept.Goals as goal

pub begin-requires-clause-allowed : goal.begin-requires-clause-allowed
begin-requires-clause-allowed g c =
    rw (c.in_ok-copy.ensures, c.in_ok-copy-2.ensures, c.as_slice.ensures)
    (fine_allowed c.args.self.now.device _ _ c.args.session c.self.inside.next c.args.command.now c.args.words.now (granted c.args.self.now.device c.args.self.now.state c.args.command.now c.args.words.now c.requires))

pub enqueue-requires-clause-allowed : goal.enqueue-requires-clause-allowed
enqueue-requires-clause-allowed g c =
    rw (c.in_ok-copy.ensures, c.in_ok-copy-2.ensures, c.as_slice.ensures)
    (fine_allowed c.args.self.now.device _ _ c.args.session c.self.inside.next c.args.command.now c.args.words.now (granted c.args.self.now.device c.args.self.now.state c.args.command.now c.args.words.now c.requires))

pub same-self : goal.same-self
same-self g c = refl

pub same-self-in_err-copy-2 : goal.same-self-in_err-copy-2
same-self-in_err-copy-2 g c = refl

pub same-self-then-is_empty : goal.same-self-then-is_empty
same-self-then-is_empty g c = refl

pub same-self-else-is_empty : goal.same-self-else-is_empty
same-self-else-is_empty g c = refl

pub returns-in_err-copy-clause-kept : goal.returns-in_err-copy-clause-kept
returns-in_err-copy-clause-kept g c = (refl, refl)

pub returns-in_err-copy-clause-ok : goal.returns-in_err-copy-clause-ok
returns-in_err-copy-clause-ok g c = IfOk-from_err c.from_residual.result _ c.from_residual.ensures.0

pub returns-in_err-copy-clause-err : goal.returns-in_err-copy-clause-err
returns-in_err-copy-clause-err g c = on_err _ c.from_residual.result refl

pub returns-in_err-copy-2-clause-kept : goal.returns-in_err-copy-2-clause-kept
returns-in_err-copy-2-clause-kept g c = (refl, refl)

pub returns-in_err-copy-2-clause-ok : goal.returns-in_err-copy-2-clause-ok
returns-in_err-copy-2-clause-ok g c = IfOk-from_err c.from_residual-in_err-copy-2.result _ c.from_residual-in_err-copy-2.ensures.0

pub returns-in_err-copy-2-clause-err : goal.returns-in_err-copy-2-clause-err
returns-in_err-copy-2-clause-err g c = on_err _ c.from_residual-in_err-copy-2.result refl

pub begin-requires-clause-ticket : goal.begin-requires-clause-ticket
begin-requires-clause-ticket g c = ap (λ (u : CoreValue g.row.S.Denot). u.state.next) c.self.view_is

pub begin-requires-clause-lifetime : goal.begin-requires-clause-lifetime
begin-requires-clause-lifetime g c = (granted c.args.self.now.device c.args.self.now.state c.args.command.now c.args.words.now c.requires).lifetime

pub enqueue-requires-clause-ticket : goal.enqueue-requires-clause-ticket
enqueue-requires-clause-ticket g c = ap (λ (u : CoreValue g.row.S.Denot). u.state.next) c.self.view_is

pub enqueue-requires-clause-lifetime : goal.enqueue-requires-clause-lifetime
enqueue-requires-clause-lifetime g c = (granted c.args.self.now.device c.args.self.now.state c.args.command.now c.args.words.now c.requires).lifetime

pub enqueue-requires-clause-few : goal.enqueue-requires-clause-few
enqueue-requires-clause-few g c = (granted c.args.self.now.device c.args.self.now.state c.args.command.now c.args.words.now c.requires).few

pub returns-then-is_empty-clause-kept : goal.returns-then-is_empty-clause-kept
returns-then-is_empty-clause-kept g c = c.begin.ensures.kept

pub returns-then-is_empty-clause-err : goal.returns-then-is_empty-clause-err
returns-then-is_empty-clause-err g c = c.begin.ensures.err

pub returns-else-is_empty-clause-kept : goal.returns-else-is_empty-clause-kept
returns-else-is_empty-clause-kept g c = c.enqueue.ensures.kept

pub returns-else-is_empty-clause-err : goal.returns-else-is_empty-clause-err
returns-else-is_empty-clause-err g c = c.enqueue.ensures.err

pub begin-requires-clause-healthy : goal.begin-requires-clause-healthy
begin-requires-clause-healthy g c = unfailed c.args.self.now.device c.args.self.now.state c.args.command.now c.args.words.now c.requires

pub returns-then-is_empty-clause-ok : goal.returns-then-is_empty-clause-ok
returns-then-is_empty-clause-ok g c =
    let now = c.args.self.now in
    let ticket = ap (λ (u : CoreValue g.row.S.Denot). u.state.next) c.self.view_is in
    begun_so (scheme_of g.S.Sealer.cipher now) now.state c.begin.new.self.state (record { session = c.args.session; ticket = now.state.next; command = c.args.command.now; words = c.args.words.now })
    (record { session = c.args.session; ticket = c.self.inside.next; command = c.in_ok-copy.field-0; words = c.in_ok-copy-2.field-0 })
    c.begin.result (search rules) (copied _ _ _ _ _ c.as_slice.result.now _ _ ticket c.in_ok-copy.ensures c.in_ok-copy-2.ensures c.as_slice.ensures) ticket c.begin.ensures.ok

pub returns-else-is_empty-clause-ok : goal.returns-else-is_empty-clause-ok
returns-else-is_empty-clause-ok g c =
    let now = c.args.self.now in
    let ticket = ap (λ (u : CoreValue g.row.S.Denot). u.state.next) c.self.view_is in
    enqueued_so (scheme_of g.S.Sealer.cipher now) now.state c.enqueue.new.self.state (record { session = c.args.session; ticket = now.state.next; command = c.args.command.now; words = c.args.words.now })
    (record { session = c.args.session; ticket = c.self.inside.next; command = c.in_ok-copy.field-0; words = c.in_ok-copy-2.field-0 })
    c.enqueue.result (search rules) (copied _ _ _ _ _ c.as_slice.result.now _ _ ticket c.in_ok-copy.ensures c.in_ok-copy-2.ensures c.as_slice.ensures) ticket c.enqueue.ensures.ok
