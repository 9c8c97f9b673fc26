use Rattle.std.proofs.Common.{Some, inl, inr, refl, sym, ap, ◌∙◌, subst}
use Rattle.oramsim.specs.Correspondence.{StandsAt}
use Rattle.oramsim.specs.declared.line.Line.{Line}
use Rattle.oramsim.specs.declared.script.SimFault.TheVariants.{OutOfMemory}
use Rattle.oramsim.proofs.Cut.{obeyed_cut, started_cut, stays_at}
use Rattle.oramsim.proofs.GivenUp.{raised}
use Rattle.oramsim.proofs.Progress.{calm_at, empty_passed, passed_some, refused_some, started}
use Rattle.oramsim.proofs.Started.{load_of}
use Rattle.oramsim.proofs.script.pass.Goals as goal

pub begin-requires : goal.begin-requires
begin-requires g c = rw c.new-device.ensures (load_of (record { blocks = c.in-Device.blocks; block_bytes = c.in-Device.block_bytes; slots = c.in-Device.slots; top = c.in-Device.top; lifetime = c.in-Device.lifetime; leaf_load = 1 }))

pub returns-then-is_empty-clause-ok : goal.returns-then-is_empty-clause-ok
returns-then-is_empty-clause-ok g c = λ p f e. empty_passed p _ c.args.bytes.now _ (sym c.if-is_empty.ensures) f

pub returns-in-Some-machine-clause-ok : goal.returns-in-Some-machine-clause-ok
returns-in-Some-machine-clause-ok g c = λ p f e.
    passed_some p _ c.in-Some-machine.machine c.obey.new.self c.args.bytes.now c.in-Some.line c.obey.result _ _ c.obey.ensures.ok (sym c.if-is_empty.ensures) (sym c.in_ok-line.ensures ∙ c.in-Some.is) c.in-Some-machine.is f e

pub returns-in-Some-machine-clause-bad : goal.returns-in-Some-machine-clause-bad
returns-in-Some-machine-clause-bad g c = λ p f e.
    refused_some p c.in-Some-machine.machine c.args.bytes.now c.in-Some.line c.obey.result _ _ c.obey.ensures.bad (sym c.if-is_empty.ensures) (sym c.in_ok-line.ensures ∙ c.in-Some.is) (subst (StandsAt p.stage) c.in-Some-machine.is f) e

pub returns-in_ok-machine-in-None-clause-ok : goal.returns-in_ok-machine-in-None-clause-ok
returns-in_ok-machine-in-None-clause-ok g c = λ p f e.
    started p _ c.in_ok-machine-in-None.field-0 c.args.bytes.now _ _ _ _ _ c.new-device.result _ _ c.new-device.ensures
    c.in_ok-machine-in-None.ensures.ok (sym c.if-is_empty.ensures) (sym c.in_ok-line.ensures ∙ (c.in-Some.is ∙ ap (λ (l : Line). Some l) c.in-Device.is)) (subst (StandsAt p.stage) c.in-None.is f)

pub returns-in_err-line-clause-err : goal.returns-in_err-line-clause-err
returns-in_err-line-clause-err g c = λ p f. raised _ _ OutOfMemory c.from_residual.ensures.1 (stays_at p _ _ _ _ _ f (λ on. calm_at p.stage _ on.1) (inr (inl refl)) refl)

pub returns-in-Some-machine-clause-err : goal.returns-in-Some-machine-clause-err
returns-in-Some-machine-clause-err g c = λ p f.
    obeyed_cut p _ c.in-Some-machine.machine c.args.bytes.now c.in-Some.line c.obey.result _ _ c.obey.ensures.err (sym c.if-is_empty.ensures) (sym c.in_ok-line.ensures ∙ c.in-Some.is) c.in-Some-machine.is f

pub returns-in_err-machine-in-None-clause-err : goal.returns-in_err-machine-in-None-clause-err
returns-in_err-machine-in-None-clause-err g c = λ p f.
    let e = c.in_err-machine-in-None.field-0.0 in
    raised _ _ e c.from_residual-in_err-machine-in-None.ensures.1 (started_cut p _ c.args.bytes.now _ _ _ _ _ c.new-device.result e _ _ c.new-device.ensures c.in_err-machine-in-None.ensures.err
    (sym c.if-is_empty.ensures) (sym c.in_ok-line.ensures ∙ (c.in-Some.is ∙ ap (λ (l : Line). Some l) c.in-Device.is)) (subst (StandsAt p.stage) c.in-None.is f))
