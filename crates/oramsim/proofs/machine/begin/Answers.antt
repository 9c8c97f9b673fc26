use Rattle.std.proofs.Common.{◌∙◌, refl, subst, take}
use Rattle.std.specs.Io.KnownBytes.{Appends}
use Rattle.oramsim.proofs.Started.{begun, faulted}
use Rattle.oramsim.specs.declared.script.SimFault.TheVariants.{OutOfMemory}
use Rattle.oramsim.proofs.Cut.{begun_cut, faulted_cut, unbegun}
use Rattle.oramsim.proofs.GivenUp.{raised}
use Rattle.oramsim.proofs.machine.begin.Goals as goal

pub returns-in_ok-put-in-Ok-clause-ok : goal.returns-in_ok-put-in-Ok-clause-ok
returns-in_ok-put-in-Ok-clause-ok g c = λ head.
    begun head c.args.device c.in-Ok.device c.trees-trees.result c.in-Ok-formatted.machine _ _ c.in-Ok.is c.trees-trees.ensures.count c.in-Ok-formatted.ensures.ok
    (subst (Appends _ _) (c.as_bytes.ensures.value ∙ c.in_ok-text-in-Ok.ensures.ok) c.in_ok-put-in-Ok.ensures.ok)

pub returns-in_ok-put-in-Err-clause-ok : goal.returns-in_ok-put-in-Err-clause-ok
returns-in_ok-put-in-Err-clause-ok g c = λ head.
    faulted head c.args.device c.in-Err.fault _ _ c.in-Err.is (subst (Appends _ _) (c.as_bytes-in-Err.ensures.value ∙ c.in_ok-text-in-Err.ensures.ok) c.in_ok-put-in-Err.ensures.ok)

pub returns-in_default-clause-err : goal.returns-in_default-clause-err
returns-in_default-clause-err g c = λ head. unbegun head c.args.device _ _ refl

pub returns-in_err-text-in-Ok-clause-err : goal.returns-in_err-text-in-Ok-clause-err
returns-in_err-text-in-Ok-clause-err g c = λ head. raised _ _ OutOfMemory c.from_residual.ensures.1 (unbegun head c.args.device _ _ refl)

pub returns-in_err-text-in-Err-clause-err : goal.returns-in_err-text-in-Err-clause-err
returns-in_err-text-in-Err-clause-err g c = λ head. raised _ _ OutOfMemory c.from_residual-in_err-text-in-Err.ensures.1 (unbegun head c.args.device _ _ refl)

pub returns-in_err-put-in-Ok-clause-err : goal.returns-in_err-put-in-Ok-clause-err
returns-in_err-put-in-Ok-clause-err g c = λ head.
    let e = c.in_err-put-in-Ok.field-0.0 in
    let cut = c.in_err-put-in-Ok.ensures.cut in
    raised _ _ e c.from_residual-in_err-put-in-Ok.ensures.1 (begun_cut head c.args.device c.in-Ok.device c.trees-trees.result c.in-Ok-formatted.machine e _ _ c.in-Ok.is c.trees-trees.ensures.count c.in-Ok-formatted.ensures.ok
    (cut.0, subst (λ t. Appends (g.W.Write.contents c.args.writer.now) (g.W.Write.contents c.put.new.writer) (take cut.0 t)) (c.as_bytes.ensures.value ∙ c.in_ok-text-in-Ok.ensures.ok) cut.1) c.in_err-put-in-Ok.ensures.fault)

pub returns-in_err-put-in-Err-clause-err : goal.returns-in_err-put-in-Err-clause-err
returns-in_err-put-in-Err-clause-err g c = λ head.
    let e = c.in_err-put-in-Err.field-0.0 in
    let cut = c.in_err-put-in-Err.ensures.cut in
    raised _ _ e c.from_residual-in_err-put-in-Err.ensures.1 (faulted_cut head c.args.device c.in-Err.fault e _ _ c.in-Err.is
    (cut.0, subst (λ t. Appends (g.W.Write.contents c.args.writer.now) (g.W.Write.contents c.put-in-Err.new.writer) (take cut.0 t)) (c.as_bytes-in-Err.ensures.value ∙ c.in_ok-text-in-Err.ensures.ok) cut.1) c.in_err-put-in-Err.ensures.fault)
