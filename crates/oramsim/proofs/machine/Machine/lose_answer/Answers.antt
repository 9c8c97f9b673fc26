use Rattle.std.proofs.Common.{inl, refl}
use Rattle.oramsim.proofs.HostAnswers.{answer_lost, heard_stands, IsHeard}
use Rattle.oramsim.specs.declared.script.SimFault.TheVariants.{OutOfMemory}
use Rattle.oramsim.proofs.GivenUp.{if_err, late_cut, raised, stays}
use Rattle.oramsim.proofs.Turns.{on_ok}
use Rattle.oramsim.proofs.machine.Machine.lose_answer.Goals as goal

pub returns-clause-whole : goal.returns-clause-whole
returns-clause-whole g c = c.tell.ensures.whole

pub returns-clause-ok : goal.returns-clause-ok
returns-clause-ok g c = λ r f.
    let m = c.args.self.now in
    let n = c.answer_of_host.new.self in
    let h : IsHeard m n c.in_ok-_unheard._unheard = record { replies = c.in_ok-_unheard.ensures.bytes; core = c.answer_of_host.ensures.core; outstanding = c.answer_of_host.ensures.outstanding; snapshot = c.answer_of_host.ensures.snapshot } in
    on_ok _ _ c.tell.result (λ q. answer_lost r m n c.tell.new.self c.in_ok-_unheard._unheard _ _ c.requires f h q) (c.tell.ensures.ok _ (heard_stands r m n c.in_ok-_unheard._unheard f h))

pub returns-in_err-_unheard-clause-err : goal.returns-in_err-_unheard-clause-err
returns-in_err-_unheard-clause-err g c = λ r f. raised _ _ OutOfMemory c.from_residual.ensures.1 (stays r c.args.self.now _ _ _ _ f (λ h. h.calm) (inl refl) refl)

pub returns-clause-err : goal.returns-clause-err
returns-clause-err g c = λ r f.
    let m = c.args.self.now in
    let n = c.answer_of_host.new.self in
    let h : IsHeard m n c.in_ok-_unheard._unheard = record { replies = c.in_ok-_unheard.ensures.bytes; core = c.answer_of_host.ensures.core; outstanding = c.answer_of_host.ensures.outstanding; snapshot = c.answer_of_host.ensures.snapshot } in
    if_err _ _ c.tell.result (λ e q. late_cut r m n c.in_ok-_unheard._unheard e _ _ c.requires f h q) (c.tell.ensures.err _ (heard_stands r m n c.in_ok-_unheard._unheard f h))
