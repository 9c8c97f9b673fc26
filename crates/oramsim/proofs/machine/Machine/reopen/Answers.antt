use Rattle.std.proofs.Common.{ap, inl, refl}
use Rattle.oramsim.proofs.GivenUp.{if_err, raised, reopen_cut, stays}
use Rattle.oramsim.proofs.Reopened.{reopened, same_stands}
use Rattle.oramsim.proofs.Turns.{on_ok}
use Rattle.oramsim.specs.declared.script.SimFault.TheVariants.{OutOfMemory}
use Rattle.oramsim.proofs.machine.Machine.reopen.Goals as goal

pub returns-clause-ok : goal.returns-clause-ok
returns-clause-ok g c = λ r f.
    let same = ap (λ k. record c.args.self.now { core = k }) c.in_ok-self.ensures in
    on_ok _ _ c.tell.result (λ q. reopened r c.args.self.now c.tell.new.self _ _ _ (ap (λ k. k.state) c.in_ok-self.ensures) q)
    (c.tell.ensures.ok r (same_stands r c.args.self.now _ _ same f))

pub returns-in_err-self-clause-err : goal.returns-in_err-self-clause-err
returns-in_err-self-clause-err g c = λ r f. raised _ _ OutOfMemory c.from_residual.ensures.1 (stays r c.args.self.now _ _ _ _ f (λ h. h.calm) (inl refl) refl)

pub returns-clause-err : goal.returns-clause-err
returns-clause-err g c = λ r f.
    let same = ap (λ k. record c.args.self.now { core = k }) c.in_ok-self.ensures in
    if_err _ _ c.tell.result (λ e q. reopen_cut r c.args.self.now _ e _ _ (ap (λ k. k.state) c.in_ok-self.ensures) q)
    (c.tell.ensures.err r (same_stands r c.args.self.now _ _ same f))
