use Rattle.std.proofs.Common.{[], refl, sym, ◌∙◌}
use Rattle.oramsim.proofs.Drained.{drained_more, none_left}
use Rattle.oramsim.proofs.GivenUp.{drain_cut, raised}
use Rattle.oramsim.proofs.Turns.{silent}
use Rattle.oramsim.proofs.machine.Machine.drain.Goals as goal

pub loop-alloc-init : goal.loop-alloc-init
loop-alloc-init g c = record { whole = c.requires; so_far = λ r f. ([], r, refl, (f, silent _ _ _ refl), λ h. h) }

pub loop-alloc-preserved : goal.loop-alloc-preserved
loop-alloc-preserved g c = record {
  whole = c.in_ok-answer.ensures.whole;
  so_far = λ r f.
      let p = c.loop-alloc.invariant.so_far r f in
      let q = c.in_ok-answer.ensures.ok p.1 p.3.0 in
      drained_more r p.1 q.1 _ c.loop-alloc.self c.answer.new.self _ _ _ p.0 q.0 p.2 p.3 (sym c.loop-alloc-test.ensures) q.2 q.3 (λ h. q.4 (p.4 h));
}

pub returns-clause-ok : goal.returns-clause-ok
returns-clause-ok g c = λ r f.
    let p = c.loop-alloc.invariant.so_far r f in
    (p.0, p.1, p.2, sym p.3.0.message ∙ none_left _ (sym c.loop-alloc-test.ensures), p.3, p.4)

pub returns-in_err-answer-clause-err : goal.returns-in_err-answer-clause-err
returns-in_err-answer-clause-err g c = λ r f.
    let p = c.loop-alloc.invariant.so_far r f in
    let e = c.in_err-answer.field-0.0 in
    raised _ _ e c.from_residual.ensures.1 (drain_cut r p.1 c.args.self.now.core.state c.loop-alloc.self e _ _ _ p.0 p.2 p.3 (sym c.loop-alloc-test.ensures) p.4 (c.in_err-answer.ensures.err p.1 p.3.0))
