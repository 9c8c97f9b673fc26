use Rattle.std.proofs.Common.{refl}
use Rattle.oramsim.specs.declared.line.Line.TheVariants.{Late, Reopen}
use Rattle.oramsim.specs.declared.script.SimFault.TheVariants.{OutOfMemory}
use Rattle.oramsim.proofs.GivenUp.{line_answered, line_cut, line_drained, line_stays, line_told, raised}
use Rattle.oramsim.proofs.Obeyed.{answer_obeyed, drain_obeyed, restore_obeyed, restore_unfit, snapshot_obeyed, spoken_obeyed, swap_obeyed, swap_unfit, tamper_obeyed, tamper_unfit, told_obeyed, when_false, when_true}
use Rattle.oramsim.proofs.machine.Machine.obey.Goals as goal

pub returns-in_ok-tell-in-CoreEvent-clause-ok : goal.returns-in_ok-tell-in-CoreEvent-clause-ok
returns-in_ok-tell-in-CoreEvent-clause-ok g c = λ r f e. told_obeyed r c.args.self.now.core.state c.args.line c.in-CoreEvent.event c.tell.new.self _ _ c.in-CoreEvent.is (c.in_ok-tell-in-CoreEvent.ensures.ok r f)

pub returns-in_ok-answer-in-Answer-clause-ok : goal.returns-in_ok-answer-in-Answer-clause-ok
returns-in_ok-answer-in-Answer-clause-ok g c = λ r f e. answer_obeyed r c.args.self.now.core.state c.args.line c.answer.new.self _ _ c.in-Answer.is (c.in_ok-answer-in-Answer.ensures.ok r f)

pub returns-in_ok-drain-in-Drain-clause-ok : goal.returns-in_ok-drain-in-Drain-clause-ok
returns-in_ok-drain-in-Drain-clause-ok g c = λ r f e. drain_obeyed r c.args.self.now.core.state c.args.line c.drain.new.self _ _ c.in-Drain.is (c.in_ok-drain-in-Drain.ensures.ok r f)

pub returns-in_ok-lose_answer-in-Late-clause-ok : goal.returns-in_ok-lose_answer-in-Late-clause-ok
returns-in_ok-lose_answer-in-Late-clause-ok g c = λ r f e. spoken_obeyed r c.args.self.now.core.state c.args.line Late c.lose_answer.new.self _ _ c.in-Late.is (c.in_ok-lose_answer-in-Late.ensures.ok r f)

pub returns-in_ok-reopen-in-Reopen-clause-ok : goal.returns-in_ok-reopen-in-Reopen-clause-ok
returns-in_ok-reopen-in-Reopen-clause-ok g c = λ r f e. spoken_obeyed r c.args.self.now.core.state c.args.line Reopen c.reopen.new.self _ _ c.in-Reopen.is (c.in_ok-reopen-in-Reopen.ensures.ok r f)

pub returns-in_ok-keep-in-Snapshot-clause-ok : goal.returns-in_ok-keep-in-Snapshot-clause-ok
returns-in_ok-keep-in-Snapshot-clause-ok g c = λ r f e. snapshot_obeyed r c.args.self.now.core.state c.args.line c.keep.new.self _ c.in-Snapshot.is (c.in_ok-keep-in-Snapshot.ensures.ok r f)

pub returns-in-Tamper-clause-ok : goal.returns-in-Tamper-clause-ok
returns-in-Tamper-clause-ok g c = λ r f e.
    tamper_obeyed r c.args.self.now.core.state c.args.line c.tamper.new.self c.in-Tamper.tree c.in-Tamper.node c.in-Tamper.offset _ c.in-Tamper.is (when_true _ _ c.tamper.result _ refl (c.tamper.ensures.ok r f) e)

pub returns-in-Tamper-clause-bad : goal.returns-in-Tamper-clause-bad
returns-in-Tamper-clause-bad g c = λ r f e.
    (tamper_unfit r c.args.line c.in-Tamper.tree c.in-Tamper.node c.in-Tamper.offset c.in-Tamper.is (when_false _ _ c.tamper.result _ refl (c.tamper.ensures.ok r f) e), refl)

pub returns-in-Swap-clause-ok : goal.returns-in-Swap-clause-ok
returns-in-Swap-clause-ok g c = λ r f e.
    let l = c.in-Swap in swap_obeyed r c.args.self.now.core.state c.args.line c.swap.new.self l.tree_a l.node_a l.tree_b l.node_b _ l.is (when_true _ _ c.swap.result _ refl (c.swap.ensures.ok r f) e)

pub returns-in-Swap-clause-bad : goal.returns-in-Swap-clause-bad
returns-in-Swap-clause-bad g c = λ r f e.
    let l = c.in-Swap in (swap_unfit r c.args.line l.tree_a l.node_a l.tree_b l.node_b l.is (when_false _ _ c.swap.result _ refl (c.swap.ensures.ok r f) e), refl)

pub returns-in_ok-restore-in-Restore-clause-ok : goal.returns-in_ok-restore-in-Restore-clause-ok
returns-in_ok-restore-in-Restore-clause-ok g c = λ r f e.
    restore_obeyed r c.args.self.now.core.state c.args.line c.restore.new.self _ c.in-Restore.is (when_true _ _ c.in_ok-restore-in-Restore.field-0 _ refl (c.in_ok-restore-in-Restore.ensures.ok r f) e)

pub returns-in_ok-restore-in-Restore-clause-bad : goal.returns-in_ok-restore-in-Restore-clause-bad
returns-in_ok-restore-in-Restore-clause-bad g c = λ r f e.
    (restore_unfit r c.args.line c.in-Restore.is (when_false _ _ c.in_ok-restore-in-Restore.field-0 _ refl (c.in_ok-restore-in-Restore.ensures.ok r f) e), refl)

pub returns-in_err-tell-in-CoreEvent-clause-err : goal.returns-in_err-tell-in-CoreEvent-clause-err
returns-in_err-tell-in-CoreEvent-clause-err g c = λ r f. raised _ _ c.in_err-tell-in-CoreEvent.field-0.0 c.from_residual.ensures.1 (line_told r c.args.self.now.core.state c.args.line c.in-CoreEvent.event c.in_err-tell-in-CoreEvent.field-0.0 _ _ c.in-CoreEvent.is (c.in_err-tell-in-CoreEvent.ensures.err r f))

pub returns-in_err-answer-in-Answer-clause-err : goal.returns-in_err-answer-in-Answer-clause-err
returns-in_err-answer-in-Answer-clause-err g c = λ r f. raised _ _ c.in_err-answer-in-Answer.field-0.0 c.from_residual-in_err-answer-in-Answer.ensures.1 (line_answered r c.args.self.now.core.state c.args.line c.in_err-answer-in-Answer.field-0.0 _ _ c.in-Answer.is (c.in_err-answer-in-Answer.ensures.err r f))

pub returns-in_err-drain-in-Drain-clause-err : goal.returns-in_err-drain-in-Drain-clause-err
returns-in_err-drain-in-Drain-clause-err g c = λ r f. raised _ _ c.in_err-drain-in-Drain.field-0.0 c.from_residual-in_err-drain-in-Drain.ensures.1 (line_drained r c.args.self.now.core.state c.args.line c.in_err-drain-in-Drain.field-0.0 _ _ c.in-Drain.is (c.in_err-drain-in-Drain.ensures.err r f))

pub returns-in_err-lose_answer-in-Late-clause-err : goal.returns-in_err-lose_answer-in-Late-clause-err
returns-in_err-lose_answer-in-Late-clause-err g c = λ r f. raised _ _ c.in_err-lose_answer-in-Late.field-0.0 c.from_residual-in_err-lose_answer-in-Late.ensures.1 (line_cut r c.args.self.now.core.state c.args.line Late c.in_err-lose_answer-in-Late.field-0.0 _ _ c.in-Late.is (c.in_err-lose_answer-in-Late.ensures.err r f))

pub returns-in_err-reopen-in-Reopen-clause-err : goal.returns-in_err-reopen-in-Reopen-clause-err
returns-in_err-reopen-in-Reopen-clause-err g c = λ r f. raised _ _ c.in_err-reopen-in-Reopen.field-0.0 c.from_residual-in_err-reopen-in-Reopen.ensures.1 (line_cut r c.args.self.now.core.state c.args.line Reopen c.in_err-reopen-in-Reopen.field-0.0 _ _ c.in-Reopen.is (c.in_err-reopen-in-Reopen.ensures.err r f))

pub returns-in_err-keep-in-Snapshot-clause-err : goal.returns-in_err-keep-in-Snapshot-clause-err
returns-in_err-keep-in-Snapshot-clause-err g c = λ r f. raised _ _ OutOfMemory c.from_residual-in_err-keep-in-Snapshot.ensures.1 (line_stays r c.args.self.now c.args.line _ _ f refl)

pub returns-in_err-restore-in-Restore-clause-err : goal.returns-in_err-restore-in-Restore-clause-err
returns-in_err-restore-in-Restore-clause-err g c = λ r f. raised _ _ OutOfMemory c.from_residual-in_err-restore-in-Restore.ensures.1 (line_stays r c.args.self.now c.args.line _ _ f refl)
