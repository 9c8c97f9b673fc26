use Rattle.std.proofs.Common.{◌≡◌, ◌∙◌, ℕ, ◌+◌, ◌<◌, ◌≤◌, true≢false, length, sym, Ok, Err, ⊎_elim, arith}
use Rattle.oram_redo.specs.Batch.{patches_of}
use Rattle.oram_redo.specs.Log.{entries}
use Rattle.oram_redo.specs.Redo.{end_of}
use Rattle.oram_redo.specs.declared.file_pair.FileKind.TheVariants.{Records}
use Rattle.oram_store.specs.RecordFile.{bounds}
use Rattle.oram_store.specs.declared.faults.StoreFault.TheVariants as fault
use Rattle.oram_store.proofs.Crashes.{agrees_all, calls_ok, calls_residual, calls_then, may_have_more, runs_then, sure_again, sure_restarted}
use Rattle.oram_redo.proofs.Outcomes.{on_ok_none}
use Rattle.oram_store.proofs.Outcomes.{calls_passed, on_err_holds}
use Rattle.oram_store.proofs.record_file.RecordFile.commit_sure.Goals as goal

-- an empty log has room for a short batch
has_room : (start end len limit : ℕ) → end ≡ start → start + len < limit → limit ≤ end + len → ⊥
has_room start end len limit empty short full = omega arith

pub returns-in_err-commit_if_room-clause-passes : goal.returns-in_err-commit_if_room-clause-passes
returns-in_err-commit_if_room-clause-passes g c s =
    may_have_more g.F.FilePair.model _ _ (patches_of c.args.batch.now) c.args.self.now c.commit_if_room.new.self
    (λ stopped. on_err_holds c.from_residual.result _ stopped) (c.in_err-commit_if_room.ensures.passes s)

pub returns-then-branch-clause-passes : goal.returns-then-branch-clause-passes
returns-then-branch-clause-passes g c s =
    may_have_more g.F.FilePair.model _ _ (patches_of c.args.batch.now) c.args.self.now c.commit_if_room.new.self
    (λ fits. tt) (c.commit_if_room.ensures.passes s)

pub returns-in_err-restart-clause-passes : goal.returns-in_err-restart-clause-passes
returns-in_err-restart-clause-passes g c s =
    let mid = c.commit_if_room.new.self in
    sure_restarted g.F.FilePair.model _ _ (patches_of c.args.batch.now) c.args.self.now mid c.restart.new.self
    (λ fits. absurd (true≢false (sym fits ∙ c.if-branch.false))) (c.in_ok-commit_if_room.ensures.passes s) (c.in_ok-commit_if_room.ensures.not_done c.if-branch.false)
    (λ sure. c.restart.ensures.passes _ sure) c.restart.ensures.calls.runs.stays (g.met.F.FilePair.counts_now mid.files) (g.met.F.FilePair.whole mid.files)

pub returns-in_err-commit_if_room-2-clause-passes : goal.returns-in_err-commit_if_room-2-clause-passes
returns-in_err-commit_if_room-2-clause-passes g c s =
    let mid = c.commit_if_room.new.self in
    let again = c.restart.new.self in
    sure_again g.F.FilePair.model _ _ (patches_of c.args.batch.now) c.args.self.now again c.commit_if_room-2.new.self
    (λ stopped. on_err_holds c.from_residual-in_err-commit_if_room-2.result _ stopped)
    (sure_restarted g.F.FilePair.model _ _ (patches_of c.args.batch.now) c.args.self.now mid again
    (λ fits. absurd (true≢false (sym fits ∙ c.if-branch.false))) (c.in_ok-commit_if_room.ensures.passes s) (c.in_ok-commit_if_room.ensures.not_done c.if-branch.false)
    (λ sure. c.restart.ensures.passes _ sure) c.restart.ensures.calls.runs.stays (g.met.F.FilePair.counts_now mid.files) (g.met.F.FilePair.whole mid.files))
    (λ i. c.restart.ensures.same i ∙ c.in_ok-commit_if_room.ensures.not_done c.if-branch.false i) c.in_err-commit_if_room-2.ensures.passes c.commit_if_room-2.ensures.calls.runs.stays
    (g.met.F.FilePair.counts_now again.files) (g.met.F.FilePair.whole again.files)

pub returns-then-branch-2-clause-passes : goal.returns-then-branch-2-clause-passes
returns-then-branch-2-clause-passes g c s =
    let mid = c.commit_if_room.new.self in
    let again = c.restart.new.self in
    sure_again g.F.FilePair.model _ _ (patches_of c.args.batch.now) c.args.self.now again c.commit_if_room-2.new.self
    (λ fits. tt)
    (sure_restarted g.F.FilePair.model _ _ (patches_of c.args.batch.now) c.args.self.now mid again
    (λ fits. absurd (true≢false (sym fits ∙ c.if-branch.false))) (c.in_ok-commit_if_room.ensures.passes s) (c.in_ok-commit_if_room.ensures.not_done c.if-branch.false)
    (λ sure. c.restart.ensures.passes _ sure) c.restart.ensures.calls.runs.stays (g.met.F.FilePair.counts_now mid.files) (g.met.F.FilePair.whole mid.files))
    (λ i. c.restart.ensures.same i ∙ c.in_ok-commit_if_room.ensures.not_done c.if-branch.false i) c.commit_if_room-2.ensures.passes c.commit_if_room-2.ensures.calls.runs.stays
    (g.met.F.FilePair.counts_now again.files) (g.met.F.FilePair.whole again.files)

pub returns-in_err-commit_if_room-clause-done : goal.returns-in_err-commit_if_room-clause-done
returns-in_err-commit_if_room-clause-done g c = on_ok_none c.from_residual.result _ c.from_residual.ensures.0

pub returns-in_err-commit_if_room-clause-undone : goal.returns-in_err-commit_if_room-clause-undone
returns-in_err-commit_if_room-clause-undone g c = on_err_holds c.from_residual.result _ c.in_err-commit_if_room.ensures.refused

pub returns-in_err-commit_if_room-clause-calls : goal.returns-in_err-commit_if_room-clause-calls
returns-in_err-commit_if_room-clause-calls g c =
    calls_passed g.F.FilePair.model c.from_residual.result c.in_err-commit_if_room.field-0.0 c.args.self.now c.commit_if_room.new.self c.from_residual.ensures.1 c.in_err-commit_if_room.ensures.calls

pub returns-in_err-commit_if_room-clause-running : goal.returns-in_err-commit_if_room-clause-running
returns-in_err-commit_if_room-clause-running g c = on_ok_none c.from_residual.result _ c.from_residual.ensures.0

pub returns-then-branch-clause-done : goal.returns-then-branch-clause-done
returns-then-branch-clause-done g c = c.in_ok-commit_if_room.ensures.done c.if-branch.true

pub returns-then-branch-clause-calls : goal.returns-then-branch-clause-calls
returns-then-branch-clause-calls g c = calls_ok g.F.FilePair.model c.in_ok-commit_if_room.field-0 tt c.args.self.now c.commit_if_room.new.self c.in_ok-commit_if_room.ensures.calls

pub returns-then-branch-clause-running : goal.returns-then-branch-clause-running
returns-then-branch-clause-running g c = c.in_ok-commit_if_room.ensures.running

pub returns-in_err-restart-clause-done : goal.returns-in_err-restart-clause-done
returns-in_err-restart-clause-done g c = on_ok_none c.from_residual-in_err-restart.result _ c.from_residual-in_err-restart.ensures.0

pub returns-in_err-restart-clause-undone : goal.returns-in_err-restart-clause-undone
returns-in_err-restart-clause-undone g c =
    on_err_holds c.from_residual-in_err-restart.result _ (λ running i. c.restart.ensures.same i ∙ c.in_ok-commit_if_room.ensures.not_done c.if-branch.false i)

pub returns-in_err-restart-clause-calls : goal.returns-in_err-restart-clause-calls
returns-in_err-restart-clause-calls g c =
    calls_residual g.F.FilePair.model c.from_residual-in_err-restart.result c.in_err-restart.field-0.0 c.args.self.now c.commit_if_room.new.self c.restart.new.self
    c.from_residual-in_err-restart.ensures.1 c.commit_if_room.ensures.calls.runs c.in_ok-commit_if_room.ensures.calls.goes_on c.in_err-restart.ensures.calls

pub returns-in_err-restart-clause-running : goal.returns-in_err-restart-clause-running
returns-in_err-restart-clause-running g c = on_ok_none c.from_residual-in_err-restart.result _ c.from_residual-in_err-restart.ensures.0

pub returns-in_err-commit_if_room-2-clause-done : goal.returns-in_err-commit_if_room-2-clause-done
returns-in_err-commit_if_room-2-clause-done g c = on_ok_none c.from_residual-in_err-commit_if_room-2.result _ c.from_residual-in_err-commit_if_room-2.ensures.0

pub returns-in_err-commit_if_room-2-clause-undone : goal.returns-in_err-commit_if_room-2-clause-undone
returns-in_err-commit_if_room-2-clause-undone g c =
    on_err_holds c.from_residual-in_err-commit_if_room-2.result _
    (λ running i. c.in_err-commit_if_room-2.ensures.refused running i ∙ c.restart.ensures.same i ∙ c.in_ok-commit_if_room.ensures.not_done c.if-branch.false i)

pub returns-in_err-commit_if_room-2-clause-calls : goal.returns-in_err-commit_if_room-2-clause-calls
returns-in_err-commit_if_room-2-clause-calls g c =
    calls_residual g.F.FilePair.model c.from_residual-in_err-commit_if_room-2.result c.in_err-commit_if_room-2.field-0.0 c.args.self.now c.restart.new.self c.commit_if_room-2.new.self
    c.from_residual-in_err-commit_if_room-2.ensures.1
    (runs_then g.F.FilePair.model c.args.self.now c.commit_if_room.new.self c.restart.new.self c.commit_if_room.ensures.calls.runs c.restart.ensures.calls.runs)
    (c.in_ok-restart.ensures.calls.goes_on ∙ c.in_ok-commit_if_room.ensures.calls.goes_on) c.in_err-commit_if_room-2.ensures.calls

pub returns-in_err-commit_if_room-2-clause-running : goal.returns-in_err-commit_if_room-2-clause-running
returns-in_err-commit_if_room-2-clause-running g c = on_ok_none c.from_residual-in_err-commit_if_room-2.result _ c.from_residual-in_err-commit_if_room-2.ensures.0

pub returns-then-branch-2-clause-done : goal.returns-then-branch-2-clause-done
returns-then-branch-2-clause-done g c i =
    c.in_ok-commit_if_room-2.ensures.done c.if-branch-2.true i
    ∙ agrees_all (patches_of c.args.batch.now) (g.F.FilePair.model.seen c.restart.new.self.files Records) (g.F.FilePair.model.seen c.args.self.now.files Records)
    (λ i. c.restart.ensures.same i ∙ c.in_ok-commit_if_room.ensures.not_done c.if-branch.false i) i

pub returns-then-branch-2-clause-calls : goal.returns-then-branch-2-clause-calls
returns-then-branch-2-clause-calls g c =
    calls_then g.F.FilePair.model (Ok tt) c.args.self.now c.restart.new.self c.commit_if_room-2.new.self
    (runs_then g.F.FilePair.model c.args.self.now c.commit_if_room.new.self c.restart.new.self c.commit_if_room.ensures.calls.runs c.restart.ensures.calls.runs)
    (c.in_ok-restart.ensures.calls.goes_on ∙ c.in_ok-commit_if_room.ensures.calls.goes_on)
    (calls_ok g.F.FilePair.model c.in_ok-commit_if_room-2.field-0 tt c.restart.new.self c.commit_if_room-2.new.self c.in_ok-commit_if_room-2.ensures.calls)

pub returns-then-branch-2-clause-running : goal.returns-then-branch-2-clause-running
returns-then-branch-2-clause-running g c = c.in_ok-commit_if_room-2.ensures.running

pub returns-clause-passes : goal.returns-clause-passes
returns-clause-passes g c s =
    let mid = c.commit_if_room.new.self in
    let again = c.restart.new.self in
    sure_again g.F.FilePair.model _ _ (patches_of c.args.batch.now) c.args.self.now again c.commit_if_room-2.new.self
    (λ fits. absurd (true≢false (sym fits ∙ c.if-branch-2.false)))
    (sure_restarted g.F.FilePair.model _ _ (patches_of c.args.batch.now) c.args.self.now mid again
    (λ fits. absurd (true≢false (sym fits ∙ c.if-branch.false))) (c.in_ok-commit_if_room.ensures.passes s) (c.in_ok-commit_if_room.ensures.not_done c.if-branch.false)
    (λ sure. c.restart.ensures.passes _ sure) c.restart.ensures.calls.runs.stays (g.met.F.FilePair.counts_now mid.files) (g.met.F.FilePair.whole mid.files))
    (λ i. c.restart.ensures.same i ∙ c.in_ok-commit_if_room.ensures.not_done c.if-branch.false i) c.in_ok-commit_if_room-2.ensures.passes c.commit_if_room-2.ensures.calls.runs.stays
    (g.met.F.FilePair.counts_now again.files) (g.met.F.FilePair.whole again.files)

pub returns-clause-undone : goal.returns-clause-undone
returns-clause-undone g c running i =
    c.in_ok-commit_if_room-2.ensures.not_done c.if-branch-2.false i ∙ c.restart.ensures.same i ∙ c.in_ok-commit_if_room.ensures.not_done c.if-branch.false i

pub returns-clause-no_room : goal.returns-clause-no_room
returns-clause-no_room g c none = c.in_ok-commit_if_room-2.ensures.end_stays c.if-branch-2.false ∙ c.in_ok-restart.ensures.empty

pub returns-clause-calls : goal.returns-clause-calls
returns-clause-calls g c =
    calls_then g.F.FilePair.model (Err fault.NoRoom) c.args.self.now c.restart.new.self c.commit_if_room-2.new.self
    (runs_then g.F.FilePair.model c.args.self.now c.commit_if_room.new.self c.restart.new.self c.commit_if_room.ensures.calls.runs c.restart.ensures.calls.runs)
    (c.in_ok-restart.ensures.calls.goes_on ∙ c.in_ok-commit_if_room.ensures.calls.goes_on)
    (record {
      runs = c.commit_if_room-2.ensures.calls.runs;
      goes_on = tt;
      reason = ⊎_elim (λ full. absurd (has_room bounds.log_start (end_of c.restart.new.self.redo) (length (entries (patches_of c.args.batch.now))) bounds.log_end
          c.in_ok-restart.ensures.empty c.requires.short full)) (λ rises. rises) (c.in_ok-commit_if_room-2.ensures.full c.if-branch-2.false);
    })
