use Rattle.std.proofs.Common.{◌≡◌, ◌≢◌, ℕ, suc, ◌+◌, true≢false, sym, ◌∙◌, subst, arith}
use Rattle.oram_layout.specs.Changes.{IsOffRecords}
use Rattle.oram_layout.specs.Trees.{cell_at}
use Rattle.oram_layout.proofs.Changes.{unmarked_off}
use Rattle.oram_redo.specs.declared.file_pair.FileKind.TheVariants.{Records}
use Rattle.oram_store.proofs.Crashes.{calls_ok, calls_then}
use Rattle.oram_redo.proofs.Outcomes.{on_ok_none}
use Rattle.oram_store.proofs.Outcomes.{calls_passed}
use Rattle.oram_store.proofs.Sound.{leaves_then, loose_leaves, reads_leave}
use Rattle.oram_store.proofs.cells.write_if_missing.Goals as goal

pub returns-in_err-has_record-clause-kept : goal.returns-in_err-has_record-clause-kept
returns-in_err-has_record-clause-kept g c trees number there sound honest =
    reads_leave g.F.FilePair.model trees c.args.file.now c.has_record.new.file sound c.has_record.ensures.reads

pub returns-then-branch-clause-kept : goal.returns-then-branch-clause-kept
returns-then-branch-clause-kept g c trees number there sound honest =
    reads_leave g.F.FilePair.model trees c.args.file.now c.has_record.new.file sound c.has_record.ensures.reads

pub returns-clause-kept : goal.returns-clause-kept
returns-clause-kept g c trees number there sound honest =
    let mid = c.has_record.new.file in
    let was_honest = c.write_loose.ensures.calls.runs.after.honest honest in
    let unset : g.F.FilePair.model.seen mid.files Records (cell_at c.args.tree.now c.args.node) ≢ 1 =
    λ one. true≢false (sym ((c.in_ok-has_record.ensures.found was_honest).1 (sym (c.has_record.ensures.reads.nothing.seen_same Records _) ∙ one)) ∙ c.if-branch.false) in
    let place : suc (cell_at c.args.tree.now c.args.node) ≡ c.cell_at.result + 1 = omega (arith, c.cell_at.ensures.place) in
    let off = subst (λ (at : ℕ). IsOffRecords trees (g.F.FilePair.model.seen mid.files Records) (at, c.args.bytes.now)) place
    (unmarked_off trees (g.F.FilePair.model.seen mid.files Records) number c.args.tree.now c.args.node c.args.bytes.now (record { is_there = there; within = c.requires.node }) unset (omega (arith, c.requires.whole))) in
    leaves_then g.F.FilePair.model trees c.args.file.now mid c.write_loose.new.self
    (reads_leave g.F.FilePair.model trees c.args.file.now mid sound c.has_record.ensures.reads)
    (λ mid_sound. loose_leaves g.F.FilePair.model trees mid c.write_loose.new.self (c.cell_at.result + 1, c.args.bytes.now) mid_sound off
    c.write_loose.ensures.passes c.write_loose.ensures.elsewhere)
    c.write_loose.ensures.calls.runs.stays (g.met.F.FilePair.counts_now mid.files) (g.met.F.FilePair.whole mid.files)

pub returns-in_err-has_record-clause-calls : goal.returns-in_err-has_record-clause-calls
returns-in_err-has_record-clause-calls g c =
    calls_passed g.F.FilePair.model c.from_residual.result c.in_err-has_record.field-0.0 c.args.file.now c.has_record.new.file c.from_residual.ensures.1 c.in_err-has_record.ensures.calls

pub returns-in_err-has_record-clause-running : goal.returns-in_err-has_record-clause-running
returns-in_err-has_record-clause-running g c = on_ok_none c.from_residual.result _ c.from_residual.ensures.0

pub returns-then-branch-clause-calls : goal.returns-then-branch-clause-calls
returns-then-branch-clause-calls g c = calls_ok g.F.FilePair.model c.in_ok-has_record.field-0 tt c.args.file.now c.has_record.new.file c.in_ok-has_record.ensures.calls

pub returns-then-branch-clause-running : goal.returns-then-branch-clause-running
returns-then-branch-clause-running g c = c.in_ok-has_record.ensures.running

pub returns-clause-calls : goal.returns-clause-calls
returns-clause-calls g c =
    calls_then g.F.FilePair.model c.write_loose.result c.args.file.now c.has_record.new.file c.write_loose.new.self
    c.has_record.ensures.calls.runs c.in_ok-has_record.ensures.calls.goes_on c.write_loose.ensures.calls

pub returns-clause-running : goal.returns-clause-running
returns-clause-running g c = c.write_loose.ensures.running
