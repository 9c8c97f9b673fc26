use Rattle.std.proofs.Common.{◌⊎◌, [], false, refl, sym, subst, ◌∙◌}
use Rattle.std.proofs.lemmas.Result.{err_from_is_err_and}
use Rattle.oram_kept.specs.Kept.{Keeps, KeptValue, bounds}
use Rattle.oram_redo.specs.Log.{StandsFor}
use Rattle.oram_kept.specs.Opening.{FindsSame}
use Rattle.oram_kept.specs.Reading.{parts_around}
use Rattle.oram_kept.specs.declared.reading.Text.{Text}
use Rattle.oram_kept.specs.Layout.{Holds}
use Rattle.oram_kept.specs.Text.{Parts}
use Rattle.oram_redo.specs.Content.{Content}
use Rattle.oram_redo.specs.FilePair.{LeavesOnly}
use Rattle.oram_redo.specs.declared.file_pair.FileKind.TheVariants.{Records}
use Rattle.oram_redo.proofs.Moments.{same_content}
use Rattle.oram_kept.proofs.Opened.{comes_then, emptied_on, keeps_emptied, not_emptied, not_read, not_recovered, opens_on}
use Rattle.oram_kept.proofs.kept_text.KeptText.open.Goals as goal

pub returns-in_err-redo-clause-err : goal.returns-in_err-redo-clause-err
returns-in_err-redo-clause-err g c =
    let p = err_from_is_err_and c.from_residual.result c.from_residual.ensures.1 in
    rw (p.1, p.2) (
      c.recover.new.files,
      not_recovered g.F.FilePair.model c.in_err-redo.field-0.0 c.args.files c.recover.new.files c.in_err-redo.ensures.errors c.recover.ensures.after c.recover.ensures.any_moment
          (λ honest is. c.in_err-redo.ensures.damaged honest (cc is)) (λ is. c.in_err-redo.ensures.failed (cc is)),
    )

pub returns-in_err-text-clause-err : goal.returns-in_err-text-clause-err
returns-in_err-text-clause-err g c =
    let model = g.F.FilePair.model in
    let reads = c.in_err-text.ensures.reads in
    let p = err_from_is_err_and c.from_residual-in_err-text.result c.from_residual-in_err-text.ensures.1 in
    rw (p.1, p.2) (
      c.read_text.new.files,
      not_read model c.in_err-text.field-0.0 c.args.files c.recover.new.files c.read_text.new.files reads.errors c.recover.ensures.after reads.after
          (λ honest. opens_on model c.args.files c.recover.new.files c.read_text.new.files (c.recover.ensures.any_moment (reads.after.honest honest)) reads.nothing_written (g.met.F.FilePair.counts_now c.recover.new.files))
          c.in_ok-redo.ensures.records (λ is honest q holds. c.in_err-text.ensures.none (cc is) honest q holds) (λ is. reads.failed (cc is)),
    )

pub returns-in_err-restart-clause-err : goal.returns-in_err-restart-clause-err
returns-in_err-restart-clause-err g c =
    let model = g.F.FilePair.model in
    let reads = c.in_ok-text.ensures.reads in
    let p = err_from_is_err_and c.from_residual-in_err-restart.result c.from_residual-in_err-restart.ensures.1 in
    rw (p.1, p.2) (
      c.restart.new.files,
      not_emptied model c.in_err-restart.field-0.0 c.args.files c.read_text.new.files c.restart.new.files c.in_err-restart.ensures.failed.0
          (comes_then model c.args.files c.recover.new.files c.read_text.new.files c.recover.ensures.after reads.after) c.restart.ensures.after c.in_err-restart.ensures.failed.1
          (λ honest. let before = c.restart.ensures.after.honest honest in
          let old = c.args.files in
          let mid = c.recover.new.files in
          let late = c.read_text.new.files in
          let first = opens_on model old mid late (c.recover.ensures.any_moment (reads.after.honest before)) reads.nothing_written (g.met.F.FilePair.counts_now mid) in
          let stands : StandsFor bounds [] (model.seen late Records) (model.seen old) =
          subst (λ (d : Content). StandsFor bounds [] d (model.seen old)) (sym (same_content (model.seen late Records) (model.seen mid Records) (reads.nothing_written.seen_same Records)))
          (c.in_ok-redo.ensures.records (reads.after.honest before)) in
          let consistent = reads.consistent [] (c.in_ok-redo.ensures.consistent (reads.after.honest before)) in
          emptied_on model c.in_ok-redo.redo old late c.restart.new.files first stands c.in_ok-redo.ensures.bounds (c.restart.ensures.any_moment [] consistent)
          ),
    )

pub returns-clause-kept : goal.returns-clause-kept
returns-clause-kept g c honest =
    let model = g.F.FilePair.model in
    let reads = c.in_ok-text.ensures.reads in
    let text = c.in_ok-text.text in
    let Opened : Type 0 = KeptValue g.row.F.Denot × Text in
    let p : Parts = parts_around text.table.items text.records.items text.around in
    let kept : KeptValue g.row.F.Denot = record { files = c.restart.new.files; redo = c.restart.new.self; table = text.table.items; records = text.records.items; has_stopped = false } in
    let sure : model.is_honest c.restart.new.files = subst (λ (o : Opened). model.is_honest o.0.files) c.over.ensures honest in
    let before = c.restart.ensures.after.honest sure in
    let consistent = reads.consistent [] (c.in_ok-redo.ensures.consistent (reads.after.honest before)) in
    let holds : Holds p (model.seen c.read_text.new.files Records) =
    subst (λ (d : Content). Holds p d) (sym (same_content (model.seen c.read_text.new.files Records) (model.seen c.recover.new.files Records) (reads.nothing_written.seen_same Records))) (c.in_ok-text.ensures.found before) in
    subst (λ (o : Opened). Keeps model (parts_around o.0.table o.0.records o.1.around) o.0) (sym c.over.ensures)
    (keeps_emptied model p c.read_text.new.files kept (c.in_ok-restart.ensures.consistent [] consistent) c.restart.ensures.records holds refl refl (c.restart.ensures.bounds ∙ c.in_ok-redo.ensures.bounds))

pub returns-clause-any_moment : goal.returns-clause-any_moment
returns-clause-any_moment g c honest =
    let model = g.F.FilePair.model in
    let reads = c.in_ok-text.ensures.reads in
    let Opened : Type 0 = KeptValue g.row.F.Denot × Text in
    let sure : model.is_honest c.restart.new.files = subst (λ (o : Opened). model.is_honest o.0.files) c.over.ensures honest in
    let before = c.restart.ensures.after.honest sure in
    let old = c.args.files in
    let mid = c.recover.new.files in
    let late = c.read_text.new.files in
    let first = opens_on model old mid late (c.recover.ensures.any_moment (reads.after.honest before)) reads.nothing_written (g.met.F.FilePair.counts_now mid) in
    let stands : StandsFor bounds [] (model.seen late Records) (model.seen old) =
    subst (λ (d : Content). StandsFor bounds [] d (model.seen old)) (sym (same_content (model.seen late Records) (model.seen mid Records) (reads.nothing_written.seen_same Records)))
    (c.in_ok-redo.ensures.records (reads.after.honest before)) in
    let consistent = reads.consistent [] (c.in_ok-redo.ensures.consistent (reads.after.honest before)) in
    subst (λ (o : Opened). LeavesOnly model c.args.files o.0.files (λ d. model.may_leave c.args.files d ⊎ FindsSame (model.seen c.args.files) d)) (sym c.over.ensures)
    (emptied_on model c.in_ok-redo.redo old late c.restart.new.files first stands c.in_ok-redo.ensures.bounds (c.restart.ensures.any_moment [] consistent))
