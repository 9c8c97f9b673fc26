use Rattle.std.proofs.Common.{◌≡◌, [], List, refl, ap, sym, subst, ◌∙◌}
use Rattle.oram_redo.specs.Batch.{patches_of}
use Rattle.oram_redo.specs.Content.{Content}
use Rattle.oram_redo.specs.Log.{Patch, put_all}
use Rattle.oram_redo.specs.declared.file_pair.FileKind.TheVariants.{Records}
use Rattle.oram_redo.proofs.Moments.{same_content}
use Rattle.oram_kept.specs.Layout.{Holds, records_at}
use Rattle.oram_kept.specs.Pages.{batch_for, parts_of, patches_of as pages_of}
use Rattle.oram_kept.specs.Text.{Parts}
use Rattle.oram_kept.specs.declared.text.ChangedNumbers.TheVariants as numbers
use Rattle.oram_kept.specs.declared.text.ChangedRecords.TheVariants.{Any}
use Rattle.oram_kept.proofs.FirstText.{front_stays}
use Rattle.oram_kept.proofs.Held.{held, lent_batch, on_ok}
use Rattle.oram_kept.proofs.Renewed.{are_within, no_pages}
use Rattle.oram_kept.proofs.kept_text.write_first.Goals as goal

pub returns-clause-holds : goal.returns-clause-holds
returns-clause-holds g c =
    let q : Parts = parts_of c.args.text.now in
    let change = c.in_ok-change.change in
    let seen : Content = g.F.FilePair.model.seen c.args.files.now Records in
    let batch : patches_of c.deref.result.now ≡ batch_for (pages_of change.pages.items) q c.args.text.now.title.now c.args.text.now.before.now change.head.items =
    ap patches_of c.deref.ensures.value ∙ c.in_ok-batch.ensures ∙ lent_batch (pages_of change.pages.items) change.head.items c.lent.ensures.parts c.lent.ensures.pieces.0 c.lent.ensures.pieces.1 in
    let holds : Holds q (put_all (patches_of c.deref.result.now) seen) =
    subst (λ (ps : List Patch). Holds q (put_all ps seen)) (sym batch)
    (held numbers.Any Any [] [] q c.args.text.now.title.now c.args.text.now.before.now (pages_of change.pages.items) change.head.items seen refl c.in_ok-change.ensures.room c.in_ok-change.ensures.head
    c.in_ok-change.ensures.pages tt tt tt (no_pages 8192 seen) (no_pages (records_at []) seen)) in
    on_ok c.write_all.result c.write_all.ensures.records (λ same. subst (λ (d : Content). Holds q d) (sym (same_content _ _ same)) holds)

pub returns-clause-front : goal.returns-clause-front
returns-clause-front g c =
    let q : Parts = parts_of c.args.text.now in
    let change = c.in_ok-change.change in
    let seen : Content = g.F.FilePair.model.seen c.args.files.now Records in
    let batch : patches_of c.deref.result.now ≡ batch_for (pages_of change.pages.items) q c.args.text.now.title.now c.args.text.now.before.now change.head.items =
    ap patches_of c.deref.ensures.value ∙ c.in_ok-batch.ensures ∙ lent_batch (pages_of change.pages.items) change.head.items c.lent.ensures.parts c.lent.ensures.pieces.0 c.lent.ensures.pieces.1 in
    on_ok c.write_all.result c.write_all.ensures.records
    (λ same i below. same i ∙ ap (λ (ps : List Patch). put_all ps seen i) batch
    ∙ front_stays q c.args.text.now.title.now c.args.text.now.before.now (pages_of change.pages.items) change.head.items seen
    (are_within numbers.Any Any q (pages_of change.pages.items) c.in_ok-change.ensures.pages) i below)
