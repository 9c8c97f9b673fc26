use Rattle.std.proofs.Common.{◌≡◌, ℕ, ◌+◌, ◌^◌, ◌≤◌, [], List, length, refl, ap, sym, subst, ◌∙◌, arith}
use Rattle.std.specs.Prelude.{All}
use Rattle.oram_redo.specs.Batch.{patches_of}
use Rattle.oram_redo.specs.Content.{Content}
use Rattle.oram_redo.specs.FilePair.{LeavesOnly}
use Rattle.oram_redo.specs.Log.{Fits, Patch, entries, put_all}
use Rattle.oram_redo.specs.Redo.{IsCrashConsistent}
use Rattle.oram_redo.specs.declared.bounds.Bounds.{Bounds}
use Rattle.oram_redo.specs.declared.file_pair.FileKind.TheVariants.{Records}
use Rattle.oram_redo.proofs.Moments.{leads_to}
use Rattle.oram_kept.specs.Kept.{FindsEither, Keeps, KeptValue, StandsEither, bounds, newest_records, newest_table}
use Rattle.oram_kept.specs.Layout.{HasRecords, HasTable, Holds}
use Rattle.oram_kept.specs.Pages.{AreTold, AreToldRecords, StayInPlace, batch_for, parts_of, patches_of as pages_of}
use Rattle.oram_kept.specs.Text.{Parts}
use Rattle.oram_kept.proofs.Held.{batch_fits, batch_has_room, found_either, held, kept_after, length-head, lent_batch, nothing_done}
use Rattle.oram_kept.proofs.Renewed.{are_within, few}
use Rattle.oram_kept.proofs.kept_text.KeptText.put.Goals as goal

pub returns-in_err-change-clause-any_moment : goal.returns-in_err-change-clause-any_moment
returns-in_err-change-clause-any_moment g c p keeps =
    nothing_done g.F.FilePair.model p (parts_of c.args.text.now) c.args.self.now keeps (λ d left. g.met.F.FilePair.only_now c.args.self.now.files d left)

pub returns-in_err-batch-clause-any_moment : goal.returns-in_err-batch-clause-any_moment
returns-in_err-batch-clause-any_moment g c p keeps =
    nothing_done g.F.FilePair.model p (parts_of c.args.text.now) c.args.self.now keeps (λ d left. g.met.F.FilePair.only_now c.args.self.now.files d left)

pub commit-requires : goal.commit-requires
commit-requires g c =
    let q : Parts = parts_of c.args.text.now in
    let change = c.in_ok-change.change in
    let batch : patches_of c.deref.result.now ≡ batch_for (pages_of change.pages.items) q c.args.text.now.title.now c.args.text.now.before.now change.head.items =
    ap patches_of c.deref.ensures.value ∙ c.in_ok-batch.ensures ∙ lent_batch (pages_of change.pages.items) change.head.items c.lent.ensures.parts c.lent.ensures.pieces.0 c.lent.ensures.pieces.1 in
    let fits : All (Fits bounds) (batch_for (pages_of change.pages.items) q c.args.text.now.title.now c.args.text.now.before.now change.head.items) =
    batch_fits q c.args.text.now.title.now c.args.text.now.before.now (pages_of change.pages.items) change.head.items refl c.in_ok-change.ensures.room (ap length c.in_ok-change.ensures.head ∙ length-head q)
    (are_within c.args.text.now.changes c.args.text.now.changed_records q (pages_of change.pages.items) c.in_ok-change.ensures.pages) in
    subst (λ (b : Bounds). All (Fits b) (patches_of c.deref.result.now)) (sym c.self.invariant) (subst (λ (ps : List Patch). All (Fits bounds) ps) (sym batch) fits)

pub returns-clause-ok : goal.returns-clause-ok
returns-clause-ok g c consistent has has_records =
    let model = g.F.FilePair.model in
    let inside : KeptValue g.row.F.Denot = record { files = c.self.inside.files; redo = c.self.inside.redo; table = newest_table c.self.inside.last.texts; records = newest_records c.self.inside.last.texts; has_stopped = c.self.inside.has_stopped } in
    let q : Parts = parts_of c.args.text.now in
    let change = c.in_ok-change.change in
    let seen : Content = model.seen c.self.inside.files Records in
    let batch : patches_of c.deref.result.now ≡ batch_for (pages_of change.pages.items) q c.args.text.now.title.now c.args.text.now.before.now change.head.items =
    ap patches_of c.deref.ensures.value ∙ c.in_ok-batch.ensures ∙ lent_batch (pages_of change.pages.items) change.head.items c.lent.ensures.parts c.lent.ensures.pieces.0 c.lent.ensures.pieces.1 in
    let told : AreTold c.args.text.now.changes inside.table c.args.text.now.table.now = subst (λ (v : KeptValue g.row.F.Denot). AreTold c.args.text.now.changes v.table c.args.text.now.table.now) (sym c.self.view_is) c.requires.table in
    let told_records : AreToldRecords c.args.text.now.changed_records inside.records c.args.text.now.records.now = subst (λ (v : KeptValue g.row.F.Denot). AreToldRecords c.args.text.now.changed_records v.records c.args.text.now.records.now) (sym c.self.view_is) c.requires.records in
    let stay : StayInPlace c.args.text.now.changed_records inside.table c.args.text.now.table.now = subst (λ (v : KeptValue g.row.F.Denot). StayInPlace c.args.text.now.changed_records v.table c.args.text.now.table.now) (sym c.self.view_is) c.requires.place in
    let has_inside : HasTable inside.table seen = subst (λ (v : KeptValue g.row.F.Denot). HasTable v.table (model.seen v.files Records)) (sym c.self.view_is) has in
    let has_inside_records : HasRecords inside.table inside.records seen = subst (λ (v : KeptValue g.row.F.Denot). HasRecords v.table v.records (model.seen v.files Records)) (sym c.self.view_is) has_records in
    let sure : IsCrashConsistent model c.self.inside.redo [] c.self.inside.files = subst (λ (v : KeptValue g.row.F.Denot). IsCrashConsistent model v.redo [] v.files) (sym c.self.view_is) consistent in
    let holds : Holds q (put_all (patches_of c.deref.result.now) seen) =
    subst (λ (ps : List Patch). Holds q (put_all ps seen)) (sym batch)
    (held c.args.text.now.changes c.args.text.now.changed_records inside.table inside.records q c.args.text.now.title.now c.args.text.now.before.now (pages_of change.pages.items) change.head.items seen refl c.in_ok-change.ensures.room c.in_ok-change.ensures.head
    c.in_ok-change.ensures.pages told told_records stay has_inside has_inside_records) in
    kept_after model q _ c.commit.result (put_all (patches_of c.deref.result.now) seen) holds refl refl (c.commit.ensures.bounds ∙ c.self.invariant)
    (c.commit.ensures.consistent sure) c.commit.ensures.records

pub returns-clause-any_moment : goal.returns-clause-any_moment
returns-clause-any_moment g c p keeps =
    let model = g.F.FilePair.model in
    let inside : KeptValue g.row.F.Denot = record { files = c.self.inside.files; redo = c.self.inside.redo; table = newest_table c.self.inside.last.texts; records = newest_records c.self.inside.last.texts; has_stopped = c.self.inside.has_stopped } in
    let kept : Keeps model p inside = subst (λ (v : KeptValue g.row.F.Denot). Keeps model p v) (sym c.self.view_is) keeps in
    let q : Parts = parts_of c.args.text.now in
    let change = c.in_ok-change.change in
    let seen : Content = model.seen c.self.inside.files Records in
    let batch : patches_of c.deref.result.now ≡ batch_for (pages_of change.pages.items) q c.args.text.now.title.now c.args.text.now.before.now change.head.items =
    ap patches_of c.deref.ensures.value ∙ c.in_ok-batch.ensures ∙ lent_batch (pages_of change.pages.items) change.head.items c.lent.ensures.parts c.lent.ensures.pieces.0 c.lent.ensures.pieces.1 in
    let told : AreTold c.args.text.now.changes inside.table c.args.text.now.table.now = subst (λ (v : KeptValue g.row.F.Denot). AreTold c.args.text.now.changes v.table c.args.text.now.table.now) (sym c.self.view_is) c.requires.table in
    let told_records : AreToldRecords c.args.text.now.changed_records inside.records c.args.text.now.records.now = subst (λ (v : KeptValue g.row.F.Denot). AreToldRecords c.args.text.now.changed_records v.records c.args.text.now.records.now) (sym c.self.view_is) c.requires.records in
    let stay : StayInPlace c.args.text.now.changed_records inside.table c.args.text.now.table.now = subst (λ (v : KeptValue g.row.F.Denot). StayInPlace c.args.text.now.changed_records v.table c.args.text.now.table.now) (sym c.self.view_is) c.requires.place in
    let has : HasTable inside.table seen = subst (λ (t : List ℕ). HasTable t seen) (sym kept.table) kept.holds.table in
    let has_records : HasRecords inside.table inside.records seen =
    subst (λ (t : List ℕ). HasRecords t inside.records seen) (sym kept.table) (subst (λ (r : List ℕ). HasRecords p.table r seen) (sym kept.records) kept.holds.records) in
    let holds : Holds q (put_all (patches_of c.deref.result.now) seen) =
    subst (λ (ps : List Patch). Holds q (put_all ps seen)) (sym batch)
    (held c.args.text.now.changes c.args.text.now.changed_records inside.table inside.records q c.args.text.now.title.now c.args.text.now.before.now (pages_of change.pages.items) change.head.items seen refl c.in_ok-change.ensures.room c.in_ok-change.ensures.head
    c.in_ok-change.ensures.pages told told_records stay has has_records) in
    subst (λ (v : KeptValue g.row.F.Denot). LeavesOnly model v.files c.commit.new.files (FindsEither bounds p q)) c.self.view_is
    (leads_to model c.self.inside.files c.commit.new.files _ (FindsEither bounds p q) (c.commit.ensures.any_moment kept.consistent)
    (λ d stands. found_either p q seen (put_all (patches_of c.deref.result.now) seen) d kept.holds holds
    (subst (λ (b : Bounds). StandsEither b seen (put_all (patches_of c.deref.result.now) seen) d) c.self.invariant stands)))

pub returns-clause-full : goal.returns-clause-full
returns-clause-full g c full room =
    let q : Parts = parts_of c.args.text.now in
    let change = c.in_ok-change.change in
    let batch : patches_of c.deref.result.now ≡ batch_for (pages_of change.pages.items) q c.args.text.now.title.now c.args.text.now.before.now change.head.items =
    ap patches_of c.deref.ensures.value ∙ c.in_ok-batch.ensures ∙ lent_batch (pages_of change.pages.items) change.head.items c.lent.ensures.parts c.lent.ensures.pieces.0 c.lent.ensures.pieces.1 in
    let short = batch_has_room q c.args.text.now.title.now c.args.text.now.before.now (pages_of change.pages.items) change.head.items refl room (ap length c.in_ok-change.ensures.head ∙ length-head q)
    (are_within c.args.text.now.changes c.args.text.now.changed_records q (pages_of change.pages.items) c.in_ok-change.ensures.pages)
    (few c.args.text.now.changes c.args.text.now.changed_records q (pages_of change.pages.items) c.in_ok-change.ensures.pages) in
    let over : 2 ^ 40 ≤ 4096 + 2 ^ 26 + length (entries (batch_for (pages_of change.pages.items) q c.args.text.now.title.now c.args.text.now.before.now change.head.items)) =
    subst (λ (ps : List Patch). 2 ^ 40 ≤ 4096 + 2 ^ 26 + length (entries ps)) batch
    (subst (λ (b : Bounds). b.log_end ≤ b.log_start + 2 ^ 26 + length (entries (patches_of c.deref.result.now))) c.self.invariant (c.commit.ensures.full full)) in
    omega (arith, short, over)
