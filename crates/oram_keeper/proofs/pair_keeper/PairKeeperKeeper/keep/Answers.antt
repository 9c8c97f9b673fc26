use Rattle.std.proofs.Common.{◌≡◌, ◌⊎◌, ℕ, List, [], ◌∷◌, ◌++◌, ◌∙◌, ap, sym, subst}
use Rattle.oram_rounds.specs.KeptParts.{text_of}
use Rattle.oram_kept.specs.Keeper.{FindsOneOf, Knows}
use Rattle.oram_kept.specs.Pages.{parts_of}
use Rattle.oram_kept.specs.Text.{Parts}
use Rattle.oram_redo.specs.FilePair.{LeavesOnly}
use Rattle.oram_core.specs.Changes.{AreTold}
use Rattle.oram_rounds.specs.LinkNotes.{AreRecordsTold}
use Rattle.oram_keeper.specs.Process.{IsTextOf, MayReadBack, PairKeeperState, kept_records, kept_table}
use Rattle.oram_keeper.proofs.ReadBack.{either, only_one, there}
use Rattle.oram_keeper.proofs.Texts.{text_is}
use Rattle.oram_keeper.proofs.pair_keeper.PairKeeperKeeper.keep.Goals as goal

pub returns-in-Ok-clause-there : goal.returns-in-Ok-clause-there
returns-in-Ok-clause-there g c =
    let text = c.args.text.now in
    let title : List ℕ = c.self.inside.title.items in
    let p : Parts = parts_of (record { title = c.deref.result; before = text.before; table = text.table; changes = c.changed_numbers.result; after = text.after; records = text.records.bytes; changed_records = c.changed_records.result }) in
    let is : IsTextOf title (text_of text) p =
    text_is title text.before.now text.table.now text.after.now text.records.bytes.now p
    (λ i. record { before = c.deref.ensures.value i ++ text.before.now; table = text.table.now; after = text.after.now; records = text.records.bytes.now }) in
    there title (text_of text) p [] _ c.in-Ok.ensures.texts is

pub returns-in-Ok-clause-only : goal.returns-in-Ok-clause-only
returns-in-Ok-clause-only g c other may =
    let text = c.args.text.now in
    let title : List ℕ = c.self.inside.title.items in
    let p : Parts = parts_of (record { title = c.deref.result; before = text.before; table = text.table; changes = c.changed_numbers.result; after = text.after; records = text.records.bytes; changed_records = c.changed_records.result }) in
    let is : IsTextOf title (text_of text) p =
    text_is title text.before.now text.table.now text.after.now text.records.bytes.now p
    (λ i. record { before = c.deref.ensures.value i ++ text.before.now; table = text.table.now; after = text.after.now; records = text.records.bytes.now }) in
    only_one title (text_of text) other p _ c.in-Ok.ensures.texts is may

pub returns-in-Ok-clause-any_moment : goal.returns-in-Ok-clause-any_moment
returns-in-Ok-clause-any_moment g c =
    let model = g.F.FilePair.model in
    let text = c.args.text.now in
    let title : List ℕ = c.self.inside.title.items in
    let p : Parts = parts_of (record { title = c.deref.result; before = text.before; table = text.table; changes = c.changed_numbers.result; after = text.after; records = text.records.bytes; changed_records = c.changed_records.result }) in
    let is : IsTextOf title (text_of text) p =
    text_is title text.before.now text.table.now text.after.now text.records.bytes.now p
    (λ i. record { before = c.deref.ensures.value i ++ text.before.now; table = text.table.now; after = text.after.now; records = text.records.bytes.now }) in
    subst (λ (v : PairKeeperState g.row.F.Denot). Knows model v.keeper → (q : Parts) × IsTextOf v.title (text_of text) q × LeavesOnly model v.keeper.kept.files c.keep.new.self.kept.files (FindsOneOf (q ∷ v.keeper.texts))) c.self.view_is
    (λ knows. (p, is, c.in-Ok.ensures.any_moment knows))

pub returns-in-Err-clause-any_moment : goal.returns-in-Err-clause-any_moment
returns-in-Err-clause-any_moment g c =
    let model = g.F.FilePair.model in
    let text = c.args.text.now in
    let title : List ℕ = c.self.inside.title.items in
    let p : Parts = parts_of (record { title = c.deref.result; before = text.before; table = text.table; changes = c.changed_numbers.result; after = text.after; records = text.records.bytes; changed_records = c.changed_records.result }) in
    let is : IsTextOf title (text_of text) p =
    text_is title text.before.now text.table.now text.after.now text.records.bytes.now p
    (λ i. record { before = c.deref.ensures.value i ++ text.before.now; table = text.table.now; after = text.after.now; records = text.records.bytes.now }) in
    subst (λ (v : PairKeeperState g.row.F.Denot). Knows model v.keeper → (q : Parts) × IsTextOf v.title (text_of text) q × LeavesOnly model v.keeper.kept.files c.keep.new.self.kept.files (FindsOneOf (q ∷ v.keeper.texts))) c.self.view_is
    (λ knows. (p, is, c.in-Err.ensures.any_moment knows))

pub returns-in-Err-clause-failed : goal.returns-in-Err-clause-failed
returns-in-Err-clause-failed g c other may =
    let text = c.args.text.now in
    let title : List ℕ = c.self.inside.title.items in
    let p : Parts = parts_of (record { title = c.deref.result; before = text.before; table = text.table; changes = c.changed_numbers.result; after = text.after; records = text.records.bytes; changed_records = c.changed_records.result }) in
    let is : IsTextOf title (text_of text) p =
    text_is title text.before.now text.table.now text.after.now text.records.bytes.now p
    (λ i. record { before = c.deref.ensures.value i ++ text.before.now; table = text.table.now; after = text.after.now; records = text.records.bytes.now }) in
    subst (λ (v : PairKeeperState g.row.F.Denot). (other ≡ text_of text) ⊎ MayReadBack v other) c.self.view_is
    (either title (text_of text) other p _ _ c.in-Err.ensures.tried is may)

pub keep-requires : goal.keep-requires
keep-requires g c =
    let text = c.args.text.now in
    let told = subst (λ (v : PairKeeperState g.row.F.Denot). AreTold text.changes (kept_table v) text.table.now) (sym c.self.view_is) c.requires.table in
    record {
      table = c.changed_numbers.ensures c.self.inside.texts.kept.table text.table.now told;
      records = c.changed_records.ensures.told c.self.inside.texts.kept.records text.records.bytes.now
          (subst (λ (v : PairKeeperState g.row.F.Denot). AreRecordsTold text.records.changes (kept_records v) text.records.bytes.now) (sym c.self.view_is) c.requires.records);
      place = c.changed_records.ensures.place c.self.inside.texts.kept.table text.table.now told;
    }

pub returns-in-Err-clause-table_before : goal.returns-in-Err-clause-table_before
returns-in-Err-clause-table_before g c = c.in-Err.ensures.table_before ∙ ap (λ (v : PairKeeperState g.row.F.Denot). kept_table v) c.self.view_is

pub returns-in-Err-clause-records_before : goal.returns-in-Err-clause-records_before
returns-in-Err-clause-records_before g c = c.in-Err.ensures.records_before ∙ ap (λ (v : PairKeeperState g.row.F.Denot). kept_records v) c.self.view_is
