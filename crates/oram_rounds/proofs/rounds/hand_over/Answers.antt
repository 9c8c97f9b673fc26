use Rattle.std.proofs.Common.{◌++◌, List, ℕ, ◌∙◌, ◌≡◌, sym, subst, inl, inr}
use Rattle.std.proofs.lemmas.Result.{on_err_weaker, on_ok_weaker}
use Rattle.oram_core.specs.Changes.{AreTold}
use Rattle.oram_state.specs.StateBytes.{with_table}
use Rattle.oram_rounds.specs.KeptParts.{text_of, whole_text}
use Rattle.oram_rounds.specs.LinkNotes.{AreRecordsTold}
use Rattle.oram_rounds.specs.declared.keeper.RecordChanges.{RecordChanges}
use Rattle.oram_rounds.proofs.rounds.hand_over.Goals as goal

pub keep-requires-clause-table : goal.keep-requires-clause-table
keep-requires-clause-table g c =
    let kept : List ℕ = g.K.Keeper.kept_table c.args.keeper.now in
    subst (λ (t : List ℕ). AreTold c.with_table.result.changes kept t) (sym c.with_table.ensures.table)
    (c.with_table.ensures.changes kept (subst (λ (t : List ℕ). AreTold c.changes.result kept t) (sym c.table.ensures) (c.changes.ensures.enough kept c.requires.noted)))

pub keep-requires-clause-records : goal.keep-requires-clause-records
keep-requires-clause-records g c =
    let kept : List ℕ = g.K.Keeper.kept_records c.args.keeper.now in
    let given = c.args.records in
    subst (λ (changes : RecordChanges). AreRecordsTold changes kept c.with_table.result.records.bytes.now) (sym c.with_table.ensures.record_changes)
    (subst (λ (bytes : List ℕ). AreRecordsTold given.changes kept bytes) (sym c.with_table.ensures.records) c.requires.told)

pub returns-clause-there : goal.returns-clause-there
returns-clause-there g c =
    let text = c.args.text.now in
    let table : List ℕ = c.args.core.now.state.table in
    let handed : text_of c.with_table.result ≡ whole_text text table c.args.records.bytes.now =
    (λ i. with_table (c.with_table.ensures.before i) ((c.with_table.ensures.table ∙ c.table.ensures) i) (c.with_table.ensures.after i) ++ c.with_table.ensures.records i) in
    on_ok_weaker c.keep.result (λ there. subst (λ (b : List ℕ). g.K.Keeper.reads_back c.keep.new.self b) handed there) c.keep.ensures.there

pub returns-clause-only : goal.returns-clause-only
returns-clause-only g c =
    let text = c.args.text.now in
    let table : List ℕ = c.args.core.now.state.table in
    let handed : text_of c.with_table.result ≡ whole_text text table c.args.records.bytes.now =
    (λ i. with_table (c.with_table.ensures.before i) ((c.with_table.ensures.table ∙ c.table.ensures) i) (c.with_table.ensures.after i) ++ c.with_table.ensures.records i) in
    on_ok_weaker c.keep.result (λ only bytes back. only bytes back ∙ handed) c.keep.ensures.only

pub returns-clause-failed : goal.returns-clause-failed
returns-clause-failed g c =
    let text = c.args.text.now in
    let table : List ℕ = c.args.core.now.state.table in
    let handed : text_of c.with_table.result ≡ whole_text text table c.args.records.bytes.now =
    (λ i. with_table (c.with_table.ensures.before i) ((c.with_table.ensures.table ∙ c.table.ensures) i) (c.with_table.ensures.after i) ++ c.with_table.ensures.records i) in
    on_err_weaker c.keep.result (λ failed bytes back. elim (failed bytes back) [ inl same ↦ inl (same ∙ handed) | inr old ↦ inr old ]) c.keep.ensures.failed

pub returns-clause-table : goal.returns-clause-table
returns-clause-table g c = on_ok_weaker c.keep.result (λ same. same ∙ c.with_table.ensures.table ∙ c.table.ensures) c.keep.ensures.table

pub returns-clause-records : goal.returns-clause-records
returns-clause-records g c = on_ok_weaker c.keep.result (λ same. same ∙ c.with_table.ensures.records) c.keep.ensures.records
