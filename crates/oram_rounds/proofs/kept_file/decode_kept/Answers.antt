use Rattle.std.proofs.Common.{rules, List, ℕ, Err, ap, sym, ◌∙◌, ◌++◌, ◌≡◌, length, subst, refl, inl, inr}
use Rattle.std.proofs.lemmas.Result.{err_from_is_err_and}
use Rattle.oram_core.proofs.Fits.{at_err}
use Rattle.oram_core.specs.Core.{scheme_of}
use Rattle.oram_state.specs.AroundTable.{before_table}
use Rattle.oram_state.specs.DecodedCore.{AreSavedFields}
use Rattle.oram_rounds.specs.Batches.{texts}
use Rattle.oram_rounds.specs.Files.{IsWholeWith, check_of, checksum, front_text, kept_text}
use Rattle.oram_rounds.specs.LinkNotes.{LinkNote}
use Rattle.oram_rounds.specs.declared.kept_file.KeptCoreFault.TheVariants as KeptCoreFault
use Rattle.oram_rounds.proofs.KeptText.{joined_by, kept_same, split_by}
use Rattle.oram_rounds.proofs.kept_file.decode_kept.Goals as goal

pub returns-in-Ok-clause-ok : goal.returns-in-Ok-clause-ok
returns-in-Ok-clause-ok g c =
    let parts = c.in_ok-parts.parts in
    let read = c.in_ok-parts.ensures in
    let core = c.in-Ok.core in
    let records : List ℕ = c.args.records.now in
    let note : LinkNote = record { text = parts.note.now; records = records } in (
      record {
        counted = read.counted;
        note = note;
        short = read.short;
        fields = parts.fields.now;
        saved = subst (λ s. AreSavedFields parts.fields.now (g.S.Sealer.cipher s).overhead core.device core.state) (sym c.in-Ok.ensures.sealer) c.in-Ok.ensures.core;
        all = joined_by (texts parts.stores.items) note parts.front.now parts.fields.now c.args.text.now read.front read.ok;
      },
      ap (λ (t : List ℕ). let n : LinkNote = record { text = t; records = records } in n) (sym (c.in_ok-note.ensures.items_if_clones_equal (λ x y e. e))),
    )

pub split_around_table-requires : goal.split_around_table-requires
split_around_table-requires g c =
    let core = c.in-Ok.core in
    subst (λ s. AreSavedFields c.in_ok-parts.parts.fields.now (g.S.Sealer.cipher s).overhead core.device core.state) (sym c.in-Ok.ensures.sealer) c.in-Ok.ensures.core

pub returns-in-Ok-clause-check : goal.returns-in-Ok-clause-check
returns-in-Ok-clause-check g c =
    let parts = c.in_ok-parts.parts in
    let core = c.in-Ok.core in
    let stores = texts parts.stores.items in
    let records : List ℕ = c.args.records.now in
    let note : LinkNote = record { text = parts.note.now; records = records } in
    let overhead = (g.S.Sealer.cipher core.sealer).overhead in
    let split = c.split_around_table in
    let before = split.result.0.now in
    let after = split.result.1.now in
    c.check_of-check.ensures ∙ ap (λ (b : List ℕ). checksum (b ++ (before ++ after))) c.in_ok-parts.ensures.front
    ∙ ap (λ (b : List ℕ). checksum (front_text stores note ++ (b ++ after))) split.ensures.before
    ∙ ap (λ (b : List ℕ). checksum (front_text stores note ++ (before_table overhead core.device core.state ++ b))) split.ensures.after
    ∙ ap (λ (t : List ℕ). check_of (scheme_of g.S.Sealer.cipher core) stores (record { text = t; records = records }) core.state)
    (sym (c.in_ok-note.ensures.items_if_clones_equal (λ x y e. e)))

pub returns-in-Ok-clause-same : goal.returns-in-Ok-clause-same
returns-in-Ok-clause-same g c = λ d stores core f behind.
    let parts = c.in_ok-parts.parts in
    let read = c.in_ok-parts.ensures in
    let note : LinkNote = record { text = parts.note.now; records = c.args.records.now } in
    let here : c.args.text.now ++ c.args.records.now ≡ kept_text (texts parts.stores.items) note parts.fields.now =
    joined_by (texts parts.stores.items) note parts.front.now parts.fields.now c.args.text.now read.front read.ok in
    let same = kept_same (texts parts.stores.items) stores note f.note parts.fields.now f.fields read.counted f.counted read.short f.short (sym here ∙ f.all) in
    let again : AreSavedFields parts.fields.now (g.S.Sealer.cipher c.args.sealer).overhead d core =
    subst (λ (text : List ℕ). AreSavedFields text (g.S.Sealer.cipher c.args.sealer).overhead d core) (sym same.2) f.saved in
    let one = c.in-Ok.ensures.same d core again in
    (same.0, one.0, one.1, c.in_ok-note.ensures.items_if_clones_equal (λ x y e. e) ∙ ap (λ (n : LinkNote). n.text) same.1)

pub returns-in-Err-clause-only : goal.returns-in-Err-clause-only
returns-in-Err-clause-only g c = λ d stores core f behind.
    let parts = c.in_ok-parts.parts in
    let read = c.in_ok-parts.ensures in
    let note : LinkNote = record { text = parts.note.now; records = c.args.records.now } in
    let here : c.args.text.now ++ c.args.records.now ≡ kept_text (texts parts.stores.items) note parts.fields.now =
    joined_by (texts parts.stores.items) note parts.front.now parts.fields.now c.args.text.now read.front read.ok in
    let same = kept_same (texts parts.stores.items) stores note f.note parts.fields.now f.fields read.counted f.counted read.short f.short (sym here ∙ f.all) in
    let again : AreSavedFields parts.fields.now (g.S.Sealer.cipher c.args.sealer).overhead d core =
    subst (λ (text : List ℕ). AreSavedFields text (g.S.Sealer.cipher c.args.sealer).overhead d core) (sym same.2) f.saved in
    c.from.ensures.0 (c.in-Err.ensures.only d core again)

pub returns-in-Err-clause-core : goal.returns-in-Err-clause-core
returns-in-Err-clause-core g c = λ fault e.
    let parts = c.in_ok-parts.parts in
    let read = c.in_ok-parts.ensures in
    let note : LinkNote = record { text = parts.note.now; records = c.args.records.now } in
    let all = joined_by (texts parts.stores.items) note parts.front.now parts.fields.now c.args.text.now read.front read.ok in
    let whole : IsWholeWith c.args.text.now c.args.records.now =
    record { whole = record { stores = texts parts.stores.items; note = note; fields = parts.fields.now; counted = read.counted; short = read.short; all = all }; behind = refl } in
    (whole, let why = c.in-Err.ensures.fault in let told = c.from.ensures in search rules)

pub returns-in_err-parts-clause-only : goal.returns-in_err-parts-clause-only
returns-in_err-parts-clause-only g c = λ d stores core f behind.
    let long : length f.note.records ≡ length c.args.records.now = ap length behind in
    let apart = split_by stores f.note f.fields c.args.text.now c.args.records.now long f.all in
    let p = err_from_is_err_and c.from_residual.result c.from_residual.ensures.1 in
    elim c.in_err-parts.ensures.fault [
      | inl torn ↦ absurd (c.in_err-parts.ensures.torn (ap Err torn) stores f.note f.fields f.counted f.short long apart.0)
      | inr memory ↦ rw p.1 (p.2 ∙ memory)
    ]

pub returns-in_err-parts-clause-torn : goal.returns-in_err-parts-clause-torn
returns-in_err-parts-clause-torn g c = λ e it.
    let whole = it.whole in
    let long : length whole.note.records ≡ length c.args.records.now = ap length it.behind in
    let apart = split_by whole.stores whole.note whole.fields c.args.text.now c.args.records.now long whole.all in
    let torn = ap Err (sym (at_err c.from_residual.result _ KeptCoreFault.Torn e c.from_residual.ensures.1)) in
    c.in_err-parts.ensures.torn torn whole.stores whole.note whole.fields whole.counted whole.short long apart.0
