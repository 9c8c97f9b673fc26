use Rattle.std.proofs.Common.{List, ℕ, ap, ◌∙◌, ◌≡◌, refl, sym, subst, inl, inr}
use Rattle.std.proofs.lemmas.Result.{err_from_is_err_and}
use Rattle.oram_core.specs.Core.{scheme_of}
use Rattle.oram_rounds.specs.Files.{IsFileWith, check_of}
use Rattle.oram_rounds.specs.KeptParts.{whole_text}
use Rattle.oram_rounds.specs.LinkNotes.{LinkNote}
use Rattle.oram_rounds.specs.Rounds.{waiting}
use Rattle.oram_rounds.proofs.rounds.keep.Goals as goal

noted_by : (text records : List ℕ) (note : LinkNote) → text ≡ note.text → records ≡ note.records → (record { text = text; records = records }) ≡ note
noted_by text records note same also = (λ i. record { text = same i; records = also i })

pub returns-in_err-hand_over-clause-err : goal.returns-in_err-hand_over-clause-err
returns-in_err-hand_over-clause-err g c =
    let p = err_from_is_err_and c.from_residual-in_err-hand_over.result c.from_residual-in_err-hand_over.ensures.1 in
    let v = scheme_of g.S.Sealer.cipher c.args.core.now in
    let s = c.args.core.now.state in
    let text = c.in_ok-text.text in
    let file = whole_text text s.table c.records-records.result.bytes.now in
    let stores = waiting c.args.link.now in
    let note = g.B.BatchLink.notes c.args.link.now.inner in
    let noted = noted_by c.deref.result.now c.records-records.result.bytes.now note (c.deref.ensures.value ∙ c.in_ok-note.ensures) c.records-records.ensures.bytes in
    let is : IsFileWith v file stores note s = subst (λ (n : LinkNote). IsFileWith v file stores n s) noted
    (subst (λ (bodies : List (List ℕ)). IsFileWith v file bodies (record { text = c.deref.result.now; records = c.records-records.result.bytes.now }) s) c.waiting.ensures c.in_ok-text.ensures.file) in
    rw p.1 (
      λ bytes back. elim (c.in_err-hand_over.ensures.failed bytes back) [
        | inl same ↦ inl (subst (λ (b : List ℕ). IsFileWith v b stores note s) (sym same) is)
        | inr old ↦ inr old
      ],
      refl,
    )

pub returns-in_err-hand_over-clause-unchanged : goal.returns-in_err-hand_over-clause-unchanged
returns-in_err-hand_over-clause-unchanged g c =
    let p = err_from_is_err_and c.from_residual-in_err-hand_over.result c.from_residual-in_err-hand_over.ensures.1 in
    rw p.1 (refl, c.in_err-hand_over.ensures.table_before)

pub returns-clause-forgotten : goal.returns-clause-forgotten
returns-clause-forgotten g c = (c.forget_changes.ensures, c.in_ok-hand_over.ensures.table)

pub returns-clause-ok : goal.returns-clause-ok
returns-clause-ok g c =
    let v = scheme_of g.S.Sealer.cipher c.args.core.now in
    let s = c.args.core.now.state in
    let text = c.in_ok-text.text in
    let file = whole_text text s.table c.records-records.result.bytes.now in
    let stores = waiting c.args.link.now in
    let note = g.B.BatchLink.notes c.args.link.now.inner in
    let handed : LinkNote = record { text = c.deref.result.now; records = c.records-records.result.bytes.now } in
    let noted = noted_by c.deref.result.now c.records-records.result.bytes.now note (c.deref.ensures.value ∙ c.in_ok-note.ensures) c.records-records.ensures.bytes in (
      record {
        file = file;
        is = subst (λ (n : LinkNote). IsFileWith v file stores n s) noted
            (subst (λ (bodies : List (List ℕ)). IsFileWith v file bodies handed s) c.waiting.ensures c.in_ok-text.ensures.file);
        there = c.in_ok-hand_over.ensures.there;
        only = c.in_ok-hand_over.ensures.only;
        learned = subst (λ (n : ℕ). g.B.BatchLink.learns c.args.link.now.inner n c.keep.new.self.inner)
            (c.in_ok-text.ensures.check ∙ ap (λ (bodies : List (List ℕ)). check_of v bodies handed s) c.waiting.ensures ∙ ap (λ (n : LinkNote). check_of v stores n s) noted)
            c.keep.ensures.told;
      },
      c.keep.ensures.kept,
    )
