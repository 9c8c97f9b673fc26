use Rattle.std.proofs.Common.{◌++◌, List, ℕ, ap, ◌∙◌, refl}
use Rattle.oram_state.specs.AroundTable.{before_table}
use Rattle.oram_state.specs.StateBytes.{with_table}
use Rattle.oram_rounds.specs.Batches.{texts}
use Rattle.oram_rounds.specs.Files.{checksum, front_text}
use Rattle.oram_rounds.specs.LinkNotes.{LinkNote}
use Rattle.oram_rounds.proofs.KeptText.{written_by}
use Rattle.oram_rounds.proofs.kept_file.encode_kept.Goals as goal

pub returns-clause-file : goal.returns-clause-file
returns-clause-file g c =
    let fields = c.in_ok-fields.fields in
    let table = c.args.core.now.state.table in
    let note : LinkNote = record { text = c.args.note.now; records = c.args.records.now } in
    let all = written_by (texts c.args.stores.now) note c.push_front.new.text.items c.extend_from_slice.new.self.items fields.before.items table fields.after.items
    c.in_ok-push_front.ensures.written
    (c.in_ok-extend_from_slice.ensures.items ∙ ap (λ (b : List ℕ). c.push_front.new.text.items ++ b) c.deref-5.ensures.value) in (
      record {
        counted = c.in_ok-push_front.ensures.counted;
        note = note;
        short = c.in_ok-push_front.ensures.short;
        fields = with_table fields.before.items table fields.after.items;
        saved = c.in_ok-fields.ensures.saved;
        all = all;
      },
      refl,
    )

pub returns-clause-check : goal.returns-clause-check
returns-clause-check g c =
    let stores = texts c.args.stores.now in
    let note : LinkNote = record { text = c.args.note.now; records = c.args.records.now } in
    let overhead = (g.S.Sealer.cipher c.args.core.now.sealer).overhead in
    let d = c.args.core.now.device in
    let s = c.args.core.now.state in
    let fields = c.in_ok-fields.fields in
    let front = c.push_front.new.text.items in
    c.check_of-check.ensures ∙ ap (λ (b : List ℕ). checksum (b ++ (c.deref-3.result.now ++ c.deref-4.result.now))) c.deref-2.ensures.value
    ∙ ap (λ (b : List ℕ). checksum (front ++ (b ++ c.deref-4.result.now))) c.deref-3.ensures.value ∙ ap (λ (b : List ℕ). checksum (front ++ (fields.before.items ++ b))) c.deref-4.ensures.value
    ∙ ap (λ (b : List ℕ). checksum (b ++ (fields.before.items ++ fields.after.items))) c.in_ok-push_front.ensures.written
    ∙ ap (λ (b : List ℕ). checksum (front_text stores note ++ (b ++ fields.after.items))) c.in_ok-fields.ensures.before
    ∙ ap (λ (b : List ℕ). checksum (front_text stores note ++ (before_table overhead d s ++ b))) c.in_ok-fields.ensures.after
