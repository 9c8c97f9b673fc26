use Rattle.std.proofs.Common.{◌≡◌, ◌∙◌, List, ℕ, refl, sym, ap, subst, Ok, Option}
use Rattle.std.specs.Prelude.{IfSome, IsSomeAnd}
use Rattle.oram_kept.specs.Layout.{Holds, head_of}
use Rattle.oram_kept.specs.Reading.{HasBody, Says, head_bytes, parts_around, records_place, texts_place}
use Rattle.oram_kept.specs.declared.head.Head.{Head}
use Rattle.oram_kept.specs.declared.reading.Text.{Text}
use Rattle.oram_kept.proofs.Held.{length-head}
use Rattle.oram_redo.specs.Content.{Content, Has, bytes_at}
use Rattle.oram_redo.specs.declared.file_pair.FileKind.TheVariants.{Records}
use Rattle.oram_redo.proofs.Bytes.{has_along, has_length, has_read}
use Rattle.oram_redo.proofs.Moments.{same_content}
use Rattle.oram_kept.proofs.opening.read_text.Goals as goal

pub returns-in_default-clause-none : goal.returns-in_default-clause-none
returns-in_default-clause-none g c none honest p holds =
    let content : Content = g.F.FilePair.model.seen c.args.files.now Records in
    let is : c.deref.result.now ≡ head_of p =
    c.deref.ensures.value ∙ c.in_ok-bytes.ensures.bytes honest ∙ has_length (head_of p) 4096 4096 48 content refl (sym (length-head p)) holds.head in
    subst (λ (read : Option Head). IsSomeAnd read (λ head. Says head p)) c.in_default.is (c.read-2.ensures.found p holds.room is)

pub returns-in_default-2-clause-none : goal.returns-in_default-2-clause-none
returns-in_default-2-clause-none g c none honest p holds =
    let model = g.F.FilePair.model in
    let content : Content = model.seen c.args.files.now Records in
    let at_pages = c.in_ok-record_pages.ensures.after.honest (c.in_ok-texts.ensures.after.honest honest) in
    let first : model.seen c.read.new.files Records ≡ content = same_content _ content (c.in_ok-bytes.ensures.nothing_written.seen_same Records) in
    let second : model.seen c.read-3.new.files Records ≡ content = same_content _ _ (c.in_ok-table_pages.ensures.nothing_written.seen_same Records) ∙ first in
    let third : model.seen c.read-4.new.files Records ≡ content = same_content _ _ (c.in_ok-record_pages.ensures.nothing_written.seen_same Records) ∙ second in
    let body : HasBody c.in-Some.head c.deref-2.result.now c.in_ok-record_pages.record_pages.items c.deref-3.result.now content = record {
      table_at = has_read c.table_pages_len.result 8192 content c.deref-2.result.now (c.deref-2.ensures.value ∙ c.in_ok-table_pages.ensures.bytes at_pages ∙ ap (bytes_at c.table_pages_len.result 8192) first);
      records_at = has_along c.in_ok-record_pages.record_pages.items c.records_at.result (records_place c.in-Some.head) content c.records_at.ensures
          (has_read c.record_pages_len.result c.records_at.result content c.in_ok-record_pages.record_pages.items (c.in_ok-record_pages.ensures.bytes (c.in_ok-texts.ensures.after.honest honest) ∙ ap (bytes_at c.record_pages_len.result c.records_at.result) second));
      texts_at = has_along c.deref-3.result.now c.texts_at.result (texts_place c.in-Some.head) content c.texts_at.ensures
          (has_read c.texts_len.result c.texts_at.result content c.deref-3.result.now (c.deref-3.ensures.value ∙ c.in_ok-texts.ensures.bytes honest ∙ ap (bytes_at c.texts_len.result c.texts_at.result) third));
    } in
    let is : c.deref.result.now ≡ head_of p =
    c.deref.ensures.value ∙ c.in_ok-bytes.ensures.bytes (c.in_ok-table_pages.ensures.after.honest at_pages) ∙ has_length (head_of p) 4096 4096 48 content refl (sym (length-head p)) holds.head in
    c.in_ok-text.ensures.none (ap Ok c.in_default-2.is) content body p (c.in-Some.ensures.found p holds.room is) holds

pub returns-clause-found : goal.returns-clause-found
returns-clause-found g c honest =
    let model = g.F.FilePair.model in
    let content : Content = model.seen c.args.files.now Records in
    let head : Head = c.in-Some.head in
    let at_pages = c.in_ok-record_pages.ensures.after.honest (c.in_ok-texts.ensures.after.honest honest) in
    let first : model.seen c.read.new.files Records ≡ content = same_content _ content (c.in_ok-bytes.ensures.nothing_written.seen_same Records) in
    let second : model.seen c.read-3.new.files Records ≡ content = same_content _ _ (c.in_ok-table_pages.ensures.nothing_written.seen_same Records) ∙ first in
    let third : model.seen c.read-4.new.files Records ≡ content = same_content _ _ (c.in_ok-record_pages.ensures.nothing_written.seen_same Records) ∙ second in
    let body : HasBody head c.deref-2.result.now c.in_ok-record_pages.record_pages.items c.deref-3.result.now content = record {
      table_at = has_read c.table_pages_len.result 8192 content c.deref-2.result.now (c.deref-2.ensures.value ∙ c.in_ok-table_pages.ensures.bytes at_pages ∙ ap (bytes_at c.table_pages_len.result 8192) first);
      records_at = has_along c.in_ok-record_pages.record_pages.items c.records_at.result (records_place head) content c.records_at.ensures
          (has_read c.record_pages_len.result c.records_at.result content c.in_ok-record_pages.record_pages.items (c.in_ok-record_pages.ensures.bytes (c.in_ok-texts.ensures.after.honest honest) ∙ ap (bytes_at c.record_pages_len.result c.records_at.result) second));
      texts_at = has_along c.deref-3.result.now c.texts_at.result (texts_place head) content c.texts_at.ensures
          (has_read c.texts_len.result c.texts_at.result content c.deref-3.result.now (c.deref-3.ensures.value ∙ c.in_ok-texts.ensures.bytes honest ∙ ap (bytes_at c.texts_len.result c.texts_at.result) third));
    } in
    let said : Has c.deref.result.now 4096 content = has_read 48 4096 content c.deref.result.now (c.deref.ensures.value ∙ c.in_ok-bytes.ensures.bytes (c.in_ok-table_pages.ensures.after.honest at_pages)) in
    let found = subst (λ (read : Option Text). IfSome read (λ text. Says head (parts_around text.table.items text.records.items text.around)
    × ((d : Content) → Has (head_bytes head) 4096 d → HasBody head c.deref-2.result.now c.in_ok-record_pages.record_pages.items c.deref-3.result.now d
    → Holds (parts_around text.table.items text.records.items text.around) d))) c.in-Some-2.is c.in_ok-text.ensures.found in
    found.1 content (subst (λ (l : List ℕ). Has l 4096 content) c.in-Some.ensures.whole said) body
