use Rattle.std.proofs.Common.{None, subst, sym}
use Rattle.std.specs.Prelude.{replicate}
use Rattle.oram_host.proofs.Answered.{answering}
use Rattle.oram_redo.specs.declared.file_pair.FileKind.TheVariants.{Records}
use Rattle.oram_store.specs.KeptRecords.{IsSound, StoreValue}
use Rattle.oram_store.proofs.Lives.{stands_alone}
use Rattle.oram_disk_host.proofs.Lasting.{was_honest}
use Rattle.oram_disk_host.proofs.laws.first_connection.Goals as goal

pub returns : goal.returns
returns g c =
    let model = g.F.FilePair.model in
    let seen = model.seen c.create.new.files in
    let begun = c.new-hosted.result in
    let ends = c.answer_messages-served.ensures in
    let p = answering begun (g.R.Read.remaining c.args.reader.now) (g.W.Write.contents c.args.writer.now) in
    let q = answering c.answer_messages-served.new.hosted (g.R.Read.remaining c.answer_messages-served.new.reader) (g.W.Write.contents c.answer_messages-served.new.writer) in (
      begun,
      ends,
      λ honest.
          let before = subst (λ (s : StoreValue _). model.is_honest s.file.files) c.new-hosted.ensures.0 (was_honest model p q c.answer_messages-served.result ends honest) in
          let opened = c.in_ok-store.ensures.found before (replicate 256 None) (seen Records) (stands_alone seen c.in_ok-create.ensures.log) c.in_ok-create.ensures.records in
          subst (λ (s : StoreValue _). IsSound model s) (sym c.new-hosted.ensures.0) opened.1,
    )
