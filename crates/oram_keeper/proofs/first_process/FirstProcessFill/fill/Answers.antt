use Rattle.oram_kept.specs.Pages.{parts_of}
use Rattle.oram_kept.specs.declared.text.ChangedNumbers.TheVariants.{Any}
use Rattle.oram_kept.specs.declared.text.ChangedRecords.TheVariants as records
use Rattle.oram_keeper.proofs.Texts.{text_is}
use Rattle.oram_keeper.proofs.first_process.FirstProcessFill.fill.Goals as goal
use Rattle.std.proofs.Common.{refl}

pub returns-in-Ok-clause-filled : goal.returns-in-Ok-clause-filled
returns-in-Ok-clause-filled g c =
    let first = c.args.self.now in
    let p = parts_of (record { title = first.title; before = first.text.before; table = first.text.table; changes = Any; after = first.text.after; records = first.text.records.bytes; changed_records = records.Any }) in
    record {
      text = p;
      is = text_is first.title.now first.text.before.now first.text.table.now first.text.after.now first.text.records.bytes.now p refl;
      holds = c.in-Ok.ensures.holds;
    }
