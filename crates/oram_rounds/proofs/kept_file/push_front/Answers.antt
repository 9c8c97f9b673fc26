use Rattle.oram_rounds.specs.Batches.{texts}
use Rattle.oram_rounds.specs.LinkNotes.{LinkNote}
use Rattle.oram_rounds.proofs.KeptText.{front_by}
use Rattle.oram_rounds.proofs.kept_file.push_front.Goals as goal

pub returns-clause-written : goal.returns-clause-written
returns-clause-written c =
    let note : LinkNote = record { text = c.args.note.now; records = c.args.records.now } in
    front_by (texts c.args.stores.now) note c.args.text.now.items c.push_stores.new.text.items c.push_sized.new.text.items c.push_len.new.text.items
    c.requires c.in_ok-push_stores.ensures.written c.in_ok-push_sized.ensures.written c.in_ok-push_len.ensures.written
