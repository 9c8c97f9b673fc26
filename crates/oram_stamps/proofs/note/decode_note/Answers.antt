use Rattle.std.proofs.Common.{◌∙◌, sym}
use Rattle.oram_stamps.proofs.Notes.{note_same}
use Rattle.oram_stamps.proofs.note.decode_note.Goals as goal

pub returns-clause-same : goal.returns-clause-same
returns-clause-same c = λ k notable is.
    c.in_ok-restarted.ensures ∙ note_same k c.args.check c.in-Some.number c.in-Some-next_number.begun c.in_ok-stamps.stamps.items c.args.note.now c.in-Some.rest.now c.in-Some-next_number.rest.now notable
    c.in-Some.ensures.fits c.in-Some-next_number.ensures.fits c.in_ok-stamps.ensures.fit c.in-Some.ensures.some c.in-Some-next_number.ensures.some c.in_ok-stamps.ensures.ok is
