use Rattle.oram_redo.proofs.Logs.{head_parts}
use Rattle.oram_redo.proofs.batch.head_of.Goals as goal

pub returns-clause-open : goal.returns-clause-open
returns-clause-open c =
    let parts = head_parts c.args.bytes.now c.requires c.if-bytes.false in
    let place = c.place_in.ensures in
    let len = c.length_in.ensures in
    cc (parts, place, len)
