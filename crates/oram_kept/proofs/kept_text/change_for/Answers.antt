use Rattle.std.proofs.Common.{arith}
use Rattle.oram_kept.proofs.Tables.{length-numbers}
use Rattle.oram_kept.proofs.kept_text.change_for.Goals as goal

pub add_told_pages-requires-clause-len : goal.add_told_pages-requires-clause-len
add_told_pages-requires-clause-len c = let room = c.have_room.ensures.0 c.if-not-have_room.false in omega (arith, room.table, length-numbers c.args.text.now.table.now)
