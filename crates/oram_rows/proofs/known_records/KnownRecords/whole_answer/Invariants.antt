use Rattle.oram_near.specs.EmptyRecords.{made_with}
use Rattle.oram_rows.specs.Rows.{client_of}
use Rattle.oram_rows.proofs.WholeRows.{HasGone}
use Rattle.oram_rows.proofs.known_records.KnownRecords.whole_answer.Given as goal

abbrev pub invariant-loop-at : goal.invariant-loop-at
invariant-loop-at g l = HasGone (client_of (made_with g.E.EmptyRecords.record_at) l.self) l.request l.at l.initial.rest l.rest l.whole.items
