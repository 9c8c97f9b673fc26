use Rattle.oram_layout.proofs.Changes.{mark_puts, marks_kept}
use Rattle.oram_layout.proofs.laws.marked_records.Goals as goal

pub returns-clause-put : goal.returns-clause-put
returns-clause-put c = mark_puts

pub returns-clause-file : goal.returns-clause-file
returns-clause-file c = marks_kept
