use Rattle.oram_redo.proofs.LawProofs.{logs_are_one, files_stand_for_one}
use Rattle.oram_redo.proofs.laws.one_reading.Goals as goal

pub returns-clause-log : goal.returns-clause-log
returns-clause-log c = logs_are_one

pub returns-clause-records : goal.returns-clause-records
returns-clause-records c = files_stand_for_one
