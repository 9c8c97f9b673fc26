use Rattle.std.proofs.Common.{[]}
use Rattle.oram_keeper.proofs.kept_files.read_once.Given as goal

abbrev pub ghost-of_copies : goal.ghost-of_copies
ghost-of_copies a = record { records = []; log = []; unsynced = [] }
