use Rattle.std.proofs.Common.{[]}
use Rattle.oram_keeper.proofs.kept_files.open_kept.Given as goal

abbrev pub ghost-new : goal.ghost-new
ghost-new a = record { records = []; log = []; unsynced = [] }
