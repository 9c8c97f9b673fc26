use Rattle.std.proofs.Common.{[]}
use Rattle.oram_store.proofs.files.open_old.Given as goal

abbrev pub ghost-open_pair : goal.ghost-open_pair
ghost-open_pair a = record { records = []; log = []; unsynced = [] }
