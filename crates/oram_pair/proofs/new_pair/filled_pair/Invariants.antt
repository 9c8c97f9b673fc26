use Rattle.std.proofs.Common.{[]}
use Rattle.oram_pair.proofs.new_pair.filled_pair.Given as goal

abbrev pub ghost-new : goal.ghost-new
ghost-new g a = record { records = []; log = []; unsynced = [] }
