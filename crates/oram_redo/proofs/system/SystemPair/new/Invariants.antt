use Rattle.oram_redo.proofs.system.SystemPair.new.Given as goal

abbrev pub ghost-new : goal.ghost-new
ghost-new g a = g.held
