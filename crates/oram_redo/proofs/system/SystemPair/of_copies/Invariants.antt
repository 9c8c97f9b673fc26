use Rattle.oram_redo.proofs.system.SystemPair.of_copies.Given as goal

abbrev pub ghost-new : goal.ghost-new
ghost-new g a = g.held
