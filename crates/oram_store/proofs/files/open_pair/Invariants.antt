use Rattle.oram_store.proofs.files.open_pair.Given as goal

abbrev pub ghost-new : goal.ghost-new
ghost-new g a = g.held
