use Rattle.oram_store.proofs.NewFiles.{new_files_stand}
use Rattle.oram_store.proofs.laws.new_files_stand.Goals as goal

pub returns : goal.returns
returns c = new_files_stand
