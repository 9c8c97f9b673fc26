use Rattle.oram_layout.proofs.Added.{file_at_first}
use Rattle.oram_layout.proofs.laws.an_empty_file.Goals as goal

pub returns : goal.returns
returns c = file_at_first
