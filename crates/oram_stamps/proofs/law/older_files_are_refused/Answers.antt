use Rattle.oram_stamps.proofs.OlderFiles.{older_files_are_refused}
use Rattle.oram_stamps.proofs.law.older_files_are_refused.Goals as goal

pub returns : goal.returns
returns c = older_files_are_refused
