use Rattle.oram_kept.proofs.FirstText.{written_files_hold}
use Rattle.oram_kept.proofs.laws.written_files_hold.Goals as goal

pub returns : goal.returns
returns g c = written_files_hold g.F.FilePair.model
