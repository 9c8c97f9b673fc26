use Rattle.oram_volume.proofs.NextProcess.{kept_bytes_outlast}
use Rattle.oram_volume.proofs.law.kept_bytes_outlast.Goals as goal

pub returns : goal.returns
returns c c' = kept_bytes_outlast _ _
