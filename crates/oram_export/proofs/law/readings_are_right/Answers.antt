use Rattle.oram_export.proofs.Exporting.{readings_right}
use Rattle.oram_export.proofs.law.readings_are_right.Goals as goal

pub returns : goal.returns
returns g c = readings_right g.B.BatchLink.batches
