use Rattle.oram_volume.proofs.NextProcess.{begun_devices_hold}
use Rattle.oram_volume.proofs.law.begun_devices_hold.Goals as goal

pub returns : goal.returns
returns c c' = begun_devices_hold _ _
