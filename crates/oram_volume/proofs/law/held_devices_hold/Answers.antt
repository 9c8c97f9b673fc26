use Rattle.oram_volume.proofs.HeldArrays.{held_devices_hold}
use Rattle.oram_volume.proofs.law.held_devices_hold.Goals as goal

pub returns : goal.returns
returns c c' = held_devices_hold _ _
