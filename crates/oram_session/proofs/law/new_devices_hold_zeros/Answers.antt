use Rattle.oram_session.proofs.Honesty.{new_devices_hold_zeros}
use Rattle.oram_session.proofs.law.new_devices_hold_zeros.Goals as goal

pub returns : goal.returns
returns c c' = new_devices_hold_zeros _
