use Rattle.oram_link_laws.proofs.Ran.{new_devices_hold_zeros_beside}
use Rattle.oram_link_laws.proofs.law.new_devices_hold_zeros_beside.Goals as goal

pub returns : goal.returns
returns g c = new_devices_hold_zeros_beside g.L.Link.calls
