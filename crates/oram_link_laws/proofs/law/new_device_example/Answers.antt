use Rattle.oram_link_laws.proofs.Device.{new_device_example}
use Rattle.oram_link_laws.proofs.law.new_device_example.Goals as goal

pub returns : goal.returns
returns c = new_device_example
