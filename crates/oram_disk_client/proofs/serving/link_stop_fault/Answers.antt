use Rattle.oram_disk_client.specs.Serving.{IsHostFault}
use Rattle.oram_disk_client.proofs.serving.link_stop_fault.Goals as goal

pub returns-in-Some : goal.returns-in-Some
returns-in-Some c =
    let told : IsHostFault c.args.trouble c.args.settings.now c.host_fault.result = record { state = c.host_fault.ensures.state; host = c.host_fault.ensures.host } in
    rw c.in-Some.is (rw c.in-Some.is at told)
