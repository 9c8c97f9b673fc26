use Rattle.std.proofs.Common.{string_bytes, subst, sym, ◌∙◌}
use Rattle.oram_disk_client.specs.Faults.{IsAbout}
use Rattle.oram_disk_host.specs.declared.kinds.FaultKind.{FaultKind}
use Rattle.oram_disk_client.proofs.host_faults.host_fault.Goals as goal

pub returns-clause-state : goal.returns-clause-state
returns-clause-state c = λ is.
    subst (λ (kind : FaultKind). IsAbout kind (string_bytes c.args.settings.now.state) c.fault_about.result) c.host_fault_kind.ensures
    (c.fault_about.ensures.state (c.host_fault_kind.ensures ∙ is))

pub returns-clause-host : goal.returns-clause-host
returns-clause-host c = λ other.
    subst (λ (kind : FaultKind). IsAbout kind (string_bytes c.args.settings.now.host) c.fault_about.result) c.host_fault_kind.ensures
    (c.fault_about.ensures.host (λ e. other (sym c.host_fault_kind.ensures ∙ e)))
