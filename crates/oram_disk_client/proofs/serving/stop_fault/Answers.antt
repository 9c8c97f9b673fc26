use Rattle.std.proofs.Common.{ℕ, List, subst}
use Rattle.oram_disk_client.specs.Faults.{IsAbout}
use Rattle.oram_disk_host.specs.declared.kinds.FaultKind.TheVariants.{UsedUp}
use Rattle.oram_disk_client.proofs.serving.stop_fault.Goals as goal

pub returns-then-stop : goal.returns-then-stop
returns-then-stop c =
    rw (c.in-None.is, c.if-stop.true) (subst (λ (name : List ℕ). IsAbout UsedUp name c.named.result) c.as_str-state.ensures.value c.named.ensures)
