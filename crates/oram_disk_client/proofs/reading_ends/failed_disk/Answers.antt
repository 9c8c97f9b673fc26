use Rattle.std.proofs.Common.{ℕ, List, subst}
use Rattle.oram_disk_client.specs.Faults.{IsAbout}
use Rattle.oram_disk_host.specs.declared.kinds.FaultKind.TheVariants as kind
use Rattle.oram_disk_client.proofs.reading_ends.failed_disk.Goals as goal

pub returns : goal.returns
returns c = subst (λ (name : List ℕ). IsAbout kind.Failed name c.named.result) c.as_str.ensures.value c.named.ensures
