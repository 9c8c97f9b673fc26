use Rattle.std.proofs.Common.{ℕ, List, string_bytes, subst}
use Rattle.oram_disk_client.specs.Faults.{IsAbout}
use Rattle.oram_disk_client.proofs.host_faults.fault_about.Goals as goal

pub returns-in-ReplacedState-clause-state : goal.returns-in-ReplacedState-clause-state
returns-in-ReplacedState-clause-state c = λ is. subst (λ (name : List ℕ). IsAbout c.args.kind name c.named.result) c.as_str.ensures.value c.named.ensures

pub returns-in_default : goal.returns-in_default
returns-in_default c = record {
  state = λ is. absurd (c.in_default.not-ReplacedState is);
  host = λ other. subst (λ (name : List ℕ). IsAbout c.args.kind name c.named-in_default.result) c.as_str-in_default.ensures.value c.named-in_default.ensures;
}
