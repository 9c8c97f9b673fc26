use Rattle.std.proofs.Common.{◌≡◌, ℕ, List, Option, Some, None, string_bytes, ap, subst, sym, ◌∙◌}
use Rattle.oram_disk_client.specs.Faults.{IsAbout}
use Rattle.oram_disk_host.specs.declared.kinds.FaultKind.{FaultKind}
use Rattle.oram_disk_host.specs.declared.kinds.FaultKind.TheVariants.{ReplacedState}
use Rattle.oram_disk_client.proofs.host_faults.introduction_fault.Goals as goal

-- the kind that is there
there : FaultKind → Option FaultKind → FaultKind
there other None = other
there other (Some kind) = kind

same : (a b : FaultKind) → Some a ≡ Some b → a ≡ b
unfolding there
same a b e = ap (there a) e

pub returns-in-Some-clause-state : goal.returns-in-Some-clause-state
returns-in-Some-clause-state c = λ is.
    let kind : c.in-Some.kind ≡ ReplacedState = same c.in-Some.kind ReplacedState (c.in-Some.ensures ∙ is) in
    subst (λ (k : FaultKind). IsAbout k (string_bytes c.args.settings.now.state) c.fault_about.result) kind (c.fault_about.ensures.state kind)

pub returns-in-Some-clause-host : goal.returns-in-Some-clause-host
returns-in-Some-clause-host c = λ kind is other.
    let its : c.in-Some.kind ≡ kind = same c.in-Some.kind kind (c.in-Some.ensures ∙ is) in
    subst (λ (k : FaultKind). IsAbout k (string_bytes c.args.settings.now.host) c.fault_about.result) its (c.fault_about.ensures.host (λ e. other (sym its ∙ e)))
