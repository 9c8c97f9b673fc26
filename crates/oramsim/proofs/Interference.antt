-- A host that is kept, restored or changed.
use Rattle.std.proofs.Common.{◌≡◌, ℕ, Bool, true, false, Some, refl, sym, ap, ◌∙◌, subst}
use Rattle.std.specs.Prelude.{MatchBool}
use Rattle.oram_host.specs.Host.{Host}
use Rattle.oram_host.specs.Flips.{IsByteless, IsFlipped}
use Rattle.oram_host.specs.Swaps.{IsSwapped, LacksPair}
use Rattle.oramsim.specs.Script.{Obeys, Running, with_host}
use Rattle.oramsim.specs.Correspondence.{IsFaithful, IsAtRun}
use Rattle.oramsim.specs.declared.line.Line.TheVariants.{Restore, Snapshot, Swap, Tamper}
use Rattle.oramsim.specs.declared.machine.Machine.{Machine}

host_stands : (r : Running) (m : Machine) (h k : Host) → IsAtRun r m → h ≡ k → IsAtRun (with_host r k) (record m { server = h })
host_stands r m h k f same = record { ranges = f.ranges; scheme = f.scheme; leads = f.leads; message = f.message; host = same; copy = f.copy }

pub kept : (r : Running) (m : Machine) (k : Host) → IsAtRun r m → k ≡ m.server
    → (later : Running) × Obeys r Snapshot later × IsAtRun later (record m { snapshot = Some k }) × (IsFaithful r m.core.state → IsFaithful later m.core.state)
kept r m k f same = (
  record r { copy = Some r.host },
  refl,
  record { ranges = f.ranges; scheme = f.scheme; leads = f.leads; message = f.message; host = f.host; copy = ap (λ (h : Host). Some h) (same ∙ f.host) },
  λ h. record { calm = h.calm; alive = h.alive; world = h.world; array = h.array; serving = h.serving; hosts = h.hosts },
)

pub restored : (r : Running) (m : Machine) (h k : Host) → IsAtRun r m → m.snapshot ≡ Some k → h ≡ k → (later : Running) × Obeys r Restore later × IsAtRun later (record m { server = h })
restored r m h k f there same = (with_host r k, (k, sym f.copy ∙ there, refl), host_stands r m h k f same)

pub tampered : (r : Running) (m : Machine) (tree node offset : ℕ) (h : Host) (b : Bool) → IsAtRun r m → MatchBool b (IsFlipped m.server tree node offset h) (IsByteless m.server tree node offset × (h ≡ m.server))
    → MatchBool b ((later : Running) × Obeys r (Tamper tree node offset) later × IsAtRun later (record m { server = h })) (IsByteless r.host tree node offset)
tampered r m tree node offset h true f flipped = (with_host r h, (h, subst (λ (k : Host). IsFlipped k tree node offset h) f.host flipped, refl), host_stands r m h h f refl)
tampered r m tree node offset h false f none = subst (λ (k : Host). IsByteless k tree node offset) f.host none.0

pub swapped : (r : Running) (m : Machine) (tree_a node_a tree_b node_b : ℕ) (h : Host) (b : Bool) → IsAtRun r m
    → MatchBool b (IsSwapped m.server tree_a node_a tree_b node_b h) (LacksPair m.server tree_a node_a tree_b node_b × (h ≡ m.server))
    → MatchBool b ((later : Running) × Obeys r (Swap tree_a node_a tree_b node_b) later × IsAtRun later (record m { server = h })) (LacksPair r.host tree_a node_a tree_b node_b)
swapped r m tree_a node_a tree_b node_b h true f done =
    (with_host r h, (h, subst (λ (k : Host). IsSwapped k tree_a node_a tree_b node_b h) f.host done, refl), host_stands r m h h f refl)
swapped r m tree_a node_a tree_b node_b h false f none = subst (λ (k : Host). LacksPair k tree_a node_a tree_b node_b) f.host none.0
