-- A machine that goes on with the core that was read back.
use Rattle.std.proofs.Common.{◌≡◌, ℕ, List, Option, refl, subst, sym}
use Rattle.oram_core.specs.Changes.{Noted}
use Rattle.oram_semantics.specs.Run.{Shown}
use Rattle.oram_semantics.specs.State.{State, status_in}
use Rattle.oram_semantics.specs.declared.events.Event.TheVariants as event
use Rattle.oramsim.specs.Script.{Obeys, Running, after_turn}
use Rattle.oramsim.specs.Correspondence.{RunsOn, IsFaithful, IsAtRun, StaysFaithful}
use Rattle.oramsim.specs.declared.line.Line.TheVariants.{Reopen}
use Rattle.oramsim.specs.declared.machine.Machine.{Machine}
use Rattle.oramsim.proofs.Faithful.{unheard}

-- what its core has noted of changed entries is no part of the run
pub same_stands : (r : Running) (m n : Machine) (noted : Noted) → n ≡ record m { core = record m.core { noted = noted } } → IsAtRun r m → IsAtRun r n
same_stands r m n noted same f =
    subst (IsAtRun r) (sym same) (record { ranges = f.ranges; scheme = f.scheme; leads = f.leads; message = f.message; host = f.host; copy = f.copy })

-- a core that got the event that it was read back
pub reopened : (r : Running) (m n : Machine) (again : State) (old new : Option (List ℕ)) → again ≡ m.core.state
    → (x : Shown) × RunsOn r (after_turn r event.Reopen x) n old new × StaysFaithful r again event.Reopen x n.core.state
    → (later : Running) × Obeys r Reopen later × RunsOn r later n old new × (IsFaithful r m.core.state → IsFaithful later n.core.state)
reopened r m n again old new same q =
    (after_turn r event.Reopen q.0, (q.0, refl), q.1, λ h. q.2 r.host (unheard (status_in again) again.message event.Reopen r.host refl) (rw same h))
