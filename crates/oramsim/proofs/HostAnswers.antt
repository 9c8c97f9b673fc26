-- The host's answer, and the machine after it.
use Rattle.std.proofs.Common.{◌≡◌, ◌<◌, true, ℕ, List, Option, refl, ap, ◌∙◌, subst}
use Rattle.std.specs.Prelude.{is_some}
use Rattle.oram_host.specs.Host.{Host}
use Rattle.oram_semantics.specs.Run.{Shown}
use Rattle.oram_semantics.specs.State.{status_in}
use Rattle.oram_semantics.specs.declared.events.Event.TheVariants.{Answer, Lost}
use Rattle.oram_host_laws.specs.Honest.{IsHonest}
use Rattle.oramsim.specs.Script.{IsAnswered, Obeys, HostAnswers, Running, after_turn, with_host}
use Rattle.oramsim.specs.Correspondence.{RunsOn, IsFaithful, IsWholeMachine, IsAtRun, StaysFaithful, answers_left}
use Rattle.oramsim.specs.declared.line.Line.TheVariants.{Late}
use Rattle.oramsim.specs.declared.machine.Machine.{Machine}
use Rattle.oramsim.proofs.Faithful.{late_honest, reply_honest}

-- The host has received the outstanding message, and the rest of the machine is as it was.
pub record IsHeard (m n : Machine) (bytes : List ℕ) : Type 0 where
  pub replies : HostAnswers m.server m.outstanding bytes n.server
  pub core : n.core ≡ m.core
  pub outstanding : n.outstanding ≡ m.outstanding
  pub snapshot : n.snapshot ≡ m.snapshot

pub replies_as : (r : Running) (m n : Machine) (bytes : List ℕ) → IsAtRun r m → IsHeard m n bytes → HostAnswers r.host r.message bytes n.server
replies_as r m n bytes f h = subst (λ (k : Host). HostAnswers k r.message bytes n.server) f.host (subst (λ (o : Option (List ℕ)). HostAnswers m.server o bytes n.server) f.message h.replies)

pub heard_stands : (r : Running) (m n : Machine) (bytes : List ℕ) → IsAtRun r m → IsHeard m n bytes → IsAtRun (with_host r n.server) n
heard_stands r m n bytes f h = record {
  ranges = rw h.core f.ranges;
  scheme = rw h.core f.scheme;
  leads = rw h.core f.leads;
  message = h.outstanding ∙ f.message;
  host = refl;
  copy = h.snapshot ∙ f.copy;
}

pub honest_at : (r : Running) (m n : Machine) (bytes : List ℕ) → IsWholeMachine m → IsAtRun r m → IsHeard m n bytes → IsHonest (status_in n.core.state) n.core.state.message (Answer bytes) r.host n.server
honest_at r m n bytes w f h = rw h.core (reply_honest m.core.state m.outstanding bytes r.host n.server w.1.waits w.1.latest (subst (λ (k : Host). HostAnswers k m.outstanding bytes n.server) f.host h.replies))

pub late_at : (r : Running) (m n : Machine) (bytes : List ℕ) → IsWholeMachine m → IsAtRun r m → IsHeard m n bytes → IsHonest (status_in n.core.state) n.core.state.message Lost r.host n.server
late_at r m n bytes w f h = rw h.core (late_honest m.core.state m.outstanding bytes r.host n.server w.1.waits w.1.latest (subst (λ (k : Host). HostAnswers k m.outstanding bytes n.server) f.host h.replies))

pub answered : (r : Running) (m n k : Machine) (bytes : List ℕ) (old new : Option (List ℕ)) → IsWholeMachine m → IsAtRun r m → IsHeard m n bytes
    → (x : Shown) × RunsOn (with_host r n.server) (after_turn (with_host r n.server) (Answer bytes) x) k old new × StaysFaithful (with_host r n.server) n.core.state (Answer bytes) x k.core.state
    → (x : Shown) × (later : Running) × IsAnswered r x later × RunsOn r later k old new × (IsFaithful r m.core.state → IsFaithful later k.core.state)
answered r m n k bytes old new w f h q =
    (q.0, after_turn (with_host r n.server) (Answer bytes) q.0, (bytes, n.server, replies_as r m n bytes f h, refl), q.1, λ faithful. q.2 r.host (honest_at r m n bytes w f h) (rw h.core faithful))

pub answer_lost : (r : Running) (m n k : Machine) (bytes : List ℕ) (old new : Option (List ℕ)) → IsWholeMachine m → IsAtRun r m → IsHeard m n bytes
    → (x : Shown) × RunsOn (with_host r n.server) (after_turn (with_host r n.server) Lost x) k old new × StaysFaithful (with_host r n.server) n.core.state Lost x k.core.state
    → (later : Running) × Obeys r Late later × RunsOn r later k old new × (IsFaithful r m.core.state → IsFaithful later k.core.state)
answer_lost r m n k bytes old new w f h q =
    (after_turn (with_host r n.server) Lost q.0, (bytes, n.server, replies_as r m n bytes f h, (q.0, refl)), q.1, λ faithful. q.2 r.host (late_at r m n bytes w f h) (rw h.core faithful))

-- Fewer answers are needed than the machine needed before the host received the message.
pub fewer_as : (m n k : Machine) → n.core ≡ m.core → n.outstanding ≡ m.outstanding
    → (true ≡ true → is_some n.outstanding ≡ true → answers_left k.core.device k.core.state k.outstanding < answers_left n.core.device n.core.state n.outstanding)
    → is_some m.outstanding ≡ true → answers_left k.core.device k.core.state k.outstanding < answers_left m.core.device m.core.state m.outstanding
fewer_as m n k a b h some = let got = h refl (ap is_some b ∙ some) in rw (a, b) at got
