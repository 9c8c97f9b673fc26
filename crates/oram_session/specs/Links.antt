-- The calls of this crate's links: their outcomes, and how they change the link.
use Rattle.std.specs.Prelude.{◌≡◌, ℕ, ◌+◌, ◌-◌, ◌^◌, ◌&&◌, nat_le, nat_lt, min, Bool, List, Ok, Err, MatchBool}
use Rattle.oram_wire.specs.HostMessages.{answer_body}
use Rattle.oram_wire.specs.HostBodies.{IsAnswer}
use Rattle.oram_wire.specs.declared.host_messages.HostAnswer.{HostAnswer}
use Rattle.oram_host.specs.Host.{Host}
use Rattle.oram_host.specs.Service.{Serves}
use Rattle.oram_session.specs.Outcome.{Outcome, faults_after}
use Rattle.oram_session.specs.declared.link.LinkFault.TheVariants.{Io, OutOfMemory}

-- a link to a server in memory
pub record ToServer : Type 0 where
  pub host : Host
  pub faults : ℕ  -- how many calls had a fault

-- the host's answer; if there is no memory for it, the host is unchanged
abbrev pub AnswersOf : Host → List ℕ → Outcome → Host → Type 0
AnswersOf host body (Ok bytes) after = (answer : HostAnswer) × Serves host body answer after × IsAnswer answer × (bytes ≡ answer_body answer)
AnswersOf host body (Err fault) after = (fault ≡ OutOfMemory) × (after ≡ host)

pub record DirectCall (l : ToServer) (body : List ℕ) (outcome : Outcome) (m : ToServer) : Type 0 where
  pub answer : AnswersOf l.host body outcome m.host
  pub faults : m.faults ≡ faults_after l.faults outcome

-- a link over another one that simulates faults
pub record Faulty (L : Type 0) : Type 0 where
  pub inner : L
  pub at : ℕ  -- the first call that has a fault
  pub times : ℕ  -- how many have one
  pub after : Bool  -- whether the link below is called then
  pub calls : ℕ
  pub faults : ℕ

-- the next call is one of those that get a fault
abbrev pub is_due : {L : Type 0} → Faulty L → Bool
is_due l = nat_le l.at l.calls && nat_lt l.calls (l.at + l.times)

-- a call over a link with this relation of calls; the counts stop at their greatest number
pub record FaultyCall {L : Type 0} (calls : L → List ℕ → Outcome → L → Type 0) (l : Faulty L) (body : List ℕ) (outcome : Outcome) (m : Faulty L) : Type 0 where
  pub at : m.at ≡ l.at
  pub times : m.times ≡ l.times
  pub after : m.after ≡ l.after
  pub calls_made : m.calls ≡ min (l.calls + 1) (2 ^ 64 - 1)
  pub faults : m.faults ≡ faults_after l.faults outcome
  pub answer : MatchBool (is_due l)
      ((outcome ≡ Err Io) × MatchBool l.after ((dropped : Outcome) × calls l.inner body dropped m.inner) (m.inner ≡ l.inner))
      (calls l.inner body outcome m.inner)
