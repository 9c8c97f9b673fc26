-- The calls of a link that serves its own server over a connection to itself.
use Rattle.std.specs.Prelude.{◌≡◌, ℕ, ◌<◌, ◌≤◌, List, length, Option, Some, None, Ok, Err, IfSome, ◌⊎◌}
use Rattle.std.specs.Io.KnownBytes.{Appends}
use Rattle.oram_wire.specs.FrameStream.{frame}
use Rattle.oram_wire.specs.HostMessages.{answer_body}
use Rattle.oram_wire.specs.HostBodies.{IsAnswer}
use Rattle.oram_wire.specs.FrameIo.{GivesFrame}
use Rattle.oram_wire.specs.declared.host_messages.HostAnswer.{HostAnswer}
use Rattle.oram_host.specs.Host.{Host}
use Rattle.oram_host.specs.Service.{Serves}
use Rattle.oram_session.specs.Outcome.{Outcome, faults_after}
use Rattle.oram_session.specs.declared.link.LinkFault.TheVariants.{Io, Closed, TooLong, TooLarge, OutOfMemory}

-- a link to its own server, over the two ends of one connection
pub record ToItself (S : Type 0) : Type 0 where
  pub host : Host
  pub ends : Option (S × S)  -- the near end, which asks, and the far one, which answers; none while they are closed
  pub faults : ℕ  -- how many calls had a fault

-- the number of bytes of the longest frame that goes over it
abbrev pub longest_frame : ℕ
longest_frame = 16384

-- the host received no message, or one
abbrev pub AsksOnce : Host → Host → Type 0
AsksOnce host after = (after ≡ host) ⊎ ((received : List ℕ) × (answer : HostAnswer) × Serves host received answer after × IsAnswer answer)

-- The message is too large, and nothing changes.
pub record IsRefused {S : Type 0} (l : ToItself S) (body : List ℕ) (outcome : Outcome) (m : ToItself S) : Type 0 where
  pub large : longest_frame < length (frame body)
  pub outcome_is : outcome ≡ Err TooLarge
  pub host : m.host ≡ l.host
  pub ends : m.ends ≡ l.ends

-- No connection could be opened.
pub record IsApart {S : Type 0} (l : ToItself S) (outcome : Outcome) (m : ToItself S) : Type 0 where
  pub none : l.ends ≡ None
  pub outcome_is : outcome ≡ Err Io
  pub host : m.host ≡ l.host
  pub ends : m.ends ≡ None

-- over ends of a connection; these functions give the bytes that an end will read and has written, if they are known
module _ {S : Type 0} (remaining contents : S → Option (List ℕ)) where
  -- A message went from the near end to the far one, and the host answered the bytes that were read there.
  pub record IsHandled (host : Host) (ends : S × S) (body : List ℕ) (answer : HostAnswer) (host' : Host) (ends' : S × S) : Type 0 where
    pub received : List ℕ
    pub wrote : Appends (contents ends.0) (contents ends'.0) (frame body)
    pub read : GivesFrame (remaining ends.1) (remaining ends'.1) received
    pub served : Serves host received answer host'
    pub spelled : IsAnswer answer

  -- An answer went from the far end to the near one, and these bytes were read there.
  pub record IsReturned (ends : S × S) (answer : HostAnswer) (bytes : List ℕ) (ends' : S × S) : Type 0 where
    pub fits : length (frame (answer_body answer)) ≤ longest_frame
    pub wrote : Appends (contents ends.1) (contents ends'.1) (frame (answer_body answer))
    pub read : GivesFrame (remaining ends.0) (remaining ends'.0) bytes

  -- The outcome of a call over these ends, and the ends that are open afterwards: an answer; or an answer that is too
  -- large, which is not sent; or a fault that closes both ends.
  abbrev pub Crosses : Host → S × S → List ℕ → Outcome → Host → Option (S × S) → Type 0
  Crosses host ends body (Ok bytes) host' ends' =
      (answer : HostAnswer) × (mid : S × S) × (last : S × S)
      × IsHandled host ends body answer host' mid × IsReturned mid answer bytes last × (ends' ≡ Some last)
  Crosses host ends body (Err TooLarge) host' ends' =
      (answer : HostAnswer) × (last : S × S)
      × IsHandled host ends body answer host' last × (longest_frame < length (frame (answer_body answer))) × (ends' ≡ Some last)
  Crosses host ends body (Err Io) host' ends' = AsksOnce host host' × (ends' ≡ None)
  Crosses host ends body (Err OutOfMemory) host' ends' = AsksOnce host host' × (ends' ≡ None)
  Crosses host ends body (Err Closed) host' ends' = ⊥
  Crosses host ends body (Err TooLong) host' ends' = ⊥

  -- The message goes over the ends that are open, or over new ones.
  pub record IsPassed (l : ToItself S) (body : List ℕ) (outcome : Outcome) (m : ToItself S) : Type 0 where
    pub fits : length (frame body) ≤ longest_frame
    pub ends : S × S
    pub held : IfSome l.ends (λ those. ends ≡ those)
    pub crosses : Crosses l.host ends body outcome m.host m.ends

  abbrev pub Carries : ToItself S → List ℕ → Outcome → ToItself S → Type 0
  Carries l body outcome m = IsRefused l body outcome m ⊎ (IsApart l outcome m ⊎ IsPassed l body outcome m)

  -- a call, and the count of faults
  pub record LoopCall (l : ToItself S) (body : List ℕ) (outcome : Outcome) (m : ToItself S) : Type 0 where
    pub faults : m.faults ≡ faults_after l.faults outcome
    pub answer : Carries l body outcome m
