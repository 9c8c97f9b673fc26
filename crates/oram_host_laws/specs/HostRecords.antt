-- A host that keeps the records of a core's world, from message to message.
use Rattle.std.specs.Prelude.{◌≡◌, ◌⊎◌, ℕ, ◌<◌, ◌^◌, false, List, [], ◌∷◌, None}
use Rattle.oram_geometry.specs.Sizes.{depth_of}
use Rattle.oram_host.specs.Host.{Host}
use Rattle.oram_semantics.specs.Content.{entry_tree}
use Rattle.oram_semantics.specs.Law.{HasGoneOn}
use Rattle.oram_semantics.specs.Messages.{IsMessage, requested}
use Rattle.oram_semantics.specs.Moves.{moved, records_after, shows_in, world_after}
use Rattle.oram_semantics.specs.Run.{Shown, fails_now}
use Rattle.oram_semantics.specs.Scheme.{Scheme}
use Rattle.oram_semantics.specs.State.{State, World}
use Rattle.oram_semantics.specs.declared.events.Event.{Event}
use Rattle.oram_semantics.specs.declared.events.Submission.{Submission}
use Rattle.oram_host_laws.specs.Honest.{KeepsAll}

-- The message sent last asks for a path of the tree at work.
pub record IsPosted (v : Scheme) (s : State) : Type 0 where
  pub whole : IsMessage v (requested s.message) s.message
  pub tree : (requested s.message).tree ≡ entry_tree v.device s.entry_number
  pub leaf : (requested s.message).leaf < 2 ^ depth_of v.device (entry_tree v.device s.entry_number)

-- While a command is at work, the host keeps the world's records, or those before the last message if that hasn't
-- reached it yet.
pub record HostsWork (v : Scheme) (s : State) (w : World) (host : Host) : Type 0 where
  pub posted : IsPosted v s
  pub before : ℕ → ℕ → List ℕ
  pub leaves : w.records ≡ records_after v before (s.message ∷ [])
  pub keeps : KeepsAll v before host ⊎ KeepsAll v w.records host

abbrev pub HostsBy : Scheme → State → World → Host → List Submission → Type 0
HostsBy v s w host [] = KeepsAll v w.records host
HostsBy v s w host (x ∷ rest) = HostsWork v s w host

-- the host keeps the world's records; while a command is at work, perhaps those before the last message
abbrev pub Hosts : Scheme → State → World → Host → Type 0
Hosts v s w host = HostsBy v s w host s.queue

-- One event of a core over a host.
pub record HostedEvent : Type 0 where
  pub before : State  -- the core before the event
  pub world : World  -- the world that its trees stand in
  pub array : ℕ → List ℕ  -- what the trees hold there
  pub event : Event
  pub shown : Shown  -- what the core showed
  pub after : State  -- the core after the event
  pub host : Host  -- the host after the event

-- the world after the event
abbrev pub next_world : Scheme → HostedEvent → World
next_world v e = world_after v e.world (moved v e.before e.world e.event) e.shown.sends

-- After an event of an honest host: it showed no two records with the same digest and didn't fail the device, the core
-- goes on and serves the array, and the host keeps the records of the world after the event.
pub record GoesOnHosted (v : Scheme) (e : HostedEvent) : Type 0 where
  pub apart : shows_in v e.before e.world e.event ≡ false
  pub calm : fails_now e.shown.note ≡ false
  pub alive : e.after.failure ≡ None
  pub goes_on : HasGoneOn v e.before e.after (next_world v e) e.array e.shown
  pub hosts : Hosts v e.after (next_world v e) e.host
