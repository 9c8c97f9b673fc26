-- An honest host: what it keeps of a device's trees, and what it does at an event.
use Rattle.std.specs.Prelude.{◌≡◌, ◌⊎◌, ℕ, ◌<◌, List, Some}
use Rattle.oram_geometry.specs.Sizes.{trees_of, depth_of}
use Rattle.oram_wire.specs.HostMessages.{answer_body}
use Rattle.oram_wire.specs.declared.host_messages.HostAnswer.{HostAnswer}
use Rattle.oram_wire.specs.declared.host_messages.HostAnswer.TheVariants.{Done}
use Rattle.oram_wire.specs.declared.sinks.SinkFault.{SinkFault}
use Rattle.oram_host.specs.Service.{Serves, fault_by}
use Rattle.oram_host.specs.Host.{Host, Kept, record_of, tree_at}
use Rattle.oram_tree.specs.Content.{node_count}
use Rattle.oram_semantics.specs.Scheme.{Scheme, record_len}
use Rattle.oram_semantics.specs.Progress.{Status}
use Rattle.oram_semantics.specs.Progress.Status.{Idle, Waiting, Stalling, Over}
use Rattle.oram_semantics.specs.declared.events.Event.{Event}
use Rattle.oram_semantics.specs.declared.events.Event.TheVariants.{Submit, Answer, Lost, Reopen, Retry}

-- the host carries out a body and then is `after`
abbrev pub Takes : Host → List ℕ → Host → Type 0
Takes host body after = Serves host body Done after

-- the host keeps tree i of the device, with one of these records at each node
pub record KeepsTree (v : Scheme) (i : ℕ) (records : ℕ → List ℕ) (host : Host) : Type 0 where
  pub kept : Kept
  pub there : tree_at host i ≡ Some kept
  pub depth : kept.depth ≡ depth_of v.device i
  pub record_len : kept.record_len ≡ record_len v
  pub each : (n : ℕ) → n < node_count (depth_of v.device i) → record_of kept n ≡ Some (records n)

-- the host keeps each tree of the device in this way
abbrev pub KeepsAll : Scheme → (ℕ → ℕ → List ℕ) → Host → Type 0
KeepsAll v records host = (i : ℕ) → i < trees_of v.device → KeepsTree v i (records i) host

-- a message was lost, or the host's answer to it was
abbrev pub HeardOrNot : List ℕ → Host → Host → Type 0
HeardOrNot message host after = (after ≡ host) ⊎ ((answer : HostAnswer) × Serves host message answer after)

-- What an honest host does at an event while a message is outstanding: an answer is the host's answer to that message;
-- at a loss, the message was lost or the host's answer to it was.
abbrev pub IsHonestWaiting : List ℕ → Event → Host → Host → Type 0
IsHonestWaiting message (Answer bytes) host after =
    (answer : HostAnswer) × (bytes ≡ answer_body answer) × Serves host message answer after
IsHonestWaiting message Lost host after = HeardOrNot message host after
IsHonestWaiting message Reopen host after = HeardOrNot message host after
IsHonestWaiting message Retry host after = after ≡ host
IsHonestWaiting message (Submit s c w) host after = after ≡ host

-- What an honest host does at an event, if the core has this status and sent this message last. Unless the core waits,
-- the host receives nothing.
abbrev pub IsHonest : Status → List ℕ → Event → Host → Host → Type 0
IsHonest Waiting message event host after = IsHonestWaiting message event host after
IsHonest Idle message event host after = after ≡ host
IsHonest Stalling message event host after = after ≡ host
IsHonest Over message event host after = after ≡ host

-- how a server refuses a body of a formatting
abbrev pub Refusing : Host → List ℕ → SinkFault → Host → Type 0
Refusing host body fault after = (answer : HostAnswer) × Serves host body answer after × (fault_by answer ≡ Some fault)
