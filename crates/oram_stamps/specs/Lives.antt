-- A disk's client beside an honest host: keepings; batches that are carried out, refused for want of room, or lost; answers; processes that end,
-- and others that start from what was kept last.
use Rattle.std.specs.Prelude.{◌≡◌, ◌≢◌, ℕ, ◌+◌, ◌<◌, ◌≤◌, ◌^◌, Bool, true, false, List, [], ◌∷◌, ◌++◌, length}
use Rattle.std.specs.List.{FoldsTo}
use Rattle.oram_stamps.specs.Known.{IsAllowed, IsMismatch, IsSent, IsTakenOver, StandsAt, Stamps, answered, begun_number, first_stamp, kept, settled}
use Rattle.oram_stamps.specs.Note.{restarted}
use Rattle.oram_stamps.specs.declared.known.Mismatch.TheVariants.{OlderHost, OlderState}
use Rattle.oram_stamps.specs.declared.stamp.Place.{Place}
use Rattle.oram_stamps.specs.declared.stamp.Place.TheVariants.{Begun, Done}
use Rattle.oram_stamps.specs.declared.stamp.Shown.{Shown}
use Rattle.oram_stamps.specs.declared.stamp.Stamp.{Stamp}

-- a message that puts a batch's stamp at one of the host's places, or the STOREs of the batch, which are one message here
pub data Message : Type 0 where
  Puts : Place → Stamp → Message
  Stores : Stamp → Message

-- the host's file: the stamps in it, and the stamp of the last batch whose STOREs it has all carried out
pub record HostFile : Type 0 where
  pub shown : Shown
  pub stored : Stamp

-- The client and its host. The messages arrive in the order in which they were sent.
pub record Life : Type 0 where
  pub live : Stamps  -- what the process knows
  pub file : Stamps  -- what a process would know that starts from what was kept last
  pub connected : Bool  -- whether the process has a connection over which the host has shown its stamps
  pub host : HostFile
  pub way : List Message  -- the messages that are on their way, the next one first

-- a host that has carried out a message
abbrev pub after : HostFile → Message → HostFile
after host (Puts Begun stamp) = record host { shown = record { begun = stamp; done = host.shown.done } }
after host (Puts Done stamp) = record host { shown = record { begun = host.shown.begun; done = stamp } }
after host (Stores stamp) = record host { stored = stamp }

-- the messages of a batch
abbrev pub batch : Stamp → List Message
batch stamp = Puts Begun stamp ∷ Stores stamp ∷ Puts Done stamp ∷ []

-- the file of a host that has carried out all messages of this batch
abbrev pub carried_out : Stamp → HostFile
carried_out stamp = record { shown = record { begun = stamp; done = stamp }; stored = stamp }

-- what can happen
pub data Event : Type 0 where
  Keeps : ℕ → Event  -- the process is kept, and has this check
  Sends : Event  -- a batch of the last keeping is sent, perhaps again
  Arrives : Event  -- the next message arrives and is carried out
  Refuses : Event  -- the next message is the STOREs of a batch, and the host has no room for one of them
  Breaks : Event  -- the connection breaks, and with it goes what is on the way
  Answers : Event  -- the process learns that all that it sent last has been carried out
  Shows : Event  -- over a new connection, the host shows its stamps
  Restarts : Event  -- the process ends, at any time, and another one starts from what was kept last

-- A process sends nothing before the host has shown its stamps. A host serves one connection after the other. So when it answers over the
-- newest one, nothing is on its way any more.
abbrev pub Happens : Life → Event → Life → Type 0
Happens w (Keeps check) x = x ≡ record w { live = kept w.live check; file = restarted w.live check }
Happens w Sends x = (w.connected ≡ true) × ((live : Stamps) × IsSent w.live live × (x ≡ record w { live = live; way = w.way ++ batch live.current }))
Happens w Arrives x = (next : Message) × (rest : List Message) × (w.way ≡ next ∷ rest) × (x ≡ record w { host = after w.host next; way = rest })
Happens w Refuses x = (stamp : Stamp) × (rest : List Message) × (w.way ≡ Stores stamp ∷ rest) × (x ≡ record w { way = rest })
Happens w Breaks x = x ≡ record w { connected = false; way = [] }
Happens w Answers x = (w.way ≡ []) × (w.host ≡ carried_out w.live.current) × (x ≡ record w { live = answered w.live })
Happens w Shows x = (live : Stamps) × (w.way ≡ []) × IsTakenOver w.live w.host.shown live × (x ≡ record w { live = live; connected = true })
Happens w Restarts x = x ≡ record w { live = w.file; connected = false }

-- a disk that was formatted and kept, with this check
abbrev pub new_life : ℕ → Life
new_life check =
    let first = restarted (settled first_stamp) check in
    record { live = first; file = first; connected = false; host = carried_out first_stamp; way = [] }

-- Whatever has happened, the host may show its stamps to the process.
abbrev pub NewestStatesPass : Type 0
NewestStatesPass = (check : ℕ) (events : List Event) (w : Life) → FoldsTo Happens (new_life check) events w → w.way ≡ [] → IsAllowed w.live w.host.shown

-- If the host has begun a keeping that a state doesn't know, it may not show its stamps to a process of that state. If its number
-- isn't below that of the one that the host was known to have begun, the process is told that its state is older.
abbrev pub OlderStatesAreRefused : Type 0
OlderStatesAreRefused = (k : Stamps) (host : Shown) → ((i : ℕ) → k.begun ≤ i → ¬ StandsAt k.may i host.begun)
    → (¬ IsAllowed k host) × (begun_number k ≤ host.begun.number → IsMismatch k host OlderState)

-- A process has learnt that all of a batch was carried out. Then the host may show it no file any more that it had earlier, at any time, and
-- that lacks a STORE of the batch; and no such file to a process that starts from what is kept next. This includes a file with
-- the stamps of a batch in which the host refused a STORE, once the client has sent that batch again. (Fewer than 2^64 things have happened.)
abbrev pub OlderFilesAreRefused : Type 0
OlderFilesAreRefused = (check : ℕ) (before later : List Event) (w x y : Life) → FoldsTo Happens (new_life check) before w → FoldsTo Happens w later x → Happens x Answers y
    → length before + length later + 2 < 2 ^ 64 → w.host.stored ≢ y.live.current
    → IsMismatch y.live w.host.shown OlderHost × ((next : ℕ) → IsMismatch (restarted y.live next) w.host.shown OlderHost)

-- An example. A process is kept and sends its messages. The first one arrives. Then the process ends, and the other messages are lost. The
-- next process starts from what was kept, and the host shows it the stamp that the first message brought. This process is kept too, and
-- the host carries out its messages.
abbrev pub example_events : List Event
example_events = Shows ∷ Keeps 7 ∷ Sends ∷ Arrives ∷ Restarts ∷ Breaks ∷ Shows ∷ Keeps 8 ∷ Sends ∷ Arrives ∷ Arrives ∷ Arrives ∷ Answers ∷ []

abbrev pub last_stamp : Stamp
last_stamp = record { number = 3; check = 8 }

-- In the end the host has begun and done the last keeping. And it may not show this to a process that starts from the first file.
abbrev pub LifeExample : Type 0
LifeExample = (w : Life) × FoldsTo Happens (new_life 6) example_events w × (w.host ≡ carried_out last_stamp)
    × IsAllowed w.live w.host.shown × IsMismatch (new_life 6).live w.host.shown OlderState

-- Another example. A process sends its messages, and the host refuses a STORE of them. They are sent again, and are carried out.
abbrev pub refused_events : List Event
refused_events = Shows ∷ Sends ∷ Arrives ∷ Refuses ∷ Arrives ∷ []

abbrev pub again_events : List Event
again_events = Sends ∷ Arrives ∷ Arrives ∷ Arrives ∷ []

abbrev pub refused_stamp : Stamp
refused_stamp = record { number = 2; check = 6 }

abbrev pub again_stamp : Stamp
again_stamp = record { number = 3; check = 6 }

-- After the refusal the host shows the same stamp at both places, although it has carried out no STORE. After the second time it may not show
-- this any more: the stamp of the second time has the same check and a greater number.
abbrev pub RefusalExample : Type 0
RefusalExample = (w : Life) × (x : Life) × (y : Life) × FoldsTo Happens (new_life 6) refused_events w × FoldsTo Happens w again_events x × Happens x Answers y
    × (w.host ≡ record { shown = (carried_out refused_stamp).shown; stored = first_stamp }) × (y.host ≡ carried_out again_stamp)
    × IsAllowed y.live y.host.shown × IsMismatch y.live w.host.shown OlderHost
