-- What an honest host guarantees.
use Rattle.std.specs.Prelude.{◌≡◌, ℕ, ◌≤◌, List, [], None, replicate}
use Rattle.oram_geometry.specs.Sizes.{IsDevice}
use Rattle.oram_host.specs.Host.{Host}
use Rattle.oram_tree.specs.Format.{PutsAll}
use Rattle.oram_tree.specs.State.{State as Tree}
use Rattle.oram_semantics.specs.Formatting.{IsFormatted}
use Rattle.oram_semantics.specs.Law.{IsServing, StepsByRule, new_state, world_of}
use Rattle.oram_semantics.specs.Progress.{Setting}
use Rattle.oram_semantics.specs.Run.{Shown}
use Rattle.oram_semantics.specs.Scheme.{Scheme}
use Rattle.oram_semantics.specs.State.{State, World, status_in}
use Rattle.oram_semantics.specs.declared.events.Event.{Event}
use Rattle.oram_host_laws.specs.Honest.{IsHonest, Takes}
use Rattle.oram_host_laws.specs.HostRecords.{Hosts, GoesOnHosted}

-- A core that serves an array over an honest host still serves it after any event, and never fails.
abbrev pub HonestHostsServe : Type 0
HonestHostsServe = (v : Scheme) (s t : State) (w : World) (array : ℕ → List ℕ) (event : Event) (x : Shown) (host after : Host)
    → IsDevice v.device → s.failure ≡ None → IsServing v s w array → Hosts v s w host → StepsByRule v s event x t
    → IsHonest (status_in s) s.message event host after
    → GoesOnHosted v (record { before = s; world = w; array = array; event = event; shown = x; after = t; host = after })

-- A device that has just been formatted, over a host that kept nothing and took each message, serves an array of zeros.
pub record IsNewHosted (v : Scheme) (s : State) (w : World) (host : Host) : Type 0 where
  pub serving : IsServing v s w (λ a. replicate v.device.block_bytes 0)
  pub hosts : Hosts v s w host

abbrev pub NewHostsServe : Type 0
NewHostsServe = (v : Setting) (trees : List Tree) (host : Host) → IsDevice v.scheme.device → v.scheme.cipher.overhead ≤ 64
    → IsFormatted v trees → PutsAll Takes [] v.format host → IsNewHosted v.scheme (new_state v trees) (world_of v []) host
