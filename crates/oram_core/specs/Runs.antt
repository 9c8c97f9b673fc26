-- The result of a whole run.
use Rattle.std.specs.Prelude.{◌≡◌, ℕ, ◌<◌, true, false, List, [], length}
use Rattle.std.specs.Global.{Vec}
use Rattle.oram_wire.specs.ListOfBodies.{bodies_in}
use Rattle.oram_tree.specs.State.{State as Tree}
use Rattle.oram_semantics.specs.Formatting.{IsFormatted, IsFormatBegun}
use Rattle.oram_semantics.specs.Progress.{Setting}
use Rattle.oram_semantics.specs.Scheme.{Scheme}
use Rattle.oram_semantics.specs.declared.events.Event.{Event}
use Rattle.oram_core.specs.declared.outcome.Run.{Run}

-- the setting of a run with these formatting messages
abbrev pub setting_by : Scheme → List (Vec ℕ) → Setting
setting_by v bodies = record { scheme = v; format = bodies_in bodies }

-- the messages make all trees of the device
abbrev pub MakeAllTrees : Scheme → List (Vec ℕ) → Type 0
MakeAllTrees v bodies = (trees : List Tree) × IsFormatted (setting_by v bodies) trees

-- All trees were made. Each event has its reaction; if memory ran out, the last events have none.
pub record IsCarriedOut (v : Scheme) (events : List Event) (r : Run) : Type 0 where
  pub whole : MakeAllTrees v r.format.items
  pub all : r.out_of_memory ≡ false → length r.reactions.items ≡ length events
  pub fewer : r.out_of_memory ≡ true → length r.reactions.items < length events

-- memory ran out during the formatting, and no step was made
pub record IsCutShort (v : Scheme) (r : Run) : Type 0 where
  pub begun : IsFormatBegun v (bodies_in r.format.items)
  pub nothing : r.reactions.items ≡ []
  pub reported : r.out_of_memory ≡ true
