-- An example that meets the premises of the laws: the device of one block as it was formatted, over a server in memory.
use Rattle.std.specs.Prelude.{ℕ, Bool, List, [], replicate, ⊤, true}
use Rattle.oram_geometry.specs.Sizes.{IsDevice}
use Rattle.oram_session.specs.Links.{ToServer}
use Rattle.oram_link_laws.specs.Examples.{new_core, new_host, one_block}
use Rattle.oram_rounds.specs.CatchUp.{PlainRun}
use Rattle.oram_rounds.specs.Examples.{DirectBatches, is_new_file, new_process, zero_array}
use Rattle.oram_rounds.specs.Files.{IsFile}
use Rattle.oram_rounds.specs.Law.{AreBatches}
use Rattle.oram_rounds.specs.Process.{EndsIn, IsKept}
use Rattle.oram_rounds.specs.Process.Act.{Keeps}
use Rattle.oram_volume.specs.Blocks.{IsLaidOut}
use Rattle.oram_volume.specs.HeldArrays.{KeepsBytes, Running}
use Rattle.oram_volume.specs.NextProcess.{host_of}

-- a process that begins with the core of the new device, and a tape with these words
abbrev pub new_running : (ℕ → ℕ → List ℕ) → Running ToServer ⊤
new_running words = record { scheme = one_block; words = words; process = new_process }

-- It has kept the zeros of its block. Where it ends, a file of its core is read back, which is kept for these zeros.
abbrev pub NextProcessExample : Type 0
NextProcessExample = AreBatches DirectBatches × IsDevice one_block.device × IsLaidOut one_block.device zero_array (replicate 16 0)
    × ((may_lie : Bool) (words : ℕ → ℕ → List ℕ) → KeepsBytes is_new_file may_lie (new_running words) (host_of one_block new_host) (replicate 16 0) (replicate 16 0))
    × ((file : List ℕ) → IsFile one_block file [] new_core → EndsIn one_block DirectBatches is_new_file new_process (Keeps true) file [])
    × ((may_lie : Bool) (file : List ℕ) → IsFile one_block file [] new_core → IsKept may_lie one_block [] file new_host zero_array zero_array)
    × ((may_lie : Bool) → PlainRun may_lie one_block new_host [] new_host)
