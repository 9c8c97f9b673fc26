-- The process that begins with what is read back where another one has ended.
use Rattle.std.specs.Prelude.{◌⊎◌, ℕ, Bool, List, []}
use Rattle.oram_geometry.specs.Sizes.{IsDevice}
use Rattle.oram_host.specs.Host.{Host}
use Rattle.oram_semantics.specs.Scheme.{Scheme}
use Rattle.oram_semantics.specs.State.{State}
use Rattle.oram_link_laws.specs.Runs.{Exchange}
use Rattle.oram_rounds.specs.Batches.{BatchOutcome}
use Rattle.oram_rounds.specs.CatchUp.{PlainRun}
use Rattle.oram_rounds.specs.Files.{IsFile}
use Rattle.oram_rounds.specs.Law.{AreBatches}
use Rattle.oram_rounds.specs.Process.{Act, EndsIn, IsKept, begun}
use Rattle.oram_volume.specs.Blocks.{IsLaidOut}
use Rattle.oram_volume.specs.HeldArrays.{HoldsBytes, HostBeside, KeepsBytes, Running}

-- a process that begins with these STOREs and this core
abbrev pub next_process : {B K : Type 0} → Scheme → (ℕ → ℕ → List ℕ) → B → List (List ℕ) → State → K → Running B K
next_process v words inner stores core keeper = record { scheme = v; words = words; process = begun inner v stores core keeper }

abbrev pub host_of : Scheme → Host → HostBeside
host_of v host = record { scheme = v; host = host }

-- A file that was read back is kept for the one array or the other, beside this host. A process that begins with it holds the
-- bytes of one of the two: those before the last commands, or those after them.
abbrev pub BegunDevicesHold : Type 0 → Type 0 → Type 0
BegunDevicesHold B K = (may_lie : Bool) (v : Scheme) (file : List ℕ) (host : Host) (before array : ℕ → List ℕ) (bytes_before bytes : List ℕ) → IsDevice v.device
    → IsKept may_lie v [] file host before array → IsLaidOut v.device before bytes_before → IsLaidOut v.device array bytes
    → (stores : List (List ℕ)) (core : State) → IsFile v file stores core
    → (words : ℕ → ℕ → List ℕ) (inner : B) (keeper : K)
    → HoldsBytes may_lie (next_process v words inner stores core keeper) (host_of v host) bytes_before
    ⊎ HoldsBytes may_lie (next_process v words inner stores core keeper) (host_of v host) bytes

-- What a process keeps outlasts it. Wherever it ends, and whatever is read back then, the process that begins with
-- what is read back holds the bytes that were kept: those of the one array or the other.
abbrev pub KeptBytesOutlast : {B K : Type 0} → (B → List (List ℕ) → BatchOutcome → List Exchange → B → Type 0) → (K → List ℕ → Type 0) → Type 0
KeptBytesOutlast {B} {K} batches reads_back = AreBatches batches
    → (may_lie : Bool) (p : Running B K) (w : HostBeside) (saved bytes : List ℕ) → KeepsBytes reads_back may_lie p w saved bytes
    → (act : Act) (file : List ℕ) (exchanges : List Exchange) (after : Host) → EndsIn p.scheme batches reads_back p.process act file exchanges → PlainRun may_lie p.scheme w.host exchanges after
    → (stores : List (List ℕ)) (core : State) → IsFile p.scheme file stores core
    → (words : ℕ → ℕ → List ℕ) (inner : B) (keeper : K)
    → HoldsBytes may_lie (next_process p.scheme words inner stores core keeper) (host_of p.scheme after) saved
    ⊎ HoldsBytes may_lie (next_process p.scheme words inner stores core keeper) (host_of p.scheme after) bytes
