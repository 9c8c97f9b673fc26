-- What the next process of a disk finds in its pair of files.
use Rattle.std.specs.Prelude.{◌≡◌, ◌⊎◌, ℕ, Bool, true, List, [], ◌∷◌}
use Rattle.oram_core.specs.Changes.{nothing_noted}
use Rattle.oram_core.specs.Core.{CoreValue, IsNotedSince, NotesChanges}
use Rattle.oram_host.specs.Host.{Host}
use Rattle.oram_kept.specs.Keeper.{Knows}
use Rattle.oram_kept.specs.Kept.{Finds, bounds}
use Rattle.oram_kept.specs.Text.{Parts}
use Rattle.oram_redo.specs.FilePair.{Contents, FileModel}
use Rattle.oram_rounds.specs.Files.{IsFile}
use Rattle.oram_rounds.specs.Process.{IsKept, IsSafe, begun}
use Rattle.oram_semantics.specs.Scheme.{Scheme}
use Rattle.oram_semantics.specs.State.{State}
use Rattle.oram_keeper.specs.Process.{IsTextOf, MayReadBack, PairKeeperState, kept_table}

-- A crash has left these files. Then a text is found in them, and if that is a process's text, it is a process that may be read back.
pub record FindsNoted {F : Type 0} (k : PairKeeperState F) (c : Contents) : Type 0 where
  pub text : Parts
  pub found : Finds bounds text c
  pub noted : (process : List ℕ) → IsTextOf k.title process text → MayReadBack k process
  pub only : (other : Parts) → Finds bounds other c → other ≡ text

abbrev pub FoundProcessWasNoted : {F : Type 0} → FileModel F → Type 0
FoundProcessWasNoted {F} model = (k : PairKeeperState F) → Knows model k.keeper → (c : Contents) → model.may_leave k.keeper.kept.files c → FindsNoted k c

-- A process begins with the one text that its keeper has found. It is as safe as the process before.
abbrev pub FoundPairBegins : Type 0 → Type 0 → Type 0
FoundPairBegins B F = (k : PairKeeperState F) (text : Parts) (bytes : List ℕ) → k.keeper.texts ≡ text ∷ [] → IsTextOf k.title bytes text
    → (v : Scheme) (stores : List (List ℕ)) (core : State) (inner : B) → IsFile v bytes stores core
    → MayReadBack k bytes
    × ((other : List ℕ) → MayReadBack k other → IsFile v other stores core)
    × ((may_lie : Bool) (host : Host) (before array : ℕ → List ℕ) (kept : IsKept may_lie v [] bytes host before array) → kept.stores ≡ stores → kept.core ≡ core
    → IsSafe may_lie v MayReadBack (begun inner v stores core k) host before before
    ⊎ IsSafe may_lie v MayReadBack (begun inner v stores core k) host array array)

-- The keeper of a core can be told each entry of its table that has changed: at first, since any may have, and from each keeping on, since
-- the core notes them.
pub record ChangesAreTold (S F : Type 0) : Type 0 where
  pub first : (k : PairKeeperState F) (c : CoreValue S) → c.noted.any ≡ true → IsNotedSince (kept_table k) c
  pub next : (k : PairKeeperState F) (c d : CoreValue S) → kept_table k ≡ c.state.table → NotesChanges (record c { noted = nothing_noted }) d → IsNotedSince (kept_table k) d
