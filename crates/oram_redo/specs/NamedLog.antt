-- A log that is found by its name in a folder, and a copy of it that may take its place: what a loss of power leaves at that name.
--
-- Of a call, `kind` is 1 for a write into the copy, 2 for a read of the log, 3 for a sync of the copy, 5 for a rename of the copy to the
-- log's name, 6 for a sync of the folder, and 7 for a rename that the system refused, so that both have their names. No call writes into
-- the log.
use Rattle.std.specs.Prelude.{◌≡◌, ◌⊎◌, ◌==◌, ℕ, false, true, List, [], ◌∷◌, length, if◌then◌else◌, ⊤}
use Rattle.oram_redo.specs.Content.{Content, Agrees, bytes_at, put}
use Rattle.oram_redo.specs.Memory.{IsOutside, byte_of}
use Rattle.oram_redo.specs.Note.{Call}
use Rattle.oram_redo.specs.Opened.{Opened}
use Rattle.oram_redo.specs.System.{EndsAt}
use Rattle.oram_redo.specs.declared.file_pair.FileKind.TheVariants.{Log}
use Rattle.oram_redo.specs.declared.named_log.NamedLog.{NamedLog}

-- the calls that were made, the newest first
abbrev pub calls_on : NamedLog → List Call
calls_on named = named.history.calls

-- Each read that was done has given what was in the log, and nothing only at its end.
abbrev pub HasRead : Content → List Call → Type 0
HasRead log [] = ⊤
HasRead log (call ∷ calls) =
    (call.kind ≡ 2 → call.is_ok ≡ true → call.bytes ≡ bytes_at (length call.bytes) call.at log)
    × (call.kind ≡ 2 → call.is_ok ≡ true → call.bytes ≡ [] → EndsAt log call.at)
    × HasRead log calls

-- A call has failed, or a write has taken nothing.
abbrev pub HasFailed : List Call → Type 0
HasFailed [] = ⊥
HasFailed (call ∷ calls) = (call.is_ok ≡ false) ⊎ (((call.kind ≡ 1) × (call.bytes ≡ [])) ⊎ HasFailed calls)

-- what a read of the copy returns, if each write was done: it had no bytes at first
abbrev pub copied : List Call → Content
copied [] i = 0
copied (call ∷ calls) i = if call.kind == 1 then put call.bytes call.at (copied calls) i else copied calls i

-- Each call was done. After one that failed, no sync says anything.
abbrev pub AreDone : List Call → Type 0
AreDone [] = ⊤
AreDone (call ∷ calls) = (call.is_ok ≡ true) × AreDone calls

-- A sync has covered all that was written into the copy.
abbrev pub IsOnDisk : List Call → Type 0
IsOnDisk [] = ⊥
IsOnDisk (call ∷ calls) = (call.kind ≡ 1 → ⊥) × (((call.kind ≡ 3) × AreDone (call ∷ calls)) ⊎ IsOnDisk calls)

-- the log was read, and nothing else was done
abbrev pub HasOnlyRead : List Call → Type 0
HasOnlyRead [] = ⊤
HasOnlyRead (call ∷ calls) = (call.kind ≡ 2) × (call.is_ok ≡ true) × HasOnlyRead calls

-- no rename was tried
abbrev pub IsUnnamed : List Call → Type 0
IsUnnamed [] = ⊤
IsUnnamed (call ∷ calls) = (call.kind ≡ 5 → ⊥) × IsUnnamed calls

-- No rename was done, so processes find the log itself by its name.
abbrev pub IsNotRenamed : List Call → Type 0
IsNotRenamed [] = ⊤
IsNotRenamed (call ∷ calls) = (call.kind ≡ 5 → call.is_ok ≡ false) × IsNotRenamed calls

-- A loss of power may leave the log itself at its name: no rename was done before the folder was synced.
abbrev pub MayBeLog : List Call → Type 0
MayBeLog [] = ⊤
MayBeLog (call ∷ calls) = (call.kind ≡ 6 → AreDone (call ∷ calls) → IsNotRenamed calls) × MayBeLog calls

-- It may leave the copy there: a rename was tried.
abbrev pub MayBeCopy : List Call → Type 0
MayBeCopy [] = ⊥
MayBeCopy (call ∷ calls) = (call.kind ≡ 5) ⊎ MayBeCopy calls

-- what a loss of power leaves of the log itself: any bytes in places that no sync has covered
abbrev pub IsLeft : Opened → Content → Type 0
IsLeft held c = (i : ℕ) → IsOutside held.unsynced Log i → c i ≡ byte_of held.log i

-- What is found at the log's name after a loss of power: the log itself, or the copy, which may have any bytes if it isn't on the disk.
abbrev pub MayBeFound : Opened → List Call → Content → Type 0
MayBeFound held calls c = (MayBeLog calls × IsLeft held c) ⊎ (MayBeCopy calls × (IsOnDisk calls → Agrees c (copied calls)))
