-- The making of a new pair's two files, by the notes of what was done for it, the newest first.
use Rattle.std.specs.Prelude.{◌≡◌, ◌≢◌, ◌⊎◌, List, [], ◌∷◌, ⊤}
use Rattle.oram_pair.specs.Notes.{Deed, Note, Sees, Takes, Makes, Locks, Fills, Links, Renames, SyncsFolder, done}
use Rattle.oram_pair.specs.declared.names.PairName.{PairName}
use Rattle.oram_pair.specs.declared.names.PairName.TheVariants.{File, Log, NewFile, NewLog}
use Rattle.oram_pair.specs.declared.leftovers.Found.TheVariants.{Nothing, Leftover}
use Rattle.oram_pair.specs.declared.new_pair.NewPair.{NewPair}

abbrev pub notes_of : NewPair → List Note
notes_of pair = pair.history.notes

-- This was done.
abbrev pub IsNoted : Note → List Note → Type 0
IsNoted note [] = ⊥
IsNoted note (last ∷ notes) = (last ≡ note) ⊎ IsNoted note notes

-- The new file was made where there was none of its name, and was locked then.
abbrev pub IsHeld : List Note → Type 0
IsHeld [] = ⊥
IsHeld (note ∷ notes) = ((note ≡ done Locks) × IsNoted (done (Makes NewFile)) notes) ⊎ IsHeld notes

-- While it was locked, both new files got their bytes, and were synced.
abbrev pub IsFilled : List Note → Type 0
IsFilled [] = ⊥
IsFilled (note ∷ notes) = ((note ≡ done Fills) × IsHeld notes) ⊎ IsFilled notes

-- After that, the log got its name.
abbrev pub HasLog : List Note → Type 0
HasLog [] = ⊥
HasLog (note ∷ notes) = (((note ≡ done (Links Log)) ⊎ (note ≡ done (Renames Log))) × IsFilled notes) ⊎ HasLog notes

-- After that, the folder was synced. So a loss of power leaves the log at its name, and the bytes of both files.
abbrev pub IsReady : List Note → Type 0
IsReady [] = ⊥
IsReady (note ∷ notes) = ((note ≡ done SyncsFolder) × HasLog notes) ⊎ IsReady notes

-- The file may have its name: a call that gives it was made, even if it failed.
abbrev pub MayHaveFile : List Note → Type 0
MayHaveFile [] = ⊥
MayHaveFile (note ∷ notes) = ((note.deed ≡ Links File) ⊎ (note.deed ≡ Renames File)) ⊎ MayHaveFile notes

-- The file has its name.
abbrev pub HasFile : List Note → Type 0
HasFile [] = ⊥
HasFile (note ∷ notes) = ((note ≡ done (Links File)) ⊎ (note ≡ done (Renames File))) ⊎ HasFile notes

-- After that, the folder was synced.
abbrev pub IsMade : List Note → Type 0
IsMade [] = ⊥
IsMade (note ∷ notes) = ((note ≡ done SyncsFolder) × HasFile notes) ⊎ IsMade notes

-- the last deed is a look that found nothing at this name
abbrev pub IsSeenFree : PairName → List Note → Type 0
IsSeenFree name notes = (before : List Note) × (notes ≡ done (Sees name Nothing) ∷ before)

-- What has this name was left there by a making that was broken off, or was made now, and wasn't taken away since.
abbrev pub IsOurs : PairName → List Note → Type 0
IsOurs name [] = ⊥
IsOurs name (note ∷ notes) = (note ≡ done (Sees name Leftover)) ⊎ (note ≡ done (Makes name)) ⊎ ((note ≢ done (Takes name)) × IsOurs name notes)

-- What has to be so before a deed. The file itself is never taken away, nor the log once it got its name now.
abbrev pub IsAllowed : Deed → List Note → Type 0
IsAllowed (Takes name) notes = (name ≢ File) × IsOurs name notes × (name ≡ Log → HasLog notes → ⊥)
IsAllowed (Links name) notes = name ≡ File → IsReady notes
IsAllowed (Renames name) notes = (name ≡ File → IsReady notes) × IsSeenFree name notes
IsAllowed any_other notes = ⊤

-- Each deed was allowed when it was done. So nothing of anybody else's was taken away or replaced, and the file got its name only when
-- it was ready.
abbrev pub IsCareful : List Note → Type 0
IsCareful [] = ⊤
IsCareful (note ∷ notes) = IsAllowed note.deed notes × IsCareful notes

-- These notes were added to those.
abbrev pub Grows : List Note → List Note → Type 0
Grows old [] = old ≡ []
Grows old (note ∷ notes) = (old ≡ note ∷ notes) ⊎ Grows old notes

-- The log wasn't taken away after it had got its name.
abbrev pub KeepsLog : List Note → Type 0
KeepsLog [] = ⊤
KeepsLog (note ∷ notes) = (note.deed ≡ Takes Log → HasLog notes → ⊥) × KeepsLog notes

-- Whenever the process or the machine ends during a careful making, there is no file at its name; or both files were filled and synced before,
-- the log got its name after that, and then the folder was synced. And the making doesn't take the log away again.
abbrev pub NeverLeavesHalf : Type 0
NeverLeavesHalf = (notes : List Note) → IsCareful notes → KeepsLog notes × (MayHaveFile notes → IsReady notes)

-- A making that was broken off after it had named the log, and one that takes that log away and makes the pair.
abbrev pub broken_off : List Note
broken_off = done SyncsFolder ∷ done (Links Log) ∷ done Fills ∷ done (Makes NewLog) ∷ done Locks ∷ done (Makes NewFile) ∷ []

abbrev pub made_after_all : List Note
made_after_all =
    done SyncsFolder ∷ done (Takes NewFile) ∷ done (Links File) ∷ done SyncsFolder ∷ done (Takes NewLog) ∷ done (Links Log) ∷ done (Takes Log) ∷ done (Sees Log Leftover)
    ∷ done Fills ∷ done (Makes NewLog) ∷ done Locks ∷ done (Makes NewFile) ∷ []

-- Both are careful. Only after the second one the file may have its name, and the pair is made.
abbrev pub MakingExample : Type 0
MakingExample =
    (IsCareful broken_off × (MayHaveFile broken_off → ⊥)) × (IsCareful made_after_all × MayHaveFile made_after_all × IsMade made_after_all)
