-- What a pair in memory holds, and what a crash may leave of it.
use Rattle.std.specs.Prelude.{◌≡◌, ◌⊎◌, ◌<◌, ◌≤◌, ℕ, ◌+◌, List, [], ◌∷◌, length, get_or, drop, ⊤}
use mathlib.Core.Logic.{inl, inr}
use Rattle.oram_redo.specs.Content.{Content}
use Rattle.oram_redo.specs.FilePair.{Contents}
use Rattle.oram_redo.specs.declared.file_pair.FileKind.{FileKind}
use Rattle.oram_redo.specs.declared.file_pair.FileKind.TheVariants.{Records, Log}
use Rattle.oram_redo.specs.declared.memory.Range.{Range}
use Rattle.oram_redo.specs.declared.memory.Snapshot.{Snapshot}
use Rattle.oram_redo.specs.declared.memory.MemoryPair.{MemoryPair}

-- the content of a file in memory, with zeros past the end
abbrev pub byte_of : List ℕ → Content
byte_of bytes i = get_or bytes i 0

abbrev pub contents_of : Snapshot → Contents
contents_of held Records = byte_of held.records.items
contents_of held Log = byte_of held.log.items

pub record IsCopy (held copy : Snapshot) : Type 0 where
  pub records : copy.records.items ≡ held.records.items
  pub log : copy.log.items ≡ held.log.items
  pub unsynced : copy.unsynced.items ≡ held.unsynced.items

abbrev pub seen_of : MemoryPair → Contents
seen_of pair = contents_of pair.held

-- the place lies in none of the ranges of that file
abbrev pub IsOutside : List Range → FileKind → ℕ → Type 0
IsOutside [] file i = ⊤
IsOutside (r ∷ rs) file i = (r.file ≡ file → (i < r.at ⊎ r.at + r.len ≤ i)) × IsOutside rs file i

-- any bytes in these ranges, and elsewhere what a read returns
abbrev pub LeavesBut : List Range → Contents → Contents → Type 0
LeavesBut ranges seen c = (file : FileKind) (i : ℕ) → IsOutside ranges file i → c file i ≡ seen file i

-- any bytes in places that no sync has covered
abbrev pub MayLeave : Snapshot → Contents → Type 0
MayLeave held c = LeavesBut held.unsynced.items (contents_of held) c

-- what a crash might have left at one of these moments
abbrev pub HadLeft : List Snapshot → Contents → Type 0
HadLeft [] c = ⊥
HadLeft (held ∷ past) c = MayLeave held c ⊎ HadLeft past c

none_since : (past : List Snapshot) (c : Contents) → HadLeft (drop (length past) past) c → ⊥
none_since [] c had = had
none_since (held ∷ past) c had = none_since past c had

-- since the last moment of the past there is only the current one
pub only_held : (past : List Snapshot) (held : Snapshot) (c : Contents) → MayLeave held c ⊎ HadLeft (drop (length past) past) c → MayLeave held c
only_held past held c (inl now) = now
only_held past held c (inr had) = absurd (none_since past c had)
