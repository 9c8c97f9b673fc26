-- What a history of calls says about a pair of the system's files, which were as `first` says when the pair was made.
use Rattle.std.specs.Prelude.{◌≡◌, ◌⊎◌, ◌≤◌, ℕ, zero, suc, ◌-◌, ◌==◌, ◌&&◌, not, Bool, true, false, if◌then◌else◌, List, [], ◌∷◌, length, ⊤}
use mathlib.Core.Logic.{inl, inr}
use mathlib.Core.Path.{subst}
use Rattle.std.proofs.Math.Nat.{sub_self}
use Rattle.oram_redo.specs.Content.{Content, put, bytes_at}
use Rattle.oram_redo.specs.FilePair.{Contents, Elapses, Follows, Torn}
use Rattle.oram_redo.specs.Memory.{LeavesBut}
use Rattle.oram_redo.specs.Note.{Call}
use Rattle.oram_redo.specs.Opened.{Opened, contents_in}
use Rattle.oram_redo.specs.declared.file_pair.FileKind.{FileKind}
use Rattle.oram_redo.specs.declared.file_pair.FileKind.TheVariants.{Records, Log}
use Rattle.oram_redo.specs.declared.memory.Range.{Range}

-- the contents of both files after bytes are put into one of them
abbrev pub put_in : FileKind → ℕ → List ℕ → Contents → Contents
put_in Records at bytes seen Records = put bytes at (seen Records)
put_in Records at bytes seen Log = seen Log
put_in Log at bytes seen Records = seen Records
put_in Log at bytes seen Log = put bytes at (seen Log)

-- What a read returns. A failed write counts as not made: if it did change its range, a read there isn't honest.
abbrev pub seen_after : Opened → List Call → Contents
seen_after first [] = contents_in first
seen_after first (call ∷ calls) = if (call.kind == 1) && call.is_ok then put_in call.file call.at call.bytes (seen_after first calls) else seen_after first calls

-- whether two kinds are one
abbrev pub is_same : FileKind → FileKind → Bool
is_same Records Records = true
is_same Records Log = false
is_same Log Records = false
is_same Log Log = true

abbrev pub ranges_of_other : FileKind → List Range → List Range
ranges_of_other file [] = []
ranges_of_other file (r ∷ rs) = if is_same r.file file then ranges_of_other file rs else r ∷ ranges_of_other file rs

-- Whether a sync has failed. What it had to cover may be lost, and no later sync covers it.
abbrev pub has_failed_sync : List Call → Bool
has_failed_sync [] = false
has_failed_sync (call ∷ calls) = if (call.kind == 3) && not call.is_ok then true else has_failed_sync calls

-- the places that no sync has covered
abbrev pub ranges_after : Opened → List Call → List Range
ranges_after first [] = first.unsynced
ranges_after first (call ∷ calls) =
    if call.kind == 1 then record { file = call.file; at = call.at; len = length call.bytes } ∷ ranges_after first calls
    else (if (call.kind == 3) && call.is_ok && not (has_failed_sync calls) then ranges_of_other call.file (ranges_after first calls) else ranges_after first calls)

abbrev pub MayLeaveAfter : Opened → List Call → Contents → Type 0
MayLeaveAfter first calls c = LeavesBut (ranges_after first calls) (seen_after first calls) c

-- what a crash might have left before one of the last n calls
abbrev pub HadLeftBefore : Opened → List Call → ℕ → Contents → Type 0
HadLeftBefore first calls zero c = ⊥
HadLeftBefore first [] (suc n) c = ⊥
HadLeftBefore first (call ∷ calls) (suc n) c = MayLeaveAfter first calls c ⊎ HadLeftBefore first calls n c

abbrev pub LeftSince : Opened → List Call → ℕ → Contents → Type 0
LeftSince first calls t c = MayLeaveAfter first calls c ⊎ HadLeftBefore first calls (length calls - t) c

-- the content ends at the place: what comes after is zeros
abbrev pub EndsAt : Content → ℕ → Type 0
EndsAt c at = (i : ℕ) → at ≤ i → c i ≡ 0

-- Each read has given what was there, and nothing only at the end of the file. Each length was the file's.
abbrev pub IsHonestHistory : Opened → List Call → Type 0
IsHonestHistory first [] = ⊤
IsHonestHistory first (call ∷ calls) =
    (call.kind ≡ 2 → call.bytes ≡ bytes_at (length call.bytes) call.at (seen_after first calls call.file))
    × (call.kind ≡ 2 → call.bytes ≡ [] → EndsAt (seen_after first calls call.file) call.at)
    × (call.kind ≡ 4 → EndsAt (seen_after first calls call.file) call.at)
    × IsHonestHistory first calls

-- Calls were made that wrote only into this range of a file: a read and a crash may find any bytes there.
pub record Touched (first : Opened) (file : FileKind) (at n : ℕ) (old new : List Call) : Type 0 where
  pub torn : Torn file at n (seen_after first old) (seen_after first new)
  pub crash : Follows (Torn file at n) (MayLeaveAfter first old) (MayLeaveAfter first new)
  pub keeps : (c : Contents) → MayLeaveAfter first old c → MayLeaveAfter first new c
  pub time : Elapses (length old) (length new) (LeftSince first old) (LeftSince first new) (MayLeaveAfter first new)
  pub honest : IsHonestHistory first new → IsHonestHistory first old
  -- no sync was made
  pub syncs : has_failed_sync new ≡ has_failed_sync old

-- calls were made that wrote nothing
abbrev pub TouchedNothing : List Call → List Call → Type 0
TouchedNothing old new = (first : Opened) (file : FileKind) (at n : ℕ) → Touched first file at n old new

none_before : (first : Opened) (calls : List Call) (n : ℕ) (c : Contents) → n ≡ zero → HadLeftBefore first calls n c → ⊥
none_before first calls n c none had = subst (λ (k : ℕ). HadLeftBefore first calls k c) none had

-- since the last call there is only the current moment
pub only_after : (first : Opened) (calls : List Call) (c : Contents) → LeftSince first calls (length calls) c → MayLeaveAfter first calls c
only_after first calls c (inl now) = now
only_after first calls c (inr had) = absurd (none_before first calls (length calls - length calls) c (sub_self (length calls)) had)
