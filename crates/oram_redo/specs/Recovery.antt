-- An entry that recovery finds in the log.
use Rattle.std.specs.Prelude.{◌≡◌, ◌<◌, ◌≤◌, ℕ, ◌+◌, ◌^◌, ◌∷◌, length}
use Rattle.oram_redo.specs.Content.{Content, Has, bytes_at}
use Rattle.oram_redo.specs.Log.{Patch, Fits, check_bytes, entry, place_and_length}
use Rattle.oram_redo.specs.declared.bounds.Bounds.{Bounds}
use Rattle.oram_redo.specs.declared.recovery.Entry.{Entry}

-- The entry at the place, with this length, has the checksum of what it says.
abbrev pub IsWholeAt : Content → ℕ → ℕ → Type 0
IsWholeAt log at len = bytes_at 8 (at + 13 + len) log ≡ check_bytes (bytes_at (12 + len) (at + 1) log)

-- A whole entry with an open gate is at the place, and has room there.
pub record IsEntryAt (bounds : Bounds) (log : Content) (at : ℕ) (found : Entry) : Type 0 where
  pub head : bytes_at 13 at log ≡ 255 ∷ place_and_length found.at found.len
  pub whole : IsWholeAt log at found.len
  pub next : found.next ≡ at + 21 + found.len
  pub room : found.next < bounds.log_end
  pub within : found.at + found.len ≤ bounds.records_end
  pub place_fits : found.at < 2 ^ 64
  pub length_fits : found.len < 2 ^ 32

-- No log goes on at the place: the bytes there are neither a whole entry that has room nor a shut gate.
pub record IsDamagedAt (bounds : Bounds) (log : Content) (at : ℕ) : Type 0 where
  pub no_end : (log at ≡ 255 → ⊥) → at < bounds.log_end → ⊥
  pub no_entry : (p : Patch) → Fits bounds p → Has (entry p) at log → at + length (entry p) < bounds.log_end → ⊥

-- The log may end at the place: the gate there is shut, and it has room.
pub record IsEndAt (bounds : Bounds) (log : Content) (at : ℕ) : Type 0 where
  pub shut : log at ≡ 255 → ⊥
  pub room : at < bounds.log_end
