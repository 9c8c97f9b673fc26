-- Which disk may be introduced to its host again.
use Rattle.std.specs.Prelude.{◌≡◌, ℕ, List, []}
use Rattle.oram_semantics.specs.State.{State}
use Rattle.oram_stamps.specs.Known.{first_stamp, settled}
use Rattle.oram_stamps.specs.Note.{note_text}

-- A disk was never used if no command of it was ever accepted, no STORE waits, and its note is that of a new disk: so no process has kept
-- it since it was formatted.
pub record IsUnused (stores : List (List ℕ)) (note : List ℕ) (core : State) : Type 0 where
  pub none_waits : stores ≡ []
  pub none_accepted : core.next ≡ 0
  pub note_is_new : note ≡ note_text (settled first_stamp)
