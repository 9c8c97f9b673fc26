-- Which generations of a file and its log a crash leaves side by side.
use Rattle.std.specs.Prelude.{◌≡◌, ◌⊎◌, suc, Bool, true, false}
use Rattle.oram_pair.specs.declared.generations.Newest.{Newest}

-- Both fronts say the same generation, or the log is one ahead and has no entries yet.
abbrev pub GoTogether : Newest → Newest → Bool → Type 0
GoTogether file log has_entries = (log.number ≡ file.number) ⊎ ((log.number ≡ suc file.number) × (has_entries ≡ false))

-- each field of both fronts is sound
abbrev pub AreSound : Newest → Newest → Type 0
AreSound file log = (file.is_whole ≡ true) × (log.is_whole ≡ true)
