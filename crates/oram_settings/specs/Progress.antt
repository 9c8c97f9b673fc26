-- The progress of what takes long.
use Rattle.std.specs.Prelude.{ℕ, List, ◌*◌, ◌+◌, ◌/◌, ◌-◌, ◌^◌, [], ◌∷◌, min, max, if◌then◌else◌, nat_le, nat_lt, codes, decimal}
use Rattle.std.specs.List.{concat}
use Rattle.oram_settings.specs.declared.progress.LongWork.{LongWork}
use Rattle.oram_settings.specs.declared.progress.LongWork.TheVariants.{Checking, Exporting, Formatting}
use Rattle.oram_settings.specs.declared.progress.Meter.{Meter}

-- what the work is called
abbrev pub name : LongWork → List ℕ
name Formatting = codes "formatting"
name Checking = codes "checking"
name Exporting = codes "exporting"

-- how much is done, in percent
abbrev pub percent : ℕ → ℕ → ℕ
percent done of = if nat_le of done then 100 else done * 100 / of

-- in how many seconds the rest will be done, at the pace of the `milliseconds` so far
abbrev pub seconds_left : ℕ → ℕ → ℕ → ℕ
seconds_left done of milliseconds = min (milliseconds * (of - done) / max done 1 / 1000) (2 ^ 64 - 1)

-- the text without the time that is left
abbrev pub so_far : LongWork → ℕ → ℕ → List ℕ
so_far work done of = concat (name work ∷ codes ": " ∷ decimal (percent done of) ∷ codes " % (" ∷ decimal done ∷ codes " of " ∷ decimal of ∷ codes " records)" ∷ [])

-- the text with the time that is left
abbrev pub with_time_left : LongWork → ℕ → ℕ → ℕ → List ℕ
with_time_left work done of milliseconds =
    concat (name work ∷ codes ": " ∷ decimal (percent done of) ∷ codes " % (" ∷ decimal done ∷ codes " of " ∷ decimal of ∷ codes " records), "
    ∷ decimal (seconds_left done of milliseconds) ∷ codes " s left" ∷ [])

-- the text, with the time that is left once a second has passed
abbrev pub progress_text : LongWork → ℕ → ℕ → ℕ → List ℕ
progress_text work done of milliseconds = if nat_lt milliseconds 1000 then so_far work done of else with_time_left work done of milliseconds

-- when a text is due after one at this percentage: a step later, but not later than at 100 percent
abbrev pub next_due : ℕ → ℕ → ℕ
next_due percent step = let next = min (percent + step) (2 ^ 64 - 1) in if nat_lt percent 100 then min next 100 else next

-- a meter after `is_due` at this percentage: if it was due, it is due next a step later, or when all is done
abbrev pub meter_after : Meter → ℕ → Meter
meter_after meter percent = if nat_le meter.next percent then record meter { next = next_due percent meter.step } else meter
