use Rattle.std.proofs.Common.{◌≡◌, ◌≤◌, ◌-◌, ℕ}
use Rattle.oram_redo.specs.Content.{Content}
use Rattle.oram_redo.specs.NamedLog.{HasRead, IsUnnamed, AreDone, calls_on, copied}
use Rattle.oram_redo.specs.Renewal.{AgreesBelow}
use Rattle.oram_redo.proofs.renewal.copy_up_to.Given as goal

abbrev pub invariant-loop-at : goal.invariant-loop-at
invariant-loop-at l =
    (l.at ≤ l.end)
    × IsUnnamed (calls_on l.named)
    × AreDone (calls_on l.named)
    × ((log : Content) → HasRead log (calls_on l.named) → HasRead log (calls_on l.initial.named))
    × ((log : Content) → HasRead log (calls_on l.named) → AgreesBelow l.at log (copied (calls_on l.named)))
    × ((i : ℕ) → l.at ≤ i → copied (calls_on l.named) i ≡ 0)

abbrev pub decreases-loop-at : goal.decreases-loop-at
decreases-loop-at l = l.end - l.at
