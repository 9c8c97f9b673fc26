use Rattle.std.proofs.Common.{◌≡◌, ◌≤◌, ◌-◌, take, length}
use Rattle.oram_redo.specs.Calls.{calls_of}
use Rattle.oram_redo.specs.Content.{bytes_at}
use Rattle.oram_redo.specs.Opened.{Opened}
use Rattle.oram_redo.specs.System.{IsHonestHistory, TouchedNothing, seen_after}
use Rattle.oram_redo.proofs.system_calls.fill.Given as goal

abbrev pub invariant-loop-got : goal.invariant-loop-got
invariant-loop-got l =
    (l.got ≤ length l.bytes)
    × TouchedNothing (calls_of l.initial.files) (calls_of l.files)
    × ((first : Opened) → IsHonestHistory first (calls_of l.files) → take l.got l.bytes ≡ bytes_at l.got l.at (seen_after first (calls_of l.initial.files) l.file))

abbrev pub decreases-loop-got : goal.decreases-loop-got
decreases-loop-got l = length l.bytes - l.got
