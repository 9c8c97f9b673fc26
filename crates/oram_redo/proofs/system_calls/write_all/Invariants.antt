use Rattle.std.proofs.Common.{◌≤◌, ◌-◌, take, length}
use Rattle.oram_redo.specs.Calls.{calls_of}
use Rattle.oram_redo.specs.FilePair.{Wrote}
use Rattle.oram_redo.specs.Opened.{Opened}
use Rattle.oram_redo.specs.System.{Touched, seen_after}
use Rattle.oram_redo.proofs.system_calls.write_all.Given as goal

abbrev pub invariant-loop-put : goal.invariant-loop-put
invariant-loop-put l =
    (l.put ≤ length l.bytes)
    × ((first : Opened) → Wrote l.file l.at (take l.put l.bytes) (seen_after first (calls_of l.initial.files)) (seen_after first (calls_of l.files)))
    × ((first : Opened) → Touched first l.file l.at (length l.bytes) (calls_of l.initial.files) (calls_of l.files))

abbrev pub decreases-loop-put : goal.decreases-loop-put
decreases-loop-put l = length l.bytes - l.put
