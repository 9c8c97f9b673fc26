use Rattle.std.proofs.Common.{◌≡◌, ◌≤◌, ◌+◌, ◌-◌, take, length}
use Rattle.oram_redo.specs.Calls.{calls_of}
use Rattle.oram_redo.specs.Fronts.{WroteFront, front_writes_of}
use Rattle.oram_redo.proofs.system_calls.write_front.Given as goal

abbrev pub invariant-loop-put : goal.invariant-loop-put
invariant-loop-put l =
    (l.put ≤ length l.bytes)
    × (l.at + length l.bytes ≤ 4096)
    × (calls_of l.files ≡ calls_of l.initial.files)
    × WroteFront l.file l.at (take l.put l.bytes) (front_writes_of l.initial.files) (front_writes_of l.files)

abbrev pub decreases-loop-put : goal.decreases-loop-put
decreases-loop-put l = length l.bytes - l.put
