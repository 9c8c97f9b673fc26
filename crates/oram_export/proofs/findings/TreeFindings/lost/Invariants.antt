use Rattle.std.proofs.Common.{◌≡◌, sum_by, take}
use Rattle.oram_export.specs.Findings.{lost_of}
use Rattle.oram_export.proofs.findings.TreeFindings.lost.Given as goal

abbrev pub invariant-loop-level : goal.invariant-loop-level
invariant-loop-level l = l.lost ≡ sum_by lost_of (take l.level-index l.self)
