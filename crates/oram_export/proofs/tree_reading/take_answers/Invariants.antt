use Rattle.std.proofs.Common.{◌-◌, ◌*◌, min, drop, length}
use Rattle.std.specs.List.{flat_map}
use Rattle.oram_rounds.specs.Batches.{texts}
use Rattle.oram_export.specs.Stages.{IsFurther, TakesRows, stage_of}
use Rattle.oram_export.proofs.tree_reading.take_answers.Given as goal

abbrev pub invariant-loop-answer : goal.invariant-loop-answer
invariant-loop-answer g l = record {
  further : IsFurther l.initial.progress l.progress (min (length (texts l.yielded) * l.requests.most) (l.requests.nodes - l.initial.progress.scan.node));
  taken : TakesRows (g.V.RecordVisitor.sees l.visitor) l.record_len (stage_of l.initial.progress l.initial.target) (flat_map (drop 1) (texts l.yielded)) (stage_of l.progress l.target);
}
