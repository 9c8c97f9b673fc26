use Rattle.std.proofs.Common.{◌≡◌, ◌++◌, ℕ, List}
use Rattle.oram_export.specs.Stages.{IsFurther, TakesRows, stage_of}
use Rattle.oram_export.proofs.progress.take_rows.Given as goal

abbrev pub invariant-loop : goal.invariant-loop
invariant-loop g l = record {
  further : IsFurther l.initial.progress l.progress l.counter;
  taken : (text : List ℕ) × (l.fn.text ≡ text ++ l.rest)
      × TakesRows (g.V.RecordVisitor.sees l.visitor) l.record_len (stage_of l.initial.progress l.initial.target) text (stage_of l.progress l.target);
}
