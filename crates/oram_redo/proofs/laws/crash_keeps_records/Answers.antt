use Rattle.oram_redo.proofs.Consistent.{keeps_now}
use Rattle.oram_redo.proofs.laws.crash_keeps_records.Goals as goal

pub returns : goal.returns
returns g c loose f consistent now = keeps_now c.args.redo.now loose _ _ consistent f now
