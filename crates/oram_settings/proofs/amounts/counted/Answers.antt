use Rattle.std.proofs.Common.{◌∙◌}
use Rattle.std.proofs.lemmas.Result.{IfOk-weaker}
use Rattle.oram_settings.proofs.amounts.counted.Goals as goal

pub returns-then-count-eq1 : goal.returns-then-count-eq1
returns-then-count-eq1 c = IfOk-weaker c.format.result _ _ (λ t h. h ∙ rw c.if-count-eq1.true) c.format.ensures.ok
