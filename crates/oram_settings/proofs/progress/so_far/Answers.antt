use Rattle.std.proofs.Common.{◌∙◌}
use Rattle.std.proofs.lemmas.Result.{IfOk-weaker}
use Rattle.oram_settings.proofs.progress.so_far.Goals as goal

pub returns : goal.returns
returns c = IfOk-weaker c.format.result _ _ (λ t h. h ∙ rw (c.name-name.ensures, c.percent-percent.ensures)) c.format.ensures.ok
