use Rattle.std.proofs.Common.{◌∙◌}
use Rattle.std.proofs.lemmas.Result.{IfOk-weaker}
use Rattle.oram_settings.proofs.announcements.made_text.Goals as goal

pub returns : goal.returns
returns c = IfOk-weaker c.format.result _ _ (λ t h. h ∙ rw (c.as_str-size.ensures.value, c.in_ok-size.ensures, c.as_str-room.ensures.value, c.in_ok-room.ensures, c.as_str-next.ensures.value, c.in_ok-next.ensures)) c.format.ensures.ok
