use Rattle.std.proofs.Common.{◌∙◌}
use Rattle.std.proofs.lemmas.Result.{IfOk-weaker}
use Rattle.oram_settings.proofs.disk_file.disk_text.Goals as goal

pub returns : goal.returns
returns c = IfOk-weaker c.format.result _ _ (λ t h. h ∙ rw (c.as_str-key.ensures.value, c.in_ok-key.ensures, c.default_table-table.ensures, c.default_near-near.ensures)) c.format.ensures.ok
