use Rattle.oram_link_laws.proofs.Rows.{overlay_example}
use Rattle.oram_link_laws.proofs.law.overlay_example.Goals as goal

pub returns : goal.returns
returns c = overlay_example
