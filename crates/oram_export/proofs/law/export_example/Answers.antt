use Rattle.oram_export.proofs.Example.{export_example}
use Rattle.oram_export.proofs.law.export_example.Goals as goal

pub returns : goal.returns
returns c = export_example
