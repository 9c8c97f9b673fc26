use Rattle.oram_near.proofs.FormattedBytes.{of_formatting}
use Rattle.oram_near.proofs.law.collected_bytes_are_of_formatting.Goals as goal

pub returns : goal.returns
returns c = of_formatting
