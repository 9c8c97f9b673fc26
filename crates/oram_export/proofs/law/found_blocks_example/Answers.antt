use Rattle.oram_export.proofs.Example.{found_blocks_example}
use Rattle.oram_export.proofs.law.found_blocks_example.Goals as goal

pub returns : goal.returns
returns c = found_blocks_example
