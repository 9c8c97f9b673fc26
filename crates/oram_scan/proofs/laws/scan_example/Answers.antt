use Rattle.oram_scan.proofs.Example.{example}
use Rattle.oram_scan.proofs.laws.scan_example.Goals as goal

pub returns : goal.returns
returns c = example
