use Rattle.oram_scan.proofs.Images.{found_are_the_contents}
use Rattle.oram_scan.proofs.laws.found_blocks_are_the_contents.Goals as goal

pub returns : goal.returns
returns c = found_are_the_contents
