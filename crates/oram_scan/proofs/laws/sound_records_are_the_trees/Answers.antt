use Rattle.oram_scan.proofs.Findings.{sound_are_the_trees}
use Rattle.oram_scan.proofs.laws.sound_records_are_the_trees.Goals as goal

pub returns : goal.returns
returns c = sound_are_the_trees
