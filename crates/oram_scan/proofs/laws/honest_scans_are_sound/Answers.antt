use Rattle.oram_scan.proofs.Findings.{given_are_sound}
use Rattle.oram_scan.proofs.laws.honest_scans_are_sound.Goals as goal

pub returns : goal.returns
returns c = given_are_sound
