-- The parts of a volume.
use Rattle.oram_core.specs.Core.{CoreValue}
use Rattle.oram_rounds.specs.Rounds.{Round}

pub record VolumeParts (S B K T : Type 0) : Type 0 where
  pub core : CoreValue S
  pub link : Round B
  pub keeper : K
  pub tape : T
