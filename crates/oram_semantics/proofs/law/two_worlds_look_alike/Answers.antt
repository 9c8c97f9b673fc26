use Rattle.oram_semantics.proofs.TwoWorlds.{two_worlds}
use Rattle.oram_semantics.proofs.law.two_worlds_look_alike.Goals as goal

pub returns : goal.returns
returns c = two_worlds
