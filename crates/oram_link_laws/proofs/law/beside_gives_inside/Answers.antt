use Rattle.oram_link_laws.proofs.Ran.{beside_gives_inside}
use Rattle.oram_link_laws.proofs.law.beside_gives_inside.Goals as goal

pub returns : goal.returns
returns c c' = beside_gives_inside _
