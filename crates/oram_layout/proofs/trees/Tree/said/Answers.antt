use Rattle.std.proofs.Common.{refl}
use Rattle.oram_pair.specs.Fronts.{eight_bytes}
use Rattle.oram_layout.specs.Header.{four_bytes}
use Rattle.oram_layout.proofs.trees.Tree.said.Goals as goal

pub returns : goal.returns
unfolding eight_bytes four_bytes
returns c = rw (c.to_le_bytes-len.ensures, c.to_le_bytes-base.ensures) refl
