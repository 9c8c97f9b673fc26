use Rattle.std.proofs.Common.{arith}
use Rattle.std.proofs.lemmas.Nat.{be_bytes_4}
use Rattle.oram_wire.proofs.frame_io.number_of.Goals as goal

pub returns : goal.returns
returns c = be_bytes_4 c.args.bytes.now c.read_u32.result c.requires (λ i. omega (arith, c.type_inv.bytes i)) (omega (arith, c.read_u32.ensures))
