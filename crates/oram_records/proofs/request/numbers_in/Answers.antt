use Rattle.std.proofs.Common.{rules}
use Rattle.oram_records.proofs.Numbers.{pair_is}
use Rattle.oram_records.proofs.request.numbers_in.Goals as goal

pub returns : goal.returns
returns c = pair_is c.args.bytes.now c.read_u32.result c.read_u32-2.result c.requires (λ i. let h = c.type_inv.bytes i in search rules) c.read_u32.ensures c.read_u32-2.ensures
