use Rattle.std.proofs.Common.{arith}
use Rattle.std.proofs.lemmas.List.Elements.{All-from_get_or}
use Rattle.oram_state.specs.WellSized.{IsLong}
use Rattle.oram_state.proofs.writer.push_longs.Goals as goal

pub returns-clause-fit : goal.returns-clause-fit
returns-clause-fit c = All-from_get_or IsLong c.args.numbers.now 0 (λ i within. omega (arith, c.type_inv.numbers i))
