use Rattle.std.proofs.Common.{rules}
use Rattle.oram_wire.proofs.Numbers.{place_and_rest}
use Rattle.oram_wire.proofs.host_messages.place_in.Goals as goal

pub returns-clause-found : goal.returns-clause-found
returns-clause-found c =
    place_and_rest c.args.fields.now c.read_u32.result c.if-fields-lt5.false (λ i. let h = c.type_inv.fields i in search rules) c.read_u32.ensures
