use Rattle.std.proofs.Common.{rules}
use Rattle.oram_wire.proofs.Numbers.{op_and_number}
use Rattle.oram_wire.proofs.host_messages.HostView.read.Goals as goal

pub returns-else-fields-ne6-clause-found : goal.returns-else-fields-ne6-clause-found
returns-else-fields-ne6-clause-found c =
    op_and_number 4 c.args.body.now c.read_u32.result c.in-len1-up.len_at_least c.in-4.is c.if-fields-ne6.false (λ i. let h = c.type_inv.body i in search rules) c.read_u32.ensures
