use Rattle.std.proofs.Common.{rules}
use Rattle.oram_levels.proofs.Bodies.{fetch_is, store_is}
use Rattle.oram_levels.proofs.request.LevelsRequest.decode.Goals as goal

pub returns-in-6-clause-found : goal.returns-in-6-clause-found
returns-in-6-clause-found c =
    fetch_is c.args.body.now c.read_u32.result c.in-6.len_at_least (search rules) c.if-fields-eq4.true (λ i. let h = c.type_inv.body i in search rules) c.read_u32.ensures

pub returns-in-7-clause-found : goal.returns-in-7-clause-found
returns-in-7-clause-found c =
    store_is c.args.body.now c.read_u32-in-7.result (search rules) (search rules) c.if-fields-ge4.true (λ i. let h = c.type_inv.body i in search rules) c.read_u32-in-7.ensures
