use Rattle.std.proofs.Common.{rules}
use Rattle.oram_checkpoints.proofs.Fronts.{long_front}
use Rattle.oram_checkpoints.proofs.numbers.split_long.Goals as goal

pub returns-clause-some : goal.returns-clause-some
returns-clause-some c =
    let parts = c.in_ok-number.ensures.cases in
    long_front c.args.bytes.now c.in_ok-number.number.now c.in_ok-number.rest.now c.from_be_bytes.result (λ i. let h = c.type_inv.bytes i in search rules) parts.0 parts.1 parts.2 c.from_be_bytes.ensures
