use Rattle.std.proofs.Common.{◌∙◌, arith, ap, length}
use Rattle.oram_summary.proofs.SealedText.{length-sealing}
use Rattle.oram_summary.proofs.sealed.seal_summary.Goals as goal

pub returns-clause-len : goal.returns-clause-len
returns-clause-len c =
    ap length c.in_ok-seal.ensures ∙ length-sealing c.args.key.now c.args.salt.now c.deref.result.now c.told-salt ∙ omega (arith, ap length c.deref.ensures.value, c.in-Ok.ensures.len)
