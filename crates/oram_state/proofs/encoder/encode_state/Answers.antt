use Rattle.oram_state.proofs.Counted.{counted}
use Rattle.oram_state.proofs.Sized.{saved_as}
use Rattle.oram_state.proofs.Tools.{if_both}
use Rattle.oram_state.proofs.encoder.encode_state.Goals as goal

pub write_state-requires : goal.write_state-requires
write_state-requires g c = counted (g.S.Sealer.cipher c.args.core.now.sealer).overhead _ c.in_ok-parts.ensures.right

pub returns-clause-saved : goal.returns-clause-saved
returns-clause-saved g c = λ one.
    let same = c.in_ok-parts.ensures.same in
    let right = c.in_ok-parts.ensures.right in
    let again = c.in_ok-parts.ensures.again in
    if_both c.write_state.result _ _ _ (λ file spelled fit. saved_as file.items (g.S.Sealer.cipher c.args.core.now.sealer).overhead c.overhead.result _ c.args.core.now.device c.args.core.now.state c.overhead.ensures same again right spelled fit one)
    c.write_state.ensures.spelled c.write_state.ensures.fit
