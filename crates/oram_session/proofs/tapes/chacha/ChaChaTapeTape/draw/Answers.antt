use Rattle.oram_session.proofs.Words.{next_drawn}
use Rattle.oram_session.proofs.tapes.chacha.ChaChaTapeTape.draw.Goals as goal

pub loop-preserved : goal.loop-preserved
loop-preserved c =
    let tape = c.args.self.now in
    let k = next_drawn tape.key tape.trees c.args.ticket c.loop.counter _ _ _ _ _ c.loop.invariant.place c.next_u64_via_u32.ensures c.loop.invariant.drawn c.in_ok-push.ensures.items in
    record { drawn = k.0; place = k.1 }
