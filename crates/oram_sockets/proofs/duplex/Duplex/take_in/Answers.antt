use Rattle.std.proofs.Common.{◌+◌, drop, ◌∙◌, subst, arith}
use Rattle.std.specs.Io.KnownBytes.{Keeps}
use Rattle.oram_sockets.specs.Duplex.{DuplexStream, duplex_remaining}
use Rattle.oram_sockets.proofs.TakenIn.{taken_in}
use Rattle.oram_sockets.proofs.duplex.Duplex.take_in.Goals as goal

pub returns-in-Ok : goal.returns-in-Ok
returns-in-Ok g c =
    let inside = c.self.inside in
    let count = c.in-Ok.count in
    let before = c.len-before.result in
    let whole = c.deref_mut.result.now in
    let new = c.truncate-in-Ok.new.self.items in
    let keeps = taken_in (g.S.Read.remaining inside.stream) (g.S.Read.remaining c.read.new.self) inside.arrived.items whole _ c.read.new.buf _ _ new
    inside.taken before count (before + c.min-more.result) c.resize.new.self.len c.self.invariant (omega (arith, c.len-before.ensures)) (omega arith)
    (c.deref_mut.ensures.value ∙ c.in_ok-resize.ensures.items) c.in-Ok.ensures.bound.0 (omega (arith, c.in-Ok.ensures.bound.0, c.read.auto.buf, c.in_ok-resize.ensures.len, c.deref_mut.ensures.len))
    c.truncate-in-Ok.ensures.items c.in-Ok.ensures.bytes.0 in
    subst (λ (d : DuplexStream _). Keeps (duplex_remaining g.S.Read.remaining d) (duplex_remaining g.S.Read.remaining (record { stream = c.read.new.self; unread = drop inside.taken new })))
    (c.self.view_is ∙ c.forget_taken.ensures) keeps
