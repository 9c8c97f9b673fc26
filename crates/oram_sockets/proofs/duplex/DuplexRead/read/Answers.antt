use Rattle.std.proofs.Common.{◌≡◌, ◌++◌, ◌+◌, ◌-◌, ℕ, List, length, drop, take, sym, ap, ◌∙◌, subst, arith}
use Rattle.std.specs.Io.KnownBytes.{Consumes, ReadConsumes}
use Rattle.std.proofs.lemmas.List.{length-append, length-take, length-drop}
use Rattle.oram_sockets.specs.Duplex.{DuplexStream, duplex_remaining}
use Rattle.oram_sockets.proofs.TakenIn.{read_front, read_on}
use Rattle.oram_sockets.proofs.duplex.DuplexRead.read.Goals as goal

pub returns-then-unread-eq0-clause-bytes : goal.returns-then-unread-eq0-clause-bytes
returns-then-unread-eq0-clause-bytes g c =
    let inside = c.self.inside in
    let now : DuplexStream _ = record { stream = c.read.new.self; unread = drop inside.taken inside.arrived.items } in
    let none : length (drop inside.taken inside.arrived.items) ≡ 0 =
    ap (λ (d : DuplexStream _). length d.unread) c.self.view_is ∙ sym c.unread.ensures ∙ c.if-unread-eq0.true in
    subst (λ (d : DuplexStream _). ReadConsumes (duplex_remaining g.S.Read.remaining d) (duplex_remaining g.S.Read.remaining now) c.read.result c.read.new.buf) c.self.view_is
    (read_on (g.S.Read.remaining inside.stream) (g.S.Read.remaining c.read.new.self) (drop inside.taken inside.arrived.items) c.read.result c.read.new.buf none c.read.ensures.bytes)

pub returns-clause-bytes : goal.returns-clause-bytes
returns-clause-bytes g c =
    let inside = c.self.inside in
    let count = c.min-count.result in
    let piece = c.copy_from_slice.new.self in
    let rest = drop count c.args.buf.now in
    let long : length piece ≡ count = omega (arith, c.copy_from_slice.ensures.len, c.min-count.ensures, length-take count c.args.buf.now) in
    let front = read_front (g.S.Read.remaining inside.stream) inside.arrived.items rest piece inside.taken count long
    (c.copy_from_slice.ensures.after ∙ ap (λ (l : List ℕ). take ((inside.taken + count) - inside.taken) (drop inside.taken l)) c.deref.ensures.value) in
    let now : DuplexStream _ = record { stream = inside.stream; unread = drop (inside.taken + count) inside.arrived.items } in
    let size : length (piece ++ rest) ≡ length c.args.buf.now = omega (arith, length-append piece rest, long, length-drop count c.args.buf.now, c.min-count.ensures) in (
      subst (λ (d : DuplexStream _). Consumes (duplex_remaining g.S.Read.remaining d) (duplex_remaining g.S.Read.remaining now) (take count (piece ++ rest))) c.self.view_is front,
      λ zero some. absurd (omega (arith, zero, some, size, c.min-count.ensures, c.if-unread-eq0.false, c.unread.ensures, c.unread-2.ensures)),
    )
