use Rattle.std.proofs.Common.{◌≡◌, ◌++◌, ap, ◌∙◌, sym, subst, false}
use Rattle.oram_wire.specs.FrameStream.{AreFrames, Feeding}
use Rattle.oram_wire.specs.ListOfBodies.{bodies_in}
use Rattle.oram_wire.proofs.Streams.{goes_on, same_reading}
use Rattle.oram_wire.proofs.frames.Frames.feed.Goals as goal

pub returns-clause-only : goal.returns-clause-only
returns-clause-only c = λ whole bodies left reading.
    let P : Feeding → Type 0 = λ old. AreFrames (old.held ++ c.args.piece.now) (bodies_in c.in_ok-fed.fed.frames.items) (record { held = c.advance.new.held.items; broken = c.in_ok-fed.fed.broken }) in
    same_reading (c.args.self.now.held ++ c.args.piece.now) _ _ _ _ reading (subst P c.self.view_is c.in_ok-fed.ensures.ok)

pub returns-clause-stream : goal.returns-clause-stream
returns-clause-stream c = λ stream bodies reading.
    let P : Feeding → Type 0 = λ old. AreFrames (old.held ++ c.args.piece.now) (bodies_in c.in_ok-fed.fed.frames.items) (record { held = c.advance.new.held.items; broken = c.in_ok-fed.fed.broken }) in
    let whole : c.args.self.now.broken ≡ false = sym (ap (λ (old : Feeding). old.broken) c.self.view_is) ∙ c.if-self.false in
    goes_on stream c.args.piece.now bodies _ c.args.self.now _ whole reading (subst P c.self.view_is c.in_ok-fed.ensures.ok)
