use Rattle.std.proofs.Common.{◌≡◌, ◌≤◌, length, None, Err, refl, ap, ◌∙◌}
use Rattle.oram_wire.specs.FrameStream.{frame}
use Rattle.oram_session.specs.Loopback.{longest_frame}
use Rattle.oram_session.proofs.Looped.{passed}
use Rattle.oram_session.proofs.links.loopback.LoopLink.pass.Goals as goal

pub returns-in-Ok-clause-answer : goal.returns-in-Ok-clause-answer
returns-in-Ok-clause-answer g c =
    let k = c.in-Ok.ensures.ok in
    let host : c.self.inside.server ≡ c.args.self.now.host = ap (λ v. v.host) c.self.view_is ∙ c.take_ends.ensures.host in
    let fits : length (frame c.args.body.now) ≤ longest_frame = c.if-is_too_large.ensures in
    passed g.R.Stream.Read.remaining g.R.Stream.Write.contents c.args.self.now _ c.args.body.now _ c.self.inside.server (c.in_ok-near.near, c.in_ok-near.far) fits c.in_ok-near.ensures.ok host
    (k.0, k.1, (c.cross.new.near, c.cross.new.far), k.2, k.3, refl)

pub returns-in-Err-TooLarge-clause-answer : goal.returns-in-Err-TooLarge-clause-answer
returns-in-Err-TooLarge-clause-answer g c =
    let k = c.in-Err-TooLarge.ensures.large (ap Err c.in-Err-TooLarge.field-0-is) in
    let host : c.self.inside.server ≡ c.args.self.now.host = ap (λ v. v.host) c.self.view_is ∙ c.take_ends.ensures.host in
    let fits : length (frame c.args.body.now) ≤ longest_frame = c.if-is_too_large.ensures in
    passed g.R.Stream.Read.remaining g.R.Stream.Write.contents c.args.self.now _ c.args.body.now _ c.self.inside.server (c.in_ok-near.near, c.in_ok-near.far) fits c.in_ok-near.ensures.ok host
    (k.0, (c.cross.new.near, c.cross.new.far), k.1, k.2, refl)

pub returns-in-Err-OutOfMemory-clause-answer : goal.returns-in-Err-OutOfMemory-clause-answer
returns-in-Err-OutOfMemory-clause-answer g c =
    let host : c.self.inside.server ≡ c.args.self.now.host = ap (λ v. v.host) c.self.view_is ∙ c.take_ends.ensures.host in
    let ends : c.self.inside.ends ≡ None = ap (λ v. v.ends) c.self.view_is ∙ c.take_ends.ensures.none in
    let fits : length (frame c.args.body.now) ≤ longest_frame = c.if-is_too_large.ensures in
    passed g.R.Stream.Read.remaining g.R.Stream.Write.contents c.args.self.now _ c.args.body.now _ c.self.inside.server (c.in_ok-near.near, c.in_ok-near.far) fits c.in_ok-near.ensures.ok host
    (c.in-Err-OutOfMemory.ensures.err, ends)

pub returns-in-Err-Io : goal.returns-in-Err-Io
returns-in-Err-Io g c =
    let host : c.self.inside.server ≡ c.args.self.now.host = ap (λ v. v.host) c.self.view_is ∙ c.take_ends.ensures.host in
    let ends : c.self.inside.ends ≡ None = ap (λ v. v.ends) c.self.view_is ∙ c.take_ends.ensures.none in
    let fits : length (frame c.args.body.now) ≤ longest_frame = c.if-is_too_large.ensures in
    record {
      faults = ap (λ v. v.faults) c.self.view_is ∙ c.take_ends.ensures.faults;
      answer = passed g.R.Stream.Read.remaining g.R.Stream.Write.contents c.args.self.now _ c.args.body.now _ c.self.inside.server (c.in_ok-near.near, c.in_ok-near.far) fits c.in_ok-near.ensures.ok host
          (c.in-Err-Io.ensures.err, ends);
    }
