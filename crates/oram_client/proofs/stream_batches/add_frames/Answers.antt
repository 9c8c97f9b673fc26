use Rattle.std.proofs.Common.{◌≡◌, ℕ, ◌+◌, List, [], ◌∷◌, ◌++◌, take, sym, subst}
use Rattle.std.proofs.lemmas.Result.{err_from_is_err_and}
use Rattle.oram_wire.specs.FrameStream.{IsBody, frame}
use Rattle.oram_link_laws.specs.Repair.{IsAmong}
use Rattle.oram_rounds.specs.Batches.{texts}
use Rattle.oram_rounds.proofs.Texts.{among_at, take_next}
use Rattle.oram_client.proofs.Frames.{among_one, fit_next, framed_next, unframed_among}
use Rattle.oram_client.proofs.stream_batches.add_frames.Goals as goal

pub returns-in_err-add_frame-clause-err : goal.returns-in_err-add_frame-clause-err
returns-in_err-add_frame-clause-err c =
    let p = err_from_is_err_and c.from_residual.result c.from_residual.ensures.1 in
    let bodies = texts c.args.bodies.now in
    let body = c.deref.result.now in
    let among = subst (λ (b : List ℕ). IsAmong b bodies) (sym c.deref.ensures.value)
    (among_at c.args.bodies.now c.loop-body.body-index c.body-item.result c.loop-body-test.true c.body-item.is) in
    rw (p.1, p.2) (unframed_among (body ∷ []) bodies _ (λ x one. among_one bodies body x among one) c.in_err-add_frame.ensures.err)

pub loop-body-preserved : goal.loop-body-preserved
loop-body-preserved c =
    let i = c.loop-body.body-index in
    let next = take_next c.args.bodies.now i c.body-item.result c.loop-body-test.true c.body-item.is in
    let front = take i (texts c.args.bodies.now) in
    let all = take (i + 1) (texts c.args.bodies.now) in
    let fits = subst IsBody c.deref.ensures.value c.in_ok-add_frame.ensures.fits in
    let more = subst (λ (b : List ℕ). c.add_frame.new.frames.items ≡ c.loop-body.frames.items ++ frame b) c.deref.ensures.value c.in_ok-add_frame.ensures.ok in
    record {
      fit = fit_next front all c.body-item.result.items next c.loop-body.invariant.fit fits;
      framed = framed_next c.args.frames.now.items front all c.body-item.result.items c.loop-body.frames.items c.add_frame.new.frames.items next
          c.loop-body.invariant.framed more;
    }
