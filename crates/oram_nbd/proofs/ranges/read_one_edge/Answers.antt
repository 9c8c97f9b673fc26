use Rattle.std.proofs.Common.{◌≡◌, ◌+◌, ◌*◌, ℕ, drop, take, ap, ◌∙◌, subst, arith, rules}
use Rattle.oram_nbd.specs.Bytes.{bytes_at}
use Rattle.std.proofs.lemmas.Result.{err_from_is_err_and}
use Rattle.oram_nbd.proofs.Beside.{weaker}
use Rattle.oram_nbd.proofs.Edges.{mul-one, rest_of}
use Rattle.oram_nbd.proofs.Saving.{all_weaker}
use Rattle.oram_nbd.proofs.ranges.read_one_edge.Goals as goal

pub returns-in_err-bytes-clause-goes : goal.returns-in_err-bytes-clause-goes
returns-in_err-bytes-clause-goes g c =
    let p = err_from_is_err_and c.from_residual.result c.from_residual.ensures.1 in
    rw p.1 (weaker c.in_err-bytes.ensures.goes (λ may_lie world old new h step. (step.0, tt, λ e. step.2 cc)))

pub returns-clause-goes : goal.returns-clause-goes
returns-clause-goes g c =
    let b = g.D.BlockDevice.block_len c.args.disk.now in
    weaker c.in_ok-bytes.ensures.goes (λ may_lie world old new h step.
    let read : c.in_ok-bytes.bytes.items ≡ bytes_at old.held (b * c.args.cover.first) b = step.1 ∙ ap (bytes_at old.held (b * c.args.cover.first)) (mul-one b) in
    let front : c.in_ok-before.before ≡ take c.args.cover.start c.in_ok-bytes.bytes.items = search rules in
    let back : c.in_ok-after.after ≡ drop (c.args.cover.start + c.args.len) c.in_ok-bytes.bytes.items =
    c.in_ok-after.ensures ∙ rest_of _ c.deref-2.result.now ∙ ap (drop (c.args.cover.start + c.args.len)) c.deref-2.ensures.value in (
      (step.0.0, all_weaker step.0.1 (λ none. absurd none)),
      (front ∙ ap (take c.args.cover.start) read, back ∙ ap (drop (c.args.cover.start + c.args.len)) read),
      λ e. cc,
    ))
