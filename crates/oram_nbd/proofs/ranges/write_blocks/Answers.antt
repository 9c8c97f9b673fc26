use Rattle.std.proofs.Common.{◌≡◌, ◌*◌, inl, ℕ, ap, ◌∙◌, arith, ◌<◌}
use Rattle.std.proofs.lemmas.Result.{err_from_is_err_and}
use Rattle.oram_nbd.specs.Bytes.{written}
use Rattle.oram_nbd.proofs.Beside.{weaker}
use Rattle.oram_nbd.proofs.Saving.{all_weaker, part_weaker}
use Rattle.oram_nbd.proofs.ListSteps.{one_write_begun}
use Rattle.oram_nbd.proofs.ranges.write_blocks.Goals as goal
use Rattle.oram_nbd.proofs.Accesses.{asks_one, whole_one}
use Rattle.std.proofs.lemmas.List.{append-nil}

pub returns-in_err-carry_out-clause-goes : goal.returns-in_err-carry_out-clause-goes
returns-in_err-carry_out-clause-goes g c =
    let p = err_from_is_err_and c.from_residual.result c.from_residual.ensures.1 in
    let same : c.from.result ≡ g.D.BlockDevice.block_len c.args.disk.now = c.from.ensures ∙ c.block_bytes.ensures.value in
    let place = ap (λ (n : ℕ). n * c.args.first) same in
    rw p.1 (weaker c.in_err-carry_out.ensures.goes (λ may_lie world old new h step.
    (tt, one_write_begun _ _ c.args.payload place old.held new.held step.0, λ e. step.1 cc, part_weaker step.2 (λ x begun. one_write_begun _ _ c.args.payload place old.held x begun))))

pub returns-clause-goes : goal.returns-clause-goes
returns-clause-goes g c =
    let same : c.from.result ≡ g.D.BlockDevice.block_len c.args.disk.now = c.from.ensures ∙ c.block_bytes.ensures.value in
    weaker c.in_ok-carry_out.ensures.goes (λ may_lie world old new h step.
    (step.0.1 ∙ ap (λ (n : ℕ). written old.held (n * c.args.first) c.args.payload) same, tt, λ e. cc, all_weaker step.2 (λ some. inl some)))

pub returns-clause-asks : goal.returns-clause-asks
returns-clause-asks g c = λ count long.
    let b = g.D.BlockDevice.block_len c.args.disk.now in
    let same : c.from.result ≡ b = c.from.ensures ∙ c.block_bytes.ensures.value in
    let some : 0 < b = omega (arith, c.block_bytes.ensures.some, c.block_bytes.ensures.value) in
    asks_one g.D.BlockDevice.asked c.args.disk.now c.carry_out.new.self _ _
    (append-nil _ ∙ whole_one b _ _ c.args.first count some (ap (λ (n : ℕ). n * c.args.first) same) long) c.in_ok-carry_out.ensures.asks
