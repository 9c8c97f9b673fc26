use Rattle.std.proofs.Common.{◌≡◌, ◌*◌, ◌<◌, ℕ, inl, sym, ◌∙◌, subst, rules, ap, arith}
use Rattle.std.proofs.lemmas.Result.{err_from_is_err_and}
use Rattle.oram_nbd.specs.Bytes.{bytes_at}
use Rattle.oram_nbd.proofs.Beside.{weaker}
use Rattle.oram_nbd.proofs.Saving.{all_weaker, part_weaker}
use Rattle.oram_nbd.proofs.ListSteps.{same_once}
use Rattle.oram_nbd.proofs.ranges.read_blocks.Goals as goal
use Rattle.oram_nbd.proofs.Accesses.{asks_one, whole_one}
use Rattle.std.proofs.lemmas.List.{append-nil}

pub returns-in_err-given-clause-goes : goal.returns-in_err-given-clause-goes
returns-in_err-given-clause-goes g c =
    let p = err_from_is_err_and c.from_residual.result c.from_residual.ensures.1 in
    rw p.1 (weaker c.in_err-given.ensures.goes (λ may_lie world old new h step.
    ((same_once old.held new.held step.0, part_weaker step.2 (λ x begun. same_once old.held x begun)), tt, λ e. step.1 cc)))

pub returns-clause-goes : goal.returns-clause-goes
returns-clause-goes g c =
    let b = g.D.BlockDevice.block_len c.args.disk.now in
    let same : c.from-block.result ≡ b = c.from-block.ensures ∙ c.block_bytes.ensures.value in
    weaker c.in_ok-given.ensures.goes (λ may_lie world old new h step.
    let read : c.into_vec.result.items ≡ bytes_at old.held (b * c.args.first) (b * c.args.count) = search rules in
    ((step.0.1, all_weaker step.2 (λ some. inl (subst (λ (n : ℕ). 0 < n * c.args.count) (sym same) some))), read, λ e. cc))

pub returns-clause-asks : goal.returns-clause-asks
returns-clause-asks g c =
    let b = g.D.BlockDevice.block_len c.args.disk.now in
    let same : c.from-block.result ≡ b = c.from-block.ensures ∙ c.block_bytes.ensures.value in
    let some : 0 < b = omega (arith, c.block_bytes.ensures.some, c.block_bytes.ensures.value) in
    asks_one g.D.BlockDevice.asked c.args.disk.now c.carry_out.new.self _ _
    (append-nil _ ∙ whole_one b _ _ c.args.first c.args.count some (ap (λ (n : ℕ). n * c.args.first) same) (ap (λ (n : ℕ). n * c.args.count) same)) c.in_ok-given.ensures.asks
