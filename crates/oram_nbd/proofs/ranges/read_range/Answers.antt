use Rattle.std.proofs.Common.{◌≡◌, ◌+◌, ◌-◌, ◌*◌, ◌<◌, ◌≤◌, ℕ, List, drop, take, refl, sym, ap, ◌∙◌, subst, arith, rules}
use Rattle.std.proofs.lemmas.Result.{err_from_is_err_and}
use Rattle.oram_nbd.specs.Bytes.{bytes_at}
use Rattle.oram_nbd.proofs.Accesses.{asks_two, part_calls_are, part_has_edge}
use Rattle.oram_nbd.proofs.Beside.{joined_calls, weaker}
use Rattle.oram_nbd.proofs.Saving.{all_sure, part_after_all, part_behind}
use Rattle.oram_nbd.proofs.Splices.{part_of_block}
use Rattle.oram_nbd.proofs.ranges.read_range.Goals as goal

pub returns-in_err-_edges-clause-goes : goal.returns-in_err-_edges-clause-goes
returns-in_err-_edges-clause-goes g c =
    let p = err_from_is_err_and c.from_residual.result c.from_residual.ensures.1 in
    rw p.1 (weaker c.in_err-_edges.ensures.goes (λ may_lie world old new h step. (step.0, tt, λ e. step.2 cc)))

pub returns-in_err-bytes-clause-goes : goal.returns-in_err-bytes-clause-goes
returns-in_err-bytes-clause-goes g c =
    let p = err_from_is_err_and c.from_residual-in_err-bytes.result c.from_residual-in_err-bytes.ensures.1 in
    rw p.1 (joined_calls c.in_ok-_edges.ensures.goes c.in_err-bytes.ensures.goes (λ may_lie world old mid new h first second.
    ((second.0.0 ∙ first.0.0, part_behind first.0.1 first.0.0 second.0.1 (λ part is. is ∙ first.0.0)), tt, λ e. second.2 cc)))

pub returns-in_err-asked-clause-goes : goal.returns-in_err-asked-clause-goes
returns-in_err-asked-clause-goes g c =
    let p = err_from_is_err_and c.from_residual-in_err-asked.result c.from_residual-in_err-asked.ensures.1 in
    rw p.1 (joined_calls c.in_ok-_edges.ensures.goes c.in_ok-bytes.ensures.goes (λ may_lie world old mid new h first second.
    ((second.0.0 ∙ first.0.0, part_behind {two = λ (before part : List ℕ). part ≡ before} first.0.1 first.0.0 (part_after_all second.0.1 second.0.0) (λ part is. is ∙ first.0.0)), tt, λ e. cc)))

pub returns-clause-goes : goal.returns-clause-goes
returns-clause-goes g c =
    let b = g.D.BlockDevice.block_len c.args.disk.now in
    let m = g.D.BlockDevice.block_len c.read_edges.new.disk in
    let cover = c.of-cover.result in
    let same : m ≡ b = c.in_ok-_edges.ensures.call.stays.same_block_len in
    let covers : cover.start + c.args.count ≤ b * cover.count = c.of-cover.ensures.covers in
    let more : 0 < b * cover.count = omega (arith, covers, c.requires.some) in
    joined_calls c.in_ok-_edges.ensures.goes c.in_ok-bytes.ensures.goes (λ may_lie world old mid new h first second.
    let read : c.in_ok-bytes.bytes.items ≡ bytes_at old.held (b * cover.first) (b * cover.count) =
    second.1 ∙ ap (λ (n : ℕ). bytes_at mid.held (n * cover.first) (n * cover.count)) same ∙ ap (λ (l : List ℕ). bytes_at l (b * cover.first) (b * cover.count)) first.0.0 in
    let cut : c.in_ok-asked.asked ≡ take c.args.count (drop cover.start c.in_ok-bytes.bytes.items) =
    c.in_ok-asked.ensures ∙ ap (λ (k : ℕ). take k (drop cover.start c.deref.result.now)) (let long : (cover.start + c.args.count) - cover.start ≡ c.args.count = omega arith in long)
    ∙ ap (λ (l : List ℕ). take c.args.count (drop cover.start l)) c.deref.ensures.value in (
      (second.0.0 ∙ first.0.0, all_sure second.0.1 (subst (λ (n : ℕ). 0 < n * cover.count) (sym same) more)),
      cut ∙ ap (λ (l : List ℕ). take c.args.count (drop cover.start l)) read ∙ part_of_block old.held (b * cover.first) (b * cover.count) cover.start c.args.count covers
          ∙ ap (λ (n : ℕ). bytes_at old.held n c.args.count) c.of-cover.ensures.place,
      λ e. cc,
    ))

pub returns-clause-asks : goal.returns-clause-asks
returns-clause-asks g c = λ part.
    let b = g.D.BlockDevice.block_len c.args.disk.now in
    let cover = c.of-cover.result in
    let k = c.of-cover.ensures in
    let some : 0 < b = omega (arith, k.start) in
    asks_two g.D.BlockDevice.asked c.args.disk.now c.read_edges.new.disk c.read_blocks.new.disk _ _ _
    (c.in_ok-_edges.ensures.asks (part_has_edge b c.args.offset c.args.count cover.start cover.count some part k.offset k.covers)) c.in_ok-bytes.ensures.asks
    (part_calls_are b c.args.offset c.args.count cover.first cover.count cover.start k.first k.count k.offset)
