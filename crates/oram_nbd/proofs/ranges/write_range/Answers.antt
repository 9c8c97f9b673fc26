use Rattle.std.proofs.Common.{◌≡◌, ◌+◌, ◌*◌, ◌<◌, ◌≤◌, ◌++◌, ℕ, [], length, refl, sym, ap, ◌∙◌, arith, rules, subst, length-append}
use Rattle.std.proofs.lemmas.List.{nil_from_length}
use Rattle.std.proofs.lemmas.Result.{err_from_is_err_and, on_ok_weaker}
use Rattle.oram_nbd.specs.Bytes.{IsBegun, written}
use Rattle.oram_nbd.proofs.Beside.{joined_calls, weaker, at_rest as calls_none}
use Rattle.oram_nbd.proofs.Edges.{around_writes}
use Rattle.oram_nbd.proofs.Saving.{all_at_rest, part_after_all, part_weaker}
use Rattle.oram_nbd.proofs.Splices.{begun_none, written_none}
use Rattle.oram_nbd.proofs.ranges.write_range.Goals as goal
use Rattle.oram_nbd.proofs.Accesses.{asks_two, part_calls_are, part_has_edge}

pub returns-in_err-edges-clause-goes : goal.returns-in_err-edges-clause-goes
returns-in_err-edges-clause-goes g c =
    let p = err_from_is_err_and c.from_residual.result c.from_residual.ensures.1 in
    rw p.1 (weaker c.in_err-edges.ensures.goes (λ may_lie world old new h step.
    (tt, subst (IsBegun old.held c.args.offset c.args.payload.now) (sym step.0.0) (begun_none old.held c.args.offset c.args.payload.now), λ e. step.2 cc, part_weaker step.0.1 (λ x same. subst (IsBegun old.held c.args.offset c.args.payload.now) (sym same) (begun_none old.held c.args.offset c.args.payload.now)))))

pub returns-in_err-whole-clause-goes : goal.returns-in_err-whole-clause-goes
returns-in_err-whole-clause-goes g c =
    let p = err_from_is_err_and c.from_residual-in_err-whole.result c.from_residual-in_err-whole.ensures.1 in
    rw p.1 (weaker c.in_ok-edges.ensures.goes (λ may_lie world old new h step. (
      tt,
      subst (IsBegun old.held c.args.offset c.args.payload.now) (sym step.0.0) (begun_none old.held c.args.offset c.args.payload.now),
      λ e. cc,
      part_after_all step.0.1 (subst (IsBegun old.held c.args.offset c.args.payload.now) (sym step.0.0) (begun_none old.held c.args.offset c.args.payload.now)),
    )))

pub returns-clause-goes : goal.returns-clause-goes
returns-clause-goes g c = joined_calls c.in_ok-edges.ensures.goes c.write_blocks.ensures.goes (λ may_lie world old mid new h first second.
    let b = g.D.BlockDevice.block_len c.args.disk.now in
    let cover = c.of-cover.result in
    let within : b * cover.first + b * cover.count ≤ length old.held = subst (λ (n : ℕ). b * cover.first + b * cover.count ≤ n) (sym (c.blocks-blocks.ensures.held may_lie world old.held h.0)) c.of-cover.ensures.within in
    let place = ap (λ (n : ℕ). n * cover.first) c.in_ok-edges.ensures.call.stays.same_block_len in
    let put : c.from_vec.result ≡ c.in_ok-edges.edges.before ++ c.args.payload.now ++ c.in_ok-edges.edges.after = search rules in
    let some : 0 < length c.from_vec.result =
    omega (arith, ap length put, c.if-len-eq0.false, length-append (c.in_ok-edges.edges.before ++ c.args.payload.now) c.in_ok-edges.edges.after, length-append c.in_ok-edges.edges.before c.args.payload.now) in
    around_writes old.held c.in_ok-edges.edges.before c.in_ok-edges.edges.after c.from_vec.result c.args.payload.now (b * cover.first) _ (b * cover.count) cover.start c.args.offset within c.of-cover.ensures.covers place c.of-cover.ensures.place
    first.1.0 first.1.1 put c.write_blocks.result may_lie old mid new refl first.0.0 first.0.1 some second)

pub returns-then-len-eq0-clause-goes : goal.returns-then-len-eq0-clause-goes
returns-then-len-eq0-clause-goes g c =
    let none : c.args.payload.now ≡ [] = nil_from_length c.args.payload.now c.if-len-eq0.true in
    calls_none (λ may_lie world old h. (sym (ap (written old.held c.args.offset) none ∙ written_none old.held c.args.offset), tt, λ e. cc, all_at_rest (λ some. omega (arith, some, c.if-len-eq0.true))))

pub returns-clause-asks : goal.returns-clause-asks
returns-clause-asks g c = λ part some.
    let b = g.D.BlockDevice.block_len c.args.disk.now in
    let cover = c.of-cover.result in
    let k = c.of-cover.ensures in
    let positive : 0 < b = omega (arith, k.start) in
    let put : c.from_vec.result ≡ c.in_ok-edges.edges.before ++ c.args.payload.now ++ c.in_ok-edges.edges.after = search rules in
    let long : length c.from_vec.result ≡ b * cover.count =
    omega (arith, ap length put, length-append (c.in_ok-edges.edges.before ++ c.args.payload.now) c.in_ok-edges.edges.after, length-append c.in_ok-edges.edges.before c.args.payload.now, c.in_ok-edges.ensures.before, c.in_ok-edges.ensures.after) in
    on_ok_weaker c.write_blocks.result (λ second.
    asks_two g.D.BlockDevice.asked c.args.disk.now c.read_edges.new.disk c.write_blocks.new.disk _ _ _
    (c.in_ok-edges.ensures.asks (part_has_edge b c.args.offset (length c.args.payload.now) cover.start cover.count positive part k.offset k.covers)) second
    (part_calls_are b c.args.offset (length c.args.payload.now) cover.first cover.count cover.start k.first k.count k.offset))
    (c.write_blocks.ensures.asks cover.count (subst (λ (n : ℕ). length c.from_vec.result ≡ n * cover.count) (sym c.in_ok-edges.ensures.call.stays.same_block_len) long))
