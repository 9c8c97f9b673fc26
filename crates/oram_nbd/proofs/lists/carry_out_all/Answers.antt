use Rattle.std.proofs.Common.{◌≡◌, ◌-◌, ◌≤◌, ℕ, List, [], ◌++◌, Bool, length, map, take, drop, sym, ap, ◌∙◌, subst, rules, arith, length-append}
use Rattle.std.proofs.lemmas.Result.{err_from_is_err_and}
use Rattle.oram_nbd.specs.Operations.{AreBegun, TouchSomeByte, read_len}
use Rattle.oram_nbd.proofs.Beside.{at_rest as calls_none, joined_calls}
use Rattle.oram_nbd.proofs.Calls.{at_rest, stays_on}
use Rattle.oram_nbd.proofs.Saving.{all_at_rest, all_joined, part_after_all, part_at_rest, part_behind}
use Rattle.oram_nbd.proofs.ListSteps.{Carried, begun_nothing, carried_begun, carried_none, carried_slice, carried_stopped, lies_if, slice_few, slice_lens, slice_split, touch_split}
use Rattle.oram_nbd.proofs.lists.carry_out_all.Goals as goal
use Rattle.oram_nbd.proofs.Accesses.{asks_all, asks_more, asks_none}

pub returns-then-has_failed-clause-goes : goal.returns-then-has_failed-clause-goes
returns-then-has_failed-clause-goes g c =
    let failed : g.D.BlockDevice.failed c.args.disk.now = search rules in
    calls_none (λ may_lie world old h. (
      begun_nothing c.args.operations.now old.held,
      λ e. lies_if may_lie (λ honest. c.has_failed.ensures.sound world old.held (subst (λ (b : Bool). g.D.BlockDevice.holds b c.args.disk.now world old.held) honest h.0) failed),
      part_at_rest,
    ))

pub returns-in_err-given-clause-goes : goal.returns-in_err-given-clause-goes
returns-in_err-given-clause-goes g c =
    let p = err_from_is_err_and c.from_residual.result c.from_residual.ensures.1 in
    rw p.1 (calls_none (λ may_lie world old h. (begun_nothing c.args.operations.now old.held, λ e. cc, part_at_rest)))

pub loop-alloc-init : goal.loop-alloc-init
loop-alloc-init g c =
    let none : c.in_ok-given.given.items ≡ [] = c.in_ok-given.ensures.items in
    record {
      few = omega (arith, ap length none);
      lens = ap (λ (gs : List (List ℕ)). map length gs) none ∙ sym (ap (λ (gs : List (List ℕ)). map read_len (take (length gs) c.args.operations.now)) none);
      so_far = calls_none (λ may_lie world old h. (
        subst (λ (gs : List (List ℕ)). Carried c.args.operations.now old.held (length gs) gs old.held) (sym none) (carried_none c.args.operations.now old.held),
        all_at_rest (λ touched. subst (λ (gs : List (List ℕ)). TouchSomeByte (take (length gs) c.args.operations.now)) none touched),
      ));
      asked = asks_none g.D.BlockDevice.asked _ c.args.operations.now _ c.args.disk.now (ap length none);
      stays = at_rest _;
    }

pub returns-in_err-more-clause-goes : goal.returns-in_err-more-clause-goes
returns-in_err-more-clause-goes g c =
    let p = err_from_is_err_and c.from_residual-in_err-more.result c.from_residual-in_err-more.ensures.1 in
    let ops = c.args.operations.now in
    let here : c.len-in-loop-alloc.result ≡ length c.loop-alloc.given.items = search rules in
    rw p.1 (joined_calls c.loop-alloc.invariant.so_far c.in_err-more.ensures.goes (λ may_lie world old mid new h first second.
    let begun = λ (x : List ℕ) (is : AreBegun (take (length ops - c.len-in-loop-alloc.result) (drop c.len-in-loop-alloc.result ops)) mid.held x).
    carried_begun ops old.held _ c.loop-alloc.given.items mid.held first.0 (length ops - length c.loop-alloc.given.items) x
    (subst (λ (k : ℕ). AreBegun (take (length ops - k) (drop k ops)) mid.held x) here is) in
    (begun new.held second.0.0, λ e. second.1 cc, part_behind first.1 (carried_stopped ops old.held _ _ mid.held first.0) second.0.1 begun)))

pub returns-in_err-append-clause-goes : goal.returns-in_err-append-clause-goes
returns-in_err-append-clause-goes g c =
    let p = err_from_is_err_and c.from_residual-in_err-append.result c.from_residual-in_err-append.ensures.1 in
    let ops = c.args.operations.now in
    let here : c.len-in-loop-alloc.result ≡ length c.loop-alloc.given.items = search rules in
    rw p.1 (joined_calls c.loop-alloc.invariant.so_far c.in_ok-more.ensures.goes (λ may_lie world old mid new h first second.
    let begun = carried_stopped ops old.held _ _ new.held
    (carried_slice ops old.held c.loop-alloc.given.items mid.held first.0 c.len-in-loop-alloc.result here c.in_ok-more.more.items new.held c.in_ok-more.ensures.most second.0.0 second.0.1) in
    (begun, λ e. cc, part_after_all (all_joined {both = ⊥} first.1 second.0.2 (λ none. absurd none)) begun)))

pub loop-alloc-preserved : goal.loop-alloc-preserved
loop-alloc-preserved g c =
    let ops = c.args.operations.now in
    let inv = c.loop-alloc.invariant in
    let given = c.loop-alloc.given.items in
    let more = c.in_ok-more.more.items in
    let here : c.len-in-loop-alloc.result ≡ length given = search rules in
    let both : c.append.new.self.items ≡ given ++ more = c.in_ok-append.ensures.items in
    let split : take (length c.append.new.self.items) ops ≡ take (length given) ops ++ take (length more) (take (length ops - c.len-in-loop-alloc.result) (drop c.len-in-loop-alloc.result ops)) =
    ap (λ (gs : List (List ℕ)). take (length gs) ops) both ∙ slice_split ops given more c.len-in-loop-alloc.result here c.in_ok-more.ensures.most in
    record {
      few = subst (λ (gs : List (List ℕ)). length gs ≤ length ops) (sym both) (slice_few ops given more c.len-in-loop-alloc.result here inv.few c.in_ok-more.ensures.most);
      lens = subst (λ (gs : List (List ℕ)). map length gs ≡ map read_len (take (length gs) ops)) (sym both)
          (slice_lens ops given more c.len-in-loop-alloc.result here c.in_ok-more.ensures.most inv.lens c.in_ok-more.ensures.len);
      so_far = joined_calls inv.so_far c.in_ok-more.ensures.goes (λ may_lie world old mid new h first second. (
        subst (λ (gs : List (List ℕ)). Carried ops old.held (length gs) gs new.held) (sym both)
            (carried_slice ops old.held given mid.held first.0 c.len-in-loop-alloc.result here more new.held c.in_ok-more.ensures.most second.0.0 second.0.1),
        all_joined first.1 second.0.2
            (λ touched. touch_split (take (length given) ops) (take (length more) (take (length ops - c.len-in-loop-alloc.result) (drop c.len-in-loop-alloc.result ops))) (subst TouchSomeByte split touched)),
      ));
      asked = asks_more g.D.BlockDevice.asked _ _ ops (length given) c.len-in-loop-alloc.result _ (length more) _ _ _ inv.stays.same_block_len here (ap length both ∙ length-append given more) inv.asked c.in_ok-more.ensures.asks;
      stays = stays_on inv.stays c.in_ok-more.ensures.call.stays;
    }

pub returns-clause-asks : goal.returns-clause-asks
returns-clause-asks g c =
    asks_all g.D.BlockDevice.asked _ c.args.operations.now (length c.loop-alloc.given.items) c.args.disk.now c.loop-alloc.disk (omega (arith, c.loop-alloc-test.false, c.len.ensures)) c.loop-alloc.invariant.asked
