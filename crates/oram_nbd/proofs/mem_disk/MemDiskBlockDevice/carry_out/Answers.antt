use Rattle.std.proofs.Common.{[], List, ℕ, Some, length, map, refl, sym, ap, ◌∙◌, subst, arith, inl, inr}
use Rattle.std.proofs.lemmas.Result.{err_from_is_err_and}
use Rattle.oram_nbd.specs.Beside.{Arrays}
use Rattle.oram_nbd.specs.MemBlocks.{MemBlocks}
use Rattle.oram_nbd.specs.Operations.{AreBegun, all_done, all_given}
use Rattle.oram_nbd.proofs.Beside.{at_rest, one_call}
use Rattle.oram_nbd.proofs.Saving.{part_at_rest}
use Rattle.oram_nbd.proofs.ListSteps.{begun_nothing, carried_all, carried_one, carried_stopped, given_lens}
use Rattle.oram_nbd.proofs.mem_disk.MemDiskBlockDevice.carry_out.Goals as goal

-- what is known of the memory afterwards: its bytes are kept as long as it is
abbrev all_saved : List ℕ → Arrays (List ℕ)
all_saved bytes = record { held = bytes; saved = Some bytes }

pub returns-in_err-given-clause-goes : goal.returns-in_err-given-clause-goes
returns-in_err-given-clause-goes g c =
    let p = err_from_is_err_and c.from_residual.result c.from_residual.ensures.1 in
    rw p.1 (at_rest (λ may_lie world old h. (begun_nothing c.args.operations.now old.held, λ e. cc, part_at_rest)))

pub returns-in_err-bytes-clause-goes : goal.returns-in_err-bytes-clause-goes
returns-in_err-bytes-clause-goes g c =
    let p = err_from_is_err_and c.from_residual-in_err-bytes.result c.from_residual-in_err-bytes.ensures.1 in
    let inv = c.loop-operation.invariant in
    let same = ap (λ (d : MemBlocks). d.bytes) (sym c.in_err-bytes.ensures.err) in
    rw p.1 (one_call [] refl (λ may_lie world later run old h.
    let begun = subst (λ (b : List ℕ). AreBegun c.args.operations.now b c.loop-operation.self.bytes) (sym h.0) (carried_stopped _ _ _ _ _ inv.so_far) in
    (all_saved c.loop-operation.self.bytes, (begun, λ e. cc, record { either = inr (c.loop-operation.self.bytes, begun, refl) }), (same, (same, same)))))

pub returns-then-is_err-clause-goes : goal.returns-then-is_err-clause-goes
returns-then-is_err-clause-goes g c =
    let inv = c.loop-operation.invariant in
    let next = c.apply.new.self.bytes in
    let led = ap (λ (d : MemBlocks). d.bytes) c.in_ok-bytes.ensures.ok.1 in
    let on = carried_one c.args.operations.now _ c.loop-operation.operation-index _ _ next c.in_ok-bytes.bytes c.operation-item.result inv.so_far c.loop-operation-test.true c.operation-item.is c.in_ok-bytes.ensures.ok.0 led in
    one_call [] refl (λ may_lie world later run old h.
    let begun = subst (λ (b : List ℕ). AreBegun c.args.operations.now b next) (sym h.0) (carried_stopped _ _ _ _ _ on) in
    (all_saved next, (begun, λ e. cc, record { either = inr (next, begun, refl) }), (refl, (refl, refl))))

pub returns-clause-len : goal.returns-clause-len
returns-clause-len g c =
    let all = carried_all _ _ _ _ _ c.loop-operation.invariant.so_far (omega (arith, c.loop-operation-test.false)) in
    ap (λ (l : List (List ℕ)). map length l) all.0 ∙ given_lens (length c.args.self.now.bytes) c.args.operations.now c.args.self.now.bytes refl c.requires.within

pub returns-clause-goes : goal.returns-clause-goes
returns-clause-goes g c =
    let all = carried_all _ _ _ _ _ c.loop-operation.invariant.so_far (omega (arith, c.loop-operation-test.false)) in
    one_call [] refl (λ may_lie world later run old h. (
      all_saved c.loop-operation.self.bytes,
      ((all.0 ∙ ap (all_given c.args.operations.now) (sym h.0), all.1 ∙ ap (all_done c.args.operations.now) (sym h.0)), λ e. cc, record { either = inl refl }),
      (refl, (refl, refl)),
    ))
