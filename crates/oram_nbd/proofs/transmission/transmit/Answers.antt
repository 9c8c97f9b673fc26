use Rattle.std.proofs.Common.{◌≡◌, ◌+◌, ◌<◌, inl, Bool, true, false, rules, ℕ, List, length, ◌∙◌, arith}
use Rattle.std.proofs.lemmas.Result.{err_from_is_err_and}
use Rattle.oram_nbd.specs.declared.faults.NbdFault.TheVariants.{Read}
use Rattle.oram_nbd.proofs.Batched.{all_done, batch_broken, batch_served, cut_off, flush_broken, flushed, recounted, transmitted, without_memory_broken, without_memory_served}
use Rattle.oram_nbd.proofs.Gathered.{behind_left}
use Rattle.oram_nbd.proofs.Calls.{at_rest, stays_on}
use Rattle.oram_nbd.proofs.Pieces.{if_err}
use Rattle.oram_nbd.proofs.Served.{begin}
use Rattle.oram_nbd.proofs.transmission.transmit.Goals as goal

pub loop-batch_number-init : goal.loop-batch_number-init
unfolding begin
loop-batch_number-init g c = record { served = begin _ _ _; few = omega arith; stays = at_rest _ }

pub returns-in_err-carry_out_batch-clause-err : goal.returns-in_err-carry_out_batch-clause-err
returns-in_err-carry_out_batch-clause-err g c =
    let p = err_from_is_err_and c.from_residual.result c.from_residual.ensures.1 in
    let h = c.gather-batch.ensures.gathered in
    let f = c.in_err-carry_out_batch.field-0.0 in
    if_err _ _ _ _ p.1 p.2
    (batch_broken _ _ _ _ _ _ _ _ _ _ _ c.loop-batch_number.invariant.served c.loop-batch_number.invariant.stays.same_size h _ _ f (c.in_err-carry_out_batch.ensures.err h.arrived h.collected))

pub returns-in_err-without_memory-clause-err : goal.returns-in_err-without_memory-clause-err
returns-in_err-without_memory-clause-err g c =
    let p = err_from_is_err_and c.from_residual-in_err-without_memory.result c.from_residual-in_err-without_memory.ensures.1 in
    let h = c.gather-batch.ensures.gathered in
    let inv = c.loop-batch_number.invariant in
    let call = c.in_ok-carry_out_batch.ensures in
    let sized : (may_lie : Bool) (world : g.D.BlockDevice.World) (bytes : List ℕ) → g.D.BlockDevice.holds may_lie c.carry_out_batch.new.disk world bytes → length bytes ≡ g.D.BlockDevice.size c.args.disk.now =
    λ may_lie world bytes held. c.blocks-blocks.ensures.held may_lie world bytes held ∙ call.stays.same_size ∙ inv.stays.same_size in
    let two = batch_served _ _ _ _ _ _ _ _ _ _ _ inv.served inv.stays.same_size h _ _ call.stays.still_failed (call.ok h.arrived h.collected) in
    let wrong = c.in_err-without_memory.ensures.err in
    let k = wrong.1 h.part _ h.ends in
    if_err _ _ _ _ p.1 (p.2 ∙ wrong.0) (without_memory_broken _ _ _ _ _ _ _ two _ c.of-sizes.ensures.size sized c.uncalled_error-error.ensures.honest _ c.uncalled_error-error.ensures.error _ k.0 k.1 k.2 _ k.3)

pub returns-in_err-flush-clause-err : goal.returns-in_err-flush-clause-err
returns-in_err-flush-clause-err g c =
    let p = err_from_is_err_and c.from_residual-in_err-flush.result c.from_residual-in_err-flush.ensures.1 in
    let h = c.gather-batch.ensures.gathered in
    let inv = c.loop-batch_number.invariant in
    let call = c.in_ok-carry_out_batch.ensures in
    let sized : (may_lie : Bool) (world : g.D.BlockDevice.World) (bytes : List ℕ) → g.D.BlockDevice.holds may_lie c.carry_out_batch.new.disk world bytes → length bytes ≡ g.D.BlockDevice.size c.args.disk.now =
    λ may_lie world bytes held. c.blocks-blocks.ensures.held may_lie world bytes held ∙ call.stays.same_size ∙ inv.stays.same_size in
    let two = batch_served _ _ _ _ _ _ _ _ _ _ _ inv.served inv.stays.same_size h _ _ call.stays.still_failed (call.ok h.arrived h.collected) in
    let k = c.in_ok-without_memory.ensures.ok h.part _ h.ends in
    let three = without_memory_served _ _ _ _ _ _ _ two _ c.of-sizes.ensures.size sized c.uncalled_error-error.ensures.honest _ c.uncalled_error-error.ensures.error _ k.0 k.1 k.2 _ _ k.3 k.4 in
    let four = flushed _ _ _ _ _ _ _ three _ c.flush.ensures.keeps in
    if_err _ _ _ _ p.1 (p.2 ∙ c.in_err-flush.ensures.err) (flush_broken _ _ _ _ _ _ _ four (behind_left _ k.1 _ k.2.left))

pub returns-in_err-more-clause-err : goal.returns-in_err-more-clause-err
returns-in_err-more-clause-err g c =
    let p = err_from_is_err_and c.from_residual-in_err-more.result c.from_residual-in_err-more.ensures.1 in
    let h = c.gather-batch.ensures.gathered in
    let inv = c.loop-batch_number.invariant in
    let call = c.in_ok-carry_out_batch.ensures in
    let sized : (may_lie : Bool) (world : g.D.BlockDevice.World) (bytes : List ℕ) → g.D.BlockDevice.holds may_lie c.carry_out_batch.new.disk world bytes → length bytes ≡ g.D.BlockDevice.size c.args.disk.now =
    λ may_lie world bytes held. c.blocks-blocks.ensures.held may_lie world bytes held ∙ call.stays.same_size ∙ inv.stays.same_size in
    let two = batch_served _ _ _ _ _ _ _ _ _ _ _ inv.served inv.stays.same_size h _ _ call.stays.still_failed (call.ok h.arrived h.collected) in
    let k = c.in_ok-without_memory.ensures.ok h.part _ h.ends in
    let three = without_memory_served _ _ _ _ _ _ _ two _ c.of-sizes.ensures.size sized c.uncalled_error-error.ensures.honest _ c.uncalled_error-error.ensures.error _ k.0 k.1 k.2 _ _ k.3 k.4 in
    let four = flushed _ _ _ _ _ _ _ three _ c.flush.ensures.keeps in
    let f = c.in_err-more.field-0.0 in
    if_err _ _ _ _ p.1 p.2 (cut_off _ _ _ _ _ _ _ four f (c.in_err-more.ensures.err k.1 _ k.2.left))

pub overflow_add-served : goal.overflow_add-served
overflow_add-served g c = omega (arith, c.gather-batch.ensures.few, c.in_ok-without_memory.ensures.few, c.len.ensures)

pub overflow_add-served-in-loop-batch_number : goal.overflow_add-served-in-loop-batch_number
overflow_add-served-in-loop-batch_number g c = omega (arith, c.gather-batch.ensures.few, c.in_ok-without_memory.ensures.few, c.len.ensures, c.loop-batch_number.invariant.few, c.loop-batch_number-test.true)

pub returns-then-not-more-clause-ok : goal.returns-then-not-more-clause-ok
returns-then-not-more-clause-ok g c =
    let h = c.gather-batch.ensures.gathered in
    let inv = c.loop-batch_number.invariant in
    let call = c.in_ok-carry_out_batch.ensures in
    let sized : (may_lie : Bool) (world : g.D.BlockDevice.World) (bytes : List ℕ) → g.D.BlockDevice.holds may_lie c.carry_out_batch.new.disk world bytes → length bytes ≡ g.D.BlockDevice.size c.args.disk.now =
    λ may_lie world bytes held. c.blocks-blocks.ensures.held may_lie world bytes held ∙ call.stays.same_size ∙ inv.stays.same_size in
    let two = batch_served _ _ _ _ _ _ _ _ _ _ _ inv.served inv.stays.same_size h _ _ call.stays.still_failed (call.ok h.arrived h.collected) in
    let k = c.in_ok-without_memory.ensures.ok h.part _ h.ends in
    let three = without_memory_served _ _ _ _ _ _ _ two _ c.of-sizes.ensures.size sized c.uncalled_error-error.ensures.honest _ c.uncalled_error-error.ensures.error _ k.0 k.1 k.2 _ _ k.3 k.4 in
    let four = flushed _ _ _ _ _ _ _ three _ c.flush.ensures.keeps in
    let many : c.loop-batch_number.served + length c.gather-batch.result.0.requests.items + c.in_ok-without_memory.without_memory ≡ c.loop-batch_number.served + (c.len.result + c.in_ok-without_memory.without_memory) = omega (arith, c.len.ensures) in
    let five = recounted _ _ _ _ _ _ _ four _ many in
    let is : c.in_ok-more.more ≡ false = search rules in
    let left = c.in_ok-more.ensures.ok k.1 _ k.2.left in
    transmitted _ _ _ _ _ _ _ five (rw is at left)

pub loop-batch_number-preserved : goal.loop-batch_number-preserved
loop-batch_number-preserved g c =
    let h = c.gather-batch.ensures.gathered in
    let inv = c.loop-batch_number.invariant in
    let call = c.in_ok-carry_out_batch.ensures in
    let sized : (may_lie : Bool) (world : g.D.BlockDevice.World) (bytes : List ℕ) → g.D.BlockDevice.holds may_lie c.carry_out_batch.new.disk world bytes → length bytes ≡ g.D.BlockDevice.size c.args.disk.now =
    λ may_lie world bytes held. c.blocks-blocks.ensures.held may_lie world bytes held ∙ call.stays.same_size ∙ inv.stays.same_size in
    let two = batch_served _ _ _ _ _ _ _ _ _ _ _ inv.served inv.stays.same_size h _ _ call.stays.still_failed (call.ok h.arrived h.collected) in
    let k = c.in_ok-without_memory.ensures.ok h.part _ h.ends in
    let three = without_memory_served _ _ _ _ _ _ _ two _ c.of-sizes.ensures.size sized c.uncalled_error-error.ensures.honest _ c.uncalled_error-error.ensures.error _ k.0 k.1 k.2 _ _ k.3 k.4 in
    let four = flushed _ _ _ _ _ _ _ three _ c.flush.ensures.keeps in
    let many : c.loop-batch_number.served + length c.gather-batch.result.0.requests.items + c.in_ok-without_memory.without_memory ≡ c.loop-batch_number.served + (c.len.result + c.in_ok-without_memory.without_memory) = omega (arith, c.len.ensures) in
    let five = recounted _ _ _ _ _ _ _ four _ many in
    let is : c.in_ok-more.more ≡ true = search rules in
    let left = c.in_ok-more.ensures.ok k.1 _ k.2.left in
    record {
      served = all_done _ _ _ _ _ _ _ five (rw is at left);
      few = omega (arith, c.gather-batch.ensures.few, c.in_ok-without_memory.ensures.few, c.len.ensures, inv.few);
      stays = stays_on inv.stays call.stays;
    }

pub returns-clause-err : goal.returns-clause-err
returns-clause-err g c =
    let s = c.loop-batch_number.invariant.served in
    cut_off _ _ _ _ _ _ _ s Read (inl (let few : 0 < 28 = omega arith in few))
