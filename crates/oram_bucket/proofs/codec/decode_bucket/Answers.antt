use Rattle.std.proofs.Common.{◌≡◌, length, List, IfOk, ap, ◌∙◌, sym, arith, subst, refl}
use Rattle.std.proofs.lemmas.List.{length_push}
use Rattle.std.proofs.lemmas.Result.{err_from_is_err_and, IfOk-at_ok}
use Rattle.std.specs.Slice.Iter.{chunks_exact_rest, chunks_exact_size}
use Rattle.oram_bucket.specs.Bytes.{IsBytes}
use Rattle.oram_bucket.specs.Bucket.{IsSpelling}
use Rattle.oram_bucket.specs.Cell.{Cell}
use Rattle.oram_bucket.specs.Slots.{block_in}
use Rattle.oram_bucket.proofs.UniqueEncoding.{few_of_depth, length-spelling}
use Rattle.oram_bucket.proofs.Slots.{wrong_length}
use Rattle.oram_bucket.proofs.Decoder.{size_of, piece, more_held, moved, at_real, at_dummy, at_fault, at_end, not_spelled, only_spelled}
use Rattle.oram_bucket.proofs.codec.decode_bucket.Goals as goal

pub returns-then-bytes-slots-clause-only : goal.returns-then-bytes-slots-clause-only
returns-then-bytes-slots-clause-only c = λ cells s.
    let size = size_of c.args.device.now _ _ c.slots.ensures.value c.block_bytes-slot_len.ensures.value in
    absurd (c.if-bytes-slots.true (ap length s.spelled ∙ length-spelling c.args.device.now c.args.tree cells s.bucket ∙ sym size))

pub returns-then-bytes-slots-clause-fault : goal.returns-then-bytes-slots-clause-fault
returns-then-bytes-slots-clause-fault c =
    let size = size_of c.args.device.now _ _ c.slots.ensures.value c.block_bytes-slot_len.ensures.value in
    rw (wrong_length c.args.device.now c.args.tree c.args.bytes.now (λ e. c.if-bytes-slots.true (e ∙ sym size))) refl

pub returns-then-bytes-slots-clause-refused : goal.returns-then-bytes-slots-clause-refused
returns-then-bytes-slots-clause-refused c = λ other h.
    let size = size_of c.args.device.now _ _ c.slots.ensures.value c.block_bytes-slot_len.ensures.value in
    c.if-bytes-slots.true (ap length h.1.spelled ∙ length-spelling c.args.device.now c.args.tree h.0 h.1.bucket ∙ sym size)

pub returns-in-Some-fault_in-clause-fault : goal.returns-in-Some-fault_in-clause-fault
returns-in-Some-fault_in-clause-fault c =
    let all = c.if-bytes-slots.false ∙ size_of c.args.device.now _ _ c.slots.ensures.value c.block_bytes-slot_len.ensures.value in
    let steps = c.in-Some.ensures.steps in
    let next_piece = piece c.args.device.now c.args.tree c.args.bytes.now _ _ _ c.in-Some.slot.now _ _ _ _ _ c.depth.result _ c.loop-slot.invariant all steps.1.0 steps.1.1 steps.0
    c.blocks_in-tree_blocks.ensures.count c.depth.ensures.count c.depth.ensures.range c.in-Some-fault_in.ensures in
    rw (at_fault _ _ _ _ _ _ _ _ _ _ _ _ c.loop-slot.invariant all next_piece) refl

pub returns-in-Some-fault_in-clause-only : goal.returns-in-Some-fault_in-clause-only
returns-in-Some-fault_in-clause-only c = λ cells s.
    let all = c.if-bytes-slots.false ∙ size_of c.args.device.now _ _ c.slots.ensures.value c.block_bytes-slot_len.ensures.value in
    let few = few_of_depth c.args.device.now c.args.tree c.depth.result (omega (arith, c.blocks_in-tree_blocks.ensures.count, c.blocks_in-tree_blocks.ensures.range)) c.depth.ensures.count c.depth.ensures.range in
    let steps = c.in-Some.ensures.steps in
    let next_piece = piece c.args.device.now c.args.tree c.args.bytes.now _ _ _ c.in-Some.slot.now _ _ _ _ _ c.depth.result _ c.loop-slot.invariant all steps.1.0 steps.1.1 steps.0
    c.blocks_in-tree_blocks.ensures.count c.depth.ensures.count c.depth.ensures.range c.in-Some-fault_in.ensures in
    absurd (not_spelled _ _ cells _ _ few (at_fault _ _ _ _ _ _ _ _ _ _ _ _ c.loop-slot.invariant all next_piece) s)

pub returns-in-Some-fault_in-clause-refused : goal.returns-in-Some-fault_in-clause-refused
returns-in-Some-fault_in-clause-refused c = λ other h.
    let all = c.if-bytes-slots.false ∙ size_of c.args.device.now _ _ c.slots.ensures.value c.block_bytes-slot_len.ensures.value in
    let few = few_of_depth c.args.device.now c.args.tree c.depth.result (omega (arith, c.blocks_in-tree_blocks.ensures.count, c.blocks_in-tree_blocks.ensures.range)) c.depth.ensures.count c.depth.ensures.range in
    let steps = c.in-Some.ensures.steps in
    let next_piece = piece c.args.device.now c.args.tree c.args.bytes.now _ _ _ c.in-Some.slot.now _ _ _ _ _ c.depth.result _ c.loop-slot.invariant all steps.1.0 steps.1.1 steps.0
    c.blocks_in-tree_blocks.ensures.count c.depth.ensures.count c.depth.ensures.range c.in-Some-fault_in.ensures in
    not_spelled _ _ h.0 _ _ few (at_fault _ _ _ _ _ _ _ _ _ _ _ _ c.loop-slot.invariant all next_piece) h.1

pub loop-slot-preserved-then-number-gt0 : goal.loop-slot-preserved-then-number-gt0
loop-slot-preserved-then-number-gt0 c =
    let all = c.if-bytes-slots.false ∙ size_of c.args.device.now _ _ c.slots.ensures.value c.block_bytes-slot_len.ensures.value in
    let steps = c.in-Some.ensures.steps in
    let next_piece = piece c.args.device.now c.args.tree c.args.bytes.now _ _ _ c.in-Some.slot.now _ _ _ _ _ c.depth.result _ c.loop-slot.invariant all steps.1.0 steps.1.1 steps.0
    c.blocks_in-tree_blocks.ensures.count c.depth.ensures.count c.depth.ensures.range c.in_default.ensures in
    let small : IsBytes c.args.bytes.now = λ i. (c.type_inv.bytes i).fits in
    let held : List Cell → Type 0 = λ cells. IfOk c.with_block-blocks.result (λ v. v.items ≡ cells) in
    let more = at_real _ _ _ _ _ _ held _ _ _ _ _ c.loop-slot.invariant all small next_piece (omega (arith, c.number_in-number.ensures))
    (λ cells h. more_held (λ v. v.items) _ c.with_block-blocks.result cells (block_in c.in-Some.slot.now) c.with_block-blocks.ensures h) in
    moved c.args.device.now c.args.tree c.args.bytes.now (length c.loop-slot.yielded) _ (chunks_exact_rest c.next.new.self) (chunks_exact_size c.next.new.self) _ _ held
    (length_push c.loop-slot.yielded c.in-Some.slot) c.number_in-number.ensures more

pub loop-slot-preserved : goal.loop-slot-preserved
loop-slot-preserved c =
    let all = c.if-bytes-slots.false ∙ size_of c.args.device.now _ _ c.slots.ensures.value c.block_bytes-slot_len.ensures.value in
    let steps = c.in-Some.ensures.steps in
    let next_piece = piece c.args.device.now c.args.tree c.args.bytes.now _ _ _ c.in-Some.slot.now _ _ _ _ _ c.depth.result _ c.loop-slot.invariant all steps.1.0 steps.1.1 steps.0
    c.blocks_in-tree_blocks.ensures.count c.depth.ensures.count c.depth.ensures.range c.in_default.ensures in
    let more = at_dummy _ _ _ _ _ _ _ _ _ _ _ c.loop-slot.invariant all next_piece (omega (arith, c.number_in-number.ensures)) in
    moved c.args.device.now c.args.tree c.args.bytes.now (length c.loop-slot.yielded) _ (chunks_exact_rest c.next.new.self) (chunks_exact_size c.next.new.self) _ _ _
    (length_push c.loop-slot.yielded c.in-Some.slot) c.number_in-number.ensures more

pub returns-in_err-blocks-clause-fault : goal.returns-in_err-blocks-clause-fault
returns-in_err-blocks-clause-fault c =
    let all = c.if-bytes-slots.false ∙ size_of c.args.device.now _ _ c.slots.ensures.value c.block_bytes-slot_len.ensures.value in
    let end = at_end c.args.device.now c.args.tree c.args.bytes.now _ _ _ _ _ c.loop-slot.invariant all c.in-None.ensures.steps.1.0 in
    let p = err_from_is_err_and c.from_residual.result c.from_residual.ensures.1 in
    rw (end.clean, p.1, p.2) refl

pub returns-clause-ok : goal.returns-clause-ok
returns-clause-ok c =
    let all = c.if-bytes-slots.false ∙ size_of c.args.device.now _ _ c.slots.ensures.value c.block_bytes-slot_len.ensures.value in
    let end = at_end c.args.device.now c.args.tree c.args.bytes.now _ _ _ _ _ c.loop-slot.invariant all c.in-None.ensures.steps.1.0 in
    let items = IfOk-at_ok (λ v. v.items ≡ end.cells) c.in_ok-blocks.was end.holds in
    let P : List Cell → Type 0 = λ cells. IsSpelling c.args.device.now c.args.tree cells c.args.bytes.now in
    subst P (sym items) end.spelled

pub returns-clause-only : goal.returns-clause-only
returns-clause-only c = λ cells s.
    let all = c.if-bytes-slots.false ∙ size_of c.args.device.now _ _ c.slots.ensures.value c.block_bytes-slot_len.ensures.value in
    let few = few_of_depth c.args.device.now c.args.tree c.depth.result (omega (arith, c.blocks_in-tree_blocks.ensures.count, c.blocks_in-tree_blocks.ensures.range)) c.depth.ensures.count c.depth.ensures.range in
    let end = at_end c.args.device.now c.args.tree c.args.bytes.now _ _ _ _ _ c.loop-slot.invariant all c.in-None.ensures.steps.1.0 in
    let items = IfOk-at_ok (λ v. v.items ≡ end.cells) c.in_ok-blocks.was end.holds in
    items ∙ only_spelled c.args.device.now c.args.tree end.cells cells c.args.bytes.now few end.spelled s

pub returns-clause-fault : goal.returns-clause-fault
returns-clause-fault c =
    let all = c.if-bytes-slots.false ∙ size_of c.args.device.now _ _ c.slots.ensures.value c.block_bytes-slot_len.ensures.value in
    let end = at_end c.args.device.now c.args.tree c.args.bytes.now _ _ _ _ _ c.loop-slot.invariant all c.in-None.ensures.steps.1.0 in
    rw end.clean tt
