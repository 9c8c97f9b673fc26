use Rattle.std.proofs.Common.{◌≡◌, ◌+◌, ◌^◌, ◌<◌, ◌*◌, ◌∙◌, ap, sym, take, ℕ, subst}
use Rattle.std.proofs.lemmas.List.{take_all}
use Rattle.std.specs.List.{flat_map}
use Rattle.oram_bucket.specs.Cell.{Cell}
use Rattle.oram_bucket.specs.Bytes.{IsBytes}
use Rattle.oram_bucket.specs.Bucket.{slot_of}
use Rattle.oram_bucket.proofs.UniqueEncoding.{few_of_device, small_block, filled_up, slots_more, bytes_and_zeros, bytes_taken}
use Rattle.oram_bucket.proofs.codec.encode_bucket.Goals as goal

pub append_slot-requires : goal.append_slot-requires
append_slot-requires c =
    let few = few_of_device c.args.device.now c.args.tree c.trees.ensures.ranges in
    let block = c.requires.bucket.blocks c.loop-block.block-index c.block-item.result c.loop-block-test.true in
    let small = small_block c.args.device.now c.args.tree few _ block in
    let P : Cell → Type 0 = λ x. x.address + 1 < 2 ^ 32 in
    subst P (sym c.block-item.is) small.number

pub loop-block-preserved : goal.loop-block-preserved
loop-block-preserved c =
    record {
      so_far = c.in_ok-append_slot.ensures.slot ∙ slots_more c.args.blocks.now c.loop-block.block-index c.block-item.result c.loop-block.bucket.items c.loop-block-test.true c.block-item.is c.loop-block.invariant.so_far;
      bytes = c.in_ok-append_slot.ensures.bytes;
    }

pub returns-clause-spelled : goal.returns-clause-spelled
returns-clause-spelled c =
    let all = ap (flat_map slot_of) (take_all c.loop-block.block-index c.args.blocks.now c.loop-block-test.false) in
    let size : c.slots.result * (8 + c.block_bytes.result) ≡ c.args.device.now.slots * (8 + c.args.device.now.block_bytes) = ap (λ (n : ℕ). n * (8 + c.block_bytes.result)) c.slots.ensures.value ∙ ap (λ (n : ℕ). c.args.device.now.slots * (8 + n)) c.block_bytes.ensures.value in
    c.in_ok-resize.ensures.items ∙ filled_up c.args.device.now c.args.tree c.args.blocks.now c.loop-block.bucket.items _ _ size c.loop-block.bucket.ok.0 c.requires.bucket (c.loop-block.invariant.so_far ∙ all)

pub returns-clause-bytes : goal.returns-clause-bytes
returns-clause-bytes c =
    subst IsBytes (sym c.in_ok-resize.ensures.items) (bytes_and_zeros _ (take (c.slots.result * (8 + c.block_bytes.result)) c.loop-block.bucket.items) (bytes_taken _ c.loop-block.bucket.items c.loop-block.invariant.bytes))
