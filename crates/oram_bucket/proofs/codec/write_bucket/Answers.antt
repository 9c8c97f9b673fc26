use Rattle.std.proofs.Common.{◌≡◌, ◌+◌, ◌^◌, ◌<◌, ◌≤◌, ◌*◌, ◌∙◌, ap, sym, take, map, length, get_or, ℕ, List, Bor, subst, arith}
use Rattle.std.proofs.lemmas.List.{take_all, get_or-map, length-map}
use Rattle.std.specs.List.{flat_map}
use Rattle.oram_bucket.specs.declared.block.Block.{Block}
use Rattle.oram_bucket.specs.Cell.{Cell}
use Rattle.oram_bucket.specs.Bytes.{IsBytes}
use Rattle.oram_bucket.specs.Bucket.{slot_of}
use Rattle.oram_bucket.proofs.UniqueEncoding.{few_of_device, small_block, filled_up, slots_more, bytes_and_zeros, bytes_taken}
use Rattle.oram_bucket.proofs.codec.write_bucket.Goals as goal

-- the borrowed block at an index
lent_at : (blocks : List (Bor Block)) (i : ℕ) (block : Bor Block) → i < length blocks → block ≡ get_or blocks i block → block.now ≡ get_or (map (λ b. b.now) blocks) i block.now
lent_at blocks i block h is = ap (λ b. b.now) is ∙ sym (get_or-map (λ b. b.now) blocks i block block.now h)

pub append_slot-requires : goal.append_slot-requires
append_slot-requires c =
    let few = few_of_device c.args.device.now c.args.tree c.trees.ensures.ranges in
    let within : c.loop-block.block-index < length (map (λ b. b.now) c.args.blocks.now) = omega (arith, length-map c.args.blocks.now (λ b. b.now)) in
    let block = c.requires.bucket.blocks c.loop-block.block-index c.block-item.result.now within in
    let small = small_block c.args.device.now c.args.tree few _ block in
    let P : Cell → Type 0 = λ x. x.address + 1 < 2 ^ 32 in
    subst P (sym (lent_at c.args.blocks.now c.loop-block.block-index c.block-item.result c.loop-block-test.true c.block-item.is)) small.number

pub loop-block-preserved : goal.loop-block-preserved
loop-block-preserved c =
    let within : c.loop-block.block-index < length (map (λ b. b.now) c.args.blocks.now) = omega (arith, length-map c.args.blocks.now (λ b. b.now)) in
    record {
      so_far = c.in_ok-append_slot.ensures.slot ∙ slots_more (map (λ b. b.now) c.args.blocks.now) c.loop-block.block-index c.block-item.result.now c.loop-block.bucket.items within
          (lent_at c.args.blocks.now c.loop-block.block-index c.block-item.result c.loop-block-test.true c.block-item.is) c.loop-block.invariant.so_far;
      bytes = c.in_ok-append_slot.ensures.bytes;
    }

pub returns-clause-spelled : goal.returns-clause-spelled
returns-clause-spelled c =
    let end : length (map (λ b. b.now) c.args.blocks.now) ≤ c.loop-block.block-index = omega (arith, length-map c.args.blocks.now (λ b. b.now)) in
    let all = ap (flat_map slot_of) (take_all c.loop-block.block-index (map (λ b. b.now) c.args.blocks.now) end) in
    let size : c.slots.result * (8 + c.block_bytes.result) ≡ c.args.device.now.slots * (8 + c.args.device.now.block_bytes) = ap (λ (n : ℕ). n * (8 + c.block_bytes.result)) c.slots.ensures.value ∙ ap (λ (n : ℕ). c.args.device.now.slots * (8 + n)) c.block_bytes.ensures.value in
    c.in_ok-resize.ensures.items ∙ filled_up c.args.device.now c.args.tree (map (λ b. b.now) c.args.blocks.now) c.loop-block.bucket.items _ _ size c.loop-block.bucket.ok.0 c.requires.bucket (c.loop-block.invariant.so_far ∙ all)

pub returns-clause-bytes : goal.returns-clause-bytes
returns-clause-bytes c =
    subst IsBytes (sym c.in_ok-resize.ensures.items) (bytes_and_zeros _ (take (c.slots.result * (8 + c.block_bytes.result)) c.loop-block.bucket.items) (bytes_taken _ c.loop-block.bucket.items c.loop-block.invariant.bytes))
