use Rattle.std.proofs.Common.{arith, ◌≡◌, ◌+◌, [], ◌∷◌, ◌++◌, ap, length, length-append}
use Rattle.oram_bucket.specs.Cell.{Cell}
use Rattle.oram_summary.specs.Stash.{HasNumbers}
use Rattle.oram_summary.specs.Text.{block_text}
use Rattle.oram_summary.proofs.Spelled.{all_more, blocks_more, length-block, room_left}
use Rattle.oram_summary.proofs.stash.read_blocks.Goals as goal

pub read_block-requires-clause-long : goal.read_block-requires-clause-long
read_block-requires-clause-long c = room_left (length c.loop.rest.now) c.loop.counter c.args.count (8 + c.args.block_bytes) (length c.args.bytes.now) c.loop-test.true c.loop.invariant.long c.requires.long

pub loop-preserved : goal.loop-preserved
loop-preserved c =
    let block = c.in_ok-block.block in
    let more : c.push.new.self.items ≡ c.loop.read.items ++ block ∷ [] = c.in_ok-push.ensures.items in
    record {
      counted = omega (arith, ap length more, length-append c.loop.read.items (block ∷ []), c.loop.invariant.counted);
      front = blocks_more c.args.bytes.now c.loop.rest.now c.in_ok-block.after.now c.loop.read.items block c.push.new.self.items c.loop.invariant.front c.in_ok-block.ensures.text more;
      long = omega (arith, c.loop.invariant.long, ap length c.in_ok-block.ensures.text, length-append (block_text block) c.in_ok-block.after.now, length-block block c.args.block_bytes c.in_ok-block.ensures.whole);
      whole = all_more (λ (b : Cell). length b.content ≡ c.args.block_bytes) c.loop.read.items block c.push.new.self.items c.loop.invariant.whole c.in_ok-block.ensures.whole more;
      fit = all_more HasNumbers c.loop.read.items block c.push.new.self.items c.loop.invariant.fit c.in_ok-block.ensures.fits more;
    }
