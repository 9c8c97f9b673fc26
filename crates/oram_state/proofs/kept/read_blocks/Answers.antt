use Rattle.std.proofs.lemmas.Result.{err_from_is_err_and}
use Rattle.oram_state.specs.Parser.{many, next_block}
use Rattle.oram_state.proofs.Loops.{goes_on, ends, is_done}
use Rattle.oram_state.proofs.kept.read_blocks.Goals as goal

pub returns-in_err-block : goal.returns-in_err-block
returns-in_err-block c =
    let p = err_from_is_err_and c.from_residual.result c.from_residual.ensures.1 in
    rw (p.1, p.2) (ends (next_block c.args.device.now) c.in_err-block.field-0.0 c.loop.stash.items c.args.count c.loop.counter c.loop.rest.now (many (next_block c.args.device.now) c.args.count c.args.bytes.now) c.loop-test.true c.in_err-block.ensures c.loop.invariant)

pub loop-preserved : goal.loop-preserved
loop-preserved c =
    rw c.in_ok-push.ensures.items (goes_on (next_block c.args.device.now) c.loop.stash.items c.args.count c.loop.counter c.loop.rest.now c.in_ok-block.block c.in_ok-block.after.now (many (next_block c.args.device.now) c.args.count c.args.bytes.now) c.loop-test.true c.in_ok-block.ensures c.loop.invariant)

pub returns : goal.returns
returns c = is_done (next_block c.args.device.now) c.loop.stash.items c.args.count c.loop.counter c.loop.rest.now (many (next_block c.args.device.now) c.args.count c.args.bytes.now) c.loop-test.false c.loop.invariant
