use Rattle.std.proofs.lemmas.Result.{err_from_is_err_and}
use Rattle.oram_state.specs.Parser.{many, next_pending}
use Rattle.oram_state.proofs.Loops.{goes_on, ends, is_done}
use Rattle.oram_state.proofs.work.read_pendings.Goals as goal

pub returns-in_err-pending : goal.returns-in_err-pending
returns-in_err-pending c =
    let p = err_from_is_err_and c.from_residual-in_err-pending.result c.from_residual-in_err-pending.ensures.1 in
    rw (p.1, p.2) (ends (next_pending c.args.device.now) c.in_err-pending.field-0.0 c.loop.waiting.items c.args.count c.loop.counter c.loop.rest.now (many (next_pending c.args.device.now) c.args.count c.args.bytes.now) c.loop-test.true c.in_err-pending.ensures c.loop.invariant)

pub loop-preserved : goal.loop-preserved
loop-preserved c =
    rw c.in_ok-push.ensures.items (goes_on (next_pending c.args.device.now) c.loop.waiting.items c.args.count c.loop.counter c.loop.rest.now c.in_ok-pending.pending c.in_ok-pending.after.now (many (next_pending c.args.device.now) c.args.count c.args.bytes.now) c.loop-test.true c.in_ok-pending.ensures c.loop.invariant)

pub returns : goal.returns
returns c = is_done (next_pending c.args.device.now) c.loop.waiting.items c.args.count c.loop.counter c.loop.rest.now (many (next_pending c.args.device.now) c.args.count c.args.bytes.now) c.loop-test.false c.loop.invariant
