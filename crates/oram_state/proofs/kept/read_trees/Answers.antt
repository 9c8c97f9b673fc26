use Rattle.std.proofs.lemmas.Result.{err_from_is_err_and}
use Rattle.oram_state.specs.Parser.{many, next_tree}
use Rattle.oram_state.proofs.Loops.{goes_on, ends, is_done}
use Rattle.oram_state.proofs.kept.read_trees.Goals as goal

pub returns-in_err-tree : goal.returns-in_err-tree
returns-in_err-tree c =
    let p = err_from_is_err_and c.from_residual-in_err-tree.result c.from_residual-in_err-tree.ensures.1 in
    rw (p.1, p.2) (ends (next_tree c.args.device.now) c.in_err-tree.field-0.0 c.loop.trees.items c.args.count c.loop.counter c.loop.rest.now (many (next_tree c.args.device.now) c.args.count c.args.bytes.now) c.loop-test.true c.in_err-tree.ensures c.loop.invariant)

pub loop-preserved : goal.loop-preserved
loop-preserved c =
    rw c.in_ok-push.ensures.items (goes_on (next_tree c.args.device.now) c.loop.trees.items c.args.count c.loop.counter c.loop.rest.now c.in_ok-tree.tree c.in_ok-tree.after.now (many (next_tree c.args.device.now) c.args.count c.args.bytes.now) c.loop-test.true c.in_ok-tree.ensures c.loop.invariant)

pub returns : goal.returns
returns c = is_done (next_tree c.args.device.now) c.loop.trees.items c.args.count c.loop.counter c.loop.rest.now (many (next_tree c.args.device.now) c.args.count c.args.bytes.now) c.loop-test.false c.loop.invariant
