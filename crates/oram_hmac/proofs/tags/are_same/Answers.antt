use Rattle.std.proofs.Common.{arith}
use Rattle.oram_hmac.proofs.SameBytes.{same_more, all_same}
use Rattle.oram_hmac.proofs.tags.are_same.Goals as goal

pub loop-i-preserved : goal.loop-i-preserved
loop-i-preserved c = same_more c.args.one.now c.args.other.now c.loop-i.i c.loop-i.difference (omega arith) (omega arith) c.loop-i.invariant

pub returns : goal.returns
returns c = all_same c.args.one.now c.args.other.now c.loop-i.i c.loop-i.difference (omega arith) (omega arith) c.loop-i.invariant
