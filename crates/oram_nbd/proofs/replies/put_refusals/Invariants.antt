use Rattle.std.proofs.Common.{drop}
use Rattle.oram_nbd.specs.Batches.{refusals_text}
use Rattle.oram_nbd.proofs.Gathered.{WritesOn}
use Rattle.oram_nbd.proofs.replies.put_refusals.Given as goal

abbrev pub invariant-loop-i : goal.invariant-loop-i
invariant-loop-i g l = WritesOn (g.W.Write.contents l.fn.writer) (g.W.Write.contents l.writer) (refusals_text l.size l.requests l.error) (refusals_text l.size (drop l.i l.requests) l.error)
