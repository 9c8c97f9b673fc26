use Rattle.std.proofs.Common.{drop}
use Rattle.oram_nbd.specs.Batches.{answers_text}
use Rattle.oram_nbd.proofs.Gathered.{WritesOn}
use Rattle.oram_nbd.proofs.replies.put_answers.Given as goal

abbrev pub invariant-loop-i : goal.invariant-loop-i
invariant-loop-i g l = WritesOn (g.W.Write.contents l.fn.writer) (g.W.Write.contents l.writer) (answers_text l.size l.requests l.given)
    (answers_text l.size (drop l.i l.requests) (drop l.i l.given))
