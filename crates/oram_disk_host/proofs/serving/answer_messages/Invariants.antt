use Rattle.oram_host.proofs.Answered.{answering}
use Rattle.oram_disk_host.proofs.Groups.{HasRun}
use Rattle.oram_disk_host.proofs.serving.answer_messages.Given as goal

abbrev pub invariant-loop : goal.invariant-loop
invariant-loop g l = HasRun g.F.FilePair.model
    (answering l.fn.hosted (g.R.Read.remaining l.fn.reader) (g.W.Write.contents l.fn.writer))
    (answering l.hosted (g.R.Read.remaining l.reader) (g.W.Write.contents l.writer))
