use Rattle.oram_host.proofs.Answered.{answering}
use Rattle.oram_host.proofs.Connections.{Served}
use Rattle.oram_host.proofs.connection.host_serve.Given as goal

abbrev pub invariant-loop-served : goal.invariant-loop-served
invariant-loop-served g l = Served g.H.BucketServer.serves
    (answering l.fn.server (g.R.Read.remaining l.fn.reader) (g.W.Write.contents l.fn.writer)) l.served
    (answering l.server (g.R.Read.remaining l.reader) (g.W.Write.contents l.writer))
