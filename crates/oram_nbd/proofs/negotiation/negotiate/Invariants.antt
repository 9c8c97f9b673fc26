use Rattle.oram_nbd.specs.Handshake.{export_value}
use Rattle.oram_nbd.specs.Streams.{streams}
use Rattle.oram_nbd.proofs.Negotiated.{Negotiated}
use Rattle.oram_nbd.proofs.negotiation.negotiate.Given as goal

abbrev pub invariant-loop : goal.invariant-loop
invariant-loop g l = Negotiated (export_value l.export.name.now l.export.size l.export.minimum l.export.preferred) l.zeroes (streams (g.R.Read.remaining l.fn.reader) (g.W.Write.contents l.fn.writer)) l.counter
    (streams (g.R.Read.remaining l.reader) (g.W.Write.contents l.writer))
