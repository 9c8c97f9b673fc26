use Rattle.std.proofs.Common.{Ok, take}
use Rattle.oram_rounds.specs.Batches.{texts}
use Rattle.oram_near.specs.NearStreams.{Hears, bytes_of}
use Rattle.oram_near.proofs.hearing.hear.Given as goal

abbrev pub invariant-loop-message : goal.invariant-loop-message
invariant-loop-message g l = Hears g.B.BatchLink.batches g.B.BatchLink.streams l.initial.link (take l.message-index (texts l.messages)) (Ok (bytes_of l.refusal)) l.link
