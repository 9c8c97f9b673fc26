use Rattle.oram_redo.proofs.Moments.{one_nothing}
use Rattle.std.proofs.Common.{inl}
use Rattle.oram_redo.proofs.steps.read_onto.Goals as goal

pub returns-clause-bytes : goal.returns-clause-bytes
returns-clause-bytes g c = c.read_onto.ensures.bytes

pub returns-clause-nothing_written : goal.returns-clause-nothing_written
returns-clause-nothing_written g c = one_nothing g.F.FilePair.model c.args.files.now c.read_onto.new.self (g.met.F.FilePair.only_now c.args.files.now) c.read_onto.ensures.seen c.read_onto.ensures.crash c.read_onto.ensures.time

pub returns-clause-failed : goal.returns-clause-failed
returns-clause-failed g c is = inl (c.read_onto.ensures.cause.failed is)

pub returns-clause-after : goal.returns-clause-after
returns-clause-after g c = c.read_onto.ensures.after

pub returns-clause-errors : goal.returns-clause-errors
returns-clause-errors g c = c.read_onto.ensures.errors
