use Rattle.std.proofs.Common.{◌++◌}
use Rattle.oram_rounds.specs.Batches.{texts}
use Rattle.oram_rounds.proofs.NextAnswers.{none_given}
use Rattle.oram_rounds.proofs.one_by_one.OneByOneBatchLink.begin.Goals as goal

pub returns : goal.returns
returns g c = none_given g.L.Link.calls c.args.self.now.link (texts c.args._first.now ++ texts c.args._last.now)
