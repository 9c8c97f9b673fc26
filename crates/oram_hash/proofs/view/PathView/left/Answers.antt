use Rattle.std.proofs.Common.{ap, ◌∙◌}
use Rattle.oram_hash.specs.Record.{left_digest}
use Rattle.oram_hash.proofs.Paths.{left_digest-slice}
use Rattle.oram_hash.proofs.view.PathView.left.Goals as goal

pub returns-clause-exact : goal.returns-clause-exact
returns-clause-exact c = left_digest-slice c.record-record.result.now ∙ ap left_digest c.record-record.ensures.exact
