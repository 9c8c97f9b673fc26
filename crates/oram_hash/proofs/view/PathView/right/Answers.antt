use Rattle.std.proofs.Common.{ap, ◌∙◌}
use Rattle.oram_hash.specs.Record.{right_digest}
use Rattle.oram_hash.proofs.Paths.{right_digest-slice}
use Rattle.oram_hash.proofs.view.PathView.right.Goals as goal

pub returns-clause-exact : goal.returns-clause-exact
returns-clause-exact c = right_digest-slice c.record-record.result.now ∙ ap right_digest c.record-record.ensures.exact
