use Rattle.std.proofs.Common.{ap, ◌∙◌}
use Rattle.oram_hash.specs.Record.{sealed_part}
use Rattle.oram_hash.proofs.Paths.{sealed_part-slice}
use Rattle.oram_hash.proofs.view.PathView.sealed.Goals as goal

pub returns-clause-exact : goal.returns-clause-exact
returns-clause-exact c = sealed_part-slice c.record-record.result.now ∙ ap sealed_part c.record-record.ensures.exact
