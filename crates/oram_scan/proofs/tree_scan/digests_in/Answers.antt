use Rattle.std.proofs.Common.{◌∙◌}
use Rattle.oram_hash.proofs.Paths.{left_digest-slice, right_digest-slice}
use Rattle.oram_scan.proofs.tree_scan.digests_in.Goals as goal

pub returns-clause-left : goal.returns-clause-left
returns-clause-left c = c.copy_from_slice.ensures.after ∙ left_digest-slice c.args.bytes.now

pub returns-clause-right : goal.returns-clause-right
returns-clause-right c = c.copy_from_slice-2.ensures.after ∙ right_digest-slice c.args.bytes.now
