use Rattle.std.proofs.Common.{◌∙◌, sym}
use Rattle.oram_cli.proofs.TableKeys.{only_from, only_to}
use Rattle.oram_cli.proofs.tables.has_only.Goals as goal

pub returns : goal.returns
returns c = (
  λ t. only_from _ c.args.table.now.entries (sym c.are_among.ensures ∙ t),
  λ h. c.are_among.ensures ∙ only_to _ c.args.table.now.entries h,
)
