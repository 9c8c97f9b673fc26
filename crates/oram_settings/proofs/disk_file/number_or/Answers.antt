use Rattle.std.proofs.Common.{◌∙◌, sym}
use Rattle.toml.specs.View.{table_view}
use Rattle.oram_cli.specs.Tables.{HasNumber}
use Rattle.oram_settings.proofs.Tables.{default_or, found_or}
use Rattle.oram_settings.proofs.disk_file.number_or.Goals as goal

pub returns-then-has_key : goal.returns-then-has_key
returns-then-has_key c =
    let t = table_view c.args.table.now in
    let key = c.args.key.now in
    found_or (λ n. n) t key c.args.default (HasNumber t key) c.number_at.result (sym c.has_key.ensures ∙ c.if-has_key.true) c.number_at.ensures

pub returns-else-has_key : goal.returns-else-has_key
returns-else-has_key c =
    let t = table_view c.args.table.now in
    let key = c.args.key.now in
    default_or t key c.args.default (HasNumber t key) (sym c.has_key.ensures ∙ c.if-has_key.false)
