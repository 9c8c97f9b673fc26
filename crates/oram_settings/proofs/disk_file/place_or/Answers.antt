use Rattle.std.proofs.Common.{◌∙◌, sym}
use Rattle.toml.specs.View.{table_view}
use Rattle.oram_cli.specs.Tables.{HasText}
use Rattle.oram_settings.specs.Settings.{IsPlace}
use Rattle.oram_settings.proofs.Tables.{found_or}
use Rattle.oram_settings.proofs.disk_file.place_or.Goals as goal

pub returns-then-has_key : goal.returns-then-has_key
returns-then-has_key c =
    let t = table_view c.args.table.now in
    let key = c.args.key.now in
    found_or (λ s. s.now) t key c.args.default.now (λ s. HasText t key s × IsPlace s) c.place_at.result (sym c.has_key.ensures ∙ c.if-has_key.true) c.place_at.ensures
