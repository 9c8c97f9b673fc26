use Rattle.std.proofs.lemmas.Result.{err_from_is_err_and}
use Rattle.toml.specs.View.{table_view}
use Rattle.oram_settings.proofs.Tables.{no_sealing}
use Rattle.oram_settings.proofs.disk_file.sealing_at.Goals as goal

pub returns-in_err-name_at : goal.returns-in_err-name_at
returns-in_err-name_at c =
    let p = err_from_is_err_and c.from_residual.result c.from_residual.ensures.1 in
    rw (p.1, p.2) (no_sealing (table_view c.args.table.now) c.args.key.now _ c.in_err-name_at.ensures)
