use Rattle.std.proofs.Common.{rules, codes}
use Rattle.std.proofs.lemmas.Result.{err_from_is_err_and}
use Rattle.toml.specs.Data.{get_member}
use Rattle.toml.specs.View.{table_view}
use Rattle.oram_cli.specs.Tables.{HasText}
use Rattle.oram_cli.proofs.TableKeys.{no_sealer, text_is}
use Rattle.oram_cli.proofs.tables.sealer_in.Goals as goal

pub returns-in_err-key_at-in-Some-chacha : goal.returns-in_err-key_at-in-Some-chacha
returns-in_err-key_at-in-Some-chacha c =
    let p = err_from_is_err_and c.from_residual.result c.from_residual.ensures.1 in
    let read = text_is (get_member (codes "seal") (table_view c.args.table.now)) c.in-Some-chacha.field-0.now c.in-Some-chacha.ensures in
    let seal : HasText (table_view c.args.table.now) (codes "seal") (codes "chacha") = search (rules, read) in
    rw (p.1, p.2) (no_sealer (table_view c.args.table.now) _ seal c.in_err-key_at-in-Some-chacha.ensures)
