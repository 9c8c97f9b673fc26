use Rattle.std.proofs.lemmas.Bool.{false≢true}
use Rattle.std.proofs.lemmas.Result.{err_from_is_err_and}
use Rattle.toml.specs.View.{table_view}
use Rattle.oram_settings.proofs.Tables.{address_found, no_place}
use Rattle.oram_settings.proofs.disk_file.place_at.Goals as goal

pub returns-in_err-text : goal.returns-in_err-text
returns-in_err-text c =
    let p = err_from_is_err_and c.from_residual.result c.from_residual.ensures.1 in
    rw (p.1, p.2) (no_place (table_view c.args.table.now) c.args.key.now _ c.in_err-text.ensures)

pub returns-else-is_socket : goal.returns-else-is_socket
returns-else-is_socket c = address_found (λ s. s.now) (table_view c.args.table.now) c.args.key.now c.in_ok-text.text.now c.in_ok-text.ensures.0 (λ s. false≢true (c.if-is_socket.ensures.1 s)) c.address_at.result c.address_at.ensures
