use Rattle.std.proofs.lemmas.Result.{err_from_is_err_and}
use Rattle.oramd.proofs.Proxies.{no_proxy}
use Rattle.oramd.proofs.settings_file.proxy_in.Goals as goal

pub returns-in_err-tape_key : goal.returns-in_err-tape_key
returns-in_err-tape_key c =
    let p = err_from_is_err_and c.from_residual-in_err-tape_key.result c.from_residual-in_err-tape_key.ensures.1 in
    rw (p.1, p.2) (no_proxy _ _ c.in_err-tape_key.ensures)
