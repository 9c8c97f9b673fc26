use Rattle.std.proofs.lemmas.Result.{err_from_is_err_and}
use Rattle.oram_disk_host.proofs.Hosts.{no_host}
use Rattle.oram_disk_host.proofs.settings_file.host_in.Goals as goal

pub returns-in_err-listen : goal.returns-in_err-listen
returns-in_err-listen c =
    let p = err_from_is_err_and c.from_residual.result c.from_residual.ensures.1 in
    rw (p.1, p.2) (no_host _ _ c.in_err-listen.ensures (λ s. s.listen) (λ s h. h.listen))
