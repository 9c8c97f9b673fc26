use Rattle.std.proofs.lemmas.Result.{err_from_is_err_and}
use Rattle.oram_settings.proofs.Tables.{no_disk, no_load, no_near, no_table}
use Rattle.oram_settings.proofs.disk_file.disk_in.Goals as goal

pub returns-in_err-size : goal.returns-in_err-size
returns-in_err-size c =
    let p = err_from_is_err_and c.from_residual.result c.from_residual.ensures.1 in
    rw (p.1, p.2) (no_disk _ _ c.in_err-size.ensures (λ s. s.size) (λ s h. h.size))

pub returns-in_err-block : goal.returns-in_err-block
returns-in_err-block c =
    let p = err_from_is_err_and c.from_residual-in_err-block.result c.from_residual-in_err-block.ensures.1 in
    rw (p.1, p.2) (no_disk _ _ c.in_err-block.ensures (λ s. s.block) (λ s h. h.block))

pub returns-in_err-slots : goal.returns-in_err-slots
returns-in_err-slots c =
    let p = err_from_is_err_and c.from_residual-in_err-slots.result c.from_residual-in_err-slots.ensures.1 in
    rw (p.1, p.2) (no_disk _ _ c.in_err-slots.ensures (λ s. s.slots) (λ s h. h.slots))

pub returns-in_err-leaf_load : goal.returns-in_err-leaf_load
returns-in_err-leaf_load c =
    let p = err_from_is_err_and c.from_residual-in_err-leaf_load.result c.from_residual-in_err-leaf_load.ensures.1 in
    rw (p.1, p.2) (no_load _ _ _ c.in_ok-slots.ensures c.in_err-leaf_load.ensures)

pub returns-in_err-table : goal.returns-in_err-table
returns-in_err-table c =
    let p = err_from_is_err_and c.from_residual-in_err-table.result c.from_residual-in_err-table.ensures.1 in
    rw (p.1, p.2) (no_table _ _ _ _ _ c.in_ok-size.ensures c.in_ok-block.ensures c.default_table.ensures c.in_err-table.ensures)

pub returns-in_err-sealer : goal.returns-in_err-sealer
returns-in_err-sealer c =
    let p = err_from_is_err_and c.from_residual-in_err-sealer.result c.from_residual-in_err-sealer.ensures.1 in
    rw (p.1, p.2) (no_disk _ _ c.in_err-sealer.ensures (λ s. s.sealer) (λ s h. h.sealer))

pub returns-in_err-near : goal.returns-in_err-near
returns-in_err-near c =
    let p = err_from_is_err_and c.from_residual-in_err-near.result c.from_residual-in_err-near.ensures.1 in
    rw (p.1, p.2) (no_near _ _ _ _ c.in_ok-size.ensures c.default_near.ensures c.in_err-near.ensures)

pub returns-in_err-key : goal.returns-in_err-key
returns-in_err-key c =
    let p = err_from_is_err_and c.from_residual-in_err-key.result c.from_residual-in_err-key.ensures.1 in
    rw (p.1, p.2) (no_disk _ _ c.in_err-key.ensures (λ s. s.key) (λ s h. h.key))

pub returns-in_err-host : goal.returns-in_err-host
returns-in_err-host c =
    let p = err_from_is_err_and c.from_residual-in_err-host.result c.from_residual-in_err-host.ensures.1 in
    rw (p.1, p.2) (no_disk _ _ c.in_err-host.ensures (λ s. s.host) (λ s h. h.host))

pub returns-in_err-listen : goal.returns-in_err-listen
returns-in_err-listen c =
    let p = err_from_is_err_and c.from_residual-in_err-listen.result c.from_residual-in_err-listen.ensures.1 in
    rw (p.1, p.2) (no_disk _ _ c.in_err-listen.ensures (λ s. s.listen) (λ s h. h.listen))

pub returns-in_err-state : goal.returns-in_err-state
returns-in_err-state c =
    let p = err_from_is_err_and c.from_residual-in_err-state.result c.from_residual-in_err-state.ensures.1 in
    rw (p.1, p.2) (no_disk _ _ c.in_err-state.ensures (λ s. s.state) (λ s h. h.state))

pub returns-in_err-sync : goal.returns-in_err-sync
returns-in_err-sync c =
    let p = err_from_is_err_and c.from_residual-in_err-sync.result c.from_residual-in_err-sync.ensures.1 in
    rw (p.1, p.2) (no_disk _ _ c.in_err-sync.ensures (λ s. s.sync) (λ s h. h.sync))

pub returns-in_err-reconnect_timeout : goal.returns-in_err-reconnect_timeout
returns-in_err-reconnect_timeout c =
    let p = err_from_is_err_and c.from_residual-in_err-reconnect_timeout.result c.from_residual-in_err-reconnect_timeout.ensures.1 in
    rw (p.1, p.2) (no_disk _ _ c.in_err-reconnect_timeout.ensures (λ s. s.reconnect_timeout) (λ s h. h.reconnect_timeout))
