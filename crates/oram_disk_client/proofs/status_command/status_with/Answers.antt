use Rattle.std.proofs.Common.{◌≡◌, ◌∙◌, ℕ, refl}
use Rattle.oram_disk_client.proofs.FormattedWith.{levels_at}
use Rattle.oram_disk_client.proofs.status_command.status_with.Goals as goal

pub returns : goal.returns
returns g c =
    let process = c.in_ok-process.process in
    let levels = c.in_ok-levels.levels in
    let has = levels_at levels {d = process.core.device} {o = (g.S.Sealer.cipher process.core.sealer).overhead} refl refl (c.len-records.ensures ∙ c.args.kept.now.process.records.ok.0) c.in_ok-levels.ensures.ok in
    (process, levels, c.in_ok-process.ensures.ok, has, c.status_of.ensures)
