use Rattle.std.proofs.Common.{inl, refl}
use Rattle.oram_disk_client.proofs.reading_ends.lost_fault.Goals as goal

pub returns-in-Ok : goal.returns-in-Ok
returns-in-Ok c = inl (c.in-Ok.text, refl)
