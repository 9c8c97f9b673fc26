use Rattle.std.proofs.Common.{inl}
use Rattle.oram_cli.proofs.file_faults.call_fault.Goals as goal

pub returns-in-Ok : goal.returns-in-Ok
returns-in-Ok c = inl (c.in-Ok.name, c.in-Ok.ensures.ok, c.file_fault.ensures)
