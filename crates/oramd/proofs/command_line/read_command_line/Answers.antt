use Rattle.std.proofs.Common.{◌∙◌, ap}
use Rattle.clap.specs.Faults.{is_simple_and_free}
use Rattle.oramd.proofs.Program.{is_free}
use Rattle.oramd.proofs.command_line.read_command_line.Goals as goal

pub read_named-requires : goal.read_named-requires
read_named-requires c = ap is_simple_and_free c.in_ok-command.ensures ∙ is_free
