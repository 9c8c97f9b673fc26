-- The program's command line, by clap's own account of what it takes.
use Rattle.std.proofs.Common.{◌≡◌, refl, true}
use Rattle.clap.specs.Faults.{is_simple_and_free}
use Rattle.clap.proofs.OnLiterals.{clap_on_literals}
use Rattle.oramd.specs.CommandLine.{program}

pub is_free : is_simple_and_free program ≡ true
unfolding clap_on_literals
is_free = refl
