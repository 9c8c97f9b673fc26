use Rattle.std.proofs.Common.{Err, refl}
use Rattle.oram_client.proofs.stamp_answers.hear_own.Goals as goal

pub returns-in-Err : goal.returns-in-Err
returns-in-Err g c = (Err c.in-Err.fault, c.in-Err.ensures, (c.in-Err.fault, refl, refl))
