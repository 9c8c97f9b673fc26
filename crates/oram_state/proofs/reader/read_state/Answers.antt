use Rattle.std.proofs.Common.{arith, subst}
use Rattle.oram_state.specs.Parser.{Gives}
use Rattle.oram_state.proofs.Framed.{found, state_again}
use Rattle.oram_state.proofs.reader.read_state.Goals as goal

pub returns-clause-found : goal.returns-clause-found
returns-clause-found c = found c.args.file.now c.read_file.result (λ i. omega (arith, c.type_inv.file i)) c.read_file.ensures

pub returns-clause-only : goal.returns-clause-only
returns-clause-only c = λ version overhead p h. subst (λ r. Gives (λ saved. saved) c.read_file.result r) (state_again c.args.file.now version overhead p (omega arith) h) c.read_file.ensures
