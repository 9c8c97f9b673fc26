use Rattle.std.proofs.Common.{arith, subst}
use Rattle.oram_state.specs.Parser.{Gives}
use Rattle.oram_state.proofs.Framed.{fields_again_bare, fields_found}
use Rattle.oram_state.proofs.Refusals.{fields_fault}
use Rattle.oram_state.proofs.reader.read_bare_fields.Goals as goal

pub returns-clause-found : goal.returns-clause-found
returns-clause-found c = fields_found c.args.fields.now c.read_fields.result (λ i. omega (arith, c.type_inv.fields i)) c.read_fields.ensures

pub returns-clause-only : goal.returns-clause-only
returns-clause-only c = λ overhead p h. subst (λ r. Gives (λ saved. saved) c.read_fields.result r) (fields_again_bare c.args.fields.now overhead p h) c.read_fields.ensures

pub returns-clause-fault : goal.returns-clause-fault
returns-clause-fault c = fields_fault 2 c.args.fields.now c.read_fields.result c.read_fields.ensures
