use Rattle.oram_state.proofs.FieldsInThree.{fields_around}
use Rattle.oram_state.proofs.fields_are_around_table.Goals as goal

pub returns : goal.returns
returns c = fields_around
