use Rattle.std.proofs.Common.{sym, ap, ◌∙◌}
use Rattle.std.specs.Option.{option_copied}
use Rattle.oramsim.specs.Lines.{fields_left}
use Rattle.oramsim.proofs.FirstField.{first_field, one_field}
use Rattle.oramsim.proofs.fields.Fields.split_first.Goals as goal

pub returns-in-Some : goal.returns-in-Some
returns-in-Some c = sym c.self.view_is ∙ (ap (λ o. fields_left (option_copied o)) c.in_ok-rest.was ∙ first_field c.in_ok-rest.rest.now c.in-Some.at (sym c.first_space.ensures ∙ c.in-Some.is))

pub returns-in-None : goal.returns-in-None
returns-in-None c = sym c.self.view_is ∙ (ap (λ o. fields_left (option_copied o)) c.in_ok-rest.was ∙ one_field c.in_ok-rest.rest.now (sym c.first_space.ensures ∙ c.in-None.is))
