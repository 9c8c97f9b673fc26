use Rattle.std.proofs.Common.{Option, None, Some, sym, ap, subst}
use Rattle.oram_pair.specs.declared.fronts.Identity.{Identity}
use Rattle.oram_pair.specs.Leftovers.{IsOfFirst}
use Rattle.oram_pair.proofs.leftovers.has_new_front.Goals as goal

or_else : Identity → Option Identity → Identity
or_else other None = other
or_else other (Some identity) = identity

pub returns-in-Some : goal.returns-in-Some
unfolding or_else
returns-in-Some c = (
  λ yes. (c.in-Some.identity, c.in-Some.ensures.found, c.is_of_first.ensures.0 yes),
  λ has. c.is_of_first.ensures.1 (subst (λ (it : Identity). IsOfFirst c.args.letters.now it c.args.bytes.now) (sym (ap (or_else has.0) (c.in-Some.ensures.read_again has.0 has.1))) has.2),
)
