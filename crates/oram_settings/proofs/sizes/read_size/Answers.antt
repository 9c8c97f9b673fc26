use Rattle.std.proofs.Common.{rules, refl}
use Rattle.oram_settings.proofs.Units.{no_size, one_more}
use Rattle.oram_settings.proofs.sizes.read_size.Goals as goal

pub loop-unit-preserved : goal.loop-unit-preserved
loop-unit-preserved c = one_more _ c.loop-unit-test.true c.loop-unit.invariant (λ size fits h. c.in_default.ensures.none (search rules) size fits h)

pub returns-clause-none : goal.returns-clause-none
returns-clause-none c t size fits h = no_size _ c.loop-unit.invariant c.loop-unit-test.false refl size fits h
