use Rattle.oram_settings.proofs.Units.{IsNoneBelow}
use Rattle.oram_settings.proofs.sizes.read_size.Given as goal

-- the text isn't a size in the units so far
abbrev pub invariant-loop-unit : goal.invariant-loop-unit
invariant-loop-unit l = IsNoneBelow l.unit-items l.text l.unit-index
