use Rattle.std.proofs.Common.{arith}
use Rattle.oram_core.proofs.Small.{map_entry_none, map_entry_some}
use Rattle.oram_core.proofs.path_access.map_entry_below.Goals as goal

pub returns-in-0 : goal.returns-in-0
returns-in-0 c = map_entry_none _ _ _ _ c.in-0.is

pub returns-in_default : goal.returns-in_default
returns-in_default c = rw (c.entry_in.ensures, c.entry_of.ensures.value) (map_entry_some _ _ _ _ (omega arith))
