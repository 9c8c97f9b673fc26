use Rattle.std.proofs.Common.{ℕ, List, subst}
use Rattle.oram_core.specs.Core.{IsNotedSince}
use Rattle.oramdisk.proofs.serve_command.process_of.Goals as goal

pub returns-clause-table : goal.returns-clause-table
returns-clause-table g c = subst (λ (t : List ℕ). IsNotedSince t c.note_table.new.core) c.requires.table.2 (c.note_table.ensures.noted c.requires.table.0 c.requires.table.1)
