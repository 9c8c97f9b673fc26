use Rattle.std.proofs.Common.{length, ap, arith}
use Rattle.oram_kept.specs.Pages.{bytes_of}
use Rattle.oram_kept.specs.declared.pages.PagedPart.{PagedPart}
use Rattle.oram_kept.proofs.Tables.{length-numbers}
use Rattle.oram_kept.proofs.pages.PagedPart.len.Goals as goal

pub returns-in-Table : goal.returns-in-Table
returns-in-Table c = omega (arith, length-numbers c.in-Table.table.now, ap (λ (part : PagedPart). length (bytes_of part)) c.in-Table.is)
