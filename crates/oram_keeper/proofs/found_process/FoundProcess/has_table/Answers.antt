use Rattle.std.proofs.Common.{◌∙◌, ap, drop, sym}
use Rattle.oram_keeper.proofs.Found.{one_table}
use Rattle.oram_keeper.proofs.found_process.FoundProcess.has_table.Goals as goal

pub returns-then-table-self : goal.returns-then-table-self
returns-then-table-self c = λ p is yes.
    let begun = c.begin_with.ensures yes in
    let rest = c.in-Some.ensures.cases.2 ∙ ap (drop c.args.self.now.table_at) c.deref.ensures.value in
    one_table c.args.self.now p c.args.table.now begun.0 is c.if-table-self.true c.fit.ensures (sym rest ∙ begun.1)
