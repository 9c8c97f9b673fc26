use Rattle.std.proofs.Common.{◌≡◌, length, ap, sym, ◌∙◌, arith}
use Rattle.std.proofs.lemmas.Grind.{common_steps}
use Rattle.oram_wire.specs.ListOfBodies.{bodies_in}
use Rattle.oram_core.specs.Core.{CoreValue}
use Rattle.oram_core.proofs.NextFetches.{none_left, none_next}
use Rattle.oram_core.proofs.machine.Core.next_fetches.Goals as goal

pub returns-then-is_empty : goal.returns-then-is_empty
returns-then-is_empty g c =
    let none : length c.self.inside.queue.items ≡ 0 = grind (arith, common_steps) in
    ap bodies_in c.new.ensures.items
    ∙ none_next c.args.self.now.device c.args.self.now.state (sym (ap (λ (u : CoreValue g.row.S.Denot). u.state.queue) c.self.view_is) ∙ none_left c.self.inside.queue.items none)
