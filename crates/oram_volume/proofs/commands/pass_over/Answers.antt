use Rattle.std.proofs.Common.{◌/◌, ◌≤◌, ℕ, sym, ◌∙◌, subst}
use Rattle.oram_volume.proofs.RangeCommands.{rest_passed}
use Rattle.oram_volume.proofs.commands.pass_over.Goals as goal

pub loop-cursor-preserved : goal.loop-cursor-preserved
loop-cursor-preserved c =
    let b = c.args.block in
    let cur = c.loop-cursor.cursor in
    sym (rest_passed b c.args.operations.now cur.operation cur.block c.index-operations-cursor.result c.loop-cursor-test.true c.index-operations-cursor.is
    (subst (λ (n : ℕ). n / b ≤ cur.block) c.len.ensures c.if-cursor-len.true)) ∙ c.loop-cursor.invariant
