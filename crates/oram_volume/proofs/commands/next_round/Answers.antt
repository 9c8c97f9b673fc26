use Rattle.std.proofs.Common.{◌<◌, ◌+◌, ◌++◌, ◌∷◌, [], List, length, sym, ap, ◌∙◌, arith, length-append}
use Rattle.oram_semantics.specs.declared.events.Command.{Command}
use Rattle.oram_volume.specs.RangeCommands.{rest_of}
use Rattle.oram_volume.proofs.RangeCommands.{rest_next, round_more}
use Rattle.oram_volume.proofs.commands.next_round.Goals as goal

pub loop-number-preserved : goal.loop-number-preserved
loop-number-preserved c =
    let ops = c.args.operations.now in
    let inv = c.loop-number.invariant in
    let cur = c.pass_over.new.cursor in
    let more : cur.operation < length ops = omega arith in
    let left = rest_next c.args.block ops cur.operation cur.block c.index-operations-cursor.result c.in_ok-command.command more c.index-operations-cursor.is c.in_ok-command.ensures in
    let all = inv.so_far ∙ ap (λ (l : List Command). c.loop-number.commands.items ++ l) (sym c.pass_over.ensures.same) in
    record {
      many = ap length c.in_ok-push.ensures.items ∙ length-append c.loop-number.commands.items (c.in_ok-command.command ∷ []) ∙ ap (λ n. n + 1) inv.many;
      so_far = round_more _ _ _ _ c.in_ok-command.command all left ∙ ap (λ (l : List Command). l ++ rest_of c.args.block ops cur.operation (cur.block + 1)) (sym c.in_ok-push.ensures.items);
    }
