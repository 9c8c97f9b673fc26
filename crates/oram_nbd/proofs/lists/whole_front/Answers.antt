use Rattle.std.proofs.Common.{◌≡◌, false, true, subst, rules, arith}
use Rattle.std.proofs.lemmas.List.Elements.{All-more}
use Rattle.oram_nbd.specs.Accesses.{is_part, range_of}
use Rattle.oram_nbd.specs.Operations.{IsWhole}
use Rattle.oram_nbd.proofs.lists.whole_front.Goals as goal

pub loop-number-preserved : goal.loop-number-preserved
loop-number-preserved c =
    let there = c.index-operations-number.is in
    let yes : c.is_whole.result ≡ true = search rules in
    record {
      whole = All-more (IsWhole c.args.block) c.args.operations.now c.loop-number.number c.index-operations-number.result c.loop-number-test.true c.loop-number.invariant.whole
          (subst (IsWhole c.args.block) there (c.is_whole.ensures.whole (grind arith)));
      no_parts = All-more (λ op. is_part c.args.block (range_of op) ≡ false) c.args.operations.now c.loop-number.number c.index-operations-number.result c.loop-number-test.true c.loop-number.invariant.no_parts
          (subst (λ op. is_part c.args.block (range_of op) ≡ false) there (c.is_whole.ensures.no_part yes));
    }
