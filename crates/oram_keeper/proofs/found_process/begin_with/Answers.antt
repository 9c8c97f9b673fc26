use Rattle.std.proofs.Common.{◌≡◌, ◌++◌, ◌∙◌, List, ℕ, refl, sym}
use Rattle.std.proofs.lemmas.List.{take-append-drop}
use Rattle.oram_keeper.proofs.Found.{all_next, number_next}
use Rattle.oram_keeper.proofs.found_process.begin_with.Goals as goal

pub loop-number-init : goal.loop-number-init
loop-number-init c = refl

pub loop-number-preserved : goal.loop-number-preserved
loop-number-preserved c =
    let rest : List ℕ = c.loop-number.rest.now in
    let cut = c.in-Some.ensures.cases in
    let split : rest ≡ c.in-Some.four.now ++ c.in-Some.behind.now = sym (take-append-drop 4 rest) ∙ (λ i. sym cut.1 i ++ sym cut.2 i) in
    number_next c.args.table.now c.args.bytes.now rest c.in-Some.four.now c.in-Some.behind.now c.loop-number.number-index c.loop-number-test.true c.loop-number.invariant split
    (c.are_of.ensures c.if-not-are_of.false)

pub returns : goal.returns
returns c = λ _. (c.loop-number.rest.now, all_next c.args.table.now c.args.bytes.now c.loop-number.rest.now c.loop-number.number-index c.loop-number-test.false c.loop-number.invariant)
