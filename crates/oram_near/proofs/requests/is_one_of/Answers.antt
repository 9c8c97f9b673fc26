use Rattle.std.proofs.Common.{◌≢◌, ℕ, List, sym, ◌∙◌, subst}
use Rattle.std.specs.Cmp.Lexicographic.{other_text, same_text}
use Rattle.oram_link_laws.specs.Repair.{IsAmong}
use Rattle.oram_rounds.specs.Batches.{texts}
use Rattle.oram_rounds.proofs.Texts.{all_next, among_at}
use Rattle.oram_near.proofs.requests.is_one_of.Goals as goal

pub returns-then-eq : goal.returns-then-eq
returns-then-eq c =
    let same = same_text c.as_slice.result.now c.args.message.now (sym c.if-eq.true ∙ c.eq.ensures) in
    subst (λ (b : List ℕ). IsAmong b (texts c.args.messages.now)) (sym c.as_slice.ensures.value ∙ same)
    (among_at c.args.messages.now c.loop-other.other-index c.other-item.result c.loop-other-test.true c.other-item.is)

pub loop-other-preserved : goal.loop-other-preserved
loop-other-preserved c =
    all_next (λ other. other ≢ c.args.message.now) c.args.messages.now c.loop-other.other-index c.other-item.result c.loop-other-test.true c.other-item.is c.loop-other.invariant
    (λ same. other_text c.as_slice.result.now c.args.message.now (sym c.if-eq.false ∙ c.eq.ensures) (c.as_slice.ensures.value ∙ same))
