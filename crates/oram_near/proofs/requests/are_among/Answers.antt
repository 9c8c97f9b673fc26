use Rattle.std.proofs.Common.{ℕ, List, subst}
use Rattle.oram_link_laws.specs.Repair.{IsAmong}
use Rattle.oram_rounds.specs.Batches.{texts}
use Rattle.oram_rounds.proofs.Texts.{all_next, among_at}
use Rattle.oram_near.specs.NearCalls.{IsNoneOf}
use Rattle.oram_near.proofs.requests.are_among.Goals as goal

pub returns-then-not-is_one_of : goal.returns-then-not-is_one_of
returns-then-not-is_one_of c = (
  c.store-item.result.items,
  among_at c.args.stores.now c.loop-store.store-index c.store-item.result c.loop-store-test.true c.store-item.is,
  subst (λ (s : List ℕ). IsNoneOf s (texts c.args.messages.now)) c.deref.ensures.value c.if-not-is_one_of.ensures,
)

pub loop-store-preserved : goal.loop-store-preserved
loop-store-preserved c =
    all_next (λ store. IsAmong store (texts c.args.messages.now)) c.args.stores.now c.loop-store.store-index c.store-item.result c.loop-store-test.true c.store-item.is c.loop-store.invariant
    (subst (λ (s : List ℕ). IsAmong s (texts c.args.messages.now)) c.deref.ensures.value c.if-not-is_one_of.ensures)
