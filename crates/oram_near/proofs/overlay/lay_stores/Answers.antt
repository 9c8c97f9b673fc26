use Rattle.std.proofs.Common.{List, ℕ, take, map, ap, sym, ◌∙◌, [], ◌∷◌, subst}
use Rattle.std.specs.List.{AllByRecursion}
use Rattle.std.proofs.lemmas.List.{map-append}
use Rattle.oram_levels.specs.Messages.{LevelsMessage}
use Rattle.oram_rounds.specs.Batches.{texts}
use Rattle.oram_rounds.proofs.Texts.{drop_here, take_next}
use Rattle.oram_near.specs.Completion.{LaysOver}
use Rattle.oram_near.specs.PathRequests.{IsFarStoreBody, store_in}
use Rattle.oram_near.proofs.Laid.{lays_more}
use Rattle.oram_near.proofs.overlay.lay_stores.Goals as goal

pub lay_store-requires-clause-store : goal.lay_store-requires-clause-store
lay_store-requires-clause-store c =
    let is = drop_here c.args.stores.now c.loop-store.store-index c.store-item.result c.loop-store-test.true c.store-item.is in
    let paths = subst (AllByRecursion (IsFarStoreBody c.args.device.now c.args.levels c.args.record_len)) is c.loop-store.invariant.paths in
    subst (IsFarStoreBody c.args.device.now c.args.levels c.args.record_len) (sym c.deref.ensures.value) paths.0

pub loop-store-preserved : goal.loop-store-preserved
loop-store-preserved c =
    let d = c.args.device.now in
    let len = c.args.record_len in
    let all = texts c.args.stores.now in
    let i = c.loop-store.store-index in
    let x = c.store-item.result in
    let is = drop_here c.args.stores.now i x c.loop-store-test.true c.store-item.is in
    let paths = subst (AllByRecursion (IsFarStoreBody d c.args.levels len)) is c.loop-store.invariant.paths in
    let over = subst (λ (b : List ℕ). LaysOver d len c.args.tree c.args.leaf (store_in b ∷ []) c.loop-store.path c.lay_store.new.path) c.deref.ensures.value c.lay_store.ensures in
    record {
      whole = c.lay_store.auto.path ∙ c.loop-store.invariant.whole;
      paths = paths.1;
      laid = subst (λ (messages : List LevelsMessage). LaysOver d len c.args.tree c.args.leaf messages c.args.path.now c.lay_store.new.path)
          (sym (ap (map store_in) (take_next c.args.stores.now i x c.loop-store-test.true c.store-item.is) ∙ map-append store_in (take i all) (x.items ∷ [])))
          (lays_more d len c.args.tree c.args.leaf (map store_in (take i all)) (store_in x.items) c.args.path.now c.loop-store.path c.lay_store.new.path c.loop-store.invariant.laid over);
    }
