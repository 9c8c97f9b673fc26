use Rattle.std.proofs.Common.{List, ℕ, take, sym, ◌∙◌, subst}
use Rattle.oram_rounds.specs.Batches.{texts}
use Rattle.oram_rounds.specs.Overlay.{LaysAllOver, LaysOver}
use Rattle.oram_rounds.specs.PathMessages.{ArePathStores, IsPathStore}
use Rattle.oram_rounds.proofs.Texts.{drop_here, take_next}
use Rattle.oram_rounds.proofs.Folds.{lays_more}
use Rattle.oram_rounds.proofs.overlay.lay_stores.Goals as goal

pub lay_store-requires-clause-store : goal.lay_store-requires-clause-store
lay_store-requires-clause-store c =
    let is = drop_here c.args.stores.now c.loop-store.store-index c.store-item.result c.loop-store-test.true c.store-item.is in
    let paths = subst (ArePathStores c.args.device.now c.args.record_len) is c.loop-store.invariant.paths in
    subst (IsPathStore c.args.device.now c.args.record_len) (sym c.deref.ensures.value) paths.0

pub loop-store-preserved : goal.loop-store-preserved
loop-store-preserved c =
    let d = c.args.device.now in
    let len = c.args.record_len in
    let all = texts c.args.stores.now in
    let i = c.loop-store.store-index in
    let x = c.store-item.result in
    let is = drop_here c.args.stores.now i x c.loop-store-test.true c.store-item.is in
    let paths = subst (ArePathStores d len) is c.loop-store.invariant.paths in
    let over = subst (λ (b : List ℕ). LaysOver d len c.args.tree c.args.leaf b c.loop-store.path c.lay_store.new.path) c.deref.ensures.value c.lay_store.ensures in
    record {
      whole = c.lay_store.auto.path ∙ c.loop-store.invariant.whole;
      paths = paths.1;
      laid = subst (λ (bodies : List (List ℕ)). LaysAllOver d len c.args.tree c.args.leaf bodies c.args.path.now c.lay_store.new.path)
          (sym (take_next c.args.stores.now i x c.loop-store-test.true c.store-item.is))
          (lays_more d len c.args.tree c.args.leaf (take i all) x.items c.args.path.now c.loop-store.path c.lay_store.new.path c.loop-store.invariant.laid over);
    }
