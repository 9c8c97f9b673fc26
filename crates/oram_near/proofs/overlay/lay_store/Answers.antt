use Rattle.std.proofs.Common.{◌≡◌, ◌+◌, ◌-◌, ℕ, [], ◌∷◌, arith, sym, ap, ◌∙◌, subst}
use Rattle.oram_geometry.specs.Sizes.{depth_of}
use Rattle.oram_levels.specs.Messages.{LevelsMessage, StoreLevels, message_of}
use Rattle.oram_near.specs.Completion.{LaysOver, PutsLevels}
use Rattle.oram_near.specs.PathRequests.{store_in}
use Rattle.oram_near.proofs.FarStores.{has_numbers}
use Rattle.oram_near.proofs.Laid.{levels_laid, meets_by, none_laid}
use Rattle.oram_near.proofs.overlay.lay_store.Goals as goal

pub returns-then-shared-first : goal.returns-then-shared-first
returns-then-shared-first c =
    let d = c.args.device.now in
    let s = c.in-Ok-Store in
    let is : StoreLevels s.own s.first s.other s.records.now ≡ store_in c.args.store.now =
    ap message_of (sym s.field-0-is) ∙ s.ensures.only (store_in c.args.store.now) (has_numbers d c.args.levels c.args.record_len (store_in c.args.store.now) c.requires.store.0) c.requires.store.1 in
    let shared = c.shared_level-shared in
    subst (λ (message : LevelsMessage). LaysOver d c.args.record_len c.args.tree c.args.leaf (message ∷ []) c.args.path.now c.args.path.now) is
    (none_laid d c.args.record_len c.args.tree c.args.leaf s.own s.first s.other s.records.now c.args.path.now (λ level low here at same.
    let high = (shared.ensures.meets level low).0 (meets_by (depth_of d c.args.tree) c.args.leaf s.other level (sym same)) in
    omega (arith, high, at, c.if-shared-first.true)))

pub returns : goal.returns
returns c =
    let d = c.args.device.now in
    let s = c.in-Ok-Store in
    let is : StoreLevels s.own s.first s.other s.records.now ≡ store_in c.args.store.now =
    ap message_of (sym s.field-0-is) ∙ s.ensures.only (store_in c.args.store.now) (has_numbers d c.args.levels c.args.record_len (store_in c.args.store.now) c.requires.store.0) c.requires.store.1 in
    let shared = c.shared_level-shared in
    let puts : PutsLevels c.args.record_len s.first (shared.result - s.first + 1) s.records.now c.args.path.now c.put_levels.new.path =
    subst (λ (n : ℕ). PutsLevels c.args.record_len s.first (n + 1) s.records.now c.args.path.now c.put_levels.new.path) c.from-count.ensures
    (subst (λ (n : ℕ). PutsLevels c.args.record_len n (c.from-count.result + 1) s.records.now c.args.path.now c.put_levels.new.path) c.from.ensures c.put_levels.ensures) in
    subst (λ (message : LevelsMessage). LaysOver d c.args.record_len c.args.tree c.args.leaf (message ∷ []) c.args.path.now c.put_levels.new.path) is
    (levels_laid d c.args.record_len c.args.tree c.args.leaf s.own s.first s.other shared.result s.records.now c.args.path.now c.put_levels.new.path c.if-own-tree.false
    (omega (arith, c.if-shared-first.false)) shared.ensures.greatest.within shared.ensures.meets puts)
