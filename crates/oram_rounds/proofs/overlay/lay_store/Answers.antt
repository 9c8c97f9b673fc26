use Rattle.std.proofs.Common.{◌≡◌, ◌++◌, List, ℕ, ◌+◌, ◌*◌, ◌≤◌, ◌<◌, ◌^◌, length, take, drop, refl, sym, ap, ◌∙◌, subst, inl, inr}
use Rattle.std.specs.Prelude.{◌↔◌}
use Rattle.oram_geometry.specs.Path.{MeetsAt}
use Rattle.oram_geometry.specs.Sizes.{depth_of}
use Rattle.oram_wire.specs.HostBodies.{request_of}
use Rattle.oram_wire.specs.declared.host_messages.HostRequest.TheVariants.{Store}
use Rattle.oram_link_laws.specs.Overlay.{IsLaidOver}
use Rattle.oram_rounds.specs.Overlay.{tree_path}
use Rattle.oram_rounds.proofs.KeptPaths.{leaf_fits}
use Rattle.oram_rounds.proofs.LaidRecords.{laid_over, store_parts}
use Rattle.oram_rounds.proofs.overlay.lay_store.Goals as goal

pub returns-then-own-tree : goal.returns-then-own-tree
returns-then-own-tree c =
    let s = c.requires.store in
    let d = c.args.device.now in
    let len = c.args.record_len in
    let path = c.args.path.now in
    let small : s.leaf < 2 ^ 32 = leaf_fits d s.tree s.leaf s.leaf_in in
    let is = store_parts _ _ _ _ _ _ (ap request_of (sym c.in-Ok-Store.field-0-is) ∙ c.in-Ok-Store.ensures.only (Store s.tree s.leaf s.records) small s.named) in
    let here : s.tree ≡ c.args.tree = sym is.0 ∙ c.if-own-tree.true in
    let n : ℕ = (c.from-shared.result + 1) * len in
    let long : length s.records ≡ (depth_of d c.args.tree + 1) * len = s.whole ∙ ap (λ t. (depth_of d t + 1) * len) here in
    let meets : (l : ℕ) → l ≤ depth_of d c.args.tree → (MeetsAt (depth_of d c.args.tree) c.args.leaf s.leaf l) ↔ (l ≤ c.shared_level.result) =
    subst (λ (y : ℕ). (l : ℕ) → l ≤ depth_of d c.args.tree → (MeetsAt (depth_of d c.args.tree) c.args.leaf y l) ↔ (l ≤ c.shared_level.result)) is.1 c.shared_level.ensures.meets in
    let laid = laid_over c.args.tree (depth_of d c.args.tree) len c.args.leaf s.leaf c.shared_level.result s.records path long c.requires.whole c.shared_level.ensures.greatest.within meets in
    let same : take ((c.shared_level.result + 1) * len) s.records ++ drop ((c.shared_level.result + 1) * len) path ≡ c.copy_from_slice.new.self ++ drop n path =
    ap (λ (k : ℕ). take ((k + 1) * len) s.records ++ drop ((k + 1) * len) path) (sym c.from-shared.ensures)
    ∙ ap (λ (r : List ℕ). take n r ++ drop n path) (sym is.2)
    ∙ ap (λ (x : List ℕ). x ++ drop n path) (sym c.copy_from_slice.ensures.after) in
    let P : List ℕ → Type 0 = λ new. IsLaidOver (tree_path d len c.args.tree c.args.leaf) s.leaf s.records path new in
    (s, inl (here, subst P same laid))

pub returns-else-own-tree : goal.returns-else-own-tree
returns-else-own-tree c =
    let s = c.requires.store in
    let small : s.leaf < 2 ^ 32 = leaf_fits c.args.device.now s.tree s.leaf s.leaf_in in
    let is = store_parts _ _ _ _ _ _ (ap request_of (sym c.in-Ok-Store.field-0-is) ∙ c.in-Ok-Store.ensures.only (Store s.tree s.leaf s.records) small s.named) in
    (s, inr ((λ e. c.if-own-tree.false (is.0 ∙ e)), refl))
