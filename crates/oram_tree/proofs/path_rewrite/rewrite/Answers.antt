use Rattle.std.proofs.Common.{◌≡◌, ℕ, List, All, refl, sym, subst, arith}
use Rattle.oram_hash.specs.Path.{with_bytes}
use Rattle.oram_bucket.specs.Cell.{Cell}
use Rattle.oram_bucket.specs.Bucket.{IsBlockOf}
use Rattle.oram_bucket.specs.SealedBlocks.{Reads}
use Rattle.oram_tree.specs.Edits.{edited_block}
use Rattle.oram_tree.specs.Access.{Rewriting, IsNear, IsRewritten}
use Rattle.oram_tree.proofs.Gathered.{near_block}
use Rattle.oram_tree.proofs.Rewrites.{before_len, changed_block, waiting_blocks, rest_blocks, rewritten}
use Rattle.oram_tree.proofs.Prepared.{looked_both, same_lookup, remaining_is_rest, rest_waits, addresses_rise}
use Rattle.oram_tree.proofs.path_rewrite.rewrite.Goals as goal
use Rattle.oram_tree.proofs.path_rewrite.rewrite.Given as given

pub commit-lookup-requires-clause-stays : goal.commit-lookup-requires-clause-stays
commit-lookup-requires-clause-stays g c = let p = c.in_ok-prepared.ensures.prepared in addresses_rise p.rest _ p.evicted.rising p.stays_are

pub returns-clause-lookup : goal.returns-clause-lookup
returns-clause-lookup g c =
    let reads = Reads (g.S.Sealer.cipher c.args.sealer.now).opening c.args.device.now c.args.tree in
    let on_path = c.in_ok-prepared.prepared.on_path in
    same_lookup (IsNear reads c.args.path.now c.args.stash.now) c.args.device.now.block_bytes c.args.request.address _ c.commit-lookup.result.found _ c.commit-lookup.result.before.items c.commit-lookup.ensures.found c.commit-lookup.ensures.before
    (looked_both reads c.args.path.now c.args.stash.now c.args.device.now.block_bytes c.args.request.address on_path.found on_path.before.items c.in_ok-prepared.ensures.lookup)

pub returns-clause-data_len : goal.returns-clause-data_len
returns-clause-data_len g c =
    let opening = (g.S.Sealer.cipher c.args.sealer.now).opening in
    before_len (IsNear (Reads opening c.args.device.now c.args.tree) c.args.path.now c.args.stash.now) c.args.device.now.block_bytes c.args.request.address c.commit-lookup.result.found c.commit-lookup.result.before.items (returns-clause-lookup g c)
    (λ d near. (near_block opening c.args.device.now c.args.tree c.args.path.now c.args.stash.now c.requires.blocks d near).whole)

-- the tree's stash becomes the rest
rest_is : (g : given.Over) (c : goal.After-commit-lookup g) → c.commit-lookup.new.stash ≡ c.in_ok-prepared.ensures.prepared.rest
rest_is g c =
    let p = c.in_ok-prepared.ensures.prepared in
    remaining_is_rest c.args.stash.now c.in_ok-prepared.prepared.near p.waiting p.rest c.commit-lookup.new.stash c.in_ok-prepared.prepared.stays.items c.args.request.address p.rising p.evicted.rising c.commit-lookup.ensures.rising p.stays_are
    (rest_waits p.waiting p.lists p.rest _ _ _ p.evicted) p.from_both c.commit-lookup.ensures.kept

pub returns-clause-written : goal.returns-clause-written
returns-clause-written g c =
    let w : Rewriting = record { device = c.args.device.now; tree = c.args.tree; cipher = g.S.Sealer.cipher c.args.sealer.now; path = c.args.path.now; nonce = c.args.request.nonce } in
    let p = c.in_ok-prepared.ensures.prepared in
    let a = p.appended in
    let path = c.args.path.now in
    let cell : List ℕ → Cell = λ before. edited_block c.args.request.address c.args.request.new_leaf c.args.edit before in
    let q = with_bytes path a.records in
    let P : List Cell → Type 0 = λ rest. IsRewritten w c.args.stash.now q (cell c.commit-lookup.result.before.items) rest in
    let Q : List ℕ → Type 0 = λ before. IsRewritten w c.args.stash.now q (cell before) p.rest in
    let R = rewritten w path.depth path.leaf q c.args.stash.now p.waiting _ p.lists p.rest a.parts refl refl p.rising p.waits p.evicted a.rebuilt.sealed
    (λ level h. a.sealed level (omega (arith, p.evicted.placement.levels))) (λ level h. a.read_back level (omega (arith, p.evicted.placement.levels))) in
    (a.records, a.gained, a.rebuilt.whole, subst P (sym (rest_is g c)) (subst Q (sym c.commit-lookup.ensures.before) R), a.stands)

pub returns-clause-blocks : goal.returns-clause-blocks
returns-clause-blocks g c =
    let opening = (g.S.Sealer.cipher c.args.sealer.now).opening in
    let p = c.in_ok-prepared.ensures.prepared in
    let reads = Reads opening c.args.device.now c.args.tree in
    let near = IsNear reads c.args.path.now c.args.stash.now in
    let on_path = c.in_ok-prepared.prepared.on_path in
    let blocks = near_block opening c.args.device.now c.args.tree c.args.path.now c.args.stash.now c.requires.blocks in
    let looked = looked_both reads c.args.path.now c.args.stash.now c.args.device.now.block_bytes c.args.request.address on_path.found on_path.before.items c.in_ok-prepared.ensures.lookup in
    let changed = changed_block near c.args.device.now c.args.tree c.args.request.address c.args.request.new_leaf c.args.edit _ _ c.requires.address c.requires.new_leaf c.requires.edit looked blocks in
    let all = waiting_blocks near c.args.device.now c.args.tree _ p.waiting changed blocks p.waits in
    let P : List Cell → Type 0 = All (IsBlockOf c.args.device.now c.args.tree) in
    subst P (sym (rest_is g c)) (rest_blocks c.args.device.now c.args.tree c.args.path.now.depth c.args.path.now.leaf p.waiting p.lists p.rest p.evicted all)
