use Rattle.std.proofs.Common.{Bor, Contains, map}
use Rattle.std.proofs.lemmas.List.Elements.{All-contains}
use Rattle.oram_bucket.specs.Cell.{Cell}
use Rattle.oram_bucket.specs.Bucket.{IsBlockOf}
use Rattle.oram_bucket.specs.SealedBlocks.{Reads}
use Rattle.oram_tree.specs.Edits.{edited_block}
use Rattle.oram_tree.specs.Access.{IsNear, IsInBucket, content_in}
use Rattle.oram_tree.proofs.Gathered.{near_block}
use Rattle.oram_tree.proofs.Rewrites.{lookup_near, changed_block, waiting_blocks}
use Rattle.oram_tree.proofs.Prepared.{near_apart, waiting_all, looked_both}
use Rattle.oram_tree.proofs.path_rewrite.prepare.Goals as goal

pub waiting-requires : goal.waiting-requires
waiting-requires g c =
    let reads = Reads (g.S.Sealer.cipher c.args.sealer.now).opening c.args.device.now c.args.tree in
    let cell = edited_block c.args.request.address c.args.request.new_leaf c.args.edit (content_in c.args.stash.now c.args.request.address c.in_ok-before.before.items) in
    record { apart = near_apart reads c.args.path.now c.args.stash.now c.in_ok-near.near c.change.new.near cell c.in_ok-near.ensures.readable c.in_ok-near.ensures.near c.in_ok-before.ensures.waits }

pub evict_to-requires-clause-blocks : goal.evict_to-requires-clause-blocks
evict_to-requires-clause-blocks g c =
    let opening = (g.S.Sealer.cipher c.args.sealer.now).opening in
    let device = c.args.device.now in
    let p = c.args.path.now in
    let stash = c.args.stash.now in
    let reads = Reads opening device c.args.tree in
    let before = c.in_ok-before.before.items in
    let cell = edited_block c.args.request.address c.args.request.new_leaf c.args.edit (content_in stash c.args.request.address before) in
    let looked = looked_both reads p stash device.block_bytes c.args.request.address c.in_ok-before.found before (lookup_near (IsInBucket reads p) c.in_ok-near.near device.block_bytes c.args.request.address c.in_ok-before.found before c.in_ok-near.ensures.near c.in_ok-before.ensures.lookup) in
    let blocks = near_block opening device c.args.tree p stash c.requires.blocks in
    let changed = changed_block (IsNear reads p stash) device c.args.tree c.args.request.address c.args.request.new_leaf c.args.edit _ (content_in stash c.args.request.address before) c.requires.address c.requires.new_leaf c.requires.edit looked blocks in
    waiting_blocks (IsNear reads p stash) device c.args.tree cell (map (λ (b : Bor Cell). b.now) c.in_ok-waiting.waiting.items) changed blocks
    (waiting_all reads p stash c.in_ok-near.near c.change.new.near _ cell c.in_ok-near.ensures.near c.in_ok-before.ensures.waits c.in_ok-waiting.ensures.waits)

pub returns-clause-lookup : goal.returns-clause-lookup
returns-clause-lookup g c =
    let reads = Reads (g.S.Sealer.cipher c.args.sealer.now).opening c.args.device.now c.args.tree in
    lookup_near (IsInBucket reads c.args.path.now) c.in_ok-near.near c.args.device.now.block_bytes c.args.request.address c.in_ok-before.found c.in_ok-before.before.items c.in_ok-near.ensures.near c.in_ok-before.ensures.lookup

pub returns-clause-apart : goal.returns-clause-apart
returns-clause-apart g c =
    let reads = Reads (g.S.Sealer.cipher c.args.sealer.now).opening c.args.device.now c.args.tree in
    let cell = edited_block c.args.request.address c.args.request.new_leaf c.args.edit (content_in c.args.stash.now c.args.request.address c.in_ok-before.before.items) in
    near_apart reads c.args.path.now c.args.stash.now c.in_ok-near.near c.change.new.near cell c.in_ok-near.ensures.readable c.in_ok-near.ensures.near c.in_ok-before.ensures.waits

pub returns-clause-blocks : goal.returns-clause-blocks
returns-clause-blocks g c =
    let opening = (g.S.Sealer.cipher c.args.sealer.now).opening in
    let device = c.args.device.now in
    let p = c.args.path.now in
    let stash = c.args.stash.now in
    let reads = Reads opening device c.args.tree in
    let before = c.in_ok-before.before.items in
    let cell = edited_block c.args.request.address c.args.request.new_leaf c.args.edit (content_in stash c.args.request.address before) in
    let looked = looked_both reads p stash device.block_bytes c.args.request.address c.in_ok-before.found before (lookup_near (IsInBucket reads p) c.in_ok-near.near device.block_bytes c.args.request.address c.in_ok-before.found before c.in_ok-near.ensures.near c.in_ok-before.ensures.lookup) in
    let blocks = near_block opening device c.args.tree p stash c.requires.blocks in
    let changed = changed_block (IsNear reads p stash) device c.args.tree c.args.request.address c.args.request.new_leaf c.args.edit _ (content_in stash c.args.request.address before) c.requires.address c.requires.new_leaf c.requires.edit looked blocks in
    waiting_blocks (Contains c.in_ok-near.near) device c.args.tree cell c.change.new.near changed (λ d there. All-contains (IsBlockOf device c.args.tree) c.in_ok-near.near d c.in_ok-near.ensures.blocks there) c.in_ok-before.ensures.waits

pub returns-clause-prepared : goal.returns-clause-prepared
returns-clause-prepared g c =
    let reads = Reads (g.S.Sealer.cipher c.args.sealer.now).opening c.args.device.now c.args.tree in
    let cell = edited_block c.args.request.address c.args.request.new_leaf c.args.edit (content_in c.args.stash.now c.args.request.address c.in_ok-before.before.items) in
    let e = c.in_ok-stays.ensures.evicted in
    record {
      waiting = map (λ (b : Bor Cell). b.now) c.in_ok-waiting.waiting.items;
      lists = e.0;
      rest = e.1;
      rising = c.in_ok-waiting.ensures.rising;
      waits = waiting_all reads c.args.path.now c.args.stash.now c.in_ok-near.near c.change.new.near _ cell c.in_ok-near.ensures.near c.in_ok-before.ensures.waits c.in_ok-waiting.ensures.waits;
      from_both = c.in_ok-waiting.ensures.waits;
      evicted = e.2;
      stays_are = e.3;
      appended = e.4;
    }
