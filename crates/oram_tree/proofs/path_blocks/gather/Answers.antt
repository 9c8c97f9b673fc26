use Rattle.std.proofs.Common.{◌≡◌, ◌++◌, ◌+◌, ◌≤◌, ℕ, List, Err, refl, sym, ap, subst, ◌∙◌, arith}
use Rattle.std.proofs.lemmas.Result.{err_from_is_err_and}
use Rattle.oram_bucket.specs.Cell.{Cell, IsRising}
use Rattle.oram_bucket.specs.SealedBlocks.{Reads}
use Rattle.oram_tree.proofs.Content.{reads_uniquely}
use Rattle.oram_tree.proofs.Gathered.{HasFetched, IsReadableTo, one_fault, levels_over, fetched_more, fetched_whole, fetched_blocks, readable_none, readable_more, readable_whole, not_readable, not_once, unread}
use Rattle.oram_tree.proofs.path_blocks.gather.Goals as goal

pub loop-level-init : goal.loop-level-init
loop-level-init g c =
    let reads = Reads (g.S.Sealer.cipher c.args.sealer.now).opening c.args.device.now c.args.tree in
    let R : List Cell → Type 0 = IsRising in
    let F : List Cell → Type 0 = HasFetched reads c.args.path.now 0 in
    record {
      rising = subst R (sym c.new-near.ensures) (λ i j d lt within. absurd (omega arith));
      readable = readable_none reads c.args.path.now c.args.stash.now;
      near = subst F (sym c.new-near.ensures) (λ d. (λ none. absurd (let h = none.1 in omega arith), λ (k, kh, there). absurd (omega arith)));
    }

pub returns-in_err-blocks-clause-unreadable : goal.returns-in_err-blocks-clause-unreadable
returns-in_err-blocks-clause-unreadable g c e readable =
    let reads = Reads (g.S.Sealer.cipher c.args.sealer.now).opening c.args.device.now c.args.tree in
    let p = err_from_is_err_and c.from_residual.result c.from_residual.ensures.1 in
    let none = unread (reads c.sealed.result.now) (λ v cells. v.items ≡ cells) c.open_bucket.result c.in_err-blocks.field-0.0 c.in_err-blocks.was (cc (e, p.1, p.2)) c.open_bucket.ensures.only in
    let within : c.loop-level.level ≤ c.args.path.now.depth = omega (arith, c.loop-level-test.true, c.depth-level-end.ensures.count, c.requires.depth) in
    not_readable reads c.args.path.now c.args.stash.now c.loop-level.level within (λ cells read. none cells
    (let P : List ℕ → Type 0 = λ s. reads s cells in subst P (sym c.sealed.ensures.exact) read)) readable

pub returns-in_err-absorb_all-clause-unreadable : goal.returns-in_err-absorb_all-clause-unreadable
returns-in_err-absorb_all-clause-unreadable g c e readable =
    let reads = Reads (g.S.Sealer.cipher c.args.sealer.now).opening c.args.device.now c.args.tree in
    let p = err_from_is_err_and c.from_residual-in_err-absorb_all.result c.from_residual-in_err-absorb_all.ensures.1 in
    let two = c.absorb_all.ensures.twice (c.in_err-absorb_all.was ∙ ap Err (sym p.2 ∙ one_fault c.from_residual-in_err-absorb_all.result _ _ p.1 e)) in
    let within : c.loop-level.level ≤ c.args.path.now.depth = omega (arith, c.loop-level-test.true, c.depth-level-end.ensures.count, c.requires.depth) in
    let P : List ℕ → Type 0 = λ s. reads s c.in_ok-blocks.blocks.items in
    not_once reads c.args.path.now c.args.stash.now (c.args.stash.now ++ c.loop-level.near) c.in_ok-blocks.blocks.items c.loop-level.level two.0 two.1 within
    (levels_over reads c.args.path.now c.args.stash.now c.loop-level.near c.loop-level.level c.loop-level.invariant.near)
    (subst P c.sealed.ensures.exact c.in_ok-blocks.ensures.ok) two.2 two.3 two.4 readable

pub loop-level-preserved : goal.loop-level-preserved
loop-level-preserved g c =
    let reads = Reads (g.S.Sealer.cipher c.args.sealer.now).opening c.args.device.now c.args.tree in
    let P : List ℕ → Type 0 = λ s. reads s c.in_ok-blocks.blocks.items in
    let unique_here = reads_uniquely (g.S.Sealer.cipher c.args.sealer.now).opening c.args.device.now c.args.tree c.trees.ensures.ranges in
    let read = subst P c.sealed.ensures.exact c.in_ok-blocks.ensures.ok in
    record {
      rising = c.absorb_all.ensures.rising;
      readable = readable_more reads c.args.path.now c.args.stash.now (c.args.stash.now ++ c.loop-level.near) c.in_ok-blocks.blocks.items c.loop-level.level unique_here c.loop-level.invariant.readable
          (levels_over reads c.args.path.now c.args.stash.now c.loop-level.near c.loop-level.level c.loop-level.invariant.near) read c.in_ok-absorb_all.ensures.apart;
      near = fetched_more reads c.args.path.now c.loop-level.near c.absorb_all.new.near c.in_ok-blocks.blocks.items c.loop-level.level unique_here c.loop-level.invariant.near read c.in_ok-absorb_all.ensures.all;
    }

pub returns-clause-near : goal.returns-clause-near
returns-clause-near g c =
    let reads = Reads (g.S.Sealer.cipher c.args.sealer.now).opening c.args.device.now c.args.tree in
    let F : ℕ → Type 0 = λ n. HasFetched reads c.args.path.now n c.loop-level.near in
    let last : c.loop-level.level ≡ c.args.path.now.depth + 1 = omega (arith, c.loop-level-test.false, c.depth-level-end.ensures.count, c.requires.depth) in
    fetched_whole reads c.args.path.now c.loop-level.near c.args.path.now.depth refl (subst F last c.loop-level.invariant.near)

pub returns-clause-blocks : goal.returns-clause-blocks
returns-clause-blocks g c = fetched_blocks (g.S.Sealer.cipher c.args.sealer.now).opening c.args.device.now c.args.tree c.args.path.now c.loop-level.near (returns-clause-near g c)

pub returns-clause-readable : goal.returns-clause-readable
returns-clause-readable g c =
    let reads = Reads (g.S.Sealer.cipher c.args.sealer.now).opening c.args.device.now c.args.tree in
    let R : ℕ → Type 0 = IsReadableTo reads c.args.path.now c.args.stash.now in
    let last : c.loop-level.level ≡ c.args.path.now.depth + 1 = omega (arith, c.loop-level-test.false, c.depth-level-end.ensures.count, c.requires.depth) in
    readable_whole reads c.args.path.now c.args.stash.now c.args.path.now.depth refl (subst R last c.loop-level.invariant.readable)
