use Rattle.std.proofs.Common.{◌≡◌, ◌+◌, ◌<◌, ℕ, List, Bor, length, map, sym, ap, subst, ◌∙◌, arith}
use Rattle.std.proofs.lemmas.List.{length-append}
use Rattle.oram_geometry.specs.Sizes.{record_len_of}
use Rattle.oram_bucket.specs.Cell.{Cell}
use Rattle.oram_bucket.specs.Bucket.{spelling}
use Rattle.oram_stash.specs.Eviction.{listed}
use Rattle.oram_tree.specs.Access.{Rewriting, IsSealedTo, reads_in, sealed_at}
use Rattle.oram_tree.proofs.Sealed.{lent, lent_at, sealed_none, sealed_more}
use Rattle.oram_tree.proofs.path_rewrite.seal_path.Goals as goal

pub loop-level-init : goal.loop-level-init
loop-level-init g c = sealed_none _ _ c.args.out.now.items

pub loop-level-preserved : goal.loop-level-preserved
unfolding record_len_of
loop-level-preserved g c =
    let w : Rewriting = record { device = c.args.device.now; tree = c.args.tree; cipher = g.S.Sealer.cipher c.args.sealer.now; path = c.args.path.now; nonce = c.args.nonce } in
    let device = c.args.device.now in
    let lists = lent c.args.lists.now in
    let level = c.loop-level.level in
    let now : Bor Cell → Cell = λ (b : Bor Cell). b.now in
    let short : c.from.result < length c.args.lists.now = omega (arith, c.from.ensures, c.loop-level-test.true, c.depth-level-end.ensures.count, c.requires.depth, c.requires.levels) in
    let here : listed lists level ≡ map now c.deref.result.now =
    ap (listed lists) (sym c.from.ensures) ∙ lent_at c.args.lists.now c.from.result c.index-lists-from.result short c.index-lists-from.is ∙ ap (map now) (sym c.deref.ensures.value) in
    let nonce_is : c.args.nonce + c.from-in-loop-level.result ≡ c.args.nonce + level = ap (λ n. c.args.nonce + n) c.from-in-loop-level.ensures in
    let part : List ℕ = w.cipher.sealing (c.args.nonce + c.from-in-loop-level.result) (spelling device (map now c.deref.result.now)) in
    let S : List Cell → Type 0 = λ cells. part ≡ sealed_at w level cells in
    let R : List Cell → Type 0 = λ cells. reads_in w part cells in
    let longer = ap length c.in_ok-seal_bucket_to.ensures.sealed ∙ length-append c.loop-level.out.items part in
    let old_len = c.loop-level.out.ok.0 in
    let new_len = c.seal_bucket_to.new.out.ok.0 in
    sealed_more w lists level c.args.out.now.items c.loop-level.out.items c.seal_bucket_to.new.out.items c.append_digests.new.out.items part
    c.loop-level.invariant (omega (arith, longer, old_len, new_len, c.in_ok-seal_bucket_to.ensures.len, c.requires.len)) c.in_ok-seal_bucket_to.ensures.sealed c.in_ok-append_digests.ensures.ok
    (subst S (sym here) (ap (λ n. w.cipher.sealing n (spelling device (map now c.deref.result.now))) nonce_is)) (subst R (sym here) c.in_ok-seal_bucket_to.ensures.opens)

pub returns-clause-sealed : goal.returns-clause-sealed
returns-clause-sealed g c =
    let P : ℕ → Type 0 = λ n. IsSealedTo (record { device = c.args.device.now; tree = c.args.tree; cipher = g.S.Sealer.cipher c.args.sealer.now; path = c.args.path.now; nonce = c.args.nonce }) (lent c.args.lists.now) n c.args.out.now.items c.loop-level.out.items in
    let all : c.loop-level.level ≡ length c.args.lists.now = omega (arith, c.loop-level-test.false, c.depth-level-end.ensures.count, c.requires.depth, c.requires.levels) in
    subst P all c.loop-level.invariant
