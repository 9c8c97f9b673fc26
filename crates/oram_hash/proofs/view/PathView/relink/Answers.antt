use Rattle.std.proofs.Common.{◌≡◌, ◌≤◌, ◌<◌, ◌-◌, ◌+◌, ◌*◌, ◌^◌, ◌∙◌, ap, subst, arith, ℕ, length}
use Rattle.std.proofs.lemmas.List.{take_rest}
use Rattle.sha2.specs.Sha256.{sha256}
use Rattle.oram_hash.specs.Path.{Path, HasLength, with_bytes}
use Rattle.oram_hash.proofs.Joins.{length-digests_at, joined_whole}
use Rattle.oram_hash.proofs.Paths.{record_at-slice}
use Rattle.oram_hash.proofs.Rebuilds.{place_within, length-record_at, rebuilt_stands}
use Rattle.oram_hash.proofs.Links.{IsLinkedFrom, linked_leaf, linked_more, linked_whole}
use Rattle.oram_hash.proofs.view.PathView.relink.Goals as goal

pub slice_bounds-node_digest-count : goal.slice_bounds-node_digest-count
slice_bounds-node_digest-count c =
    let whole : HasLength c.args.self.now = let P : Path → Type 0 = HasLength in subst P c.self.view_is c.self.invariant.4 in
    let depth : c.self.inside.depth ≡ c.args.self.now.depth = ap (λ (p : Path). p.depth) c.self.view_is in
    let width : c.self.inside.record_len ≡ c.args.self.now.record_len = ap (λ (p : Path). p.record_len) c.self.view_is in
    let room : 64 ≤ c.args.self.now.record_len = omega (arith, c.self.invariant.2) in
    let records = joined_whole c.args.self.now c.requires.0 c.args.records.now (length-digests_at c.args.self.now whole room) c.requires.1 in
    let start : c.self.inside.depth * c.self.inside.record_len ≡ c.args.self.now.depth * c.args.self.now.record_len = cc in
    omega (arith, place_within c.args.self.now.depth c.args.self.now.depth c.args.self.now.record_len (omega arith))

pub slice_bounds-node_digest-start : goal.slice_bounds-node_digest-start
slice_bounds-node_digest-start c = slice_bounds-node_digest-count c

pub loop-level-init : goal.loop-level-init
loop-level-init c = λ parts joined.
    let whole : HasLength c.args.self.now = let P : Path → Type 0 = HasLength in subst P c.self.view_is c.self.invariant.4 in
    let depth : c.self.inside.depth ≡ c.args.self.now.depth = ap (λ (p : Path). p.depth) c.self.view_is in
    let width : c.self.inside.record_len ≡ c.args.self.now.record_len = ap (λ (p : Path). p.record_len) c.self.view_is in
    let room : 64 ≤ c.args.self.now.record_len = omega (arith, c.self.invariant.2) in
    let start : c.self.inside.depth * c.self.inside.record_len ≡ c.args.self.now.depth * c.args.self.now.record_len = cc in
    linked_leaf c.args.self.now parts c.args.records.now c.node_digest-digest.result c.self.inside.depth (c.self.inside.depth * c.self.inside.record_len) depth
    (length-digests_at c.args.self.now whole room) joined start
    (c.node_digest-digest.ensures ∙ ap sha256 (take_rest c.args.records.now (c.self.inside.depth * c.self.inside.record_len)))

pub loop-level-preserved : goal.loop-level-preserved
loop-level-preserved c = λ parts joined.
    let whole : HasLength c.args.self.now = let P : Path → Type 0 = HasLength in subst P c.self.view_is c.self.invariant.4 in
    let width : c.self.inside.record_len ≡ c.args.self.now.record_len = ap (λ (p : Path). p.record_len) c.self.view_is in
    let room : 64 ≤ c.args.self.now.record_len = omega (arith, c.self.invariant.2) in
    let level = c.loop-level.level - 1 in
    let linked = c.loop-level.invariant parts joined in
    let start : (c.loop-level.level - 1) * c.self.inside.record_len ≡ (c.loop-level.level - 1) * c.args.self.now.record_len = ap (λ (n : ℕ). (c.loop-level.level - 1) * n) width in
    let span : (c.loop-level.level - 1) * c.self.inside.record_len + c.self.inside.record_len - (c.loop-level.level - 1) * c.self.inside.record_len ≡ c.args.self.now.record_len = omega arith in
    let here = record_at-slice (with_bytes c.args.self.now c.loop-level.records) (c.loop-level.level - 1) ((c.loop-level.level - 1) * c.self.inside.record_len) c.self.inside.record_len start width in
    let len : length c.link-digest.new.bytes ≡ c.args.self.now.record_len =
    c.link-digest.auto.bytes ∙ ap length here ∙ length-record_at (with_bytes c.args.self.now c.loop-level.records) (c.loop-level.level - 1) linked.built.whole (omega (arith, linked.within)) in
    linked_more c.args.self.now parts c.loop-level.records _ c.link-digest.new.bytes c.loop-level.digest c.link-digest.result c.loop-level.level (c.loop-level.level - 1)
    ((c.loop-level.level - 1) * c.self.inside.record_len) ((c.loop-level.level - 1) * c.self.inside.record_len + c.self.inside.record_len - (c.loop-level.level - 1) * c.self.inside.record_len)
    (omega arith) linked len start span here c.link-digest.ensures.linked c.link-digest.ensures.digest

pub returns-clause-rebuilt : goal.returns-clause-rebuilt
returns-clause-rebuilt c = λ parts joined.
    let whole : HasLength c.args.self.now = let P : Path → Type 0 = HasLength in subst P c.self.view_is c.self.invariant.4 in
    let width : c.self.inside.record_len ≡ c.args.self.now.record_len = ap (λ (p : Path). p.record_len) c.self.view_is in
    let room : 64 ≤ c.args.self.now.record_len = omega (arith, c.self.invariant.2) in
    let end : c.loop-level.level ≡ 0 = omega arith in
    let P : ℕ → Type 0 = IsLinkedFrom c.args.self.now parts c.loop-level.records c.loop-level.digest in
    linked_whole c.args.self.now parts c.loop-level.records c.loop-level.digest whole room (subst P end (c.loop-level.invariant parts joined))

pub returns-clause-stands : goal.returns-clause-stands
returns-clause-stands c =
    let fits : c.args.self.now.leaf < 2 ^ c.args.self.now.depth = let P : Path → Type 0 = λ p. p.leaf < 2 ^ p.depth in subst P c.self.view_is c.self.invariant.0 in
    rebuilt_stands c.args.self.now c.requires.0 c.loop-level.records c.loop-level.digest fits (returns-clause-rebuilt c c.requires.0 c.requires.1)
