use Rattle.std.proofs.Common.{◌≡◌, ◌+◌, ◌++◌, ◌*◌, ◌≤◌, ◌∙◌, [], List, ℕ, ap, sym, arith, append-nil, length, drop, Some}
use Rattle.std.proofs.lemmas.List.{length-append}
use Rattle.std.proofs.Math.Seq.{drop-length}
use Rattle.std.proofs.Math.Nat.{mul-le-mul_right}
use Rattle.oram_host.specs.Host.{record_of}
use Rattle.oram_host.specs.Path.{node_on, record_at}
use Rattle.oram_host.specs.Trees.{kept_by}
use Rattle.oram_host.proofs.Paths.{length_more, more_behind, path_more}
use Rattle.oram_host.proofs.trees.Tree.path.Goals as goal

pub loop-level-init : goal.loop-level-init
loop-level-init c =
    let front = c.args.front.now in
    let begun : c.extend_from_slice.new.self.items ≡ front = c.in_ok-extend_from_slice.ensures.items ∙ ap (λ (xs : List ℕ). xs ++ front) c.in_ok-bytes.ensures.items in
    let none : drop (length front) c.extend_from_slice.new.self.items ≡ [] = ap (drop (length front)) begun ∙ drop-length front in
    record {
      behind = begun ∙ sym (append-nil front) ∙ ap (λ (xs : List ℕ). front ++ xs) (sym none);
      whole = ap length none ∙ omega arith;
      each = λ level h. absurd (omega arith);
    }

pub loop-level-preserved : goal.loop-level-preserved
loop-level-preserved c =
    let tree = c.args.self.now in
    let front = c.args.front.now in
    let bytes = c.loop-level.bytes.items in
    let new = c.extend_from_slice-in-loop-level.new.self.items in
    let more = c.in-Some.record.now in
    let inv = c.loop-level.invariant in
    let record_bytes = c.as_slice.ensures in
    let grown : c.extend_from_slice-in-loop-level.new.self.items ≡ bytes ++ more = c.in_ok-extend_from_slice-2.ensures.items ∙ ap (λ (xs : List ℕ). bytes ++ xs) c.as_slice.ensures in
    let found : record_of (kept_by tree) (node_on tree.depth c.args.leaf c.loop-level.level) ≡ Some more = ap (record_of (kept_by tree)) (sym c.node_at.ensures.place) ∙ c.in-Some.ensures.there in
    let long : length more ≡ tree.record_len = c.in-Some.ensures.whole in
    let behind = more_behind front bytes more c.extend_from_slice-in-loop-level.new.self.items inv.behind grown in
    let rest = drop (length front) bytes in
    record {
      behind = behind.1;
      whole = ap length behind.0 ∙ length-append rest more ∙ length_more tree.record_len c.loop-level.level rest more inv.whole long;
      each = λ level h. path_more (kept_by tree) tree.depth c.args.leaf tree.record_len c.loop-level.level rest more inv.whole long found inv.each level h ∙ ap (λ (xs : List ℕ). Some (record_at tree.record_len xs level)) (sym behind.0);
    }

pub returns : goal.returns
returns c =
    let inv = c.loop-level.invariant in
    let end : c.loop-level.level ≡ c.args.self.now.depth + 1 = omega arith in
    let whole : length (drop (length c.args.front.now) c.loop-level.bytes.items) ≡ (c.args.self.now.depth + 1) * c.args.self.now.record_len = inv.whole ∙ ap (λ (n : ℕ). n * c.args.self.now.record_len) end in
    let least : 1 * c.args.self.now.record_len ≤ (c.args.self.now.depth + 1) * c.args.self.now.record_len = mul-le-mul_right c.args.self.now.record_len (omega arith) in
    (drop (length c.args.front.now) c.loop-level.bytes.items, inv.behind, (record { whole = whole; each = λ level h. inv.each level (omega arith) }, record { some = omega (arith, whole, least, c.requires.tree.shape.long); few = omega (arith, whole, c.requires.tree.shape.fits) }))
