use Rattle.std.proofs.Common.{◌≡◌, ◌∷◌, ◌++◌, ◌∙◌, [], ap, map, refl, sym, subst, length, ℕ, List, rules, arith}
use Rattle.std.specs.Prelude.{codes}
use Rattle.std.specs.Int.{w32, to_be_bytes}
use Rattle.std.specs.List.{flat_map}
use Rattle.std.specs.Io.KnownBytes.{Appends}
use Rattle.std.specs.Map.Iter.{deref_pair}
use Rattle.std.proofs.KnownBytes.{Appends-trans}
use Rattle.std.proofs.lemmas.List.{append-nil, length-map}
use Rattle.std.proofs.lemmas.Map.Iter.{rest_all, rest_more}
use Rattle.oram_host.specs.Host.{Kept}
use Rattle.oram_host.specs.Image.{entries_text, image, tree_text}
use Rattle.oram_host.specs.Transfers.{Begins}
use Rattle.oram_host.specs.Trees.{host_of, kept_by}
use Rattle.oram_host.specs.declared.trees.Tree.{Tree}
use Rattle.oram_host.proofs.ImageTexts.{few_keys, tree_more}
use Rattle.oram_host.proofs.Transfers.{begun, begun_first, begun_next}
use Rattle.oram_host.proofs.images.writer.save_trees.Goals as goal

pub overflow_cast-len : goal.overflow_cast-len
overflow_cast-len g c = omega (arith, c.len.ensures.len, few_keys c.args.trees.now 256 c.requires.ordered c.requires.numbers)

pub loop-number-init : goal.loop-number-init
loop-number-init g c =
    let trees = c.args.trees.now in
    let begun : c.into_iter-number-iterator.result ≡ trees.entries = search rules in
    let count : c.len.result ≡ length (host_of trees) = c.len.ensures.len ∙ sym (length-map trees.entries (λ (e : ℕ × Tree). (e.0, kept_by e.1))) in
    let head : List ℕ = to_be_bytes w32 1 ++ to_be_bytes w32 c.len.result in
    let first : Appends (g.W.Write.contents c.args.writer.now) (g.W.Write.contents c.write.new.writer) (codes "ORAMHOST") = search rules in
    let second : Appends (g.W.Write.contents c.write.new.writer) (g.W.Write.contents c.write-2.new.writer) head = search rules in (
      codes "ORAMHOST" ++ head,
      Appends-trans _ _ _ _ _ first second,
      ap (λ (es : List (ℕ × Tree)). (codes "ORAMHOST" ++ head) ++ flat_map tree_text (map {B = ℕ × Kept} (λ e. (e.0, kept_by e.1)) es)) begun
          ∙ ap (λ (n : ℕ). (codes "ORAMHOST" ++ to_be_bytes w32 1 ++ to_be_bytes w32 n) ++ flat_map tree_text (host_of trees)) count,
    )

pub loop-number-preserved : goal.loop-number-preserved
loop-number-preserved g c =
    let inv = c.loop-number.invariant in
    let number = c.in-Some.number.now in
    let tree = c.in-Some.tree.now in
    let split : c.loop-number.number-iterator ≡ (number, tree) ∷ c.next.new.self = rest_more (deref_pair {K = ℕ} {X = Tree}) c.loop-number.number-iterator c.next.new.self c.next.result (c.in-Some.number, c.in-Some.tree) c.in-Some.is c.next.ensures.steps in
    let before = ap (λ (es : List (ℕ × Tree)). inv.0 ++ flat_map tree_text (map {B = ℕ × Kept} (λ e. (e.0, kept_by e.1)) es)) split in
    (inv.0 ++ tree_text (number, kept_by tree), Appends-trans _ _ _ _ _ inv.1 (search rules), tree_more inv.0 (number, tree) c.next.new.self _ (sym before ∙ inv.2))

pub returns-clause-ok : goal.returns-clause-ok
returns-clause-ok g c =
    let inv = c.loop-number.invariant in
    let none : c.loop-number.number-iterator ≡ [] = rest_all (deref_pair {K = ℕ} {X = Tree}) c.loop-number.number-iterator c.next.new.self c.next.result c.in-None.is c.next.ensures.steps in
    let whole : inv.0 ≡ image (host_of c.args.trees.now) = sym (append-nil inv.0) ∙ ap (λ (es : List (ℕ × Tree)). inv.0 ++ flat_map tree_text (map {B = ℕ × Kept} (λ e. (e.0, kept_by e.1)) es)) (sym none) ∙ inv.2 in
    subst (Appends (g.W.Write.contents c.args.writer.now) (g.W.Write.contents c.loop-number.writer)) whole inv.1

pub returns-in_err-write-clause-begun : goal.returns-in_err-write-clause-begun
returns-in_err-write-clause-begun g c =
    let host = host_of c.args.trees.now in
    begun_first _ _ (codes "ORAMHOST") (to_be_bytes w32 1 ++ entries_text tree_text host) (image host) c.write.ensures.begun refl

pub returns-in_err-write-2-clause-begun : goal.returns-in_err-write-2-clause-begun
returns-in_err-write-2-clause-begun g c =
    let trees = c.args.trees.now in
    let count : c.len.result ≡ length (host_of trees) = c.len.ensures.len ∙ sym (length-map trees.entries (λ (e : ℕ × Tree). (e.0, kept_by e.1))) in
    let head : List ℕ = to_be_bytes w32 1 ++ to_be_bytes w32 c.len.result in
    let first : Appends (g.W.Write.contents c.args.writer.now) (g.W.Write.contents c.write.new.writer) (codes "ORAMHOST") = search rules in
    let second : Begins (g.W.Write.contents c.write.new.writer) (g.W.Write.contents c.write-2.new.writer) head = (c.write-2.ensures.begun.0, search rules) in
    begun_next _ _ _ (codes "ORAMHOST") head (flat_map tree_text (host_of trees)) (image (host_of trees)) first second
    (ap (λ (n : ℕ). (codes "ORAMHOST" ++ to_be_bytes w32 1 ++ to_be_bytes w32 n) ++ flat_map tree_text (host_of trees)) count)

pub returns-in_err-save_tree-clause-begun : goal.returns-in_err-save_tree-clause-begun
returns-in_err-save_tree-clause-begun g c =
    let inv = c.loop-number.invariant in
    let number = c.in-Some.number.now in
    let tree = c.in-Some.tree.now in
    let split : c.loop-number.number-iterator ≡ (number, tree) ∷ c.next.new.self = rest_more (deref_pair {K = ℕ} {X = Tree}) c.loop-number.number-iterator c.next.new.self c.next.result (c.in-Some.number, c.in-Some.tree) c.in-Some.is c.next.ensures.steps in
    let before = ap (λ (es : List (ℕ × Tree)). inv.0 ++ flat_map tree_text (map {B = ℕ × Kept} (λ e. (e.0, kept_by e.1)) es)) split in
    begun_next _ _ _ inv.0 (tree_text (number, kept_by tree)) (flat_map tree_text (map {B = ℕ × Kept} (λ e. (e.0, kept_by e.1)) c.next.new.self)) (image (host_of c.args.trees.now)) inv.1 c.save_tree.ensures.begun
    (tree_more inv.0 (number, tree) c.next.new.self _ (sym before ∙ inv.2))

pub returns-clause-begun : goal.returns-clause-begun
returns-clause-begun g c =
    let inv = c.loop-number.invariant in
    begun _ _ inv.0 (flat_map tree_text (map {B = ℕ × Kept} (λ e. (e.0, kept_by e.1)) c.loop-number.number-iterator)) (image (host_of c.args.trees.now)) inv.1 inv.2
