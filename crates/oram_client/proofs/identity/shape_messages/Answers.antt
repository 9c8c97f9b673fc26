use Rattle.std.proofs.Common.{ℕ, List, ◌∷◌, [], ◌++◌, map, sym, ap, ◌∙◌, arith}
use Rattle.std.specs.List.{range_with_len}
use Rattle.std.proofs.lemmas.List.FromFn.{map-range_with_len_more}
use Rattle.oram_rounds.proofs.Texts.{texts_by}
use Rattle.oram_client.specs.Introduction.{tree_shape}
use Rattle.oram_client.proofs.identity.shape_messages.Goals as goal

pub loop-tree-preserved : goal.loop-tree-preserved
loop-tree-preserved c =
    let shape : ℕ → List ℕ = tree_shape c.args.device.now c.args.overhead in
    texts_by c.push.new.self.items c.loop-tree.messages.items c.in_ok-tree_shape.field-0 c.in_ok-push.ensures.items
    ∙ ap (λ (x : List (List ℕ)). x ++ c.in_ok-tree_shape.field-0.items ∷ []) c.loop-tree.invariant
    ∙ ap (λ (x : List ℕ). map shape (range_with_len 0 c.loop-tree.tree) ++ x ∷ []) c.in_ok-tree_shape.ensures
    ∙ sym (map-range_with_len_more shape 0 c.loop-tree.tree c.loop-tree.tree (omega arith))
