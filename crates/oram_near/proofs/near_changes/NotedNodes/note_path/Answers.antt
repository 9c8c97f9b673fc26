use Rattle.std.proofs.Common.{◌≡◌, ℕ, ◌+◌, arith, List, [], ◌∷◌, ◌++◌, length, sym, ap, ◌∙◌, subst, append_assoc}
use Rattle.std.proofs.lemmas.List.FromFn.{length-map-range_with_len}
use Rattle.std.proofs.lemmas.List.{length-append}
use Rattle.oram_geometry.specs.Path.{node_on}
use Rattle.oram_geometry.specs.Sizes.{depth_of}
use Rattle.oram_semantics.proofs.Bounds.{some_trees}
use Rattle.oram_near.specs.Near.{HasRoomFor, Noted, NotesNodes, path_nodes}
use Rattle.oram_near.proofs.Nodes.{path_more}
use Rattle.oram_near.proofs.near_changes.NotedNodes.note_path.Goals as goal

-- a note of some nodes, and then of one more
module _ (nodes : List ℕ) (node : ℕ) (old mid new : Noted) (before : NotesNodes nodes old mid) (here : NotesNodes (node ∷ []) mid new) where
  notes_more : NotesNodes (nodes ++ node ∷ []) old new
  notes_more not_any =
      let was = here not_any in
      let first = before was.0 in
      (first.0, was.1 ∙ ap (λ (ns : List ℕ). ns ++ node ∷ []) first.1 ∙ append_assoc old.nodes nodes (node ∷ []))

  room_more : (count : ℕ) → length nodes ≡ count → HasRoomFor count old mid → HasRoomFor 1 mid new → HasRoomFor (count + 1) old new
  room_more count long first one not_any few =
      let mid_not_any = first not_any (omega (arith, few)) in
      let size : length mid.nodes ≡ length old.nodes + count = ap length (before mid_not_any).1 ∙ length-append old.nodes nodes ∙ ap (λ (n : ℕ). length old.nodes + n) long in
      one mid_not_any (omega (arith, few, size))

pub node_on-requires-clause-tree : goal.node_on-requires-clause-tree
node_on-requires-clause-tree c = some_trees c.args.device.now

pub loop-level-preserved : goal.loop-level-preserved
loop-level-preserved c =
    let depth = depth_of c.args.device.now 0 in
    let level = c.loop-level.level in
    let nodes = path_nodes depth c.args.leaf level in
    let here : NotesNodes (node_on depth c.args.leaf level ∷ []) c.loop-level.self c.note.new.self =
    subst (λ (n : ℕ). NotesNodes (n ∷ []) c.loop-level.self c.note.new.self) c.node_on.ensures.value c.note.ensures.noted in
    record {
      noted = subst (λ (ns : List ℕ). NotesNodes ns c.args.self.now c.note.new.self) (sym (path_more depth c.args.leaf level))
          (notes_more nodes (node_on depth c.args.leaf level) c.args.self.now c.loop-level.self c.note.new.self c.loop-level.invariant.noted here);
      room = room_more nodes (node_on depth c.args.leaf level) c.args.self.now c.loop-level.self c.note.new.self c.loop-level.invariant.noted here level
          (length-map-range_with_len (node_on depth c.args.leaf) 0 level) c.loop-level.invariant.room c.note.ensures.room;
    }
