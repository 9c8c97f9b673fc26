use Rattle.std.proofs.Common.{◌≡◌, ◌⊎◌, ◌<◌, ◌^◌, List, [], All, Vec, Global, sym, ap, ◌∙◌, subst, arith}
use Rattle.std.proofs.lemmas.List.{get_or-map}
use Rattle.oram_geometry.specs.Sizes.{depth_of as depth}
use Rattle.oram_bucket.specs.declared.block.Block.{Block}
use Rattle.oram_stash.specs.Eviction.{listed}
use Rattle.oram_stash.proofs.Moves.{items_of}
use Rattle.oram_stash.proofs.Tight.{EndsAt, ReachesTo, TightTo-rest, TightTo-more, All-of_list, All-of_rest, at_read_of, ReachesTo-either}
use Rattle.oram_stash.proofs.Stash.tight_level.Goals as goal

pub shared_level-level-requires-clause-y_in : goal.shared_level-level-requires-clause-y_in
shared_level-level-requires-clause-y_in c =
    let P = λ (b : Block). b.leaf < 2 ^ depth c.args.device.now c.args.tree in
    let item = c.in_ok-first.ensures.item in
    let leaf_is : c.first-2.inside.leaf ≡ c.in_ok-first.first.now.leaf = ap (λ (b : Block). b.leaf) c.first-2.view_is in
    rw leaf_is (at_read_of P c.deref.result.now c.args.self.now 0 c.in_ok-first.first.now (c.deref.ensures.value ∙ c.self.view_is) (All-of_rest P (items_of c.args.lists.now) c.args.self.now c.requires.leaves_in) item.1 item.3.0)

pub deepest_shared-tight-requires-clause-leaves_in : goal.deepest_shared-tight-requires-clause-leaves_in
deepest_shared-tight-requires-clause-leaves_in c =
    let P = λ (b : Block). b.leaf < 2 ^ depth c.args.device.now c.args.tree in
    rw (c.deref-2.ensures.value, c.self.view_is) (All-of_rest P (items_of c.args.lists.now) c.args.self.now c.requires.leaves_in)

pub loop-level-init : goal.loop-level-init
loop-level-init c =
    let deep = depth c.args.device.now c.args.tree in
    let same = c.deref-2.ensures.value ∙ c.self.view_is in
    let item = c.in_ok-first.ensures.item in
    let deepest = c.deepest_shared-tight.result in
    let leaf_is : c.first-2.inside.leaf ≡ c.in_ok-first.first.now.leaf = ap (λ (b : Block). b.leaf) c.first-2.view_is in
    let meeting = rw leaf_is at c.shared_level-level.ensures.meets in
    let meets = (meeting c.shared_level-level.result c.shared_level-level.ensures.greatest.within).1 (omega arith) in
    let reached = subst (λ (l : List Block). (deepest ≡ c.shared_level-level.result) ⊎ ReachesTo deep c.args.leaf deepest l) same c.deepest_shared-tight.ensures.reached in
    TightTo-rest deep c.args.device.now.slots c.args.leaf (items_of c.args.lists.now) c.args.self.now c.requires.greedy deepest c.deepest_shared-tight.ensures.in_tree
    (ReachesTo-either deep c.args.leaf _ deepest c.deref.result.now c.args.self.now c.in_ok-first.first.now (c.deref.ensures.value ∙ c.self.view_is) item.1 item.3.0 meets reached)
    (subst (EndsAt deep c.args.leaf deepest) same c.deepest_shared-tight.ensures.apart)

-- the list at the level, as it is read
pub deepest_shared-tight-requires-in-loop-level-clause-leaves_in :
    goal.deepest_shared-tight-requires-in-loop-level-clause-leaves_in
deepest_shared-tight-requires-in-loop-level-clause-leaves_in c =
    let P = λ (b : Block). b.leaf < 2 ^ depth c.args.device.now c.args.tree in
    let list_is : listed (items_of c.args.lists.now) c.loop-level.level ≡ c.index-lists-level.result.items = get_or-map (λ (list : Vec Block Global). list.items) c.args.lists.now c.loop-level.level c.index-lists-level.result [] c.loop-level-test.true ∙ ap (λ (list : Vec Block Global). list.items) (sym c.index-lists-level.is) in
    rw c.deref-in-loop-level.ensures.value (subst (All P) list_is (All-of_list P (items_of c.args.lists.now) c.args.self.now c.loop-level.level c.requires.leaves_in))

pub loop-level-preserved : goal.loop-level-preserved
loop-level-preserved c =
    let deep = depth c.args.device.now c.args.tree in
    let list_is : listed (items_of c.args.lists.now) c.loop-level.level ≡ c.index-lists-level.result.items = get_or-map (λ (list : Vec Block Global). list.items) c.args.lists.now c.loop-level.level c.index-lists-level.result [] c.loop-level-test.true ∙ ap (λ (list : Vec Block Global). list.items) (sym c.index-lists-level.is) in
    let same = c.deref-in-loop-level.ensures.value ∙ sym list_is in
    let deepest = c.deepest_shared-tight-in-loop-level.result in
    let facts = c.deepest_shared-tight-in-loop-level.ensures in
    TightTo-more deep c.args.device.now.slots c.args.leaf (items_of c.args.lists.now) c.args.self.now c.requires.greedy c.loop-level.level c.loop-level.tight deepest c.loop-level.invariant (omega (arith, c.if-level-from.false, c.from.ensures)) facts.at_least facts.in_tree
    (subst (λ (l : List Block). (deepest ≡ c.loop-level.tight) ⊎ ReachesTo deep c.args.leaf deepest l) same facts.reached)
    (subst (EndsAt deep c.args.leaf deepest) same facts.apart)
