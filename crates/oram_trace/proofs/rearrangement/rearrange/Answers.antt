use Rattle.std.proofs.Common.{◌≡◌, ◌*◌, ◌<◌, ◌++◌, length, map, slice_index, take, drop, ap, sym, subst, ◌∙◌, arith}
use Rattle.std.proofs.lemmas.List.{take_at}
use Rattle.std.specs.List.{All, AllPairs}
use Rattle.oram_geometry.specs.Sizes.{trees_of}
use Rattle.oram_trace.specs.TapeRearrangement.{tape_len, arranged_places}
use Rattle.oram_trace.proofs.Arranged.{arranged_places-length, arranged_places-within, arranged_places-apart}
use Rattle.oram_trace.proofs.WrittenTrees.{sent_more, length-no_fault}
use Rattle.oram_trace.proofs.Rearranged.{IsRearrangement-from, NamesEachOnce-from, KeepsTrees-from, ShowsAlike-from}
use Rattle.oram_trace.proofs.rearrangement.rearrange.Goals as goal
use Rattle.oram_trace.proofs.rearrangement.rearrange.Goals.{After-deref-in-loop-tree}

is_tree : (c : After-deref-in-loop-tree) → c.loop-tree.tree < trees_of c.args.device.now
is_tree c = omega (arith, c.loop-tree-test.true, c.trees-tree-end.ensures.count)

from_is : (c : After-deref-in-loop-tree) → c.deref.result.now ≡ arranged_places c.args.device.now c.args.b.now c.loop-tree.tree
from_is c = c.deref.ensures.value ∙ c.in_ok-from.ensures

to_is : (c : After-deref-in-loop-tree) → c.deref-in-loop-tree.result.now ≡ arranged_places c.args.device.now c.args.a.now c.loop-tree.tree
to_is c = c.deref-in-loop-tree.ensures.value ∙ c.in_ok-to.ensures

same_length : (c : After-deref-in-loop-tree) → length c.args.a.now ≡ length c.args.b.now
same_length c = length-no_fault c.args.device.now c.args.a.now c.args.b.now (sym c.fault_of.ensures ∙ c.in_default.is)

pub send-requires-clause-lengths : goal.send-requires-clause-lengths
send-requires-clause-lengths c =
    ap length (from_is c) ∙ arranged_places-length c.args.device.now c.args.b.now c.loop-tree.tree (is_tree c) ∙ ap (λ n. 2 * n) (sym (same_length c))
    ∙ sym (ap length (to_is c) ∙ arranged_places-length c.args.device.now c.args.a.now c.loop-tree.tree (is_tree c))

pub send-requires-clause-within : goal.send-requires-clause-within
send-requires-clause-within c =
    let room : length c.deref_mut.result.now ≡ tape_len c.args.device.now (length c.args.b.now) =
    ap length c.deref_mut.ensures.value ∙ c.loop-tree.invariant.long ∙ ap (tape_len c.args.device.now) (same_length c) in
    subst (λ n. All (λ p. p < n) c.deref.result.now) (sym room)
    (subst (All (λ p. p < tape_len c.args.device.now (length c.args.b.now))) (sym (from_is c)) (arranged_places-within c.args.device.now c.args.b.now c.loop-tree.tree (is_tree c)))

pub send-requires-clause-apart : goal.send-requires-clause-apart
send-requires-clause-apart c = subst (AllPairs (λ p r. p ≡ r → ⊥)) (sym (from_is c)) (arranged_places-apart c.args.device.now c.args.b.now c.loop-tree.tree (is_tree c))

pub loop-tree-preserved : goal.loop-tree-preserved
loop-tree-preserved c =
    let room : length c.send.new.order ≡ c.loop-tree.order.len =
    c.send.auto.order ∙ ap length c.deref_mut.ensures.value ∙ sym c.loop-tree.order.ok.0 in
    let now : take c.loop-tree.order.len (c.send.new.order ++ drop (length c.send.new.order) c.loop-tree.order.items) ≡ c.send.new.order =
    take_at c.send.new.order (drop (length c.send.new.order) c.loop-tree.order.items) c.loop-tree.order.len room in
    let old = c.deref_mut.ensures.value in
    let sent = sent_more c.args.device.now c.args.a.now c.args.b.now c.loop-tree.order.items c.send.new.order c.deref.result.now c.deref-in-loop-tree.result.now c.loop-tree.tree
    (omega (arith, c.loop-tree-test.true, c.trees-tree-end.ensures.count)) (c.deref.ensures.value ∙ c.in_ok-from.ensures) (c.deref-in-loop-tree.ensures.value ∙ c.in_ok-to.ensures)
    c.send.ensures.sent (λ p h. c.send.ensures.others p h ∙ ap (λ xs. slice_index xs p) old) c.loop-tree.invariant.sent in
    record {
      long = ap length now ∙ room ∙ c.loop-tree.order.ok.0 ∙ c.loop-tree.invariant.long;
      sent = λ i h. ap (λ xs. map (slice_index xs) (arranged_places c.args.device.now c.args.b.now i)) now ∙ sent i h;
    }

pub returns-clause-described : goal.returns-clause-described
returns-clause-described c =
    IsRearrangement-from c.args.device.now c.args.a.now c.args.b.now c.loop-tree.order.items
    (sym (length-no_fault c.args.device.now c.args.a.now c.args.b.now (sym c.fault_of.ensures ∙ c.in_default.is))) c.loop-tree.invariant.long
    (λ i h. c.loop-tree.invariant.sent i (omega (arith, c.loop-tree-test.false, c.trees-tree-end.ensures.count)))

pub returns-clause-once : goal.returns-clause-once
returns-clause-once c =
    NamesEachOnce-from c.args.device.now c.args.a.now c.args.b.now c.loop-tree.order.items
    (sym (length-no_fault c.args.device.now c.args.a.now c.args.b.now (sym c.fault_of.ensures ∙ c.in_default.is))) (returns-clause-described c)
    (omega (arith, c.trees.ensures.least.begins, c.trees.ensures.count))

pub returns-clause-trees : goal.returns-clause-trees
returns-clause-trees c =
    KeepsTrees-from c.args.device.now c.args.a.now c.args.b.now c.loop-tree.order.items
    (sym (length-no_fault c.args.device.now c.args.a.now c.args.b.now (sym c.fault_of.ensures ∙ c.in_default.is))) (returns-clause-described c)
    (omega (arith, c.trees.ensures.least.begins, c.trees.ensures.count))

pub returns-clause-alike : goal.returns-clause-alike
returns-clause-alike c =
    ShowsAlike-from c.args.device.now c.args.a.now c.args.b.now c.loop-tree.order.items
    (sym (length-no_fault c.args.device.now c.args.a.now c.args.b.now (sym c.fault_of.ensures ∙ c.in_default.is))) (returns-clause-described c)
    (omega (arith, c.trees.ensures.least.begins, c.trees.ensures.count))
