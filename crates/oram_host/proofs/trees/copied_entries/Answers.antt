use Rattle.std.proofs.Common.{ℕ, List, rules}
use Rattle.std.specs.Map.Iter.{deref_pair}
use Rattle.std.proofs.lemmas.Map.Iter.{rest_more}
use Rattle.oram_host.proofs.LoadedHosts.{copied_more}
use Rattle.oram_host.proofs.RisingEntries.{rises_from_sorted}
use Rattle.oram_host.proofs.trees.copied_entries.Goals as goal

pub loop-node-preserved-in_ok-insert : goal.loop-node-preserved-in_ok-insert
loop-node-preserved-in_ok-insert c =
    let split = rest_more (deref_pair {K = ℕ} {X = List ℕ}) c.loop-node.node-iterator c.next.new.self c.next.result (c.in-Some.node, c.in-Some.bytes) c.in-Some.is c.next.ensures.steps in
    copied_more c.loop-node.copied c.insert.new.self _ _ _ c.in-Some.node.now c.in-Some.bytes.now c.in_ok-copy.field-0 split (search rules) c.in_ok-insert.ensures.entries (rises_from_sorted _ c.requires) c.loop-node.invariant

pub loop-node-preserved : goal.loop-node-preserved
loop-node-preserved c =
    let split = rest_more (deref_pair {K = ℕ} {X = List ℕ}) c.loop-node.node-iterator c.next.new.self c.next.result (c.in-Some.node, c.in-Some.bytes) c.in-Some.is c.next.ensures.steps in
    copied_more c.loop-node.copied c.insert.new.self _ _ _ c.in-Some.node.now c.in-Some.bytes.now c.in_ok-copy.field-0 split (search rules) c.in_ok-insert.ensures.entries (rises_from_sorted _ c.requires) c.loop-node.invariant
