use Rattle.std.proofs.Common.{ℕ, rules}
use Rattle.std.specs.Map.Iter.{deref_pair}
use Rattle.std.proofs.lemmas.Map.Iter.{rest_more}
use Rattle.oram_host.specs.declared.trees.Tree.{Tree}
use Rattle.oram_host.specs.Trees.{host_of}
use Rattle.oram_host.proofs.Hosts.{trees_added}
use Rattle.oram_host.proofs.LoadedHosts.{host_copied_more, is_host}
use Rattle.oram_host.proofs.trees.copied_trees.Goals as goal

pub loop-number-preserved-in_ok-insert : goal.loop-number-preserved-in_ok-insert
loop-number-preserved-in_ok-insert c =
    let trees = c.args.trees.now in
    let copied = c.loop-number.copied in
    let new = c.insert.new.self in
    let number = c.in-Some.number.now in
    let copy = c.in_ok-copy.field-0 in
    let inv = c.loop-number.invariant in
    let entries = c.in_ok-insert.ensures.entries in
    let split = rest_more (deref_pair {K = ℕ} {X = Tree}) c.loop-number.number-iterator c.next.new.self c.next.result (c.in-Some.number, c.in-Some.tree) c.in-Some.is c.next.ensures.steps in
    record {
      whole = host_copied_more copied new _ _ (host_of trees) number c.in-Some.tree.now copy split c.in_ok-copy.ensures.same entries inv.trees (is_host trees c.requires).rising inv.whole;
      trees = trees_added copied new number copy inv.trees entries c.insert.ensures.ordered c.in_ok-copy.ensures.tree (search rules);
    }

pub loop-number-preserved : goal.loop-number-preserved
loop-number-preserved c =
    let trees = c.args.trees.now in
    let copied = c.loop-number.copied in
    let new = c.insert.new.self in
    let number = c.in-Some.number.now in
    let copy = c.in_ok-copy.field-0 in
    let inv = c.loop-number.invariant in
    let entries = c.in_ok-insert.ensures.entries in
    let split = rest_more (deref_pair {K = ℕ} {X = Tree}) c.loop-number.number-iterator c.next.new.self c.next.result (c.in-Some.number, c.in-Some.tree) c.in-Some.is c.next.ensures.steps in
    record {
      whole = host_copied_more copied new _ _ (host_of trees) number c.in-Some.tree.now copy split c.in_ok-copy.ensures.same entries inv.trees (is_host trees c.requires).rising inv.whole;
      trees = trees_added copied new number copy inv.trees entries c.insert.ensures.ordered c.in_ok-copy.ensures.tree (search rules);
    }
