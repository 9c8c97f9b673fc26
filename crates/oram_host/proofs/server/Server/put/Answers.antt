use Rattle.std.proofs.Common.{◌≡◌, IsSome, Some, None, refl, rules}
use Rattle.std.specs.Ordering.{nat_cmp}
use Rattle.std.specs.BTreeMap.{WritesThrough, get}
use Rattle.oram_host.specs.Trees.{host_of, kept_by}
use Rattle.oram_host.proofs.Hosts.{keeps_written, no_shape, same_host, was_put, tree_absent, tree_there, trees_written}
use Rattle.oram_host.proofs.server.Server.put.Goals as goal

pub returns-in_default : goal.returns-in_default
returns-in_default c =
    let none : get nat_cmp c.self.inside.trees c.args.tree ≡ None = search rules in
    (no_shape _ _ _ (tree_absent c.self.inside.trees c.args.self.now c.args.tree c.self.view_is none), search rules)

pub invariant_of-self-2 : goal.invariant_of-self-2
invariant_of-self-2 c =
    let changed = c.put.new.self in
    let written : WritesThrough nat_cmp (nat_cmp c.args.tree) c.self.inside.trees changed (c.get_mut.follows.lender changed) = c.get_mut.follows.holds changed in
    trees_written c.self.inside.trees (c.get_mut.follows.lender changed) c.args.tree changed c.self.invariant written c.put.ensures.tree

pub returns : goal.returns
returns c =
    let changed = c.put.new.self in
    let trees = c.self.inside.trees in
    let after = c.get_mut.follows.lender changed in
    let written : WritesThrough nat_cmp (nat_cmp c.args.tree) trees changed after = c.get_mut.follows.holds changed in
    let found : get nat_cmp trees c.args.tree ≡ Some c.in-Some.kept.now = search rules in
    let some : IsSome (get nat_cmp trees c.args.tree) = rw found refl in
    was_put c.args.self.now (host_of after) c.args.tree c.args.node c.args.bytes.now (kept_by c.in-Some.kept.now) (kept_by changed) c.put.result (tree_there trees c.args.self.now c.args.tree c.in-Some.kept.now c.self.view_is found)
    (keeps_written trees after c.args.self.now (host_of after) c.args.tree changed c.self.view_is refl some written)
    (same_host trees after c.args.self.now (host_of after) c.args.tree c.in-Some.kept.now changed c.self.view_is refl found written)
    c.put.ensures.put c.put.ensures.err
