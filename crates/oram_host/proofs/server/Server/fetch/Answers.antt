use Rattle.std.proofs.Common.{◌≡◌, Some, None, rules}
use Rattle.std.specs.Ordering.{nat_cmp}
use Rattle.std.specs.BTreeMap.{get}
use Rattle.oram_host.specs.Trees.{kept_by}
use Rattle.oram_host.proofs.Hosts.{fetched, no_shape, tree_absent, tree_there}
use Rattle.oram_host.proofs.server.Server.fetch.Goals as goal

pub returns-in_default : goal.returns-in_default
returns-in_default c =
    let none : get nat_cmp c.self.inside.trees c.args.tree ≡ None = search rules in
    no_shape _ _ _ (tree_absent c.self.inside.trees c.args.self.now c.args.tree c.self.view_is none)

pub returns : goal.returns
returns c =
    let found : get nat_cmp c.self.inside.trees c.args.tree ≡ Some c.in-Some.kept.now = search rules in
    fetched (λ v. v.items) c.args.front.now c.args.self.now c.args.tree c.args.leaf (kept_by c.in-Some.kept.now) c.fetch.result (tree_there c.self.inside.trees c.args.self.now c.args.tree c.in-Some.kept.now c.self.view_is found) c.fetch.ensures
