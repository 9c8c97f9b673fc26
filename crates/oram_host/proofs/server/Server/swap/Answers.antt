use Rattle.std.proofs.Common.{refl}
use Rattle.oram_host.proofs.Swapped.{lacks_first, lacks_second, nothing_past}
use Rattle.oram_host.proofs.server.Server.swap.Goals as goal

pub returns-in_default-clause-swapped : goal.returns-in_default-clause-swapped
returns-in_default-clause-swapped c = (lacks_first c.args.self.now c.args.tree_a c.args.node_a c.args.tree_b c.args.node_b (nothing_past c.self.inside.trees c.args.self.now c.args.tree_a c.args.node_a c.self.invariant c.self.view_is c.in_default.ensures), refl)

pub returns-in_default-place-clause-swapped : goal.returns-in_default-place-clause-swapped
returns-in_default-place-clause-swapped c = (lacks_second c.args.self.now c.args.tree_a c.args.node_a c.args.tree_b c.args.node_b (nothing_past c.self.inside.trees c.args.self.now c.args.tree_b c.args.node_b c.self.invariant c.self.view_is c.in_default-place.ensures), refl)
