use Rattle.std.proofs.Common.{◌≡◌, IsSome, None, refl, ap, ◌∙◌, map, ℕ, List, rules}
use Rattle.std.specs.Ordering.{nat_cmp}
use Rattle.std.specs.BTreeMap.{get}
use Rattle.std.proofs.lemmas.Result.{err_from_is_err_and}
use Rattle.oram_host.specs.declared.trees.Tree.{Tree}
use Rattle.oram_host.specs.Host.{IsShape, Kept}
use Rattle.oram_host.specs.Trees.{host_of, kept_by}
use Rattle.oram_host.proofs.Hosts.{bare_tree, not_absent, shaped, tree_absent, trees_added}
use Rattle.oram_host.proofs.server.Server.shape.Goals as goal

pub returns-then-contains_key : goal.returns-then-contains_key
returns-then-contains_key c =
    let shape : IsShape c.args.depth c.args.record_len = search rules in
    let some : IsSome (get nat_cmp c.self.inside.trees c.args.tree) = search rules in
    ((shape, not_absent c.self.inside.trees c.args.self.now c.args.tree c.self.view_is some), refl)

pub returns-in_err-insert : goal.returns-in_err-insert
returns-in_err-insert c =
    let shape : IsShape c.args.depth c.args.record_len = search rules in
    let none : get nat_cmp c.self.inside.trees c.args.tree ≡ None = search rules in
    let p = err_from_is_err_and c.from_residual.result c.from_residual.ensures.1 in
    let same : host_of c.insert.new.self ≡ c.args.self.now = ap (λ (es : List (ℕ × Tree)). map {B = ℕ × Kept} (λ x. (x.0, kept_by x.1)) es) c.in_err-insert.ensures.err ∙ c.self.view_is in
    rw (p.1, p.2) ((shape, tree_absent c.self.inside.trees c.args.self.now c.args.tree c.self.view_is none), same)

pub invariant_of-self-2 : goal.invariant_of-self-2
invariant_of-self-2 c =
    let shape : IsShape c.args.depth c.args.record_len = search rules in
    trees_added c.self.inside.trees c.insert.new.self c.args.tree _ c.self.invariant c.in_ok-insert.ensures.entries c.insert.ensures.ordered (bare_tree c.args.depth c.args.record_len _ shape c.new.ensures.empty c.new.ensures.ordered) (search rules)

pub returns : goal.returns
returns c =
    let shape : IsShape c.args.depth c.args.record_len = search rules in
    let none : get nat_cmp c.self.inside.trees c.args.tree ≡ None = search rules in
    shaped c.self.inside.trees c.insert.new.self c.args.self.now (host_of c.insert.new.self) c.args.tree c.args.depth c.args.record_len _ c.self.view_is refl shape none c.new.ensures.empty c.in_ok-insert.ensures.updates
