use Rattle.std.proofs.Common.{◌≡◌, ℕ, IsSome, Some, None, refl, subst, rules, arith}
use Rattle.std.specs.Prelude.{MatchBool}
use Rattle.std.specs.Ordering.{nat_cmp}
use Rattle.std.specs.BTreeMap.{WritesThrough, get}
use Rattle.oram_host.specs.Flips.{IsByteless, IsFlipped}
use Rattle.oram_host.specs.Host.{Host, IsHost, tree_at}
use Rattle.oram_host.specs.Trees.{host_of, kept_by}
use Rattle.oram_host.proofs.Flipped.{record_kept_at, tree_kept_at, was_flipped}
use Rattle.oram_host.proofs.Hosts.{keeps_written, same_host, tree_absent, tree_there, trees_written}
use Rattle.oram_host.proofs.LoadedHosts.{is_host}
use Rattle.oram_host.proofs.ReadImages.{nodes_fit}
use Rattle.oram_host.proofs.server.Server.flip.Goals as goal

pub returns-in_default : goal.returns-in_default
returns-in_default c =
    let host : Host = c.args.self.now in
    let is : IsHost host = subst IsHost c.self.view_is (is_host c.self.inside.trees c.self.invariant) in
    (λ kept shaped bytes stored. absurd (c.in_default.ensures (tree_kept_at host c.args.tree kept is shaped).number), refl)

pub returns-in_default-try_from : goal.returns-in_default-try_from
returns-in_default-try_from c =
    let host : Host = c.args.self.now in
    let is : IsHost host = subst IsHost c.self.view_is (is_host c.self.inside.trees c.self.invariant) in (
      λ kept shaped bytes stored.
          let at = (tree_kept_at host c.args.tree kept is shaped).kept in
          let node = (record_kept_at kept c.args.node bytes at stored).node in
          absurd (c.in_default-try_from.ensures (omega (arith, node, nodes_fit kept.depth at.shape.deep))),
      refl,
    )

pub returns-in_default-get_mut : goal.returns-in_default-get_mut
returns-in_default-get_mut c =
    let host : Host = c.args.self.now in
    let none : get nat_cmp c.self.inside.trees c.in-Ok.tree ≡ None = search rules in
    let T : ℕ → Type 0 = λ t. tree_at host t ≡ None in
    let absent : tree_at host c.args.tree ≡ None = subst T c.in-Ok.ensures.1 (tree_absent c.self.inside.trees host c.in-Ok.tree c.self.view_is none) in
    (λ kept shaped bytes stored. absurd cc, search rules)

pub invariant_of-self-2 : goal.invariant_of-self-2
invariant_of-self-2 c =
    let changed = c.flip.new.self in
    let written : WritesThrough nat_cmp (nat_cmp c.in-Ok.tree) c.self.inside.trees changed (c.get_mut.follows.lender changed) = c.get_mut.follows.holds changed in
    trees_written c.self.inside.trees (c.get_mut.follows.lender changed) c.in-Ok.tree changed c.self.invariant written c.flip.ensures.tree

pub returns : goal.returns
returns c =
    let changed = c.flip.new.self in
    let trees = c.self.inside.trees in
    let host : Host = c.args.self.now in
    let after = c.get_mut.follows.lender changed in
    let tree : ℕ = c.in-Ok.tree in
    let node : ℕ = c.in-Ok-try_from.node in
    let written : WritesThrough nat_cmp (nat_cmp tree) trees changed after = c.get_mut.follows.holds changed in
    let found : get nat_cmp trees tree ≡ Some c.in-Some.kept.now = search rules in
    let some : IsSome (get nat_cmp trees tree) = rw found refl in
    let flipped = was_flipped c.flip.result host (host_of after) tree node c.args.offset (kept_by c.in-Some.kept.now) (kept_by changed) (tree_there trees host tree c.in-Some.kept.now c.self.view_is found)
    (keeps_written trees after host (host_of after) tree changed c.self.view_is refl some written) (same_host trees after host (host_of after) tree c.in-Some.kept.now changed c.self.view_is refl found written)
    c.flip.ensures.flipped c.flip.ensures.same in
    let P : ℕ → ℕ → Type 0 = λ t n. MatchBool c.flip.result (IsFlipped host t n c.args.offset (host_of after)) (IsByteless host t n c.args.offset × (host_of after ≡ host)) in
    subst (P c.args.tree) c.in-Ok-try_from.ensures.1 (subst (λ (t : ℕ). P t node) c.in-Ok.ensures.1 flipped)
