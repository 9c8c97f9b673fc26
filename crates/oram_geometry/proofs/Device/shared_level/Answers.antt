use Rattle.std.proofs.Common.{◌≡◌, ◌/◌, ◌<◌, ap, sym, ◌∙◌, arith, subst, inl, inr}
use Rattle.oram_geometry.specs.Sizes.{depth_of}
use Rattle.std.proofs.lemmas.Bool.{cases_lt}
use Rattle.oram_geometry.specs.Path.{MeetsAt}
use Rattle.oram_geometry.proofs.Meet.{halved, root_meets, meets_up_to, apart_more}
use Rattle.oram_geometry.proofs.Device.shared_level.Goals as goal

pub loop-x_node-preserved : goal.loop-x_node-preserved
loop-x_node-preserved c =
    let deep = depth_of c.args.self.now c.args.tree in
    let inv = c.loop-x_node.invariant in
    let level = c.loop-x_node.level in
    let apart_here : MeetsAt deep c.args.x c.args.y level → ⊥ = λ meets. c.loop-x_node-test.true (inv.x_is ∙ meets ∙ sym inv.y_is) in
    let positive : 0 < level = elim (cases_lt 0 level) as (λ _. 0 < level) [
      | inl some ↦ some
      | inr none ↦ absurd (apart_here (let e : 0 ≡ level = omega arith in subst (MeetsAt deep c.args.x c.args.y) e (root_meets deep c.args.x c.args.y c.requires.x_in c.requires.y_in)))
    ] in
    record {
      range = omega (arith, inv.range);
      x_is = ap (λ n. n / 2) inv.x_is ∙ sym (halved deep c.args.x level positive inv.range);
      y_is = ap (λ n. n / 2) inv.y_is ∙ sym (halved deep c.args.y level positive inv.range);
      apart = apart_more deep c.args.x c.args.y level inv.range apart_here inv.apart;
    }

pub returns-clause-meets : goal.returns-clause-meets
returns-clause-meets c =
    let inv = c.loop-x_node.invariant in
    meets_up_to (depth_of c.args.self.now c.args.tree) c.args.x c.args.y c.loop-x_node.level inv.range (sym inv.x_is ∙ c.loop-x_node-test.false ∙ inv.y_is) inv.apart
