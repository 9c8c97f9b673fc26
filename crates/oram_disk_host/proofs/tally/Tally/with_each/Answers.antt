use Rattle.std.proofs.Common.{◌≡◌, ◌<◌, ◌∷◌, ◌++◌, ◌∙◌, [], List, ℕ, length, get_or, take, sym, ap, subst, arith}
use Rattle.std.specs.Global.{Vec}
use Rattle.std.proofs.lemmas.List.{get_or-map, length-map, take_more}
use Rattle.oram_wire.specs.ListOfBodies.{bodies_in}
use Rattle.oram_disk_host.specs.Tallies.{Counts}
use Rattle.oram_disk_host.proofs.Tallies.{counts_more}
use Rattle.oram_disk_host.proofs.tally.Tally.with_each.Goals as goal

pub loop-body-preserved : goal.loop-body-preserved
loop-body-preserved c =
    let i : ℕ = c.loop-body.body-index in
    let bodies : List (List ℕ) = bodies_in c.args.bodies.now in
    let within : i < length bodies = omega (arith, c.loop-body-test.true, length-map c.args.bodies.now (λ (v : Vec ℕ). v.items)) in
    let body : get_or bodies i [] ≡ c.deref.result.now =
    get_or-map (λ (v : Vec ℕ). v.items) c.args.bodies.now i c.body-item.result [] c.loop-body-test.true ∙ ap (λ (v : Vec ℕ). v.items) (sym c.body-item.is) ∙ sym c.deref.ensures.value in
    record {
      counts = subst (λ (bs : List (List ℕ)). Counts c.args.self.now bs c.args.answer.now c.with-tally.result)
          (ap (λ (b : List ℕ). take i bodies ++ b ∷ []) (sym body) ∙ sym (take_more bodies i [] within))
          (counts_more c.args.self.now c.loop-body.tally c.with-tally.result (take i bodies) c.deref.result.now c.args.answer.now c.loop-body.invariant.counts c.with-tally.ensures.counts);
      failure = c.with-tally.ensures.failure ∙ c.loop-body.invariant.failure;
    }
