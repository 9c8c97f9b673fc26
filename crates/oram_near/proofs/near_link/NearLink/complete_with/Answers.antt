use Rattle.std.proofs.Common.{List, ℕ, drop, map, ap, ◌∙◌, subst}
use Rattle.std.specs.Global.{Vec}
use Rattle.std.proofs.lemmas.List.{with_items_is}
use Rattle.oram_rounds.specs.Batches.{texts}
use Rattle.oram_near.specs.EmptyRecords.{made_with, of_maker}
use Rattle.oram_near.specs.Completion.{LaysOver}
use Rattle.oram_near.specs.Near.{rest_of}
use Rattle.oram_near.specs.NearCalls.{FitsTogether, NearValue, client_of}
use Rattle.oram_near.specs.PathRequests.{store_in}
use Rattle.oram_near.proofs.FarStores.{fits_by}
use Rattle.oram_near.proofs.Paths.{whole_path}
use Rattle.oram_near.proofs.near_link.NearLink.complete_with.Goals as goal

pub returns : goal.returns
returns g c =
    let l : NearValue _ _ = c.args.self.now in
    let i = c.self.inside in
    let inv = c.self.invariant in
    let at = made_with g.E.EmptyRecords.record_at in
    let fits = subst (λ (x : NearValue _ _). FitsTogether (of_maker g.E.EmptyRecords.device) (of_maker g.E.EmptyRecords.record_len) x) c.self.view_is
    (fits_by (of_maker g.E.EmptyRecords.device) (of_maker g.E.EmptyRecords.record_len) i.inner (record { maker = i.empty; rest = rest_of i.near }) i.device i.near (texts i.unsure.items) i.coming inv.0 inv.1 inv.2 inv.3) in
    let before = c.in_ok-answer.ensures in
    let laid = c.lay_over.ensures in
    let over : LaysOver l.device l.near.record_len c.args.tree c.args.leaf l.unsure before.0 laid.0 =
    subst (λ (x : NearValue _ _). LaysOver x.device x.near.record_len c.args.tree c.args.leaf x.unsure before.0 laid.0) c.self.view_is
    (subst (λ (n : ℕ). LaysOver i.device n c.args.tree c.args.leaf (map store_in (texts i.unsure.items)) before.0 laid.0) c.record_len.ensures.value
    (subst (λ (vs : List (Vec ℕ)). LaysOver i.device c.record_len.result c.args.tree c.args.leaf (map store_in (texts vs)) before.0 laid.0) c.deref.ensures.value
    (subst (λ (path : List ℕ). LaysOver i.device c.record_len.result c.args.tree c.args.leaf (map store_in (texts c.deref.result.now)) path laid.0)
    (ap (drop 1) (c.deref_mut.ensures.value ∙ before.1)) laid.1))) in (
      laid.0,
      whole_path (client_of at l) c.args.tree c.args.leaf c.args.count c.args.records.now before.0 laid.0 fits.are_stores before.2 over,
      with_items_is c.in_ok-answer.answer c.lay_over.new.answer (c.lay_over.auto.answer ∙ c.deref_mut.ensures.len) ∙ laid.2,
    )
