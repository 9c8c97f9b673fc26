use Rattle.std.proofs.Common.{◌≡◌, ◌++◌, ◌+◌, ◌-◌, [], ◌∷◌, List, ℕ, arith, length, ap, ◌∙◌, subst}
use Rattle.oram_geometry.specs.Sizes.{depth_of}
use Rattle.oram_semantics.proofs.Bounds.{depth_small}
use Rattle.oram_rounds.specs.Batches.{texts}
use Rattle.oram_wire.specs.HostMessages.{payload_answer}
use Rattle.oram_near.specs.EmptyRecords.{made_with, of_maker, records_from}
use Rattle.oram_near.specs.Near.{records_on, rest_of}
use Rattle.oram_near.specs.NearCalls.{FitsTogether, NearValue, client_of}
use Rattle.oram_near.specs.PathRequests.{first_far}
use Rattle.oram_near.proofs.FarStores.{empties_by, fits_by}
use Rattle.oram_near.proofs.Paths.{unlaid_path}
use Rattle.oram_near.proofs.near_link.NearLink.unlaid.Goals as goal

pub overflow_add-from : goal.overflow_add-from
overflow_add-from g c =
    let first : c.first_far.result ≡ first_far c.args.self.now.near.levels c.args.tree =
    c.first_far.ensures ∙ ap (λ (l : ℕ). first_far l c.args.tree) (c.levels.ensures.value ∙ ap (λ (l : NearValue _ _). l.near.levels) c.self.view_is) in
    omega (arith, depth_small c.args.self.now.device c.args.tree, c.requires.few, first)

pub returns : goal.returns
returns g c =
    let l : NearValue _ _ = c.args.self.now in
    let i = c.self.inside in
    let inv = c.self.invariant in
    let at = made_with g.E.EmptyRecords.record_at in
    let fits = subst (λ (x : NearValue _ _). FitsTogether (of_maker g.E.EmptyRecords.device) (of_maker g.E.EmptyRecords.record_len) x) c.self.view_is
    (fits_by (of_maker g.E.EmptyRecords.device) (of_maker g.E.EmptyRecords.record_len) i.inner (record { maker = i.empty; rest = rest_of i.near }) i.device i.near (texts i.unsure.items) i.coming inv.0 inv.1 inv.2 inv.3) in
    let empties = empties_by (of_maker g.E.EmptyRecords.device) (of_maker g.E.EmptyRecords.record_len) at l fits (g.met.E.EmptyRecords.are_empty_records l.empty.maker l.empty.rest
    (subst (λ (x : NearValue _ _). length x.empty.rest ≡ g.E.EmptyRecords.rest_len x.empty.maker) c.self.view_is inv.4)) in
    let first : c.first_far.result ≡ first_far l.near.levels c.args.tree =
    c.first_far.ensures ∙ ap (λ (n : ℕ). first_far n c.args.tree) (c.levels.ensures.value ∙ ap (λ (x : NearValue _ _). x.near.levels) c.self.view_is) in
    let depth = depth_of l.device c.args.tree in
    let top : List ℕ = records_on depth c.args.leaf (first_far l.near.levels c.args.tree) l.near.record_len l.near.bytes in
    let rest : ℕ → List ℕ = λ n. records_from (at l.empty c.args.tree c.args.leaf) (n + c.args.count) (depth + 1 - (n + c.args.count)) in
    let start : c.push.new.self.items ≡ 128 ∷ [] = c.in_ok-push.ensures.items ∙ ap (λ (xs : List ℕ). xs ++ 128 ∷ []) c.in_ok-answer.ensures.items in
    let is : c.append_empty.new.path.items ≡ payload_answer (top ++ c.args.records.now ++ rest (first_far l.near.levels c.args.tree)) =
    c.in_ok-append_empty.ensures
    ∙ ap (λ (n : ℕ). c.extend_from_slice.new.self.items ++ rest n) first
    ∙ ap (λ (xs : List ℕ). xs ++ rest (first_far l.near.levels c.args.tree)) (c.in_ok-extend_from_slice.ensures.items ∙ ap (λ (xs : List ℕ). xs ++ c.args.records.now) (c.in_ok-append_near.ensures.ok ∙ ap (λ (xs : List ℕ). xs ++ top) start)) in (
      top ++ c.args.records.now ++ rest (first_far l.near.levels c.args.tree),
      is,
      unlaid_path (client_of at l) c.args.tree c.args.leaf c.args.count c.args.records.now fits.leaves_far c.in_ok-append_near.ensures.whole empties c.requires.tree c.requires.leaf c.requires.few c.requires.whole,
    )
