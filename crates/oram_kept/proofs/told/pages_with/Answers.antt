use Rattle.std.proofs.Common.{List, ℕ, get_or, sym, subst, arith}
use Rattle.std.specs.List.Sorted.{IsNonDecreasing, IsPermutation}
use Rattle.std.proofs.lemmas.List.Elements.{Contains-get_or}
use Rattle.oram_kept.specs.declared.text.ChangedRecords.TheVariants.{At}
use Rattle.oram_kept.proofs.ToldPages.{all_covered, one_covered}
use Rattle.oram_kept.proofs.told.pages_with.Goals as goal

pub add_range-requires-clause-small : goal.add_range-requires-clause-small
add_range-requires-clause-small c k d within =
    let pages : List ℕ = c.loop-index.pages.items in
    omega (arith, c.requires, (c.loop-index.invariant.only (get_or pages k d) (Contains-get_or pages k d within)).0)

pub loop-index-preserved : goal.loop-index-preserved
loop-index-preserved c =
    let records : List ℕ = c.deref-index-items.result.now in
    let order : IsNonDecreasing records = subst IsNonDecreasing (sym c.deref-index-items.ensures.value) c.in_ok-sorted.ensures.rising in
    let range = c.pages_of-range in
    one_covered c.args.record_len c.args.count records c.loop-index.index-index range.result.first c.min-end.result _ _ order c.loop-index-test.true c.in_ok-add_range.ensures c.loop-index.invariant
    (omega (arith, c.min-end.ensures))
    (λ j low high. range.ensures.inside j low (omega (arith, c.min-end.ensures, high)))
    (λ j fits is. let on = range.ensures.all j is in (on.0, omega (arith, c.min-end.ensures, fits, on.1)))

pub returns : goal.returns
returns c =
    let records : List ℕ = c.deref-index-items.result.now in
    let same : IsPermutation c.args.indexes.now records = subst (λ (l : List ℕ). IsPermutation c.args.indexes.now l) (sym c.deref-index-items.ensures.value) c.in_ok-sorted.ensures.same in
    all_covered (At c.args.record_len c.args.indexes) c.args.record_len c.args.count c.args.indexes.now records c.loop-index.index-index c.loop-index.pages.items same c.loop-index-test.false c.loop-index.invariant
    (λ j i is on. (i, is, on)) (λ j is. is)
