use Rattle.std.proofs.Common.{List, ℕ, ◌≤◌, subst, arith}
use Rattle.std.specs.List.{Contains}
use Rattle.oram_kept.proofs.ToldPages.{one_added, range_added}
use Rattle.oram_kept.proofs.told.add_range.Goals as goal

pub loop-page-preserved : goal.loop-page-preserved
loop-page-preserved c =
    one_added c.max-first.result c.args.range.end c.loop-page.page c.args.pages.now.items c.loop-page.pages.items _ c.loop-page.invariant c.loop-page.auto.page c.loop-page-test.true c.in_ok-push.ensures.items

pub returns : goal.returns
returns c =
    let old : List ℕ = c.args.pages.now.items in
    range_added c.args.range.first c.max-first.result c.args.range.end c.next_index.result c.loop-page.page old c.loop-page.pages.items c.loop-page.invariant c.loop-page-test.false
    (omega (arith, c.max-first.ensures)) (λ j low high. omega (arith, c.max-first.ensures, low, high))
    (λ j below. subst (λ (l : List ℕ). (last : ℕ) × Contains l last × (j ≤ last)) c.deref.ensures.value (c.next_index.ensures.least j below))
