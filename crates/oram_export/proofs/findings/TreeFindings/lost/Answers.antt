use Rattle.std.proofs.Common.{◌≡◌, ◌+◌, ◌<◌, ◌≤◌, List, arith, ap, sym, ◌∙◌, get_or, take, sum_by, subst}
use Rattle.std.proofs.lemmas.List.Sums.{sum_by_more_le}
use Rattle.oram_export.specs.Findings.{count_of, lost_of, none_found}
use Rattle.oram_export.specs.declared.findings.LevelFindings.{LevelFindings}
use Rattle.oram_export.proofs.Counting.{lost_within}
use Rattle.oram_export.proofs.findings.TreeFindings.lost.Goals as goal

pub overflow_add-lost : goal.overflow_add-lost
overflow_add-lost c =
    let levels = c.deref-level-items.result.now in
    let i = c.loop-level.level-index in
    let few : sum_by count_of levels < 4294967296 = subst (λ (xs : List LevelFindings). sum_by count_of xs < 4294967296) (sym c.deref-level-items.ensures.value) c.self.invariant in
    let so_far : c.loop-level.lost ≡ sum_by lost_of (take i levels) = c.loop-level.invariant ∙ ap (λ (xs : List LevelFindings). sum_by lost_of (take i xs)) (sym (c.deref-level-items.ensures.value ∙ c.self.view_is)) in
    let more : sum_by lost_of (take i levels) + lost_of (get_or levels i none_found) ≤ sum_by lost_of levels = sum_by_more_le lost_of levels i none_found c.loop-level-test.true in
    let now = c.lost-lost.ensures in
    omega (arith, few, so_far, more, now, lost_within levels)
