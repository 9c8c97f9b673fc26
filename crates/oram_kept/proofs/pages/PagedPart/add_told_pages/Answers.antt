use Rattle.std.proofs.Common.{List, ℕ, get_or, subst, arith}
use Rattle.std.specs.List.{Contains}
use Rattle.std.proofs.lemmas.List.Elements.{Contains-get_or}
use Rattle.oram_kept.proofs.pages.PagedPart.add_told_pages.Goals as goal

pub add_pages-requires-clause-indexes : goal.add_pages-requires-clause-indexes
add_pages-requires-clause-indexes c k d within =
    let told : List ℕ = c.deref.result.now in
    let is : Contains c.in_ok-told.told.items (get_or told k d) = subst (λ (l : List ℕ). Contains l (get_or told k d)) c.deref.ensures.value (Contains-get_or told k d within) in
    omega (arith, c.requires.len, c.len.ensures, c.pages_for.ensures, (c.in_ok-told.ensures.told (get_or told k d) is).0)
