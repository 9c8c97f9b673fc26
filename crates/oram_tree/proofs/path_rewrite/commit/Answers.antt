use Rattle.std.proofs.Common.{◌<◌, ℕ, List, AllPairs, Contains, inl, inr, sym, subst}
use Rattle.oram_tree.proofs.path_rewrite.commit.Goals as goal

pub keep_left_over-requires-clause-apart : goal.keep_left_over-requires-clause-apart
keep_left_over-requires-clause-apart c x y here there same = let was = (c.take_before-lookup.ensures.others x).0 here in was.1 (c.requires.apart x y was.0 there same)

pub keep_left_over-requires-clause-stays : goal.keep_left_over-requires-clause-stays
keep_left_over-requires-clause-stays c = let P : List ℕ → Type 0 = AllPairs (λ a b. a < b) in subst P (sym c.deref.ensures.value) c.requires.stays

pub returns-clause-kept : goal.returns-clause-kept
returns-clause-kept c x =
    let P : List ℕ → Type 0 = λ stays. Contains stays x.address in
    let others = c.take_before-lookup.ensures.others x in
    let kept = c.keep_left_over.ensures.kept x in (
      λ inside. let k = kept.0 inside in (elim k.0 [ inl here ↦ inl (others.0 here) | inr there ↦ inr there ], subst P c.deref.ensures.value k.1),
      λ (from, stays). kept.1 (elim from [ inl here ↦ inl (others.1 here) | inr there ↦ inr there ], subst P (sym c.deref.ensures.value) stays),
    )
