use Rattle.std.proofs.Common.{◌≡◌, ℕ, [], ◌∷◌, ◌++◌, length, get_or, sym, ◌∙◌, subst, inl, inr, arith}
use Rattle.std.proofs.lemmas.Bool.{cases_lt}
use Rattle.std.proofs.lemmas.List.{get_or_append_left, get_or_push, get_or_default}
use Rattle.oram_geometry.specs.Sizes.{depth_of as depth}
use Rattle.oram_geometry.specs.Path.{MeetsAt}
use Rattle.oram_stash.specs.Plan.{IsShared}
use Rattle.oram_stash.proofs.levels.shared_levels.Goals as goal

pub loop-own-preserved : goal.loop-own-preserved
loop-own-preserved c =
    let deep = depth c.args.device.now c.args.tree in
    let leaves = c.args.leaves.now in
    let facts = c.in_ok-push.ensures {u = tt} in
    let meets = c.shared_level.ensures.meets in
    let i = c.loop-own.own-index in
    let long : length c.loop-own.shared.items ≡ i = sym c.loop-own.shared.ok.0 ∙ c.loop-own.invariant.count in
    let read = λ (d : ℕ). get_or_default leaves i d 0 c.loop-own-test.true in
    record {
      count = omega (arith, facts.len, c.loop-own.invariant.count);
      each = λ j lt. rw facts.items (elim (cases_lt j i) [
        | inl before ↦ rw (get_or_append_left c.loop-own.shared.items (c.shared_level.result ∷ []) 0 j (omega arith)) (c.loop-own.invariant.each j before)
        | inr not_before ↦
            let here : i ≡ j = omega arith in
            subst (λ n. IsShared deep c.args.leaf leaves n (get_or (c.loop-own.shared.items ++ c.shared_level.result ∷ []) n 0)) here
            (rw (get_or_push c.loop-own.shared.items c.shared_level.result 0 i long) (record {
              in_tree = c.shared_level.ensures.greatest.within;
              reaches = λ k le. (λ reaches. (meets k le).0 (reaches 0), λ within d. subst (λ (own : ℕ). MeetsAt deep c.args.leaf own k) (sym (read d)) ((meets k le).1 within));
            }))
      ]);
    }
