use Rattle.std.proofs.Common.{◌≡◌, ℕ, ◌+◌, ◌*◌, ◌/◌, ◌%◌, ◌<◌, Bool, true, false, [], ◌∷◌, ◌++◌, length, get_or, refl, ap, sym, subst, ◌∙◌, arith, Vec, Global}
use Rattle.std.proofs.lemmas.Grind.{common_steps}
use Rattle.oram_geometry.specs.Sizes.{trees_of}
use Rattle.oram_trace.specs.TapeRearrangement.{is_among, nth_place}
use Rattle.oram_trace.proofs.TreePlaces.{nth_place-of_rank, rank_of}
use Rattle.oram_trace.proofs.OtherPlaces.{kept_places-none, kept_places-one_more, kept_places-no_more, kept_places-all, marked-more, marked-all, nth_place-from}
use Rattle.oram_trace.proofs.rearrangement.places_without.Goals as goal
use Rattle.oram_trace.proofs.rearrangement.places_without.Goals.{then-not-is_among+in_ok-push, else-not-is_among, Joined-not-is_among}

pub index_mut-requires : goal.index_mut-requires
index_mut-requires c =
    let words : 2 * trees_of c.args.device.now ≡ 2 * c.from-words.result = omega (arith, c.from-words.ensures, c.trees.ensures.count) in
    let back = nth_place-of_rank c.args.device.now (get_or c.args.places.now c.loop-place.place-index 0) (length c.args.places.now)
    (c.requires.within c.loop-place.place-index 0 c.loop-place-test.true) (omega (arith, c.requires.tree)) in
    let short : rank_of (2 * c.from-words.result) (get_or c.args.places.now c.loop-place.place-index 0) < 2 * length c.args.places.now =
    subst (λ w. rank_of w (get_or c.args.places.now c.loop-place.place-index 0) < 2 * length c.args.places.now) words back.1 in
    omega (arith, short, c.loop-place.invariant.long, c.loop-place.is_among.ok.0)

pub loop-place-preserved : goal.loop-place-preserved
loop-place-preserved c = record {
  long = grind (arith, common_steps, c.loop-place.invariant.long);
  marked = λ k h. marked-more c.args.device.now c.args.tree (2 * c.from-words.result) c.loop-place.place-index k
      (get_or c.args.places.now c.loop-place.place-index 0) c.args.places.now c.loop-place.is_among.items c.requires.tree
      (omega (arith, c.from-words.ensures, c.trees.ensures.count)) c.loop-place-test.true refl
      (c.requires.within c.loop-place.place-index 0 c.loop-place-test.true) (c.requires.same_tree c.loop-place.place-index 0 c.loop-place-test.true)
      c.loop-place.invariant.long (c.loop-place.invariant.marked k h);
}

pub loop-index-init : goal.loop-index-init
loop-index-init c = c.in_ok-rest.ensures.items ∙ sym (kept_places-none c.args.device.now c.args.tree c.args.places.now)

-- what a mark of the loop means
is_kept : (c : Joined-not-is_among) (b : Bool) → get_or c.deref-is_among-items.result.now c.loop-index.index false ≡ b →
    is_among c.args.places.now (nth_place c.args.device.now c.args.tree c.loop-index.index) ≡ b
is_kept c b h =
    let marks = c.deref-is_among-items.ensures.value in
    let low : c.loop-index.index < 2 * length c.args.places.now = omega (arith, c.loop-index-test.true, ap length marks, c.loop-place.invariant.long) in
    marked-all c.args.device.now c.args.tree c.loop-index.index c.loop-place.place-index c.args.places.now c.loop-place.is_among.items b
    (omega (arith, c.loop-place-test.false)) (c.loop-place.invariant.marked c.loop-index.index low)
    (sym (ap (λ xs. get_or xs c.loop-index.index false) marks) ∙ h)

pub loop-index-preserved : goal.loop-index-preserved
loop-index-preserved c =
    let p = 2 * c.from-words.result * (c.loop-index.index / 2) + 2 * c.from-offset.result + c.loop-index.index % 2 in
    let here : p ≡ nth_place c.args.device.now c.args.tree c.loop-index.index =
    nth_place-from c.args.device.now c.args.tree c.loop-index.index c.from-words.result c.from-offset.result (c.from-words.ensures ∙ c.trees.ensures.count) c.from-offset.ensures in
    elim c.if-not-is_among.branch [
      | then-not-is_among+in_ok-push w ↦
          ap (λ (v : Vec ℕ Global). v.items) w.rest-is ∙ w.in_ok-push.ensures.items ∙ ap (λ ys. ys ++ p ∷ []) c.loop-index.invariant
          ∙ sym (kept_places-one_more c.args.device.now c.args.tree c.args.places.now c.loop-index.index p here (is_kept c false w.if-not-is_among.true))
      | else-not-is_among w ↦
          ap (λ (v : Vec ℕ Global). v.items) w.rest-is ∙ c.loop-index.invariant
          ∙ sym (kept_places-no_more c.args.device.now c.args.tree c.args.places.now c.loop-index.index (is_kept c true w.if-not-is_among.false))
    ]

pub returns : goal.returns
returns c =
    let long = c.deref-is_among-items.ensures.value in
    c.loop-index.invariant ∙ kept_places-all c.args.device.now c.args.tree c.args.places.now (length c.args.places.now) c.loop-index.index
    (omega (arith, c.loop-index-test.false, ap length long, c.loop-place.invariant.long))
