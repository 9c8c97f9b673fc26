use Rattle.std.proofs.Common.{◌≡◌, ◌+◌, ◌*◌, ◌<◌, ◌^◌, Some, None, ◌∷◌, ◌++◌, [], map, length, refl, ap, sym, ◌∙◌, arith, rules}
use Rattle.std.proofs.lemmas.List.FromFn.{map-range_with_len_more}
use Rattle.std.specs.List.{range_with_len}
use Rattle.oram_trace.specs.Tape.{place, place_after}
use Rattle.oram_trace.specs.TapeRearrangement.{shown_places}
use Rattle.oram_trace.proofs.Uses.{last_with-none, last_with-below, last_with-put, place-last_with, place_fits}
use Rattle.oram_trace.proofs.rearrangement.shown_places.Goals as goal
use Rattle.oram_trace.proofs.rearrangement.shown_places.Goals.{in-Some, in-None, In-Some, In_ok-push}

pub loop-index-init : goal.loop-index-init
loop-index-init c = record {
  places = search rules;
  last = λ block. (let empty = c.new-last_uses.ensures.empty in rw empty (sym (last_with-none c.args.device.now c.args.addresses.now c.args.tree block)));
}

last_before : (c : In-Some) → c.in-Some.last < c.loop-index.index
last_before c = last_with-below c.args.device.now c.args.addresses.now c.args.tree c.loop-index.index c.address_in-block.result c.in-Some.last
    (sym (c.loop-index.invariant.last c.address_in-block.result) ∙ sym c.in_ok-last.ensures.old ∙ c.in-Some.is)

place_below : (c : In-Some) → 2 * c.from-words.result * c.in-Some.last + (2 * c.from-offset.result + 1) < 2 ^ 60
place_below c =
    place_fits c.from-words.result c.in-Some.last c.loop-index.index (2 * c.from-offset.result + 1)
    (omega (arith, c.from-words.ensures, c.trees.ensures.few)) (last_before c) (omega (arith, c.loop-index-test.true, c.requires.few))
    (omega (arith, c.from-offset.ensures, c.requires.tree, c.from-words.ensures, c.trees.ensures.count))

pub overflow_mul-place : goal.overflow_mul-place
overflow_mul-place c = (let low = place_below c in omega arith)

pub overflow_add-place : goal.overflow_add-place
overflow_add-place c = (let low = place_below c in omega arith)

pub overflow_add-place-in-Some : goal.overflow_add-place-in-Some
overflow_add-place-in-Some c = (let low = place_below c in omega arith)

placed : (c : In_ok-push) → c.match-branch-3.place ≡ place c.args.device.now c.args.addresses.now c.args.tree c.loop-index.index
placed c =
    let found = place-last_with c.args.device.now c.args.addresses.now c.args.tree c.loop-index.index c.address_in-block.result c.in_ok-last.field-0
    c.address_in-block.ensures.value (c.in_ok-last.ensures.old ∙ c.loop-index.invariant.last c.address_in-block.result) in
    elim c.match-branch-3.branch [
      | in-Some w ↦
          let here : place c.args.device.now c.args.addresses.now c.args.tree c.loop-index.index ≡ place_after c.args.device.now c.args.tree c.loop-index.index (Some w.in-Some.last) =
          found ∙ ap (place_after c.args.device.now c.args.tree c.loop-index.index) w.in-Some.is in
          w.place-is ∙ sym (here ∙ rw (← c.trees.ensures.count, ← c.from-words.ensures, ← c.from-offset.ensures) refl)
      | in-None w ↦
          let here : place c.args.device.now c.args.addresses.now c.args.tree c.loop-index.index ≡ place_after c.args.device.now c.args.tree c.loop-index.index None =
          found ∙ ap (place_after c.args.device.now c.args.tree c.loop-index.index) w.in-None.is in
          w.place-is ∙ sym (here ∙ rw (← c.trees.ensures.count, ← c.from-words.ensures, ← c.from-offset.ensures) refl)
    ]

pub loop-index-preserved : goal.loop-index-preserved
loop-index-preserved c = record {
  places = c.in_ok-push.ensures.items
      ∙ ap (λ ys. ys ++ c.match-branch-3.place ∷ []) c.loop-index.invariant.places
      ∙ ap (λ p. map (place c.args.device.now c.args.addresses.now c.args.tree) (range_with_len 0 c.loop-index.index) ++ p ∷ []) (placed c)
      ∙ sym (map-range_with_len_more (place c.args.device.now c.args.addresses.now c.args.tree) 0 c.loop-index.index c.loop-index.index (omega arith));
  last = last_with-put c.args.device.now c.args.addresses.now c.args.tree c.loop-index.index c.address_in-block.result c.loop-index.last_uses c.insert.new.self
      c.address_in-block.ensures.value c.in_ok-last.ensures.updates c.loop-index.invariant.last;
}

pub returns : goal.returns
unfolding shown_places
returns c =
    let all : c.loop-index.index ≡ length c.args.addresses.now = omega (arith, c.loop-index-test.false) in
    c.loop-index.invariant.places ∙ ap (λ n. map (place c.args.device.now c.args.addresses.now c.args.tree) (range_with_len 0 n)) all
