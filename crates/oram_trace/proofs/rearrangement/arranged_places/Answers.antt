use Rattle.std.proofs.Common.{◌≡◌, ◌<◌, length, ap, sym, subst, ◌∙◌, arith}
use Rattle.std.specs.List.{All}
use Rattle.oram_trace.specs.TapeRearrangement.{tape_len, tree_of_place, shown_places, places_of, rest_without}
use Rattle.oram_trace.proofs.Arranged.{shown_places-length, shown_places-within, shown_places-tree, arranged_places-from}
use Rattle.oram_trace.proofs.rearrangement.arranged_places.Goals as goal

pub places_without-requires-clause-few : goal.places_without-requires-clause-few
places_without-requires-clause-few c =
    let long = shown_places-length c.args.device.now c.args.addresses.now c.args.tree c.requires.tree in
    omega (arith, long, ap length c.deref.ensures.value, ap length c.in_ok-places.ensures, c.requires.few)

pub places_without-requires-clause-within : goal.places_without-requires-clause-within
places_without-requires-clause-within c =
    let d = c.args.device.now in
    let xs = c.args.addresses.now in
    let i = c.args.tree in
    subst (λ ps. All (λ p. p < tape_len d (length ps)) ps) (sym (c.deref.ensures.value ∙ c.in_ok-places.ensures))
    (subst (λ n. All (λ p. p < tape_len d n) (shown_places d xs i)) (sym (shown_places-length d xs i c.requires.tree)) (shown_places-within d xs i c.requires.tree))

pub places_without-requires-clause-same_tree : goal.places_without-requires-clause-same_tree
places_without-requires-clause-same_tree c =
    subst (All (λ p. tree_of_place c.args.device.now p ≡ c.args.tree)) (sym (c.deref.ensures.value ∙ c.in_ok-places.ensures))
    (shown_places-tree c.args.device.now c.args.addresses.now c.args.tree c.requires.tree)

pub returns : goal.returns
returns c = arranged_places-from c.args.device.now c.args.addresses.now c.args.tree c.in_ok-places.places.items c.deref-2.result.now c.extend_from_slice.new.self.items c.requires.tree
    c.in_ok-places.ensures
    (c.deref-2.ensures.value ∙ c.in_ok-rest.ensures
    ∙ ap (λ ps. rest_without ps (places_of c.args.device.now c.args.tree (length ps))) c.deref.ensures.value)
    c.in_ok-extend_from_slice.ensures.items
