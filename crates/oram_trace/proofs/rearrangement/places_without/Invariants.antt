use Rattle.std.proofs.Common.{◌≡◌, ℕ, ◌*◌, ◌<◌, false, take, length, get_or}
use Rattle.oram_trace.specs.TapeRearrangement.{is_among, nth_place}
use Rattle.oram_trace.proofs.OtherPlaces.{kept_places}
use Rattle.oram_trace.proofs.rearrangement.places_without.Given as goal

-- the places so far are marked
abbrev pub invariant-loop-place : goal.invariant-loop-place
invariant-loop-place l = record {
  long : length l.is_among.items ≡ 2 * length l.places;
  marked : (k : ℕ) → k < 2 * length l.places → get_or l.is_among.items k false ≡ is_among (take l.place-index l.places) (nth_place l.device l.tree k);
}

-- those places so far that aren't marked are kept
abbrev pub invariant-loop-index : goal.invariant-loop-index
invariant-loop-index l = l.rest.items ≡ kept_places l.device l.tree l.places l.index
