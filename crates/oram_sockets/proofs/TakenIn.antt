-- Bytes that were taken in from a stream, and those that were read of them.
use Rattle.std.proofs.Common.{◌≡◌, ℕ, ◌+◌, ◌-◌, ◌≤◌, List, [], ◌∷◌, ◌++◌, Option, None, Some, length, take, drop, refl, sym, ap, ◌∙◌, subst, arith, append_assoc, take-append-drop, take-take, take_at, drop-drop, length-append}
use Rattle.std.proofs.Math.Seq.{take-append-add}
use Rattle.std.proofs.lemmas.List.{take-append-le, drop-append-le, take_all}
use Rattle.std.specs.Io.KnownBytes.{Consumes, Keeps, ReadConsumes, prepend_known}
use Rattle.std.specs.Prelude.{Result}

-- a stream's bytes were added to those that had arrived
added : (a b : Option (List ℕ)) (old new bytes : List ℕ) → Consumes a b bytes → new ≡ old ++ bytes → Keeps (prepend_known old a) (prepend_known new b)
added None b old new bytes consumed is = tt
added (Some x) None old new bytes consumed is = absurd consumed
added (Some x) (Some y) old new bytes consumed is =
    ap (λ (l : List ℕ). l ++ y) is ∙ append_assoc old bytes y ∙ ap (λ (l : List ℕ). old ++ l) (sym consumed)

-- the front of a vector with a piece put behind it, as far as the piece was filled
filled : (front piece behind rest : List ℕ) (before count size : ℕ) → length front ≡ before → count ≤ length piece → before + count ≤ size
    → take (before + count) (take size ((front ++ (piece ++ behind)) ++ rest)) ≡ front ++ take count piece
filled front piece behind rest before count size long within fits =
    let whole : List ℕ = front ++ (piece ++ behind) in
    let inside : before + count ≤ length whole = omega (arith, long, within, length-append front (piece ++ behind), length-append piece behind) in
    take-take (before + count) size (whole ++ rest) fits ∙ take-append-le (before + count) whole rest inside
    ∙ ap (λ (n : ℕ). take (n + count) whole) (sym long) ∙ take-append-add front (piece ++ behind) count
    ∙ ap (λ (l : List ℕ). front ++ l) (take-append-le count piece behind within)

-- what was taken in stands behind what had arrived
pub taken_in : (a b : Option (List ℕ)) (old whole zeros piece behind rest new : List ℕ) (taken before count end size : ℕ) → taken ≤ length old → before ≡ length old → before ≤ end
    → whole ≡ take end old ++ zeros → count ≤ length piece → before + count ≤ size
    → new ≡ take (before + count) (take size ((take before whole ++ (piece ++ behind)) ++ rest)) → Consumes a b (take count piece)
    → Keeps (prepend_known (drop taken old) a) (prepend_known (drop taken new) b)
taken_in a b old whole zeros piece behind rest new taken before count end size low long room is within fits new_is consumed =
    let front : take before whole ≡ old =
    ap (λ (l : List ℕ). take before l) (is ∙ ap (λ (l : List ℕ). l ++ zeros) (take_all end old (omega (arith, long, room)))) ∙ take-append-le before old zeros (omega (arith, long)) ∙ take_all before old (omega (arith, long)) in
    let all : new ≡ old ++ take count piece =
    new_is ∙ filled (take before whole) piece behind rest before count size (ap length front ∙ sym long) within fits ∙ ap (λ (l : List ℕ). l ++ take count piece) front in
    added a b (drop taken old) (drop taken new) (take count piece) consumed (ap (drop taken) all ∙ drop-append-le taken old (take count piece) low)

-- nothing had arrived, and the stream was read
pub read_on : {E : Type 0} (a b : Option (List ℕ)) (unread : List ℕ) (r : Result ℕ E) (buf : List ℕ) → length unread ≡ 0 → ReadConsumes a b r buf
    → ReadConsumes (prepend_known unread a) (prepend_known unread b) r buf
read_on a b [] r buf none read = subst (λ (x : Option (List ℕ)). ReadConsumes x (prepend_known [] b) r buf) (nothing a) (subst (λ (y : Option (List ℕ)). ReadConsumes a y r buf) (nothing b) read)
  where
    nothing : (x : Option (List ℕ)) → x ≡ prepend_known [] x
    nothing None = refl
    nothing (Some x) = refl
read_on a b (x ∷ unread) r buf none read = absurd (omega (arith, none))

-- the front of what had arrived was read
pub read_front : (a : Option (List ℕ)) (arrived buf piece : List ℕ) (taken count : ℕ) → length piece ≡ count → piece ≡ take ((taken + count) - taken) (drop taken arrived)
    → Consumes (prepend_known (drop taken arrived) a) (prepend_known (drop (taken + count) arrived) a) (take count (piece ++ buf))
read_front a arrived buf piece taken count long is = by a
  where
    n : (taken + count) - taken ≡ count
    n = omega arith

    split : drop taken arrived ≡ take count (piece ++ buf) ++ drop (taken + count) arrived
    split =
        sym (take-append-drop count (drop taken arrived))
        ∙ ap (λ (l : List ℕ). l ++ drop count (drop taken arrived)) (sym (take_at piece buf count long ∙ is ∙ ap (λ (m : ℕ). take m (drop taken arrived)) n))
        ∙ ap (λ (l : List ℕ). take count (piece ++ buf) ++ l) (drop-drop count taken arrived)

    by : (a : Option (List ℕ)) → Consumes (prepend_known (drop taken arrived) a) (prepend_known (drop (taken + count) arrived) a) (take count (piece ++ buf))
    by None = tt
    by (Some x) = ap (λ (l : List ℕ). l ++ x) split ∙ append_assoc (take count (piece ++ buf)) (drop (taken + count) arrived) x
