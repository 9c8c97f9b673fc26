-- Reading many values one after the other, as a loop does.
use Rattle.std.proofs.Common.{◌≡◌, ℕ, suc, ◌-◌, ◌+◌, ◌≤◌, ◌<◌, List, [], ◌∷◌, ◌++◌, Ok, Err, refl, sym, ap, ◌∙◌, append_assoc, arith}
use Rattle.std.proofs.lemmas.List.{append-nil}
use Rattle.oram_state.specs.declared.fault.StateFault.{StateFault}
use Rattle.oram_state.specs.declared.fault.StateFault.TheVariants.{Magic, Version, Length, Digest, Content, OutOfMemory}
use Rattle.oram_state.specs.Parser.{◌>>=◌, Fails, Reading, many}

-- the values read before, and those still to read
abbrev pub with_front : {X : Type 0} → List X → Reading (List X) → Reading (List X)
with_front front read = read >>= λ x. Ok (front ++ x.0, x.1)

regroup : {X : Type 0} (front : List X) (n : X) (read : Reading (List X)) → with_front front (read >>= λ x. Ok (n ∷ x.0, x.1)) ≡ with_front (front ++ n ∷ []) read
regroup front n (Ok x) = ap (λ ns. Ok (ns, x.1)) (sym (append_assoc front (n ∷ []) x.0))
regroup front n (Err f) = refl

pub goes_on : {X : Type 0} (next : List ℕ → Reading X) (front : List X) (count i : ℕ) (bytes : List ℕ) (n : X) (after : List ℕ) (total : Reading (List X)) → i < count → next bytes ≡ Ok (n, after)
    → with_front front (many next (count - i) bytes) ≡ total → with_front (front ++ n ∷ []) (many next (count - (i + 1)) after) ≡ total
unfolding many
goes_on next front count i bytes n after total lt h so_far =
    let k : count - i ≡ suc (count - (i + 1)) = omega arith in
    let one : with_front front (many next (count - i) bytes) ≡ with_front (front ++ n ∷ []) (many next (count - (i + 1)) after) = rw (k, h) (regroup front n (many next (count - (i + 1)) after)) in
    sym one ∙ so_far

fails_with : {X : Type 0} (next : List ℕ → Reading X) (f : StateFault) (front : List X) (count i : ℕ) (bytes : List ℕ) (total : Reading (List X)) → i < count → next bytes ≡ Err f
    → with_front front (many next (count - i) bytes) ≡ total → total ≡ Err f
unfolding many
fails_with next f front count i bytes total lt h so_far =
    let k : count - i ≡ suc (count - (i + 1)) = omega arith in
    let one : with_front front (many next (count - i) bytes) ≡ Err f = rw (k, h) refl in
    sym so_far ∙ one

pub ends : {X : Type 0} (next : List ℕ → Reading X) (e : StateFault) (front : List X) (count i : ℕ) (bytes : List ℕ) (total : Reading (List X)) → i < count → Fails e (next bytes)
    → with_front front (many next (count - i) bytes) ≡ total → Fails e total
ends next OutOfMemory front count i bytes total lt h so_far = tt
ends next Magic front count i bytes total lt h so_far = fails_with next Magic front count i bytes total lt h so_far
ends next Version front count i bytes total lt h so_far = fails_with next Version front count i bytes total lt h so_far
ends next Length front count i bytes total lt h so_far = fails_with next Length front count i bytes total lt h so_far
ends next Digest front count i bytes total lt h so_far = fails_with next Digest front count i bytes total lt h so_far
ends next Content front count i bytes total lt h so_far = fails_with next Content front count i bytes total lt h so_far

pub is_done : {X : Type 0} (next : List ℕ → Reading X) (front : List X) (count i : ℕ) (bytes : List ℕ) (total : Reading (List X)) → count ≤ i → with_front front (many next (count - i) bytes) ≡ total → total ≡ Ok (front, bytes)
unfolding many
is_done next front count i bytes total le so_far =
    let k : count - i ≡ 0 = omega arith in
    let one : with_front front (many next (count - i) bytes) ≡ Ok (front, bytes) = rw k (ap (λ ns. Ok (ns, bytes)) (append-nil front)) in
    sym so_far ∙ one
