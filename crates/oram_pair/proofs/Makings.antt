-- Notes that grow, and what stays so while they do.
use Rattle.std.proofs.Common.{◌≡◌, ◌≢◌, inl, inr, List, [], ◌∷◌, Result, Ok, Err, refl, sym, ap, subst, ◌⊎◌}
use Rattle.std.specs.Prelude.{OnErr}
use Rattle.oram_pair.specs.Making.{Grows, HasLog, IsAllowed, IsCareful, IsFilled, IsHeld, IsOurs, IsReady, KeepsLog, MakingExample, MayHaveFile, NeverLeavesHalf, broken_off, made_after_all}
use Rattle.oram_pair.specs.Notes.{Note, Sees, Takes, Makes, Locks, Fills, done}
use Rattle.oram_pair.specs.declared.names.PairName.{PairName}
use Rattle.oram_pair.specs.declared.names.PairName.TheVariants.{Log, NewFile, NewLog}
use Rattle.oram_pair.specs.declared.leftovers.Found.TheVariants.{Leftover}

-- what holds anyway holds after an error
pub on_err_holds : {T E : Type 0} (result : Result T E) (P : Type 0) → P → OnErr result P
on_err_holds (Ok x) P holds = tt
on_err_holds (Err e) P holds = holds

pub grows_not : (l : List Note) → Grows l l
grows_not [] = refl
grows_not (note ∷ l) = inl refl

pub grows_on : (old mid new : List Note) → Grows old mid → Grows mid new → Grows old new
grows_on old mid [] first then = subst (λ l. Grows old l) then first
grows_on old mid (note ∷ new) first (inl is) = subst (λ l. Grows old l) is first
grows_on old mid (note ∷ new) first (inr then) = inr (grows_on old mid new first then)

-- one more note
pub grows_by : (old mid new : List Note) (note : Note) → new ≡ note ∷ mid → Grows old mid → Grows old new
grows_by old mid new note is first = subst (λ l. Grows old l) (sym is) (inr first)

-- no note more
pub grows_same : (old mid new : List Note) → new ≡ mid → Grows old mid → Grows old new
grows_same old mid new is first = subst (λ l. Grows old l) (sym is) first

pub grows_none : (old new : List Note) → new ≡ old → Grows old new
grows_none old new is = grows_same old old new is (grows_not old)

pub grows_once : (old new : List Note) (note : Note) → new ≡ note ∷ old → Grows old new
grows_once old new note is = grows_by old old new note is (grows_not old)

pub grows_twice : (old mid new : List Note) (note last : Note) → mid ≡ note ∷ old → new ≡ last ∷ mid → Grows old new
grows_twice old mid new note last is then = grows_by old mid new last then (grows_once old mid note is)

pub held_on : (old new : List Note) → Grows old new → IsHeld old → IsHeld new
held_on old [] is held = subst IsHeld is held
held_on old (note ∷ new) (inl is) held = subst IsHeld is held
held_on old (note ∷ new) (inr grows) held = inr (held_on old new grows held)

pub filled_on : (old new : List Note) → Grows old new → IsFilled old → IsFilled new
filled_on old [] is filled = subst IsFilled is filled
filled_on old (note ∷ new) (inl is) filled = subst IsFilled is filled
filled_on old (note ∷ new) (inr grows) filled = inr (filled_on old new grows filled)

-- two notes of different deeds are not one
pub deeds_of : (a b : Note) → a ≡ b → a.deed ≡ b.deed
deeds_of a b is = ap (λ (note : Note). note.deed) is

-- what is ours stays so when something else is noted than its taking
pub ours_by : (name : PairName) (old new : List Note) (note : Note) → new ≡ note ∷ old → note ≢ done (Takes name) → IsOurs name old → IsOurs name new
ours_by name old new note is differs ours = subst (IsOurs name) (sym is) (inr (inr (differs, ours)))

-- both new files are filled by one more note
pub filled_by : (mid new : List Note) → new ≡ done Fills ∷ mid → IsHeld mid → IsFilled new
filled_by mid new is held = subst IsFilled (sym is) (inl (refl, held))

pub keeps_log : (notes : List Note) → IsCareful notes → KeepsLog notes
keeps_log [] careful = tt
keeps_log (note ∷ notes) (allowed, careful) = (λ takes. (subst (λ deed. IsAllowed deed notes) takes allowed).2 refl, keeps_log notes careful)

only_ready : (notes : List Note) → IsCareful notes → MayHaveFile notes → IsReady notes
only_ready [] careful may = may
only_ready (note ∷ notes) (allowed, careful) (inl (inl links)) = inr (subst (λ deed. IsAllowed deed notes) links allowed refl)
only_ready (note ∷ notes) (allowed, careful) (inl (inr renames)) = inr ((subst (λ deed. IsAllowed deed notes) renames allowed).0 refl)
only_ready (note ∷ notes) (allowed, careful) (inr may) = inr (only_ready notes careful may)

pub never_half : NeverLeavesHalf
never_half notes careful = (keeps_log notes careful, only_ready notes careful)

none_broken_off : MayHaveFile broken_off → ⊥
none_broken_off (inl (inl is)) = absurd cc
none_broken_off (inl (inr is)) = absurd cc
none_broken_off (inr (inl (inl is))) = absurd cc
none_broken_off (inr (inl (inr is))) = absurd cc
none_broken_off (inr (inr (inl (inl is)))) = absurd cc
none_broken_off (inr (inr (inl (inr is)))) = absurd cc
none_broken_off (inr (inr (inr (inl (inl is))))) = absurd cc
none_broken_off (inr (inr (inr (inl (inr is))))) = absurd cc
none_broken_off (inr (inr (inr (inr (inl (inl is)))))) = absurd cc
none_broken_off (inr (inr (inr (inr (inl (inr is)))))) = absurd cc
none_broken_off (inr (inr (inr (inr (inr (inl (inl is))))))) = absurd cc
none_broken_off (inr (inr (inr (inr (inr (inl (inr is))))))) = absurd cc
none_broken_off (inr (inr (inr (inr (inr (inr none)))))) = absurd none

careful_broken_off : IsCareful broken_off
careful_broken_off = (tt, ((λ is. absurd cc), (tt, (tt, (tt, (tt, tt))))))

no_log_yet : HasLog (done (Sees Log Leftover) ∷ done Fills ∷ done (Makes NewLog) ∷ done Locks ∷ done (Makes NewFile) ∷ []) → ⊥
no_log_yet (inl (inl is, filled)) = let e = deeds_of _ _ is in absurd cc
no_log_yet (inl (inr is, filled)) = let e = deeds_of _ _ is in absurd cc
no_log_yet (inr (inl (inl is, filled))) = let e = deeds_of _ _ is in absurd cc
no_log_yet (inr (inl (inr is, filled))) = let e = deeds_of _ _ is in absurd cc
no_log_yet (inr (inr (inl (inl is, filled)))) = let e = deeds_of _ _ is in absurd cc
no_log_yet (inr (inr (inl (inr is, filled)))) = let e = deeds_of _ _ is in absurd cc
no_log_yet (inr (inr (inr (inl (inl is, filled))))) = let e = deeds_of _ _ is in absurd cc
no_log_yet (inr (inr (inr (inl (inr is, filled))))) = let e = deeds_of _ _ is in absurd cc
no_log_yet (inr (inr (inr (inr (inl (inl is, filled)))))) = let e = deeds_of _ _ is in absurd cc
no_log_yet (inr (inr (inr (inr (inl (inr is, filled)))))) = let e = deeds_of _ _ is in absurd cc
no_log_yet (inr (inr (inr (inr (inr none))))) = absurd none

careful_after_all : IsCareful made_after_all
careful_after_all = (
  tt,
  (
    (λ is. absurd cc, inr (inr (λ is. (let e = deeds_of _ _ is in absurd cc), inr (inr (λ is. (let e = deeds_of _ _ is in absurd cc), inr (inr (λ is. (let e = deeds_of _ _ is in absurd cc), inr (inr (λ is. (let e = deeds_of _ _ is in absurd cc), inr (inr (λ is. (let e = deeds_of _ _ is in absurd cc), inr (inr (λ is. (let e = deeds_of _ _ is in absurd cc), inr (inr (λ is. (let e = deeds_of _ _ is in absurd cc), inr (inr (λ is. (let e = deeds_of _ _ is in absurd cc), inr (inr (λ is. (let e = deeds_of _ _ is in absurd cc), inr (inl refl))))))))))))))))))), λ is. absurd cc),
    (
      (λ is. inl (refl, inr (inl (inl refl, inr (inr (inl (refl, inr (inl (refl, inl refl))))))))),
      (
        tt,
        (
          (λ is. absurd cc, inr (inr (λ is. (let e = deeds_of _ _ is in absurd cc), inr (inr (λ is. (let e = deeds_of _ _ is in absurd cc), inr (inr (λ is. (let e = deeds_of _ _ is in absurd cc), inr (inr (λ is. (let e = deeds_of _ _ is in absurd cc), inr (inl refl))))))))), λ is. absurd cc),
          ((λ is. absurd cc), ((λ is. absurd cc, inl refl, λ is has. no_log_yet has), (tt, (tt, (tt, (tt, (tt, tt))))))),
        ),
      ),
    ),
  ),
)

pub making_example : MakingExample
making_example = ((careful_broken_off, none_broken_off), (careful_after_all, inr (inr (inl (inl refl))), inl (refl, inr (inl (inl refl)))))
