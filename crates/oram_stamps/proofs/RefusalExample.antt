-- A life in which the host has no room for a STORE.
use Rattle.std.proofs.Common.{true, ℕ, zero, suc, ◌≤◌, arith, [], ◌∷◌, refl, inl}
use Rattle.std.specs.List.{FoldsTo}
use Rattle.oram_stamps.specs.Known.{EndsIn, IsMismatch, StandsAt, Stamps, first_stamp}
use Rattle.oram_stamps.specs.Lives.{Happens, Life, RefusalExample, again_events, again_stamp, batch, carried_out, new_life, refused_events, refused_stamp}
use Rattle.oram_stamps.specs.Lives.Event.{Answers}
use Rattle.oram_stamps.specs.Lives.Message.{Puts, Stores}
use Rattle.oram_stamps.specs.declared.known.Mismatch.TheVariants.{OlderHost}
use Rattle.oram_stamps.specs.declared.stamp.Place.TheVariants.{Begun, Done}
use Rattle.oram_stamps.proofs.LifeExample.{all_one, file_with, knows, life, one, shown_first}

abbrev file : Stamps
file = (new_life 6).file

abbrev first_time : Stamps
first_time = knows all_one 0 0 refused_stamp

abbrev second_time : Stamps
second_time = knows all_one 0 0 again_stamp

-- the life after the refusal
abbrev refused : Life
refused = life first_time file true (file_with refused_stamp refused_stamp first_stamp) []

-- the life once all messages have arrived that were sent again
abbrev arrived : Life
arrived = life second_time file true (carried_out again_stamp) []

-- the life once the process knows that
abbrev answered : Life
answered = life (knows (again_stamp ∷ []) 0 0 again_stamp) file true (carried_out again_stamp) []

ends_first : EndsIn all_one refused_stamp
ends_first = (omega arith, (refl, omega arith))

ends_second : EndsIn all_one again_stamp
ends_second = (omega arith, (refl, omega arith))

to_refusal : FoldsTo Happens (new_life 6) refused_events refused
to_refusal = (
  life (knows all_one 0 0 one) file true (carried_out first_stamp) [],
  (knows all_one 0 0 one, refl, shown_first, refl),
  (
    life first_time file true (carried_out first_stamp) (batch refused_stamp),
    (refl, (first_time, inl (ends_first, refl), refl)),
    (
      life first_time file true (file_with refused_stamp first_stamp first_stamp) (Stores refused_stamp ∷ Puts Done refused_stamp ∷ []),
      (Puts Begun refused_stamp, Stores refused_stamp ∷ Puts Done refused_stamp ∷ [], refl, refl),
      (
        life first_time file true (file_with refused_stamp first_stamp first_stamp) (Puts Done refused_stamp ∷ []),
        (refused_stamp, Puts Done refused_stamp ∷ [], refl, refl),
        (refused, (Puts Done refused_stamp, [], refl, refl), refl),
      ),
    ),
  ),
)

to_arrival : FoldsTo Happens refused again_events arrived
to_arrival = (
  life second_time file true (file_with refused_stamp refused_stamp first_stamp) (batch again_stamp),
  (refl, (second_time, inl (ends_second, refl), refl)),
  (
    life second_time file true (file_with again_stamp refused_stamp first_stamp) (Stores again_stamp ∷ Puts Done again_stamp ∷ []),
    (Puts Begun again_stamp, Stores again_stamp ∷ Puts Done again_stamp ∷ [], refl, refl),
    (
      life second_time file true (file_with again_stamp refused_stamp again_stamp) (Puts Done again_stamp ∷ []),
      (Stores again_stamp, Puts Done again_stamp ∷ [], refl, refl),
      (arrived, (Puts Done again_stamp, [], refl, refl), refl),
    ),
  ),
)

to_answer : Happens arrived Answers answered
to_answer = (refl, refl, refl)

not_shown : (i : ℕ) → ¬ StandsAt (again_stamp ∷ []) i refused_stamp
not_shown zero at = less at.1.1
  where
    less : 3 ≤ 2 → ⊥
    less le = omega (arith, le)
not_shown (suc i) at = omega (arith, at.0)

older : IsMismatch answered.live refused.host.shown OlderHost
older = (λ unknown. less unknown.later, λ allowed. not_shown allowed.1 allowed.2.done_at)
  where
    less : 3 ≤ 2 → ⊥
    less le = omega (arith, le)

pub refusal_example : RefusalExample
refusal_example =
    let at : StandsAt (again_stamp ∷ []) 0 again_stamp = (omega arith, (refl, omega arith)) in (
      refused,
      arrived,
      answered,
      to_refusal,
      to_arrival,
      to_answer,
      refl,
      refl,
      (0, 0, record { begun_at = at; done_at = at; begun_since = omega arith; done_since = omega arith; in_order = omega arith }),
      older,
    )
