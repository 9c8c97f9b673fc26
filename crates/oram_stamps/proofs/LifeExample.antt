-- A life in which messages are lost.
use Rattle.std.proofs.Common.{◌≡◌, Bool, true, false, ℕ, zero, suc, ◌<◌, ◌≤◌, arith, List, [], ◌∷◌, refl, inr}
use Rattle.std.specs.List.{FoldsTo}
use Rattle.oram_stamps.specs.Known.{EndsIn, IsMismatch, IsTakenOver, StandsAt, Stamps, first_stamp}
use Rattle.oram_stamps.specs.Lives.{Happens, HostFile, Life, LifeExample, Message, batch, carried_out, example_events, last_stamp, new_life}
use Rattle.oram_stamps.specs.Lives.Event.{Keeps, Sends, Arrives, Answers, Shows}
use Rattle.oram_stamps.specs.Lives.Message.{Puts, Stores}
use Rattle.oram_stamps.specs.declared.known.Mismatch.TheVariants.{OlderState}
use Rattle.oram_stamps.specs.declared.stamp.Place.TheVariants.{Begun, Done}
use Rattle.oram_stamps.specs.declared.stamp.Stamp.{Stamp}

abbrev pub stamp : ℕ → ℕ → Stamp
stamp number check = record { number = number; check = check }

abbrev pub one : Stamp
one = stamp 1 6

abbrev two : Stamp
two = stamp 2 7

abbrev pub knows : List Stamp → ℕ → ℕ → Stamp → Stamps
knows may begun done current = record { may = may; begun = begun; done = done; current = current }

abbrev pub file_with : Stamp → Stamp → Stamp → HostFile
file_with begun done stored = record { shown = record { begun = begun; done = done }; stored = stored }

abbrev pub life : Stamps → Stamps → Bool → HostFile → List Message → Life
life live file connected host way = record { live = live; file = file; connected = connected; host = host; way = way }

abbrev pub all_one : List Stamp
all_one = first_stamp ∷ one ∷ []

abbrev all_two : List Stamp
all_two = first_stamp ∷ one ∷ two ∷ []

abbrev all_three : List Stamp
all_three = first_stamp ∷ one ∷ two ∷ last_stamp ∷ []

abbrev from_two : Stamps
from_two = knows all_two 0 0 two

abbrev from_three : Stamps
from_three = knows all_three 2 0 last_stamp

-- the host's file after the first message of the second keeping
abbrev half : HostFile
half = file_with two first_stamp first_stamp

apart : (m n : ℕ) → m < n → ¬ ◌≡◌ {A = ℕ} n m
apart m n less same = omega (arith, less, same)

-- a new disk's host shows the first stamp
pub shown_first : IsTakenOver (new_life 6).live (carried_out first_stamp).shown (knows all_one 0 0 one)
shown_first = record {
  begun = 0;
  done = 0;
  allowed = record {
    begun_at = (omega arith, (refl, omega arith));
    done_at = (omega arith, (refl, omega arith));
    begun_since = omega arith;
    done_since = omega arith;
    in_order = omega arith;
  };
  first = λ b d m. (omega arith, omega arith);
  after = refl;
}

-- the second keeping stands only at the end
only_third : (i : ℕ) → StandsAt all_two i two → 2 ≤ i
only_third zero at = absurd (apart 0 7 (omega arith) at.1.0)
only_third (suc zero) at = absurd (apart 6 7 (omega arith) at.1.0)
only_third (suc (suc i)) at = omega arith

taken : IsTakenOver from_two half.shown (knows all_two 2 0 two)
taken = record {
  begun = 2;
  done = 0;
  allowed = record {
    begun_at = (omega arith, (refl, omega arith));
    done_at = (omega arith, (refl, omega arith));
    begun_since = omega arith;
    done_since = omega arith;
    in_order = omega arith;
  };
  first = λ b d m. (only_third b m.begun_at, omega arith);
  after = refl;
}

-- an older state doesn't know the last stamp
not_known : (i : ℕ) → ¬ StandsAt all_one i last_stamp
not_known zero at = apart 0 8 (omega arith) at.1.0
not_known (suc zero) at = apart 6 8 (omega arith) at.1.0
not_known (suc (suc i)) at = omega (arith, at.0)

new_two : ¬ EndsIn all_one two
new_two ends = apart 6 7 (omega arith) ends.1.0

new_three : ¬ EndsIn all_two last_stamp
new_three ends = apart 7 8 (omega arith) ends.1.0

pub life_example : LifeExample
life_example =
    let none : HostFile = carried_out first_stamp in
    let end : Life = life (knows (last_stamp ∷ []) 0 0 last_stamp) from_three true (carried_out last_stamp) [] in
    let all_arrive : FoldsTo Happens (life from_three from_three true half (batch last_stamp)) (Arrives ∷ Arrives ∷ Arrives ∷ Answers ∷ []) end = (
      life from_three from_three true (file_with last_stamp first_stamp first_stamp) (Stores last_stamp ∷ Puts Done last_stamp ∷ []),
      (Puts Begun last_stamp, Stores last_stamp ∷ Puts Done last_stamp ∷ [], refl, refl),
      (
        life from_three from_three true (file_with last_stamp first_stamp last_stamp) (Puts Done last_stamp ∷ []),
        (Stores last_stamp, Puts Done last_stamp ∷ [], refl, refl),
        (
          life from_three from_three true (carried_out last_stamp) [],
          (Puts Done last_stamp, [], refl, refl),
          (end, (refl, refl, refl), refl),
        ),
      ),
    ) in
    let second : FoldsTo Happens (life from_two from_two false half []) (Shows ∷ Keeps 8 ∷ Sends ∷ Arrives ∷ Arrives ∷ Arrives ∷ Answers ∷ []) end = (
      life (knows all_two 2 0 two) from_two true half [],
      (knows all_two 2 0 two, refl, taken, refl),
      (
        life (knows all_two 2 0 (stamp 2 8)) from_three true half [],
        refl,
        (life from_three from_three true half (batch last_stamp), (refl, (from_three, inr (new_three, refl), refl)), all_arrive),
      ),
    ) in
    let events : FoldsTo Happens (new_life 6) example_events end = (
      life (knows all_one 0 0 one) (new_life 6).file true none [],
      (knows all_one 0 0 one, refl, shown_first, refl),
      (
        life (knows all_one 0 0 (stamp 1 7)) from_two true none [],
        refl,
        (
          life from_two from_two true none (batch two),
          (refl, (from_two, inr (new_two, refl), refl)),
          (
            life from_two from_two true half (Stores two ∷ Puts Done two ∷ []),
            (Puts Begun two, Stores two ∷ Puts Done two ∷ [], refl, refl),
            (
              life from_two from_two false half (Stores two ∷ Puts Done two ∷ []),
              refl,
              (life from_two from_two false half [], refl, second),
            ),
          ),
        ),
      ),
    ) in
    let at : StandsAt (last_stamp ∷ []) 0 last_stamp = (omega arith, (refl, omega arith)) in
    let old : IsMismatch (new_life 6).live (carried_out last_stamp).shown OlderState = record { new = λ i le. not_known i; later = omega arith } in
    (end, events, refl, (0, 0, record { begun_at = at; done_at = at; begun_since = omega arith; done_since = omega arith; in_order = omega arith }), old)
