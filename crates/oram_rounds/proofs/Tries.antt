-- Messages that went over a link one after the other.
use Rattle.std.proofs.Common.{◌≡◌, ◌⊎◌, ℕ, arith, List, [], ◌∷◌, ◌++◌, length, Result, Ok, Err, refl, sym, ap, subst, inl, inr}
use Rattle.std.specs.Prelude.{OnErr}
use Rattle.oram_session.specs.Outcome.{Outcome}
use Rattle.oram_link_laws.specs.Repair.{AreAmong, IsAmong}
use Rattle.oram_link_laws.specs.Runs.{Exchange, LinkRun, bodies_of}
use Rattle.oram_link_laws.proofs.Exchanged.{folds_join}
use Rattle.oram_rounds.specs.Batches.{answered}
use Rattle.oram_rounds.proofs.Round.{answered_split}
use Rattle.oram_rounds.proofs.Sent.{answered_among}

among_here : (front rest : List (List ℕ)) (body : List ℕ) → IsAmong body (front ++ body ∷ rest)
among_here [] rest body = inl refl
among_here (b ∷ front) rest body = inr (among_here front rest body)

-- the bodies of answered messages, and one more
among_so_far : (all front answers : List (List ℕ)) (more : List Exchange) → ((x : List ℕ) → IsAmong x front → IsAmong x all) → AreAmong (bodies_of more) all
    → AreAmong (bodies_of (answered front answers ++ more)) all
among_so_far all [] answers more inside are = are
among_so_far all (b ∷ front) [] more inside are = are
among_so_far all (b ∷ front) (a ∷ answers) more inside are =
    (inside b (inl refl), among_so_far all front answers more (λ x k. inside x (inr k)) are)

pub among_front : (front rest : List (List ℕ)) (x : List ℕ) → IsAmong x front → IsAmong x (front ++ rest)
among_front [] rest x among = absurd among
among_front (b ∷ front) rest x (inl same) = inl same
among_front (b ∷ front) rest x (inr later) = inr (among_front front rest x later)

among_back : (front rest : List (List ℕ)) (x : List ℕ) → IsAmong x rest → IsAmong x (front ++ rest)
among_back [] rest x among = among
among_back (b ∷ front) rest x among = inr (among_back front rest x among)

among_behind : (bodies front rest : List (List ℕ)) → AreAmong bodies rest → AreAmong bodies (front ++ rest)
among_behind [] front rest are = tt
among_behind (b ∷ bodies) front rest are = (among_back front rest b are.0, among_behind bodies front rest are.1)

pub answered_join : (xs as' ys bs : List (List ℕ)) → length as' ≡ length xs → answered (xs ++ ys) (as' ++ bs) ≡ answered xs as' ++ answered ys bs
answered_join [] [] ys bs count = refl
answered_join [] (a ∷ as') ys bs count = absurd (omega (arith, count))
answered_join (x ∷ xs) [] ys bs count = absurd (omega (arith, count))
answered_join (x ∷ xs) (a ∷ as') ys bs count = ap (λ (es : List Exchange). (x, Ok a) ∷ es) (answered_join xs as' ys bs (omega (arith, count)))

module _ {L : Type 0} (calls : L → List ℕ → Outcome → L → Type 0) where
  abbrev Runs : L → Exchange → L → Type 0
  Runs a e b = calls a e.0 e.1 b

  pub one_more : (front answers : List (List ℕ)) (l m n : L) (body answer : List ℕ) → length answers ≡ length front → LinkRun calls l (answered front answers) m
      → calls m body (Ok answer) n → LinkRun calls l (answered (front ++ body ∷ []) (answers ++ answer ∷ [])) n
  one_more front answers l m n body answer count run call =
      subst (λ (xs : List Exchange). LinkRun calls l xs n) (sym (answered_split front answers body answer count))
      (folds_join {P = L} {A = Exchange} Runs l m n (answered front answers) ((body, Ok answer) ∷ []) run (n, call, refl))

  -- the link has had these exchanges, and no others, each with one of the messages
  abbrev pub HasTried : List (List ℕ) → L → L → Type 0
  HasTried bodies l m = (exchanges : List Exchange) × LinkRun calls l exchanges m × AreAmong (bodies_of exchanges) bodies

  pub one_last : (front rest answers : List (List ℕ)) (l m n : L) (body : List ℕ) (o : Outcome) → LinkRun calls l (answered front answers) m → calls m body o n
      → HasTried (front ++ body ∷ rest) l n
  one_last front rest answers l m n body o run call = (
    answered front answers ++ (body, o) ∷ [],
    folds_join {P = L} {A = Exchange} Runs l m n (answered front answers) ((body, o) ∷ []) run (n, call, refl),
    among_so_far (front ++ body ∷ rest) front answers ((body, o) ∷ []) (λ x k. among_front front (body ∷ rest) x k) (among_here front rest body, tt),
  )

  pub answered_tried : (bodies answers : List (List ℕ)) (l m : L) → LinkRun calls l (answered bodies answers) m → HasTried bodies l m
  answered_tried bodies answers l m run = (answered bodies answers, run, answered_among bodies answers bodies (λ x k. k))

  -- messages after others that were answered
  pub more_tried : (front last answers : List (List ℕ)) (l m n : L) → LinkRun calls l (answered front answers) m → HasTried last m n → HasTried (front ++ last) l n
  more_tried front last answers l m n run tried = (
    answered front answers ++ tried.0,
    folds_join {P = L} {A = Exchange} Runs l m n (answered front answers) tried.0 run tried.1,
    among_so_far (front ++ last) front answers tried.0 (λ x k. among_front front last x k) (among_behind (bodies_of tried.0) front last tried.2),
  )

  pub both_run : (xs as' ys bs : List (List ℕ)) (l m n : L) → length as' ≡ length xs → LinkRun calls l (answered xs as') m → LinkRun calls m (answered ys bs) n
      → LinkRun calls l (answered (xs ++ ys) (as' ++ bs)) n
  both_run xs as' ys bs l m n count first second =
      subst (λ (es : List Exchange). LinkRun calls l es n) (sym (answered_join xs as' ys bs count))
      (folds_join {P = L} {A = Exchange} Runs l m n (answered xs as') (answered ys bs) first second)

-- what holds, holds where there is a fault
pub on_err : {T E : Type 0} {P : Type 0} (r : Result T E) → P → OnErr r P
on_err (Ok x) p = tt
on_err (Err e) p = p

pub among_whole : (bodies front rest : List (List ℕ)) → AreAmong bodies front → AreAmong bodies (front ++ rest)
among_whole [] front rest are = tt
among_whole (b ∷ bodies) front rest are = (among_front front rest b are.0, among_whole bodies front rest are.1)

-- those among two lists are among them in the other order

among_either : (front rest : List (List ℕ)) (x : List ℕ) → IsAmong x (front ++ rest) → IsAmong x front ⊎ IsAmong x rest
among_either [] rest x among = inr among
among_either (b ∷ front) rest x (inl same) = inl (inl same)
among_either (b ∷ front) rest x (inr later) = elim (among_either front rest x later) [ inl here ↦ inl (inr here) | inr behind ↦ inr behind ]

pub among_turned : (bodies front rest : List (List ℕ)) → AreAmong bodies (front ++ rest) → AreAmong bodies (rest ++ front)
among_turned [] front rest are = tt
among_turned (b ∷ bodies) front rest are = (
  elim (among_either front rest b are.0) [ inl here ↦ among_back rest front b here | inr behind ↦ among_front rest front b behind ],
  among_turned bodies front rest are.1,
)
