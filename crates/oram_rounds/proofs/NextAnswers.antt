-- A batch whose answers are given one by one.
use Rattle.std.proofs.Common.{◌≡◌, ◌≤◌, ℕ, arith, List, [], ◌∷◌, ◌++◌, drop, length, Ok, Err, refl, sym, ap, ◌∙◌, subst, inl, inr}
use Rattle.std.specs.Prelude.{MatchResult}
use Rattle.oram_session.specs.Outcome.{Outcome}
use Rattle.oram_session.specs.declared.link.LinkFault.{LinkFault}
use Rattle.oram_link_laws.specs.Repair.{AreAmong, IsAmong}
use Rattle.oram_link_laws.specs.Runs.{Exchange, LinkRun, bodies_of}
use Rattle.oram_link_laws.proofs.Exchanged.{folds_join}
use Rattle.oram_rounds.specs.Batches.{BreaksOff, IsBatch, answered}
use Rattle.oram_rounds.proofs.Sent.{among_append, answered_among}

pub answered_none : (bodies : List (List ℕ)) → answered bodies [] ≡ []
answered_none [] = refl
answered_none (b ∷ bodies) = refl

-- the next message has its answer
pub answered_next : (bodies answers rest : List (List ℕ)) (body answer : List ℕ) → drop (length answers) bodies ≡ body ∷ rest
    → answered bodies (answers ++ answer ∷ []) ≡ answered bodies answers ++ (body, Ok answer) ∷ []
answered_next [] [] rest body answer next = absurd cc
answered_next [] (a ∷ answers) rest body answer next = absurd cc
answered_next (b ∷ bodies) [] rest body answer next =
    let same : b ≡ body = cc in
    ap (λ (es : List Exchange). (b, Ok answer) ∷ es) (answered_none bodies) ∙ ap (λ (x : List ℕ). (x, Ok answer) ∷ []) same
answered_next (b ∷ bodies) (a ∷ answers) rest body answer next = ap (λ (es : List Exchange). (b, Ok a) ∷ es) (answered_next bodies answers rest body answer next)

pub next_among : (bodies answers rest : List (List ℕ)) (body : List ℕ) → drop (length answers) bodies ≡ body ∷ rest → IsAmong body bodies
next_among [] [] rest body next = absurd cc
next_among [] (a ∷ answers) rest body next = absurd cc
next_among (b ∷ bodies) [] rest body next = inl (let same : body ≡ b = cc in same)
next_among (b ∷ bodies) (a ∷ answers) rest body next = inr (next_among bodies answers rest body next)

-- there is a message for one more answer
pub next_fits : (bodies answers rest : List (List ℕ)) (body answer : List ℕ) → drop (length answers) bodies ≡ body ∷ rest → length (answers ++ answer ∷ []) ≤ length bodies
next_fits [] [] rest body answer next = absurd cc
next_fits [] (a ∷ answers) rest body answer next = absurd cc
next_fits (b ∷ bodies) [] rest body answer next = omega arith
next_fits (b ∷ bodies) (a ∷ answers) rest body answer next = omega (arith, next_fits bodies answers rest body answer next)

module _ {L : Type 0} (calls : L → List ℕ → Outcome → L → Type 0) (l m n : L) (bodies answers rest : List (List ℕ)) (body : List ℕ) (run : LinkRun calls l (answered bodies answers) m) (next : drop (length answers) bodies ≡ body ∷ rest) where
  abbrev Runs : L → Exchange → L → Type 0
  Runs a e b = calls a e.0 e.1 b

  pub given_next : (answer : List ℕ) → calls m body (Ok answer) n → LinkRun calls l (answered bodies (answers ++ answer ∷ [])) n × (length (answers ++ answer ∷ []) ≤ length bodies)
  given_next answer call = (
    subst (λ (xs : List Exchange). LinkRun calls l xs n) (sym (answered_next bodies answers rest body answer next))
        (folds_join {P = L} {A = Exchange} Runs l m n (answered bodies answers) ((body, Ok answer) ∷ []) run (n, call, refl)),
    next_fits bodies answers rest body answer next,
  )

  pub broke_off : (fault : LinkFault) → calls m body (Err fault) n
      → (exchanges : List Exchange) × (LinkRun calls l exchanges n × IsBatch bodies (Err fault) exchanges) × BreaksOff bodies answers exchanges
  broke_off fault call =
      let last : AreAmong (bodies_of ((body, Err fault) ∷ [])) bodies = (next_among bodies answers rest body next, tt) in (
        answered bodies answers ++ (body, Err fault) ∷ [],
        (
          folds_join {P = L} {A = Exchange} Runs l m n (answered bodies answers) ((body, Err fault) ∷ []) run (n, call, refl),
          among_append (answered bodies answers) ((body, Err fault) ∷ []) bodies (answered_among bodies answers bodies (λ x k. k)) last,
        ),
        ([], (body, Err fault) ∷ [], tt, last, refl),
      )

  pub gives_next : (o : Outcome) → calls m body o n
      → MatchResult o (λ answer. LinkRun calls l (answered bodies (answers ++ answer ∷ [])) n × (length (answers ++ answer ∷ []) ≤ length bodies))
      (λ fault. (exchanges : List Exchange) × (LinkRun calls l exchanges n × IsBatch bodies (Err fault) exchanges) × BreaksOff bodies answers exchanges)
  gives_next (Ok answer) call = given_next answer call
  gives_next (Err fault) call = broke_off fault call

-- no message has gone over the link yet
pub none_given : {L : Type 0} (calls : L → List ℕ → Outcome → L → Type 0) (l : L) (bodies : List (List ℕ)) → LinkRun calls l (answered bodies []) l × (0 ≤ length bodies)
none_given calls l bodies = (subst (λ (xs : List Exchange). LinkRun calls l xs l) (sym (answered_none bodies)) refl, omega arith)
