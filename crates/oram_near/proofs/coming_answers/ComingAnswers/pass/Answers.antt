use Rattle.std.proofs.Common.{◌≡◌, ℕ, zero, suc, ◌+◌, arith, List, [], ◌∷◌, drop, refl, ap, ◌∙◌, subst}
use Rattle.oram_rounds.specs.Batches.{texts}
use Rattle.oram_near.specs.ComingAnswers.{Coming}
use Rattle.oram_near.proofs.coming_answers.ComingAnswers.pass.Goals as goal

drop_next : (n : ℕ) (xs : List (List ℕ)) → drop (n + 1) xs ≡ drop 1 (drop n xs)
drop_next zero xs = refl
drop_next (suc n) [] = ap (λ (k : ℕ). drop {A = List ℕ} k []) (let e : suc n + 1 ≡ suc (n + 1) = omega arith in e)
drop_next (suc n) (x ∷ xs) = ap (λ (k : ℕ). drop k (x ∷ xs)) (let e : suc n + 1 ≡ suc (n + 1) = omega arith in e) ∙ drop_next n xs

pub returns-then-self-len : goal.returns-then-self-len
returns-then-self-len c =
    let i = c.self.inside in
    subst (λ (x : Coming). (let now : Coming = record { fetches = drop (i.answered + 1) (texts i.fetches.items); ready = texts i.ready.items } in now) ≡ record { fetches = drop 1 x.fetches; ready = x.ready }) c.self.view_is
    (ap (λ (fs : List (List ℕ)). let x : Coming = record { fetches = fs; ready = texts i.ready.items } in x) (drop_next i.answered (texts i.fetches.items)))
