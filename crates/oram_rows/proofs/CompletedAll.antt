-- The answers to bodies, one after the other.
use Rattle.std.proofs.Common.{◌≡◌, ℕ, suc, ◌+◌, ◌<◌, ◌≤◌, arith, List, [], ◌∷◌, ◌++◌, length, take, get_or, refl, sym, ap, ◌∙◌, subst}
use Rattle.std.proofs.Math.Seq.{take-suc}
use Rattle.std.proofs.lemmas.List.{length-append, map-append, take_all}
use Rattle.std.specs.Global.{Vec}
use Rattle.oram_rounds.specs.Batches.{texts}
use Rattle.oram_near.specs.Completion.{ClientRecords}
use Rattle.oram_rows.specs.Rows.{AreCompleted, IsCompleted}

-- one answer more
completed_more : (c : ClientRecords) (bodies answers given : List (List ℕ)) (body answer one : List ℕ) → AreCompleted c bodies answers given → IsCompleted c body answer one
    → AreCompleted c (bodies ++ body ∷ []) (answers ++ answer ∷ []) (given ++ one ∷ [])
completed_more c [] answers given body answer one are is =
    subst (λ (as' : List (List ℕ)). AreCompleted c (body ∷ []) (as' ++ answer ∷ []) (given ++ one ∷ [])) (sym are.0)
    (subst (λ (gs : List (List ℕ)). AreCompleted c (body ∷ []) (answer ∷ []) (gs ++ one ∷ [])) (sym are.1) (is, (refl, refl)))
completed_more c (b ∷ bodies) [] given body answer one are is = absurd are
completed_more c (b ∷ bodies) (a ∷ answers) [] body answer one are is = absurd are
completed_more c (b ∷ bodies) (a ∷ answers) (g ∷ given) body answer one are is = (are.0, completed_more c bodies answers given body answer one are.1 is)

texts_more : (xs : List (Vec ℕ)) (x : Vec ℕ) → texts (xs ++ x ∷ []) ≡ texts xs ++ x.items ∷ []
texts_more xs x = map-append (λ (v : Vec ℕ). v.items) xs (x ∷ [])

-- the answer to the body at an index
pub next_completed : (c : ClientRecords) (bodies : List (List ℕ)) (answers given new : List (Vec ℕ)) (answer one : Vec ℕ) (n : ℕ) (body : List ℕ) → AreCompleted c (take n bodies) (texts answers) (texts given)
    → n < length bodies → body ≡ get_or bodies n [] → IsCompleted c body answer.items one.items → new ≡ given ++ one ∷ []
    → AreCompleted c (take (n + 1) bodies) (texts (answers ++ answer ∷ [])) (texts new)
next_completed c bodies answers given new answer one n body are within here is new_is =
    let next : n + 1 ≡ suc n = omega arith in
    let all : take (n + 1) bodies ≡ take n bodies ++ body ∷ [] =
    ap (λ (k : ℕ). take k bodies) next ∙ take-suc bodies n [] within ∙ ap (λ (b : List ℕ). take n bodies ++ b ∷ []) (sym here) in
    subst (λ (bs : List (List ℕ)). AreCompleted c bs (texts (answers ++ answer ∷ [])) (texts new)) (sym all)
    (subst (λ (as' : List (List ℕ)). AreCompleted c (take n bodies ++ body ∷ []) as' (texts new)) (sym (texts_more answers answer))
    (subst (λ (gs : List (List ℕ)). AreCompleted c (take n bodies ++ body ∷ []) (texts answers ++ answer.items ∷ []) gs) (sym (ap texts new_is ∙ texts_more given one))
    (completed_more c (take n bodies) (texts answers) (texts given) body answer.items one.items are is)))

-- so far all bodies have their answers, and there is one more
pub one_more : (c : ClientRecords) (bodies : List (List ℕ)) (answers given new : List (Vec ℕ)) (answer one : Vec ℕ) (body : List ℕ) (n : ℕ) → n ≡ length answers → (length answers ≤ length bodies → AreCompleted c (take (length answers) bodies) (texts answers) (texts given))
    → body ≡ get_or bodies n [] → IsCompleted c body answer.items one.items → new ≡ given ++ one ∷ []
    → length (answers ++ answer ∷ []) ≤ length bodies → AreCompleted c (take (length (answers ++ answer ∷ [])) bodies) (texts (answers ++ answer ∷ [])) (texts new)
one_more c bodies answers given new answer one body n count are here is new_is within =
    let long : length (answers ++ answer ∷ []) ≡ length answers + 1 = length-append answers (answer ∷ []) in
    let there : body ≡ get_or bodies (length answers) [] = here ∙ ap (λ (i : ℕ). get_or bodies i []) count in
    subst (λ (i : ℕ). AreCompleted c (take i bodies) (texts (answers ++ answer ∷ [])) (texts new)) (sym long)
    (next_completed c bodies answers given new answer one (length answers) body (are (omega (arith, within, long))) (omega (arith, within, long)) there is new_is)

-- all of them
pub all_completed : (c : ClientRecords) (bodies : List (List ℕ)) (answers all given : List (Vec ℕ)) → answers ≡ all → (length answers ≤ length bodies → AreCompleted c (take (length answers) bodies) (texts answers) (texts given))
    → length all ≡ length bodies → AreCompleted c bodies (texts all) (texts given)
all_completed c bodies answers all given same are count =
    let e : length answers ≡ length bodies = ap length same ∙ count in
    subst (λ (as' : List (Vec ℕ)). AreCompleted c bodies (texts as') (texts given)) same
    (subst (λ (bs : List (List ℕ)). AreCompleted c bs (texts answers) (texts given)) (take_all (length answers) bodies (omega (arith, e))) (are (omega (arith, e))))
