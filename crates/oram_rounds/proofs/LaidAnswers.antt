-- The records of STOREs are laid over one answer after the other.
use Rattle.std.proofs.Common.{◌≡◌, ℕ, ◌+◌, ◌<◌, suc, arith, List, [], ◌∷◌, ◌++◌, length, take, drop, get_or, set, refl, sym, ap, ◌∙◌, subst}
use Rattle.std.specs.Global.{Vec}
use Rattle.std.proofs.Math.Seq.{drop-cons}
use Rattle.std.proofs.lemmas.List.{drop-set-lt, take-map, take_more_set}
use Rattle.oram_geometry.specs.declared.Sizes.{Sizes}
use Rattle.oram_rounds.specs.Batches.{texts}
use Rattle.oram_rounds.specs.Overlay.{AreOverlaid, IsOverlaid}
use Rattle.oram_rounds.specs.PathMessages.{IsPathFetch}
use Rattle.oram_rounds.proofs.Texts.{take_next, texts_more}

-- two lists that are the same from an index on
same_at : (now was : List (Vec ℕ)) (i : ℕ) (a : Vec ℕ) → i < length now → i < length was → a ≡ get_or now i a → drop i now ≡ drop i was
    → (a ≡ get_or was i a) × (drop (i + 1) now ≡ drop (i + 1) was)
same_at now was i a low_now low_was is same =
    let next : i + 1 ≡ suc i = omega arith in
    let both : get_or now i a ∷ drop (suc i) now ≡ get_or was i a ∷ drop (suc i) was = sym (drop-cons now i a low_now) ∙ same ∙ drop-cons was i a low_was in
    let first : get_or now i a ≡ get_or was i a = cc in
    let rest : drop (suc i) now ≡ drop (suc i) was = cc in
    (is ∙ first, ap (λ (n : ℕ). drop n now) next ∙ rest ∙ sym (ap (λ (n : ℕ). drop n was) next))

module _ (d : Sizes) (len : ℕ) (stores : List (List ℕ)) where
  abbrev pub IsAnswerOver : List ℕ → List ℕ → List ℕ → Type 0
  IsAnswerOver fetch answer new = (f : IsPathFetch d fetch) × IsOverlaid d len f.tree f.leaf stores answer new

  one_more : (fetches answers given : List (List ℕ)) (fetch answer new : List ℕ) → AreOverlaid d len stores fetches answers given → IsAnswerOver fetch answer new
      → AreOverlaid d len stores (fetches ++ fetch ∷ []) (answers ++ answer ∷ []) (given ++ new ∷ [])
  one_more [] answers given fetch answer new over one =
      subst (λ (xs : List (List ℕ)). AreOverlaid d len stores (fetch ∷ []) (xs ++ answer ∷ []) (given ++ new ∷ [])) (sym over.0)
      (subst (λ (xs : List (List ℕ)). AreOverlaid d len stores (fetch ∷ []) (answer ∷ []) (xs ++ new ∷ [])) (sym over.1) (one, (refl, refl)))
  one_more (f ∷ fetches) [] given fetch answer new over one = absurd over
  one_more (f ∷ fetches) (a ∷ answers) [] fetch answer new over one = absurd over
  one_more (f ∷ fetches) (a ∷ answers) (x ∷ given) fetch answer new over one = (over.0, one_more fetches answers given fetch answer new over.1 one)

  -- the answer at an index is replaced by the one over which the records are laid
  pub one_laid : (fetches was now : List (Vec ℕ)) (i : ℕ) (f a y : Vec ℕ) → i < length fetches → length was ≡ length fetches → length now ≡ length fetches
      → f ≡ get_or fetches i f → a ≡ get_or now i a → drop i now ≡ drop i was → AreOverlaid d len stores (take i (texts fetches)) (take i (texts was)) (take i (texts now))
      → IsAnswerOver f.items a.items y.items
      → AreOverlaid d len stores (take (i + 1) (texts fetches)) (take (i + 1) (texts was)) (take (i + 1) (texts (set now i y))) × (drop (i + 1) (set now i y) ≡ drop (i + 1) was)
  one_laid fetches was now i f a y low long_was long_now f_is a_is same over one =
      let low_was : i < length was = omega (arith, low, long_was) in
      let low_now : i < length now = omega (arith, low, long_now) in
      let at = same_at now was i a low_now low_was a_is same in
      let new : take (i + 1) (texts (set now i y)) ≡ take i (texts now) ++ y.items ∷ [] =
      take-map (λ (v : Vec ℕ). v.items) (i + 1) (set now i y) ∙ ap texts (take_more_set now i y low_now) ∙ texts_more (take i now) y
      ∙ ap (λ (xs : List (List ℕ)). xs ++ y.items ∷ []) (sym (take-map (λ (v : Vec ℕ). v.items) i now)) in (
        subst (λ (xs : List (List ℕ)). AreOverlaid d len stores xs (take (i + 1) (texts was)) (take (i + 1) (texts (set now i y)))) (sym (take_next fetches i f low f_is))
            (subst (λ (xs : List (List ℕ)). AreOverlaid d len stores (take i (texts fetches) ++ f.items ∷ []) xs (take (i + 1) (texts (set now i y)))) (sym (take_next was i a low_was at.0))
            (subst (λ (xs : List (List ℕ)). AreOverlaid d len stores (take i (texts fetches) ++ f.items ∷ []) (take i (texts was) ++ a.items ∷ []) xs) (sym new)
            (one_more (take i (texts fetches)) (take i (texts was)) (take i (texts now)) f.items a.items y.items over one))),
        drop-set-lt (i + 1) now i y (omega arith) ∙ at.1,
      )
