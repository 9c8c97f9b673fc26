-- Lists of bodies, and the one at an index.
use Rattle.std.proofs.Common.{◌≡◌, ℕ, ◌+◌, suc, ◌<◌, ◌≤◌, arith, inl, inr, List, [], ◌∷◌, ◌++◌, length, take, drop, get_or, refl, sym, ap, ◌∙◌, subst, append_assoc, append-nil}
use Rattle.std.specs.Global.{Vec}
use Rattle.std.specs.List.{AllByRecursion, flat_map}
use Rattle.std.proofs.Math.ListN.{get_or-map}
use Rattle.std.proofs.lemmas.Grind.{flat_map-append}
use Rattle.std.proofs.Math.Seq.{drop-cons, take-suc}
use Rattle.std.proofs.lemmas.List.{drop_all, get_or_default, length-map, take_all, map-append, take-append-drop}
use Rattle.oram_geometry.specs.declared.Sizes.{Sizes}
use Rattle.oram_link_laws.specs.Repair.{IsAmong}
use Rattle.oram_rounds.specs.Batches.{texts}
use Rattle.oram_rounds.specs.Files.{sized_text}
use Rattle.oram_rounds.specs.PathMessages.{ArePathStores}

module _ (xs : List (Vec ℕ)) (i : ℕ) (x : Vec ℕ) (low : i < length xs) (is : x ≡ get_or xs i x) where
  inside : i < length (texts xs)
  inside = omega (arith, low, length-map xs (λ (v : Vec ℕ). v.items))

  here : get_or (texts xs) i x.items ≡ x.items
  here = get_or-map (λ (v : Vec ℕ). v.items) xs i x ∙ ap (λ (v : Vec ℕ). v.items) (sym is)

  pub drop_here : drop i (texts xs) ≡ x.items ∷ drop (i + 1) (texts xs)
  drop_here =
      let next : suc i ≡ i + 1 = omega arith in
      drop-cons (texts xs) i x.items inside ∙ ap (λ (y : List ℕ). y ∷ drop (suc i) (texts xs)) here ∙ ap (λ (n : ℕ). x.items ∷ drop n (texts xs)) next

  pub take_next : take (i + 1) (texts xs) ≡ take i (texts xs) ++ x.items ∷ []
  take_next =
      let next : i + 1 ≡ suc i = omega arith in
      ap (λ (n : ℕ). take n (texts xs)) next ∙ take-suc (texts xs) i x.items inside ∙ ap (λ (y : List ℕ). take i (texts xs) ++ y ∷ []) here

  pub split_here : take i (texts xs) ++ x.items ∷ drop (i + 1) (texts xs) ≡ texts xs
  split_here = ap (λ (ys : List (List ℕ)). take i (texts xs) ++ ys) (sym drop_here) ∙ take-append-drop i (texts xs)

pub texts_more : (xs : List (Vec ℕ)) (x : Vec ℕ) → texts (xs ++ x ∷ []) ≡ texts xs ++ x.items ∷ []
texts_more xs x = map-append (λ (v : Vec ℕ). v.items) xs (x ∷ [])

pub texts_by : (ys xs : List (Vec ℕ)) (x : Vec ℕ) → ys ≡ xs ++ x ∷ [] → texts ys ≡ texts xs ++ x.items ∷ []
texts_by ys xs x e = ap texts e ∙ texts_more xs x

-- each of the first bodies is that of an acknowledgement, and one more

among_right : (front rest : List (List ℕ)) (body : List ℕ) → IsAmong body (front ++ body ∷ rest)
among_right [] rest body = inl refl
among_right (b ∷ front) rest body = inr (among_right front rest body)

pub among_at : (xs : List (Vec ℕ)) (i : ℕ) (x : Vec ℕ) → i < length xs → x ≡ get_or xs i x → IsAmong x.items (texts xs)
among_at xs i x low is =
    subst (IsAmong x.items) (split_here xs i x low is) (among_right (take i (texts xs)) (drop (i + 1) (texts xs)) x.items)

pub at_same : (xs : List (Vec ℕ)) (i : ℕ) (x y : Vec ℕ) → i < length xs → x ≡ get_or xs i x → y ≡ get_or xs i y → x ≡ y
at_same xs i x y low of_x of_y = of_x ∙ get_or_default xs i x y low ∙ sym of_y

-- a list that is divided at an index

pub texts_whole : (xs : List (Vec ℕ)) (n m : ℕ) → m ≡ length xs → texts (take n xs) ++ texts (drop n xs) ≡ texts (take m xs)
texts_whole xs n m all =
    sym (map-append (λ (v : Vec ℕ). v.items) (take n xs) (drop n xs)) ∙ ap texts (take-append-drop n xs)
    ∙ sym (ap texts (take_all m xs (omega (arith, all))))

pub texts_none : (xs : List (Vec ℕ)) (m : ℕ) → m ≡ length xs → texts (drop m xs) ≡ []
texts_none xs m all = ap texts (drop_all m xs (omega (arith, all)))

-- what holds of each of the first bodies, and of one more
module _ (P : List ℕ → Type 0) where
  all_more : (front : List (List ℕ)) (body : List ℕ) → AllByRecursion P front → P body → AllByRecursion P (front ++ body ∷ [])
  all_more [] body are is = (is, tt)
  all_more (b ∷ front) body are is = (are.0, all_more front body are.1 is)

  all_inside : (front rest : List (List ℕ)) (body : List ℕ) → AllByRecursion P (front ++ body ∷ rest) → P body
  all_inside [] rest body are = are.0
  all_inside (b ∷ front) rest body are = all_inside front rest body are.1

  pub all_next : (xs : List (Vec ℕ)) (i : ℕ) (x : Vec ℕ) → i < length xs → x ≡ get_or xs i x → AllByRecursion P (take i (texts xs)) → P x.items
      → AllByRecursion P (take (i + 1) (texts xs))
  all_next xs i x low is are here = subst (AllByRecursion P) (sym (take_next xs i x low is)) (all_more (take i (texts xs)) x.items are here)

  pub all_at : (xs : List (Vec ℕ)) (i : ℕ) (x : Vec ℕ) → i < length xs → x ≡ get_or xs i x → AllByRecursion P (texts xs) → P x.items
  all_at xs i x low is are =
      all_inside (take i (texts xs)) (drop (i + 1) (texts xs)) x.items (subst (AllByRecursion P) (sym (split_here xs i x low is)) are)

  pub all_whole : (xs : List (Vec ℕ)) (n : ℕ) → length xs ≤ n → AllByRecursion P (take n (texts xs)) → AllByRecursion P (texts xs)
  all_whole xs n all are = subst (AllByRecursion P) (take_all n (texts xs) (omega (arith, all, length-map xs (λ (v : Vec ℕ). v.items)))) are

paths_join : (d : Sizes) (len : ℕ) (xs ys : List (List ℕ)) → ArePathStores d len xs → ArePathStores d len ys → ArePathStores d len (xs ++ ys)
paths_join d len [] ys first second = second
paths_join d len (x ∷ xs) ys first second = (first.0, paths_join d len xs ys first.1 second)

pub paths_whole : (d : Sizes) (len : ℕ) (xs : List (Vec ℕ)) (n m : ℕ) → m ≡ length xs → ArePathStores d len (texts (take n xs)) → ArePathStores d len (texts (drop n xs))
    → ArePathStores d len (texts (take m xs))
paths_whole d len xs n m all first second =
    subst (ArePathStores d len) (texts_whole xs n m all) (paths_join d len (texts (take n xs)) (texts (drop n xs)) first second)

-- one more STORE at the end of a file
pub written_more : (start count : List ℕ) (front : List (List ℕ)) (body file new : List ℕ) → file ≡ start ++ (count ++ flat_map sized_text front) → new ≡ file ++ sized_text body
    → new ≡ start ++ (count ++ flat_map sized_text (front ++ body ∷ []))
written_more start count front body file new before is =
    let f : List ℕ = flat_map sized_text front in
    let more : f ++ sized_text body ≡ flat_map sized_text (front ++ body ∷ []) =
    sym (flat_map-append sized_text front (body ∷ []) ∙ ap (λ (t : List ℕ). f ++ t) (append-nil (sized_text body))) in
    is ∙ ap (λ (t : List ℕ). t ++ sized_text body) before ∙ append_assoc start (count ++ f) (sized_text body)
    ∙ ap (λ (t : List ℕ). start ++ t) (append_assoc count f (sized_text body)) ∙ ap (λ (t : List ℕ). start ++ (count ++ t)) more

pub some_texts : (vecs : List (Vec ℕ)) → ((vecs ≡ []) → ⊥) → texts vecs ≡ [] → ⊥
some_texts [] some none = some refl
some_texts (x ∷ vecs) some none = absurd (let both : x.items ∷ texts vecs ≡ [] = none in cc)
