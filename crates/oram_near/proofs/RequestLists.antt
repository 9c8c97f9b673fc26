-- Lists of requests, and the one at an index.
use Rattle.std.proofs.Common.{◌≡◌, ℕ, ◌+◌, suc, ◌<◌, arith, Bool, true, false, cond, Decides, List, [], ◌∷◌, ◌++◌, length, map, take, drop, get_or, Option, Some, None, inl, inr, ◌≢◌, refl, sym, ap, ◌∙◌, subst}
use Rattle.std.specs.Global.{Vec}
use Rattle.std.specs.Prelude.{filter}
use Rattle.std.specs.List.{AllByRecursion}
use Rattle.std.specs.Str.{bytes_eq}
use Rattle.std.proofs.lemmas.Bool.Decides.{not_from_Decides}
use Rattle.std.proofs.lemmas.Slice.Eq.{bytes_eq-Decides}
use Rattle.std.proofs.Math.ListN.{get_or-map}
use Rattle.std.proofs.Math.Seq.{drop-cons, take-suc}
use Rattle.std.proofs.lemmas.List.{drop-map, length-map, length-take-le, take-append-drop, take-map}
use Rattle.oram_levels.specs.Messages.{FetchLevels, LevelsMessage, StoreLevels, levels_body}
use Rattle.oram_wire.specs.HostMessages.{done_answer}
use Rattle.oram_link_laws.specs.Repair.{IsAmong}
use Rattle.oram_rounds.specs.Batches.{texts}
use Rattle.oram_rounds.specs.Rounds.{AreDone}
use Rattle.oram_rounds.proofs.Texts.{split_here, take_next}
use Rattle.oram_near.specs.Completion.{ClientRecords}
use Rattle.oram_near.specs.NearCalls.{AreAnswered, IsAnswered, IsRefusal, IsStoreRefusal, begins_as_store, store_answers, stores_among}
use Rattle.oram_near.specs.PathRequests.{FetchPath, PathRequest, StorePath, request_of}
use Rattle.oram_near.specs.declared.path_message.PathMessage.{PathMessage}
use Rattle.oram_near.specs.declared.path_message.PathMessage.TheVariants.{Fetch}

-- what holds of each element, and of one more
pub all_more : {X : Type 0} (P : X → Type 0) (front : List X) (x : X) → AllByRecursion P front → P x → AllByRecursion P (front ++ x ∷ [])
all_more P [] x are is = (is, tt)
all_more P (b ∷ front) x are is = (are.0, all_more P front x are.1 is)

all_inside : {X : Type 0} (P : X → Type 0) (front rest : List X) (x : X) → AllByRecursion P (front ++ x ∷ rest) → P x
all_inside P [] rest x are = are.0
all_inside P (b ∷ front) rest x are = all_inside P front rest x are.1

-- the images of the elements of a list
module _ {X Y : Type 0} (f : X → Y) (xs : List X) (i : ℕ) (d : X) (low : i < length xs) where
  inside : i < length (map f xs)
  inside = omega (arith, low, length-map xs f)

  pub take_image : take (i + 1) (map f xs) ≡ take i (map f xs) ++ f (get_or xs i d) ∷ []
  take_image =
      let next : i + 1 ≡ suc i = omega arith in
      ap (λ (n : ℕ). take n (map f xs)) next ∙ take-suc (map f xs) i (f d) inside ∙ ap (λ (y : Y). take i (map f xs) ++ y ∷ []) (get_or-map f xs i d)

  pub drop_image : drop i (map f xs) ≡ f (get_or xs i d) ∷ drop (i + 1) (map f xs)
  drop_image =
      let next : suc i ≡ i + 1 = omega arith in
      drop-cons (map f xs) i (f d) inside ∙ ap (λ (y : Y). y ∷ drop (suc i) (map f xs)) (get_or-map f xs i d)
      ∙ ap (λ (n : ℕ). f (get_or xs i d) ∷ drop n (map f xs)) next

  pub split_image : take i (map f xs) ++ f (get_or xs i d) ∷ drop (i + 1) (map f xs) ≡ map f xs
  split_image = ap (λ (ys : List Y). take i (map f xs) ++ ys) (sym drop_image) ∙ take-append-drop i (map f xs)

  pub image_at : (P : Y → Type 0) → AllByRecursion P (map f xs) → P (f (get_or xs i d))
  image_at P are =
      all_inside P (take i (map f xs)) (drop (i + 1) (map f xs)) (f (get_or xs i d))
      (subst (AllByRecursion P) (sym split_image) are)

-- the STOREs among messages, by their first bytes
pub filter-levels_body : (messages : List LevelsMessage) → filter begins_as_store (map levels_body messages) ≡ map levels_body (stores_among messages)
filter-levels_body [] = refl
filter-levels_body (FetchLevels tree first last leaf ∷ messages) = filter-levels_body messages
filter-levels_body (StoreLevels tree first leaf records ∷ messages) =
    ap (λ (bodies : List (List ℕ)). levels_body (StoreLevels tree first leaf records) ∷ bodies) (filter-levels_body messages)

done_join : (xs ys : List (List ℕ)) → AreDone xs → AreDone ys → AreDone (xs ++ ys)
done_join [] ys first second = second
done_join (x ∷ xs) ys first second = (first.0, done_join xs ys first.1 second)

bytes_decided : (a b : List ℕ) → ¬ (a ≢ b) → a ≡ b
bytes_decided a b never = by_test (bytes_eq a b) (a ≡ b) (bytes_eq-Decides a b) never
  where
    by_test : (t : Bool) (P : Type 0) → Decides t P → ¬ (¬ P) → P
    by_test true P d never = d.0 refl
    by_test false P d never = absurd (never (not_from_Decides false d refl))

cond_texts : (b : Bool) (v : Vec ℕ) (vs : List (Vec ℕ)) → texts (cond b (v ∷ vs) vs) ≡ cond b (v.items ∷ texts vs) (texts vs)
cond_texts true v vs = refl
cond_texts false v vs = refl

pub filter_texts : (p : List ℕ → Bool) (vecs : List (Vec ℕ)) → texts (filter (λ (v : Vec ℕ). p v.items) vecs) ≡ filter p (texts vecs)
filter_texts p [] = refl
filter_texts p (v ∷ vecs) =
    cond_texts (p v.items) v (filter (λ (v : Vec ℕ). p v.items) vecs) ∙ ap (λ (rest : List (List ℕ)). cond (p v.items) (v.items ∷ rest) rest) (filter_texts p vecs)

-- the answers to the STOREs among some requests and more of them
pub store_answers-append : (rs more : List PathRequest) (ys later : List (List ℕ)) → length rs ≡ length ys
    → store_answers (rs ++ more) (ys ++ later) ≡ store_answers rs ys ++ store_answers more later
store_answers-append [] more [] later same = refl
store_answers-append [] more (a ∷ ys) later same = absurd (omega (arith, same))
store_answers-append (r ∷ rs) more [] later same = absurd (omega (arith, same))
store_answers-append (FetchPath tree leaf ∷ rs) more (a ∷ ys) later same = store_answers-append rs more ys later (omega (arith, same))
store_answers-append (StorePath tree leaf records ∷ rs) more (a ∷ ys) later same =
    ap (λ (answers : List (List ℕ)). a ∷ answers) (store_answers-append rs more ys later (omega (arith, same)))

among_right : (front rest : List (List ℕ)) (body : List ℕ) → IsAmong body (front ++ body ∷ rest)
among_right [] rest body = inl refl
among_right (b ∷ front) rest body = inr (among_right front rest body)

among_stores : (front : List (List ℕ)) (request : PathRequest) (more : List PathRequest) (answer : List ℕ) (later : List (List ℕ)) → IsStoreRefusal request answer
    → IsAmong answer (front ++ store_answers (request ∷ more) (answer ∷ later))
among_stores front (FetchPath tree leaf) more answer later refused = absurd refused
among_stores front (StorePath tree leaf records) more answer later refused = among_right front (store_answers more later) answer

refused_not_done : (request : PathRequest) (answer : List ℕ) → IsStoreRefusal request answer → answer ≢ done_answer
refused_not_done (FetchPath tree leaf) answer refused = absurd refused
refused_not_done (StorePath tree leaf records) answer refused = refused

done_unless : (request : PathRequest) (answer : List ℕ) → ¬ IsStoreRefusal request answer → AreDone (store_answers (request ∷ []) (answer ∷ []))
done_unless (FetchPath tree leaf) answer never = tt
done_unless (StorePath tree leaf records) answer never = (bytes_decided answer done_answer never, tt)

-- at an index of some requests and their answers
module _ (rs : List PathMessage) (ys : List (Vec ℕ)) (i : ℕ) (x : Vec ℕ) (low : i < length rs) (same : length ys ≡ length rs) (is : x ≡ get_or ys i x) where
  abbrev request : PathRequest
  request = request_of (get_or rs i (Fetch 0 0))

  in_answers : i < length ys
  in_answers = omega (arith, low, same)

  front_same : length (take i (map request_of rs)) ≡ length (take i (texts ys))
  front_same =
      length-take-le i (map request_of rs) (omega (arith, low, length-map rs request_of))
      ∙ sym (length-take-le i (texts ys) (omega (arith, in_answers, length-map ys (λ (v : Vec ℕ). v.items))))

  pub refusal_here : IsStoreRefusal request x.items → IsRefusal (store_answers (map request_of rs) (texts ys)) (Some x.items)
  refusal_here refused =
      let at : store_answers (take i (map request_of rs) ++ request ∷ drop (i + 1) (map request_of rs)) (take i (texts ys) ++ x.items ∷ drop (i + 1) (texts ys))
      ≡ store_answers (map request_of rs) (texts ys) =
      ap (λ (requests : List PathRequest). store_answers requests (take i (texts ys) ++ x.items ∷ drop (i + 1) (texts ys))) (split_image request_of rs i (Fetch 0 0) low)
      ∙ ap (store_answers (map request_of rs)) (split_here ys i x in_answers is) in (
        subst (IsAmong x.items)
            (sym (store_answers-append (take i (map request_of rs)) (request ∷ drop (i + 1) (map request_of rs)) (take i (texts ys)) (x.items ∷ drop (i + 1) (texts ys)) front_same) ∙ at)
            (among_stores (store_answers (take i (map request_of rs)) (take i (texts ys))) request (drop (i + 1) (map request_of rs)) x.items (drop (i + 1) (texts ys)) refused),
        refused_not_done request x.items refused,
      )

  pub done_more : ¬ IsStoreRefusal request x.items → AreDone (store_answers (take i (map request_of rs)) (take i (texts ys)))
      → AreDone (store_answers (take (i + 1) (map request_of rs)) (take (i + 1) (texts ys)))
  done_more never before =
      let at : store_answers (take (i + 1) (map request_of rs)) (take (i + 1) (texts ys))
      ≡ store_answers (take i (map request_of rs)) (take i (texts ys)) ++ store_answers (request ∷ []) (x.items ∷ []) =
      ap (λ (requests : List PathRequest). store_answers requests (take (i + 1) (texts ys))) (take_image request_of rs i (Fetch 0 0) low)
      ∙ ap (store_answers (take i (map request_of rs) ++ request ∷ [])) (take_next ys i x in_answers is)
      ∙ store_answers-append (take i (map request_of rs)) (request ∷ []) (take i (texts ys)) (x.items ∷ []) front_same in
      subst AreDone (sym at) (done_join (store_answers (take i (map request_of rs)) (take i (texts ys))) (store_answers (request ∷ []) (x.items ∷ [])) before (done_unless request x.items never))

among_left : (xs ys : List (List ℕ)) (body : List ℕ) → IsAmong body xs → IsAmong body (xs ++ ys)
among_left [] ys body among = absurd among
among_left (x ∷ xs) ys body (inl here) = inl here
among_left (x ∷ xs) ys body (inr later) = inr (among_left xs ys body later)

among_behind : (xs ys : List (List ℕ)) (body : List ℕ) → IsAmong body ys → IsAmong body (xs ++ ys)
among_behind [] ys body among = among
among_behind (x ∷ xs) ys body among = inr (among_behind xs ys body among)

-- a refusal in the first of two lists of answers, or else in the second
pub refusal_left : (xs ys : List (List ℕ)) (refusal : List ℕ) → IsRefusal xs (Some refusal) → IsRefusal (xs ++ ys) (Some refusal)
refusal_left xs ys refusal is = (among_left xs ys refusal is.0, is.1)

pub refusal_behind : (xs ys : List (List ℕ)) (refusal : Option (List ℕ)) → AreDone xs → IsRefusal ys refusal → IsRefusal (xs ++ ys) refusal
refusal_behind xs ys None done is = done_join xs ys done is
refusal_behind xs ys (Some refusal) done is = (among_behind xs ys refusal is.0, is.1)

-- one request more with its answer
pub answered_more : (c : ClientRecords) (refusal : Option (List ℕ)) (rs : List PathRequest) (xs given : List (List ℕ)) (r : PathRequest) (x one : List ℕ) → AreAnswered c refusal rs xs given
    → IsAnswered c refusal r x one → AreAnswered c refusal (rs ++ r ∷ []) (xs ++ x ∷ []) (given ++ one ∷ [])
answered_more c refusal [] xs given r x one before here =
    subst (λ (answers : List (List ℕ)). AreAnswered c refusal (r ∷ []) (answers ++ x ∷ []) (given ++ one ∷ [])) (sym before.0)
    (subst (λ (gs : List (List ℕ)). AreAnswered c refusal (r ∷ []) (x ∷ []) (gs ++ one ∷ [])) (sym before.1) (here, (refl, refl)))
answered_more c refusal (q ∷ rs) [] given r x one before here = absurd before
answered_more c refusal (q ∷ rs) (y ∷ xs) [] r x one before here = absurd before
answered_more c refusal (q ∷ rs) (y ∷ xs) (g ∷ given) r x one before here = (before.0, answered_more c refusal rs xs given r x one before.1 here)

-- texts of the first bodies, and of those behind them

pub texts_take : (n : ℕ) (vecs : List (Vec ℕ)) → texts (take n vecs) ≡ take n (texts vecs)
texts_take n vecs = sym (take-map (λ (v : Vec ℕ). v.items) n vecs)

pub texts_drop : (n : ℕ) (vecs : List (Vec ℕ)) → texts (drop n vecs) ≡ drop n (texts vecs)
texts_drop n vecs = sym (drop-map (λ (v : Vec ℕ). v.items) n vecs)

-- what holds of the elements of two lists
pub all_join : {X : Type 0} (P : X → Type 0) (xs ys : List X) → AllByRecursion P xs → AllByRecursion P ys → AllByRecursion P (xs ++ ys)
all_join P [] ys first second = second
all_join P (x ∷ xs) ys first second = (first.0, all_join P xs ys first.1 second)

pub all_first : {X : Type 0} (P : X → Type 0) (xs ys : List X) → AllByRecursion P (xs ++ ys) → AllByRecursion P xs
all_first P [] ys are = tt
all_first P (x ∷ xs) ys are = (are.0, all_first P xs ys are.1)

pub all_second : {X : Type 0} (P : X → Type 0) (xs ys : List X) → AllByRecursion P (xs ++ ys) → AllByRecursion P ys
all_second P [] ys are = are
all_second P (x ∷ xs) ys are = all_second P xs ys are.1
