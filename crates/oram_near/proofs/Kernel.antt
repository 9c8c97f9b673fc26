-- Which STORE of a list decides what is at a level of a path: the last one that has a record for it.
use Rattle.std.proofs.Common.{◌≡◌, ◌⊎◌, ℕ, List, [], ◌∷◌, ◌++◌, Option, Some, None, map, unwrap_or, refl, sym, ap, ◌∙◌, subst, inl, inr}
use Rattle.std.specs.List.{AllByRecursion}
use Rattle.std.specs.Option.{option_or}
use Rattle.oram_geometry.specs.declared.Sizes.{Sizes}
use Rattle.oram_levels.specs.Messages.{LevelsMessage, levels_body}
use Rattle.oram_link_laws.specs.Repair.{IsAmong}
use Rattle.oram_near.specs.Completion.{left_by, stored_by}
use Rattle.oram_near.specs.NearCalls.{IsOneOf}
use Rattle.oram_near.proofs.Paths.{left_there}

pub one_left : (m : LevelsMessage) (xs ys : List LevelsMessage) → IsOneOf m xs → IsOneOf m (xs ++ ys)
one_left m [] ys one = absurd one
one_left m (x ∷ xs) ys (inl here) = inl here
one_left m (x ∷ xs) ys (inr later) = inr (one_left m xs ys later)

pub one_right : (m : LevelsMessage) (xs ys : List LevelsMessage) → IsOneOf m ys → IsOneOf m (xs ++ ys)
one_right m [] ys one = one
one_right m (x ∷ xs) ys one = inr (one_right m xs ys one)

-- what holds of each message holds of one of them
pub of_one : (P : LevelsMessage → Type 0) (m : LevelsMessage) (messages : List LevelsMessage) → AllByRecursion P messages → IsOneOf m messages → P m
of_one P m [] are one = absurd one
of_one P m (x ∷ messages) are (inl here) = subst P (sym here) are.0
of_one P m (x ∷ messages) are (inr later) = of_one P m messages are.1 later

-- a body among those of messages is that of one of them
pub body_of_one : (body : List ℕ) (messages : List LevelsMessage) → IsAmong body (map levels_body messages) → (m : LevelsMessage) × IsOneOf m messages × (body ≡ levels_body m)
body_of_one body [] among = absurd among
body_of_one body (m ∷ messages) (inl here) = (m, inl refl, here)
body_of_one body (m ∷ messages) (inr later) = let rest = body_of_one body messages later in (rest.0, inr rest.1, rest.2)

module _ (d : Sizes) (len tree leaf level : ℕ) where
  abbrev left : List LevelsMessage → Option (List ℕ) → Option (List ℕ)
  left messages old = left_by d len tree leaf level messages old

  abbrev stored : LevelsMessage → Option (List ℕ)
  stored m = stored_by d len tree leaf level m

  -- what was there doesn't matter
  abbrev IsSure : List LevelsMessage → Type 0
  IsSure messages = (x : List ℕ) × ((old : Option (List ℕ)) → left messages old ≡ Some x)

  stays : (messages : List LevelsMessage) (x : List ℕ) → (y : List ℕ) × (left messages (Some x) ≡ Some y)
  stays messages x = (unwrap_or (left messages (Some x)) [], left_there d 0 len tree leaf level messages (Some x) [])

  -- if one of the messages has a record for the level, it doesn't
  pub sure_by : (m : LevelsMessage) (messages : List LevelsMessage) (x : List ℕ) → IsOneOf m messages → stored m ≡ Some x → IsSure messages
  sure_by m [] x one is = absurd one
  sure_by m (first ∷ messages) x (inl here) is =
      let y = stays messages x in
      let now : stored first ≡ Some x = ap (λ (n : LevelsMessage). stored n) (sym here) ∙ is in
      (y.0, λ old. ap (λ (o : Option (List ℕ)). left messages (option_or o old)) now ∙ y.1)
  sure_by m (first ∷ messages) x (inr later) is =
      let rest = sure_by m messages x later is in (rest.0, λ old. rest.1 (option_or (stored first) old))

  absorbed_at : (m : LevelsMessage) (messages : List LevelsMessage) (o old : Option (List ℕ)) → IsOneOf m messages → stored m ≡ o → left messages (option_or o old) ≡ left messages old
  absorbed_at m messages None old one is = refl
  absorbed_at m messages (Some x) old one is = let sure = sure_by m messages x one is in sure.1 (Some x) ∙ sym (sure.1 old)

  -- one of the messages, carried out before all of them, leaves nothing else
  pub absorbed : (m : LevelsMessage) (messages : List LevelsMessage) (old : Option (List ℕ)) → IsOneOf m messages → left messages (option_or (stored m) old) ≡ left messages old
  absorbed m messages old one = absorbed_at m messages (stored m) old one refl

  sure_or : (m : LevelsMessage) (messages : List LevelsMessage) (o : Option (List ℕ)) → stored m ≡ o → ((old : Option (List ℕ)) → left messages old ≡ old)
      → IsSure (m ∷ messages) ⊎ ((old : Option (List ℕ)) → left (m ∷ messages) old ≡ old)
  sure_or m messages None is none = inr (λ old. ap (λ (o : Option (List ℕ)). left messages (option_or o old)) is ∙ none old)
  sure_or m messages (Some x) is none = inl (x, λ old. ap (λ (o : Option (List ℕ)). left messages (option_or o old)) is ∙ none (Some x))

  -- either one of the messages decides, or they leave what was there
  pub sure_or_none : (messages : List LevelsMessage) → IsSure messages ⊎ ((old : Option (List ℕ)) → left messages old ≡ old)
  sure_or_none [] = inr (λ old. refl)
  sure_or_none (m ∷ messages) = elim (sure_or_none messages) [
    | inl sure ↦ inl (sure.0, λ old. sure.1 (option_or (stored m) old))
    | inr none ↦ sure_or m messages (stored m) refl none
  ]

  -- one after the other
  pub left_append : (messages more : List LevelsMessage) (old : Option (List ℕ)) → left (messages ++ more) old ≡ left more (left messages old)
  left_append [] more old = refl
  left_append (m ∷ messages) more old = left_append messages more (option_or (stored m) old)
