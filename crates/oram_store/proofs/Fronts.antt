-- The messages at the front of a list of bodies.
use Rattle.std.proofs.Common.{◌≡◌, inl, inr, ℕ, zero, suc, ◌<◌, ◌≤◌, ◌||◌, Bool, true, false, true≢false, List, [], ◌∷◌, Option, None, Some, length, take, get_or, refl, sym, ◌∙◌, ap, arith}
use Rattle.std.specs.Prelude.{◌==◌, map}
use Rattle.std.specs.List.{list_any}
use Rattle.std.proofs.lemmas.Bool.{cases_Bool, cases_lt}
use Rattle.oram_host.specs.declared.refusals.HostRefusal.{HostRefusal}
use Rattle.oram_layout.specs.Trees.{Trees}
use Rattle.oram_levels.specs.Messages.{FetchLevels, StoreLevels}
use Rattle.oram_store.specs.Groups.{AreAtFront, IsAcceptedChange, is_store}
use Rattle.oram_store.specs.Messages.{HasItsNumbers, Message, OfHost, OfLevels, body_of}
use Rattle.oram_wire.specs.declared.host_messages.HostRequest.TheVariants as request

pub accepted_numbers : (trees : Trees) (message : Message) → IsAcceptedChange trees message → HasItsNumbers message
accepted_numbers trees (OfHost (request.Fetch tree leaf)) accepted = absurd accepted
accepted_numbers trees (OfHost (request.Shape tree depth record_len)) accepted = absurd accepted
accepted_numbers trees (OfHost (request.Store tree leaf records)) accepted = accepted.0
accepted_numbers trees (OfHost (request.Put tree node bytes)) accepted = accepted.0
accepted_numbers trees (OfLevels (FetchLevels tree first last leaf)) accepted = absurd accepted
accepted_numbers trees (OfLevels (StoreLevels tree first leaf records)) accepted = accepted.0

-- what is refused is not accepted
pub refused_or_not : (why : Option HostRefusal) (x : HostRefusal) (P : Type 0) → why ≡ None → why ≡ Some x → P
refused_or_not why x P none some = absurd (differs (sym none ∙ some))
  where
    differs : None ≡ Some x → ⊥
    differs e = cc

abbrev others : List (List ℕ) → List (List ℕ)
others [] = []
others (body ∷ bodies) = bodies

cons_is_none : (body : List ℕ) (bodies : List (List ℕ)) → (body ∷ bodies) ≡ [] → ⊥
cons_is_none body bodies e = cc

-- the body at a place of the front
pub front_at : (messages : List Message) (bodies : List (List ℕ)) (k : ℕ) (d : Message) → map body_of messages ≡ take (length messages) bodies → k < length messages
    → get_or bodies k [] ≡ body_of (get_or messages k d)
front_at [] bodies k d are below = absurd (omega arith)
front_at (message ∷ rest) [] k d are below = absurd (cons_is_none (body_of message) (map body_of rest) are)
front_at (message ∷ rest) (body ∷ bodies) zero d are below = ap (λ (all : List (List ℕ)). get_or all 0 []) (sym are)
front_at (message ∷ rest) (body ∷ bodies) (suc k) d are below = front_at rest bodies k d (ap others are) (omega arith)

pub front_within : (messages : List Message) (bodies : List (List ℕ)) → map body_of messages ≡ take (length messages) bodies → length messages ≤ length bodies
front_within [] bodies are = omega arith
front_within (message ∷ rest) [] are = absurd (cons_is_none (body_of message) (map body_of rest) are)
front_within (message ∷ rest) (body ∷ bodies) are = omega (arith, front_within rest bodies (ap others are))

abbrev begins_store : List ℕ → Bool
begins_store [] = false
begins_store (op ∷ fields) = op == 2 || op == 7

store_by_body : (message : Message) → is_store message ≡ begins_store (body_of message)
store_by_body (OfHost (request.Fetch tree leaf)) = refl
store_by_body (OfHost (request.Store tree leaf records)) = refl
store_by_body (OfHost (request.Put tree node bytes)) = refl
store_by_body (OfHost (request.Shape tree depth record_len)) = refl
store_by_body (OfLevels (FetchLevels tree first last leaf)) = refl
store_by_body (OfLevels (StoreLevels tree first leaf records)) = refl

neither_left : (a b : Bool) → (a || b) ≡ false → a ≡ false
neither_left true b e = absurd (true≢false e)
neither_left false b e = refl

neither_right : (a b : Bool) → (a || b) ≡ false → b ≡ false
neither_right true b e = absurd (true≢false e)
neither_right false b e = e

-- a part of a front that has no STORE has none either
pub no_store_before : (some all : List Message) (bodies : List (List ℕ)) → map body_of some ≡ take (length some) bodies → map body_of all ≡ take (length all) bodies
    → length some ≤ length all → list_any is_store all ≡ false → list_any is_store some ≡ false
no_store_before [] all bodies of_some of_all long none = refl
no_store_before (message ∷ rest) [] bodies of_some of_all long none = absurd (omega arith)
no_store_before (message ∷ rest) (other ∷ more) [] of_some of_all long none = absurd (cons_is_none (body_of message) (map body_of rest) of_some)
no_store_before (message ∷ rest) (other ∷ more) (body ∷ bodies) of_some of_all long none =
    let same : body_of message ≡ body_of other = ap (λ (l : List (List ℕ)). get_or l 0 []) of_some ∙ sym (ap (λ (l : List (List ℕ)). get_or l 0 []) of_all) in
    let here : is_store message ≡ false =
    store_by_body message ∙ ap begins_store same ∙ sym (store_by_body other) ∙ neither_left (is_store other) (list_any is_store more) none in
    ap (λ (b : Bool). b || list_any is_store rest) here
    ∙ no_store_before rest more bodies (ap others of_some) (ap others of_all) (omega arith) (neither_right (is_store other) (list_any is_store more) none)

-- if messages can't go together, none of them goes with others
pub front_alone : (trees : Trees) (bodies : List (List ℕ)) (messages all : List Message) → AreAtFront trees bodies messages → map body_of all ≡ take (length all) bodies
    → length messages ≤ length all → ((2 ≤ length all) × (list_any is_store all ≡ true) → ⊥) → length messages ≤ 1
front_alone trees bodies messages all front of_all within apart = elim (cases_lt 1 (length messages)) [
  | inl long ↦ elim (cases_Bool (list_any is_store all)) [
    | inl some ↦ absurd (apart (omega arith, some))
    | inr none ↦ absurd (true≢false (sym front.has_store ∙ no_store_before messages all bodies front.are of_all within none))
  ]
  | inr short ↦ short
]
