-- The parts of a core make that core again.
use Rattle.std.proofs.Common.{◌≡◌, ℕ, suc, ◌+◌, ◌-◌, ◌<◌, List, [], ◌∷◌, length, map, slice_index_or, Some, None, Result, Ok, Err, IfOk, refl, ap, sym, ◌∙◌, subst, arith}
use Rattle.std.specs.List.{All}
use Rattle.std.proofs.lemmas.List.{length-map}
use Rattle.oram_geometry.specs.declared.Sizes.{Sizes}
use Rattle.oram_bucket.specs.Cell.{IsRising}
use Rattle.oram_tree.specs.State.{State as Tree}
use Rattle.oram_tree.specs.Parts.{parts_of as tree_parts}
use Rattle.oram_semantics.specs.Agree.{TicketsFrom}
use Rattle.oram_semantics.specs.State.{State, failed_state, no_tree}
use Rattle.oram_semantics.specs.declared.events.Reason.{Reason}
use Rattle.oram_semantics.specs.declared.events.Submission.{Submission}
use Rattle.oram_core.specs.Core.{IsSound, IsHealthy, IsWhole}
use Rattle.oram_core.specs.Parts.{Parts, AreParts, parts_of, pending_of, state_of, submissions_from, trees_from}

submissions_again : (t : ℕ) (queue : List Submission) → TicketsFrom t queue → submissions_from t (map pending_of queue) ≡ queue
submissions_again t [] h = refl
submissions_again t (x ∷ rest) h =
    ap (λ (k : ℕ). record x { ticket = k } ∷ submissions_from (t + 1) (map pending_of rest)) (sym h.0) ∙ ap (λ (xs : List Submission). x ∷ xs) (submissions_again (t + 1) rest h.1)

trees_again : (i : ℕ) (trees : List Tree) → ((k : ℕ) → k < length trees → (slice_index_or trees k no_tree).number ≡ i + k) → trees_from i (map tree_parts trees) ≡ trees
trees_again i [] h = refl
trees_again i (t ∷ rest) h =
    let first : t.number ≡ i = h 0 (omega arith) ∙ omega arith in
    ap (λ (n : ℕ). record t { number = n } ∷ trees_from (i + 1) (map tree_parts rest)) (sym first)
    ∙ ap (λ (ts : List Tree). t ∷ ts) (trees_again (i + 1) rest (λ k below. h (suc k) (omega (arith, below)) ∙ omega arith))

healthy_again : (d : Sizes) (overhead : ℕ) (s : State) → IsHealthy d overhead s → state_of (parts_of d s) ≡ s
healthy_again d overhead s h =
    let n : ℕ = s.next - length s.queue in
    let trees : trees_from 0 (map tree_parts s.trees) ≡ s.trees = trees_again 0 s.trees (λ k below. (h.kept k (omega (arith, below, h.count))).number ∙ omega arith) in
    let count : s.next - length (map pending_of s.queue) ≡ n = ap (λ (k : ℕ). s.next - k) (length-map s.queue pending_of) in
    let queue : submissions_from (s.next - length (map pending_of s.queue)) (map pending_of s.queue) ≡ s.queue =
    ap (λ (k : ℕ). submissions_from k (map pending_of s.queue)) count ∙ submissions_again n s.queue h.tickets in
    ap (λ (ts : List Tree). record s { trees = ts; queue = submissions_from (s.next - length (map pending_of s.queue)) (map pending_of s.queue) }) trees
    ∙ ap (λ (xs : List Submission). record s { queue = xs }) queue

ended_again : (d : Sizes) (s : State) (e : Reason) → s ≡ failed_state s.next s.nonce e → state_of (parts_of d s) ≡ s
ended_again d s e is = ap (λ (t : State). state_of (parts_of d t)) is ∙ sym is

pub state_again : (d : Sizes) (overhead : ℕ) (s : State) → IsSound d overhead s → state_of (parts_of d s) ≡ s
state_again d overhead s h = elim s.failure as (λ f. IsWhole d overhead s f → state_of (parts_of d s) ≡ s) [
  | None ↦ λ w. healthy_again d overhead s w
  | Some e ↦ λ w. ended_again d s e w.1
] h.whole

-- and they can be parts of a core
parts_right : (d : Sizes) (overhead : ℕ) (s : State) → IsSound d overhead s → All (λ t. IsRising t.stash) (map tree_parts s.trees) → AreParts overhead (parts_of d s)
parts_right d overhead s h rising = record { sound = subst (IsSound d overhead) (sym (state_again d overhead s h)) h; rising = rising }

pub right_if : {A E : Type 0} (d : Sizes) (overhead : ℕ) (s : State) (view : A → Parts) (r : Result A E) → IsSound d overhead s → All (λ t. IsRising t.stash) (map tree_parts s.trees) → IfOk r (λ a. view a ≡ parts_of d s) → IfOk r (λ a. AreParts overhead (view a))
right_if d overhead s view (Ok a) h rising same = subst (AreParts overhead) (sym same) (parts_right d overhead s h rising)
right_if d overhead s view (Err e) h rising same = tt

pub again_if : {A E : Type 0} (d : Sizes) (overhead : ℕ) (s : State) (view : A → Parts) (r : Result A E) → IsSound d overhead s → IfOk r (λ a. view a ≡ parts_of d s) → IfOk r (λ a. state_of (view a) ≡ s)
again_if d overhead s view (Ok a) h same = ap state_of same ∙ state_again d overhead s h
again_if d overhead s view (Err e) h same = tt

-- the same of parts that lack only the table
pub whole_if : {A E : Type 0} (d : Sizes) (s : State) (view : A → Parts) (r : Result A E) → IfOk r (λ a. view a ≡ record (parts_of d s) { table = [] }) → IfOk r (λ a. record (view a) { table = s.table } ≡ parts_of d s)
whole_if d s view (Ok a) same = ap (λ (p : Parts). record p { table = s.table }) {y = record (parts_of d s) { table = [] }} same
whole_if d s view (Err e) same = tt
