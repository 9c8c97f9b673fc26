-- Parts that pass all checks make a core, and those of a core pass them.
use Rattle.std.proofs.Common.{◌≡◌, ℕ, zero, suc, ◌+◌, ◌-◌, ◌<◌, ◌≤◌, List, [], ◌∷◌, length, slice_index_or, Option, Some, None, Result, Err, IsErrAnd, All, refl, ap, sym, ◌∙◌, subst, arith}
use Rattle.std.proofs.lemmas.List.Elements.{All-nil, All-head, All-tail, All-cons}
use Rattle.oram_geometry.specs.declared.Sizes.{Sizes}
use Rattle.oram_geometry.specs.Sizes.{IsDevice}
use Rattle.oram_bucket.specs.Cell.{IsRising}
use Rattle.oram_tree.specs.Parts.{Parts as TreeParts}
use Rattle.oram_semantics.specs.Agree.{IsAllowed, TicketsFrom}
use Rattle.oram_semantics.specs.Nonces.{next_nonce}
use Rattle.oram_semantics.specs.State.{State, failed_state, no_tree}
use Rattle.oram_semantics.specs.declared.events.Reason.{Reason}
use Rattle.oram_tree.specs.declared.faults.PartsFault.{PartsFault}
use Rattle.oram_core.specs.Core.{IsHealthy, IsWhole, IsTreeKept, IsReasonOf}
use Rattle.oram_core.specs.Validity.{AreTrees, IsEnded, IsFitting, IsWorking}
use Rattle.oram_core.specs.Parts.{Parts, AreParts, state_of, submission_at, submissions_from, trees_from}
use Rattle.oram_core.specs.declared.parts.Pending.{Pending}

commands_length : (t : ℕ) (xs : List Pending) → length (submissions_from t xs) ≡ length xs
commands_length t [] = refl
commands_length t (x ∷ xs) = ap suc (commands_length (t + 1) xs)

trees_length : (i : ℕ) (ts : List TreeParts) → length (trees_from i ts) ≡ length ts
trees_length i [] = refl
trees_length i (t ∷ ts) = ap suc (trees_length (i + 1) ts)

tickets_from : (t : ℕ) (xs : List Pending) → TicketsFrom t (submissions_from t xs)
tickets_from t [] = tt
tickets_from t (x ∷ xs) = (refl, tickets_from (t + 1) xs)

-- a command is allowed whatever its ticket
allowed_at : (d : Sizes) (t u : ℕ) (x : Pending) → IsAllowed d (submission_at t x) → IsAllowed d (submission_at u x)
allowed_at d t u x a = record { address = a.address; data_length = a.data_length; words = a.words }

allowed_from : (d : Sizes) (t : ℕ) (xs : List Pending) → All (λ x. IsAllowed d (submission_at 0 x)) xs → All (IsAllowed d) (submissions_from t xs)
allowed_from d t [] h = All-nil (IsAllowed d)
allowed_from d t (x ∷ xs) h = All-cons (IsAllowed d) (submission_at t x) (submissions_from (t + 1) xs) (allowed_at d 0 t x (All-head (λ p. IsAllowed d (submission_at 0 p)) x xs h)) (allowed_from d (t + 1) xs (All-tail (λ p. IsAllowed d (submission_at 0 p)) x xs h))

allowed_back : (d : Sizes) (t : ℕ) (xs : List Pending) → All (IsAllowed d) (submissions_from t xs) → All (λ x. IsAllowed d (submission_at 0 x)) xs
allowed_back d t [] h = All-nil (λ x. IsAllowed d (submission_at 0 x))
allowed_back d t (x ∷ xs) h = All-cons (λ p. IsAllowed d (submission_at 0 p)) x xs (allowed_at d t 0 x (All-head (IsAllowed d) (submission_at t x) (submissions_from (t + 1) xs) h)) (allowed_back d (t + 1) xs (All-tail (IsAllowed d) (submission_at t x) (submissions_from (t + 1) xs) h))

kept_from : (d : Sizes) (i : ℕ) (ts : List TreeParts) → AreTrees d i ts → (k : ℕ) → k < length ts → IsTreeKept d (i + k) (slice_index_or (trees_from i ts) k no_tree)
kept_from d i [] h k below = absurd (omega (arith, below))
kept_from d i (t ∷ ts) h zero below =
    let here : i ≡ i + 0 = omega arith in
    subst (λ (n : ℕ). IsTreeKept d n (slice_index_or (trees_from i (t ∷ ts)) 0 no_tree)) here (record { number = refl; blocks = h.0.blocks })
kept_from d i (t ∷ ts) h (suc k) below =
    let here : i + 1 + k ≡ i + suc k = omega arith in
    subst (λ (n : ℕ). IsTreeKept d n (slice_index_or (trees_from (i + 1) ts) k no_tree)) here (kept_from d (i + 1) ts h.1 k (omega (arith, below)))

kept_back : (d : Sizes) (i : ℕ) (ts : List TreeParts) → ((k : ℕ) → k < length ts → IsTreeKept d (i + k) (slice_index_or (trees_from i ts) k no_tree)) → All (λ t. IsRising t.stash) ts → AreTrees d i ts
kept_back d i [] h rising = tt
kept_back d i (t ∷ ts) h rising =
    let here : i + 0 ≡ i = omega arith in
    let first : IsTreeKept d i (slice_index_or (trees_from i (t ∷ ts)) 0 no_tree) = subst (λ (n : ℕ). IsTreeKept d n (slice_index_or (trees_from i (t ∷ ts)) 0 no_tree)) here (h 0 (omega arith)) in (
      record { rising = All-head (λ u. IsRising u.stash) t ts rising; blocks = first.blocks },
      kept_back d (i + 1) ts (λ k below.
          let there : i + suc k ≡ i + 1 + k = omega arith in
          subst (λ (n : ℕ). IsTreeKept d n (slice_index_or (trees_from (i + 1) ts) k no_tree)) there (h (suc k) (omega (arith, below)))) (All-tail (λ u. IsRising u.stash) t ts rising),
    )

rising_from : (d : Sizes) (i : ℕ) (ts : List TreeParts) → AreTrees d i ts → All (λ t. IsRising t.stash) ts
rising_from d i [] h = All-nil (λ t. IsRising t.stash)
rising_from d i (t ∷ ts) h = All-cons (λ u. IsRising u.stash) t ts h.0.rising (rising_from d (i + 1) ts h.1)

-- the number of commands that have their reply
answered_is : (p : Parts) → p.tickets - length (state_of p).queue ≡ p.tickets - length p.waiting
answered_is p = ap (λ (n : ℕ). p.tickets - n) (commands_length (p.tickets - length p.waiting) p.waiting)

healthy_by : (o : ℕ) (p : Parts) → IsWorking o p → AreTrees p.device 0 p.trees → IsHealthy p.device o (state_of p)
healthy_by o p w ts =
    let d = p.device in
    let t : ℕ = p.tickets - length p.waiting in
    let count : length (submissions_from t p.waiting) ≡ length p.waiting = commands_length t p.waiting in
    record {
      table = w.table.long;
      map_entries = w.table.map_entries;
      count = trees_length 0 p.trees ∙ w.count;
      kept = λ i below. let same : 0 + i ≡ i = omega arith in subst (λ (n : ℕ). IsTreeKept d n (slice_index_or (trees_from 0 p.trees) i no_tree)) same (kept_from d 0 p.trees ts i (omega (arith, below, w.count)));
      queue = allowed_from d t p.waiting w.waiting.allowed;
      tickets = subst (λ (n : ℕ). TicketsFrom n (submissions_from t p.waiting)) (sym (answered_is p)) (tickets_from t p.waiting);
      most = omega (arith, count, w.waiting.most);
      begun = omega (arith, count, w.waiting.begun);
      work = w.work;
      nonce = w.nonce ∙ ap (λ (n : ℕ). next_nonce d n p.entry_number) (sym (answered_is p));
    }

ended_by : (p : Parts) (e : Reason) → p.failure ≡ Some e → IsEnded p e → state_of p ≡ failed_state p.tickets p.nonce e
ended_by p e failed h =
    let trees : trees_from 0 p.trees ≡ [] = ap (trees_from 0) h.nothing.trees in
    let queue : submissions_from (p.tickets - length p.waiting) p.waiting ≡ [] = ap (submissions_from (p.tickets - length p.waiting)) h.nothing.waiting in
    let table = h.nothing.table in
    let entry_number = h.rests.entry_number in
    let held_entry = h.rests.held_entry in
    let before = h.rests.held_data in
    let last = h.rests.message in
    let lost = h.rests.lost in
    rw (trees, queue, table, entry_number, held_entry, before, last, lost, failed) refl

whole_by : (o : ℕ) (p : Parts) (f : Option Reason) → p.failure ≡ f → IsFitting o p f → AreTrees p.device 0 p.trees → IsWhole p.device o (state_of p) f
whole_by o p None is w ts = healthy_by o p w ts
whole_by o p (Some e) is w ts = (w.reason, ended_by p e is w)

pub parts_by : (o : ℕ) (p : Parts) → IsDevice p.device → o ≤ 64 → p.tickets ≤ p.device.lifetime → IsFitting o p p.failure → AreTrees p.device 0 p.trees → AreParts o p
parts_by o p ranges small next w ts =
    record { sound = record { ranges = ranges; small = small; next = next; whole = whole_by o p p.failure refl w ts }; rising = rising_from p.device 0 p.trees ts }

no_trees : (ts : List TreeParts) → trees_from 0 ts ≡ [] → ts ≡ []
no_trees [] h = refl
no_trees (t ∷ ts) h = absurd (omega (arith, ap length h))

no_commands : (n : ℕ) (xs : List Pending) → submissions_from n xs ≡ [] → xs ≡ []
no_commands n [] h = refl
no_commands n (x ∷ xs) h = absurd (omega (arith, ap length h))

working_by : (o : ℕ) (p : Parts) → IsHealthy p.device o (state_of p) → IsWorking o p
working_by o p h =
    let t : ℕ = p.tickets - length p.waiting in
    let count : length (submissions_from t p.waiting) ≡ length p.waiting = commands_length t p.waiting in
    record {
      table = record { long = h.table; map_entries = h.map_entries };
      count = sym (trees_length 0 p.trees) ∙ h.count;
      waiting = record { most = omega (arith, count, h.most); begun = omega (arith, count, h.begun); allowed = allowed_back p.device t p.waiting h.queue };
      work = h.work;
      nonce = h.nonce ∙ ap (λ (n : ℕ). next_nonce p.device n p.entry_number) (answered_is p);
    }

end_of : (p : Parts) (e : Reason) → IsReasonOf p.device e → state_of p ≡ failed_state p.tickets p.nonce e → IsEnded p e
end_of p e reason is = record {
  reason = reason;
  nothing = record {
    table = ap (λ (s : State). s.table) is;
    trees = no_trees p.trees (ap (λ (s : State). s.trees) is);
    waiting = no_commands (p.tickets - length p.waiting) p.waiting (ap (λ (s : State). s.queue) is);
  };
  rests = record {
    entry_number = ap (λ (s : State). s.entry_number) is;
    held_entry = ap (λ (s : State). s.held_entry) is;
    held_data = ap (λ (s : State). s.held_data) is;
    message = ap (λ (s : State). s.message) is;
    lost = ap (λ (s : State). s.lost) is;
  };
}

fits_by : (o : ℕ) (p : Parts) (f : Option Reason) → IsWhole p.device o (state_of p) f → IsFitting o p f
fits_by o p None w = working_by o p w
fits_by o p (Some e) w = end_of p e w.0 w.1

pub fits_of : (o : ℕ) (p : Parts) → AreParts o p → IsFitting o p p.failure
fits_of o p h = fits_by o p p.failure h.sound.whole

trees_by : (o : ℕ) (p : Parts) (f : Option Reason) → IsWhole p.device o (state_of p) f → All (λ t. IsRising t.stash) p.trees → AreTrees p.device 0 p.trees
trees_by o p None w rising = kept_back p.device 0 p.trees (λ k below. let same : k ≡ 0 + k = omega arith in subst (λ (n : ℕ). IsTreeKept p.device n (slice_index_or (trees_from 0 p.trees) k no_tree)) same (w.kept k (omega (arith, below, trees_length 0 p.trees, w.count)))) rising
trees_by o p (Some e) w rising = subst (AreTrees p.device 0) (sym (no_trees p.trees (ap (λ (s : State). s.trees) w.1))) tt

pub trees_of_parts : (o : ℕ) (p : Parts) → AreParts o p → AreTrees p.device 0 p.trees
trees_of_parts o p h = trees_by o p p.failure h.sound.whole h.rising

-- a property of an error is one of the error that it equals
pub at_err : {A E : Type 0} (r : Result A E) (P : E → Type 0) (e : E) → r ≡ Err e → IsErrAnd r P → P e
at_err {A = A} {E = E} r P e is h = subst (λ (q : Result A E). IsErrAnd q P) is h

-- memory ran out, which says nothing of the parts
pub memory_apart : {A : Type 0} (r : Result A PartsFault) → IsErrAnd r (λ e. e ≡ PartsFault.OutOfMemory) → r ≡ Err PartsFault.Content → ⊥
memory_apart r is same = let no_way : PartsFault.Content ≡ PartsFault.OutOfMemory = at_err r _ PartsFault.Content same is in cc
