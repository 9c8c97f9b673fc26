-- The effect of an answer that a core waits for, whatever host gives it.
use Rattle.std.proofs.Common.{◌∙◌, ◌≡◌, ℕ, ◌+◌, ◌*◌, ◌%◌, ◌<◌, Bool, true, false, if◌then◌else◌, List, ◌∷◌, map, Result, Ok, Err, IfOk, IsOk, OnErr, refl, ap, sym, subst, arith, inl, inr}
use Rattle.std.specs.Result.{IsErr}
use Rattle.oram_geometry.specs.Sizes.{trees_of}
use Rattle.oram_tree.specs.State.{State as Tree}
use Rattle.oram_semantics.specs.Events.{failed_reply}
use Rattle.oram_semantics.specs.Scheme.{Scheme}
use Rattle.oram_semantics.specs.Progress.Status.{Waiting}
use Rattle.oram_semantics.specs.State.{State, failed_state, status_in}
use Rattle.oram_semantics.specs.declared.events.Reaction.{Reaction}
use Rattle.oram_semantics.specs.declared.events.Reason.{Reason}
use Rattle.oram_semantics.specs.declared.events.Submission.{Submission}
use Rattle.oram_core.specs.Core.{IsSound}
use Rattle.oram_core.specs.PlainSteps.{done, failed_by, fetched_by, finished_by, stored_by, is_misled}
use Rattle.oram_core.specs.Steps.{Heard}
use Rattle.oram_core.proofs.Sound.{HasOldest, has_oldest}

-- a claim about an Ok follows from what is known about it
pub if_ok : {A E : Type 0} (P Q : A → Type 0) (r : Result A E) → ((a : A) → P a → Q a) → IfOk r P → IfOk r Q
if_ok P Q (Ok a) f h = f a h
if_ok P Q (Err e) f h = h

-- a property that always holds also holds at an Err
pub on_err : {A E : Type 0} (P : Type 0) (r : Result A E) → P → OnErr r P
on_err P (Ok a) h = tt
on_err P (Err e) h = h

-- and an Err is no Ok
pub no_ok : {A E : Type 0} (P : Type 0) (r : Result A E) → IsErr r → IsOk r → P
no_ok P (Ok a) err ok = absurd (let no_way : false ≡ true = err in cc)
no_ok P (Err e) err ok = absurd (let no_way : false ≡ true = ok in cc)

-- an Ok is no Err
pub ok_apart : {A E : Type 0} (a : A) (e : E) → Ok a ≡ Err e → ⊥
ok_apart a e same = cc

finished_heard : (v : Scheme) (s : State) (o : HasOldest v.device s) → s.entry_number + 1 ≡ 2 * trees_of v.device → Heard v s (finished_by v s o.oldest o.rest)
finished_heard v s o end = inr (inr (record { oldest = o.oldest; rest = o.rest; queue = o.queue; does = refl; long = o.work.held_data end }))

pub finish_heard : {E : Type 0} (v : Scheme) (s : State) (r : Result Reaction E) (t : State) → IsSound v.device v.cipher.overhead s → status_in s ≡ Waiting → s.entry_number + 1 ≡ 2 * trees_of v.device →
    ((x : Submission) (rest : List Submission) → s.queue ≡ x ∷ rest → IfOk r (λ y. done y t ≡ finished_by v s x rest)) → IfOk r (λ y. Heard v s (done y t))
finish_heard v s r t h now end does =
    let o : HasOldest v.device s = has_oldest v.device v.cipher.overhead s h now in
    if_ok _ _ r (λ y e. subst (Heard v s) (sym e) (finished_heard v s o end)) (does o.oldest o.rest o.queue)

pub fetch_heard : {E : Type 0} (v : Scheme) (s : State) (r : Result Reaction E) (t : State) → IsSound v.device v.cipher.overhead s → status_in s ≡ Waiting → s.entry_number + 1 < 2 * trees_of v.device →
    ((x : Submission) (rest : List Submission) → s.queue ≡ x ∷ rest → IfOk r (λ y. done y t ≡ fetched_by v s x)) → IfOk r (λ y. Heard v s (done y t))
fetch_heard v s r t h now more does =
    let o : HasOldest v.device s = has_oldest v.device v.cipher.overhead s h now in
    if_ok _ _ r (λ y e. subst (Heard v s) (sym e) (inr (inl (record { note = refl; replies = refl; sends = refl; queue = refl; waits = now; next = refl; entry_number = refl; within = more; fetched = λ odd. record { oldest = o.oldest; rest = o.rest; queue = o.queue; does = refl } })))) (does o.oldest o.rest o.queue)

-- the device fails, whatever the trees are then
pub failed_heard : (v : Scheme) (s t : State) (e : Reason) → t.queue ≡ s.queue → t.next ≡ s.next → t.nonce ≡ s.nonce → Heard v s (failed_by t e)
failed_heard v s t e same next nonce = inl (record { reason = e; note = refl; replies = ap (map failed_reply) same; sends = refl; state = ap (λ (n : ℕ). failed_state n t.nonce e) next ∙ ap (λ (n : ℕ). failed_state s.next n e) nonce })

-- the path of an access is stored
pub stored_heard : (v : Scheme) (s : State) (trees : List Tree) (x : Submission) (before records : List ℕ) → status_in s ≡ Waiting → s.entry_number % 2 ≡ 0 → s.entry_number < 2 * trees_of v.device → Heard v s (stored_by v (record s { trees = trees }) x before records)
stored_heard v s trees x before records now even within =
    inr (inl (record { note = refl; replies = refl; sends = refl; queue = refl; waits = now; next = refl; entry_number = refl; within = omega arith; fetched = λ odd. absurd (let both = sym even ∙ odd in cc) }))

pub taken_heard : (v : Scheme) (s : State) (trees : List Tree) (x : Submission) (found : Bool) (before records : List ℕ) (e : Reason) → status_in s ≡ Waiting → s.entry_number % 2 ≡ 0 → s.entry_number < 2 * trees_of v.device →
    (let t : State = record s { trees = trees } in Heard v s (if is_misled v t x found before then failed_by t e else stored_by v t x before records))
taken_heard v s trees x found before records e now even within =
    let t : State = record s { trees = trees } in
    elim (is_misled v t x found before) as (λ b. Heard v s (if b then failed_by t e else stored_by v t x before records)) [
      | true ↦ failed_heard v s t e refl refl refl
      | false ↦ stored_heard v s trees x before records now even within
    ]
