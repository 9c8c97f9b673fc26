-- A core with an unknown past answers like a plain array that begins with what tree 0 holds.
use Rattle.std.proofs.Common.{◌≡◌, ◌≢◌, ℕ, zero, suc, ◌+◌, ◌*◌, ◌%◌, ◌<◌, ◌==◌, Bool, false, if◌then◌else◌, List, [], ◌∷◌, ◌++◌, length, replicate, Option, Some, None, refl, ap, sym, ◌∙◌, subst, arith, inl, inr}
use Rattle.std.proofs.lemmas.Bool.Decides.{nat_tests, eqb_tells}
use Rattle.oram_geometry.specs.declared.Sizes.{Sizes}
use Rattle.oram_geometry.specs.Sizes.{trees_of}
use Rattle.oram_tree.specs.Content.{Map, Entry as Held, put}
use Rattle.oram_semantics.specs.Scheme.{Scheme}
use Rattle.oram_semantics.specs.Messages.{requested}
use Rattle.oram_semantics.specs.Answers.{Outcome, outcome_of}
use Rattle.oram_semantics.specs.Answers.Outcome.{Good, NoRoom, Fails}
use Rattle.oram_semantics.specs.Events.{address_of}
use Rattle.oram_semantics.specs.Content.{block_of, new_leaf, entry_tree}
use Rattle.oram_semantics.specs.Blocks.{found_in, block_after, body_from, kept_of, put_in, left_by}
use Rattle.oram_semantics.specs.Progress.{Setting, Status}
use Rattle.oram_semantics.specs.Progress.Status.{Idle, Waiting, Stalling, Over}
use Rattle.oram_semantics.specs.Run.{Shown, refusal_of, is_over}
use Rattle.oram_semantics.specs.State.{State, World, status_in}
use Rattle.oram_semantics.specs.Moves.{Moved, MovesTo, Moves, moved, stays, stalls, resends, accepts, stores, fetches, finishes, goes_on, on_submission, on_answer, on_loss, on_retry, world_after}
use Rattle.oram_semantics.specs.Agree.{IsOrderly}
use Rattle.oram_semantics.specs.ArrayReplies.{array_in, array_after, ServesAmid, ServesBy, ServesArray, HasServed}
use Rattle.oram_semantics.specs.declared.events.Command.{Command}
use Rattle.oram_semantics.specs.declared.events.Command.TheVariants.{Read, Write, Discard}
use Rattle.oram_semantics.specs.declared.events.Event.{Event}
use Rattle.oram_semantics.specs.declared.events.Event.TheVariants.{Submit, Answer, Lost, Reopen, Retry}
use Rattle.oram_semantics.specs.declared.events.Note.TheVariants.{Refused, Unexpected}
use Rattle.oram_semantics.specs.declared.events.Refusal.{Refusal}
use Rattle.oram_semantics.specs.declared.events.Submission.{Submission}
use Rattle.oram_semantics.specs.Law.{CoresServe, NewCoresServe, world_of}
use Rattle.oram_semantics.proofs.Bounds.{IsFit, fit_device}
use Rattle.oram_semantics.proofs.AgreeNew.{agrees_new, orderly_new}
use Rattle.oram_semantics.proofs.AgreeSteps.{agrees_moved, agreeing_fits}
use Rattle.oram_semantics.proofs.Formatting.{empty_content, formatted_holds}
use Rattle.oram_semantics.proofs.Maps.{own_block, block_after-zero}

-- the stage, the data found and the content stay
serves_same : (v : Scheme) (s t : State) (w w' : World) (array : ℕ → List ℕ) (queue : List Submission) → t.entry_number ≡ s.entry_number
    → t.held_data ≡ s.held_data → ((a : ℕ) → w'.content 0 a ≡ w.content 0 a) → ServesBy v s w array queue
    → ServesBy v t w' array queue
serves_same v s t w w' array [] entry_number before content h = λ a. ap (found_in v.device) (content a) ∙ h a
serves_same v s t w w' array (x ∷ rest) entry_number before content h = record {
  before = λ less a. ap (found_in v.device) (content a) ∙ h.before (omega arith) a;
  found = λ last. before ∙ h.found (omega arith);
  after = λ last a. ap (found_in v.device) (content a) ∙ h.after (omega arith) a;
}

serves_push : (v : Scheme) (t : State) (w : World) (array : ℕ → List ℕ) (queue : List Submission) (x : Submission)
    → (length queue ≡ 0 → t.entry_number ≡ 0) → 0 < trees_of v.device → ServesBy v t w array queue
    → ServesBy v t w array (queue ++ x ∷ [])
serves_push v t w array [] x rests some h =
    let none : t.entry_number ≡ 0 = rests refl in
    record {
      before = λ less. h;
      found = λ last. absurd (omega arith);
      after = λ last. absurd (omega arith);
    }
serves_push v t w array (y ∷ rest) x rests some h = h

begins_serving : (v : Scheme) (t : State) (w : World) (array : ℕ → List ℕ) (queue : List Submission) → t.entry_number ≡ 0
    → 0 < trees_of v.device → ((a : ℕ) → array_in v w a ≡ array a) → ServesBy v t w array queue
begins_serving v t w array [] none some h = h
begins_serving v t w array (x ∷ rest) none some h = record {
  before = λ less. h;
  found = λ last. absurd (omega arith);
  after = λ last. absurd (omega arith);
}

-- what has to be proved of an event that doesn't fail the device
abbrev After : Scheme → State → State → World → (ℕ → List ℕ) → Shown → Moved → Type 0
After v s t w array y m = MovesTo v s w m y t → t.failure ≡ None → HasServed v s t (world_after v w m y.sends) array y.replies

serves_quiet : (v : Scheme) (s t : State) (w : World) (array : ℕ → List ℕ) (y : Shown) (m : Moved) → m.replies ≡ []
    → m.state.queue ≡ s.queue → m.state.entry_number ≡ s.entry_number → m.state.held_data ≡ s.held_data
    → ((a : ℕ) → m.content 0 a ≡ w.content 0 a) → ServesArray v s w array → After v s t w array y m
serves_quiet v s t w array y m none queue entry_number before content h mv healthy = inl (
  mv.replies ∙ none,
  subst (ServesBy v t (world_after v w m y.sends) array) (sym (ap (λ (u : State). u.queue) mv.state ∙ queue))
      (serves_same v s t w (world_after v w m y.sends) array s.queue (ap (λ (u : State). u.entry_number) mv.state ∙ entry_number) (ap (λ (u : State). u.held_data) mv.state ∙ before) content h),
)

serves_submitted : (v : Scheme) (s t : State) (w : World) (array : ℕ → List ℕ) (y : Shown) (x : Submission)
    (o : Option Refusal) → IsFit v.device → IsOrderly v s → ServesArray v s w array
    → After v s t w array y (on_submission v s w x o)
serves_submitted v s t w array y x (Some e) fit o h =
    serves_quiet v s t w array y (stays s w (Refused e)) refl refl refl refl (λ a. refl) h
serves_submitted v s t w array y x None fit o h = λ mv healthy.
    let entry_number : t.entry_number ≡ s.entry_number = ap (λ (u : State). u.entry_number) mv.state in
    inl (
      mv.replies,
      subst (ServesBy v t (world_after v w (accepts v s w x) y.sends) array) (sym (ap (λ (u : State). u.queue) mv.state))
          (serves_push v t (world_after v w (accepts v s w x) y.sends) array s.queue x (λ none. entry_number ∙ o.rests none) fit.some
          (serves_same v s t w (world_after v w (accepts v s w x) y.sends) array s.queue entry_number (ap (λ (u : State). u.held_data) mv.state) (λ a. refl) h)),
    )

-- the array after a command, as the access changes it
array_put : (d : Sizes) (c : Command) (array : ℕ → List ℕ) (a b : ℕ) (bytes : List ℕ) → a ≡ address_of c → bytes ≡ array a
    → (if b == a then left_by d c bytes else array b) ≡ array_after d c array b
array_put d (Read e) array a b bytes at found = elim (eqb_tells b a) [
  | inl same ↦ ap (λ (t : Bool). if t then bytes else array b) same.0 ∙ found ∙ ap array (sym same.1)
  | inr other ↦ ap (λ (t : Bool). if t then bytes else array b) other.0
]
array_put d (Write e new) array a b bytes at found = ap (λ k. if b == k then new else array b) at
array_put d (Discard e) array a b bytes at found = ap (λ k. if b == k then replicate d.block_bytes 0 else array b) at

module _ (v : Scheme) (s t : State) (w : World) (array : ℕ → List ℕ) (x : Submission) (rest : List Submission) (y : Shown) (qu : s.queue ≡ x ∷ rest) (even : s.entry_number % 2 ≡ 0) (few : s.entry_number < 2 * trees_of v.device) (h : ServesArray v s w array) (mv : MovesTo v s w (stores v s w x) y t) where
  amid : ServesAmid v s w array x
  amid = subst (ServesBy v s w array) qu h

  holds_before : (a : ℕ) → array_in v w a ≡ array a
  holds_before = amid.before (omega arith)

  stage_is : t.entry_number ≡ s.entry_number + 1
  stage_is = ap (λ (u : State). u.entry_number) mv.state

  kept_is : (i : ℕ) → i ≡ 0 → kept_of i (found_in v.device (w.content i (block_of v.device i x))) ≡ array (address_of x.command)
  kept_is zero e = ap (array_in v w) (own_block v.device x) ∙ holds_before (address_of x.command)
  kept_is (suc i) e = absurd (omega arith)

  -- what tree 0 holds after an access of another tree, and after its own
  held_other : (i b : ℕ) (e : Held) → i ≢ 0 → put_in w.content i (block_of v.device i x) e 0 b ≡ w.content 0 b
  held_other i b e ne =
      let other : (0 == i) ≡ false = grind (arith, nat_tests) in
      ap (λ (q : Bool). if q then put (w.content 0) (block_of v.device i x) e b else w.content 0 b) other

  held_own : (i b : ℕ) → i ≡ 0
      → found_in v.device (put_in w.content i (block_of v.device i x) (record { leaf = new_leaf v.device i x; content = block_after v.device i x (found_in v.device (w.content i (block_of v.device i x))) }) 0 b) ≡ array_after v.device x.command array b
  held_own zero b e =
      let a : ℕ = block_of v.device 0 x in
      let bytes : List ℕ = found_in v.device (w.content 0 a) in
      elim (eqb_tells b a) [
        | inl same ↦
            ap (λ (q : Bool). found_in v.device (if q then Some (record { leaf = new_leaf v.device 0 x; content = block_after v.device 0 x bytes }) else w.content 0 b)) same.0
            ∙ block_after-zero v.device x bytes
            ∙ sym (ap (λ (q : Bool). if q then left_by v.device x.command bytes else array b) same.0)
            ∙ array_put v.device x.command array a b bytes (own_block v.device x) (holds_before a)
        | inr other ↦
            ap (λ (q : Bool). found_in v.device (if q then Some (record { leaf = new_leaf v.device 0 x; content = block_after v.device 0 x bytes }) else w.content 0 b)) other.0
            ∙ holds_before b
            ∙ sym (ap (λ (q : Bool). if q then left_by v.device x.command bytes else array b) other.0)
            ∙ array_put v.device x.command array a b bytes (own_block v.device x) (holds_before a)
      ]
  held_own (suc i) b e = absurd (omega arith)

  serves_stored : HasServed v s t (world_after v w (stores v s w x) y.sends) array y.replies
  serves_stored =
      let i : ℕ = entry_tree v.device s.entry_number in
      inl (
        mv.replies,
        subst (ServesBy v t (world_after v w (stores v s w x) y.sends) array) (sym (ap (λ (u : State). u.queue) mv.state ∙ qu)) (record {
          before = λ less a. ap (found_in v.device) (held_other i a _ (λ e. omega (arith, stage_is))) ∙ holds_before a;
          found = λ last. ap (λ (u : State). u.held_data) mv.state ∙ kept_is i (omega (arith, stage_is));
          after = λ last a. held_own i a (omega (arith, stage_is));
        }),
      )

serves_good : (v : Scheme) (s t : State) (w : World) (array : ℕ → List ℕ) (y : Shown) (queue : List Submission)
    → IsFit v.device → s.queue ≡ queue → IsOrderly v s → ServesArray v s w array → After v s t w array y (goes_on v s w queue)
serves_good v s t w array y [] fit qu o h = serves_quiet v s t w array y (stays s w Unexpected) refl refl refl refl (λ a. refl) h
serves_good v s t w array y (x ∷ rest) fit qu o h =
    let P : Moved → Type 0 = λ m. After v s t w array y m in
    let few : s.entry_number < 2 * trees_of v.device = o.entry_number in
    let amid : ServesAmid v s w array x = subst (ServesBy v s w array) qu h in
    let go : P (goes_on v s w (x ∷ rest)) = elim (eqb_tells (s.entry_number % 2) 0) [
      | inl even ↦ subst (λ (b : Bool). P (if b then stores v s w x else if s.entry_number + 1 == 2 * trees_of v.device then finishes v s w x rest else fetches v s w x)) (sym even.0)
          (λ mv healthy. serves_stored v s t w array x rest y qu even.1 few h mv)
      | inr odd ↦
          subst (λ (b : Bool). P (if b then stores v s w x else if s.entry_number + 1 == 2 * trees_of v.device then finishes v s w x rest else fetches v s w x)) (sym odd.0)
          (elim (eqb_tells (s.entry_number + 1) (2 * trees_of v.device)) [
            | inl last ↦ subst (λ (b : Bool). P (if b then finishes v s w x rest else fetches v s w x)) (sym last.0) (λ mv healthy. inr (
              x,
              rest,
              qu,
              mv.replies
                  ∙ ap (λ bytes. (record { session = x.session; ticket = x.ticket; body = body_from bytes x.command }) ∷ []) (amid.found last.1),
              subst (ServesBy v t (world_after v w (finishes v s w x rest) y.sends) (array_after v.device x.command array)) (sym (ap (λ (u : State). u.queue) mv.state))
                  (begins_serving v t (world_after v w (finishes v s w x rest) y.sends) (array_after v.device x.command array) rest (ap (λ (u : State). u.entry_number) mv.state) fit.some (amid.after last.1)),
            ))
            | inr more ↦ subst (λ (b : Bool). P (if b then finishes v s w x rest else fetches v s w x)) (sym more.0) (λ mv healthy.
                let ne : s.entry_number + 1 ≢ 2 * trees_of v.device = more.1 in
                let odd_one : s.entry_number % 2 ≢ 0 = odd.1 in
                let entry_number : t.entry_number ≡ s.entry_number + 1 = ap (λ (u : State). u.entry_number) mv.state in
                inl (
                  mv.replies,
                  subst (ServesBy v t (world_after v w (fetches v s w x) y.sends) array) (sym (ap (λ (u : State). u.queue) mv.state ∙ qu)) (record {
                    before = λ less a. amid.before (omega arith) a;
                    found = λ last. absurd (omega arith);
                    after = λ last. absurd (omega arith);
                  }),
                ))
          ])
    ] in
    go

serves_answered : (v : Scheme) (s t : State) (w : World) (array : ℕ → List ℕ) (y : Shown) (now : Status) (o : Outcome)
    → IsFit v.device → IsOrderly v s → ServesArray v s w array → After v s t w array y (on_answer v s w now o)
serves_answered v s t w array y Waiting Good fit o h = serves_good v s t w array y s.queue fit refl o h
serves_answered v s t w array y Waiting NoRoom fit o h =
    serves_quiet v s t w array y (stalls s w) refl refl refl refl (λ a. refl) h
serves_answered v s t w array y Waiting (Fails e) fit o h = λ mv healthy. absurd (let both : Some e ≡ None = sym (ap (λ (u : State). u.failure) mv.state) ∙ healthy in cc)
serves_answered v s t w array y Idle outcome fit o h =
    serves_quiet v s t w array y (stays s w Unexpected) refl refl refl refl (λ a. refl) h
serves_answered v s t w array y Stalling outcome fit o h =
    serves_quiet v s t w array y (stays s w Unexpected) refl refl refl refl (λ a. refl) h
serves_answered v s t w array y Over outcome fit o h =
    serves_quiet v s t w array y (stays s w Unexpected) refl refl refl refl (λ a. refl) h

serves_lost : (v : Scheme) (s t : State) (w : World) (array : ℕ → List ℕ) (y : Shown) (now : Status) → ServesArray v s w array
    → After v s t w array y (on_loss s w now)
serves_lost v s t w array y Waiting h = serves_quiet v s t w array y (stalls s w) refl refl refl refl (λ a. refl) h
serves_lost v s t w array y Idle h = serves_quiet v s t w array y (stays s w Unexpected) refl refl refl refl (λ a. refl) h
serves_lost v s t w array y Stalling h = serves_quiet v s t w array y (stays s w Unexpected) refl refl refl refl (λ a. refl) h
serves_lost v s t w array y Over h = serves_quiet v s t w array y (stays s w Unexpected) refl refl refl refl (λ a. refl) h

serves_retried : (v : Scheme) (s t : State) (w : World) (array : ℕ → List ℕ) (y : Shown) (now : Status) → ServesArray v s w array
    → After v s t w array y (on_retry s w now)
serves_retried v s t w array y Stalling h = serves_quiet v s t w array y (resends s w) refl refl refl refl (λ a. refl) h
serves_retried v s t w array y Idle h = serves_quiet v s t w array y (stays s w Unexpected) refl refl refl refl (λ a. refl) h
serves_retried v s t w array y Waiting h = serves_quiet v s t w array y (stays s w Unexpected) refl refl refl refl (λ a. refl) h
serves_retried v s t w array y Over h = serves_quiet v s t w array y (stays s w Unexpected) refl refl refl refl (λ a. refl) h

-- Each event that doesn't fail the device gives no reply, or the array's reply to the oldest command.
pub serves_moved : (v : Scheme) (s t : State) (w : World) (array : ℕ → List ℕ) (event : Event) (y : Shown) → IsFit v.device
    → IsOrderly v s → ServesArray v s w array → Moves v s w event y t → t.failure ≡ None
    → HasServed v s t (world_after v w (moved v s w event) y.sends) array y.replies
serves_moved v s t w array (Submit session c words) y fit o h =
    serves_submitted v s t w array y (record { session = session; ticket = s.next; command = c; words = words }) (refusal_of v.device (is_over (status_in s)) (length s.queue) s.next c words) fit o h
serves_moved v s t w array (Answer bytes) y fit o h =
    serves_answered v s t w array y (status_in s) (outcome_of v w.records (requested s.message) bytes) fit o h
serves_moved v s t w array Lost y fit o h = serves_lost v s t w array y (status_in s) h
serves_moved v s t w array Reopen y fit o h = serves_lost v s t w array y (status_in s) h
serves_moved v s t w array Retry y fit o h = serves_retried v s t w array y (status_in s) h

pub cores_serve : CoresServe
cores_serve v s t w array event x device o holds agrees serves apart steps healthy =
    let fit : IsFit v.device = fit_device v.device device in
    let mv : Moves v s w event x t = steps w (agreeing_fits v s w fit o agrees holds) apart in
    let left = agrees_moved v s t w event x fit o agrees mv healthy in
    record { orderly = left.orderly; holds = mv.holds healthy; agrees = left.agrees; served = serves_moved v s t w array event x fit o serves mv healthy }

empty_array : (v : Setting) (a : ℕ) → array_in v.scheme (world_of v []) a ≡ replicate v.scheme.device.block_bytes 0
empty_array v a = ap (λ (m : Map). found_in v.scheme.device (m a)) (empty_content v 0)

pub new_cores_serve : NewCoresServe
new_cores_serve v trees device made =
    let fit : IsFit v.scheme.device = fit_device v.scheme.device device in
    record {
      orderly = orderly_new v trees fit;
      holds = formatted_holds v trees made;
      agrees = agrees_new v trees fit;
      serves = λ a. empty_array v a;
    }
