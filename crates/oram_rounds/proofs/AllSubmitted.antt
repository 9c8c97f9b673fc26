-- Commands that are submitted one after the other to a core at which none waits.
use Rattle.std.proofs.Common.{◌≡◌, ◌⊎◌, ℕ, ◌+◌, ◌*◌, ◌≤◌, Bool, true, false, if◌then◌else◌, List, [], ◌∷◌, ◌++◌, length, length-append, map, count_by, Option, Some, None, MatchOption, refl, sym, ap, ◌∙◌, subst, append_assoc, arith, inl, inr}
use Rattle.std.proofs.lemmas.Fn.{FoldsTo-push}
use Rattle.std.proofs.lemmas.List.{map-append}
use Rattle.std.proofs.lemmas.List.Sums.{sum_by_push}
use Rattle.oram_geometry.specs.Sizes.{trees_of}
use Rattle.oram_bucket.specs.Cipher.{Cipher}
use Rattle.oram_semantics.specs.Moves.{latest}
use Rattle.oram_semantics.specs.Progress.Status.{Waiting}
use Rattle.oram_semantics.specs.Run.{Shown, is_accepted, is_over, refusal_of, shown_by}
use Rattle.oram_semantics.specs.Scheme.{Scheme}
use Rattle.oram_semantics.specs.State.{State, status_by, status_in}
use Rattle.oram_semantics.specs.declared.events.Command.{Command}
use Rattle.oram_semantics.specs.declared.events.Event.TheVariants.{Submit}
use Rattle.oram_semantics.specs.declared.events.Note.{Note}
use Rattle.oram_semantics.specs.declared.events.Note.TheVariants.{Accepted}
use Rattle.oram_semantics.specs.declared.events.Reaction.{Reaction}
use Rattle.oram_semantics.specs.declared.events.Reason.{Reason}
use Rattle.oram_semantics.specs.declared.events.Refusal.{Refusal}
use Rattle.oram_semantics.specs.declared.events.Submission.{Submission}
use Rattle.oram_core.specs.Core.{CoreValue, IsSameDevice, IsSound, scheme_of}
use Rattle.oram_core.specs.PlainSteps.{Done as Did, done, sent_if_idle, submitted_by}
use Rattle.oram_core.specs.Steps.{Steps, did}
use Rattle.oram_session.specs.CoreWork.{IsBegun, HasNoWork, IsUnderWay}
use Rattle.oram_session.proofs.CoreSteps.{begun_is, steps_under}
use Rattle.oram_rounds.specs.Process.{process}
use Rattle.oram_rounds.specs.Start.{AreSubmitted, SubmittedCommand, SubmittedToProcesses, IsSubmitted}

-- a command that is submitted to a core at work leaves its message outstanding

record GoesOn (s t : State) : Type 0 where
  waits : status_in t ≡ Waiting
  message : t.message ≡ s.message

with_one_more : (f : Option Reason) (q : List Submission) (l : Bool) (y : Submission) (first message : List ℕ) → status_by f q l ≡ Waiting
    → (status_by f (q ++ y ∷ []) l ≡ Waiting) × (latest (sent_if_idle q first) message ≡ message)
with_one_more (Some e) q l y first message w = absurd cc
with_one_more None [] l y first message w = absurd cc
with_one_more None (x ∷ q) true y first message w = absurd cc
with_one_more None (x ∷ q) false y first message w = (refl, refl)

submitted_goes_on : (v : Scheme) (s : State) (y : Submission) (refusal : Option Refusal) → status_in s ≡ Waiting → GoesOn s (submitted_by v s y refusal).state
submitted_goes_on v s y (Some e) w = record { waits = w; message = refl }
submitted_goes_on v s y None w = let k = with_one_more s.failure s.queue s.lost y _ s.message w in record { waits = k.0; message = k.1 }

still_under_way : (v : Scheme) (s t : State) (first : Reaction) (session : ℕ) (c : Command) (words : List ℕ) (x : Shown) → IsUnderWay (done first s)
    → Steps v s (Submit session c words) x t → IsUnderWay (done first t)
still_under_way v s t first session c words x h step =
    let y : Submission = record { session = session; ticket = s.next; command = c; words = words } in
    let refusal = refusal_of v.device (is_over (status_in s)) (length s.queue) s.next c words in
    let same = ap (λ (e : Did). e.state) (step.plain (submitted_by v s y refusal) refl) in
    let on : GoesOn s t = subst (GoesOn s) (sym same) (submitted_goes_on v s y refusal h.waits) in
    record { waits = on.waits; sends = h.sends ∙ ap (λ (m : List ℕ). m ∷ []) (sym on.message); none = h.none }

-- a command is accepted with the next ticket and waits after those before, or nothing changes
accepted_or_not : (v : Scheme) (s t : State) (session : ℕ) (c : Command) (words : List ℕ) (x : Shown) → Steps v s (Submit session c words) x t
    → ((x.note ≡ Accepted s.next) × (length t.queue ≡ length s.queue + 1)) ⊎ ((is_accepted x.note ≡ false) × (t ≡ s))
accepted_or_not v s t session c words x step =
    let y : Submission = record { session = session; ticket = s.next; command = c; words = words } in
    let refusal = refusal_of v.device (is_over (status_in s)) (length s.queue) s.next c words in
    by y refusal refl (step.plain (submitted_by v s y refusal) refl)
  where
    by : (y : Submission) (refusal : Option Refusal) → y.ticket ≡ s.next → did x t ≡ submitted_by v s y refusal
        → ((x.note ≡ Accepted s.next) × (length t.queue ≡ length s.queue + 1)) ⊎ ((is_accepted x.note ≡ false) × (t ≡ s))
    by y (Some e) next same = inr (ap (λ (d : Did). is_accepted d.note) same, ap (λ (d : Did). d.state) same)
    by y None next same =
        inl (ap (λ (d : Did). d.note) same ∙ ap (λ (n : ℕ). let m : Note = Accepted n in m) next, ap (λ (d : Did). length d.state.queue) same ∙ length-append s.queue (y ∷ []))

-- If none of the commands was accepted, nothing has changed. Else this is the reaction to the first one that was.
abbrev pub HasBegun : State → Option Reaction → ℕ → State → Type 0
HasBegun s begun count t = MatchOption begun ((t ≡ s) × (count ≡ 0)) (λ first. IsUnderWay (done first t) × (first.note ≡ Accepted s.next) × (1 ≤ count))

-- Some of the commands were submitted, with these notes, and the rest are still to be.
pub record HasSubmitted (v : Scheme) (words : ℕ → ℕ → List ℕ) (session : ℕ) (commands rest : List Command) (s : State) (notes : List Note) (t : State) : Type 0 where
  pub submitted : List SubmittedCommand
  pub in_order : map (λ (a : SubmittedCommand). a.command) submitted ++ rest ≡ commands
  pub noted : map (λ (a : SubmittedCommand). a.shown.note) submitted ≡ notes
  pub chain : AreSubmitted v words session s submitted t

-- how many commands were accepted, with one more note
counted_yes : (notes : List Note) (n : Note) → is_accepted n ≡ true → count_by is_accepted (notes ++ n ∷ []) ≡ count_by is_accepted notes + 1
counted_yes notes n is = sum_by_push (λ m. if is_accepted m then 1 else 0) notes n ∙ ap (λ (b : Bool). count_by is_accepted notes + (if b then 1 else 0)) is

counted_no : (notes : List Note) (n : Note) → is_accepted n ≡ false → count_by is_accepted (notes ++ n ∷ []) ≡ count_by is_accepted notes
counted_no notes n is =
    let none : count_by is_accepted notes + 0 ≡ count_by is_accepted notes = omega arith in
    sum_by_push (λ m. if is_accepted m then 1 else 0) notes n ∙ ap (λ (b : Bool). count_by is_accepted notes + (if b then 1 else 0)) is ∙ none

-- One more command is submitted, to a core that has kept its device since the first one.
module _ {S : Type 0} (cipher : S → Cipher) (start now : CoreValue S) (session : ℕ) (c : Command) (later : ℕ → ℕ → List ℕ) (size : ℕ) (r : Reaction) (u : State) (kept : IsSameDevice start now)
    (step : Steps (scheme_of cipher now) now.state (Submit session c (later now.state.next size)) (shown_by r) u) where
  from_start : Steps (scheme_of cipher start) now.state (Submit session c (later now.state.next size)) (shown_by r) u
  from_start = steps_under cipher start now kept now.state (Submit session c (later now.state.next size)) (shown_by r) u step

  either : ((r.note ≡ Accepted now.state.next) × (length u.queue ≡ length now.state.queue + 1)) ⊎ ((is_accepted r.note ≡ false) × (u ≡ now.state))
  either = accepted_or_not (scheme_of cipher now) now.state u session c (later now.state.next size) (shown_by r) step

  pub submitted_more : (words : ℕ → ℕ → List ℕ) (commands before rest : List Command) (notes : List Note) → later ≡ words → size ≡ 2 * trees_of start.device → before ≡ c ∷ rest
      → HasSubmitted (scheme_of cipher start) words session commands before start.state notes now.state
      → HasSubmitted (scheme_of cipher start) words session commands rest start.state (notes ++ r.note ∷ []) u
  submitted_more words commands before rest notes tape long next h =
      let a : SubmittedCommand = record { session = session; command = c; words = later now.state.next size; shown = shown_by r } in
      let drawn : a.words ≡ words now.state.next (2 * trees_of start.device) =
      ap (λ (w : ℕ → ℕ → List ℕ). w now.state.next size) tape ∙ ap (λ (n : ℕ). words now.state.next n) long in
      record {
        submitted = h.submitted ++ a ∷ [];
        in_order = ap (λ (cs : List Command). cs ++ rest) (map-append (λ (b : SubmittedCommand). b.command) h.submitted (a ∷ []))
            ∙ append_assoc (map (λ (b : SubmittedCommand). b.command) h.submitted) (c ∷ []) rest ∙ ap (λ (cs : List Command). map (λ (b : SubmittedCommand). b.command) h.submitted ++ cs) (sym next) ∙ h.in_order;
        noted = map-append (λ (b : SubmittedCommand). b.shown.note) h.submitted (a ∷ []) ∙ ap (λ (ns : List Note). ns ++ r.note ∷ []) h.noted;
        chain = FoldsTo-push (IsSubmitted (scheme_of cipher start) words session) start.state h.submitted now.state a u h.chain (refl, drawn, from_start);
      }

  pub count_more : (notes : List Note) → length now.state.queue ≡ count_by is_accepted notes → length u.queue ≡ count_by is_accepted (notes ++ r.note ∷ [])
  count_more notes count = elim either [
    | inl accepted ↦ accepted.1 ∙ ap (λ (n : ℕ). n + 1) count ∙ sym (counted_yes notes r.note (ap is_accepted accepted.0))
    | inr refused ↦ ap (λ (w : State). length w.queue) refused.1 ∙ count ∙ sym (counted_no notes r.note refused.0)
  ]

  pub begun_more : (notes : List Note) (begun next : Option Reaction) → IsSound start.device (cipher start.sealer).overhead start.state → HasNoWork start.state
      → MatchOption begun (next ≡ (if is_accepted r.note then Some r else None)) (λ first. next ≡ Some first)
      → HasBegun start.state begun (count_by is_accepted notes) now.state → HasBegun start.state next (count_by is_accepted (notes ++ r.note ∷ [])) u
  begun_more notes (Some first) next sound no_work is h =
      let more : 1 ≤ count_by is_accepted (notes ++ r.note ∷ []) = elim either [
        | inl accepted ↦ let one = counted_yes notes r.note (ap is_accepted accepted.0) in omega arith
        | inr refused ↦ let same = counted_no notes r.note refused.0 in omega (arith, h.2)
      ] in
      subst (λ (o : Option Reaction). HasBegun start.state o (count_by is_accepted (notes ++ r.note ∷ [])) u) (sym is)
      (still_under_way (scheme_of cipher now) now.state u first session c (later now.state.next size) (shown_by r) h.0 step, h.1, more)
  begun_more notes None next sound no_work is h = elim either [
    | inl accepted ↦
        let here = subst (λ (w : State). Steps (scheme_of cipher start) w (Submit session c (later now.state.next size)) (shown_by r) u) h.0 from_start in
        let begins : IsBegun start.state r.note (done r u) = begun_is (scheme_of cipher start) start.state u session c _ (shown_by r) sound no_work here in
        let under_way : IsUnderWay (done r u) = (subst (λ (n : Note). IsBegun start.state n (done r u)) accepted.0 begins).0 in
        let one = counted_yes notes r.note (ap is_accepted accepted.0) in
        let some : next ≡ Some r = is ∙ ap (λ (b : Bool). let o : Option Reaction = if b then Some r else None in o) (ap is_accepted accepted.0) in
        subst (λ (o : Option Reaction). HasBegun start.state o (count_by is_accepted (notes ++ r.note ∷ [])) u) (sym some)
        (under_way, accepted.0 ∙ ap (λ (w : State). let m : Note = Accepted w.next in m) h.0, omega arith)
    | inr refused ↦
        let none : next ≡ None = is ∙ ap (λ (b : Bool). let o : Option Reaction = if b then Some r else None in o) refused.0 in
        subst (λ (o : Option Reaction). HasBegun start.state o (count_by is_accepted (notes ++ r.note ∷ [])) u) (sym none)
        (refused.1 ∙ h.0, counted_no notes r.note refused.0 ∙ h.1)
  ]

-- the first command that was accepted began on the core as it was; and if none was, the core is as it was
pub first_or_same : {S : Type 0} (start now : CoreValue S) (begun : Option Reaction) (count : ℕ) → IsSameDevice start now → now.noted ≡ start.noted → HasBegun start.state begun count now.state
    → MatchOption begun (now ≡ start) (λ first. first.note ≡ Accepted start.state.next)
first_or_same start now None count kept noted h = λ i. record { device = kept.0 i; sealer = kept.1 i; state = h.0 i; noted = noted i }
first_or_same start now (Some first) count kept noted h = h.1

-- what is submitted to a core is submitted to its process
pub submitted_to_processes : (B K : Type 0) → SubmittedToProcesses B K
submitted_to_processes B K v words session [] s t l k same = ap (λ (core : State). process core l k) same
submitted_to_processes B K v words session (a ∷ submitted) s t l k all = (process all.0 l k, (all.1.2, refl, refl), submitted_to_processes B K v words session submitted all.0 t l k all.2)
