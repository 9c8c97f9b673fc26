-- Commands that are submitted to a core at which none waits: which of them are accepted, and what that makes of an array.
use Rattle.std.proofs.Common.{◌≡◌, ◌⊎◌, ℕ, suc, ◌+◌, ◌*◌, ◌<◌, ◌≤◌, ◌==◌, not, nat_le, Bool, true, false, if◌then◌else◌, List, [], ◌∷◌, ◌++◌, length, map, take, count_by, All, Option, Some, None, refl, sym, ap, ◌∙◌, subst, append_assoc, arith, inl, inr}
use Rattle.std.proofs.lemmas.Bool.Decides.{nat_tests}
use Rattle.std.proofs.lemmas.List.{append-nil, length-map}
use Rattle.std.proofs.lemmas.List.Elements.{All-head, All-tail}
use Rattle.std.proofs.lemmas.List.Sums.{count_by-le-length, sum_by-cons}
use Rattle.oram_geometry.specs.declared.Sizes.{Sizes}
use Rattle.oram_geometry.specs.Sizes.{trees_of}
use Rattle.oram_semantics.specs.ArrayReplies.{array_after}
use Rattle.oram_semantics.specs.Events.{address_of}
use Rattle.oram_semantics.specs.Run.{has_bad_length, is_accepted, is_over, refusal_of}
use Rattle.oram_semantics.specs.Scheme.{Scheme}
use Rattle.oram_semantics.specs.State.{State, status_by, status_in}
use Rattle.oram_semantics.specs.declared.events.Command.{Command}
use Rattle.oram_semantics.specs.declared.events.Command.TheVariants.{Discard, Read, Write}
use Rattle.oram_semantics.specs.declared.events.Event.TheVariants.{Submit}
use Rattle.oram_semantics.specs.declared.events.Note.{Note}
use Rattle.oram_semantics.specs.declared.events.Note.TheVariants.{Accepted, Refused}
use Rattle.oram_semantics.specs.declared.events.Reason.{Reason}
use Rattle.oram_semantics.specs.declared.events.Refusal.{Refusal}
use Rattle.oram_semantics.specs.declared.events.Refusal.TheVariants as refusal
use Rattle.oram_semantics.specs.declared.events.Submission.{Submission}
use Rattle.oram_core.specs.PlainSteps.{Done as Did, submitted_by}
use Rattle.oram_core.specs.Steps.{Steps, did}
use Rattle.oram_session.specs.CoreWork.{HasNoWork, has_no_work_in}
use Rattle.oram_rounds.specs.Start.{AreSubmitted, SubmittedCommand, IsSubmitted, array_if, array_with}
use Rattle.oram_volume.specs.CarriedOut.{after_commands}
use Rattle.oram_volume.specs.RangeCommands.{FitsDevice}

-- a command that fits the device is refused for its words, or for the core's state, or not at all
abbrev rest_of : Sizes → Bool → ℕ → ℕ → List ℕ → Option Refusal
rest_of d failed waiting taken words =
    if failed then Some refusal.Failed
    else if not (length words == 2 * trees_of d) then Some refusal.BadWords
    else if nat_le 64 waiting then Some refusal.Busy
    else if nat_le d.lifetime taken then Some refusal.Exhausted
    else None

within : (blocks a : ℕ) → a < blocks → nat_le blocks a ≡ false
within blocks a low = grind (arith, nat_tests, low)

same_number : (m n : ℕ) → m ≡ n → not (m == n) ≡ false
same_number m n same = grind (arith, nat_tests, same)

fit_address : (d : Sizes) (c : Command) → FitsDevice d c → nat_le d.blocks (address_of c) ≡ false
fit_address d (Read a) fits = within d.blocks a fits
fit_address d (Write a payload) fits = within d.blocks a fits.0
fit_address d (Discard a) fits = within d.blocks a fits

fit_length : (d : Sizes) (c : Command) → FitsDevice d c → has_bad_length d c ≡ false
fit_length d (Read a) fits = refl
fit_length d (Write a payload) fits = same_number (length payload) d.block_bytes fits.1
fit_length d (Discard a) fits = refl

refusal_fits : (d : Sizes) (failed : Bool) (waiting taken : ℕ) (c : Command) (words : List ℕ) → FitsDevice d c → refusal_of d failed waiting taken c words ≡ rest_of d failed waiting taken words
refusal_fits d true waiting taken c words fits = refl
refusal_fits d false waiting taken c words fits = rw (fit_address d c fits) (rw (fit_length d c fits) refl)

-- the command is accepted, and is at the end of the queue; or it is refused, and nothing changes
abbrev Joins : State → SubmittedCommand → State → Type 0
Joins s a t = (is_accepted a.shown.note ≡ true) × (y : Submission) × (y.command ≡ a.command) × (t.queue ≡ s.queue ++ y ∷ [])
    × ((d : Sizes) (array : ℕ → List ℕ) → array_if a.shown.note d a.command array ≡ array_after d a.command array) × (t.failure ≡ s.failure)

abbrev Stays : State → SubmittedCommand → State → Type 0
Stays s a t = (is_accepted a.shown.note ≡ false) × (t ≡ s) × ((d : Sizes) (array : ℕ → List ℕ) → array_if a.shown.note d a.command array ≡ array)

stepped : (v : Scheme) (s t : State) (a : SubmittedCommand) → Steps v s (Submit a.session a.command a.words) a.shown t
    → ((refusal_of v.device (is_over (status_in s)) (length s.queue) s.next a.command a.words ≡ None) × Joins s a t)
    ⊎ ((e : Refusal) × (refusal_of v.device (is_over (status_in s)) (length s.queue) s.next a.command a.words ≡ Some e) × Stays s a t)
stepped v s t a step =
    let y : Submission = record { session = a.session; ticket = s.next; command = a.command; words = a.words } in
    let r = refusal_of v.device (is_over (status_in s)) (length s.queue) s.next a.command a.words in
    by y r refl refl (step.plain (submitted_by v s y r) refl)
  where
    by : (y : Submission) (r : Option Refusal) → y.command ≡ a.command → refusal_of v.device (is_over (status_in s)) (length s.queue) s.next a.command a.words ≡ r → did a.shown t ≡ submitted_by v s y r
        → ((refusal_of v.device (is_over (status_in s)) (length s.queue) s.next a.command a.words ≡ None) × Joins s a t)
        ⊎ ((e : Refusal) × (refusal_of v.device (is_over (status_in s)) (length s.queue) s.next a.command a.words ≡ Some e) × Stays s a t)
    by y None is none same =
        let note : a.shown.note ≡ Accepted y.ticket = ap (λ (d : Did). d.note) same in
        inl (none, (ap is_accepted note, y, is, ap (λ (d : Did). d.state.queue) same, λ d array. ap (λ (n : Note). array_if n d a.command array) note, ap (λ (d : Did). d.state.failure) same))
    by y (Some e) is some same =
        let note : a.shown.note ≡ Refused e = ap (λ (d : Did). d.note) same in
        inr (e, some, (ap is_accepted note, ap (λ (d : Did). d.state) same, λ d array. ap (λ (n : Note). array_if n d a.command array) note))

-- a core that hasn't failed, and at which a command waits, has work
works : (s : State) (x : Submission) (rest : List Submission) → s.failure ≡ None → s.queue ≡ x ∷ rest → HasNoWork s → ⊥
works s x rest alive queue no_work = at s.failure s.queue s.lost alive queue no_work
  where
    at : (f : Option Reason) (q : List Submission) (l : Bool) → f ≡ None → q ≡ x ∷ rest → has_no_work_in (status_by f q l) ≡ true → ⊥
    at (Some e) q l a b h = absurd cc
    at None [] l a b h = absurd cc
    at None (y ∷ q) true a b h = let no : false ≡ true = h in cc
    at None (y ∷ q) false a b h = let no : false ≡ true = h in cc

one_more : (xs : List Submission) (y : Submission) → (x : Submission) × (rest : List Submission) × (xs ++ y ∷ [] ≡ x ∷ rest)
one_more [] y = (y, [], refl)
one_more (x ∷ xs) y = (x, xs ++ y ∷ [], refl)

module _ (v : Scheme) (words : ℕ → ℕ → List ℕ) (session : ℕ) where
  -- once a command waits, the core has work, whatever is submitted
  works_on : (submitted : List SubmittedCommand) (s t : State) → AreSubmitted v words session s submitted t → s.failure ≡ None → (x : Submission) (rest : List Submission) → s.queue ≡ x ∷ rest → HasNoWork t → ⊥
  works_on [] s t same alive x rest queue no_work = works s x rest alive queue (subst HasNoWork (sym same) no_work)
  works_on (a ∷ submitted) s t all alive x rest queue no_work =
      let mid : State = all.0 in
      elim (stepped v s mid a all.1.2) [
        | inl joins ↦
            let more : mid.queue ≡ x ∷ (rest ++ joins.1.1 ∷ []) = joins.1.3 ∙ ap (λ (q : List Submission). q ++ joins.1.1 ∷ []) queue in
            works_on submitted mid t all.2 (joins.1.5 ∙ alive) x (rest ++ joins.1.1 ∷ []) more no_work
        | inr stays ↦ works_on submitted mid t all.2 (ap (λ (c : State). c.failure) stays.2.1 ∙ alive) x rest (ap (λ (c : State). c.queue) stays.2.1 ∙ queue) no_work
      ]

  -- where the core has no work afterwards, none was accepted
  pub none_submitted : (submitted : List SubmittedCommand) (s t : State) → AreSubmitted v words session s submitted t → s.failure ≡ None → HasNoWork t → (array : ℕ → List ℕ) → array_with v.device submitted array ≡ array
  none_submitted [] s t same alive no_work array = refl
  none_submitted (a ∷ submitted) s t all alive no_work array =
      let mid : State = all.0 in
      elim (stepped v s mid a all.1.2) [
        | inl joins ↦
            let some = one_more s.queue joins.1.1 in
            absurd (works_on submitted mid t all.2 (joins.1.5 ∙ alive) some.0 some.1 (joins.1.3 ∙ some.2) no_work)
        | inr stays ↦
            ap (array_with v.device submitted) (stays.2.2 v.device array)
            ∙ none_submitted submitted mid t all.2 (ap (λ (c : State). c.failure) stays.2.1 ∙ alive) no_work array
      ]

  abbrev pub AllFit : List SubmittedCommand → Type 0
  AllFit submitted = All (FitsDevice v.device) (map (λ (a : SubmittedCommand). a.command) submitted)

  -- the words of the next ticket
  abbrev next_words : State → List ℕ
  next_words s = words s.next (2 * trees_of v.device)

  abbrev now_refused : State → Option Refusal
  now_refused s = rest_of v.device (is_over (status_in s)) (length s.queue) s.next (next_words s)

  reason_of : (s t : State) (a : SubmittedCommand) → FitsDevice v.device a.command → IsSubmitted v words session s a t
      → refusal_of v.device (is_over (status_in s)) (length s.queue) s.next a.command a.words ≡ now_refused s
  reason_of s t a fits step =
      refusal_fits v.device (is_over (status_in s)) (length s.queue) s.next a.command a.words fits
      ∙ ap (λ (ws : List ℕ). rest_of v.device (is_over (status_in s)) (length s.queue) s.next ws) step.1

  -- if one is refused, all after it are refused too
  all_refused : (e : Refusal) (submitted : List SubmittedCommand) (s t : State) → AreSubmitted v words session s submitted t → AllFit submitted → now_refused s ≡ Some e
      → (array : ℕ → List ℕ) → array_with v.device submitted array ≡ array
  all_refused e [] s t all fits is array = refl
  all_refused e (a ∷ submitted) s t all fits is array =
      let mid : State = all.0 in
      let reason = reason_of s mid a (All-head (FitsDevice v.device) a.command (map (λ (b : SubmittedCommand). b.command) submitted) fits) all.1 ∙ is in
      elim (stepped v s mid a all.1.2) [
        | inl joins ↦ absurd (let both : None ≡ Some e = sym joins.0 ∙ reason in cc)
        | inr stays ↦
            ap (array_with v.device submitted) (stays.2.2 v.device array)
            ∙ all_refused e submitted mid t all.2 (All-tail (FitsDevice v.device) a.command (map (λ (b : SubmittedCommand). b.command) submitted) fits) (ap now_refused stays.2.1 ∙ is) array
      ]

  -- so the first ones are accepted, all or some or none, and the array is the one after these
  pub first_accepted : (submitted : List SubmittedCommand) (s t : State) → AreSubmitted v words session s submitted t → AllFit submitted
      → (n : ℕ) × (n ≤ length submitted) × ((array : ℕ → List ℕ) → array_with v.device submitted array ≡ after_commands v.device (take n (map (λ (a : SubmittedCommand). a.command) submitted)) array)
  first_accepted [] s t all fits = (0, omega arith, λ array. refl)
  first_accepted (a ∷ submitted) s t all fits =
      let mid : State = all.0 in
      elim (stepped v s mid a all.1.2) [
        | inl joins ↦
            let rest = first_accepted submitted mid t all.2 (All-tail (FitsDevice v.device) a.command (map (λ (b : SubmittedCommand). b.command) submitted) fits) in (
              suc rest.0,
              (let few : rest.0 ≤ length submitted = rest.1 in omega arith),
              λ array. ap (array_with v.device submitted) (joins.1.4 v.device array) ∙ rest.2 (array_after v.device a.command array),
            )
        | inr stays ↦
            let reason = sym (reason_of s mid a (All-head (FitsDevice v.device) a.command (map (λ (b : SubmittedCommand). b.command) submitted) fits) all.1) ∙ stays.1 in (
              0,
              omega arith,
              λ array. all_refused stays.0 (a ∷ submitted) s t all fits reason array,
            )
      ]

  -- how many are accepted
  abbrev pub accepted_in : List SubmittedCommand → ℕ
  accepted_in submitted = count_by is_accepted (map (λ (a : SubmittedCommand). a.shown.note) submitted)

  most_accepted : (submitted : List SubmittedCommand) → accepted_in submitted ≤ length submitted
  most_accepted submitted =
      subst (λ (n : ℕ). accepted_in submitted ≤ n) (length-map submitted (λ (a : SubmittedCommand). a.shown.note)) (count_by-le-length is_accepted (map (λ (a : SubmittedCommand). a.shown.note) submitted))

  counted : (a : SubmittedCommand) (submitted : List SubmittedCommand) → accepted_in (a ∷ submitted) ≡ (if is_accepted a.shown.note then 1 else 0) + accepted_in submitted
  counted a submitted = sum_by-cons (λ (n : Note). if is_accepted n then 1 else 0) a.shown.note (map (λ (b : SubmittedCommand). b.shown.note) submitted)

  -- if all commands are accepted, they are in the queue in their order
  pub record AreQueued (submitted : List SubmittedCommand) (s t : State) : Type 0 where
    pub waiting : List Submission
    pub commands : map (λ (y : Submission). y.command) waiting ≡ map (λ (a : SubmittedCommand). a.command) submitted
    pub queue : t.queue ≡ s.queue ++ waiting

  pub all_accepted : (submitted : List SubmittedCommand) (s t : State) → AreSubmitted v words session s submitted t → length submitted ≤ accepted_in submitted
      → AreQueued submitted s t × ((array : ℕ → List ℕ) → array_with v.device submitted array ≡ after_commands v.device (map (λ (a : SubmittedCommand). a.command) submitted) array)
  all_accepted [] s t all many = (
    record { waiting = []; commands = refl; queue = ap (λ (c : State). c.queue) (sym all) ∙ sym (append-nil s.queue) },
    λ array. refl,
  )
  all_accepted (a ∷ submitted) s t all many =
      let mid : State = all.0 in
      let most = most_accepted submitted in
      elim (stepped v s mid a all.1.2) [
        | inl joins ↦
            let one = counted a submitted ∙ ap (λ (b : Bool). (if b then 1 else 0) + accepted_in submitted) joins.1.0 in
            let rest = all_accepted submitted mid t all.2 (omega (arith, one, many, most)) in (
              record {
                waiting = joins.1.1 ∷ rest.0.waiting;
                commands = ap (λ (c : Command). c ∷ map (λ (y : Submission). y.command) rest.0.waiting) joins.1.2 ∙ ap (λ (cs : List Command). a.command ∷ cs) rest.0.commands;
                queue = rest.0.queue ∙ ap (λ (q : List Submission). q ++ rest.0.waiting) joins.1.3 ∙ append_assoc s.queue (joins.1.1 ∷ []) rest.0.waiting;
              },
              λ array. ap (array_with v.device submitted) (joins.1.4 v.device array) ∙ rest.1 (array_after v.device a.command array),
            )
        | inr stays ↦
            let none = counted a submitted ∙ ap (λ (b : Bool). (if b then 1 else 0) + accepted_in submitted) stays.2.0 in
            absurd (omega (arith, none, many, most))
      ]

  -- if fewer are accepted than were submitted, one of them wasn't accepted
  pub one_refused : (submitted : List SubmittedCommand) → accepted_in submitted < length submitted → (before after : List SubmittedCommand) × (a : SubmittedCommand) × (is_accepted a.shown.note ≡ false) × (submitted ≡ before ++ a ∷ after)
  one_refused [] few = absurd (omega (arith, few))
  one_refused (a ∷ submitted) few = by (is_accepted a.shown.note) refl (λ less. one_refused submitted less)
    where
      by : (b : Bool) → is_accepted a.shown.note ≡ b
          → (accepted_in submitted < length submitted → (before after : List SubmittedCommand) × (x : SubmittedCommand) × (is_accepted x.shown.note ≡ false) × (submitted ≡ before ++ x ∷ after))
          → (before after : List SubmittedCommand) × (x : SubmittedCommand) × (is_accepted x.shown.note ≡ false) × (a ∷ submitted ≡ before ++ x ∷ after)
      by false is more = ([], submitted, a, is, refl)
      by true is more =
          let one = counted a submitted ∙ ap (λ (b : Bool). (if b then 1 else 0) + accepted_in submitted) is in
          let rest = more (omega (arith, one, few)) in
          (a ∷ rest.0, rest.1, rest.2, rest.3, ap (λ (l : List SubmittedCommand). a ∷ l) rest.4)
