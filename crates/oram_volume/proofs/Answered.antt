-- The replies to commands that were all accepted: those of the array, where the host doesn't lie.
use Rattle.std.proofs.Common.{◌≡◌, ◌≢◌, ◌⊎◌, ℕ, Bool, true, List, [], ◌∷◌, ◌++◌, length, map, All, None, Some, refl, sym, ap, ◌∙◌, subst, arith, inl, inr}
use Rattle.std.proofs.lemmas.List.{append-nil}
use Rattle.std.proofs.lemmas.List.Elements.{All-cons, All-head, All-nil, All-tail}
use Rattle.std.specs.List.{FoldsTo, flat_map}
use Rattle.oram_geometry.specs.Sizes.{IsDevice}
use Rattle.oram_geometry.specs.declared.Sizes.{Sizes}
use Rattle.oram_host.specs.Host.{Host}
use Rattle.oram_semantics.specs.ArrayReplies.{array_after}
use Rattle.oram_semantics.specs.Blocks.{body_from}
use Rattle.oram_semantics.specs.Events.{address_of, failed_reply}
use Rattle.oram_semantics.specs.Scheme.{Scheme}
use Rattle.oram_semantics.specs.State.{State}
use Rattle.oram_semantics.specs.declared.events.Command.{Command}
use Rattle.oram_semantics.specs.declared.events.Reply.{Reply}
use Rattle.oram_semantics.specs.declared.events.ReplyBody.{ReplyBody}
use Rattle.oram_semantics.specs.declared.events.ReplyBody.TheVariants.{Failed}
use Rattle.oram_semantics.specs.declared.events.Submission.{Submission}
use Rattle.oram_session.specs.CoreWork.{HasNoWork}
use Rattle.oram_link_laws.specs.Runs.{Exchange}
use Rattle.oram_nbd.proofs.Beside.{one_call}
use Rattle.oram_rounds.specs.Batches.{BatchOutcome}
use Rattle.oram_rounds.specs.CatchUp.{PlainRun}
use Rattle.oram_rounds.specs.Law.{AreBatches}
use Rattle.oram_rounds.specs.Process.Act.{Keeps}
use Rattle.oram_rounds.specs.Process.{Act, DoesAll, IsGoingOn, Process, exchanges_of, process, replies_of}
use Rattle.oram_rounds.specs.Rounds.{Round}
use Rattle.oram_rounds.specs.Service.{AreReplied, ArrayAndQueue, IsServed, after_all}
use Rattle.oram_rounds.specs.Start.{AreSubmitted, SubmittedCommand, array_with}
use Rattle.oram_rounds.proofs.Replies.{replies_are_the_arrays}
use Rattle.oram_rounds.proofs.Start.{resting, served_submitted}
use Rattle.oram_volume.specs.CarriedOut.{bodies_from}
use Rattle.oram_volume.specs.HeldArrays.{HostBeside, HostHears}
use Rattle.oram_volume.proofs.KeptFirst.{kept_then}
use Rattle.oram_volume.proofs.HeldArrays.{Goes, Holds, acts_hold, submitted_hold, had, heard, keeps_on}

-- no reply of an array says that the device failed
never_failed : (bytes : List ℕ) (c : Command) → body_from bytes c ≢ Failed
never_failed bytes (Command.Read a) e = cc
never_failed bytes (Command.Write a new) e = cc
never_failed bytes (Command.Discard a) e = cc

abbrev pub NoneFailed : List Reply → Type 0
NoneFailed replies = All (λ (r : Reply). r.body ≢ ReplyBody.Failed) replies

abbrev pub bodies : List Reply → List ReplyBody
bodies replies = map (λ (r : Reply). r.body) replies

-- the replies of an array say nothing of a failure
pub none_failed : (d : Sizes) (commands : List Command) (array : ℕ → List ℕ) (replies : List Reply) → bodies replies ≡ bodies_from d commands array → NoneFailed replies
none_failed d commands array [] same = All-nil (λ (r : Reply). r.body ≢ ReplyBody.Failed)
none_failed d [] array (r ∷ replies) same = absurd cc
none_failed d (c ∷ commands) array (r ∷ replies) same =
    let first : r.body ≡ body_from (array (address_of c)) c = cc in
    let rest : bodies replies ≡ bodies_from d commands (array_after d c array) = cc in
    All-cons (λ (r : Reply). r.body ≢ ReplyBody.Failed) r replies (λ e. never_failed (array (address_of c)) c (sym first ∙ e)) (none_failed d commands (array_after d c array) replies rest)

-- as many replies as commands, which are the array's
answered : (d : Sizes) (ys : List Submission) (replies : List Reply) (p q : ArrayAndQueue) (before : ℕ → List ℕ) → p.0 ≡ before → p.1 ≡ ys → AreReplied d p replies q → length replies ≡ length ys
    → bodies replies ≡ bodies_from d (map (λ (y : Submission). y.command) ys) before
answered d [] [] p q before here there all many = refl
answered d [] (r ∷ replies) p q before here there all many = absurd (omega (arith, many))
answered d (y ∷ ys) [] p q before here there all many = absurd (omega (arith, many))
answered d (y ∷ ys) (r ∷ replies) p q before here there all many =
    let step = all.1 in
    let x : Submission = step.0 in
    let both : x ∷ all.0.1 ≡ y ∷ ys = sym step.1 ∙ there in
    let first : x ≡ y = cc in
    let rest : all.0.1 ≡ ys = cc in
    let body : r.body ≡ body_from (before (address_of y.command)) y.command =
    ap (λ (s : Reply). s.body) step.2 ∙ ap (λ (a : ℕ → List ℕ). body_from (a (address_of x.command)) x.command) here
    ∙ ap (λ (s : Submission). body_from (before (address_of s.command)) s.command) first in
    let next : all.0.0 ≡ array_after d y.command before = step.3 ∙ ap (λ (a : ℕ → List ℕ). array_after d x.command a) here ∙ ap (λ (s : Submission). array_after d s.command before) first in
    ap (λ (b : ReplyBody). b ∷ bodies replies) body
    ∙ ap (λ (bs : List ReplyBody). body_from (before (address_of y.command)) y.command ∷ bs) (answered d ys replies all.0 q (array_after d y.command before) next rest all.2 (omega (arith, many)))

-- where a command is answered as failed, its reply says so
failed_shows : (given : List Reply) (y : Submission) (ys : List Submission) → NoneFailed (given ++ map failed_reply (y ∷ ys)) → ⊥
failed_shows [] y ys none = All-head (λ (r : Reply). r.body ≢ ReplyBody.Failed) (failed_reply y) (map failed_reply ys) none refl
failed_shows (r ∷ given) y ys none = failed_shows given y ys (All-tail (λ (r : Reply). r.body ≢ ReplyBody.Failed) r (given ++ map failed_reply (y ∷ ys)) none)

-- a core that serves its trees still serves them once commands were submitted
submitted_served : (may_lie : Bool) (v : Scheme) → IsDevice v.device → (words : ℕ → ℕ → List ℕ) (session : ℕ) (submitted : List SubmittedCommand) (s t : State) (before : ℕ → List ℕ) (far : Host)
    → AreSubmitted v words session s submitted t → IsServed v s far before → IsServed v t far before
submitted_served may_lie v device words session [] s t before far same served = subst (λ (c : State). IsServed v c far before) same served
submitted_served may_lie v device words session (a ∷ submitted) s t before far all served =
    submitted_served may_lie v device words session submitted all.0 t before far all.2 (served_submitted may_lie v device s all.0 a far before all.1.2 served)

module _ {B K : Type 0} (batches : B → List (List ℕ) → BatchOutcome → List Exchange → B → Type 0) (reads_back : K → List ℕ → Type 0) (are : AreBatches batches) (v : Scheme) (words : ℕ → ℕ → List ℕ) where
  -- the replies are the array's, or a lie has failed the device, and a reply says so
  abbrev AreRight : Bool → List Submission → List Reply → (ℕ → List ℕ) → Type 0
  AreRight may_lie ys replies array =
      (bodies replies ≡ bodies_from v.device (map (λ (y : Submission). y.command) ys) array) ⊎ ((may_lie ≡ true) × (NoneFailed replies → ⊥))

  -- of a core that has no work and hasn't failed, to which commands were submitted
  module _ (submitted : List SubmittedCommand) (acts : List Act) (session : ℕ) (s t : State) (l : Round B) (k : K) (q : Process B K) (replies : List Reply) (no_work : HasNoWork s) (alive : s.failure ≡ None)
      (chain : AreSubmitted v words session s submitted t) (does : DoesAll v batches reads_back (process t l k) acts q) (given : flat_map replies_of acts ≡ replies) (many : length replies ≡ length t.queue) where
    right_by : (may_lie : Bool) (ys : List Submission) → t.queue ≡ ys → (w later : HostBeside) (array : ℕ → List ℕ) → FoldsTo {P = HostBeside} {A = Exchange} (HostHears may_lie) w (flat_map exchanges_of acts) later
        → Holds batches reads_back are v words may_lie (process s l k) w array → AreRight may_lie ys replies array
    right_by may_lie ys queue w later array run h =
        let host : Host = w.host in
        let idle : s.queue ≡ [] = resting s no_work alive in
        let far : Host = h.will_hold.0 in
        let served : (before : ℕ → List ℕ) × IsServed v s far before × (before ≡ array) = elim h.will_hold.2 [
          | inl will ↦ (will.0, will.1, ap (λ (xs : List Submission). after_all v.device xs will.0) (sym idle) ∙ will.2)
          | inr failed ↦ absurd (let both = sym alive ∙ failed.1.1 in cc)
        ] in
        let before : ℕ → List ℕ = served.0 in
        let going : IsGoingOn may_lie v (process t l k) host before =
        (far, h.will_hold.1, submitted_served may_lie v h.device words session submitted s t before far chain served.1, h.ahead) in
        let went = heard may_lie (flat_map exchanges_of acts) w later run in
        let ran : PlainRun may_lie v host (flat_map exchanges_of acts) later.host = subst (λ (u : Scheme). PlainRun may_lie u host (flat_map exchanges_of acts) later.host) h.same went.1 in
        let all = replies_are_the_arrays batches reads_back are may_lie v acts (process t l k) q host later.host before h.device h.same_device h.same_len going does ran in
        elim all [
          | inl have ↦
              let replied = subst (λ (rs : List Reply). AreReplied v.device (before, t.queue) rs (have.now, q.core.queue)) given have.replied in
              inl (answered v.device ys replies (before, t.queue) (have.now, q.core.queue) array served.2 queue replied (many ∙ ap length queue))
          | inr lost ↦ by lost.left.1 lost.given lost.left refl lost.lies before served.2 lost.replied (sym given ∙ lost.all)
        ]
      where
        by : (rest : List Submission) (gave : List Reply) (left : ArrayAndQueue) → left.1 ≡ rest → may_lie ≡ true → (before : ℕ → List ℕ) → before ≡ array → AreReplied v.device (before, t.queue) gave left
            → replies ≡ gave ++ map failed_reply left.1 → AreRight may_lie ys replies array
        by [] gave left none lies before same replied all =
            let whole : replies ≡ gave = all ∙ ap (λ (xs : List Submission). gave ++ map failed_reply xs) none ∙ append-nil gave in
            inl (answered v.device ys replies (before, t.queue) left array same queue (subst (λ (rs : List Reply). AreReplied v.device (before, t.queue) rs left) (sym whole) replied) (many ∙ ap length queue))
        by (y ∷ xs) gave left some lies before same replied all =
            let whole : replies ≡ gave ++ map failed_reply (y ∷ xs) = all ∙ ap (λ (zs : List Submission). gave ++ map failed_reply zs) some in
            inr (lies, λ ok. failed_shows gave y xs (subst NoneFailed whole ok))

    -- Submissions, and then acts that begin with a keeping, and bring a reply to each command that waits. What the process
    -- holds then is kept.
    pub replies_go_on : (ys : List Submission) → t.queue ≡ ys → (rest : List Act) → acts ≡ Keeps true ∷ rest
        → Goes batches reads_back are v words (process s l k)
        (λ may_lie old new. (new.held ≡ array_with v.device submitted old.held) × AreRight may_lie ys replies old.held × (new.saved ≡ Some new.held)) q
    replies_go_on ys queue rest begin = one_call (flat_map exchanges_of acts) (had batches reads_back are v words submitted acts session s t l k q chain does (kept_then acts rest begin))
        (λ may_lie w later run old h.
        let now : ℕ → List ℕ = array_with v.device submitted old.held in
        let there = submitted_hold batches reads_back are v words may_lie submitted session s t l k w old.held chain h.0 in
        let so : DoesAll v batches reads_back (process t l k) (Keeps true ∷ rest) q = subst (λ (done : List Act). DoesAll v batches reads_back (process t l k) done q) begin does in
        let ran : FoldsTo {P = HostBeside} {A = Exchange} (HostHears may_lie) w (flat_map exchanges_of (Keeps true ∷ rest)) later =
        subst (λ (done : List Act). FoldsTo {P = HostBeside} {A = Exchange} (HostHears may_lie) w (flat_map exchanges_of done) later) begin run in (
          record { held = now; saved = Some now },
          (refl, right_by may_lie ys queue w later old.held run h.0, refl),
          (acts_hold batches reads_back are v words may_lie acts (process t l k) q w later now does run there, keeps_on batches reads_back are v words may_lie rest (process t l k) q w later now so ran there),
        ))
