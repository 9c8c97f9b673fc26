-- Events that are no good answer: the core afterwards.
use Rattle.std.proofs.Common.{◌≡◌, ℕ, ◌+◌, ◌-◌, Bool, false, List, [], ◌∷◌, ◌++◌, length, length-append, reverse, None, refl, ap, sym, ◌∙◌, subst, arith, append_assoc}
use Rattle.std.specs.List.{All}
use Rattle.std.proofs.lemmas.List.Elements.{All-push}
use Rattle.oram_geometry.specs.declared.Sizes.{Sizes}
use Rattle.oram_geometry.specs.Sizes.{trees_of}
use Rattle.oram_semantics.specs.Progress.{Setting, Step, Progress, accepted, progress, sent}
use Rattle.oram_semantics.specs.Content.{map_entry_in}
use Rattle.oram_semantics.specs.State.{State}
use Rattle.oram_tree.specs.State.{State as Tree}
use Rattle.oram_semantics.proofs.Nonces.{nonce_at}
use Rattle.oram_semantics.specs.Moves.{accepts, latest, first_fetch, if_idle, Sends}
use Rattle.oram_semantics.specs.declared.events.Submission.{Submission}
use Rattle.oram_semantics.specs.Law.{world_of}
use Rattle.oram_semantics.proofs.Bounds.{IsFit}
use Rattle.oram_semantics.specs.Agree.{TicketsFrom}
use Rattle.oram_semantics.proofs.Follows.{FitsTable, applied, applied_none, AtWork, Live}
use Rattle.oram_semantics.proofs.Counts.{sent_cons}
use Rattle.oram_semantics.proofs.Fetches.{begins_next}

pub all_none : {X : Type 0} (P : X → Type 0) → All P []
all_none P = λ k e h. absurd (omega arith)

pub all_one : {X : Type 0} (P : X → Type 0) (x : X) → P x → All P (x ∷ [])
all_one P x h = All-push P [] x (all_none P) h

pub tickets_push : (t : ℕ) (queue : List Submission) (x : Submission) → TicketsFrom t queue → x.ticket ≡ t + length queue
    → TicketsFrom t (queue ++ x ∷ [])
tickets_push t [] x ts e = (e ∙ omega arith, tt)
tickets_push t (y ∷ queue) x ts e = (ts.0, tickets_push (t + 1) queue x ts.1 (e ∙ omega arith))

-- the same command is at work after one more event
pub AtWork_kept : (v : Setting) (past past' : List Step) (old queue : List Submission) (s : State) (next n : ℕ)
    (whole : List Submission) (b : Bool) (ts : List Tree)
    → ((older : List (List ℕ)) → sent past ≡ s.message ∷ older → (more : List (List ℕ)) × (sent past' ≡ s.message ∷ more))
    → (length queue ≡ 0 → b ≡ false) → AtWork v past old s queue
    → AtWork v past' old (record s { next = next; nonce = n; queue = whole; lost = b; trees = ts }) queue
AtWork_kept v past past' old [] s next n whole b ts latest calm w = record { entry_number = w.entry_number; calm = calm refl }
AtWork_kept v past past' old (x ∷ rest) s next n whole b ts latest calm w =
    let more = latest w.older w.latest in
    record { entry_number = w.entry_number; asks = w.asks; older = more.0; latest = more.1; held_entry = w.held_entry; held_data = w.held_data }

-- only the loss has changed
pub live_kept : (v : Setting) (past past' : List Step) (old : List Submission) (s : State) (b : Bool) (ts : List Tree)
    (n : ℕ) → Live v past old s → progress v past' ≡ record { good = (progress v past).good; lost = b; failure = None }
    → accepted past' ≡ accepted past → n ≡ s.nonce
    → ((older : List (List ℕ)) → sent past ≡ s.message ∷ older → (more : List (List ℕ)) × (sent past' ≡ s.message ∷ more))
    → (length s.queue ≡ 0 → b ≡ false) → Live v past' old (record s { nonce = n; lost = b; trees = ts })
live_kept v past past' old s b ts n l p a nonce_is latest calm = record {
  alive = ap (λ (q : Progress). q.failure) p;
  lost = ap (λ (q : Progress). q.lost) p;
  good = ap (λ (q : Progress). q.good) p ∙ l.good;
  split = a ∙ l.split;
  words = l.words;
  allowed = l.allowed;
  tickets = l.tickets;
  next = l.next;
  nonce = nonce_is ∙ l.nonce ∙ ap (nonce_at v) (sym (ap (λ (q : Progress). q.good) p));
  sized = l.sized;
  table = l.table;
  work = AtWork_kept v past past' old s.queue s s.next n s.queue b ts latest calm l.work;
}

pub applied_push : (d : Sizes) (old queue : List Submission) (x : Submission) (r i : ℕ) → (length queue ≡ 0 → r ≡ 0)
    → applied d old (queue ++ x ∷ []) r i ≡ applied d old queue r i
unfolding applied
applied_push d old [] x r i idle = ap (λ (k : ℕ). applied d old (x ∷ []) k i) (idle refl) ∙ applied_none d old (x ∷ []) i
applied_push d old (y ∷ queue) x r i idle = refl

pub idle_stage : (v : Setting) (past : List Step) (old : List Submission) (s : State) (queue : List Submission)
    → AtWork v past old s queue → length queue ≡ 0 → s.entry_number ≡ 0
idle_stage v past old s [] w e = w.entry_number
idle_stage v past old s (x ∷ rest) w e = absurd (omega arith)

abbrev pub accepted_state : Setting → List Step → State → Submission → List Tree → ℕ → List ℕ → State
accepted_state v past s x ts n m = record (accepts v.scheme s (world_of v past) x).state { trees = ts; nonce = n; message = m }

AtWork_push : (v : Setting) (past : List Step) (old queue : List Submission) (s : State) (x : Submission) (step : Step)
    (ts : List Tree) (n : ℕ) → IsFit v.scheme.device → Live v past old s → FitsTable v.scheme.device x → s.queue ≡ queue
    → Sends v.scheme s.message (if_idle queue (first_fetch v.scheme.device s.table (x ∷ []))) step.sends
    → AtWork v past old s queue
    → AtWork v (step ∷ past) old (accepted_state v past s x ts n (latest step.sends s.message)) (queue ++ x ∷ [])
AtWork_push v past old [] s x step ts n fit l ok qu sends w =
    let d = v.scheme.device in
    let t : State = accepted_state v past s x ts n (latest step.sends s.message) in
    let z : s.entry_number ≡ 0 = w.entry_number in
    begins_next v past old (x ∷ []) t step fit z w.calm s.message refl (all_one (FitsTable d) x ok)
    (λ a below. l.table a below ∙ ap (λ (k : ℕ). map_entry_in d (trees_of d - 1) (applied d old s.queue k (trees_of d - 1)) a) z ∙ ap (λ xs. map_entry_in d (trees_of d - 1) xs a) (applied_none d old s.queue (trees_of d - 1))) sends
AtWork_push v past old (y ∷ rest) s x step ts n fit l ok qu sends w =
    let none : step.sends ≡ [] = sends in
    subst (λ ms. AtWork v (step ∷ past) old (accepted_state v past s x ts n (latest ms s.message)) (y ∷ rest ++ x ∷ [])) (sym none)
    (record { entry_number = w.entry_number; asks = w.asks; older = w.older; latest = sent_cons step past ∙ ap (λ ms. ms ++ sent past) none ∙ w.latest; held_entry = w.held_entry; held_data = w.held_data })

pub live_accepted : (v : Setting) (past : List Step) (old : List Submission) (s : State) (x : Submission) (step : Step)
    (ts : List Tree) (n : ℕ) → IsFit v.scheme.device → Live v past old s → FitsTable v.scheme.device x → x.ticket ≡ s.next
    → progress v (step ∷ past) ≡ progress v past → accepted (step ∷ past) ≡ accepted past ++ x ∷ [] → n ≡ s.nonce
    → Sends v.scheme s.message (if_idle s.queue (first_fetch v.scheme.device s.table (x ∷ []))) step.sends
    → Live v (step ∷ past) old (accepted_state v past s x ts n (latest step.sends s.message))
live_accepted v past old s x step ts n fit l ok ticket p a nonce_is sends =
    let d = v.scheme.device in
    record {
      alive = ap (λ (q : Progress). q.failure) p ∙ l.alive;
      lost = ap (λ (q : Progress). q.lost) p ∙ l.lost;
      good = ap (λ (q : Progress). q.good) p ∙ l.good;
      split = a ∙ ap (λ xs. xs ++ x ∷ []) l.split ∙ append_assoc (reverse old) s.queue (x ∷ []);
      words = l.words;
      allowed = All-push (FitsTable d) s.queue x l.allowed ok;
      tickets = tickets_push (length old) s.queue x l.tickets (ticket ∙ l.next);
      next = ap (λ k. k + 1) l.next ∙ omega (arith, length-append s.queue (x ∷ []));
      nonce = nonce_is ∙ l.nonce ∙ ap (nonce_at v) (sym (ap (λ (q : Progress). q.good) p));
      sized = l.sized;
      table = λ b below. l.table b below ∙ ap (λ xs. map_entry_in d (trees_of d - 1) xs b) (sym (applied_push d old s.queue x s.entry_number (trees_of d - 1) (idle_stage v past old s s.queue l.work)));
      work = AtWork_push v past old s.queue s x step ts n fit l ok refl sends l.work;
    }
