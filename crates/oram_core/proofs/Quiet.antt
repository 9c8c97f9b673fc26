-- Steps that don't depend on the trees follow the local rule in every world.
use Rattle.std.proofs.Math.Path.{fun_ext}
use Rattle.std.proofs.Common.{◌≡◌, ℕ, ◌+◌, ◌-◌, ◌==◌, true, false, not, if◌then◌else◌, List, [], ◌∷◌, ◌++◌, slice_index, Option, Some, None, refl, ap, sym, subst, arith}
use Rattle.std.specs.List.{All}
use Rattle.oram_geometry.specs.Sizes.{trees_of}
use Rattle.oram_trace.specs.declared.entries.Entry.{Entry}
use Rattle.oram_wire.specs.HostMessages.{fetch_body}
use Rattle.oram_semantics.specs.Messages.{IsMessage, written}
use Rattle.oram_semantics.specs.Moves.{Moved, MovesTo, Ask, PlacedIn, stays, accepts, fetches, finishes, stalls, resends, fails, if_idle, first_fetch, fetch_at, records_after, world_after, latest}
use Rattle.oram_semantics.specs.Run.{Shown}
use Rattle.oram_semantics.specs.Scheme.{Scheme}
use Rattle.oram_semantics.specs.State.{State, World, AllStand, failed_state}
use Rattle.oram_semantics.specs.Content.{block_of}
use Rattle.oram_semantics.specs.declared.events.Note.{Note}
use Rattle.oram_semantics.specs.declared.events.Note.TheVariants.{Accepted}
use Rattle.oram_semantics.specs.declared.events.Reason.{Reason}
use Rattle.oram_semantics.specs.declared.events.Submission.{Submission}
use Rattle.oram_semantics.proofs.Others.{all_none, all_one}
use Rattle.oram_core.specs.PlainSteps.{Done, noted, fetch_of, first_message, sent_if_idle, accepted_by, stalled_by, resent_by, failed_by, fetched_by, finished_by}

-- what it shows of a step
abbrev pub shown_by : Done → Shown
shown_by d = record { note = d.note; replies = d.replies; sends = d.sends }

-- the step of a core follows the rule in a world
abbrev pub Meets : Scheme → State → World → Moved → Done → Type 0
Meets v s w m d = MovesTo v s w m (shown_by d) d.state

-- a FETCH leaves no record at the host
written_fetch : (v : Scheme) (tree leaf i n : ℕ) → written v (fetch_body tree leaf) i n ≡ None
unfolding written
written_fetch v tree leaf i n = elim (tree == i) as (λ b. let o : Option (List ℕ) = if not b then None else None in o ≡ None) [ true ↦ refl | false ↦ refl ]

fetch_leaves : (v : Scheme) (records : ℕ → ℕ → List ℕ) (tree leaf : ℕ) → records_after v records (fetch_body tree leaf ∷ []) ≡ records
fetch_leaves v records tree leaf = fun_ext (λ i. fun_ext (λ n. rw (written_fetch v tree leaf i n) refl))

-- a FETCH asks for its entry
is_fetch : (v : Scheme) (e : Entry) → e.fetch ≡ true → IsMessage v e (fetch_of e)
is_fetch v e f = record { records = []; body = rw f refl; length_is = rw f refl }

-- the trees of one core are those of another, in the same world
holds_same : (v : Scheme) (s t : State) (w : World) (e : Entry) → t.trees ≡ s.trees → AllStand v s w → AllStand v t (record { records = records_after v w.records (fetch_of e ∷ []); content = w.content })
holds_same v s t w e same h = subst (λ (r : ℕ → ℕ → List ℕ). AllStand v t (record { records = r; content = w.content })) (sym (fetch_leaves v w.records e.tree e.leaf)) (λ i below. rw same (h i below))

same_nonce : (s : State) → s.nonce ≡ s.nonce + 0
same_nonce s = omega arith

-- nothing happens
pub stays_met : (v : Scheme) (s : State) (w : World) (note : Note) → (s.failure ≡ None → AllStand v s w) → Meets v s w (stays s w note) (noted s note)
stays_met v s w note h = record {
  note = refl;
  replies = refl;
  sends = refl;
  state = ap (λ (n : ℕ). record s { nonce = n }) (same_nonce s);
  holds = h;
  placed = λ new. all_none _;
}

-- the outstanding message counts as lost
pub stalls_met : (v : Scheme) (s : State) (w : World) → (s.failure ≡ None → AllStand v s w) → Meets v s w (stalls s w) (stalled_by s)
stalls_met v s w h = record {
  note = refl;
  replies = refl;
  sends = refl;
  state = ap (λ (n : ℕ). record s { nonce = n; lost = true }) (same_nonce s);
  holds = h;
  placed = λ new. all_none _;
}

-- it is sent again
pub resends_met : (v : Scheme) (s : State) (w : World) → (s.failure ≡ None → AllStand v s w) → Meets v s w (resends s w) (resent_by s)
resends_met v s w h = record {
  note = refl;
  replies = refl;
  sends = refl;
  state = ap (λ (n : ℕ). record s { nonce = n; lost = false }) (same_nonce s);
  holds = h;
  placed = λ new. cc;
}

-- the device fails
pub fails_met : (v : Scheme) (s : State) (w : World) (e : Reason) → Meets v s w (fails s w e) (failed_by s e)
fails_met v s w e = record {
  note = refl;
  replies = refl;
  sends = refl;
  state = ap (λ (n : ℕ). failed_state s.next n e) (same_nonce s);
  holds = λ alive. absurd (let no_way : Some e ≡ None = alive in cc);
  placed = λ new. all_none _;
}

-- a FETCH is no STORE
fetch_placed : (v : Scheme) (nonce : ℕ) (w : World) (e : Entry) → All (PlacedIn v nonce w) (fetch_of e ∷ [])
fetch_placed v nonce w e = all_one (PlacedIn v nonce w) (fetch_of e) (λ store. absurd (let no_way : false ≡ true = store in cc))

-- the next tree's path is fetched
pub fetches_met : (v : Scheme) (s : State) (w : World) (x : Submission) → (s.failure ≡ None → AllStand v s w) → Meets v s w (fetches v s w x) (fetched_by v s x)
fetches_met v s w x h =
    let e : Entry = fetch_at v.device (s.entry_number + 1) s.held_entry x in
    record {
      note = refl;
      replies = refl;
      sends = (fetch_of e, refl, is_fetch v e refl);
      state = ap (λ (n : ℕ). record s { nonce = n; entry_number = s.entry_number + 1; message = fetch_of e }) (same_nonce s);
      holds = λ alive. holds_same v s (fetched_by v s x).state w e refl (h alive);
      placed = λ new. fetch_placed v s.nonce (world_after v w (fetches v s w x) (fetch_of e ∷ [])) e;
    }

-- a command joins the queue
accepts_into : (v : Scheme) (s : State) (w : World) (x : Submission) (queue : List Submission) → (s.failure ≡ None → AllStand v s w) →
    (let ask : Ask = if_idle queue (first_fetch v.device s.table (x ∷ [])) in
    let sends : List (List ℕ) = sent_if_idle queue (first_message v.device s x) in
    let t : State = record s { next = s.next + 1; queue = s.queue ++ x ∷ [] } in
    MovesTo v s w (record { note = Accepted x.ticket; replies = []; ask = ask; state = t; content = w.content }) (record { note = Accepted x.ticket; replies = []; sends = sends }) (record t { message = latest sends s.message }))
accepts_into v s w x [] h =
    let e : Entry = fetch_at v.device 0 (slice_index s.table (block_of v.device (trees_of v.device - 1) x)) x in
    record {
      note = refl;
      replies = refl;
      sends = (fetch_of e, refl, is_fetch v e refl);
      state = ap (λ (n : ℕ). record s { nonce = n; next = s.next + 1; queue = s.queue ++ x ∷ []; message = fetch_of e }) (same_nonce s);
      holds = λ alive. holds_same v s (record s { next = s.next + 1; queue = s.queue ++ x ∷ []; message = fetch_of e }) w e refl (h alive);
      placed = λ new. fetch_placed v s.nonce (record { records = records_after v w.records (fetch_of e ∷ []); content = w.content }) e;
    }
accepts_into v s w x (y ∷ rest) h = record {
  note = refl;
  replies = refl;
  sends = refl;
  state = ap (λ (n : ℕ). record s { nonce = n; next = s.next + 1; queue = s.queue ++ x ∷ [] }) (same_nonce s);
  holds = h;
  placed = λ new. all_none _;
}

pub accepts_met : (v : Scheme) (s : State) (w : World) (x : Submission) → (s.failure ≡ None → AllStand v s w) → Meets v s w (accepts v s w x) (accepted_by v s x)
accepts_met v s w x h = accepts_into v s w x s.queue h

-- the oldest command has its reply, and the next one begins
pub finishes_met : (v : Scheme) (s : State) (w : World) (x : Submission) (rest : List Submission) → (s.failure ≡ None → AllStand v s w) → Meets v s w (finishes v s w x rest) (finished_by v s x rest)
finishes_met v s w x [] h = record {
  note = refl;
  replies = refl;
  sends = refl;
  state = ap (λ (n : ℕ). record s { nonce = n; queue = []; entry_number = 0; held_entry = 0; held_data = []; message = [] }) (same_nonce s);
  holds = h;
  placed = λ new. all_none _;
}
finishes_met v s w x (y ∷ rest) h =
    let e : Entry = fetch_at v.device 0 (slice_index s.table (block_of v.device (trees_of v.device - 1) y)) y in
    record {
      note = refl;
      replies = refl;
      sends = (fetch_of e, refl, is_fetch v e refl);
      state = ap (λ (n : ℕ). record s { nonce = n; queue = y ∷ rest; entry_number = 0; held_entry = 0; held_data = []; message = fetch_of e }) (same_nonce s);
      holds = λ alive. holds_same v s (finished_by v s x (y ∷ rest)).state w e refl (h alive);
      placed = λ new. fetch_placed v s.nonce (world_after v w (finishes v s w x (y ∷ rest)) (fetch_of e ∷ [])) e;
    }
