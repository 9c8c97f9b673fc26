-- The effect of an event of an honest host on a core.
use Rattle.std.proofs.Common.{◌≡◌, ◌≢◌, ℕ, ◌+◌, ◌-◌, ◌*◌, ◌%◌, ◌^◌, ◌<◌, ◌≤◌, ◌==◌, Bool, false, if◌then◌else◌, List, [], ◌∷◌, ◌++◌, length, slice_index, Option, Some, None, refl, ap, sym, ◌∙◌, subst, arith, inl, inr}
use Rattle.std.proofs.Math.Nat.{pow-le-pow_right}
use Rattle.std.proofs.lemmas.Nat.{pow_pos}
use Rattle.std.proofs.lemmas.Bool.Decides.{nat_tests, eqb_tells}
use Rattle.oram_geometry.specs.declared.Sizes.{Sizes}
use Rattle.oram_geometry.specs.Sizes.{trees_of, depth_of, leaf_of}
use Rattle.oram_trace.specs.declared.entries.Entry.{Entry}
use Rattle.oram_host.specs.Host.{Host}
use Rattle.oram_semantics.specs.Agree.{Agrees, IsOrderly}
use Rattle.oram_semantics.specs.Content.{block_of, entry_tree}
use Rattle.oram_semantics.specs.Messages.{IsMessage, requested}
use Rattle.oram_semantics.specs.Moves.{Ask, IsReady, IsReadyFor, Moved, MovesTo, Sends, accepts, fetch_at, fetches, finishes, first_fetch, goes_on, if_idle, latest, leaf_for, on_submission, records_after, records_next, resends, stalls, stays, stores, world_after}
use Rattle.oram_semantics.specs.Moves.Ask.{Nothing, For}
use Rattle.oram_semantics.specs.Run.{Shown, fails_now}
use Rattle.oram_semantics.specs.Scheme.{Scheme}
use Rattle.oram_semantics.specs.State.{AllStand, State, World, map_entry_now}
use Rattle.oram_semantics.specs.declared.events.Note.{Note}
use Rattle.oram_semantics.specs.declared.events.Note.TheVariants.{Refused}
use Rattle.oram_semantics.specs.declared.events.Refusal.{Refusal}
use Rattle.oram_semantics.specs.declared.events.Submission.{Submission}
use Rattle.oram_semantics.proofs.AgreeSteps.{agreeing_fits}
use Rattle.oram_semantics.proofs.Bounds.{IsFit, depth_small}
use Rattle.oram_semantics.proofs.Counts.{requested_is}
use Rattle.oram_host_laws.specs.Honest.{KeepsAll}
use Rattle.oram_host_laws.specs.HostRecords.{Hosts, HostsBy, HostsWork, IsPosted}

-- a core that hasn't failed, whose trees stand in a world and agree there
pub record Stays (v : Scheme) (t : State) (u : World) : Type 0 where
  pub alive : t.failure ≡ None
  pub orderly : IsOrderly v t
  pub holds : AllStand v t u
  pub agrees : Agrees v t u

-- The event doesn't fail the device, and the host keeps the records of the world after it.
pub record Goes (v : Scheme) (s : State) (w : World) (host : Host) (m : Moved) : Type 0 where
  pub alive : m.state.failure ≡ None
  pub calm : fails_now m.note ≡ false
  pub hosts : (x : Shown) (t : State) → MovesTo v s w m x t → Stays v t (world_after v w m x.sends)
      → Hosts v t (world_after v w m x.sends) host

-- the message sent last is the same, for the same stage

work_same : (v : Scheme) (s t : State) (w u : World) (host : Host) → t.entry_number ≡ s.entry_number → t.message ≡ s.message
    → u.records ≡ w.records → HostsWork v s w host → HostsWork v t u host
work_same v s t w u host entry_number last same h = record {
  posted = record {
    whole = subst (λ (m : List ℕ). IsMessage v (requested m) m) (sym last) h.posted.whole;
    tree = ap (λ (m : List ℕ). (requested m).tree) last ∙ h.posted.tree ∙ ap (λ (r : ℕ). entry_tree v.device r) (sym entry_number);
    leaf = subst (λ (m : List ℕ). (requested m).leaf < 2 ^ depth_of v.device (entry_tree v.device t.entry_number)) (sym last)
        (subst (λ (r : ℕ). (requested s.message).leaf < 2 ^ depth_of v.device (entry_tree v.device r)) (sym entry_number) h.posted.leaf);
  };
  before = h.before;
  leaves = same ∙ h.leaves ∙ ap (λ (m : List ℕ). records_after v h.before (m ∷ [])) (sym last);
  keeps = elim h.keeps [ inl lacks ↦ inl lacks | inr whole ↦ inr (subst (λ (r : ℕ → ℕ → List ℕ). KeepsAll v r host) (sym same) whole) ];
}

hosts_by : (v : Scheme) (s t : State) (w u : World) (host : Host) (queue : List Submission) → t.entry_number ≡ s.entry_number
    → t.message ≡ s.message → u.records ≡ w.records → HostsBy v s w host queue → HostsBy v t u host queue
hosts_by v s t w u host [] entry_number last same h = subst (λ (r : ℕ → ℕ → List ℕ). KeepsAll v r host) (sym same) h
hosts_by v s t w u host (x ∷ rest) entry_number last same h = work_same v s t w u host entry_number last same h

hosts_same : (v : Scheme) (s t : State) (w u : World) (host : Host) → t.queue ≡ s.queue → t.entry_number ≡ s.entry_number
    → t.message ≡ s.message → u.records ≡ w.records → Hosts v s w host → Hosts v t u host
hosts_same v s t w u host queue entry_number last same h =
    subst (HostsBy v t u host) (sym queue) (hosts_by v s t w u host s.queue entry_number last same h)

-- no message is sent
silent : (v : Scheme) (s : State) (w : World) (m : Moved) (x : Shown) (t : State) → m.ask ≡ Nothing → MovesTo v s w m x t
    → x.sends ≡ []
silent v s w m x t ask mv = subst (λ (a : Ask). Sends v s.message a x.sends) ask mv.sends

silent_last : (v : Scheme) (s : State) (w : World) (m : Moved) (x : Shown) (t : State) → m.ask ≡ Nothing → MovesTo v s w m x t
    → t.message ≡ m.state.message
silent_last v s w m x t ask mv =
    ap (λ (u : State). u.message) mv.state ∙ ap (λ (xs : List (List ℕ)). latest xs m.state.message) (silent v s w m x t ask mv)

silent_records : (v : Scheme) (w : World) (m : Moved) (sends : List (List ℕ)) → m.ask ≡ Nothing
    → (world_after v w m sends).records ≡ w.records
silent_records v w m sends ask = ap (λ (a : Ask). records_next v w.records a sends) ask

pub goes_quiet : (v : Scheme) (s : State) (w : World) (host : Host) (m : Moved) → m.state.failure ≡ None
    → fails_now m.note ≡ false → m.ask ≡ Nothing → m.state.queue ≡ s.queue → m.state.entry_number ≡ s.entry_number → m.state.message ≡ s.message
    → Hosts v s w host → Goes v s w host m
goes_quiet v s w host m alive calm ask queue entry_number last h = record {
  alive = alive;
  calm = calm;
  hosts = λ x t mv st. hosts_same v s t w (world_after v w m x.sends) host
      (ap (λ (u : State). u.queue) mv.state ∙ queue) (ap (λ (u : State). u.entry_number) mv.state ∙ entry_number) (silent_last v s w m x t ask mv ∙ last)
      (silent_records v w m x.sends ask) h;
}

-- the last message is sent again
pub goes_again : (v : Scheme) (s : State) (w : World) (host : Host) → s.failure ≡ None → Hosts v s w host
    → Goes v s w host (resends s w)
goes_again v s w host alive h = record {
  alive = alive;
  calm = refl;
  hosts = λ x t mv st. hosts_same v s t w (world_after v w (resends s w) x.sends) host
      (ap (λ (u : State). u.queue) mv.state) (ap (λ (u : State). u.entry_number) mv.state)
      (ap (λ (u : State). u.message) mv.state ∙ ap (λ (xs : List (List ℕ)). latest xs s.message) mv.sends) refl h;
}

-- a new message is sent, for a path of the tree at work
hosts_sent : (v : Scheme) (t : State) (u w : World) (x : Submission) (rest : List Submission) (e : Entry) (m : List ℕ) (host : Host)
    → e.tree ≡ entry_tree v.device t.entry_number → e.leaf < 2 ^ depth_of v.device (entry_tree v.device t.entry_number) → IsMessage v e m
    → t.queue ≡ x ∷ rest → t.message ≡ m → u.records ≡ records_after v w.records (m ∷ []) → KeepsAll v w.records host
    → Hosts v t u host
hosts_sent v t u w x rest e m host tree leaf is queue last leaves keeps =
    let depth : ℕ = depth_of v.device (entry_tree v.device t.entry_number) in
    let most : 2 ^ depth ≤ 2 ^ 24 = pow-le-pow_right {n = 2} (omega arith) {i = depth} {j = 24} (depth_small v.device (entry_tree v.device t.entry_number)) in
    let asks : requested m ≡ e = requested_is v e m (omega arith) is in
    let request_is : requested t.message ≡ e = ap requested last ∙ asks in
    subst (HostsBy v t u host) (sym queue) (record {
      posted = record {
        whole = subst (λ (k : List ℕ). IsMessage v (requested k) k) (sym last) (subst (λ (f : Entry). IsMessage v f m) (sym asks) is);
        tree = ap (λ (f : Entry). f.tree) request_is ∙ tree;
        leaf = subst (λ (f : Entry). f.leaf < 2 ^ depth) (sym request_is) leaf;
      };
      before = w.records;
      leaves = leaves ∙ ap (λ (k : List ℕ). records_after v w.records (k ∷ [])) (sym last);
      keeps = inl keeps;
    })

-- the same, if the rule asks for an entry
hosts_requested : (v : Scheme) (s t : State) (w : World) (host : Host) (m : Moved) (x : Shown) (y : Submission) (rest : List Submission) (e : Entry)
    → m.ask ≡ For e → e.tree ≡ entry_tree v.device m.state.entry_number
    → e.leaf < 2 ^ depth_of v.device (entry_tree v.device m.state.entry_number) → m.state.queue ≡ y ∷ rest → KeepsAll v w.records host
    → MovesTo v s w m x t → Hosts v t (world_after v w m x.sends) host
hosts_requested v s t w host m x y rest e ask tree leaf queue keeps mv =
    let sent : (k : List ℕ) × (x.sends ≡ k ∷ []) × IsMessage v e k = subst (λ (a : Ask). Sends v s.message a x.sends) ask mv.sends in
    let entry_number : t.entry_number ≡ m.state.entry_number = ap (λ (u : State). u.entry_number) mv.state in
    hosts_sent v t (world_after v w m x.sends) w y rest e sent.0 host (tree ∙ ap (λ (r : ℕ). entry_tree v.device r) (sym entry_number))
    (subst (λ (r : ℕ). e.leaf < 2 ^ depth_of v.device (entry_tree v.device r)) (sym entry_number) leaf) sent.2
    (ap (λ (u : State). u.queue) mv.state ∙ queue)
    (ap (λ (u : State). u.message) mv.state ∙ ap (λ (xs : List (List ℕ)). latest xs m.state.message) sent.1)
    (ap (λ (a : Ask). records_next v w.records a x.sends) ask ∙ ap (λ (xs : List (List ℕ)). records_after v w.records xs) sent.1) keeps

-- the map entry of the outstanding FETCH names a leaf of its tree, or none

leaf_inside : (d : Sizes) (i map_entry : ℕ) (x : Submission) → map_entry ≤ 2 ^ depth_of d i → leaf_for d i map_entry x < 2 ^ depth_of d i
leaf_inside d i map_entry x few =
    let some : 0 < 2 ^ depth_of d i = pow_pos (depth_of d i) in
    elim (eqb_tells map_entry 0) [
      | inl none ↦ subst (λ (b : Bool). (if b then leaf_of d i (slice_index x.words (2 * i)) else map_entry - 1) < 2 ^ depth_of d i) (sym none.0) (omega arith)
      | inr other ↦ subst (λ (b : Bool). (if b then leaf_of d i (slice_index x.words (2 * i)) else map_entry - 1) < 2 ^ depth_of d i) (sym other.0) (omega arith)
    ]

map_entry_inside : (v : Scheme) (t : State) (u : World) (x : Submission) (rest : List Submission) → IsFit v.device → Stays v t u
    → t.queue ≡ x ∷ rest → t.entry_number % 2 ≡ 0 → map_entry_now v.device t x ≤ 2 ^ depth_of v.device (entry_tree v.device t.entry_number)
map_entry_inside v t u x rest fit st queue even =
    let some : 0 < trees_of v.device = fit.some in
    let ready : IsReadyFor v t u x = (subst (IsReady v t u) queue (agreeing_fits v t u fit st.orderly st.agrees st.holds st.alive).1) even in
    subst (λ (k : ℕ). k ≤ 2 ^ depth_of v.device (entry_tree v.device t.entry_number)) ready.held_entry
    (st.agrees.leaves (entry_tree v.device t.entry_number) (block_of v.device (entry_tree v.device t.entry_number) x) (omega arith))

-- the fetch of the command at work
pub goes_fetch : (v : Scheme) (s : State) (w : World) (host : Host) (m : Moved) (y : Submission) (rest : List Submission)
    → IsFit v.device → m.state.failure ≡ None → fails_now m.note ≡ false
    → m.ask ≡ For (fetch_at v.device m.state.entry_number (map_entry_now v.device m.state y) y) → m.state.queue ≡ y ∷ rest
    → m.state.entry_number % 2 ≡ 0 → KeepsAll v w.records host → Goes v s w host m
goes_fetch v s w host m y rest fit alive calm ask queue even keeps = record {
  alive = alive;
  calm = calm;
  hosts = λ x t mv st.
      let entry_number : t.entry_number ≡ m.state.entry_number = ap (λ (u : State). u.entry_number) mv.state in
      let map_entry_is : map_entry_now v.device t y ≡ map_entry_now v.device m.state y = ap (λ (u : State). map_entry_now v.device u y) mv.state in
      let few : map_entry_now v.device t y ≤ 2 ^ depth_of v.device (entry_tree v.device t.entry_number) =
      map_entry_inside v t (world_after v w m x.sends) y rest fit st (ap (λ (u : State). u.queue) mv.state ∙ queue) (ap (λ (r : ℕ). r % 2) entry_number ∙ even) in
      let small : map_entry_now v.device m.state y ≤ 2 ^ depth_of v.device (entry_tree v.device m.state.entry_number) =
      subst (λ (k : ℕ). k ≤ 2 ^ depth_of v.device (entry_tree v.device m.state.entry_number)) map_entry_is
      (subst (λ (r : ℕ). map_entry_now v.device t y ≤ 2 ^ depth_of v.device (entry_tree v.device r)) entry_number few) in
      hosts_requested v s t w host m x y rest (fetch_at v.device m.state.entry_number (map_entry_now v.device m.state y) y) ask refl
      (leaf_inside v.device (entry_tree v.device m.state.entry_number) (map_entry_now v.device m.state y) y small) queue keeps mv;
}

-- a command joins the queue

joins : (v : Scheme) (s : State) (w : World) (host : Host) (x : Submission) (queue : List Submission) → IsFit v.device
    → s.failure ≡ None → IsOrderly v s → s.queue ≡ queue → HostsBy v s w host queue → Goes v s w host (accepts v s w x)
joins v s w host x [] fit alive o qu keeps =
    let d : Sizes = v.device in
    let none : s.entry_number ≡ 0 = o.rests (ap length qu) in
    let b : ℕ = block_of d (trees_of d - 1) x in
    goes_fetch v s w host (accepts v s w x) x [] fit alive refl
    (ap (λ (q : List Submission). if_idle q (first_fetch d s.table (x ∷ []))) qu
    ∙ sym (ap (λ (r : ℕ). For (fetch_at d r (if r == 0 then slice_index s.table b else s.held_entry) x)) none))
    (ap (λ (q : List Submission). q ++ x ∷ []) qu) (ap (λ (r : ℕ). r % 2) none) keeps
joins v s w host x (y ∷ rest) fit alive o qu work =
    let m : Moved = accepts v s w x in
    let ask : m.ask ≡ Nothing = ap (λ (q : List Submission). if_idle q (first_fetch v.device s.table (x ∷ []))) qu in
    record {
      alive = alive;
      calm = refl;
      hosts = λ z t mv st.
          subst (HostsBy v t (world_after v w m z.sends) host)
          (sym (ap (λ (u : State). u.queue) mv.state ∙ ap (λ (q : List Submission). q ++ x ∷ []) qu))
          (work_same v s t w (world_after v w m z.sends) host (ap (λ (u : State). u.entry_number) mv.state) (silent_last v s w m z t ask mv) (silent_records v w m z.sends ask) work);
    }

pub goes_submitted : (v : Scheme) (s : State) (w : World) (host : Host) (x : Submission) (o : Option Refusal) → IsFit v.device
    → s.failure ≡ None → IsOrderly v s → Hosts v s w host → Goes v s w host (on_submission v s w x o)
goes_submitted v s w host x (Some e) fit alive o h = goes_quiet v s w host (stays s w (Refused e)) alive refl refl refl refl refl h
goes_submitted v s w host x None fit alive o h = joins v s w host x s.queue fit alive o refl h

-- a good answer

goes_stored : (v : Scheme) (s : State) (w : World) (host : Host) (x : Submission) (rest : List Submission) → s.failure ≡ None
    → s.queue ≡ x ∷ rest → s.entry_number % 2 ≡ 0 → IsPosted v s → KeepsAll v w.records host → Goes v s w host (stores v s w x)
goes_stored v s w host x rest alive qu even posted keeps =
    let same : entry_tree v.device (s.entry_number + 1) ≡ entry_tree v.device s.entry_number = omega arith in
    record {
      alive = alive;
      calm = refl;
      hosts = λ z t mv st.
          hosts_requested v s t w host (stores v s w x) z x rest (record { fetch = false; tree = entry_tree v.device s.entry_number; leaf = (requested s.message).leaf }) refl
          (sym same) (subst (λ (i : ℕ). (requested s.message).leaf < 2 ^ depth_of v.device i) (sym same) posted.leaf) qu keeps mv;
    }

goes_finished : (v : Scheme) (s : State) (w : World) (host : Host) (x : Submission) (rest : List Submission) → IsFit v.device
    → s.failure ≡ None → KeepsAll v w.records host → Goes v s w host (finishes v s w x rest)
goes_finished v s w host x [] fit alive keeps = record {
  alive = alive;
  calm = refl;
  hosts = λ z t mv st. subst (HostsBy v t (world_after v w (finishes v s w x []) z.sends) host) (sym (ap (λ (u : State). u.queue) mv.state)) keeps;
}
goes_finished v s w host x (y ∷ rest) fit alive keeps =
    goes_fetch v s w host (finishes v s w x (y ∷ rest)) y rest fit alive refl refl refl refl keeps

pub goes_good : (v : Scheme) (s : State) (w : World) (host : Host) (x : Submission) (rest : List Submission) → IsFit v.device
    → s.failure ≡ None → s.queue ≡ x ∷ rest → IsPosted v s → KeepsAll v w.records host
    → Goes v s w host (goes_on v s w (x ∷ rest))
goes_good v s w host x rest fit alive qu posted keeps =
    let P : Moved → Type 0 = Goes v s w host in
    elim (eqb_tells (s.entry_number % 2) 0) [
      | inl even ↦ subst (λ (b : Bool). P (if b then stores v s w x else if s.entry_number + 1 == 2 * trees_of v.device then finishes v s w x rest else fetches v s w x)) (sym even.0)
          (goes_stored v s w host x rest alive qu even.1 posted keeps)
      | inr odd ↦ subst (λ (b : Bool). P (if b then stores v s w x else if s.entry_number + 1 == 2 * trees_of v.device then finishes v s w x rest else fetches v s w x)) (sym odd.0)
          (elim (eqb_tells (s.entry_number + 1) (2 * trees_of v.device)) [
            | inl last ↦ subst (λ (b : Bool). P (if b then finishes v s w x rest else fetches v s w x)) (sym last.0) (goes_finished v s w host x rest fit alive keeps)
            | inr more ↦ subst (λ (b : Bool). P (if b then finishes v s w x rest else fetches v s w x)) (sym more.0)
                (let later : (s.entry_number + 1 == 0) ≡ false = grind (arith, nat_tests) in
                let not_even : s.entry_number % 2 ≢ 0 = odd.1 in
                goes_fetch v s w host (fetches v s w x) x rest fit alive refl
                (sym (ap (λ (b : Bool). For (fetch_at v.device (s.entry_number + 1) (if b then slice_index s.table (block_of v.device (trees_of v.device - 1) x) else s.held_entry) x)) later))
                qu (omega arith) keeps)
          ])
    ]

-- the message counts as lost
pub goes_stalled : (v : Scheme) (s : State) (w : World) (host : Host) → s.failure ≡ None → Hosts v s w host
    → Goes v s w host (stalls s w)
goes_stalled v s w host alive h = goes_quiet v s w host (stalls s w) alive refl refl refl refl refl h

-- nothing happens except a note
pub goes_unchanged : (v : Scheme) (s : State) (w : World) (host : Host) (note : Note) → s.failure ≡ None
    → fails_now note ≡ false → Hosts v s w host → Goes v s w host (stays s w note)
goes_unchanged v s w host note alive calm h = goes_quiet v s w host (stays s w note) alive calm refl refl refl refl h
