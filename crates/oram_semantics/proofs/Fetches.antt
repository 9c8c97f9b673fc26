-- A good answer to a STORE, and an accepted submission: the core afterwards.
use Rattle.std.proofs.Common.{◌≡◌, ◌≢◌, ℕ, ◌+◌, ◌-◌, ◌*◌, ◌%◌, ◌<◌, ◌==◌, Bool, true, false, List, [], ◌∷◌, ◌++◌, length, reverse, slice_index, None, refl, ap, sym, ◌∙◌, subst, arith}
use Rattle.std.specs.List.{All}
use Rattle.std.proofs.lemmas.List.Elements.{All-head, All-tail}
use Rattle.std.proofs.lemmas.Bool.Decides.{nat_tests}
use Rattle.oram_geometry.specs.declared.Sizes.{Sizes}
use Rattle.oram_geometry.specs.Sizes.{trees_of, blocks_in}
use Rattle.oram_trace.specs.declared.entries.Entry.{Entry}
use Rattle.oram_semantics.specs.Content.{entry_tree}
use Rattle.oram_semantics.specs.Scheme.{Scheme}
use Rattle.oram_semantics.specs.Messages.{IsMessage, requested}
use Rattle.oram_semantics.specs.Progress.{Setting, Step, Progress, accepted, progress, sent}
use Rattle.oram_semantics.specs.Content.{block_of, map_entry_in}
use Rattle.oram_semantics.specs.State.{State}
use Rattle.oram_tree.specs.State.{State as Tree}
use Rattle.oram_semantics.proofs.Nonces.{nonce_at}
use Rattle.oram_semantics.specs.Moves.{leaf_for, fetch_at, fetches, finishes, latest, first_fetch, Sends}
use Rattle.oram_semantics.specs.declared.events.Submission.{Submission}
use Rattle.oram_semantics.proofs.Entries.{turn}
use Rattle.oram_semantics.specs.Law.{world_of}
use Rattle.oram_semantics.proofs.Bounds.{IsFit}
use Rattle.oram_semantics.specs.Agree.{TicketsFrom}
use Rattle.oram_semantics.proofs.Follows.{FitsTable, applied, applied_none, applied_yes, applied_same, entry_for, Working, AtWork, Live}
use Rattle.oram_semantics.proofs.Counts.{requested_is, sent_cons}
use Rattle.oram_semantics.proofs.Stores.{leaf_fits}

-- the FETCH asks for its entry, with the map entry that was held
pub fetch_entry : (d : Sizes) (old : List Submission) (x : Submission) (r map_entry : ℕ) → r % 2 ≡ 0
    → map_entry ≡ map_entry_in d (entry_tree d r) old (block_of d (entry_tree d r) x) → fetch_at d r map_entry x ≡ entry_for d old x r
fetch_entry d old x r map_entry even e =
    let fetch : (r % 2 == 0) ≡ true = grind (arith, nat_tests) in
    ap (λ (b : Bool). record { fetch = b; tree = entry_tree d r; leaf = leaf_for d (entry_tree d r) map_entry x }) (sym fetch)
    ∙ ap (λ (n : ℕ). record { fetch = r % 2 == 0; tree = entry_tree d r; leaf = leaf_for d (entry_tree d r) n x }) e

requested_fetch : (v : Scheme) (old : List Submission) (x : Submission) (r map_entry : ℕ) (m : List ℕ) → r % 2 ≡ 0
    → map_entry ≡ map_entry_in v.device (entry_tree v.device r) old (block_of v.device (entry_tree v.device r) x)
    → IsMessage v (fetch_at v.device r map_entry x) m → requested m ≡ entry_for v.device old x r
requested_fetch v old x r map_entry m even e is =
    let same = fetch_entry v.device old x r map_entry even e in
    requested_is v (entry_for v.device old x r) m (leaf_fits v.device old x r) (subst (λ (f : Entry). IsMessage v f m) same is)

-- the state after a good answer to a STORE in the middle of a command
abbrev pub fetched_state : Setting → List Step → State → Submission → List Tree → ℕ → List ℕ → State
fetched_state v past s x ts n m = record (fetches v.scheme s (world_of v past) x).state { trees = ts; nonce = n; message = m }

pub live_fetched : (v : Setting) (past : List Step) (old rest : List Submission) (s : State) (x : Submission) (step : Step)
    (ts : List Tree) (n : ℕ) (m : List ℕ) → IsFit v.scheme.device → Live v past old s → s.queue ≡ x ∷ rest
    → Working v past old s x → s.entry_number % 2 ≡ 1 → s.entry_number + 1 < 2 * trees_of v.scheme.device → s.lost ≡ false
    → progress v (step ∷ past) ≡ record { good = (progress v past).good + 1; lost = false; failure = None }
    → accepted (step ∷ past) ≡ accepted past → sent (step ∷ past) ≡ m ∷ sent past
    → IsMessage v.scheme (fetch_at v.scheme.device (s.entry_number + 1) s.held_entry x) m → n ≡ nonce_at v ((progress v past).good + 1)
    → Live v (step ∷ past) old (fetched_state v past s x ts n m)
live_fetched v past old rest s x step ts n m fit l qu w odd more calm p a sent_is is nonce_is =
    let d = v.scheme.device in
    let held_entry : s.held_entry ≡ map_entry_in d (entry_tree d (s.entry_number + 1)) old (block_of d (entry_tree d (s.entry_number + 1)) x) =
    w.held_entry (omega arith) more in
    let t : State = fetched_state v past s x ts n m in
    let same : entry_tree d (s.entry_number + 1) ≡ entry_tree d (s.entry_number + 1 + 1) = omega arith in
    let apart : 2 * (trees_of d - 1 - (trees_of d - 1)) ≢ s.entry_number = omega arith in
    let work : Working v (step ∷ past) old t x = record {
      entry_number = more;
      asks = requested_fetch v.scheme old x (s.entry_number + 1) s.held_entry m (omega arith) held_entry is;
      older = sent past;
      latest = sent_is;
      held_entry = λ some next. held_entry ∙ ap (λ (i : ℕ). map_entry_in d i old (block_of d i x)) same;
      held_data = λ e. absurd (omega arith);
    } in
    record {
      alive = ap (λ (q : Progress). q.failure) p;
      lost = ap (λ (q : Progress). q.lost) p ∙ sym calm;
      good = ap (λ (q : Progress). q.good) p ∙ ap (λ k. k + 1) l.good ∙ omega arith;
      split = a ∙ l.split;
      words = l.words;
      allowed = l.allowed;
      tickets = l.tickets;
      next = l.next;
      nonce = nonce_is ∙ ap (nonce_at v) (sym (ap (λ (q : Progress). q.good) p));
      sized = l.sized;
      table = λ b below. l.table b below
          ∙ ap (λ q. map_entry_in d (trees_of d - 1) (applied d old q s.entry_number (trees_of d - 1)) b) qu
          ∙ ap (λ xs. map_entry_in d (trees_of d - 1) xs b) (sym (applied_same d old rest x s.entry_number (trees_of d - 1) apart))
          ∙ ap (λ q. map_entry_in d (trees_of d - 1) (applied d old q (s.entry_number + 1) (trees_of d - 1)) b) (sym qu);
      work = subst (AtWork v (step ∷ past) old t) (sym qu) work;
    }

-- the content is still the defined one
pub applied_fetched : (d : Sizes) (old rest : List Submission) (x : Submission) (r i : ℕ) → r % 2 ≡ 1
    → applied d old (x ∷ rest) (r + 1) i ≡ applied d old (x ∷ rest) r i
applied_fetched d old rest x r i odd = applied_same d old rest x r i (omega arith)

pub applied_finished : (d : Sizes) (old rest : List Submission) (x : Submission) (r i : ℕ) → r + 1 ≡ 2 * trees_of d
    → applied d (x ∷ old) rest 0 i ≡ applied d old (x ∷ rest) r i
applied_finished d old rest x r i last = applied_none d (x ∷ old) rest i ∙ sym (applied_yes d old rest x r i (omega arith))

-- a command begins
begins : (v : Setting) (past : List Step) (old : List Submission) (y : Submission) (t : State) (step : Step) (m : List ℕ)
    → IsFit v.scheme.device → t.entry_number ≡ 0 → FitsTable v.scheme.device y → sent (step ∷ past) ≡ m ∷ sent past → t.message ≡ m
    → slice_index t.table (block_of v.scheme.device (trees_of v.scheme.device - 1) y) ≡ map_entry_in v.scheme.device (trees_of v.scheme.device - 1) old (block_of v.scheme.device (trees_of v.scheme.device - 1) y)
    → IsMessage v.scheme (fetch_at v.scheme.device 0 (slice_index t.table (block_of v.scheme.device (trees_of v.scheme.device - 1) y)) y) m
    → Working v (step ∷ past) old t y
begins v past old y t step m fit zero_is ok sent_is last_is map_entry_is is =
    let d = v.scheme.device in
    let top : trees_of d - 1 ≡ entry_tree d 0 = omega arith in
    let some : 0 < trees_of d = fit.some in
    record {
      entry_number = omega arith;
      asks = ap requested last_is
          ∙ requested_fetch v.scheme old y 0 _ m refl (map_entry_is ∙ ap (λ (i : ℕ). map_entry_in d i old (block_of d i y)) top) is
          ∙ ap (entry_for d old y) (sym zero_is);
      older = sent past;
      latest = sent_is ∙ ap (λ (k : List ℕ). k ∷ sent past) (sym last_is);
      held_entry = λ more next. absurd (omega arith);
      held_data = λ e. absurd (omega arith);
    }

-- the state after a command's last good answer
abbrev pub finished_state : Setting → List Step → State → Submission → List Submission → List Tree → ℕ → List ℕ → State
finished_state v past s x rest ts n m =
    record (finishes v.scheme s (world_of v past) x rest).state { trees = ts; nonce = n; message = m }

pub begins_next : (v : Setting) (past : List Step) (old rest : List Submission) (t : State) (step : Step)
    → IsFit v.scheme.device → t.entry_number ≡ 0 → t.lost ≡ false → (was : List ℕ) → t.message ≡ latest step.sends was
    → All (FitsTable v.scheme.device) rest
    → ((a : ℕ) → a < blocks_in v.scheme.device (trees_of v.scheme.device - 1) → slice_index t.table a ≡ map_entry_in v.scheme.device (trees_of v.scheme.device - 1) old a)
    → Sends v.scheme was (first_fetch v.scheme.device t.table rest) step.sends → AtWork v (step ∷ past) old t rest
begins_next v past old [] t step fit z calm was last_is all table sends = record { entry_number = z; calm = calm }
begins_next v past old (y ∷ rest) t step fit z calm was last_is all table sends =
    let ok : FitsTable v.scheme.device y = All-head (FitsTable v.scheme.device) y rest all in
    begins v past old y t step sends.0 fit z ok (sent_cons step past ∙ ap (λ ms. ms ++ sent past) sends.1) (last_is ∙ ap (λ ms. latest ms was) sends.1) (table (block_of v.scheme.device (trees_of v.scheme.device - 1) y) ok.block) sends.2

pub live_finished : (v : Setting) (past : List Step) (old rest : List Submission) (s : State) (x : Submission) (step : Step)
    (ts : List Tree) (n : ℕ) → IsFit v.scheme.device → Live v past old s → s.queue ≡ x ∷ rest → Working v past old s x
    → s.entry_number + 1 ≡ 2 * trees_of v.scheme.device → s.lost ≡ false
    → progress v (step ∷ past) ≡ record { good = (progress v past).good + 1; lost = false; failure = None }
    → accepted (step ∷ past) ≡ accepted past → Sends v.scheme [] (first_fetch v.scheme.device s.table rest) step.sends
    → n ≡ nonce_at v ((progress v past).good + 1)
    → Live v (step ∷ past) (x ∷ old) (finished_state v past s x rest ts n (latest step.sends []))
live_finished v past old rest s x step ts n fit l qu w last calm p a sends nonce_is =
    let d = v.scheme.device in
    let t : State = finished_state v past s x rest ts n (latest step.sends []) in
    let all : All (FitsTable d) (x ∷ rest) = subst (All (FitsTable d)) qu l.allowed in
    let ok : FitsTable d x = All-head (FitsTable d) x rest all in
    let long : length s.queue ≡ length rest + 1 = ap length qu ∙ omega arith in
    let size : length (x ∷ old) ≡ length old + 1 = omega arith in
    let due : 2 * (trees_of d - 1 - (trees_of d - 1)) < s.entry_number = let some : 0 < trees_of d = fit.some in omega arith in
    let table : (b : ℕ) → b < blocks_in d (trees_of d - 1) → slice_index s.table b ≡ map_entry_in d (trees_of d - 1) (x ∷ old) b = λ b below. l.table b below
    ∙ ap (λ q. map_entry_in d (trees_of d - 1) (applied d old q s.entry_number (trees_of d - 1)) b) qu
    ∙ ap (λ xs. map_entry_in d (trees_of d - 1) xs b) (applied_yes d old rest x s.entry_number (trees_of d - 1) due) in
    record {
      alive = ap (λ (q : Progress). q.failure) p;
      lost = ap (λ (q : Progress). q.lost) p ∙ sym calm;
      good = ap (λ (q : Progress). q.good) p ∙ ap (λ k. k + 1) l.good
          ∙ (let whole : length old * (2 * trees_of d) + s.entry_number + 1 ≡ (length old + 1) * (2 * trees_of d) + 0 = omega arith in whole)
          ∙ ap (λ (k : ℕ). k * (2 * trees_of d) + 0) (sym size);
      split = a ∙ l.split ∙ ap (λ xs. reverse old ++ xs) qu ∙ sym (turn x old rest);
      words = (ok.words, l.words);
      allowed = All-tail (FitsTable d) x rest all;
      tickets = subst (λ k. TicketsFrom k rest) (sym size) (subst (TicketsFrom (length old)) qu l.tickets).1;
      next = l.next ∙ omega arith;
      nonce = nonce_is ∙ ap (nonce_at v) (sym (ap (λ (q : Progress). q.good) p));
      sized = l.sized;
      table = λ b below. table b below ∙ ap (λ xs. map_entry_in d (trees_of d - 1) xs b) (sym (applied_none d (x ∷ old) rest (trees_of d - 1)));
      work = begins_next v past (x ∷ old) rest t step fit refl calm [] refl (All-tail (FitsTable d) x rest all) table sends;
    }
