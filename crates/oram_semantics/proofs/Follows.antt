-- How a core relates to the past that it has seen.
use Rattle.std.proofs.Common.{◌≡◌, ◌≢◌, ℕ, ◌+◌, ◌-◌, ◌*◌, ◌/◌, ◌%◌, ◌<◌, ◌≤◌, ◌==◌, true, false, if◌then◌else◌, nat_lt, List, [], ◌∷◌, ◌++◌, length, reverse, take, slice_index, Option, Some, None, refl, ap, sym, ◌∙◌, arith}
use Rattle.std.specs.List.{All}
use Rattle.std.proofs.lemmas.List.{length-reverse, reverse-reverse, take_at}
use Rattle.std.proofs.lemmas.Nat.{div-mul-add, mod-mul-add}
use Rattle.std.proofs.lemmas.Bool.Decides.{nat_tests}
use Rattle.oram_geometry.specs.declared.Sizes.{Sizes}
use Rattle.oram_geometry.specs.Sizes.{trees_of, blocks_in}
use Rattle.oram_trace.specs.declared.entries.Entry.{Entry}
use Rattle.oram_semantics.specs.Content.{entry_tree}
use Rattle.oram_semantics.specs.Events.{address_of, array_at}
use Rattle.oram_semantics.specs.Messages.{requested}
use Rattle.oram_semantics.specs.Progress.{Setting, Step, accepted, progress, sent}
use Rattle.oram_semantics.specs.Content.{block_of, map_entry_in, content_after, content_of, accesses}
use Rattle.oram_semantics.specs.State.{State, AllStand}
use Rattle.oram_semantics.specs.Agree.{TicketsFrom}
use Rattle.oram_semantics.specs.Moves.{leaf_for}
use Rattle.oram_semantics.proofs.Nonces.{nonce_at}
use Rattle.oram_semantics.specs.Law.{world_of}
use Rattle.oram_semantics.specs.declared.events.Reason.{Reason}
use Rattle.oram_semantics.specs.declared.events.Submission.{Submission}
use Rattle.oram_semantics.proofs.Entries.{HasWords, turn}
use Rattle.oram_semantics.proofs.Bounds.{IsFit}

-- the command's block of the last tree is in the table, and there are two words for each tree
pub record FitsTable (d : Sizes) (s : Submission) : Type 0 where
  pub block : block_of d (trees_of d - 1) s < blocks_in d (trees_of d - 1)
  pub words : length s.words ≡ 2 * trees_of d

-- The accesses to tree i so far, the newest first: those of the submissions with a reply, and, once its FETCH there
-- has had a good answer, that of the oldest one without.
unfoldable pub applied : Sizes → List Submission → List Submission → ℕ → ℕ → List Submission
applied d old [] r i = old
applied d old (x ∷ rest) r i = if nat_lt (2 * (trees_of d - 1 - i)) r then x ∷ old else old

-- entry r of the oldest submission without a reply
abbrev pub entry_for : Sizes → List Submission → Submission → ℕ → Entry
entry_for d old x r = record { fetch = r % 2 == 0; tree = entry_tree d r; leaf = leaf_for d (entry_tree d r) (map_entry_in d (entry_tree d r) old (block_of d (entry_tree d r) x)) x }

-- what a core holds for the command at work
pub record Working (v : Setting) (past : List Step) (old : List Submission) (s : State) (x : Submission) : Type 0 where
  pub entry_number : s.entry_number < 2 * trees_of v.scheme.device
  pub asks : requested s.message ≡ entry_for v.scheme.device old x s.entry_number
  pub older : List (List ℕ)
  pub latest : sent past ≡ s.message ∷ older
  pub held_entry : 0 < s.entry_number → s.entry_number + 1 < 2 * trees_of v.scheme.device
      → s.held_entry ≡ map_entry_in v.scheme.device (entry_tree v.scheme.device (s.entry_number + 1)) old (block_of v.scheme.device (entry_tree v.scheme.device (s.entry_number + 1)) x)
  pub held_data : s.entry_number + 1 ≡ 2 * trees_of v.scheme.device → s.held_data ≡ array_at v.scheme.device old (address_of x.command)

pub record Resting (s : State) : Type 0 where
  pub entry_number : s.entry_number ≡ 0
  pub calm : s.lost ≡ false

abbrev pub AtWork : Setting → List Step → List Submission → State → List Submission → Type 0
AtWork v past old s [] = Resting s
AtWork v past old s (x ∷ rest) = Working v past old s x

-- A core that has not failed. `old` are the submissions with a reply, the newest first.
pub record Live (v : Setting) (past : List Step) (old : List Submission) (s : State) : Type 0 where
  pub alive : (progress v past).failure ≡ None
  pub lost : (progress v past).lost ≡ s.lost
  pub good : (progress v past).good ≡ length old * (2 * trees_of v.scheme.device) + s.entry_number
  pub split : accepted past ≡ reverse old ++ s.queue
  pub words : HasWords (2 * trees_of v.scheme.device) old
  pub allowed : All (FitsTable v.scheme.device) s.queue
  pub tickets : TicketsFrom (length old) s.queue
  pub next : s.next ≡ length old + length s.queue
  pub nonce : s.nonce ≡ nonce_at v (progress v past).good
  pub sized : length s.table ≡ blocks_in v.scheme.device (trees_of v.scheme.device - 1)
  pub table : (a : ℕ) → a < blocks_in v.scheme.device (trees_of v.scheme.device - 1)
      → slice_index s.table a ≡ map_entry_in v.scheme.device (trees_of v.scheme.device - 1) (applied v.scheme.device old s.queue s.entry_number (trees_of v.scheme.device - 1)) a
  pub work : AtWork v past old s s.queue

-- a core that has failed
pub record Ended (v : Setting) (past : List Step) (s : State) (e : Reason) : Type 0 where
  pub failed : (progress v past).failure ≡ Some e
  pub next : s.next ≡ length (accepted past)
  pub queue : s.queue ≡ []

abbrev pub FollowsAt : Setting → List Step → List Submission → State → Option Reason → Type 0
FollowsAt v past old s (Some e) = Ended v past s e
FollowsAt v past old s None = Live v past old s × AllStand v.scheme s (world_of v past)

-- the core follows this past
pub record Follows (v : Setting) (past : List Step) (s : State) : Type 0 where
  pub old : List Submission
  pub follows : FollowsAt v past old s s.failure

-- which accesses have taken effect

pub applied_none : (d : Sizes) (old queue : List Submission) (i : ℕ) → applied d old queue 0 i ≡ old
unfolding applied
applied_none d old [] i = refl
applied_none d old (x ∷ rest) i =
    let no_less : nat_lt (2 * (trees_of d - 1 - i)) 0 ≡ false = grind (arith, nat_tests) in
    rw no_less refl

pub applied_yes : (d : Sizes) (old rest : List Submission) (x : Submission) (r i : ℕ) → 2 * (trees_of d - 1 - i) < r
    → applied d old (x ∷ rest) r i ≡ x ∷ old
unfolding applied
applied_yes d old rest x r i h = let less : nat_lt (2 * (trees_of d - 1 - i)) r ≡ true = grind (arith, nat_tests) in rw less refl

pub applied_no : (d : Sizes) (old rest : List Submission) (x : Submission) (r i : ℕ) → r ≤ 2 * (trees_of d - 1 - i)
    → applied d old (x ∷ rest) r i ≡ old
unfolding applied
applied_no d old rest x r i h = let less : nat_lt (2 * (trees_of d - 1 - i)) r ≡ false = grind (arith, nat_tests) in rw less refl

-- a good answer changes this only for the tree whose FETCH it answers
pub applied_same : (d : Sizes) (old rest : List Submission) (x : Submission) (r i : ℕ) → 2 * (trees_of d - 1 - i) ≢ r
    → applied d old (x ∷ rest) (r + 1) i ≡ applied d old (x ∷ rest) r i
unfolding applied
applied_same d old rest x r i ne =
    let same : nat_lt (2 * (trees_of d - 1 - i)) (r + 1) ≡ nat_lt (2 * (trees_of d - 1 - i)) r = grind (arith, nat_tests) in
    rw same refl

accesses_is : (d : Sizes) (n r i : ℕ) → r < 2 * trees_of d
    → accesses d (n * (2 * trees_of d) + r) i ≡ n + (if nat_lt (2 * (trees_of d - 1 - i)) r then 1 else 0)
unfolding accesses
accesses_is d n r i h =
    let tickets : (n * (2 * trees_of d) + r) / (2 * trees_of d) ≡ n = div-mul-add n (2 * trees_of d) r h in
    let rest : (n * (2 * trees_of d) + r) % (2 * trees_of d) ≡ r = mod-mul-add n (2 * trees_of d) r h in
    rw (tickets, rest) refl

take_old : (old queue : List Submission) (n : ℕ) → n ≡ length old → reverse (take n (reverse old ++ queue)) ≡ old
take_old old queue n e = ap reverse (take_at (reverse old) queue n (length-reverse old ∙ sym e)) ∙ reverse-reverse old

-- the first commands are those with a reply, and the one at work once its access has taken effect
applied_is : (d : Sizes) (old queue : List Submission) (r i : ℕ) → (length queue ≡ 0 → r ≡ 0)
    → reverse (take (length old + (if nat_lt (2 * (trees_of d - 1 - i)) r then 1 else 0)) (reverse old ++ queue)) ≡ applied d old queue r i
unfolding applied
applied_is d old [] r i idle =
    let none : nat_lt (2 * (trees_of d - 1 - i)) r ≡ false = let z : r ≡ 0 = idle refl in grind (arith, nat_tests) in
    rw none (take_old old [] (length old + 0) (omega arith))
applied_is d old (x ∷ rest) r i idle =
    elim (nat_lt (2 * (trees_of d - 1 - i)) r) as (λ b. reverse (take (length old + (if b then 1 else 0)) (reverse old ++ x ∷ rest)) ≡ (if b then x ∷ old else old)) [
      | true ↦ ap (λ xs. reverse (take (length old + 1) xs)) (sym (turn x old rest)) ∙ take_old (x ∷ old) rest (length old + 1) (omega arith)
      | false ↦ take_old old (x ∷ rest) (length old + 0) (omega arith)
    ]

-- what each tree holds, if the submissions are split in this way
pub content_split : (v : Setting) (past : List Step) (old queue : List Submission) (r i : ℕ)
    → (progress v past).good ≡ length old * (2 * trees_of v.scheme.device) + r → accepted past ≡ reverse old ++ queue
    → r < 2 * trees_of v.scheme.device → (length queue ≡ 0 → r ≡ 0)
    → content_of v past i ≡ content_after v.scheme.device i (applied v.scheme.device old queue r i)
content_split v past old queue r i good split few idle =
    let d = v.scheme.device in
    ap (λ g. content_after d i (reverse (take (accesses d g i) (accepted past)))) good
    ∙ ap (λ xs. content_after d i (reverse (take (accesses d (length old * (2 * trees_of d) + r) i) xs))) split
    ∙ ap (λ n. content_after d i (reverse (take n (reverse old ++ queue)))) (accesses_is d (length old) r i few)
    ∙ ap (content_after d i) (applied_is d old queue r i idle)

pub stage_few : (v : Setting) (past : List Step) (old : List Submission) (s : State) (queue : List Submission)
    → IsFit v.scheme.device → AtWork v past old s queue
    → (s.entry_number < 2 * trees_of v.scheme.device) × (length queue ≡ 0 → s.entry_number ≡ 0)
stage_few v past old s [] fit w =
    (let z : s.entry_number ≡ 0 = w.entry_number in let some : 0 < trees_of v.scheme.device = fit.some in omega arith, λ e. w.entry_number)
stage_few v past old s (x ∷ rest) fit w = (w.entry_number, λ e. absurd (omega arith))

pub content_is : (v : Setting) (past : List Step) (old : List Submission) (s : State) (i : ℕ) → IsFit v.scheme.device
    → Live v past old s
    → content_of v past i ≡ content_after v.scheme.device i (applied v.scheme.device old s.queue s.entry_number i)
content_is v past old s i fit l =
    let few = stage_few v past old s s.queue fit l.work in
    content_split v past old s.queue s.entry_number i l.good l.split few.0 few.1
