-- The next FETCHes of a core are entries of the commands that it has accepted.
use Rattle.std.proofs.Common.{◌≡◌, ◌≢◌, ℕ, zero, suc, ◌+◌, ◌-◌, ◌*◌, ◌%◌, ◌<◌, ◌≤◌, ◌==◌, Bool, true, false, if◌then◌else◌, List, [], ◌∷◌, ◌++◌, drop, length, map, reverse, slice_index, slice_set, Option, Some, None, refl, ap, sym, ◌∙◌, subst, arith, inl, inr}
use Rattle.std.specs.List.{All, range_with_len}
use Rattle.std.proofs.lemmas.Bool.Decides.{eqb_tells, nat_tests}
use Rattle.std.proofs.Math.Nat.{mul-add-mod_self_right, mul-le-mul_left}
use Rattle.std.proofs.lemmas.List.{get_or-set_other, get_or-set_same, length-set}
use Rattle.std.proofs.lemmas.List.Elements.{All-cons, All-head, All-tail}
use Rattle.oram_geometry.specs.declared.Sizes.{Sizes}
use Rattle.oram_geometry.specs.Sizes.{blocks_in, depth_of, trees_of}
use Rattle.oram_trace.specs.declared.entries.Entry.{Entry}
use Rattle.oram_wire.specs.HostMessages.{fetch_body, store_body}
use Rattle.oram_semantics.specs.Content.{block_of, entry_tree, map_entry_in, new_leaf}
use Rattle.oram_semantics.specs.InTurn.{AreNextEntries, IsOfAccepted, NextFetchesAreEntries}
use Rattle.oram_semantics.specs.Law.{new_state}
use Rattle.oram_semantics.specs.Moves.{fetch_at}
use Rattle.oram_semantics.specs.NextFetches.{fetch_bodies, first_fetches, next_fetches, table_after, to_begin}
use Rattle.oram_semantics.specs.Progress.{Setting, Step, accepted, entry_at}
use Rattle.oram_semantics.specs.Run.{from_to}
use Rattle.oram_semantics.specs.Scheme.{record_len}
use Rattle.oram_semantics.specs.State.{State}
use Rattle.oram_semantics.specs.declared.events.Reason.{Reason}
use Rattle.oram_semantics.specs.declared.events.Submission.{Submission}
use Rattle.oram_semantics.proofs.Bounds.{IsFit, fit_device, some_trees}
use Rattle.oram_semantics.proofs.Counts.{accepted_len}
use Rattle.oram_semantics.proofs.Entries.{HasWords, turn}
use Rattle.oram_semantics.proofs.Fetches.{fetch_entry}
use Rattle.oram_semantics.proofs.Follows.{AtWork, FitsTable, Follows, FollowsAt, Live, applied, applied_none, applied_yes}
use Rattle.oram_semantics.proofs.Formatting.{formatted_holds}
use Rattle.oram_semantics.proofs.InTurn.{next_by, next_later}
use Rattle.oram_semantics.proofs.Keeps.{entry_split}
use Rattle.oram_semantics.proofs.Maps.{map_entry_here, map_entry_there}
use Rattle.oram_semantics.proofs.Others.{all_none}
use Rattle.oram_semantics.proofs.MatchesPast.{follows_on}
use Rattle.oram_semantics.proofs.WholeRuns.{new_follows}

-- the table names each block of the last tree as these commands, the newest first, have left it
abbrev Names : Sizes → List ℕ → List Submission → Type 0
Names d table old = (a : ℕ) → a < blocks_in d (trees_of d - 1) → slice_index table a ≡ map_entry_in d (trees_of d - 1) old a

names_on : (d : Sizes) (table : List ℕ) (old : List Submission) (x : Submission) → length table ≡ blocks_in d (trees_of d - 1)
    → Names d table old → Names d (slice_set table (block_of d (trees_of d - 1) x) (new_leaf d (trees_of d - 1) x + 1)) (x ∷ old)
names_on d table old x sized names a below =
    let top : ℕ = trees_of d - 1 in
    elim (eqb_tells a (block_of d top x)) [
      | inl same ↦
          ap (λ (k : ℕ). slice_index (slice_set table k (new_leaf d top x + 1)) a) (sym same.1)
          ∙ get_or-set_same table a (new_leaf d top x + 1) 0 (omega (arith, sized))
          ∙ sym (map_entry_here d top x old a same.1)
      | inr other ↦ get_or-set_other table (block_of d top x) a (new_leaf d top x + 1) 0 other.1 ∙ names a below ∙ sym (map_entry_there d top x old a other.1)
    ]

-- the first entry of each of these tickets
abbrev firsts : Setting → List Step → List ℕ → List Entry
firsts v past tickets = map (λ ticket. entry_at v past (2 * trees_of v.scheme.device * ticket)) tickets

-- the first FETCH of the command after these
first_is : (v : Setting) (past : List Step) (old rest : List Submission) (x : Submission) (table : List ℕ) → accepted past ≡ reverse old ++ x ∷ rest
    → HasWords (2 * trees_of v.scheme.device) old → FitsTable v.scheme.device x → Names v.scheme.device table old
    → fetch_at v.scheme.device 0 (slice_index table (block_of v.scheme.device (trees_of v.scheme.device - 1) x)) x ≡ entry_at v past (2 * trees_of v.scheme.device * length old)
first_is v past old rest x table split words ok names =
    let d = v.scheme.device in
    let last : trees_of d - 1 ≡ entry_tree d 0 = omega arith in
    let some : 0 < trees_of d = some_trees d in
    let number : 2 * trees_of d * length old ≡ length old * (2 * trees_of d) + 0 = omega arith in
    fetch_entry d old x 0 (slice_index table (block_of d (trees_of d - 1) x)) refl
    (names (block_of d (trees_of d - 1) x) ok.block ∙ ap (λ (i : ℕ). map_entry_in d i old (block_of d i x)) last)
    ∙ sym (entry_split v past old rest x 0 (2 * trees_of d * length old) number split words ok.words (omega arith))

-- the first FETCHes of all commands after these
all_firsts : (v : Setting) (past : List Step) (old queue : List Submission) (table : List ℕ) → accepted past ≡ reverse old ++ queue
    → HasWords (2 * trees_of v.scheme.device) old → All (FitsTable v.scheme.device) queue
    → length table ≡ blocks_in v.scheme.device (trees_of v.scheme.device - 1) → Names v.scheme.device table old
    → first_fetches v.scheme.device table queue ≡ firsts v past (range_with_len (length old) (length queue))
unfolding first_fetches table_after
all_firsts v past old [] table split words all sized names = refl
all_firsts v past old (x ∷ rest) table split words all sized names =
    let d = v.scheme.device in
    let ok : FitsTable d x = All-head (FitsTable d) x rest all in
    let next : List ℕ = slice_set table (block_of d (trees_of d - 1) x) (new_leaf d (trees_of d - 1) x + 1) in
    let later : first_fetches d next rest ≡ firsts v past (range_with_len (length (x ∷ old)) (length rest)) =
    all_firsts v past (x ∷ old) rest next (split ∙ sym (turn x old rest)) (ok.words, words) (All-tail (FitsTable d) x rest all)
    (length-set table (block_of d (trees_of d - 1) x) (new_leaf d (trees_of d - 1) x + 1) ∙ sized) (names_on d table old x sized names) in
    let long : length (x ∷ rest) ≡ suc (length rest) = omega arith in
    let size : length (x ∷ old) ≡ length old + 1 = omega arith in
    ap (λ (e : Entry). e ∷ first_fetches d next rest) (first_is v past old rest x table split words ok names)
    ∙ ap (λ (es : List Entry). entry_at v past (2 * trees_of d * length old) ∷ es) (later ∙ ap (λ (k : ℕ). firsts v past (range_with_len k (length rest))) size)
    ∙ ap (λ (k : ℕ). firsts v past (range_with_len (length old) k)) (sym long)

-- the same tickets, counted back from the number of accepted commands
tickets_same : (v : Setting) (past : List Step) (n m all waiting : ℕ) → all ≡ n + m → waiting ≡ m
    → firsts v past (range_with_len n m) ≡ firsts v past (from_to (all - waiting) all)
tickets_same v past n m all waiting whole same =
    let from : n ≡ all - waiting = omega arith in
    let long : m ≡ all - (all - waiting) = omega arith in
    ap (λ (k : ℕ). firsts v past (range_with_len k m)) from ∙ ap (λ (k : ℕ). firsts v past (range_with_len (all - waiting) k)) long

-- what is to be proved of the state
abbrev AreFirsts : Setting → List Step → State → Type 0
AreFirsts v past s = next_fetches v.scheme.device s ≡ firsts v past (from_to (length (accepted past) - length (to_begin s)) (length (accepted past)))

-- before the oldest command's first answer
firsts_waiting : (v : Setting) (past : List Step) (old : List Submission) (s : State) → Live v past old s → s.entry_number ≡ 0 → AreFirsts v past s
firsts_waiting v past old s l zero_is =
    let d = v.scheme.device in
    let top : ℕ = trees_of d - 1 in
    let names : Names d s.table old = λ a below.
    l.table a below ∙ ap (λ (r : ℕ). map_entry_in d top (applied d old s.queue r top) a) zero_is
    ∙ ap (λ (xs : List Submission). map_entry_in d top xs a) (applied_none d old s.queue top) in
    let waiting : length (to_begin s) ≡ length s.queue = ap (λ (r : ℕ). length (if r == 0 then s.queue else drop 1 s.queue)) zero_is in
    next_by d s s.table s.queue 0 refl refl zero_is
    ∙ all_firsts v past old s.queue s.table l.split l.words l.allowed l.sized names
    ∙ tickets_same v past (length old) (length s.queue) (length (accepted past)) (length (to_begin s)) (accepted_len past old s.queue l.split) waiting

-- and after it
firsts_begun : (v : Setting) (past : List Step) (old : List Submission) (s : State) (x : Submission) (rest : List Submission) → Live v past old s
    → s.queue ≡ x ∷ rest → 0 < s.entry_number → AreFirsts v past s
firsts_begun v past old s x rest l qu some =
    let d = v.scheme.device in
    let top : ℕ = trees_of d - 1 in
    let later : (s.entry_number == 0) ≡ false = grind (arith, nat_tests, some) in
    let due : 2 * (trees_of d - 1 - top) < s.entry_number = omega arith in
    let names : Names d s.table (x ∷ old) = λ a below.
    l.table a below ∙ ap (λ (q : List Submission). map_entry_in d top (applied d old q s.entry_number top) a) qu
    ∙ ap (λ (xs : List Submission). map_entry_in d top xs a) (applied_yes d old rest x s.entry_number top due) in
    let split : accepted past ≡ reverse (x ∷ old) ++ rest = l.split ∙ ap (λ (q : List Submission). reverse old ++ q) qu ∙ sym (turn x old rest) in
    let all : All (FitsTable d) (x ∷ rest) = subst (All (FitsTable d)) qu l.allowed in
    let ok : FitsTable d x = All-head (FitsTable d) x rest all in
    let waiting : length (to_begin s) ≡ length rest =
    ap (λ (b : Bool). length (if b then s.queue else drop 1 s.queue)) later ∙ ap (λ (q : List Submission). length (drop 1 q)) qu in
    next_later d s s.table (x ∷ rest) refl qu some
    ∙ all_firsts v past (x ∷ old) rest s.table split (ok.words, l.words) (All-tail (FitsTable d) x rest all) l.sized names
    ∙ tickets_same v past (length (x ∷ old)) (length rest) (length (accepted past)) (length (to_begin s)) (accepted_len past (x ∷ old) rest split) waiting

firsts_live : (v : Setting) (past : List Step) (old queue : List Submission) (s : State) → Live v past old s → s.queue ≡ queue → AtWork v past old s queue
    → AreFirsts v past s
firsts_live v past old [] s l qu w = firsts_waiting v past old s l w.entry_number
firsts_live v past old (x ∷ rest) s l qu w = elim (eqb_tells s.entry_number 0) [
  | inl none ↦ firsts_waiting v past old s l none.1
  | inr some ↦ let on : s.entry_number ≢ 0 = some.1 in firsts_begun v past old s x rest l qu (omega arith)
]

pub none_to_begin : (b : Bool) (queue : List Submission) → queue ≡ [] → (if b then queue else drop 1 queue) ≡ []
none_to_begin true queue e = e
none_to_begin false queue e = ap (λ (q : List Submission). drop 1 q) e

-- a core in which no command waits has none
firsts_none : (v : Setting) (past : List Step) (s : State) → s.queue ≡ [] → AreFirsts v past s
unfolding first_fetches
firsts_none v past s qu =
    let d = v.scheme.device in
    let none : to_begin s ≡ [] = none_to_begin (s.entry_number == 0) s.queue qu in
    ap (λ (q : List Submission). first_fetches d s.table q) none
    ∙ tickets_same v past (length (accepted past)) 0 (length (accepted past)) (length (to_begin s)) (omega arith) (ap (λ (q : List Submission). length q) none)

firsts_by : (v : Setting) (past : List Step) (s : State) (old : List Submission) (failure : Option Reason) → FollowsAt v past old s failure → AreFirsts v past s
firsts_by v past s old (Some e) f = firsts_none v past s f.queue
firsts_by v past s old None f = firsts_live v past old s.queue s f.0 refl f.0.work

-- their messages

-- the message of a command's first entry
first_message : (v : Setting) (past : List Step) (ticket : ℕ) → ticket < length (accepted past)
    → IsOfAccepted v past (fetch_body (entry_at v past (2 * trees_of v.scheme.device * ticket)).tree (entry_at v past (2 * trees_of v.scheme.device * ticket)).leaf)
first_message v past ticket below =
    let d = v.scheme.device in
    let number : ℕ = 2 * trees_of d * ticket in
    let e : Entry = entry_at v past number in
    let some : 0 < trees_of d = some_trees d in
    let twice : number ≡ trees_of d * ticket * 2 + 0 = omega arith in
    let even : number % 2 ≡ 0 = ap (λ (k : ℕ). k % 2) twice ∙ mul-add-mod_self_right (trees_of d * ticket) 2 0 in
    let fetch : e.fetch ≡ true = ap (λ (k : ℕ). k == 0) even in
    let more : 2 * trees_of d * (ticket + 1) ≤ 2 * trees_of d * length (accepted past) = mul-le-mul_left (2 * trees_of d) (omega arith) in
    let next : 2 * trees_of d * (ticket + 1) ≡ number + 2 * trees_of d = omega arith in
    record {
      number = number;
      within = omega (arith, more, next, some);
      message = record {
        records = [];
        body = sym (ap (λ (b : Bool). if b then fetch_body e.tree e.leaf else store_body e.tree e.leaf []) fetch);
        length_is = sym (ap (λ (b : Bool). if b then 0 else (depth_of d e.tree + 1) * record_len v.scheme) fetch);
      };
    }

first_messages : (v : Setting) (past : List Step) (n m : ℕ) → n + m ≤ length (accepted past)
    → All (IsOfAccepted v past) (fetch_bodies (firsts v past (range_with_len n m)))
first_messages v past n zero within = all_none (IsOfAccepted v past)
first_messages v past n (suc m) within =
    All-cons (IsOfAccepted v past) _ _ (first_message v past n (omega arith)) (first_messages v past (n + 1) m (omega arith))

entries_of : (v : Setting) (past : List Step) (s : State) → AreFirsts v past s → AreNextEntries v past s
entries_of v past s are =
    let n : ℕ = length (accepted past) - length (to_begin s) in
    let m : ℕ = length (accepted past) - n in
    record {
      fetches = are;
      messages = subst (λ (es : List Entry). All (IsOfAccepted v past) (fetch_bodies es)) (sym are) (first_messages v past n m (omega arith));
    }

pub next_fetches_are_entries : NextFetchesAreEntries
next_fetches_are_entries v trees events xs past s is made run =
    let fit : IsFit v.scheme.device = fit_device v.scheme.device is in
    let f : Follows v past s = follows_on v [] (new_state v trees) events xs past s fit (new_follows v trees fit (formatted_holds v trees made)) run in
    entries_of v past s (firsts_by v past s f.old s.failure f.follows)
