-- The outstanding message and the next FETCHes of every core.
use Rattle.std.proofs.Common.{◌≡◌, ◌≢◌, ℕ, ◌+◌, ◌-◌, ◌*◌, ◌%◌, ◌^◌, ◌<◌, ◌≤◌, ◌==◌, if◌then◌else◌, List, [], ◌∷◌, length, slice_index, slice_set, refl, ap, sym, ◌∙◌, subst, arith, inl, inr}
use Rattle.std.specs.List.{All}
use Rattle.std.proofs.Math.Nat.{mod-lt}
use Rattle.std.proofs.lemmas.Bool.{cases_eq}
use Rattle.std.proofs.lemmas.Bool.Decides.{eqb_tells}
use Rattle.std.proofs.lemmas.List.Elements.{All-cons, All-nil, All-set}
use Rattle.std.proofs.lemmas.Nat.{pow_pos}
use Rattle.oram_geometry.specs.declared.Sizes.{Sizes}
use Rattle.oram_geometry.specs.Sizes.{depth_of, trees_of}
use Rattle.oram_trace.specs.declared.entries.Entry.{Entry}
use Rattle.oram_wire.specs.HostMessages.{fetch_body}
use Rattle.oram_semantics.specs.Content.{block_of, entry_tree, new_leaf}
use Rattle.oram_semantics.specs.InTurn.{AsksInTurn, IsFirstNext, IsNoFirstFetch}
use Rattle.oram_semantics.specs.Moves.{fetch_at, leaf_for}
use Rattle.oram_semantics.specs.NextFetches.{fetch_bodies, first_fetches, next_fetches, table_after, to_begin}
use Rattle.oram_semantics.specs.State.{State, map_entry_now}
use Rattle.oram_semantics.specs.declared.events.Submission.{Submission}
use Rattle.oram_semantics.proofs.InTurn.{next_by, next_cons, no_first_fetch, no_first_store}
use Rattle.oram_core.specs.Core.{AtWork, IsAtWork, IsSound, IsStoreOf}
use Rattle.oram_core.specs.InTurn.{IsFirstFetch, SoundCoresAreInTurn}
use Rattle.oram_core.specs.PlainSteps.{fetch_of}
use Rattle.oram_core.proofs.NextFetches.{none_left, none_next}
use Rattle.oram_core.proofs.Sound.{entry_small, healthy_of, leaf_for-range, some_healthy}

-- the oldest command's first FETCH
first_at_work : (d : Sizes) (o : ℕ) (s : State) (x : Submission) (rest : List Submission) → s.queue ≡ x ∷ rest → IsAtWork d o s x
    → s.entry_number ≡ 0 → IsFirstNext d s s.message
first_at_work d o s x rest qu w zero_is =
    let block : ℕ = block_of d (trees_of d - 1) x in
    let later : List Entry = first_fetches d (slice_set s.table block (new_leaf d (trees_of d - 1) x + 1)) rest in
    let message : s.message ≡ fetch_of (fetch_at d 0 (slice_index s.table block) x) =
    w.fetch (omega (arith, zero_is))
    ∙ ap (λ (k : ℕ). fetch_of (fetch_at d k (if k == 0 then slice_index s.table block else s.held_entry) x)) zero_is in (
      fetch_bodies later,
      ap (λ (es : List Entry). fetch_bodies es) (next_by d s s.table (x ∷ rest) 0 refl qu zero_is ∙ next_cons d s.table x rest)
          ∙ ap (λ (m : List ℕ). m ∷ fetch_bodies later) (sym message),
    )

-- a later message of the oldest command
later_at_work : (d : Sizes) (o : ℕ) (s : State) (x : Submission) → IsAtWork d o s x → 0 < s.entry_number → IsNoFirstFetch d s.message
later_at_work d o s x w some = elim (eqb_tells (s.entry_number % 2) 0) [
  | inl even ↦
      let tree : ℕ = entry_tree d s.entry_number in
      let two : s.entry_number % 2 ≡ 0 = even.1 in
      let few : s.entry_number < 2 * trees_of d = w.entry_number in
      let apart : tree ≢ trees_of d - 1 = λ same. absurd (omega arith) in
      no_first_fetch d tree (leaf_for d tree (map_entry_now d s x) x) s.message apart (w.fetch even.1)
  | inr odd ↦
      let ne : s.entry_number % 2 ≢ 0 = odd.1 in
      let store : IsStoreOf d o (entry_tree d s.entry_number) s.message = w.store (omega arith) in
      no_first_store d (entry_tree d s.entry_number) store.leaf store.stores.records s.message store.stores.body
]

first_by : (d : Sizes) (o : ℕ) (s : State) (queue : List Submission) → s.queue ≡ queue → AtWork d o s queue → 0 < length queue
    → s.entry_number ≡ 0 → IsFirstNext d s s.message
first_by d o s [] qu w some zero_is = absurd (omega arith)
first_by d o s (x ∷ rest) qu w some zero_is = first_at_work d o s x rest qu w zero_is

later_by : (d : Sizes) (o : ℕ) (s : State) (queue : List Submission) → AtWork d o s queue → 0 < length queue → 0 < s.entry_number
    → IsNoFirstFetch d s.message
later_by d o s [] w some on = absurd (omega arith)
later_by d o s (x ∷ rest) w some on = later_at_work d o s x w on

asks : (d : Sizes) (o : ℕ) (s : State) → IsSound d o s → AsksInTurn d s
asks d o s h = record {
  first = λ some zero_is. first_by d o s s.queue refl (healthy_of d o s h (some_healthy d o s h some)).work some zero_is;
  later = λ some on. later_by d o s s.queue (healthy_of d o s h (some_healthy d o s h some)).work some on;
}

-- the greatest entry of the table
abbrev most : Sizes → ℕ
most d = 2 ^ depth_of d (trees_of d - 1)

-- the first FETCHes of any commands, if the table names leaves of the last tree
all_first : (d : Sizes) (table : List ℕ) (xs : List Submission) → All (λ e. e ≤ most d) table → All (IsFirstFetch d) (fetch_bodies (first_fetches d table xs))
unfolding first_fetches table_after
all_first d table [] map_entries = All-nil (IsFirstFetch d)
all_first d table (x ∷ rest) map_entries =
    let top : ℕ = trees_of d - 1 in
    let block : ℕ = block_of d top x in
    let last : entry_tree d 0 ≡ top = omega arith in
    let fits : slice_index table block ≤ most d = entry_small table (most d) block map_entries in
    let new : new_leaf d top x < most d = mod-lt (slice_index x.words (2 * top + 1)) (pow_pos (depth_of d top)) in
    All-cons (IsFirstFetch d) _ _
    (record {
      leaf = leaf_for d top (slice_index table block) x;
      leaf_in = leaf_for-range d top (slice_index table block) x fits;
      named = ap (λ (i : ℕ). fetch_body i (leaf_for d i (slice_index table block) x)) last;
    })
    (all_first d (slice_set table block (new_leaf d top x + 1)) rest (All-set (λ e. e ≤ most d) table block (new_leaf d top x + 1) (omega (arith, new)) map_entries))

fetches : (d : Sizes) (o : ℕ) (s : State) → IsSound d o s → All (IsFirstFetch d) (fetch_bodies (next_fetches d s))
fetches d o s h = elim (cases_eq (length s.queue) 0) [
  | inl none ↦ subst (All (IsFirstFetch d)) (none_next d s (none_left s.queue none)) (All-nil (IsFirstFetch d))
  | inr some ↦ all_first d s.table (to_begin s) (healthy_of d o s h (some_healthy d o s h (omega (arith, some)))).map_entries
]

pub sound_cores_are_in_turn : SoundCoresAreInTurn
sound_cores_are_in_turn d o s h = record { asks = asks d o s h; fetches = fetches d o s h }
