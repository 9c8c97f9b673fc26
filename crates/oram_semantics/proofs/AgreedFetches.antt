-- Trees that agree have what the outstanding FETCH needs.
use Rattle.std.proofs.Common.{◌≡◌, ℕ, zero, suc, ◌+◌, ◌-◌, ◌*◌, ◌/◌, ◌%◌, ◌^◌, ◌<◌, ◌≤◌, ◌==◌, Bool, true, false, if◌then◌else◌, List, ◌∷◌, slice_index, refl, ap, sym, ◌∙◌, subst, arith}
use Rattle.std.proofs.lemmas.Bool.Decides.{nat_tests}
use Rattle.oram_geometry.specs.Sizes.{trees_of, depth_of, blocks_in, fanout}
use Rattle.oram_semantics.specs.Content.{entry_tree}
use Rattle.oram_semantics.specs.Scheme.{Scheme}
use Rattle.oram_semantics.specs.Content.{block_of}
use Rattle.oram_semantics.specs.State.{State, World, map_entry_of}
use Rattle.oram_semantics.specs.Blocks.{found_in, entry_in, next_map_entry}
use Rattle.oram_semantics.specs.Moves.{IsReadyFor}
use Rattle.oram_semantics.specs.Agree.{map_entry_for, next_tree, IsAmid, IsBetween, AtBetween, IsNext, Agrees}
use Rattle.oram_semantics.specs.declared.events.Submission.{Submission}
use Rattle.oram_semantics.proofs.Maps.{above}

-- the entry that a block has is the map entry for its block of the tree below
pub next_map_entry_is : (v : Scheme) (s : State) (w : World) (x : Submission) (i : ℕ) → i + 1 < trees_of v.device
    → next_map_entry v.device (suc i) x (found_in v.device (w.content (suc i) (block_of v.device (suc i) x))) ≡ map_entry_for v s w i (block_of v.device i x)
unfolding next_map_entry
next_map_entry_is v s w x i below =
    let d = v.device in
    let inner : (i + 1 == trees_of d) ≡ false = grind (arith, nat_tests) in
    let one : suc i ≡ i + 1 = omega arith in
    ap (λ (k : ℕ). entry_in (found_in d (w.content (suc i) k)) (block_of d i x % fanout d)) (above d i x)
    ∙ ap (λ (k : ℕ). entry_in (found_in d (w.content k (block_of d i x / fanout d))) (block_of d i x % fanout d)) one
    ∙ sym (ap (λ (b : Bool). if b then slice_index s.table (block_of d i x) else entry_in (found_in d (w.content (i + 1) (block_of d i x / fanout d))) (block_of d i x % fanout d)) inner)

next_range : (v : Scheme) (s : State) (w : World) (x : Submission) (rest : List Submission) (i : ℕ)
    → i ≡ entry_tree v.device s.entry_number → s.queue ≡ x ∷ rest → s.entry_number % 2 ≡ 0 → s.entry_number < 2 * trees_of v.device
    → ((k : ℕ) → block_of v.device k x < blocks_in v.device k) → Agrees v s w
    → next_map_entry v.device i x (found_in v.device (w.content i (block_of v.device i x))) ≤ 2 ^ depth_of v.device (i - 1)
unfolding next_map_entry
next_range v s w x rest zero e qu even few inside a = omega arith
next_range v s w x rest (suc i) e qu even few inside a =
    let d = v.device in
    let below : i + 1 < trees_of d = omega arith in
    let apart : ¬ IsNext v s (x ∷ rest) i (block_of d i x) = λ n. absurd (let same : i ≡ next_tree v s = n.1 in omega arith) in
    let map_entry_is : next_map_entry d (suc i) x (found_in d (w.content (suc i) (block_of d (suc i) x))) ≡ map_entry_of (w.content i (block_of d i x)) =
    next_map_entry_is v s w x i below
    ∙ a.others i (block_of d i x) (omega arith) (inside i) (subst (λ q. ¬ IsNext v s q i (block_of d i x)) (sym qu) apart) in
    let back : suc i - 1 ≡ i = omega arith in
    subst (λ (k : ℕ). next_map_entry d (suc i) x (found_in d (w.content (suc i) (block_of d (suc i) x))) ≤ 2 ^ depth_of d k) (sym back) (subst (λ (k : ℕ). k ≤ 2 ^ depth_of d i) (sym map_entry_is) (a.leaves i (block_of d i x) (omega arith)))

map_entry_by_stage : (v : Scheme) (s : State) (w : World) (x : Submission) (rest : List Submission) (r : ℕ) → s.entry_number ≡ r
    → s.queue ≡ x ∷ rest → r % 2 ≡ 0 → r < 2 * trees_of v.device → 0 < trees_of v.device
    → ((k : ℕ) → block_of v.device k x < blocks_in v.device k) → Agrees v s w
    → map_entry_of (w.content (entry_tree v.device r) (block_of v.device (entry_tree v.device r) x)) ≡ (if r == 0 then slice_index s.table (block_of v.device (trees_of v.device - 1) x) else s.held_entry)
map_entry_by_stage v s w x rest zero e qu even few some inside a =
    let d = v.device in
    let top : entry_tree d 0 ≡ trees_of d - 1 = omega arith in
    let last : (trees_of d - 1 + 1 == trees_of d) ≡ true = grind (arith, nat_tests) in
    let b : ℕ = block_of d (trees_of d - 1) x in
    let apart : ¬ IsNext v s (x ∷ rest) (trees_of d - 1) b = λ n. absurd (let more : 0 < s.entry_number = n.0.0 in omega arith) in
    ap (λ (i : ℕ). map_entry_of (w.content i (block_of d i x))) top
    ∙ sym (a.others (trees_of d - 1) b (omega arith) (inside (trees_of d - 1)) (subst (λ q. ¬ IsNext v s q (trees_of d - 1) b) (sym qu) apart))
    ∙ ap (λ (t : Bool). if t then slice_index s.table b else entry_in (found_in d (w.content (trees_of d - 1 + 1) (b / fanout d))) (b % fanout d)) last
map_entry_by_stage v s w x rest (suc r) e qu even few some inside a =
    let d = v.device in
    let later : (suc r == 0) ≡ false = grind (arith, nat_tests) in
    let amid : IsAmid v s = (omega arith, omega arith) in
    let bet : IsBetween v s w x = (subst (AtBetween v s w) qu a.between) amid in
    let same : entry_tree d (suc r) ≡ next_tree v s = omega arith in
    ap (λ (i : ℕ). map_entry_of (w.content i (block_of d i x))) same ∙ sym bet.held
    ∙ sym (ap (λ (t : Bool). if t then slice_index s.table (block_of d (trees_of d - 1) x) else s.held_entry) later)

-- trees that agree are ready for the outstanding FETCH
pub agreeing_ready : (v : Scheme) (s : State) (w : World) (x : Submission) (rest : List Submission) → s.queue ≡ x ∷ rest
    → s.entry_number % 2 ≡ 0 → s.entry_number < 2 * trees_of v.device → 0 < trees_of v.device
    → ((k : ℕ) → block_of v.device k x < blocks_in v.device k) → Agrees v s w → IsReadyFor v s w x
agreeing_ready v s w x rest qu even few some inside a = record {
  held_entry = map_entry_by_stage v s w x rest s.entry_number refl qu even few some inside a;
  next = next_range v s w x rest (entry_tree v.device s.entry_number) refl qu even few inside a;
}
