-- Trees that agree still do after an access.
use Rattle.std.proofs.Common.{◌≡◌, ◌≢◌, ℕ, zero, suc, ◌+◌, ◌-◌, ◌*◌, ◌/◌, ◌%◌, ◌^◌, ◌<◌, ◌≤◌, ◌==◌, Bool, true, false, if◌then◌else◌, List, ◌∷◌, length, slice_index, slice_set, Some, refl, ap, sym, ◌∙◌, subst, arith, inl, inr}
use Rattle.std.proofs.lemmas.List.{get_or-set_same, get_or-set_other, length-replicate}
use Rattle.std.proofs.lemmas.Nat.{mod_below, div-add-mod'}
use Rattle.std.proofs.lemmas.Bool.Decides.{nat_tests, eqb_tells}
use Rattle.oram_geometry.specs.declared.Sizes.{Sizes}
use Rattle.oram_geometry.specs.Sizes.{trees_of, depth_of, blocks_in, fanout}
use Rattle.oram_semantics.specs.Content.{entry_tree}
use Rattle.oram_semantics.specs.Scheme.{Scheme}
use Rattle.oram_semantics.specs.Content.{block_of, new_leaf}
use Rattle.oram_semantics.specs.State.{State, World, map_entry_of}
use Rattle.oram_tree.specs.Edits.{with_entry}
use Rattle.oram_semantics.specs.Blocks.{found_in, entry_in, block_after, next_map_entry, left_by, put_in}
use Rattle.oram_semantics.specs.Run.{has_bad_length}
use Rattle.oram_semantics.specs.Agree.{map_entry_for, next_tree, IsAmid, IsBetween, AtBetween, IsNext, Agrees}
use Rattle.oram_semantics.specs.declared.events.Command.{Command}
use Rattle.oram_semantics.specs.declared.events.Command.TheVariants.{Read, Write, Discard}
use Rattle.oram_semantics.specs.declared.events.Submission.{Submission}
use Rattle.oram_semantics.proofs.Bounds.{HasEntries}
use Rattle.oram_semantics.proofs.Maps.{block_after-suc, above, leaf_small}
use Rattle.oram_semantics.proofs.AgreedFetches.{next_map_entry_is}
use Rattle.oram_semantics.proofs.MapEntries.{entry_here, entry_there, length-edit}

-- a good answer to the fetch of tree i, at the block a, with what was found there
pub record Accessed (v : Scheme) (s t : State) (w w' : World) (x : Submission) (rest : List Submission) (i a : ℕ) (bytes : List ℕ) : Type 0 where
  pub tree : i ≡ entry_tree v.device s.entry_number
  pub block : a ≡ block_of v.device i x
  pub found : bytes ≡ found_in v.device (w.content i a)
  pub queue : s.queue ≡ x ∷ rest
  pub even : s.entry_number % 2 ≡ 0
  pub few : s.entry_number < 2 * trees_of v.device
  pub inside : block_of v.device (trees_of v.device - 1) x < length s.table
  pub queue' : t.queue ≡ x ∷ rest
  pub stage' : t.entry_number ≡ s.entry_number + 1
  pub table' : t.table ≡ (if s.entry_number == 0 then slice_set s.table a (new_leaf v.device i x + 1) else s.table)
  pub held_entry' : t.held_entry ≡ next_map_entry v.device i x bytes
  pub content' : (k b : ℕ)
      → w'.content k b ≡ put_in w.content i a (record { leaf = new_leaf v.device i x; content = block_after v.device i x bytes }) k b

length-left_by : (d : Sizes) (c : Command) (bytes : List ℕ) → length bytes ≡ d.block_bytes → has_bad_length d c ≡ false
    → length (left_by d c bytes) ≡ d.block_bytes
length-left_by d (Read b) bytes size ok = size
length-left_by d (Write b new) bytes size ok = grind (arith, nat_tests, ok)
length-left_by d (Discard b) bytes size ok = length-replicate d.block_bytes 0

length-block_after : (d : Sizes) (i : ℕ) (x : Submission) (bytes : List ℕ) → HasEntries d → length bytes ≡ d.block_bytes
    → has_bad_length d x.command ≡ false → length (block_after d i x bytes) ≡ d.block_bytes
unfolding block_after
length-block_after d zero x bytes h size ok = length-left_by d x.command bytes size ok
length-block_after d (suc i) x bytes h size ok =
    let j : block_of d i x % fanout d < fanout d = mod_below (block_of d i x) (fanout d) h.some in
    length-edit bytes (block_of d i x % fanout d) (new_leaf d i x + 1) (omega (arith, h.whole)) ∙ size

module _ (v : Scheme) (s t : State) (w w' : World) (x : Submission) (rest : List Submission) (i a : ℕ) (bytes : List ℕ) (q : Accessed v s t w w' x rest i a bytes) where
  in_device : i < trees_of v.device
  in_device =
      let few : s.entry_number < 2 * trees_of v.device = q.few in
      let tree : i ≡ entry_tree v.device s.entry_number = q.tree in
      omega arith

  content_here : w'.content i a ≡ Some (record { leaf = new_leaf v.device i x; content = block_after v.device i x bytes })
  content_here =
      let one : (i == i) ≡ true = grind (arith, nat_tests) in
      let two : (a == a) ≡ true = grind (arith, nat_tests) in
      q.content' i a ∙ rw (one, two) refl

  content_other : (k b : ℕ) → k ≢ i → w'.content k b ≡ w.content k b
  content_other k b ne = let other : (k == i) ≡ false = grind (arith, nat_tests) in q.content' k b ∙ rw other refl

  content_beside : (b : ℕ) → b ≢ a → w'.content i b ≡ w.content i b
  content_beside b ne =
      let one : (i == i) ≡ true = grind (arith, nat_tests) in
      let other : (b == a) ≡ false = grind (arith, nat_tests) in
      q.content' i b ∙ rw (one, other) refl

  -- the table is unchanged, except for the accessed block of the last tree
  table_other : (b : ℕ) → (i + 1 ≡ trees_of v.device → b ≢ a) → slice_index t.table b ≡ slice_index s.table b
  table_other b apart =
      ap (λ xs. slice_index xs b) q.table'
      ∙ elim (eqb_tells s.entry_number 0) [
        | inl first ↦
            let even : s.entry_number ≡ 0 = first.1 in
            let few : s.entry_number < 2 * trees_of v.device = q.few in
            let tree : i ≡ entry_tree v.device s.entry_number = q.tree in
            let top : i + 1 ≡ trees_of v.device = omega arith in
            ap (λ (c : Bool). slice_index (if c then slice_set s.table a (new_leaf v.device i x + 1) else s.table) b) first.0
            ∙ get_or-set_other s.table a b (new_leaf v.device i x + 1) 0 (apart top)
        | inr later ↦ ap (λ (c : Bool). slice_index (if c then slice_set s.table a (new_leaf v.device i x + 1) else s.table) b) later.0
      ]

  block_after_is : (k : ℕ) → k + 1 ≡ i
      → block_after v.device i x bytes ≡ with_entry bytes (block_of v.device k x % fanout v.device) (new_leaf v.device k x + 1)
  block_after_is k e =
      let z : i ≡ suc k = omega arith in
      ap (λ (n : ℕ). block_after v.device n x bytes) z ∙ block_after-suc v.device k x bytes

  block_is : (k : ℕ) → k + 1 ≡ i → a ≡ block_of v.device k x / fanout v.device
  block_is k e = let z : i ≡ suc k = omega arith in q.block ∙ ap (λ (n : ℕ). block_of v.device n x) z ∙ above v.device k x

  -- an entry's place is within the block
  place_fits : (k : ℕ) → HasEntries v.device → Agrees v s w → 4 * (block_of v.device k x % fanout v.device) + 4 ≤ length bytes
  place_fits k h agrees =
      let size : length bytes ≡ v.device.block_bytes = ap length q.found ∙ agrees.sized i a in_device in
      let j : block_of v.device k x % fanout v.device < fanout v.device =
      mod_below (block_of v.device k x) (fanout v.device) h.some in
      omega (arith, h.whole)

  below_other : (k b : ℕ) → HasEntries v.device → Agrees v s w → k + 1 ≡ i → b ≢ block_of v.device k x
      → b / fanout v.device ≡ a
      → entry_in (found_in v.device (w'.content (k + 1) (b / fanout v.device))) (b % fanout v.device) ≡ entry_in (found_in v.device (w.content (k + 1) (b / fanout v.device))) (b % fanout v.device)
  below_other k b h agrees e ne up =
      let apart : b % fanout v.device ≢ block_of v.device k x % fanout v.device = λ same. ne (
      sym (div-add-mod' b (fanout v.device)) ∙ ap (λ n. n * fanout v.device + b % fanout v.device) (up ∙ block_is k e)
      ∙ ap (λ n. block_of v.device k x / fanout v.device * fanout v.device + n) same
      ∙ div-add-mod' (block_of v.device k x) (fanout v.device)) in
      ap (λ n. entry_in (found_in v.device (w'.content n (b / fanout v.device))) (b % fanout v.device)) e
      ∙ ap (λ n. entry_in (found_in v.device (w'.content i n)) (b % fanout v.device)) up
      ∙ ap (λ o. entry_in (found_in v.device o) (b % fanout v.device)) content_here
      ∙ ap (λ xs. entry_in xs (b % fanout v.device)) (block_after_is k e)
      ∙ entry_there bytes (block_of v.device k x % fanout v.device) (b % fanout v.device) (new_leaf v.device k x + 1) (place_fits k h agrees) apart
      ∙ ap (λ xs. entry_in xs (b % fanout v.device)) q.found
      ∙ sym (ap (λ n. entry_in (found_in v.device (w.content n (b / fanout v.device))) (b % fanout v.device)) e ∙ ap (λ n. entry_in (found_in v.device (w.content i n)) (b % fanout v.device)) up)

  -- the map entries are unchanged, except for the accessed block and the next tree's block
  map_entry_other : (k b : ℕ) → HasEntries v.device → Agrees v s w → (k ≡ i → b ≢ a) → (k + 1 ≡ i → b ≢ block_of v.device k x)
      → map_entry_for v t w' k b ≡ map_entry_for v s w k b
  map_entry_other k b h agrees here below =
      elim (eqb_tells (k + 1) (trees_of v.device)) [
        | inl top ↦
            let same : k + 1 ≡ trees_of v.device = top.1 in
            ap (λ (c : Bool). if c then slice_index t.table b else entry_in (found_in v.device (w'.content (k + 1) (b / fanout v.device))) (b % fanout v.device)) top.0
            ∙ table_other b (λ last. here (omega arith))
            ∙ sym (ap (λ (c : Bool). if c then slice_index s.table b else entry_in (found_in v.device (w.content (k + 1) (b / fanout v.device))) (b % fanout v.device)) top.0)
        | inr inner ↦
            ap (λ (c : Bool). if c then slice_index t.table b else entry_in (found_in v.device (w'.content (k + 1) (b / fanout v.device))) (b % fanout v.device)) inner.0
            ∙ inner_other k b h agrees below
            ∙ sym (ap (λ (c : Bool). if c then slice_index s.table b else entry_in (found_in v.device (w.content (k + 1) (b / fanout v.device))) (b % fanout v.device)) inner.0)
      ]
    where
      inner_other : (k b : ℕ) → HasEntries v.device → Agrees v s w → (k + 1 ≡ i → b ≢ block_of v.device k x)
          → entry_in (found_in v.device (w'.content (k + 1) (b / fanout v.device))) (b % fanout v.device) ≡ entry_in (found_in v.device (w.content (k + 1) (b / fanout v.device))) (b % fanout v.device)
      inner_other k b h agrees below =
          elim (eqb_tells (k + 1) i) [
            | inr apart ↦ ap (λ o. entry_in (found_in v.device o) (b % fanout v.device)) (content_other (k + 1) (b / fanout v.device) apart.1)
            | inl at ↦ elim (eqb_tells (b / fanout v.device) a) [
              | inl up ↦ below_other k b h agrees at.1 (below at.1) up.1
              | inr off ↦ ap (λ o. entry_in (found_in v.device o) (b % fanout v.device)) (ap (λ n. w'.content n (b / fanout v.device)) at.1 ∙ content_beside (b / fanout v.device) off.1 ∙ sym (ap (λ n. w.content n (b / fanout v.device)) at.1))
            ]
          ]

  -- the map entry for the accessed block names its new leaf
  map_entry_here : HasEntries v.device → Agrees v s w → map_entry_for v t w' i a ≡ new_leaf v.device i x + 1
  map_entry_here h agrees =
      let few : s.entry_number < 2 * trees_of v.device = q.few in
      let even : s.entry_number % 2 ≡ 0 = q.even in
      let tree : i ≡ entry_tree v.device s.entry_number = q.tree in
      elim (eqb_tells (i + 1) (trees_of v.device)) [
        | inl top ↦
            let last : i + 1 ≡ trees_of v.device = top.1 in
            let first : (s.entry_number == 0) ≡ true = let z : s.entry_number ≡ 0 = omega arith in grind (arith, nat_tests) in
            let same : i ≡ trees_of v.device - 1 = omega arith in
            let inside : a < length s.table =
            subst (λ (n : ℕ). n < length s.table) (sym (q.block ∙ ap (λ (n : ℕ). block_of v.device n x) same)) q.inside in
            ap (λ (c : Bool). if c then slice_index t.table a else entry_in (found_in v.device (w'.content (i + 1) (a / fanout v.device))) (a % fanout v.device)) top.0
            ∙ ap (λ xs. slice_index xs a) q.table'
            ∙ ap (λ (c : Bool). slice_index (if c then slice_set s.table a (new_leaf v.device i x + 1) else s.table) a) first
            ∙ get_or-set_same s.table a (new_leaf v.device i x + 1) 0 inside
        | inr inner ↦
            let ne : i + 1 ≢ trees_of v.device = inner.1 in
            let some : 0 < s.entry_number = omega arith in
            let more : s.entry_number + 1 < 2 * trees_of v.device = omega arith in
            let next : next_tree v s ≡ i = omega arith in
            let between : IsBetween v s w x = (subst (AtBetween v s w) q.queue agrees.between) (some, more) in
            let over : i + 1 ≢ i = omega arith in
            ap (λ (c : Bool). if c then slice_index t.table a else entry_in (found_in v.device (w'.content (i + 1) (a / fanout v.device))) (a % fanout v.device)) inner.0
            ∙ ap (λ o. entry_in (found_in v.device o) (a % fanout v.device)) (content_other (i + 1) (a / fanout v.device) over)
            ∙ sym (ap (λ (c : Bool). if c then slice_index s.table a else entry_in (found_in v.device (w.content (i + 1) (a / fanout v.device))) (a % fanout v.device)) inner.0)
            ∙ ap (λ (n : ℕ). map_entry_for v s w i n) q.block
            ∙ subst (λ (n : ℕ). map_entry_for v s w n (block_of v.device n x) ≡ new_leaf v.device n x + 1) next between.ahead
      ]

  not_next : (k b : ℕ) → (k ≡ i → b ≢ a) → ¬ IsNext v s s.queue k b
  not_next k b apart = subst (λ y. ¬ IsNext v s y k b) (sym q.queue) (λ n.
      let even : s.entry_number % 2 ≡ 0 = q.even in
      let tree : i ≡ entry_tree v.device s.entry_number = q.tree in
      let at : k ≡ next_tree v s = n.1 in
      let same : k ≡ i = omega arith in
      apart same (n.2 ∙ ap (λ (m : ℕ). block_of v.device m x) same ∙ sym q.block))

  sized_on : HasEntries v.device → Agrees v s w → has_bad_length v.device x.command ≡ false → (k b : ℕ)
      → k < trees_of v.device → length (found_in v.device (w'.content k b)) ≡ v.device.block_bytes
  sized_on h agrees ok k b below = elim (eqb_tells k i) [
    | inr other ↦ ap (λ o. length (found_in v.device o)) (content_other k b other.1) ∙ agrees.sized k b below
    | inl same ↦ ap (λ n. length (found_in v.device (w'.content n b))) same.1 ∙ elim (eqb_tells b a) [
      | inr beside ↦ ap (λ o. length (found_in v.device o)) (content_beside b beside.1) ∙ agrees.sized i b in_device
      | inl here ↦ ap (λ n. length (found_in v.device (w'.content i n))) here.1 ∙ ap (λ o. length (found_in v.device o)) content_here ∙ length-block_after v.device i x bytes h (ap length q.found ∙ agrees.sized i a in_device) ok
    ]
  ]

  leaves_on : Agrees v s w → (k b : ℕ) → k < trees_of v.device → map_entry_of (w'.content k b) ≤ 2 ^ depth_of v.device k
  leaves_on agrees k b below =
      let P : ℕ → ℕ → Type 0 = λ n m. n ≤ 2 ^ depth_of v.device m in
      elim (eqb_tells k i) [
        | inr other ↦ subst (λ o. map_entry_of o ≤ 2 ^ depth_of v.device k) (sym (content_other k b other.1)) (agrees.leaves k b below)
        | inl same ↦ subst (λ m. map_entry_of (w'.content m b) ≤ 2 ^ depth_of v.device m) (sym same.1) (elim (eqb_tells b a) [
          | inr beside ↦ subst (λ o. map_entry_of o ≤ 2 ^ depth_of v.device i) (sym (content_beside b beside.1)) (agrees.leaves i b in_device)
          | inl here ↦ subst (λ c. map_entry_of (w'.content i c) ≤ 2 ^ depth_of v.device i) (sym here.1) (subst (λ o. map_entry_of o ≤ 2 ^ depth_of v.device i) (sym content_here) (omega (arith, (leaf_small v.device i (slice_index x.words (2 * i + 1))).0)))
        ])
      ]

  others_on : HasEntries v.device → Agrees v s w → (k b : ℕ) → k < trees_of v.device → b < blocks_in v.device k
      → ¬ IsNext v t t.queue k b → map_entry_for v t w' k b ≡ map_entry_of (w'.content k b)
  others_on h agrees k b few inside off = elim (eqb_tells k i) [
    | inl same ↦ elim (eqb_tells b a) [
      | inl here ↦ ap (λ n. map_entry_for v t w' n b) same.1 ∙ ap (map_entry_for v t w' i) here.1 ∙ map_entry_here h agrees ∙ sym (ap (λ n. map_entry_of (w'.content n b)) same.1 ∙ ap (λ n. map_entry_of (w'.content i n)) here.1 ∙ ap map_entry_of content_here)
      | inr beside ↦
          map_entry_other k b h agrees (λ e. beside.1) (λ e. absurd (let at : k ≡ i = same.1 in omega arith))
          ∙ agrees.others k b few inside (not_next k b (λ e. beside.1))
          ∙ ap (λ n. map_entry_of (w.content n b)) same.1
          ∙ sym (ap (λ n. map_entry_of (w'.content n b)) same.1 ∙ ap map_entry_of (content_beside b beside.1))
    ]
    | inr other ↦
        map_entry_other k b h agrees (λ e. absurd (other.1 e)) (λ e at. off (subst (λ y. IsNext v t y k b) (sym q.queue') ((next_now k e).0, (next_now k e).1, at)))
        ∙ agrees.others k b few inside (not_next k b (λ e. absurd (other.1 e)))
        ∙ sym (ap map_entry_of (content_other k b other.1))
  ]
    where
      next_now : (k : ℕ) → k + 1 ≡ i → IsAmid v t × (k ≡ next_tree v t)
      next_now k e =
          let few : s.entry_number < 2 * trees_of v.device = q.few in
          let even : s.entry_number % 2 ≡ 0 = q.even in
          let tree : i ≡ entry_tree v.device s.entry_number = q.tree in
          let entry_number : t.entry_number ≡ s.entry_number + 1 = q.stage' in
          ((omega arith, omega arith), omega arith)

  between_on : HasEntries v.device → Agrees v s w → ((k : ℕ) → block_of v.device k x < blocks_in v.device k) → IsAmid v t
      → IsBetween v t w' x
  between_on h agrees inside amid =
      let j : ℕ = next_tree v t in
      let few : s.entry_number < 2 * trees_of v.device = q.few in
      let even : s.entry_number % 2 ≡ 0 = q.even in
      let tree : i ≡ entry_tree v.device s.entry_number = q.tree in
      let entry_number : t.entry_number ≡ s.entry_number + 1 = q.stage' in
      let more : t.entry_number + 1 < 2 * trees_of v.device = amid.1 in
      let over : i ≡ suc j = omega arith in
      let next : j + 1 ≡ i = omega arith in
      let apart : j ≢ i = omega arith in
      let low : j + 1 < trees_of v.device = omega arith in
      let inner : (j + 1 == trees_of v.device) ≡ false = grind (arith, nat_tests) in
      let small = leaf_small v.device j (slice_index x.words (2 * j + 1)) in
      let under : block_of v.device j x / fanout v.device ≡ a = sym (block_is j next) in
      record {
        held = q.held_entry' ∙ ap (λ xs. next_map_entry v.device i x xs) (q.found ∙ ap (λ n. found_in v.device (w.content i n)) q.block)
            ∙ ap (λ n. next_map_entry v.device n x (found_in v.device (w.content n (block_of v.device n x)))) over
            ∙ next_map_entry_is v s w x j low
            ∙ agrees.others j (block_of v.device j x) (omega arith) (inside j) (not_next j (block_of v.device j x) (λ e. absurd (apart e)))
            ∙ sym (ap map_entry_of (content_other j (block_of v.device j x) apart));
        ahead =
            ap (λ (c : Bool). if c then slice_index t.table (block_of v.device j x) else entry_in (found_in v.device (w'.content (j + 1) (block_of v.device j x / fanout v.device))) (block_of v.device j x % fanout v.device)) inner
            ∙ ap (λ n. entry_in (found_in v.device (w'.content n (block_of v.device j x / fanout v.device))) (block_of v.device j x % fanout v.device)) next
            ∙ ap (λ n. entry_in (found_in v.device (w'.content i n)) (block_of v.device j x % fanout v.device)) under
            ∙ ap (λ o. entry_in (found_in v.device o) (block_of v.device j x % fanout v.device)) content_here
            ∙ ap (λ xs. entry_in xs (block_of v.device j x % fanout v.device)) (block_after_is j next)
            ∙ entry_here bytes (block_of v.device j x % fanout v.device) (new_leaf v.device j x + 1) (place_fits j h agrees) (omega (arith, small.0, small.1));
      }

  -- trees that agree still do after an access
  pub agrees_on : HasEntries v.device → Agrees v s w → has_bad_length v.device x.command ≡ false
      → ((k : ℕ) → block_of v.device k x < blocks_in v.device k) → Agrees v t w'
  agrees_on h agrees ok inside = record {
    sized = sized_on h agrees ok;
    leaves = leaves_on agrees;
    others = others_on h agrees;
    between = subst (AtBetween v t w') (sym q.queue') (between_on h agrees inside);
  }
