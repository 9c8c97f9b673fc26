-- One more access changes one block of a tree.
use Rattle.std.proofs.Common.{◌≡◌, ◌≢◌, ℕ, zero, suc, ◌+◌, ◌-◌, ◌*◌, ◌/◌, ◌%◌, ◌^◌, ◌<◌, ◌≤◌, ◌==◌, true, false, if◌then◌else◌, cond, List, [], ◌∷◌, length, replicate, slice_index, Option, Some, None, refl, ap, sym, ◌∙◌, arith, inl, inr}
use Rattle.std.specs.List.{find}
use Rattle.std.specs.Option.{option_map, option_map_or}
use Rattle.std.specs.Int.{w32, to_be_bytes, from_be_bytes}
use Rattle.std.proofs.Math.Nat.{pow-le-pow_right}
use Rattle.std.proofs.lemmas.Nat.{from_be_bytes-to_be_bytes_4, div-add-mod', mod_below, div-mul-add, pow_pos}
use Rattle.std.proofs.lemmas.Bool.Decides.{nat_tests, eqb_tells}
use Rattle.oram_geometry.specs.declared.Sizes.{Sizes}
use Rattle.oram_geometry.specs.Sizes.{fanout, leaf_of, depth_of}
use Rattle.oram_geometry.proofs.DeviceSizes.{address_in-next, address_in-zero}
use Rattle.oram_semantics.proofs.Bounds.{HasEntries, depth_small}
use Rattle.oram_semantics.specs.Events.{address_of, array_at, bytes_left, bytes_of, changes}
use Rattle.oram_semantics.specs.Content.{block_of, new_leaf, newest_in, map_entry_in, data_in, content_after}
use Rattle.oram_semantics.specs.State.{map_entry_of}
use Rattle.oram_tree.specs.Edits.{with_entry}
use Rattle.oram_semantics.specs.Blocks.{found_in, entry_in, block_after, next_map_entry, left_by}
use Rattle.oram_semantics.specs.declared.events.Command.{Command}
use Rattle.oram_semantics.specs.declared.events.Command.TheVariants.{Read, Write, Discard}
use Rattle.oram_semantics.specs.declared.events.Submission.{Submission}
use Rattle.oram_semantics.proofs.Fours.{flat_map_same, four_at, four_set, zeros_are}

-- a map block covers its blocks of the tree below
pub above : (d : Sizes) (i : ℕ) (x : Submission) → block_of d (suc i) x ≡ block_of d i x / fanout d
above d i x =
    let next : suc i ≡ i + 1 = omega arith in
    ap (λ k. block_of d k x) next ∙ sym (address_in-next d i (address_of x.command))

pub own_block : (d : Sizes) (x : Submission) → block_of d 0 x ≡ address_of x.command
own_block d x = address_in-zero d (address_of x.command)

-- the index of a block in its map block
under : (d : Sizes) (i : ℕ) (x : Submission) → HasEntries d
    → block_of d (suc i) x * fanout d + block_of d i x % fanout d ≡ block_of d i x
under d i x h = ap (λ n. n * fanout d + block_of d i x % fanout d) (above d i x) ∙ div-add-mod' (block_of d i x) (fanout d)

-- no leaf is 2 ^ 24 or more
pub leaf_small : (d : Sizes) (i w : ℕ) → (leaf_of d i w < 2 ^ depth_of d i) × (2 ^ depth_of d i ≤ 2 ^ 24)
leaf_small d i w =
    (mod_below w (2 ^ depth_of d i) (pow_pos (depth_of d i)), pow-le-pow_right {n = 2} (omega arith) {i = depth_of d i} {j = 24} (depth_small d i))

map_entry_cons : (d : Sizes) (i : ℕ) (x : Submission) (old : List Submission) (b : ℕ)
    → map_entry_in d i (x ∷ old) b ≡ option_map_or (λ s. new_leaf d i s + 1) (cond (block_of d i x == b) (Some x) (newest_in d i old b)) 0
unfolding map_entry_in
map_entry_cons d i x old b = refl

pub map_entry_here : (d : Sizes) (i : ℕ) (x : Submission) (old : List Submission) (b : ℕ) → b ≡ block_of d i x
    → map_entry_in d i (x ∷ old) b ≡ new_leaf d i x + 1
map_entry_here d i x old b e =
    let same : (block_of d i x == b) ≡ true = grind (arith, nat_tests) in
    map_entry_cons d i x old b ∙ ap (λ t. option_map_or (λ s. new_leaf d i s + 1) (cond t (Some x) (newest_in d i old b)) 0) same

pub map_entry_there : (d : Sizes) (i : ℕ) (x : Submission) (old : List Submission) (b : ℕ) → b ≢ block_of d i x
    → map_entry_in d i (x ∷ old) b ≡ map_entry_in d i old b
unfolding map_entry_in
map_entry_there d i x old b ne =
    let other : (block_of d i x == b) ≡ false = grind (arith, nat_tests) in
    map_entry_cons d i x old b ∙ ap (λ t. option_map_or (λ s. new_leaf d i s + 1) (cond t (Some x) (newest_in d i old b)) 0) other

pub map_entry_range : (d : Sizes) (i : ℕ) (old : List Submission) (b : ℕ) → map_entry_in d i old b ≤ 2 ^ depth_of d i
unfolding map_entry_in
map_entry_range d i old b = elim (newest_in d i old b) as (λ o. option_map_or (λ s. new_leaf d i s + 1) o 0 ≤ 2 ^ depth_of d i) [
  | None ↦ omega arith
  | Some s ↦ omega (arith, (leaf_small d i (slice_index s.words (2 * i + 1))).0)
]

map_entry_small : (d : Sizes) (i : ℕ) (old : List Submission) (b : ℕ) → map_entry_in d i old b < 2 ^ 32
map_entry_small d i old b = omega (arith, map_entry_range d i old b, (leaf_small d i 0).1)

-- a block that no submission lies in has no block below that one lies in
none_below : (d : Sizes) (i : ℕ) (old : List Submission) (a b : ℕ) → HasEntries d → newest_in d (suc i) old a ≡ None
    → a * fanout d ≤ b → b < a * fanout d + fanout d → map_entry_in d i old b ≡ 0
unfolding map_entry_in
none_below d i [] a b h e low high = refl
none_below d i (y ∷ old) a b h e low high =
    let part : b ≡ a * fanout d + (b - a * fanout d) = omega arith in
    let up : b / fanout d ≡ a = ap (λ n. n / fanout d) part ∙ div-mul-add a (fanout d) (b - a * fanout d) (omega arith) in
    elim (eqb_tells (block_of d (suc i) y) a) [
      | inl t ↦ absurd (let found : Some y ≡ None = sym (ap (λ c. cond c (Some y) (newest_in d (suc i) old a)) (t.0)) ∙ e in cc)
      | inr f ↦
          let rest : newest_in d (suc i) old a ≡ None = sym (ap (λ c. cond c (Some y) (newest_in d (suc i) old a)) (f.0)) ∙ e in
          let ne : b ≢ block_of d i y = λ same. f.1 (above d i y ∙ ap (λ n. n / fanout d) (sym same) ∙ up) in
          map_entry_there d i y old b ne ∙ none_below d i old a b h rest low high
    ]

pub four_zeros : to_be_bytes w32 0 ≡ replicate 4 0
four_zeros = refl

pub four_long : (n : ℕ) → length (to_be_bytes w32 n) ≡ 4
four_long n = refl

unchanged : (c : Command) (a : ℕ) → address_of c ≢ a → changes a c ≡ false
unchanged (Read b) a ne = refl
unchanged (Write b bytes) a ne = grind (arith, nat_tests)
unchanged (Discard b) a ne = grind (arith, nat_tests)

array_there : (d : Sizes) (y : Submission) (old : List Submission) (a : ℕ) → changes a y.command ≡ false
    → array_at d (y ∷ old) a ≡ array_at d old a
array_there d y old a e = ap (λ t. bytes_left d.block_bytes (cond t (Some y) (find (λ s. changes a s.command) old))) e

-- nothing changes a block that no submission accesses
array_none : (d : Sizes) (old : List Submission) (a : ℕ) → newest_in d 0 old a ≡ None
    → array_at d old a ≡ replicate d.block_bytes 0
array_none d [] a e = refl
array_none d (y ∷ old) a e =
    elim (eqb_tells (block_of d 0 y) a) [
      | inl t ↦ absurd (let found : Some y ≡ None = sym (ap (λ c. cond c (Some y) (newest_in d 0 old a)) (t.0)) ∙ e in cc)
      | inr f ↦
          let rest : newest_in d 0 old a ≡ None = sym (ap (λ c. cond c (Some y) (newest_in d 0 old a)) (f.0)) ∙ e in
          array_there d y old a (unchanged y.command a (λ same. f.1 (own_block d y ∙ same))) ∙ array_none d old a rest
    ]

zero_case : (d : Sizes) (old : List Submission) (a : ℕ) → newest_in d 0 old a ≡ None
    → replicate d.block_bytes 0 ≡ data_in d 0 old a
unfolding data_in
zero_case d old a e = sym (array_none d old a e)

map_case : (d : Sizes) (i : ℕ) (old : List Submission) (a : ℕ) → HasEntries d → newest_in d (suc i) old a ≡ None
    → replicate d.block_bytes 0 ≡ data_in d (suc i) old a
unfolding data_in
map_case d i old a h e =
    ap (λ n. replicate n 0) h.whole
    ∙ sym (zeros_are (λ b. to_be_bytes w32 (map_entry_in d i old b)) (a * fanout d) (fanout d) (λ b low high. ap (to_be_bytes w32) (none_below d i old a b h e low high) ∙ four_zeros))

-- an access finds the defined content, even if the tree doesn't have the block
found_by : (d : Sizes) (i : ℕ) (old : List Submission) (a : ℕ) (o : Option Submission) → HasEntries d → newest_in d i old a ≡ o →
    found_in d (option_map (λ s. record { leaf = new_leaf d i s; content = data_in d i old a }) o) ≡ data_in d i old a
found_by d i old a (Some s) h e = refl
found_by d zero old a None h e = zero_case d old a e
found_by d (suc i) old a None h e = map_case d i old a h e

pub found_is : (d : Sizes) (i : ℕ) (old : List Submission) (a : ℕ) → HasEntries d
    → found_in d (content_after d i old a) ≡ data_in d i old a
unfolding content_after
found_is d i old a h = found_by d i old a (newest_in d i old a) h refl

-- the entries of a map block
pub next_is : (d : Sizes) (i : ℕ) (old : List Submission) (x : Submission) → HasEntries d
    → next_map_entry d (suc i) x (data_in d (suc i) old (block_of d (suc i) x)) ≡ map_entry_in d i old (block_of d i x)
unfolding next_map_entry data_in entry_in
next_is d i old x h =
    let j : ℕ = block_of d i x % fanout d in
    let s : ℕ = block_of d (suc i) x * fanout d in
    ap (from_be_bytes w32) (four_at (λ b. to_be_bytes w32 (map_entry_in d i old b)) s (fanout d) j (mod_below (block_of d i x) (fanout d) h.some) (λ b. four_long (map_entry_in d i old b)))
    ∙ from_be_bytes-to_be_bytes_4 (map_entry_in d i old (s + j)) (map_entry_small d i old (s + j))
    ∙ ap (map_entry_in d i old) (under d i x h)

changed_here : (d : Sizes) (old : List Submission) (x : Submission) (c : Command) → x.command ≡ c
    → changes (block_of d 0 x) c ≡ true → bytes_of d.block_bytes c ≡ array_at d (x ∷ old) (block_of d 0 x)
changed_here d old x c e here =
    let same : changes (block_of d 0 x) x.command ≡ true = ap (changes (block_of d 0 x)) e ∙ here in
    sym (ap (λ t. bytes_left d.block_bytes (cond t (Some x) (find (λ s. changes (block_of d 0 x) s.command) old))) same ∙ ap (bytes_of d.block_bytes) e)

left_here : (d : Sizes) (old : List Submission) (x : Submission) (c : Command) → block_of d 0 x ≡ address_of x.command
    → x.command ≡ c → left_by d c (array_at d old (block_of d 0 x)) ≡ array_at d (x ∷ old) (block_of d 0 x)
left_here d old x (Read b) own e = sym (array_there d x old (block_of d 0 x) (ap (changes (block_of d 0 x)) e))
left_here d old x (Write b bytes) own e =
    let here : block_of d 0 x ≡ b = own ∙ ap address_of e in
    changed_here d old x (Write b bytes) e (grind (arith, nat_tests))
left_here d old x (Discard b) own e =
    let here : block_of d 0 x ≡ b = own ∙ ap address_of e in
    changed_here d old x (Discard b) e (grind (arith, nat_tests))

-- the accessed block
data_here : (d : Sizes) (i : ℕ) (old : List Submission) (x : Submission) → HasEntries d
    → block_after d i x (data_in d i old (block_of d i x)) ≡ data_in d i (x ∷ old) (block_of d i x)
unfolding block_after data_in with_entry
data_here d zero old x h = left_here d old x x.command (own_block d x) refl
data_here d (suc i) old x h =
    let j : ℕ = block_of d i x % fanout d in
    let s : ℕ = block_of d (suc i) x * fanout d in
    four_set (λ b. to_be_bytes w32 (map_entry_in d i old b)) (λ b. to_be_bytes w32 (map_entry_in d i (x ∷ old) b)) s (fanout d) j (to_be_bytes w32 (new_leaf d i x + 1))
    (mod_below (block_of d i x) (fanout d) h.some) (λ b. four_long (map_entry_in d i old b))
    (ap (to_be_bytes w32) (map_entry_here d i x old (s + j) (under d i x h)))
    (λ b ne. ap (to_be_bytes w32) (sym (map_entry_there d i x old b (λ e. ne (e ∙ sym (under d i x h))))))

-- the other blocks
data_there : (d : Sizes) (i : ℕ) (old : List Submission) (x : Submission) (a : ℕ) → HasEntries d → a ≢ block_of d i x
    → data_in d i old a ≡ data_in d i (x ∷ old) a
unfolding data_in
data_there d zero old x a h ne = sym (array_there d x old a (unchanged x.command a (λ e. ne (sym (own_block d x ∙ e)))))
data_there d (suc i) old x a h ne =
    flat_map_same (λ b. to_be_bytes w32 (map_entry_in d i old b)) (λ b. to_be_bytes w32 (map_entry_in d i (x ∷ old) b)) (a * fanout d) (fanout d)
    (λ b low high.
    let part : b ≡ a * fanout d + (b - a * fanout d) = omega arith in
    let up : b / fanout d ≡ a = ap (λ n. n / fanout d) part ∙ div-mul-add a (fanout d) (b - a * fanout d) (omega arith) in
    ap (to_be_bytes w32) (sym (map_entry_there d i x old b (λ e. ne (sym up ∙ ap (λ n. n / fanout d) e ∙ sym (above d i x))))))

content_here : (d : Sizes) (i : ℕ) (old : List Submission) (x : Submission) (b : ℕ) → HasEntries d → b ≡ block_of d i x →
    content_after d i (x ∷ old) b ≡ Some (record { leaf = new_leaf d i x; content = block_after d i x (found_in d (content_after d i old (block_of d i x))) })
unfolding content_after
content_here d i old x b h e =
    let same : (block_of d i x == b) ≡ true = grind (arith, nat_tests) in
    ap (λ t. option_map (λ s. record { leaf = new_leaf d i s; content = data_in d i (x ∷ old) b }) (cond t (Some x) (newest_in d i old b))) same
    ∙ ap (λ y. Some (record { leaf = new_leaf d i x; content = y })) (ap (data_in d i (x ∷ old)) e ∙ sym (data_here d i old x h) ∙ ap (block_after d i x) (sym (found_is d i old (block_of d i x) h)))

content_there : (d : Sizes) (i : ℕ) (old : List Submission) (x : Submission) (b : ℕ) → HasEntries d → b ≢ block_of d i x
    → content_after d i (x ∷ old) b ≡ content_after d i old b
unfolding content_after
content_there d i old x b h ne =
    let other : (block_of d i x == b) ≡ false = grind (arith, nat_tests) in
    ap (λ t. option_map (λ s. record { leaf = new_leaf d i s; content = data_in d i (x ∷ old) b }) (cond t (Some x) (newest_in d i old b))) other
    ∙ ap (λ y. option_map (λ s. record { leaf = new_leaf d i s; content = y }) (newest_in d i old b)) (sym (data_there d i old x b h ne))

-- One more access changes one block.
pub content_more : (d : Sizes) (i : ℕ) (old : List Submission) (x : Submission) (b : ℕ) → HasEntries d →
    content_after d i (x ∷ old) b ≡ (if b == block_of d i x then Some (record { leaf = new_leaf d i x; content = block_after d i x (found_in d (content_after d i old (block_of d i x))) }) else content_after d i old b)
content_more d i old x b h =
    elim (eqb_tells b (block_of d i x)) [
      | inl t ↦ rw (t.0) (content_here d i old x b h t.1)
      | inr f ↦ rw (f.0) (content_there d i old x b h f.1)
    ]

name_by : (d : Sizes) (i : ℕ) (bytes : List ℕ) (o : Option Submission)
    → map_entry_of (option_map (λ s. record { leaf = new_leaf d i s; content = bytes }) o) ≡ option_map_or (λ s. new_leaf d i s + 1) o 0
name_by d i bytes None = refl
name_by d i bytes (Some s) = refl

-- the map entry for a block, given the tree's content, is the defined one
pub name_is : (d : Sizes) (i : ℕ) (old : List Submission) (a : ℕ) → map_entry_of (content_after d i old a) ≡ map_entry_in d i old a
unfolding content_after map_entry_in
name_is d i old a = name_by d i (data_in d i old a) (newest_in d i old a)

-- in tree 0 a block's address is its address in the device
pub data_zero : (d : Sizes) (old : List Submission) (x : Submission)
    → data_in d 0 old (block_of d 0 x) ≡ array_at d old (address_of x.command)
unfolding data_in
data_zero d old x = ap (array_at d old) (own_block d x)

-- how the access to tree 0 changes its block, and the access to a map tree

pub block_after-zero : (d : Sizes) (x : Submission) (bytes : List ℕ) → block_after d 0 x bytes ≡ left_by d x.command bytes
unfolding block_after
block_after-zero d x bytes = refl

pub block_after-suc : (d : Sizes) (i : ℕ) (x : Submission) (bytes : List ℕ)
    → block_after d (suc i) x bytes ≡ with_entry bytes (block_of d i x % fanout d) (new_leaf d i x + 1)
unfolding block_after
block_after-suc d i x bytes = refl
