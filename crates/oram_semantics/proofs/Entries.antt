-- The leaf that an entry shows, given the submissions before it.
use Rattle.std.proofs.Common.{◌≡◌, ℕ, ◌+◌, ◌*◌, ◌%◌, ◌<◌, ◌==◌, Bool, true, false, if◌then◌else◌, cond, List, [], ◌∷◌, ◌++◌, length, reverse, slice_index, Option, Some, None, refl, ap, sym, ◌∙◌, arith, length-append, append_assoc}
use Rattle.std.specs.List.{find}
use Rattle.std.specs.Option.{option_map_or}
use Rattle.std.proofs.Math.Nat.{mul-add-mod_self_right}
use Rattle.std.proofs.lemmas.Nat.{div-mul-add, mod-mul-add}
use Rattle.std.proofs.lemmas.Grind.{flat_map-append}
use Rattle.std.proofs.lemmas.List.{get_or_at, get_or-append-add, get_or_append_left, map-append, length-map, length-reverse, reverse-append}
use Rattle.std.proofs.lemmas.Bool.Decides.{nat_tests}
use Rattle.oram_geometry.specs.declared.Sizes.{Sizes}
use Rattle.oram_geometry.specs.Sizes.{trees_of, leaf_of, address_in}
use Rattle.oram_trace.proofs.Search.{greatest_below-zero, greatest_below-suc}
use Rattle.oram_semantics.specs.Events.{address_of, addresses, tape}
use Rattle.oram_trace.specs.Tape.{entry, greatest_below, place_after, spare_place, new_place, last_use, place, tree_at, ticket_at}
use Rattle.oram_semantics.specs.Content.{entry_tree}
use Rattle.oram_semantics.specs.Content.{map_entry_in}
use Rattle.oram_semantics.specs.Moves.{leaf_for}
use Rattle.oram_semantics.specs.declared.events.Submission.{Submission}

-- std's `reverse` gathers the elements in a second list, so this doesn't hold by computing
pub reverse_cons : {X : Type 0} (x : X) (old : List X) → reverse (x ∷ old) ≡ reverse old ++ x ∷ []
reverse_cons x old = reverse-append (x ∷ []) old

-- an element moves from the front of the coming ones to the past ones
pub turn : {X : Type 0} (x : X) (old back : List X) → reverse (x ∷ old) ++ back ≡ reverse old ++ x ∷ back
turn x old back = ap (λ xs. xs ++ back) (reverse_cons x old) ∙ append_assoc (reverse old) (x ∷ []) back

pub address_at : (old back : List Submission) (x : Submission)
    → slice_index (addresses (reverse old ++ x ∷ back)) (length old) ≡ address_of x.command
address_at old back x =
    rw (map-append (λ (s : Submission). address_of s.command) (reverse old) (x ∷ back))
    (get_or_at (addresses (reverse old)) (address_of x.command) (addresses back) 0 (length old) (length-map (reverse old) (λ s. address_of s.command) ∙ length-reverse old))

-- each submission has n words
abbrev pub HasWords : ℕ → List Submission → Type 0
HasWords n [] = Unit {0}
HasWords n (x ∷ xs) = (length x.words ≡ n) × HasWords n xs

length-tape : (n : ℕ) (old : List Submission) → HasWords n old → length (tape (reverse old)) ≡ n * length old
length-tape n [] w = omega arith
length-tape n (x ∷ old) w =
    let words = λ (s : Submission). s.words in
    let apart : tape (reverse (x ∷ old)) ≡ tape (reverse old) ++ x.words ++ [] =
    ap tape (reverse_cons x old) ∙ flat_map-append words (reverse old) (x ∷ [])
    ∙ sym (append_assoc (tape (reverse old)) x.words []) in
    let size : length (x ∷ old) ≡ length old + 1 = omega arith in
    ap length apart ∙ simp length-append (rw size (omega (arith, length-tape n old w.1, w.0)))

pub word_at : (n : ℕ) (old back : List Submission) (x : Submission) (k : ℕ) → HasWords n old → length x.words ≡ n → k < n
    → slice_index (tape (reverse old ++ x ∷ back)) (n * length old + k) ≡ slice_index x.words k
word_at n old back x k w size h =
    let here : k < length x.words = omega arith in
    rw (flat_map-append (λ (s : Submission). s.words) (reverse old) (x ∷ back)) (rw (sym (length-tape n old w)) (get_or-append-add (tape (reverse old)) (x.words ++ tape back) k 0 ∙ get_or_append_left x.words (tape back) 0 k here))

abbrev pub map_entry_by : Sizes → ℕ → List Submission → ℕ → ℕ
map_entry_by d i subs k = leaf_of d i (slice_index (tape subs) (new_place d i k)) + 1

abbrev pub shares : Sizes → ℕ → List Submission → ℕ → ℕ → Bool
shares d i subs a k = address_in d i (slice_index (addresses subs) k) == a

pub newest : (d : Sizes) (i a : ℕ) (old back : List Submission) → i < trees_of d → HasWords (2 * trees_of d) old →
    option_map_or (map_entry_by d i (reverse old ++ back)) (greatest_below (shares d i (reverse old ++ back) a) (length old)) 0 ≡ map_entry_in d i old a
unfolding map_entry_in
newest d i a [] back few w = rw (greatest_below-zero _) refl
newest d i a (y ∷ ys) back few w =
    let subs = reverse ys ++ y ∷ back in
    let own : shares d i subs a (length ys) ≡ (address_in d i (address_of y.command) == a) =
    ap (λ n. address_in d i n == a) (address_at ys back y) in
    let place_is : new_place d i (length ys) ≡ 2 * trees_of d * length ys + (2 * i + 1) = omega arith in
    let word : map_entry_by d i subs (length ys) ≡ leaf_of d i (slice_index y.words (2 * i + 1)) + 1 =
    ap (λ m. leaf_of d i (slice_index (tape subs) m) + 1) place_is
    ∙ ap (λ n. leaf_of d i n + 1) (word_at (2 * trees_of d) ys back y (2 * i + 1) w.1 w.0 (omega arith)) in
    rw (turn y ys back) (
    ap (λ o. option_map_or (map_entry_by d i subs) o 0) (greatest_below-suc (shares d i subs a) (length ys) ∙ ap (λ b. if b then Some (length ys) else greatest_below (shares d i subs a) (length ys)) own)
    ∙ elim (address_in d i (address_of y.command) == a) as (λ b. option_map_or (map_entry_by d i subs) (if b then Some (length ys) else greatest_below (shares d i subs a) (length ys)) 0 ≡ option_map_or (λ s. leaf_of d i (slice_index s.words (2 * i + 1)) + 1) (cond b (Some y) (find (λ s. address_in d i (address_of s.command) == a) ys)) 0) [
      | true ↦ word
      | false ↦ newest d i a ys (y ∷ back) few w.1
    ])

leaf_by : (d : Sizes) (i : ℕ) (subs : List Submission) (x : Submission) (n map_entry : ℕ) (o : Option ℕ) →
    option_map_or (map_entry_by d i subs) o 0 ≡ map_entry → slice_index (tape subs) (spare_place d i n) ≡ slice_index x.words (2 * i) →
    leaf_of d i (slice_index (tape subs) (place_after d i n o)) ≡ leaf_for d i map_entry x
leaf_by d i subs x n map_entry None e spare = rw (sym e) (ap (leaf_of d i) spare)
leaf_by d i subs x n map_entry (Some k) e spare = rw (sym e) (grind (arith, nat_tests))

pub leaf_shown : (d : Sizes) (i : ℕ) (old back : List Submission) (x : Submission) → i < trees_of d
    → HasWords (2 * trees_of d) old → length x.words ≡ 2 * trees_of d
    → leaf_of d i (slice_index (tape (reverse old ++ x ∷ back)) (place d (addresses (reverse old ++ x ∷ back)) i (length old)))
    ≡ leaf_for d i (map_entry_in d i old (address_in d i (address_of x.command))) x
leaf_shown d i old back x few w size =
    let subs = reverse old ++ x ∷ back in
    leaf_by d i subs x (length old) (map_entry_in d i old (address_in d i (address_of x.command))) (last_use d (addresses subs) i (length old))
    (ap (λ (a : ℕ). option_map_or (map_entry_by d i subs) (greatest_below (shares d i subs (address_in d i a)) (length old)) 0) (address_at old back x)
    ∙ newest d i (address_in d i (address_of x.command)) old (x ∷ back) few w)
    (word_at (2 * trees_of d) old back x (2 * i) w size (omega arith))

entry_by : (d : Sizes) (xs words : List ℕ) (m n i : ℕ) (f : Bool) → tree_at d m ≡ i → ticket_at d m ≡ n → (m % 2 == 0) ≡ f →
    entry d xs words m ≡ record { fetch = f; tree = i; leaf = leaf_of d i (slice_index words (place d xs i n)) }
entry_by d xs words m n i f e t b =
    ap (λ (g : Bool). record { fetch = g; tree = tree_at d m; leaf = leaf_of d (tree_at d m) (slice_index words (place d xs (tree_at d m) (ticket_at d m))) }) b
    ∙ ap (λ (k : ℕ). record { fetch = f; tree = k; leaf = leaf_of d k (slice_index words (place d xs k (ticket_at d m))) }) e
    ∙ ap (λ (k : ℕ). record { fetch = f; tree = i; leaf = leaf_of d i (slice_index words (place d xs i k)) }) t

-- entry r of ticket n: its tree, its ticket, and whether it is a FETCH
pub entry_is : (d : Sizes) (old back : List Submission) (x : Submission) (r : ℕ) → r < 2 * trees_of d
    → HasWords (2 * trees_of d) old → length x.words ≡ 2 * trees_of d
    → entry d (addresses (reverse old ++ x ∷ back)) (tape (reverse old ++ x ∷ back)) (length old * (2 * trees_of d) + r)
    ≡ record { fetch = r % 2 == 0; tree = entry_tree d r; leaf = leaf_for d (entry_tree d r) (map_entry_in d (entry_tree d r) old (address_in d (entry_tree d r) (address_of x.command))) x }
entry_is d old back x r few w size =
    let m = length old * (2 * trees_of d) + r in
    let i = entry_tree d r in
    let rest : m % (2 * trees_of d) ≡ r = mod-mul-add (length old) (2 * trees_of d) r few in
    let ticket : ticket_at d m ≡ length old = div-mul-add (length old) (2 * trees_of d) r few in
    let tree : tree_at d m ≡ i = ap (λ k. entry_tree d k) rest in
    let twice : m ≡ length old * trees_of d * 2 + r = omega arith in
    let even : m % 2 ≡ r % 2 = ap (λ k. k % 2) twice ∙ mul-add-mod_self_right (length old * trees_of d) 2 r in
    entry_by d _ _ m (length old) i (r % 2 == 0) tree ticket (ap (λ k. k == 0) even)
    ∙ ap (λ (k : ℕ). record { fetch = r % 2 == 0; tree = i; leaf = k }) (leaf_shown d i old back x (omega arith) w size)
