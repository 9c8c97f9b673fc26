-- The nodes of a tree in the order of their PUTs, and the records that these leave.
use Rattle.std.proofs.Common.{◌≡◌, ◌≢◌, ◌⊎◌, ℕ, zero, suc, ◌+◌, ◌-◌, ◌*◌, ◌^◌, ◌<◌, ◌≤◌, ◌==◌, not, true, false, if◌then◌else◌, List, [], ◌∷◌, ◌++◌, reverse, map, Option, Some, None, unwrap_or, refl, ap, sym, ◌∙◌, subst, arith, inl, inr, append_assoc}
use Rattle.std.proofs.lemmas.Nat.{pow-add, pow_pos, from_be_bytes-to_be_bytes_4}
use Rattle.std.proofs.Math.Nat.{pow-le-pow_right, mul-le-mul_left}
use Rattle.std.proofs.lemmas.List.{map-append}
use Rattle.std.proofs.lemmas.Bool.{cases_order}
use Rattle.std.proofs.lemmas.Bool.Decides.{nat_tests, eqb_tells}
use Rattle.oram_wire.specs.HostMessages.{put_body, shape_body}
use Rattle.oram_tree.specs.Content.{node_count}
use Rattle.oram_tree.specs.Format.{post_order}
use Rattle.oram_semantics.specs.Scheme.{Scheme}
use Rattle.oram_semantics.specs.Messages.{message_place, written, last_stored}
use Rattle.oram_semantics.proofs.Entries.{reverse_cons}

-- a property of each element, and of some element
abbrev pub Each : {X : Type 0} → (X → Type 0) → List X → Type 0
Each P [] = Unit {0}
Each P (x ∷ xs) = P x × Each P xs

abbrev pub Some1 : {X : Type 0} → (X → Type 0) → List X → Type 0
Some1 P [] = ⊥
Some1 P (x ∷ xs) = P x ⊎ Some1 P xs

pub each_append : {X : Type 0} (P : X → Type 0) (xs ys : List X) → Each P xs → Each P ys → Each P (xs ++ ys)
each_append P [] ys a b = b
each_append P (x ∷ xs) ys a b = (a.0, each_append P xs ys a.1 b)

pub some_left : {X : Type 0} (P : X → Type 0) (xs ys : List X) → Some1 P xs → Some1 P (xs ++ ys)
some_left P [] ys a = absurd a
some_left P (x ∷ xs) ys (inl here) = inl here
some_left P (x ∷ xs) ys (inr later) = inr (some_left P xs ys later)

pub some_right : {X : Type 0} (P : X → Type 0) (xs ys : List X) → Some1 P ys → Some1 P (xs ++ ys)
some_right P [] ys a = a
some_right P (x ∷ xs) ys a = inr (some_right P xs ys a)

each_reverse : {X : Type 0} (P : X → Type 0) (xs : List X) → Each P xs → Each P (reverse xs)
each_reverse P [] a = tt
each_reverse P (x ∷ xs) a =
    subst (Each P) (sym (reverse_cons x xs)) (each_append P (reverse xs) (x ∷ []) (each_reverse P xs a.1) (a.0, tt))

some_reverse : {X : Type 0} (P : X → Type 0) (xs : List X) → Some1 P xs → Some1 P (reverse xs)
some_reverse P [] a = absurd a
some_reverse P (x ∷ xs) (inl here) = subst (Some1 P) (sym (reverse_cons x xs)) (some_right P (reverse xs) (x ∷ []) (inl here))
some_reverse P (x ∷ xs) (inr later) =
    subst (Some1 P) (sym (reverse_cons x xs)) (some_left P (reverse xs) (x ∷ []) (some_reverse P xs later))

-- the message leaves this record at the node, or none
abbrev pub Leaves : Scheme → ℕ → ℕ → List ℕ → List ℕ → Type 0
Leaves v i n r m = written v m i n ≡ Some r

abbrev pub LeavesAtMost : Scheme → ℕ → ℕ → List ℕ → List ℕ → Type 0
LeavesAtMost v i n r m = (written v m i n ≡ None) ⊎ Leaves v i n r m

last_by : (v : Scheme) (i n : ℕ) (r m : List ℕ) (older : List (List ℕ)) → Some1 (Leaves v i n r) (m ∷ older)
    → LeavesAtMost v i n r m → (Some1 (Leaves v i n r) older → last_stored v older i n ≡ r)
    → last_stored v (m ∷ older) i n ≡ r
unfolding last_stored
last_by v i n r m older some (inr here) rest = ap (λ o. unwrap_or o (last_stored v older i n)) here
last_by v i n r m older (inl here) (inl none) rest = ap (λ o. unwrap_or o (last_stored v older i n)) here
last_by v i n r m older (inr later) (inl none) rest = ap (λ o. unwrap_or o (last_stored v older i n)) none ∙ rest later

-- if some message leaves this record at a node, and none leaves another, it is the record last stored there
stored_once : (v : Scheme) (i n : ℕ) (r : List ℕ) (ms : List (List ℕ)) → Each (LeavesAtMost v i n r) ms
    → Some1 (Leaves v i n r) ms → last_stored v ms i n ≡ r
stored_once v i n r [] each some = absurd some
stored_once v i n r (m ∷ older) each some = last_by v i n r m older some each.0 (stored_once v i n r older each.1)

pub stored_one : (v : Scheme) (i n : ℕ) (r : List ℕ) (ms : List (List ℕ)) → Each (LeavesAtMost v i n r) ms
    → Some1 (Leaves v i n r) ms → last_stored v (reverse ms) i n ≡ r
stored_one v i n r ms each some =
    stored_once v i n r (reverse ms) (each_reverse (LeavesAtMost v i n r) ms each) (some_reverse (Leaves v i n r) ms some)

-- the records that the messages of a formatting leave

pub written_shape : (v : Scheme) (j depth len i n : ℕ) → written v (shape_body j depth len) i n ≡ None
unfolding written
written_shape v j depth len i n =
    let none : Option (List ℕ) = None in
    elim (j == i) as (λ b. (if not b then none else none) ≡ none) [ true ↦ refl | false ↦ refl ]

put_elsewhere : (v : Scheme) (j k i n : ℕ) (r : List ℕ) → j ≢ i → written v (put_body j k r) i n ≡ None
unfolding written
put_elsewhere v j k i n r ne = let other : (j == i) ≡ false = grind (arith, nat_tests) in rw other refl

place_is : (j k : ℕ) (r : List ℕ) → k < 2 ^ 32 → message_place (put_body j k r) ≡ k
place_is j k r small = from_be_bytes-to_be_bytes_4 k small

pub put_here : (v : Scheme) (i k : ℕ) (r : List ℕ) → k < 2 ^ 32 → written v (put_body i k r) i k ≡ Some r
unfolding written
put_here v i k r small =
    let one : (i == i) ≡ true = grind (arith, nat_tests) in
    let two : (message_place (put_body i k r) == k) ≡ true = let same = place_is i k r small in grind (arith, nat_tests) in
    rw (one, two) refl

put_beside : (v : Scheme) (i k n : ℕ) (r : List ℕ) → k < 2 ^ 32 → k ≢ n → written v (put_body i k r) i n ≡ None
unfolding written
put_beside v i k n r small ne =
    let one : (i == i) ≡ true = grind (arith, nat_tests) in
    let other : (message_place (put_body i k r) == n) ≡ false = let same = place_is i k r small in grind (arith, nat_tests) in
    rw (one, other) refl

-- a PUT of a tree's record leaves it at a node, or nothing
pub put_leaves : (v : Scheme) (j k i n : ℕ) (records : ℕ → List ℕ) (r : List ℕ) → k < 2 ^ 32 → (j ≡ i → records n ≡ r)
    → LeavesAtMost v i n r (put_body j k (records k))
put_leaves v j k i n records r small is = elim (eqb_tells j i) [
  | inr other ↦ inl (put_elsewhere v j k i n (records k) other.1)
  | inl same ↦ elim (eqb_tells k n) [
    | inr beside ↦ inl (ap (λ t. written v (put_body t k (records k)) i n) same.1 ∙ put_beside v i k n (records k) small beside.1)
    | inl here ↦ inr (ap (λ t. written v (put_body t k (records k)) i n) same.1 ∙ ap (λ m. written v (put_body i k (records k)) i m) (sym here.1) ∙ put_here v i k (records k) small ∙ ap (λ m. Some (records m)) here.1 ∙ ap (λ x. Some x) (is same.1))
  ]
]

lt_or_le : (m n : ℕ) → (m < n) ⊎ (n ≤ m)
lt_or_le m n = elim (cases_order m n) [ inl same ↦ inr (omega arith) | inr apart ↦ elim apart [ inl below ↦ inl below | inr above ↦ inr (omega arith) ] ]

pub order_cut : (f : ℕ → List ℕ) (h n : ℕ)
    → map f (post_order (suc h) n) ≡ map f (post_order h (2 * n + 1)) ++ (map f (post_order h (2 * n + 2)) ++ f n ∷ [])
unfolding post_order
order_cut f h n =
    map-append f (post_order h (2 * n + 1) ++ post_order h (2 * n + 2)) (n ∷ [])
    ∙ ap (λ xs. xs ++ f n ∷ []) (map-append f (post_order h (2 * n + 1)) (post_order h (2 * n + 2)))
    ∙ append_assoc (map f (post_order h (2 * n + 1))) (map f (post_order h (2 * n + 2))) (f n ∷ [])

pub order_leaf : (f : ℕ → List ℕ) (n : ℕ) → map f (post_order 0 n) ≡ f n ∷ []
unfolding post_order
order_leaf f n = refl

twice : (h : ℕ) → 2 ^ suc h ≡ 2 ^ h * 2
twice h = (let z : suc h ≡ h + 1 = omega arith in ap (λ (k : ℕ). 2 ^ k) z) ∙ pow-add 2 h 1

-- a property of all nodes with small numbers is one of the nodes of a small subtree
pub each_node : (P : List ℕ → Type 0) (f : ℕ → List ℕ) (h n : ℕ) → (n + 2) * 2 ^ h ≤ 2 ^ 25
    → ((k : ℕ) → k < 2 ^ 32 → P (f k)) → Each P (map f (post_order h n))
each_node P f zero n small h = subst (Each P) (sym (order_leaf f n)) (h n (omega arith), tt)
each_node P f (suc k) n small h =
    let two : 2 ^ suc k ≡ 2 ^ k * 2 = twice k in
    let whole : (n + 2) * (2 ^ k * 2) ≤ 2 ^ 25 = subst (λ (p : ℕ). (n + 2) * p ≤ 2 ^ 25) two small in
    let some : 1 ≤ 2 ^ k * 2 = omega (arith, pow_pos k) in
    let top : (n + 2) * 1 ≤ (n + 2) * (2 ^ k * 2) = mul-le-mul_left (n + 2) some in
    subst (Each P) (sym (order_cut f k n))
    (each_append P (map f (post_order k (2 * n + 1))) (map f (post_order k (2 * n + 2)) ++ f n ∷ []) (each_node P f k (2 * n + 1) (omega arith) h)
    (each_append P (map f (post_order k (2 * n + 2))) (f n ∷ []) (each_node P f k (2 * n + 2) (omega arith) h) (h n (omega arith), tt)))

-- node x of level l of a subtree is among its nodes
pub some_node : (P : List ℕ → Type 0) (f : ℕ → List ℕ) (h n l x m : ℕ) → l ≤ h → x < 2 ^ l → m + 1 ≡ (n + 1) * 2 ^ l + x
    → P (f m) → Some1 P (map f (post_order h n))
some_node P f zero n l x m below small e here =
    let root : l ≡ 0 = omega arith in
    let one : 2 ^ l ≡ 1 = ap (λ (k : ℕ). 2 ^ k) root in
    let first : (n + 1) * 2 ^ l ≡ n + 1 = ap (λ (p : ℕ). (n + 1) * p) one ∙ omega arith in
    let same : m ≡ n = omega arith in
    subst (Some1 P) (sym (order_leaf f n)) (inl (subst (λ (k : ℕ). P (f k)) same here))
some_node P f (suc h) n zero x m below small e here =
    let same : m ≡ n = omega arith in
    subst (Some1 P) (sym (order_cut f h n))
    (some_right P (map f (post_order h (2 * n + 1))) (map f (post_order h (2 * n + 2)) ++ f n ∷ [])
    (some_right P (map f (post_order h (2 * n + 2))) (f n ∷ []) (inl (subst (λ (k : ℕ). P (f k)) same here))))
some_node P f (suc h) n (suc l) x m below small e here =
    let two : 2 ^ suc l ≡ 2 ^ l * 2 = twice l in
    let under : x < 2 ^ l * 2 = subst (λ (p : ℕ). x < p) two small in
    let at : m + 1 ≡ (n + 1) * (2 ^ l * 2) + x = e ∙ ap (λ (p : ℕ). (n + 1) * p + x) two in
    subst (Some1 P) (sym (order_cut f h n)) (elim (lt_or_le x (2 ^ l)) [
      | inl low ↦ some_left P (map f (post_order h (2 * n + 1))) (map f (post_order h (2 * n + 2)) ++ f n ∷ []) (some_node P f h (2 * n + 1) l x m (omega arith) low (omega arith) here)
      | inr high ↦
          some_right P (map f (post_order h (2 * n + 1))) (map f (post_order h (2 * n + 2)) ++ f n ∷ [])
          (some_left P (map f (post_order h (2 * n + 2))) (f n ∷ []) (some_node P f h (2 * n + 2) l (x - 2 ^ l) m (omega arith) (omega arith) (omega arith) here))
    ])

-- each node of a tree has a level
level_of : (depth m : ℕ) → m < node_count depth → (l : ℕ) × (x : ℕ) × (l ≤ depth) × (x < 2 ^ l) × (m + 1 ≡ 1 * 2 ^ l + x)
level_of zero m small = (0, 0, omega arith, omega arith, omega arith)
level_of (suc d) m small =
    let more : 2 ^ (suc d + 1) ≡ 2 ^ (d + 1) * 2 =
    (let z : suc d + 1 ≡ suc (d + 1) = omega arith in ap (λ (k : ℕ). 2 ^ k) z) ∙ twice (d + 1) in
    let same : 2 ^ suc d ≡ 2 ^ (d + 1) = let z : suc d ≡ d + 1 = omega arith in ap (λ (k : ℕ). 2 ^ k) z in
    elim (lt_or_le m (2 ^ (d + 1) - 1)) [
      | inl low ↦ let is = level_of d m low in (is.0, is.1, omega arith, is.3, is.4)
      | inr high ↦ (suc d, m + 1 - 2 ^ suc d, omega arith, omega (arith, pow_pos (d + 1)), omega (arith, pow_pos (d + 1)))
    ]

-- the PUT of each node of a tree is among the messages that make it
pub some_put : (P : List ℕ → Type 0) (f : ℕ → List ℕ) (depth m : ℕ) → m < node_count depth → P (f m)
    → Some1 P (map f (post_order depth 0))
some_put P f depth m small here =
    let is = level_of depth m small in
    some_node P f depth 0 is.0 is.1 m is.2 is.3 (is.4 ∙ omega arith) here

pub each_put : (P : List ℕ → Type 0) (f : ℕ → List ℕ) (depth : ℕ) → depth ≤ 24 → ((k : ℕ) → k < 2 ^ 32 → P (f k))
    → Each P (map f (post_order depth 0))
each_put P f depth few h =
    let most : 2 ^ depth ≤ 2 ^ 24 = pow-le-pow_right {n = 2} (omega arith) {i = depth} {j = 24} few in
    each_node P f depth 0 (omega arith) h
