-- The blocks that a device is asked for, call by call.
use Rattle.std.proofs.Common.{◌≡◌, ℕ, zero, suc, ◌+◌, ◌-◌, ◌*◌, ◌/◌, ◌%◌, ◌<◌, ◌≤◌, add-zero, zero-add, Bool, true, false, not, List, [], ◌∷◌, ◌++◌, All, append_assoc, drop, length, length-append, length-drop, map, take, get_or, refl, sym, ap, ◌∙◌, subst, arith}
use Rattle.std.specs.Prelude.{nat_le, nat_lt, if◌then◌else◌}
use Rattle.std.specs.List.{FoldsTo, flat_map}
use Rattle.std.proofs.Math.Nat.{mul_comm}
use Rattle.std.proofs.lemmas.Bool.{le-ltb, ltb-true}
use Rattle.std.proofs.lemmas.List.{append-nil, drop-drop, drop_all, map-append, take-append-drop, take_all}
use Rattle.std.proofs.lemmas.List.Elements.{All-head, All-map, All-tail}
use Rattle.std.proofs.lemmas.Nat.{div-mul-add}
use Rattle.oram_nbd.specs.Accesses.{AsksFirst, AsksFor, Range, begins_whole, blocks_of, calls_of, cover_len, edges_of, in_first, is_part, numbers_from, one_if, part_calls, range, range_of, whole_blocks}
use Rattle.oram_nbd.specs.declared.operations.Operation.{Operation}
use Rattle.oram_nbd.proofs.Beside.{folds_join}

-- ---- Numbers of blocks

pub numbers_add : (first m n : ℕ) → numbers_from first (m + n) ≡ numbers_from first m ++ numbers_from (first + m) n
numbers_add first zero n = ap (numbers_from first) (zero-add n) ∙ ap (λ (f : ℕ). numbers_from f n) (sym (add-zero first))
numbers_add first (suc m) n =
    let one : suc m + n ≡ suc (m + n) = omega arith in
    let two : suc first + m ≡ first + suc m = omega arith in
    ap (numbers_from first) one ∙ ap (λ (l : List ℕ). first ∷ l) (numbers_add (suc first) m n ∙ ap (λ (f : ℕ). numbers_from (suc first) m ++ numbers_from f n) two)

pub mul_div : (b x : ℕ) → 0 < b → (b * x) / b ≡ x
mul_div b x some = ap (λ (n : ℕ). n / b) (mul_comm b x ∙ sym (add-zero (x * b))) ∙ div-mul-add x b 0 some

pub same_numbers : (a a' n n' : ℕ) → a ≡ a' → n ≡ n' → numbers_from a n ≡ numbers_from a' n'
same_numbers a a' n n' e e' = ap (λ (x : ℕ). numbers_from x n) e ∙ ap (numbers_from a') e'

-- the blocks of one operation, by their numbers
pub whole_one : (b at len first count : ℕ) → 0 < b → at ≡ b * first → len ≡ b * count → numbers_from (at / b) (len / b) ≡ numbers_from first count
whole_one b at len first count some place long =
    same_numbers (at / b) first (len / b) count (ap (λ (n : ℕ). n / b) place ∙ mul_div b first some) (ap (λ (n : ℕ). n / b) long ∙ mul_div b count some)

-- an edge is one block, or none
pub edge_is : (b len e : ℕ) → (len ≡ 0 → e ≡ 0) → (0 < len → e ≡ b) → e ≡ b * one_if len
edge_is b zero e none one = let is = none refl in omega (arith, is)
edge_is b (suc n) e none one = let is : e ≡ b = one (omega arith) in omega (arith, is)

pub one_most : (n : ℕ) → one_if n ≤ 1
one_most zero = omega arith
one_most (suc n) = omega arith

pub one_none : (n : ℕ) → n ≡ 0 → one_if n ≡ 0
one_none n none = ap one_if none

-- where the last block begins, or where the blocks end
pub back_at : (b first count o : ℕ) → o ≤ first + count → (b * first + b * count) - b * o ≡ b * ((first + count) - o)
back_at b first count o few =
    let t : ℕ = (first + count) - o in
    let split : first + count ≡ t + o = omega (arith, few) in
    let all : b * (first + count) ≡ b * (t + o) = ap (λ (n : ℕ). b * n) split in
    omega (arith, all)

-- the blocks that `read_edges` asks for, where there is more than one
pub two_edges : (b first count before after at len last more : ℕ) → 0 < b → 1 < count → at ≡ b * first → len ≡ b * one_if before → last ≡ (b * first + b * count) - b * one_if after → more ≡ b * one_if after
    → numbers_from (at / b) (len / b) ++ numbers_from (last / b) (more / b) ≡ edges_of first count before after
two_edges b first count before after at len last more some two place long place' long' =
    let few : one_if after ≤ first + count = omega (arith, two, one_most after) in
    let front = whole_one b at len first (one_if before) some place long in
    let back = whole_one b last more ((first + count) - one_if after) (one_if after) some (place' ∙ back_at b first count (one_if after) few) long' in
    let apart : nat_le count 1 ≡ false = grind arith in
    ap (λ (l : List ℕ). l ++ numbers_from (last / b) (more / b)) front ∙ ap (λ (l : List ℕ). numbers_from first (one_if before) ++ l) back
    ∙ ap (λ (t : Bool). if t then first ∷ [] else numbers_from first (one_if before) ++ numbers_from ((first + count) - one_if after) (one_if after)) (sym apart)

pub one_edge : (first count before after : ℕ) → count ≡ 1 → first ∷ [] ≡ edges_of first count before after
one_edge first count before after is =
    let alone : nat_le count 1 ≡ true = grind arith in
    ap (λ (t : Bool). if t then first ∷ [] else numbers_from first (one_if before) ++ numbers_from ((first + count) - one_if after) (one_if after)) (sym alone)

-- the blocks of a range that is zeroed between its edges
pub zeroed_blocks : (b first count o p at a mid len last z : ℕ) → 0 < b → o + p ≤ count → at ≡ b * first → a ≡ b * o → mid ≡ b * first + b * o → len ≡ ((b * first + b * count) - b * p) - (b * first + b * o) → last ≡ (b * first + b * count) - b * p
    → z ≡ b * p → numbers_from (at / b) (a / b) ++ (numbers_from (mid / b) (len / b) ++ (numbers_from (last / b) (z / b) ++ [])) ≡ numbers_from first count
zeroed_blocks b first count o p at a mid len last z some fits e1 e2 e3 e4 e5 e6 =
    let m : ℕ = count - (o + p) in
    let split : count ≡ o + (m + p) = omega (arith, fits) in
    let all : b * count ≡ b * (o + (m + p)) = ap (λ (n : ℕ). b * n) split in
    let f2 : mid ≡ b * (first + o) = omega (arith, e3) in
    let f3 : len ≡ b * m = omega (arith, e4, all) in
    let f4 : last ≡ b * (first + o + m) = omega (arith, e5, all) in
    ap (λ (l : List ℕ). numbers_from (at / b) (a / b) ++ (numbers_from (mid / b) (len / b) ++ l)) (append-nil (numbers_from (last / b) (z / b)) ∙ whole_one b last z (first + o + m) p some f4 e6)
    ∙ ap (λ (l : List ℕ). numbers_from (at / b) (a / b) ++ (l ++ numbers_from (first + o + m) p)) (whole_one b mid len (first + o) m some f2 f3)
    ∙ ap (λ (l : List ℕ). l ++ (numbers_from (first + o) m ++ numbers_from (first + o + m) p)) (whole_one b at a first o some e1 e2)
    ∙ ap (λ (l : List ℕ). numbers_from first o ++ l) (sym (numbers_add (first + o) m p))
    ∙ sym (numbers_add first o (m + p)) ∙ ap (numbers_from first) (sym split)

-- a range of one block has edges only if it is all of it
pub edges_fit : (before after count : ℕ) → 0 < count → (count ≡ 1 → before + after ≡ 0) → one_if before + one_if after ≤ count
edges_fit zero after count some apart = omega (arith, some, one_most after)
edges_fit (suc n) zero count some apart = omega (arith, some)
edges_fit (suc n) (suc m) count some apart = by_count count some apart
  where
    by_count : (c : ℕ) → 0 < c → (c ≡ 1 → suc n + suc m ≡ 0) → 1 + 1 ≤ c
    by_count zero more one = absurd (omega (arith, more))
    by_count (suc zero) more one = absurd (let none : suc n + suc m ≡ 0 = one refl in omega (arith, none))
    by_count (suc (suc c)) more one = omega arith

-- a block that is filled up behind its first bytes, and before its last ones
pub filled_front : (before zeros : List ℕ) (n : ℕ) → length zeros ≡ n - length before → length before ≤ n → length (before ++ zeros ++ []) ≡ n
filled_front before zeros n long few = length-append (before ++ zeros) [] ∙ (let both : length (before ++ zeros) ≡ length before + length zeros = length-append before zeros in omega (arith, both, long, few))

pub filled_back : (after zeros : List ℕ) (n : ℕ) → length zeros ≡ n - length after → length after ≤ n → length ([] ++ zeros ++ after) ≡ n
filled_back after zeros n long few = let both : length (zeros ++ after) ≡ length zeros + length after = length-append zeros after in omega (arith, both, long, few)

-- ---- Parts

no_rest : (b x : ℕ) → 0 < b → (b * x) % b ≡ 0
no_rest b x some =
    let d : (b * x) / b ≡ x = mul_div b x some in
    let all : b * ((b * x) / b) + (b * x) % b ≡ b * x = omega arith in
    let front : b * ((b * x) / b) ≡ b * x = ap (λ (n : ℕ). b * n) d in
    omega (arith, all, front)

-- a range that isn't one of whole blocks has bytes beside it in its first block or in its last one
pub part_has_edge : (b at len start count : ℕ) → 0 < b → is_part b (range at len) ≡ true → start ≡ at % b → start + len ≤ b * count → 0 < start + (b * count - (start + len))
part_has_edge b at len start count some part is covers = by_cases (start + (b * count - (start + len))) refl
  where
    by_cases : (n : ℕ) → start + (b * count - (start + len)) ≡ n → 0 < start + (b * count - (start + len))
    by_cases (suc n) e = omega (arith, e)
    by_cases zero e =
        let odd : 0 < at % b + len % b = ltb-true 0 (at % b + len % b) part in
        let long : len ≡ b * count = omega (arith, e, covers) in
        let none : len % b ≡ 0 = ap (λ (n : ℕ). n % b) long ∙ no_rest b count some in
        let here : at % b ≡ 0 = omega (arith, e, is) in
        absurd (omega (arith, odd, none, here))

pub part_calls_are : (b at len first count start : ℕ) → first ≡ at / b → count ≡ cover_len b at len → start ≡ at % b
    → edges_of first count start (b * count - (start + len)) ∷ numbers_from first count ∷ [] ≡ part_calls b (range at len)
part_calls_are b at len first count start e1 e2 e3 =
    ap (λ (f : ℕ). edges_of f count start (b * count - (start + len)) ∷ numbers_from f count ∷ []) e1
    ∙ ap (λ (n : ℕ). edges_of (at / b) n start (b * n - (start + len)) ∷ numbers_from (at / b) n ∷ []) e2
    ∙ ap (λ (s : ℕ). edges_of (at / b) (cover_len b at len) s (b * cover_len b at len - (s + len)) ∷ numbers_from (at / b) (cover_len b at len) ∷ []) e3

-- ---- Calls

module _ {D : Type 0} (asked : D → List ℕ → D → Type 0) where
  pub asks_one : (old new : D) (blocks blocks' : List ℕ) → blocks ≡ blocks' → asked old blocks new → AsksFor asked old (blocks' ∷ []) new
  asks_one old new blocks blocks' same h = (new, subst (λ (l : List ℕ). asked old l new) same h, refl)

  pub one_asked : (old new : D) (blocks : List ℕ) → AsksFor asked old (blocks ∷ []) new → asked old blocks new
  one_asked old new blocks h = subst (λ (d : D). asked old blocks d) h.2 h.1

  pub asks_two : (old mid new : D) (first second : List ℕ) (calls : List (List ℕ)) → AsksFor asked old (first ∷ []) mid → AsksFor asked mid (second ∷ []) new → first ∷ second ∷ [] ≡ calls → AsksFor asked old calls new
  asks_two old mid new first second calls one two same =
      subst (λ (l : List (List ℕ)). AsksFor asked old l new) same (folds_join {P = D} {A = List ℕ} asked (first ∷ []) (second ∷ []) old mid new one two)

  -- no operation has been carried out
  pub asks_none : (block : ℕ) (ops : List Operation) (n : ℕ) (old : D) → n ≡ 0 → AsksFirst asked block ops n old old
  asks_none block ops n old none = record { calls = []; made = refl; left = ap (λ (k : ℕ). calls_of block (map range_of (drop k ops))) (sym none) }

  -- the next ones have
  pub asks_more : (block block' : ℕ) (ops : List Operation) (n k k' m : ℕ) (old mid new : D) → block' ≡ block → k ≡ n → k' ≡ n + m → AsksFirst asked block ops n old mid → AsksFirst asked block' (take (length ops - k) (drop k ops)) m mid new → AsksFirst asked block ops k' old new
  asks_more block block' ops n k k' m old mid new same here there a b' =
      let behind : take (length ops - k) (drop k ops) ≡ drop k ops = take_all (length ops - k) (drop k ops) (let long : length (drop k ops) ≡ length ops - k = length-drop k ops in omega (arith, long)) in
      let b : AsksFirst asked block' (drop k ops) m mid new = subst (λ (l : List Operation). AsksFirst asked block' l m mid new) behind b' in
      let same_left : calls_of block (map range_of (drop k ops)) ≡ b.calls ++ calls_of block (map range_of (drop m (drop k ops))) =
      subst (λ (x : ℕ). calls_of x (map range_of (drop k ops)) ≡ b.calls ++ calls_of x (map range_of (drop m (drop k ops)))) same b.left in
      let further : drop m (drop k ops) ≡ drop k' ops = drop-drop m k ops ∙ ap (λ (x : ℕ). drop x ops) (ap (λ (x : ℕ). x + m) here ∙ sym there) in
      record {
        calls = a.calls ++ b.calls;
        made = folds_join {P = D} {A = List ℕ} asked a.calls b.calls old mid new a.made b.made;
        left = a.left ∙ ap (λ (x : ℕ). a.calls ++ calls_of block (map range_of (drop x ops))) (sym here) ∙ ap (λ (l : List (List ℕ)). a.calls ++ l) same_left
            ∙ ap (λ (l : List Operation). a.calls ++ (b.calls ++ calls_of block (map range_of l))) further ∙ sym (append_assoc a.calls b.calls (calls_of block (map range_of (drop k' ops))));
      }

  -- all of them have
  pub asks_all : (block : ℕ) (ops : List Operation) (n : ℕ) (old new : D) → length ops ≤ n → AsksFirst asked block ops n old new → AsksFor asked old (calls_of block (map range_of ops)) new
  asks_all block ops n old new end a =
      let left : calls_of block (map range_of ops) ≡ a.calls = a.left ∙ ap (λ (l : List Operation). a.calls ++ calls_of block (map range_of l)) (drop_all n ops end) ∙ append-nil a.calls in
      subst (λ (l : List (List ℕ)). AsksFor asked old l new) (sym left) a.made

-- ---- The calls of a list of ranges

calls_whole : (block : ℕ) (x : Range) (rest : List Range) → is_part block x ≡ false → calls_of block (x ∷ rest) ≡ in_first (begins_whole block rest) (whole_blocks block x) (calls_of block rest)
calls_whole block x rest e = ap (λ (t : Bool). if t then part_calls block x ++ calls_of block rest else in_first (begins_whole block rest) (whole_blocks block x) (calls_of block rest)) e

calls_part : (block : ℕ) (x : Range) (rest : List Range) → is_part block x ≡ true → calls_of block (x ∷ rest) ≡ part_calls block x ++ calls_of block rest
calls_part block x rest e = ap (λ (t : Bool). if t then part_calls block x ++ calls_of block rest else in_first (begins_whole block rest) (whole_blocks block x) (calls_of block rest)) e

whole_call : (block : ℕ) (x : Range) (xs ys : List Range) → is_part block x ≡ false → All (λ r. is_part block r ≡ false) xs → begins_whole block ys ≡ false
    → calls_of block (x ∷ (xs ++ ys)) ≡ flat_map (whole_blocks block) (x ∷ xs) ∷ calls_of block ys
whole_call block x [] ys e all next =
    calls_whole block x ys e ∙ ap (λ (t : Bool). in_first t (whole_blocks block x) (calls_of block ys)) next ∙ ap (λ (l : List ℕ). l ∷ calls_of block ys) (sym (append-nil (whole_blocks block x)))
whole_call block x (y ∷ xs) ys e all next =
    let here : is_part block y ≡ false = All-head (λ r. is_part block r ≡ false) y xs all in
    let rest = whole_call block y xs ys here (All-tail (λ r. is_part block r ≡ false) y xs all) next in
    calls_whole block x (y ∷ (xs ++ ys)) e ∙ ap (λ (t : Bool). in_first (not t) (whole_blocks block x) (calls_of block (y ∷ (xs ++ ys)))) here ∙ ap (in_first true (whole_blocks block x)) rest

blocks_are : (block : ℕ) (ops : List Operation) → flat_map (whole_blocks block) (map range_of ops) ≡ blocks_of block ops
blocks_are block [] = refl
blocks_are block (op ∷ ops) = ap (λ (l : List ℕ). whole_blocks block (range_of op) ++ l) (blocks_are block ops)

ranges_whole : (block : ℕ) (ops : List Operation) → All (λ op. is_part block (range_of op) ≡ false) ops → All (λ r. is_part block r ≡ false) (map range_of ops)
ranges_whole block ops all = All-map (λ r. is_part block r ≡ false) range_of ops all

-- the operations on whole blocks at the front are one call
front_call : (block : ℕ) (xs ys : List Operation) → 0 < length xs → All (λ op. is_part block (range_of op) ≡ false) xs → begins_whole block (map range_of ys) ≡ false
    → calls_of block (map range_of (xs ++ ys)) ≡ blocks_of block xs ∷ calls_of block (map range_of ys)
front_call block [] ys some all next = absurd (omega (arith, some))
front_call block (x ∷ xs) ys some all next =
    ap (λ (l : List Range). calls_of block (range_of x ∷ l)) (map-append range_of xs ys)
    ∙ whole_call block (range_of x) (map range_of xs) (map range_of ys) (All-head (λ op. is_part block (range_of op) ≡ false) x xs all)
    (ranges_whole block xs (All-tail (λ op. is_part block (range_of op) ≡ false) x xs all)) next
    ∙ ap (λ (l : List ℕ). l ∷ calls_of block (map range_of ys)) (blocks_are block (x ∷ xs))

pub asks_front : {D : Type 0} (asked : D → List ℕ → D → Type 0) (block : ℕ) (ops : List Operation) (n m : ℕ) (old new : D) → 0 < length (take n ops) → m ≡ n → All (λ op. is_part block (range_of op) ≡ false) (take n ops)
    → begins_whole block (map range_of (drop n ops)) ≡ false → asked old (blocks_of block (take n ops)) new → AsksFirst asked block ops m old new
asks_front asked block ops n m old new some same all next h = record {
  calls = blocks_of block (take n ops) ∷ [];
  made = (new, h, refl);
  left = ap (λ (l : List Operation). calls_of block (map range_of l)) (sym (take-append-drop n ops)) ∙ front_call block (take n ops) (drop n ops) some all next
      ∙ ap (λ (k : ℕ). blocks_of block (take n ops) ∷ calls_of block (map range_of (drop k ops))) (sym same);
}

-- the first operation isn't on whole blocks, and makes its own calls
pub first_is_part : (block : ℕ) (ops : List Operation) (op : Operation) → 0 < length ops → op ≡ get_or ops 0 op → begins_whole block (map range_of (drop 0 ops)) ≡ false → is_part block (range_of op) ≡ true
first_is_part block [] op some is next = absurd (omega (arith, some))
first_is_part block (x ∷ ops) op some is next = not_false (is_part block (range_of op)) (ap (λ (o : Operation). not (is_part block (range_of o))) is ∙ next)
  where
    not_false : (t : Bool) → not t ≡ false → t ≡ true
    not_false true e = refl
    not_false false e = absurd cc

pub asks_part : {D : Type 0} (asked : D → List ℕ → D → Type 0) (block : ℕ) (ops : List Operation) (m : ℕ) (op : Operation) (old new : D) → 0 < length ops → m ≡ 1 → op ≡ get_or ops 0 op → is_part block (range_of op) ≡ true
    → AsksFor asked old (part_calls block (range_of op)) new → AsksFirst asked block ops m old new
asks_part asked block [] m op old new some one is part h = absurd (omega (arith, some))
asks_part asked block (x ∷ ops) m op old new some one is part h = record {
  calls = part_calls block (range_of op);
  made = h;
  left = ap (λ (o : Operation). calls_of block (range_of o ∷ map range_of ops)) (sym is) ∙ calls_part block (range_of op) (map range_of ops) part
      ∙ ap (λ (k : ℕ). part_calls block (range_of op) ++ calls_of block (map range_of (drop k (x ∷ ops)))) (sym one);
}
