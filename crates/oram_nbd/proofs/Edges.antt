-- A range of bytes whose blocks are read at its edges and then written together.
use Rattle.std.proofs.Common.{◌≡◌, ◌⊎◌, inl, inr, Bool, Result, ℕ, zero, suc, ◌+◌, ◌-◌, ◌*◌, ◌<◌, ◌≤◌, List, [], ◌∷◌, ◌++◌, All, length, take, drop, refl, sym, ap, ◌∙◌, subst, arith, add-zero, append_assoc, length-append, drop_at, length-drop, mul-add}
use Rattle.std.proofs.lemmas.List.{append-nil, drop-drop, drop-take, length-replicate, replicate-append-replicate, take-take, take_all, take_at}
use Rattle.std.proofs.Math.Nat.{mul-le-mul_left, mul-suc}
use Rattle.std.proofs.lemmas.Bool.{cases_lt}
use Rattle.std.proofs.lemmas.List.Elements.{All-cons, All-nil}
use Rattle.std.proofs.lemmas.Result.{on_err_weaker, on_ok_weaker}
use Rattle.oram_nbd.specs.Bytes.{bytes_at, written, zeroes, IsBegun}
use Rattle.oram_nbd.specs.Beside.{Arrays}
use Rattle.oram_nbd.specs.Calls.{SavesAll, Writes}
use Rattle.oram_nbd.specs.Operations.{AreBegun, IsWhole, IsWithin, TouchSomeByte, all_done, len_of, place_of}
use Rattle.oram_nbd.specs.declared.faults.DiskFault.{DiskFault}
use Rattle.oram_nbd.specs.declared.operations.Operation.{Operation}
use Rattle.oram_nbd.specs.declared.operations.Operation.TheVariants.{Write, Zero}
use Rattle.oram_nbd.proofs.Saving.{saves_behind}
use Rattle.oram_nbd.proofs.Splices.{begun_front, begun_none, begun_more, begun_whole, covered_begun, covered_wrote, written_twice}

-- ---- Numbers of bytes and of blocks

pub mul-one : (b : ℕ) → b * 1 ≡ b
mul-one b = omega arith

-- the number of bytes at an edge is that of one block or of none
pub edge_count : (b n : ℕ) → (n ≡ 0) ⊎ (n ≡ b) → (k : ℕ) × (k ≤ 1) × (n ≡ b * k)
edge_count b n (inl none) = (0, omega arith, none ∙ omega arith)
edge_count b n (inr one) = (1, omega arith, one ∙ sym (mul-one b))

pub edge_either : (b len n : ℕ) → (len ≡ 0 → n ≡ 0) → (0 < len → n ≡ b) → (n ≡ 0) ⊎ (n ≡ b)
edge_either b zero n none one = inl (none refl)
edge_either b (suc len) n none one = inr (one (omega arith))

pub block_least : (b n : ℕ) → 0 < n → b ≤ b * n
block_least b n some = subst (λ (k : ℕ). k ≤ b * n) (mul-one b) (mul-le-mul_left b (let least : 1 ≤ n = omega arith in least))

-- the blocks at the end of some blocks
pub place_back : (b first count k : ℕ) → k ≤ first + count → (b * first + b * count) - b * k ≡ b * ((first + count) - k)
place_back b first count k few =
    let whole : ((first + count) - k) + k ≡ first + count = omega arith in
    let both : b * ((first + count) - k) + b * k ≡ b * first + b * count = sym (mul-add b ((first + count) - k) k) ∙ ap (λ (n : ℕ). b * n) whole ∙ mul-add b first count in
    omega (arith, both)

-- two edges fit into the blocks of a range, if a range of one block has none
pub edges_fit : (b count x y n m : ℕ) → 0 < count → (count ≡ 1 → x + y ≡ 0) → (x ≡ 0 → n ≡ 0) → (y ≡ 0 → m ≡ 0) → n ≤ b → m ≤ b → n + m ≤ b * count
edges_fit b zero x y n m some apart none none' few few' = absurd (omega (arith, some))
edges_fit b (suc zero) x y n m some apart none none' few few' =
    let both : x + y ≡ 0 = apart refl in
    let first : n ≡ 0 = none (omega (arith, both)) in
    let second : m ≡ 0 = none' (omega (arith, both)) in
    omega (arith, first, second)
edges_fit b (suc (suc k)) x y n m some apart none none' few few' =
    let one : b * suc (suc k) ≡ b * suc k + b = mul-suc b (suc k) in
    let two : b * suc k ≡ b * k + b = mul-suc b k in
    omega (arith, one, two, few, few')

-- fewer bytes in whole blocks are fewer blocks
fewer_blocks : (b k count : ℕ) → 0 < b → b * k ≤ b * count → k ≤ count
fewer_blocks b k count some few = elim (cases_lt count k) [
  | inl more ↦
      let least : suc count ≤ k = omega arith in
      let long : b * suc count ≤ b * k = mul-le-mul_left b least in
      let next : b * suc count ≡ b * count + b = mul-suc b count in
      absurd (omega (arith, few, long, next, some))
  | inr all ↦ all
]

-- an operation on the first block of a range or on none, on the last one or on none, and on those between
module _ (b first count : ℕ) (op : Operation) where
  pub front_whole : (n : ℕ) → place_of op ≡ b * first → len_of op ≡ n → (n ≡ 0) ⊎ (n ≡ b) → IsWhole b op
  front_whole n place len which = let k = edge_count b n which in record { first = first; count = k.0; place = place; len = len ∙ k.2 }

  pub back_whole : (n : ℕ) → 0 < count → place_of op ≡ (b * first + b * count) - n → len_of op ≡ n → (n ≡ 0) ⊎ (n ≡ b) → IsWhole b op
  back_whole n some place len which =
      let k = edge_count b n which in
      let few : k.0 ≤ first + count = omega (arith, k.1, some) in
      record {
        first = (first + count) - k.0;
        count = k.0;
        place = place ∙ ap (λ (m : ℕ). (b * first + b * count) - m) k.2 ∙ place_back b first count k.0 few;
        len = len ∙ k.2;
      }

  pub between_whole : (n m : ℕ) → 0 < b → n + m ≤ b * count → place_of op ≡ b * first + n → len_of op ≡ ((b * first + b * count) - m) - (b * first + n) → (n ≡ 0) ⊎ (n ≡ b) → (m ≡ 0) ⊎ (m ≡ b) → IsWhole b op
  between_whole n m positive fits place len which which' =
      let k = edge_count b n which in
      let j = edge_count b m which' in
      let both : b * (k.0 + j.0) ≡ b * k.0 + b * j.0 = mul-add b k.0 j.0 in
      let few : k.0 + j.0 ≤ count = fewer_blocks b (k.0 + j.0) count positive (omega (arith, both, fits, k.2, j.2)) in
      let rest : ℕ = count - (k.0 + j.0) in
      let all : (k.0 + j.0) + rest ≡ count = omega (arith, few) in
      let whole : b * count ≡ b * (k.0 + j.0) + b * rest = ap (λ (i : ℕ). b * i) (sym all) ∙ mul-add b (k.0 + j.0) rest in
      record {
        first = first + k.0;
        count = rest;
        place = place ∙ ap (λ (i : ℕ). b * first + i) k.2 ∙ sym (mul-add b first k.0);
        len = len ∙ omega (arith, whole, both, k.2, j.2);
      }

-- ---- What is read at the edges

pub before_at : (bytes : List ℕ) (p s m n : ℕ) → s ≤ m → s ≤ n → take s (bytes_at bytes p m) ≡ take s (bytes_at bytes p n)
before_at bytes p s m n few fewer = take-take s m (drop p bytes) few ∙ sym (take-take s n (drop p bytes) fewer)

-- the last bytes of one range are those of another one that ends at the same place
pub after_at : (bytes : List ℕ) (p q e rest m : ℕ) → rest ≤ m → q + m ≡ p + (e + rest) → drop (m - rest) (bytes_at bytes q m) ≡ drop e (bytes_at bytes p (e + rest))
after_at bytes p q e rest m few same =
    let k : ℕ = m - rest in
    let whole : m ≡ k + rest = omega arith in
    let place : q + k ≡ p + e = omega arith in
    ap (λ (n : ℕ). drop k (take n (drop q bytes))) whole ∙ drop-take k rest (drop q bytes) ∙ ap (take rest) (drop-drop k q bytes ∙ ap (λ (n : ℕ). drop n bytes) place ∙ sym (drop-drop e p bytes))
    ∙ sym (drop-take e rest (drop p bytes))

-- a slice from a place on
pub rest_of : (n : ℕ) (all : List ℕ) → take (length all - n) (drop n all) ≡ drop n all
rest_of n all = take_all (length all - n) (drop n all) (let long : length (drop n all) ≡ length all - n = length-drop n all in omega (arith, long))

-- where a range ends with its blocks, nothing lies after it
pub after_none : (bytes : List ℕ) (p e n : ℕ) → n ≡ e → [] ≡ drop e (bytes_at bytes p n)
after_none bytes p e n same = sym (ap (λ (k : ℕ). drop e (take k (drop p bytes))) (same ∙ sym (add-zero e)) ∙ drop-take e 0 (drop p bytes))

-- ---- Writes of pieces that follow one another

-- a beginning of the first piece
pub begun_left : (bytes later : List ℕ) (p : ℕ) (x y : List ℕ) → IsBegun bytes p x later → IsBegun bytes p (x ++ y) later
begun_left bytes later p x y begun = begun_front bytes later p (length x) x (x ++ y) (omega (arith, length-append x y)) (sym (take_at x y (length x) refl)) begun

-- the first piece, and a beginning of the second one
pub begun_right : (bytes later : List ℕ) (p q : ℕ) (x y : List ℕ) → q ≡ p + length x → p + length (x ++ y) ≤ length bytes → IsBegun (written bytes p x) q y later → IsBegun bytes p (x ++ y) later
begun_right bytes later p q x y place within begun =
    begun_more bytes later p (length x) y (x ++ y) within (omega (arith, length-append x y)) (sym (drop_at x y (length x) refl))
    (subst (λ (l : List ℕ). IsBegun (written bytes p l) (p + length x) y later) (sym (take_at x y (length x) refl)) (subst (λ (n : ℕ). IsBegun (written bytes p x) n y later) place begun))

-- a piece that is written, zeroes, and another piece
module _ (bytes x w : List ℕ) (m p q r : ℕ) (here : q ≡ p + length x) (there : r ≡ q + m) (within : p + (length x + m + length w) ≤ length bytes) where
  abbrev pub three : List Operation
  three = Write p x ∷ Zero q m ∷ Write r w ∷ []

  long : length (zeroes m) ≡ m
  long = length-replicate m 0

  both_long : length (x ++ zeroes m) ≡ length x + m
  both_long = length-append x (zeroes m) ∙ ap (λ (n : ℕ). length x + n) long

  all_long : length ((x ++ zeroes m) ++ w) ≡ length x + m + length w
  all_long = length-append (x ++ zeroes m) w ∙ ap (λ (n : ℕ). n + length w) both_long

  two_done : written (written bytes p x) q (zeroes m) ≡ written bytes p (x ++ zeroes m)
  two_done = ap (λ (n : ℕ). written (written bytes p x) n (zeroes m)) here ∙ written_twice bytes p x (zeroes m) (omega arith)

  last_place : r ≡ p + length (x ++ zeroes m)
  last_place = omega (arith, both_long)

  pub three_done : all_done three bytes ≡ written bytes p ((x ++ zeroes m) ++ w)
  three_done =
      ap (λ (l : List ℕ). written l r w) two_done ∙ ap (λ (n : ℕ). written (written bytes p (x ++ zeroes m)) n w) last_place
      ∙ written_twice bytes p (x ++ zeroes m) w (let fits : p + length (x ++ zeroes m) ≤ length bytes = omega (arith, both_long, within) in fits)

  pub three_begun : (later : List ℕ) → AreBegun three bytes later → IsBegun bytes p ((x ++ zeroes m) ++ w) later
  three_begun later (inl first) = begun_left bytes later p (x ++ zeroes m) w (begun_left bytes later p x (zeroes m) first)
  three_begun later (inr (inl second)) =
      begun_left bytes later p (x ++ zeroes m) w
      (begun_right bytes later p q x (zeroes m) here (let fits : p + length (x ++ zeroes m) ≤ length bytes = omega (arith, both_long, within) in fits) second)
  three_begun later (inr (inr (inl third))) =
      begun_right bytes later p r (x ++ zeroes m) w last_place (let fits : p + length ((x ++ zeroes m) ++ w) ≤ length bytes = omega (arith, all_long, within) in fits)
      (subst (λ (l : List ℕ). IsBegun l r w later) two_done third)
  three_begun later (inr (inr (inr all))) = subst (IsBegun bytes p ((x ++ zeroes m) ++ w)) (sym (all ∙ three_done)) (begun_whole bytes p ((x ++ zeroes m) ++ w))

-- zeroes in three pieces between two edges
pub zeroes_between : (before after : List ℕ) (i m j n : ℕ) → i + m + j ≡ n → ((before ++ zeroes i ++ []) ++ zeroes m) ++ ([] ++ zeroes j ++ after) ≡ before ++ zeroes n ++ after
zeroes_between before after i m j n all =
    ap (λ (l : List ℕ). (l ++ zeroes m) ++ (zeroes j ++ after)) (append-nil (before ++ zeroes i))
    ∙ ap (λ (l : List ℕ). l ++ (zeroes j ++ after)) (append_assoc before (zeroes i) (zeroes m) ∙ ap (λ (l : List ℕ). before ++ l) (replicate-append-replicate i m 0))
    ∙ sym (append_assoc (before ++ zeroes (i + m)) (zeroes j) after)
    ∙ ap (λ (l : List ℕ). l ++ after) (append_assoc before (zeroes (i + m)) (zeroes j) ∙ ap (λ (l : List ℕ). before ++ l) (replicate-append-replicate (i + m) j 0 ∙ ap zeroes all))

-- `a` and `z` are the numbers of bytes of the blocks at the edges of a range: `len` bytes in `count` blocks, with these bytes
-- around them.
pub record AreEdges (b count : ℕ) (before after : List ℕ) (len a z : ℕ) : Type 0 where
  pub all : length before + len + length after ≡ b * count
  pub fits : a + z ≤ b * count
  pub first : length before ≤ a
  pub last : length after ≤ z
  pub which : (a ≡ 0) ⊎ (a ≡ b)
  pub which' : (z ≡ 0) ⊎ (z ≡ b)

pub are_edges : (b k count : ℕ) (before after : List ℕ) (len a z n m : ℕ) → k ≡ b → 0 < count → length before + len + length after ≡ b * count → (count ≡ 1 → length before + length after ≡ 0)
    → n ≡ length before → a ≤ k → n ≤ a → (n ≡ 0 → a ≡ 0) → (0 < n → a ≡ k) → m ≡ length after → z ≤ k → m ≤ z → (m ≡ 0 → z ≡ 0) → (0 < m → z ≡ k) → AreEdges b count before after len a z
are_edges b k count before after len a z n m same some all apart is few least none one is' few' least' none' one' = record {
  all = all;
  fits = edges_fit b count n m a z some (λ single. let both : n + m ≡ 0 = omega (arith, apart single, is, is') in both) none none' (subst (λ (i : ℕ). a ≤ i) same few) (subst (λ (i : ℕ). z ≤ i) same few');
  first = subst (λ (i : ℕ). i ≤ a) is least;
  last = subst (λ (i : ℕ). i ≤ z) is' least';
  which = edge_either b n a none (λ more. one more ∙ same);
  which' = edge_either b m z none' (λ more. one' more ∙ same);
}

-- the operations that make the range zeroes, where blocks have k bytes and the blocks at the edges are written with these bytes
abbrev pub zeroing : ℕ → ℕ → ℕ → ℕ → ℕ → List ℕ → List ℕ → List Operation
zeroing k first count a z x w = Write (k * first) x ∷ Zero (k * first + a) (((k * first + k * count) - z) - (k * first + a)) ∷ Write ((k * first + k * count) - z) w ∷ []

module _ (b first count : ℕ) (before after : List ℕ) (len a z : ℕ) (positive : 0 < b) (some : 0 < count) (edges : AreEdges b count before after len a z) where
  abbrev pub front : List ℕ
  front = before ++ zeroes (a - length before) ++ []

  abbrev pub behind : List ℕ
  behind = [] ++ zeroes (z - length after) ++ after

  abbrev between : ℕ
  between = ((b * first + b * count) - z) - (b * first + a)

  abbrev one : Operation
  one = Write (b * first) front

  abbrev two : Operation
  two = Zero (b * first + a) between

  abbrev last_one : Operation
  last_one = Write ((b * first + b * count) - z) behind

  front_long : length front ≡ a
  front_long =
      ap length (append-nil (before ++ zeroes (a - length before))) ∙ length-append before (zeroes (a - length before)) ∙ ap (λ (i : ℕ). length before + i) (length-replicate (a - length before) 0)
      ∙ (let whole : length before + (a - length before) ≡ a = omega (arith, edges.first) in whole)

  behind_long : length behind ≡ z
  behind_long =
      length-append (zeroes (z - length after)) after ∙ ap (λ (i : ℕ). i + length after) (length-replicate (z - length after) 0)
      ∙ (let whole : (z - length after) + length after ≡ z = omega (arith, edges.last) in whole)

  pub zeroing_whole : All (IsWhole b) (zeroing b first count a z front behind)
  zeroing_whole =
      All-cons (IsWhole b) one (two ∷ last_one ∷ []) (front_whole b first count one a refl front_long edges.which)
      (All-cons (IsWhole b) two (last_one ∷ []) (between_whole b first count two a z positive edges.fits refl refl edges.which edges.which')
      (All-cons (IsWhole b) last_one [] (back_whole b first count last_one z some refl behind_long edges.which') (All-nil (IsWhole b))))

  pub zeroing_within : (size : ℕ) → b * first + b * count ≤ size → All (IsWithin size) (zeroing b first count a z front behind)
  zeroing_within size within =
      All-cons (IsWithin size) one (two ∷ last_one ∷ []) (omega (arith, within, edges.fits, front_long))
      (All-cons (IsWithin size) two (last_one ∷ []) (omega (arith, within, edges.fits))
      (All-cons (IsWithin size) last_one [] (omega (arith, within, edges.fits, behind_long)) (All-nil (IsWithin size))))

  -- they are all blocks of the range, so one of them touches a byte
  pub zeroing_touches : TouchSomeByte (zeroing b first count a z front behind)
  zeroing_touches = elim (cases_lt 0 (length front)) [
    | inl touched ↦ inl touched
    | inr none ↦ elim (cases_lt 0 between) [
      | inl touched ↦ inr (inl touched)
      | inr none' ↦
          let least : b ≤ b * count = block_least b count some in
          inr (inr (inl (let touched : 0 < length behind = omega (arith, least, positive, none, none', edges.fits, front_long, behind_long) in touched)))
    ]
  ]

  module _ (bytes : List ℕ) (within : b * first + b * count ≤ length bytes) where
    here : b * first + a ≡ b * first + length front
    here = ap (λ (i : ℕ). b * first + i) (sym front_long)

    there : (b * first + b * count) - z ≡ (b * first + a) + between
    there = omega (arith, edges.fits)

    room : b * first + (length front + between + length behind) ≤ length bytes
    room = omega (arith, within, edges.fits, front_long, behind_long)

    pieces : ((front ++ zeroes between) ++ behind) ≡ before ++ zeroes len ++ after
    pieces = zeroes_between before after (a - length before) between (z - length after) len (omega (arith, edges.fits, edges.all, edges.first, edges.last))

    pub zeroing_done : all_done (zeroing b first count a z front behind) bytes ≡ written bytes (b * first) (before ++ zeroes len ++ after)
    zeroing_done =
        three_done bytes front behind between (b * first) (b * first + a) ((b * first + b * count) - z) here there room ∙ ap (written bytes (b * first)) pieces

    pub zeroing_begun : (later : List ℕ) → AreBegun (zeroing b first count a z front behind) bytes later → IsBegun bytes (b * first) (before ++ zeroes len ++ after) later
    zeroing_begun later begun =
        subst (λ (l : List ℕ). IsBegun bytes (b * first) l later) pieces
        (three_begun bytes front behind between (b * first) (b * first + a) ((b * first + b * count) - z) here there room later begun)

-- Blocks that have the bytes `before` and `after` around those of a range are written, in place of all blocks of the range.
module _ (bytes before after whole part : List ℕ) (p p' n s at : ℕ) (within : p + n ≤ length bytes) (fits : s + length part ≤ n) (place : p' ≡ p) (here : p + s ≡ at)
    (front : before ≡ take s (bytes_at bytes p n)) (back : after ≡ drop (s + length part) (bytes_at bytes p n)) (put : whole ≡ before ++ part ++ after) where
  put_in : whole ≡ written (bytes_at bytes p n) s part
  put_in = put ∙ ap (λ (l : List ℕ). (l ++ part) ++ after) front ∙ ap (λ (l : List ℕ). (take s (bytes_at bytes p n) ++ part) ++ l) back

  around_wrote : (mid later : List ℕ) → mid ≡ bytes → later ≡ written mid p' whole → later ≡ written bytes at part
  around_wrote mid later same wrote =
      wrote ∙ ap (λ (l : List ℕ). written l p' whole) same
      ∙ covered_wrote bytes (bytes_at bytes p n) whole part p p' n s within fits place refl put_in ∙ ap (λ (k : ℕ). written bytes k part) here

  around_begun : (mid later : List ℕ) → mid ≡ bytes → IsBegun mid p' whole later → IsBegun bytes at part later
  around_begun mid later same begun = subst (λ (k : ℕ). IsBegun bytes k part later) here
      (covered_begun bytes (bytes_at bytes p n) whole part p p' n s within fits place refl put_in later (subst (λ (l : List ℕ). IsBegun l p' whole later) same begun))

  -- the blocks around it were read before, and left the array as it was
  pub around_writes : {T touched : Type 0} (result : Result T DiskFault) (may_lie : Bool) (old mid later : Arrays (List ℕ)) → old.held ≡ bytes → mid.held ≡ old.held → SavesAll touched old mid → 0 < length whole
      → Writes p' whole result may_lie mid later → Writes at part result may_lie old later
  around_writes result may_lie old mid later is same all some w =
      let back = sym is in (
        on_ok_weaker result (λ wrote. around_wrote mid.held later.held (same ∙ is) wrote ∙ ap (λ (l : List ℕ). written l at part) back) w.0,
        on_err_weaker result (λ begun. subst (λ (l : List ℕ). IsBegun l at part later.held) back (around_begun mid.held later.held (same ∙ is) begun)) w.1,
        w.2,
        saves_behind (0 < length part) (λ one x. IsBegun one p' whole x) (λ one x. IsBegun one at part x) later result all (subst (λ (l : List ℕ). IsBegun old.held at part l) (sym same) (begun_none old.held at part)) w.3 some
            (λ x begun. subst (λ (l : List ℕ). IsBegun l at part x) back (around_begun mid.held x (same ∙ is) begun)),
      )
