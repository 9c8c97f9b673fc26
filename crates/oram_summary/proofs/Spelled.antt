-- Numbers and blocks, one after the other.
use Rattle.std.proofs.Common.{◌≡◌, ℕ, zero, suc, ◌+◌, ◌*◌, ◌<◌, ◌≤◌, ◌^◌, List, [], ◌∷◌, ◌++◌, length, take, get_or, refl, sym, ap, ◌∙◌, subst, arith, All, append_assoc, append-nil, length-append}
use Rattle.std.proofs.lemmas.Grind.{flat_map-append}
use Rattle.std.proofs.lemmas.List.{take_more_set}
use Rattle.std.proofs.lemmas.List.Elements.{All-push}
use Rattle.std.proofs.Math.Nat.{mul-le-mul_right}
use Rattle.std.proofs.Math.ListN.{set}
use Rattle.std.specs.Int.{w32, w64, to_be_bytes}
use Rattle.std.specs.List.{flat_map}
use Rattle.oram_bucket.specs.Cell.{Cell}
use Rattle.oram_summary.specs.Stash.{HasNumbers}
use Rattle.oram_summary.specs.Text.{block_text}
use Rattle.oram_checkpoints.proofs.Fronts.{long_same, parts_same, short_same}

-- one more number is read
pub numbers_more : (text before after numbers : List ℕ) (i n : ℕ) → i < length numbers → text ≡ flat_map (to_be_bytes w64) (take i numbers) ++ before → before ≡ to_be_bytes w64 n ++ after
    → text ≡ flat_map (to_be_bytes w64) (take (i + 1) (set numbers i n)) ++ after
numbers_more text before after numbers i n within front next =
    let more : flat_map (to_be_bytes w64) (take (i + 1) (set numbers i n)) ≡ flat_map (to_be_bytes w64) (take i numbers) ++ to_be_bytes w64 n =
    ap (flat_map (to_be_bytes w64)) (take_more_set numbers i n within)
    ∙ flat_map-append (to_be_bytes w64) (take i numbers) (n ∷ [])
    ∙ ap (λ (b : List ℕ). flat_map (to_be_bytes w64) (take i numbers) ++ b) (append-nil (to_be_bytes w64 n)) in
    front ∙ ap (λ (b : List ℕ). flat_map (to_be_bytes w64) (take i numbers) ++ b) next
    ∙ sym (append_assoc (flat_map (to_be_bytes w64) (take i numbers)) (to_be_bytes w64 n) after) ∙ ap (λ (b : List ℕ). b ++ after) (sym more)

-- one more number fits
pub fit_more : (numbers : List ℕ) (i n : ℕ) → ((k : ℕ) → get_or numbers k 0 < 2 ^ 64) → n < 2 ^ 64 → (k : ℕ) → get_or (set numbers i n) k 0 < 2 ^ 64
fit_more [] i n all one k = all k
fit_more (x ∷ xs) zero n all one zero = one
fit_more (x ∷ xs) zero n all one (suc k) = all (suc k)
fit_more (x ∷ xs) (suc i) n all one zero = all 0
fit_more (x ∷ xs) (suc i) n all one (suc k) = fit_more xs i n (λ j. all (suc j)) one k

-- numbers that are as many, and what follows them, can be told apart
pub numbers_same : (xs ys r t : List ℕ) → length xs ≡ length ys → ((i : ℕ) → get_or xs i 0 < 2 ^ 64) → ((i : ℕ) → get_or ys i 0 < 2 ^ 64)
    → flat_map (to_be_bytes w64) xs ++ r ≡ flat_map (to_be_bytes w64) ys ++ t → (xs ≡ ys) × (r ≡ t)
numbers_same [] [] r t long fit_x fit_y e = (refl, e)
numbers_same [] (y ∷ ys) r t long fit_x fit_y e = absurd (omega arith)
numbers_same (x ∷ xs) [] r t long fit_x fit_y e = absurd (omega arith)
numbers_same (x ∷ xs) (y ∷ ys) r t long fit_x fit_y e =
    let first = long_same x y (flat_map (to_be_bytes w64) xs ++ r) (flat_map (to_be_bytes w64) ys ++ t) (fit_x 0) (fit_y 0)
    (sym (append_assoc (to_be_bytes w64 x) (flat_map (to_be_bytes w64) xs) r) ∙ e ∙ append_assoc (to_be_bytes w64 y) (flat_map (to_be_bytes w64) ys) t) in
    let rest = numbers_same xs ys r t (omega arith) (λ i. fit_x (suc i)) (λ i. fit_y (suc i)) first.1 in
    (ap (λ (n : ℕ). n ∷ xs) first.0 ∙ ap (λ (ns : List ℕ). y ∷ ns) rest.0, rest.1)

-- a block's text has eight bytes more than its data
pub length-block : (block : Cell) (block_bytes : ℕ) → length block.content ≡ block_bytes → length (block_text block) ≡ 8 + block_bytes
length-block block block_bytes whole = omega (arith, whole)

-- one more block is read
pub blocks_more : (bytes before after : List ℕ) (blocks : List Cell) (block : Cell) (more : List Cell) → bytes ≡ flat_map block_text blocks ++ before → before ≡ block_text block ++ after → more ≡ blocks ++ block ∷ []
    → bytes ≡ flat_map block_text more ++ after
blocks_more bytes before after blocks block more front next is =
    let last : flat_map block_text (blocks ++ block ∷ []) ≡ flat_map block_text blocks ++ block_text block =
    flat_map-append block_text blocks (block ∷ []) ∙ ap (λ (b : List ℕ). flat_map block_text blocks ++ b) (append-nil (block_text block)) in
    front ∙ ap (λ (b : List ℕ). flat_map block_text blocks ++ b) next
    ∙ sym (append_assoc (flat_map block_text blocks) (block_text block) after)
    ∙ ap (λ (b : List ℕ). b ++ after) (sym last) ∙ ap (λ (bs : List Cell). flat_map block_text bs ++ after) (sym is)

pub all_more : (P : Cell → Type 0) (front : List Cell) (last : Cell) (more : List Cell) → All P front → P last → more ≡ front ++ last ∷ [] → All P more
all_more P front last more all one is = subst (All P) (sym is) (All-push P front last all one)

-- while a block is left to be read, there are the bytes of one
pub room_left : (rest done count width total : ℕ) → done < count → rest + done * width ≡ total → count * width ≤ total → width ≤ rest
room_left rest done count width total less sum enough =
    let most : (done + 1) * width ≤ count * width = mul-le-mul_right width (omega (arith, less)) in
    let next : (done + 1) * width ≡ done * width + width = grind arith in
    omega (arith, most, next, sum, enough)

-- the first of the blocks, and the others
all_head : (P : Cell → Type 0) (x : Cell) (xs : List Cell) → All P (x ∷ xs) → P x
all_head P x xs all = all 0 x (omega arith)

all_tail : (P : Cell → Type 0) (x : Cell) (xs : List Cell) → All P (x ∷ xs) → All P xs
all_tail P x xs all = λ k d within. all (suc k) d (omega arith)

-- how long the texts of blocks are
pub length-blocks : (blocks : List Cell) (block_bytes : ℕ) → All (λ c. length c.content ≡ block_bytes) blocks → length (flat_map block_text blocks) ≡ length blocks * (8 + block_bytes)
length-blocks [] block_bytes whole = omega arith
length-blocks (x ∷ xs) block_bytes whole =
    let first = length-block x block_bytes (all_head (λ c. length c.content ≡ block_bytes) x xs whole) in
    let rest = length-blocks xs block_bytes (all_tail (λ c. length c.content ≡ block_bytes) x xs whole) in
    let next : suc (length xs) * (8 + block_bytes) ≡ (8 + block_bytes) + length xs * (8 + block_bytes) = grind arith in
    omega (arith, length-append (block_text x) (flat_map block_text xs), first, rest, next)

-- two blocks with as many bytes, and what follows them, can be told apart
block_same : (x y : Cell) (block_bytes : ℕ) (r t : List ℕ) → length x.content ≡ block_bytes → length y.content ≡ block_bytes → HasNumbers x → HasNumbers y → block_text x ++ r ≡ block_text y ++ t → (x ≡ y) × (r ≡ t)
block_same x y block_bytes r t whole_x whole_y fit_x fit_y e =
    let spread = λ (b : Cell) (z : List ℕ). append_assoc (to_be_bytes w32 b.address) (to_be_bytes w32 b.leaf ++ b.content) z
    ∙ ap (λ (zs : List ℕ). to_be_bytes w32 b.address ++ zs) (append_assoc (to_be_bytes w32 b.leaf) b.content z) in
    let address = short_same x.address y.address (to_be_bytes w32 x.leaf ++ (x.content ++ r)) (to_be_bytes w32 y.leaf ++ (y.content ++ t)) fit_x.address fit_y.address (sym (spread x r) ∙ e ∙ spread y t) in
    let leaf = short_same x.leaf y.leaf (x.content ++ r) (y.content ++ t) fit_x.leaf fit_y.leaf address.1 in
    let content = parts_same x.content r y.content t (whole_x ∙ sym whole_y) leaf.1 in (
      ap (λ (n : ℕ). record { address = n; leaf = x.leaf; content = x.content }) address.0
          ∙ ap (λ (n : ℕ). record { address = y.address; leaf = n; content = x.content }) leaf.0
          ∙ ap (λ (bs : List ℕ). record { address = y.address; leaf = y.leaf; content = bs }) content.0,
      content.1,
    )

-- blocks that are as many, and what follows them, can be told apart
pub blocks_same : (xs ys : List Cell) (block_bytes : ℕ) (r t : List ℕ) → length xs ≡ length ys → All (λ c. length c.content ≡ block_bytes) xs → All (λ c. length c.content ≡ block_bytes) ys
    → All HasNumbers xs → All HasNumbers ys → flat_map block_text xs ++ r ≡ flat_map block_text ys ++ t → (xs ≡ ys) × (r ≡ t)
blocks_same [] [] block_bytes r t long whole_x whole_y fit_x fit_y e = (refl, e)
blocks_same [] (y ∷ ys) block_bytes r t long whole_x whole_y fit_x fit_y e = absurd (omega arith)
blocks_same (x ∷ xs) [] block_bytes r t long whole_x whole_y fit_x fit_y e = absurd (omega arith)
blocks_same (x ∷ xs) (y ∷ ys) block_bytes r t long whole_x whole_y fit_x fit_y e =
    let W : Cell → Type 0 = λ c. length c.content ≡ block_bytes in
    let first = block_same x y block_bytes (flat_map block_text xs ++ r) (flat_map block_text ys ++ t) (all_head W x xs whole_x) (all_head W y ys whole_y)
    (all_head HasNumbers x xs fit_x) (all_head HasNumbers y ys fit_y)
    (sym (append_assoc (block_text x) (flat_map block_text xs) r) ∙ e ∙ append_assoc (block_text y) (flat_map block_text ys) t) in
    let rest = blocks_same xs ys block_bytes r t (omega arith) (all_tail W x xs whole_x) (all_tail W y ys whole_y) (all_tail HasNumbers x xs fit_x) (all_tail HasNumbers y ys fit_y) first.1 in
    (ap (λ (c : Cell). c ∷ xs) first.0 ∙ ap (λ (cs : List Cell). y ∷ cs) rest.0, rest.1)
