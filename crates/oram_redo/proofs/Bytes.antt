-- The bytes at a place of a content, and what a write puts there.
use Rattle.std.proofs.Common.{◌≡◌, ◌⊎◌, ℕ, zero, suc, ◌+◌, ◌<◌, ◌≤◌, List, [], ◌∷◌, ◌++◌, length, refl, sym, ◌∙◌, ap, subst, arith, length-append}
use Rattle.std.proofs.lemmas.Bool.Decides.{nat_tests}
use Rattle.oram_redo.specs.Content.{Content, bytes_at, Has, put}

pub length-bytes_at : (n at : ℕ) (c : Content) → length (bytes_at n at c) ≡ n
length-bytes_at zero at c = refl
length-bytes_at (suc n) at c = ap suc (length-bytes_at n (suc at) c)

pub bytes_at-add : (m n at : ℕ) (c : Content) → bytes_at (m + n) at c ≡ bytes_at m at c ++ bytes_at n (at + m) c
bytes_at-add zero n at c =
    let e : zero + n ≡ n = omega arith in
    let f : at + zero ≡ at = omega arith in
    ap (λ (k : ℕ). bytes_at k at c) e ∙ ap (λ (k : ℕ). bytes_at n k c) (sym f)
bytes_at-add (suc m) n at c =
    let e : suc m + n ≡ suc (m + n) = omega arith in
    let f : suc at + m ≡ at + suc m = omega arith in
    ap (λ (k : ℕ). bytes_at k at c) e ∙ ap (λ (l : List ℕ). c at ∷ l) (bytes_at-add m n (suc at) c)
    ∙ ap (λ (k : ℕ). c at ∷ (bytes_at m (suc at) c ++ bytes_at n k c)) f

pub bytes_at-agrees : (n at : ℕ) (c d : Content) → ((i : ℕ) → at ≤ i → i < at + n → c i ≡ d i) → bytes_at n at c ≡ bytes_at n at d
bytes_at-agrees zero at c d same = refl
bytes_at-agrees (suc n) at c d same =
    let here : c at ≡ d at = same at (omega arith) (omega arith) in
    let rest : bytes_at n (suc at) c ≡ bytes_at n (suc at) d = bytes_at-agrees n (suc at) c d (λ i low high. same i (omega arith) (omega arith)) in
    cc

pub has_along : (bs : List ℕ) (at at' : ℕ) (c : Content) → at ≡ at' → Has bs at c → Has bs at' c
has_along bs at at' c e has = subst (λ (k : ℕ). Has bs k c) e has

pub has_length : (bs : List ℕ) (at at' n : ℕ) (c : Content) → at ≡ at' → n ≡ length bs → Has bs at c → bytes_at n at' c ≡ bs
has_length bs at at' n c here long has = ap (λ (k : ℕ). bytes_at k at' c) long ∙ has_along bs at at' c here has

pub has_same : (bs : List ℕ) (at : ℕ) (c d : Content) → ((i : ℕ) → at ≤ i → i < at + length bs → d i ≡ c i) → Has bs at c → Has bs at d
has_same bs at c d same has = bytes_at-agrees (length bs) at d c same ∙ has

pub has-append : (xs ys : List ℕ) (at : ℕ) (c : Content) → Has xs at c → Has ys (at + length xs) c → Has (xs ++ ys) at c
has-append xs ys at c front back =
    ap (λ (k : ℕ). bytes_at k at c) (length-append xs ys) ∙ bytes_at-add (length xs) (length ys) at c
    ∙ ap (λ (l : List ℕ). l ++ bytes_at (length ys) (at + length xs) c) front ∙ ap (λ (l : List ℕ). xs ++ l) back

pub has_front : (xs ys : List ℕ) (at : ℕ) (c : Content) → Has (xs ++ ys) at c → Has xs at c
has_front [] ys at c has = refl
has_front (x ∷ xs) ys at c has =
    let rest : Has (xs ++ ys) (suc at) c = cc in
    let front : Has xs (suc at) c = has_front xs ys (suc at) c rest in
    let here : c at ≡ x = cc in
    cc

pub has_back : (xs ys : List ℕ) (at : ℕ) (c : Content) → Has (xs ++ ys) at c → Has ys (at + length xs) c
has_back [] ys at c has = has_along ys at (at + 0) c (omega arith) has
has_back (x ∷ xs) ys at c has =
    let rest : Has (xs ++ ys) (suc at) c = cc in
    has_along ys (suc at + length xs) (at + suc (length xs)) c (omega arith) (has_back xs ys (suc at) c rest)

pub has_one : (xs ys : List ℕ) (at : ℕ) (c : Content) → length xs ≡ length ys → Has xs at c → Has ys at c → xs ≡ ys
has_one xs ys at c e one other = sym one ∙ ap (λ (k : ℕ). bytes_at k at c) e ∙ other

pub has_read : (n at : ℕ) (c : Content) (bs : List ℕ) → bs ≡ bytes_at n at c → Has bs at c
has_read n at c bs is =
    let long : length bs ≡ n = ap length is ∙ length-bytes_at n at c in
    ap (λ (k : ℕ). bytes_at k at c) long ∙ sym is

pub put_outside : (bs : List ℕ) (at : ℕ) (c : Content) (i : ℕ) → (i < at ⊎ at + length bs ≤ i) → put bs at c i ≡ c i
put_outside [] at c i out = refl
put_outside (b ∷ bs) at c i out =
    let tail = put_outside bs (suc at) c i in
    grind (arith, nat_tests)

pub has-put : (bs : List ℕ) (at : ℕ) (c : Content) → Has bs at (put bs at c)
has-put [] at c = refl
has-put (b ∷ bs) at c =
    let here : put (b ∷ bs) at c at ≡ b = grind (arith, nat_tests) in
    let other : (i : ℕ) → suc at ≤ i → i < suc at + length bs → put (b ∷ bs) at c i ≡ put bs (suc at) c i = λ i low high. past i low in
    let rest : Has bs (suc at) (put (b ∷ bs) at c) = has_same bs (suc at) (put bs (suc at) c) (put (b ∷ bs) at c) other (has-put bs (suc at) c) in
    (λ i. here i ∷ rest i)
  where
    past : (i : ℕ) → suc at ≤ i → put (b ∷ bs) at c i ≡ put bs (suc at) c i
    past i low = grind (arith, nat_tests)
