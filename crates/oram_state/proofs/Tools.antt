-- What a reader takes from the front of a text, and what was written there.
use Rattle.std.proofs.Common.{◌≡◌, ℕ, suc, ◌+◌, ◌^◌, ◌<◌, ◌≤◌, Bool, true, false, cond, ltb, List, [], ◌∷◌, ◌++◌, length, get_or, take, drop, Result, Ok, Err, refl, sym, ap, ◌∙◌, append_assoc, arith, inl, inr}
use Rattle.std.specs.Prelude.{IfOk}
use Rattle.std.specs.Int.{Width, w16, w32, w64, byte_len, from_be_bytes}
use Rattle.std.proofs.lemmas.Bool.{cases_lt, ltb-false, le-ltb}
use Rattle.std.proofs.lemmas.List.{take_at, drop_at, take-append-drop, length-append, length-take, get_or-drop, get_or-take, get_or_past}
use Rattle.std.proofs.lemmas.Nat.{be_bytes_2, be_bytes_4, be_bytes_8, from_be_bytes-to_be_bytes_2, from_be_bytes-to_be_bytes_4, from_be_bytes-to_be_bytes_8}
use Rattle.oram_state.specs.declared.fault.StateFault.{StateFault}
use Rattle.oram_state.specs.declared.fault.StateFault.TheVariants.{Content}
use Rattle.oram_state.specs.StateBytes.{half, short, long}
use Rattle.oram_state.specs.WellSized.{IsShort, IsLong}
use Rattle.oram_state.specs.Parser.{◌>>=◌, next_byte, next_bytes, next_number, unless}

abbrev pub IsBytes : List ℕ → Type 0
IsBytes bytes = (i : ℕ) → get_or bytes i 0 < 256

pub IsBytes-drop : (n : ℕ) (bytes : List ℕ) → IsBytes bytes → IsBytes (drop n bytes)
IsBytes-drop n bytes h i = rw get_or-drop (h (n + i))

pub IsBytes-take : (n : ℕ) (bytes : List ℕ) → IsBytes bytes → IsBytes (take n bytes)
IsBytes-take n bytes h i =
    elim (cases_lt i n) [
      | inl lt ↦ rw (get_or-take n bytes i 0 lt) (h i)
      | inr le ↦ rw (get_or_past (take n bytes) i 0 (omega (arith, length-take n bytes))) (omega arith)
    ]

-- a text consists of what the reader took and the rest, and both are bytes
pub record Took (text taken rest : List ℕ) : Type 0 where
  pub parts : text ≡ taken ++ rest
  pub bytes : IsBytes rest

pub took_both : {a x b y c : List ℕ} → Took a x b → Took b y c → Took a (x ++ y) c
took_both {a = a} {x = x} {b = b} {y = y} {c = c} p q = record { parts = p.parts ∙ ap (λ (t : List ℕ). x ++ t) q.parts ∙ sym (append_assoc x y c); bytes = q.bytes }

-- ---- steps

-- a property after a step that didn't fail
pub then_ok : {A B : Type 0} (P : A → Type 0) (Q : B → Type 0) (r : Result A StateFault) (f : A → Result B StateFault) → IfOk r P → ((a : A) → P a → IfOk (f a) Q) → IfOk (r >>= f) Q
then_ok P Q (Ok a) f p q = q a p
then_ok P Q (Err why) f p q = tt

-- two properties of a result that wasn't an error
pub if_both : {T E : Type 0} (r : Result T E) (P Q R : T → Type 0) → ((x : T) → P x → Q x → R x) → IfOk r P → IfOk r Q → IfOk r R
if_both (Ok x) P Q R both p q = both x p q
if_both (Err e) P Q R both p q = tt

-- a step whose result is known
pub goes : {A B : Type 0} (r : Result A StateFault) (a : A) (f : A → Result B StateFault) (y : Result B StateFault) → r ≡ Ok a → f a ≡ y → (r >>= f) ≡ y
goes r a f y p q = rw p q

pub unless_ok : (why : StateFault) (b : Bool) → IfOk (unless why b) (λ _. b ≡ true)
unless_ok why true = refl
unless_ok why false = tt

-- ---- fields

pub byte_takes : (text : List ℕ) → IsBytes text → IfOk (next_byte text) (λ x. Took text (x.0 ∷ []) x.1)
unfolding next_byte
byte_takes [] h = tt
byte_takes (b ∷ text) h = record { parts = refl; bytes = λ i. h (suc i) }

pub byte_again : (b : ℕ) (rest : List ℕ) → next_byte (b ∷ rest) ≡ Ok (b, rest)
unfolding next_byte
byte_again b rest = refl

bytes_takes_by : (n : ℕ) (text : List ℕ) (b : Bool) → b ≡ ltb (length text) n → IsBytes text → IfOk {T = List ℕ × List ℕ} (cond b (Err Content) (Ok (take n text, drop n text))) (λ x. Took text x.0 x.1 × (length x.0 ≡ n))
bytes_takes_by n text true e h = tt
bytes_takes_by n text false e h =
    let enough : n ≤ length text = ltb-false (length text) n (sym e) in
    (record { parts = sym (take-append-drop n text); bytes = IsBytes-drop n text h }, omega (arith, length-take n text))

pub bytes_takes : (n : ℕ) (text : List ℕ) → IsBytes text → IfOk (next_bytes n text) (λ x. Took text x.0 x.1 × (length x.0 ≡ n))
unfolding next_bytes
bytes_takes n text h = bytes_takes_by n text (ltb (length text) n) refl h

pub bytes_again : (n : ℕ) (bytes rest : List ℕ) → length bytes ≡ n → next_bytes n (bytes ++ rest) ≡ Ok (bytes, rest)
unfolding next_bytes
bytes_again n bytes rest whole =
    let enough : ltb (length (bytes ++ rest)) n ≡ false = le-ltb _ _ (omega (arith, length-append bytes rest)) in
    rw (enough, take_at bytes rest n whole, drop_at bytes rest n whole) refl

-- numbers of a width, with the text of each
pub record IsWide (w : Width) (limit : ℕ) (spelled : ℕ → List ℕ) : Type 0 where
  pub len : (n : ℕ) → length (spelled n) ≡ byte_len w
  pub back : (bytes : List ℕ) → length bytes ≡ byte_len w → IsBytes bytes → spelled (from_be_bytes w bytes) ≡ bytes
  pub again : (n : ℕ) → n < limit → from_be_bytes w (spelled n) ≡ n
  pub below : (bytes : List ℕ) → IsBytes bytes → from_be_bytes w bytes < limit

pub is_half : IsWide w16 (2 ^ 16) half
unfolding half
is_half = record {
  len = λ n. refl;
  back = λ bytes len fits. be_bytes_2 bytes _ len fits refl;
  again = λ n lt. from_be_bytes-to_be_bytes_2 n lt;
  below = λ bytes fits. omega (arith, fits 0, fits 1);
}

pub is_short : IsWide w32 (2 ^ 32) short
unfolding short
is_short = record {
  len = λ n. refl;
  back = λ bytes len fits. be_bytes_4 bytes _ len fits refl;
  again = λ n lt. from_be_bytes-to_be_bytes_4 n lt;
  below = λ bytes fits. omega (arith, fits 0, fits 1, fits 2, fits 3);
}

pub is_long : IsWide w64 (2 ^ 64) long
unfolding long
is_long = record {
  len = λ n. refl;
  back = λ bytes len fits. be_bytes_8 bytes _ len fits refl;
  again = λ n lt. from_be_bytes-to_be_bytes_8 n lt;
  below = λ bytes fits. omega (arith, fits 0, fits 1, fits 2, fits 3, fits 4, fits 5, fits 6, fits 7);
}

number_takes_by : (w : Width) (limit : ℕ) (spelled : ℕ → List ℕ) → IsWide w limit spelled → (text : List ℕ) (b : Bool) → b ≡ ltb (length text) (byte_len w) → IsBytes text
    → IfOk {T = ℕ × List ℕ} (cond b (Err Content) (Ok (from_be_bytes w (take (byte_len w) text), drop (byte_len w) text))) (λ x. Took text (spelled x.0) x.1 × (x.0 < limit))
number_takes_by w limit spelled wide text true e h = tt
number_takes_by w limit spelled wide text false e h =
    let enough : byte_len w ≤ length text = ltb-false _ _ (sym e) in
    let front : spelled (from_be_bytes w (take (byte_len w) text)) ≡ take (byte_len w) text = wide.back (take (byte_len w) text) (omega (arith, length-take (byte_len w) text)) (IsBytes-take (byte_len w) text h) in (
      record { parts = sym (ap (λ (x : List ℕ). x ++ drop (byte_len w) text) front ∙ take-append-drop (byte_len w) text); bytes = IsBytes-drop (byte_len w) text h },
      wide.below (take (byte_len w) text) (IsBytes-take (byte_len w) text h),
    )

pub number_takes : (w : Width) (limit : ℕ) (spelled : ℕ → List ℕ) → IsWide w limit spelled → (text : List ℕ) → IsBytes text → IfOk (next_number w text) (λ x. Took text (spelled x.0) x.1 × (x.0 < limit))
unfolding next_number
number_takes w limit spelled wide text h = number_takes_by w limit spelled wide text (ltb (length text) (byte_len w)) refl h

pub number_again : (w : Width) (limit : ℕ) (spelled : ℕ → List ℕ) → IsWide w limit spelled → (n : ℕ) (rest : List ℕ) → n < limit → next_number w (spelled n ++ rest) ≡ Ok (n, rest)
unfolding next_number
number_again w limit spelled wide n rest lt =
    let len = wide.len n in
    let enough : ltb (length (spelled n ++ rest)) (byte_len w) ≡ false = le-ltb _ _ (omega (arith, length-append (spelled n) rest)) in
    rw (enough, take_at (spelled n) rest (byte_len w) len, drop_at (spelled n) rest (byte_len w) len, wide.again n lt) refl

pub half_takes : (text : List ℕ) → IsBytes text → IfOk (next_number w16 text) (λ x. Took text (half x.0) x.1 × (x.0 < 2 ^ 16))
half_takes text h = number_takes w16 (2 ^ 16) half is_half text h

pub short_takes : (text : List ℕ) → IsBytes text → IfOk (next_number w32 text) (λ x. Took text (short x.0) x.1 × IsShort x.0)
short_takes text h = number_takes w32 (2 ^ 32) short is_short text h

pub long_takes : (text : List ℕ) → IsBytes text → IfOk (next_number w64 text) (λ x. Took text (long x.0) x.1 × IsLong x.0)
long_takes text h = number_takes w64 (2 ^ 64) long is_long text h

pub half_again : (n : ℕ) (rest : List ℕ) → n < 2 ^ 16 → next_number w16 (half n ++ rest) ≡ Ok (n, rest)
half_again n rest lt = number_again w16 (2 ^ 16) half is_half n rest lt

pub short_again : (n : ℕ) (rest : List ℕ) → IsShort n → next_number w32 (short n ++ rest) ≡ Ok (n, rest)
short_again n rest lt = number_again w32 (2 ^ 32) short is_short n rest lt

pub long_again : (n : ℕ) (rest : List ℕ) → IsLong n → next_number w64 (long n ++ rest) ≡ Ok (n, rest)
long_again n rest lt = number_again w64 (2 ^ 64) long is_long n rest lt
