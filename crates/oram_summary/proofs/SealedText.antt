-- A sealed text, and what it opens to.
use Rattle.std.proofs.Common.{◌≡◌, ℕ, suc, ◌+◌, ◌-◌, ◌≤◌, List, [], ◌∷◌, ◌++◌, length, take, drop, slice_range, refl, sym, ap, ◌∙◌, arith, length-append, length-drop, take_all, take-append-drop}
use Rattle.std.proofs.lemmas.List.{length-take-le}
use Rattle.rand_chacha.specs.ChaCha.{key_of}
use Rattle.sha2.proofs.Facts256.{length-sha256}
use Rattle.oram_bucket.specs.Keystream.{key_byte, xored_from}
use Rattle.std.specs.Int.{w64, to_be_bytes}
use Rattle.std.specs.Int.Bits.{bit_xor, xor_assoc, xor_self, xor_zero_r}
use Rattle.oram_hmac.specs.Hmac.{hmac, outer_text}
use Rattle.oram_summary.specs.Keys.{stream_key, tag_key}
use Rattle.oram_summary.specs.Sealing.{IsSealingOf, hidden, sealing, tag_of}
use Rattle.oram_checkpoints.proofs.Fronts.{parts_same}

xored_twice : (key : List ℕ) (nonce k : ℕ) (xs : List ℕ) → xored_from key nonce k (xored_from key nonce k xs) ≡ xs
xored_twice key nonce k [] = refl
xored_twice key nonce k (x ∷ xs) =
    let y : ℕ = key_byte key nonce k in
    ap (λ (b : ℕ). b ∷ xored_from key nonce (k + 1) (xored_from key nonce (k + 1) xs)) (xor_assoc x y y ∙ ap (bit_xor x) (xor_self y) ∙ xor_zero_r x)
    ∙ ap (λ (bs : List ℕ). x ∷ bs) (xored_twice key nonce (k + 1) xs)

-- hiding twice gives the bytes back
hidden_twice : (key bytes : List ℕ) → hidden key (hidden key bytes) ≡ bytes
unfolding hidden
hidden_twice key bytes = xored_twice (key_of key) 0 0 bytes

pub length-hmac : (key message : List ℕ) → length (hmac key message) ≡ 32
unfolding hmac
length-hmac key message = length-sha256 (outer_text key message)

pub length-tag : (key salt text : List ℕ) → length (tag_of key salt text) ≡ 32
unfolding tag_of
length-tag key salt text = length-hmac _ text

-- the bytes behind a nonce
pub behind : (plain bytes : List ℕ) → plain ≡ to_be_bytes w64 0 ++ bytes → slice_range plain 8 (length plain) ≡ bytes
behind plain bytes is =
    let long : length plain ≡ 8 + length bytes = omega (arith, ap length is, length-append (to_be_bytes w64 0) bytes) in
    take_all (length plain - 8) (drop 8 plain) (omega (arith, length-drop 8 plain)) ∙ ap (drop 8) is

-- bytes that begin with a salt and a tag
pub record AreSealed (sealed salt tag rest bytes : List ℕ) : Type 0 where
  pub salt_is : salt ≡ take 32 sealed
  pub rest_is : rest ≡ drop 32 sealed
  pub tag_is : tag ≡ take 32 rest
  pub bytes_are : bytes ≡ drop 32 rest
  pub long : 64 ≤ length sealed

whole_is : (sealed salt tag rest bytes : List ℕ) → AreSealed sealed salt tag rest bytes → (sealed ≡ salt ++ (tag ++ bytes)) × (length salt ≡ 32) × (length tag ≡ 32)
whole_is sealed salt tag rest bytes are =
    let inner : rest ≡ tag ++ bytes = sym (ap (λ (b : List ℕ). b ++ bytes) are.tag_is ∙ ap (λ (b : List ℕ). take 32 rest ++ b) are.bytes_are ∙ take-append-drop 32 rest) in
    let outer : sealed ≡ salt ++ rest = sym (ap (λ (b : List ℕ). b ++ rest) are.salt_is ∙ ap (λ (b : List ℕ). take 32 sealed ++ b) are.rest_is ∙ take-append-drop 32 sealed) in
    let left : 32 ≤ length rest = omega (arith, ap length are.rest_is, length-drop 32 sealed, are.long) in
    (outer ∙ ap (λ (b : List ℕ). salt ++ b) inner, ap length are.salt_is ∙ length-take-le 32 sealed (omega (arith, are.long)), ap length are.tag_is ∙ length-take-le 32 rest left)

-- a text with this tag was sealed so
pub opened_is : (key sealed salt tag rest bytes text : List ℕ) → AreSealed sealed salt tag rest bytes → text ≡ hidden (stream_key key salt tag) bytes → tag ≡ tag_of key salt text → IsSealingOf key sealed text
unfolding sealing
opened_is key sealed salt tag rest bytes text are plain same =
    let whole = whole_is sealed salt tag rest bytes are in
    let back : bytes ≡ hidden (stream_key key salt (tag_of key salt text)) text =
    sym (hidden_twice (stream_key key salt tag) bytes) ∙ ap (hidden (stream_key key salt tag)) (sym plain) ∙ ap (λ (t : List ℕ). hidden (stream_key key salt t) text) same in
    (salt, whole.1, whole.0 ∙ ap (λ (b : List ℕ). salt ++ (tag ++ b)) back ∙ ap (λ (t : List ℕ). salt ++ (t ++ hidden (stream_key key salt (tag_of key salt text)) text)) same)

-- what was sealed so has the text and the tag that the bytes open to
pub opened_only : (key sealed salt tag rest bytes text : List ℕ) → AreSealed sealed salt tag rest bytes → text ≡ hidden (stream_key key salt tag) bytes
    → (other : List ℕ) → IsSealingOf key sealed other → (text ≡ other) × (tag ≡ tag_of key salt text)
unfolding sealing
opened_only key sealed salt tag rest bytes text are plain other is =
    let whole = whole_is sealed salt tag rest bytes are in
    let first = parts_same salt (tag ++ bytes) is.0 (tag_of key is.0 other ++ hidden (stream_key key is.0 (tag_of key is.0 other)) other) (whole.1 ∙ sym is.1) (sym whole.0 ∙ is.2) in
    let second = parts_same tag bytes (tag_of key is.0 other) (hidden (stream_key key is.0 (tag_of key is.0 other)) other) (whole.2 ∙ sym (length-tag key is.0 other)) first.1 in
    let stream : stream_key key salt tag ≡ stream_key key is.0 (tag_of key is.0 other) = ap (λ (s : List ℕ). stream_key key s tag) first.0 ∙ ap (stream_key key is.0) second.0 in
    let same : text ≡ other =
    plain ∙ ap (hidden (stream_key key salt tag)) second.1 ∙ ap (λ (k : List ℕ). hidden k (hidden (stream_key key is.0 (tag_of key is.0 other)) other)) stream
    ∙ hidden_twice (stream_key key is.0 (tag_of key is.0 other)) other in
    (same, second.0 ∙ ap (λ (s : List ℕ). tag_of key s other) (sym first.0) ∙ ap (tag_of key salt) (sym same))

-- a sealed text is the sealing of one text, with one salt
pub sealing_only : (key sealed one other : List ℕ) (is : IsSealingOf key sealed one) (too : IsSealingOf key sealed other) → (one ≡ other) × (is.0 ≡ too.0)
unfolding sealing
sealing_only key sealed one other is too =
    let bytes = hidden (stream_key key is.0 (tag_of key is.0 one)) one in
    let bytes' = hidden (stream_key key too.0 (tag_of key too.0 other)) other in
    let first = parts_same is.0 (tag_of key is.0 one ++ bytes) too.0 (tag_of key too.0 other ++ bytes') (is.1 ∙ sym too.1) (sym is.2 ∙ too.2) in
    let second = parts_same (tag_of key is.0 one) bytes (tag_of key too.0 other) bytes' (length-tag key is.0 one ∙ sym (length-tag key too.0 other)) first.1 in
    let stream : stream_key key is.0 (tag_of key is.0 one) ≡ stream_key key too.0 (tag_of key too.0 other) =
    ap (λ (s : List ℕ). stream_key key s (tag_of key is.0 one)) first.0 ∙ ap (stream_key key too.0) second.0 in (
      sym (hidden_twice (stream_key key is.0 (tag_of key is.0 one)) one) ∙ ap (hidden (stream_key key is.0 (tag_of key is.0 one))) second.1
          ∙ ap (λ (k : List ℕ). hidden k bytes') stream ∙ hidden_twice (stream_key key too.0 (tag_of key too.0 other)) other,
      first.0,
    )

length-xored : (key : List ℕ) (nonce k : ℕ) (xs : List ℕ) → length (xored_from key nonce k xs) ≡ length xs
length-xored key nonce k [] = refl
length-xored key nonce k (x ∷ xs) = ap suc (length-xored key nonce (k + 1) xs)

length-hidden : (key bytes : List ℕ) → length (hidden key bytes) ≡ length bytes
unfolding hidden
length-hidden key bytes = length-xored (key_of key) 0 0 bytes

-- a sealed text is as long as its text, with a salt and a tag
pub length-sealing : (key salt text : List ℕ) → length salt ≡ 32 → length (sealing key salt text) ≡ 64 + length text
unfolding sealing
length-sealing key salt text long =
    let stream = stream_key key salt (tag_of key salt text) in
    let outer = length-append salt (tag_of key salt text ++ hidden stream text) in
    outer ∙ omega (arith, long, length-append (tag_of key salt text) (hidden stream text), length-tag key salt text, length-hidden stream text)

-- a sealed text has a salt and a tag
pub sealed_long : (key sealed text : List ℕ) → IsSealingOf key sealed text → 64 ≤ length sealed
unfolding sealing
sealed_long key sealed text is =
    let stream = stream_key key is.0 (tag_of key is.0 text) in
    let whole : length sealed ≡ length (is.0 ++ (tag_of key is.0 text ++ hidden stream text)) = ap length is.2 in
    omega (arith, whole, is.1, length-append is.0 (tag_of key is.0 text ++ hidden stream text), length-append (tag_of key is.0 text) (hidden stream text), length-tag key is.0 text)

-- a text that was opened, and the keys that it was opened with
pub record AreOpened (key sealed salt tag rest bytes text stream tags : List ℕ) : Type 0 where
  pub parts : AreSealed sealed salt tag rest bytes
  pub stream_is : stream ≡ stream_key key salt tag
  pub text_is : text ≡ hidden stream bytes
  pub tags_is : tags ≡ tag_key key salt

text_is : (key sealed salt tag rest bytes text stream tags : List ℕ) → AreOpened key sealed salt tag rest bytes text stream tags → text ≡ hidden (stream_key key salt tag) bytes
text_is key sealed salt tag rest bytes text stream tags are = are.text_is ∙ ap (λ (k : List ℕ). hidden k bytes) are.stream_is

pub right_tag : (key sealed salt tag rest bytes text stream tags : List ℕ) → AreOpened key sealed salt tag rest bytes text stream tags → tag ≡ hmac tags text → IsSealingOf key sealed text
unfolding tag_of
right_tag key sealed salt tag rest bytes text stream tags are same =
    opened_is key sealed salt tag rest bytes text are.parts (text_is key sealed salt tag rest bytes text stream tags are) (same ∙ ap (λ (k : List ℕ). hmac k text) are.tags_is)

pub only_tag : (key sealed salt tag rest bytes text stream tags : List ℕ) → AreOpened key sealed salt tag rest bytes text stream tags
    → (other : List ℕ) → IsSealingOf key sealed other → (text ≡ other) × (tag ≡ hmac tags text)
unfolding tag_of
only_tag key sealed salt tag rest bytes text stream tags are other is =
    let found = opened_only key sealed salt tag rest bytes text are.parts (text_is key sealed salt tag rest bytes text stream tags are) other is in
    (found.0, found.1 ∙ ap (λ (k : List ℕ). hmac k text) (sym are.tags_is))
