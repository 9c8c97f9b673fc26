-- Laws about tags.
use Rattle.std.specs.Prelude.{◌≡◌, ◌≢◌, ℕ, ◌≤◌, ◌⊎◌, List, length, replicate, codes}
use Rattle.sha2.specs.Sha256.{sha256}
use Rattle.oram_hmac.specs.Hmac.{hmac, inner_text, outer_text}

-- two texts that differ and have one SHA-256 digest
pub record Collide (one other : List ℕ) : Type 0 where
  pub differ : one ≢ other
  pub same : sha256 one ≡ sha256 other

-- of what two tags are made collides: the texts of the inner digests, or those of the tags
abbrev pub TagsCollide : List ℕ → List ℕ → List ℕ → List ℕ → Type 0
TagsCollide key message key' message' =
    Collide (inner_text key message) (inner_text key' message') ⊎ Collide (outer_text key message) (outer_text key' message')

-- messages that differ have different tags, unless what their tags are made of collides
abbrev pub MessagesHaveTagsOfTheirOwn : Type 0
MessagesHaveTagsOfTheirOwn = (key message message' : List ℕ) → message ≢ message'
    → (hmac key message ≢ hmac key message') ⊎ TagsCollide key message key message'

-- keys of one length that differ make different tags, even of different messages, unless what the tags are made of collides
abbrev pub KeysHaveTagsOfTheirOwn : Type 0
KeysHaveTagsOfTheirOwn = (key key' message message' : List ℕ) → length key ≡ length key' → length key ≤ 64 → key ≢ key'
    → (hmac key message ≢ hmac key' message') ⊎ Collide (outer_text key message) (outer_text key' message')

abbrev pub first_key : List ℕ
first_key = replicate 20 0x0b

abbrev pub third_key : List ℕ
third_key = replicate 20 0xaa

abbrev pub third_message : List ℕ
third_message = replicate 50 0xdd

-- two messages and two keys that meet the premises of both laws; they are those of the first and the third test case of RFC 4231
pub record TagExample : Type 0 where
  pub messages : codes "Hi There" ≢ third_message
  pub keys : first_key ≢ third_key
  pub lengths : length first_key ≡ length third_key
  pub short : length first_key ≤ 64
