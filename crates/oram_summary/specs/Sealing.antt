-- How a text is sealed, as in SIV (RFC 5297): its tag decides the stream that hides it.
use Rattle.std.specs.Prelude.{◌≡◌, ℕ, List, ◌++◌, length}
use Rattle.rand_chacha.specs.ChaCha.{key_of}
use Rattle.oram_bucket.specs.Keystream.{xored_from}
use Rattle.oram_hmac.specs.Hmac.{hmac}
use Rattle.oram_summary.specs.Keys.{stream_key, tag_key}

-- the tag of a text under a disk's key and the salt of its formatting
unfoldable pub tag_of : List ℕ → List ℕ → List ℕ → List ℕ
tag_of key salt text = hmac (tag_key key salt) text

-- the bytes, each XORed with its byte of the keystream of this key and the nonce 0
unfoldable pub hidden : List ℕ → List ℕ → List ℕ
hidden key bytes = xored_from (key_of key) 0 0 bytes

-- a sealed text: the salt, the tag, and the text hidden under a key that comes from the tag
unfoldable pub sealing : List ℕ → List ℕ → List ℕ → List ℕ
sealing key salt text = salt ++ (tag_of key salt text ++ hidden (stream_key key salt (tag_of key salt text)) text)

-- the bytes are this text, sealed under this key with some salt
abbrev pub IsSealingOf : List ℕ → List ℕ → List ℕ → Type 0
IsSealingOf key sealed text = (salt : List ℕ) × (length salt ≡ 32) × (sealed ≡ sealing key salt text)
