-- HMAC (RFC 2104, section 2) with SHA-256, whose blocks have 64 bytes and whose digests have 32.
use Rattle.std.specs.Prelude.{ℕ, ◌-◌, List, ◌++◌, length, map, replicate, bit_xor, nat_le, if◌then◌else◌}
use Rattle.sha2.specs.Sha256.{sha256}

-- a key with zeros behind it, as long as a block
abbrev pub padded : List ℕ → List ℕ
padded key = key ++ replicate (64 - length key) 0

-- the key as a block; a key that is longer than a block is replaced by its digest
abbrev pub key_block : List ℕ → List ℕ
key_block key = padded (if nat_le (length key) 64 then key else sha256 key)

-- the bytes of the key's block, each XORed with a byte
abbrev pub masked_key : ℕ → List ℕ → List ℕ
masked_key byte key = map (λ b. bit_xor b byte) (key_block key)

-- the text whose digest is the inner one: the key, masked by ipad, and the message
unfoldable pub inner_text : List ℕ → List ℕ → List ℕ
inner_text key message = masked_key 0x36 key ++ message

-- the text whose digest is the tag: the key, masked by opad, and the inner digest
unfoldable pub outer_text : List ℕ → List ℕ → List ℕ
outer_text key message = masked_key 0x5c key ++ sha256 (inner_text key message)

-- the tag of a message under a key
unfoldable pub hmac : List ℕ → List ℕ → List ℕ
hmac key message = sha256 (outer_text key message)
