-- The keys of summaries. They are derived from a disk's key as its other keys are, by one step of SHA-256 (NIST SP 800-56C rev. 2, 4.1, option 1).
use Rattle.std.specs.Prelude.{ℕ, List, ◌++◌, codes}
use Rattle.std.specs.Int.{w32, to_be_bytes}
use Rattle.sha2.specs.Sha256.{sha256}
use Rattle.oram_hmac.specs.Hmac.{hmac}

-- the text whose digest is the key for a purpose: the counter 1 in 32 bits, the disk's key, the purpose's name, and the salt
abbrev pub key_text : List ℕ → List ℕ → List ℕ → List ℕ
key_text key purpose salt = to_be_bytes w32 1 ++ key ++ purpose ++ salt

abbrev pub derived_key : List ℕ → List ℕ → List ℕ → List ℕ
derived_key key purpose salt = sha256 (key_text key purpose salt)

abbrev pub tag_purpose : List ℕ
tag_purpose = codes "vidlaqe summary tag key"

abbrev pub stream_purpose : List ℕ
stream_purpose = codes "vidlaqe summary stream key"

-- the key of the tags
unfoldable pub tag_key : List ℕ → List ℕ → List ℕ
tag_key key salt = derived_key key tag_purpose salt

-- the key from which those of the streams come
unfoldable pub stream_secret : List ℕ → List ℕ → List ℕ
stream_secret key salt = derived_key key stream_purpose salt

-- the key of the stream that hides the summary with this tag
unfoldable pub stream_key : List ℕ → List ℕ → List ℕ → List ℕ
stream_key key salt tag = hmac (stream_secret key salt) tag
