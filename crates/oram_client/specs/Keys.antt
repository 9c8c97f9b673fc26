-- The keys that are derived from a disk's key, by one step of SHA-256 (NIST SP 800-56C rev. 2, 4.1, option 1).
use Rattle.std.specs.Prelude.{ℕ, List, ◌++◌, codes}
use Rattle.std.specs.Int.{w32, to_be_bytes}
use Rattle.sha2.specs.Sha256.{sha256}

-- The key for a purpose: the digest of the counter 1 in 32 bits, of the shared secret, which is the disk's key, and of
-- the fixed information, which is the purpose's name and the salt.
abbrev pub derived_key : List ℕ → List ℕ → List ℕ → List ℕ
derived_key key purpose salt = sha256 (to_be_bytes w32 1 ++ key ++ purpose ++ salt)

-- the key that seals the buckets of a formatting
abbrev pub bucket_key : List ℕ → List ℕ → List ℕ
bucket_key key salt = derived_key key (codes "vidlaqe bucket key") salt

-- the key of the tape of a formatting
abbrev pub tape_key : List ℕ → List ℕ → List ℕ
tape_key key salt = derived_key key (codes "vidlaqe tape key") salt

-- the key of the stamps of a formatting
abbrev pub stamp_key : List ℕ → List ℕ → List ℕ
stamp_key key salt = derived_key key (codes "vidlaqe stamp key") salt

-- the value that shows whether a key is the disk's
abbrev pub key_check : List ℕ → List ℕ → List ℕ
key_check key salt = derived_key key (codes "vidlaqe key check") salt

-- the name of a disk at its host
abbrev pub identity : List ℕ → List ℕ → List ℕ
identity key salt = derived_key key (codes "vidlaqe disk identity") salt
