-- The first bytes of a bucket file and of its log.
use Rattle.std.specs.Prelude.{◌≡◌, ◌<◌, ℕ, ◌^◌, List, [], ◌∷◌, ◌++◌, take}
use Rattle.oram_pair.specs.Fronts.{eight_bytes}
use Rattle.oram_pair.specs.declared.fronts.Identity.{Identity}
use Rattle.oram_pair.specs.declared.fronts.TheConstants.{LETTERS_LEN}
use Rattle.oram_layout.specs.declared.fronts.Front.{Front}
use Rattle.oram_layout.specs.declared.fronts.Front.TheVariants.{Ours, NewerVersion, OlderVersion, Sqlite, Empty, Another}

-- "VIDLAQEL", and the version, 3, in 8 bytes
abbrev pub log_letters : List ℕ
log_letters = 86 ∷ 73 ∷ 68 ∷ 76 ∷ 65 ∷ 81 ∷ 69 ∷ 76 ∷ 3 ∷ 0 ∷ 0 ∷ 0 ∷ 0 ∷ 0 ∷ 0 ∷ 0 ∷ []

-- "SQLite format 3", and a byte of 0
abbrev pub sqlite_letters : List ℕ
sqlite_letters = 83 ∷ 81 ∷ 76 ∷ 105 ∷ 116 ∷ 101 ∷ 32 ∷ 102 ∷ 111 ∷ 114 ∷ 109 ∷ 97 ∷ 116 ∷ 32 ∷ 51 ∷ 0 ∷ []

-- "VIDLAQEB"
abbrev pub bucket_name : List ℕ
bucket_name = 86 ∷ 73 ∷ 68 ∷ 76 ∷ 65 ∷ 81 ∷ 69 ∷ 66 ∷ []

-- the bytes begin with a bucket file's letters and a version above 3
pub record IsNewer (bytes : List ℕ) : Type 0 where
  pub version : ℕ
  pub above : 3 < version
  pub fits : version < 2 ^ 64
  pub begins : take LETTERS_LEN bytes ≡ bucket_name ++ eight_bytes version

-- the bytes begin with a bucket file's letters and a version below 3
pub record IsOlder (bytes : List ℕ) : Type 0 where
  pub version : ℕ
  pub below : version < 3
  pub begins : take LETTERS_LEN bytes ≡ bucket_name ++ eight_bytes version

-- if the file is one of ours, this holds of its identity
abbrev pub IfOurs : Front → (Identity → Type 0) → Type 0
IfOurs (Ours identity) P = P identity
IfOurs NewerVersion P = Unit {0}
IfOurs OlderVersion P = Unit {0}
IfOurs Sqlite P = Unit {0}
IfOurs Empty P = Unit {0}
IfOurs Another P = Unit {0}
