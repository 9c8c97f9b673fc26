-- The values at the keys of a TOML table.
use Rattle.std.specs.Prelude.{◌≡◌, ◌≤◌, ◌<◌, ◌++◌, ℕ, pos, true, List, length, codes, decimal, is_some, Option, Some, None, Result, Ok, MatchResult}
use Rattle.std.specs.List.{list_any}
use Rattle.std.specs.Str.{bytes_eq}
use Rattle.hex.specs.Hex.{decode_sized}
use Rattle.toml.specs.Data.{Members, get_member, integer, string}
use Rattle.oram_cli.specs.declared.input.InputFault.{InputFault}
use Rattle.oram_cli.specs.declared.input.InputFault.TheVariants.{Bad}

-- ---- values

-- a port from 1 on, in decimal without leading zeros
abbrev pub IsPort : List ℕ → Type 0
IsPort text = (port : ℕ) × (1 ≤ port) × (port ≤ 65535) × (text ≡ decimal port)

-- the loopback address and a port
abbrev pub IsAddress : List ℕ → Type 0
IsAddress text = (port : List ℕ) × IsPort port × (text ≡ codes "127.0.0.1:" ++ port)

abbrev pub IsName : List ℕ → Type 0
IsName text = 0 < length text

-- a number of connections, or of seconds
abbrev pub IsCount : ℕ → Type 0
IsCount n = (1 ≤ n) × (n ≤ 1000000)

-- 64 hexadecimal digits, of either case, and the 32 bytes that they spell
abbrev pub SpellsKey : List ℕ → List ℕ → Type 0
SpellsKey text key = decode_sized text 32 ≡ Ok key

-- ---- tables

abbrev pub HasText : Members → List ℕ → List ℕ → Type 0
HasText table key text = get_member key table ≡ Some (string text)

abbrev pub HasNumber : Members → List ℕ → ℕ → Type 0
HasNumber table key n = get_member key table ≡ Some (integer (pos n))

abbrev pub HasHex : Members → List ℕ → List ℕ → Type 0
HasHex table key bytes = (text : List ℕ) × HasText table key text × SpellsKey text bytes

-- the sealer's key; the plain sealer, which leaves bytes as they are, has none
abbrev pub HasSealer : Members → Option (List ℕ) → Type 0
HasSealer table None = HasText table (codes "seal") (codes "plain") × (get_member (codes "seal_key") table ≡ None)
HasSealer table (Some key) = HasText table (codes "seal") (codes "chacha") × HasHex table (codes "seal_key") key

-- each key of the table is one of `keys`
abbrev pub HasOnly : List (List ℕ) → Members → Type 0
HasOnly keys table = (key : List ℕ) → is_some (get_member key table) ≡ true → list_any (λ k. bytes_eq k key) keys ≡ true

-- ---- what is read

-- The value of an Ok, seen through `view`, is one that P holds of. Bad comes only if P holds of
-- nothing.
abbrev pub Finds : {X Y : Type 0} → (Y → X) → (X → Type 0) → Result Y InputFault → Type 0
Finds {X} view P r = MatchResult r (λ y. P (view y)) (λ e. e ≡ Bad → (x : X) → P x → ⊥)
