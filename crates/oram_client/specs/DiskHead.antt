-- The head of a disk.
use Rattle.std.specs.Prelude.{◌≡◌, ℕ, List, ◌∷◌, ◌++◌, length}
use Rattle.oram_client.specs.declared.disk_head.Head.{Head}
use Rattle.oram_client.specs.declared.disk_head.SealerKind.{SealerKind}
use Rattle.oram_client.specs.declared.disk_head.SealerKind.TheVariants.{Plain, ChaCha20}

-- the byte that names a sealer
abbrev pub sealer_byte : SealerKind → ℕ
sealer_byte Plain = 0
sealer_byte ChaCha20 = 1

-- a head as bytes: the salt, the key check, the sealer's byte, and what follows this head
abbrev pub behind_letters : Head → List ℕ → List ℕ
behind_letters head rest = head.salt.0 ++ (head.key_check.0 ++ sealer_byte head.sealer ∷ rest)

-- The salt and the key check have 32 bytes each.
pub record IsHead (head : Head) : Type 0 where
  pub salt : length head.salt.0 ≡ 32
  pub key_check : length head.key_check.0 ≡ 32
