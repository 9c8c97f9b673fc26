-- What a sparse file holds, as a function from place to byte: 0 in holes and past the end. So a file's length never matters.
use Rattle.std.specs.Prelude.{◌≡◌, ℕ, zero, suc, List, [], ◌∷◌, length, if◌then◌else◌, ◌==◌}

abbrev pub Content : Type 0
Content = ℕ → ℕ

abbrev pub Agrees : Content → Content → Type 0
Agrees c d = (i : ℕ) → c i ≡ d i

-- the n bytes from a place on
abbrev pub bytes_at : ℕ → ℕ → Content → List ℕ
bytes_at zero at c = []
bytes_at (suc n) at c = c at ∷ bytes_at n (suc at) c

-- the content has these bytes at a place
abbrev pub Has : List ℕ → ℕ → Content → Type 0
Has bytes at c = bytes_at (length bytes) at c ≡ bytes

-- a content after these bytes are written at a place
abbrev pub put : List ℕ → ℕ → Content → Content
put [] at c i = c i
put (b ∷ bs) at c i = if i == at then b else put bs (suc at) c i
