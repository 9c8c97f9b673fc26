-- Which entries of a table have changed.
use Rattle.std.specs.Prelude.{◌≡◌, ◌<◌, ◌≤◌, ◌+◌, ℕ, Bool, true, false, List, [], ◌∷◌, ◌++◌, length, slice_index_or, ⊤}
use Rattle.std.specs.List.{Contains}
use Rattle.oram_core.specs.declared.changes.TableChanges.{TableChanges}
use Rattle.oram_core.specs.declared.changes.TableChanges.TheVariants.{Any, Blocks}

-- two tables of one length have the same entries, except perhaps those of these blocks
pub record DifferAtMost (blocks : List ℕ) (old new : List ℕ) : Type 0 where
  pub long : length new ≡ length old
  pub others : (i : ℕ) → (Contains blocks i → ⊥) → slice_index_or new i 0 ≡ slice_index_or old i 0

-- a note of the entries that may have changed: any, or else those of these blocks
pub record Noted : Type 0 where
  pub any : Bool
  pub blocks : List ℕ

-- a table has become another one, and the note has each entry that differs
abbrev pub AreNoted : Noted → List ℕ → List ℕ → Type 0
AreNoted n old new = n.any ≡ false → DifferAtMost n.blocks old new

-- and this tells of each entry that differs
abbrev pub AreTold : TableChanges → List ℕ → List ℕ → Type 0
AreTold Any old new = ⊤
AreTold (Blocks blocks) old new = DifferAtMost blocks.now old new

-- it tells of no other entries than the note has
abbrev pub TellsNoMore : Noted → TableChanges → Type 0
TellsNoMore n Any = n.any ≡ true
TellsNoMore n (Blocks blocks) = blocks.now ≡ n.blocks

-- a note becomes one that has this block, too
abbrev pub NotesBlock : ℕ → Noted → Noted → Type 0
NotesBlock block n m = m.any ≡ false → (n.any ≡ false) × (m.blocks ≡ n.blocks ++ block ∷ [])

-- It notes one more block at most, as long as 64 have room, and doesn't say that any entry may have changed unless it did before.
abbrev pub NotesFew : Noted → Noted → Type 0
NotesFew n m = n.any ≡ false → length n.blocks < 64 → (m.any ≡ false) × (length m.blocks ≤ length n.blocks + 1)

-- no entry has changed
abbrev pub nothing_noted : Noted
nothing_noted = record { any = false; blocks = [] }
