-- The notes of the making of a pair: what was done, and whether the system did it.
use Rattle.std.specs.Prelude.{ℕ, Bool, true, List, slice_index, ◌==◌, if◌then◌else◌}
use Rattle.oram_pair.specs.declared.leftovers.Found.{Found}
use Rattle.oram_pair.specs.declared.leftovers.Found.TheVariants.{Nothing, Leftover, Another}
use Rattle.oram_pair.specs.declared.names.PairName.{PairName}
use Rattle.oram_pair.specs.declared.names.PairName.TheVariants.{File, Log, NewFile, NewLog}

-- what a call of the system is for
pub data Deed : Type 0 where
  Sees : PairName → Found → Deed  -- a look at a name finds this
  Takes : PairName → Deed  -- what has the name is taken away from it
  Makes : PairName → Deed  -- a new file is made where there was none of this name
  Locks : Deed  -- the new file is locked, and still has its name
  Fills : Deed  -- both new files get their bytes, and are synced
  Links : PairName → Deed  -- a new file gets its own name by a link, which the system refuses if the name is taken
  Renames : PairName → Deed  -- a new file gets its own name in place of what has that name
  SyncsFolder : Deed  -- the folder is synced, so that the names are on the disk

pub record Note : Type 0 where
  pub deed : Deed
  pub is_ok : Bool

abbrev pub done : Deed → Note
done deed = record { deed = deed; is_ok = true }

-- The numbers that stand for a name, a find and a deed where they are noted.
abbrev pub name_of : ℕ → PairName
name_of number = if number == 1 then File else if number == 2 then Log else if number == 3 then NewFile else NewLog

abbrev pub found_of : ℕ → Found
found_of number = if number == 1 then Nothing else if number == 2 then Leftover else Another

abbrev pub deed_of : ℕ → PairName → Found → Deed
deed_of kind name found =
    if kind == 1 then Sees name found
    else if kind == 2 then Takes name
    else if kind == 3 then Makes name
    else if kind == 4 then Locks
    else if kind == 5 then Fills
    else if kind == 6 then Links name
    else if kind == 7 then Renames name
    else SyncsFolder

abbrev pub note_of : List ℕ → List ℕ → Note
note_of numbers bytes = record {
  deed = deed_of (slice_index numbers 0) (name_of (slice_index numbers 1)) (found_of (slice_index numbers 2));
  is_ok = slice_index numbers 3 == 1;
}
