-- A process that keeps itself, together with the note and the records of its link.
use Rattle.std.specs.Prelude.{◌≡◌, ◌⊎◌, ℕ, true, false, List, ⊤}
use Rattle.std.specs.List.{FoldsTo}
use Rattle.oram_semantics.specs.Scheme.{Scheme}
use Rattle.oram_link_laws.specs.Runs.{Exchange}
use Rattle.oram_rounds.specs.Batches.{BatchOutcome}
use Rattle.oram_rounds.specs.Files.{IsFileWith, check_of}
use Rattle.oram_rounds.specs.LinkNotes.{LinkNote}
use Rattle.oram_rounds.specs.Process.{Act, Does, Process}
use Rattle.oram_rounds.specs.Process.Act.{Calls, GoesAhead, Hears, Keeps, Misses}
use Rattle.oram_rounds.specs.Rounds.{waiting}

-- for a device, links with these notes that learn of a keeping by `learns`, and a keeper that says which bytes may be read back
module _ (v : Scheme) {B K : Type 0} (notes : B → LinkNote) (learns : B → ℕ → B → Type 0) (reads_back : K → List ℕ → Type 0) where
  -- One file is read back from then on: the process's file, with the note and the records of the link below. That link learns the check of
  -- just this process.
  pub record IsKeptWithNote (p q : Process B K) : Type 0 where
    pub file : List ℕ
    pub is : IsFileWith v file (waiting p.link) (notes p.link.inner) p.core
    pub there : reads_back q.keeper file
    pub only : (bytes : List ℕ) → reads_back q.keeper bytes → bytes ≡ file
    pub learned : learns p.link.inner (check_of v (waiting p.link) (notes p.link.inner) p.core) q.link.inner

  -- If the keeper fails, that file is read back, or what was read back before.
  abbrev pub MayBeKeptWithNote : Process B K → Process B K → Type 0
  MayBeKeptWithNote p q = (bytes : List ℕ) → reads_back q.keeper bytes → IsFileWith v bytes (waiting p.link) (notes p.link.inner) p.core ⊎ reads_back p.keeper bytes

  -- if a process keeps itself in an act, then with the note
  abbrev pub IsNoted : Process B K → Act → Process B K → Type 0
  IsNoted p (Hears event x) q = ⊤
  IsNoted p (Calls o exchanges x) q = ⊤
  IsNoted p (Misses o exchanges) q = ⊤
  IsNoted p (GoesAhead exchanges) q = ⊤
  IsNoted p (Keeps true) q = IsKeptWithNote p q
  IsNoted p (Keeps false) q = MayBeKeptWithNote p q

  -- what a process does in several acts, one after the other, each keeping with the note
  abbrev pub DoesAllNoted : (B → List (List ℕ) → BatchOutcome → List Exchange → B → Type 0) → Process B K → List Act → Process B K → Type 0
  DoesAllNoted batches p acts q = FoldsTo {P = Process B K} (λ a act b. Does v batches reads_back a act b × IsNoted a act b) p acts q
