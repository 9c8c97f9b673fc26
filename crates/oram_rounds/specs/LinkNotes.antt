-- What a link wants to have kept with its process.
use Rattle.std.specs.Prelude.{◌≡◌, ◌≢◌, ℕ, ◌+◌, ◌*◌, ◌<◌, ◌≤◌, List, length, slice_index_or, ⊤, []}
use Rattle.std.specs.List.{Contains}
use Rattle.oram_link_laws.specs.Runs.{Exchange}
use Rattle.oram_rounds.specs.Batches.{BatchOutcome}
use Rattle.oram_rounds.specs.declared.keeper.RecordChanges.{RecordChanges}
use Rattle.oram_rounds.specs.declared.keeper.RecordChanges.TheVariants.{Any, Records}

-- a short text, and records one behind the other, of which few change between two keepings
pub record LinkNote : Type 0 where
  pub text : List ℕ
  pub records : List ℕ

-- the byte at x is one of the record with the number i, if each record has `len` bytes
pub record IsByteOf (len i x : ℕ) : Type 0 where
  pub from : i * len ≤ x
  pub to : x < i * len + len

-- records of one length have become others, and only those with these numbers may differ
pub record DifferInRecords (len : ℕ) (numbers old new : List ℕ) : Type 0 where
  pub long : length new ≡ length old
  pub others : (x : ℕ) → ((i : ℕ) → Contains numbers i → IsByteOf len i x → ⊥) → slice_index_or new x 0 ≡ slice_index_or old x 0

-- records have become other ones, and this tells of each that differs
abbrev pub AreRecordsTold : RecordChanges → List ℕ → List ℕ → Type 0
AreRecordsTold Any old new = ⊤
AreRecordsTold (Records len numbers) old new = DifferInRecords len numbers.now old new

-- for links with these notes, which tell of each record that differs from given ones
module _ {B : Type 0} (notes : B → LinkNote) (tells : B → List ℕ → Type 0) where
  -- In a batch of some messages a link goes on telling of each record that differs. (One of no messages may be that it learns that its process
  -- was kept.)
  abbrev pub BatchesAreTold : (B → List (List ℕ) → BatchOutcome → List Exchange → B → Type 0) → Type 0
  BatchesAreTold batches = (l m : B) (bodies : List (List ℕ)) (o : BatchOutcome) (exchanges : List Exchange) (old : List ℕ) → bodies ≢ [] → batches l bodies o exchanges m
      → tells l old → tells m old

  -- once a link learns that its process was kept, it tells of each record that differs from those that were kept
  abbrev pub LearningCountsAnew : (B → ℕ → B → Type 0) → Type 0
  LearningCountsAnew learns = (l m : B) (check : ℕ) → learns l check m → tells m (notes l).records
