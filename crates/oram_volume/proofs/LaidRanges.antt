-- What the commands of a range of blocks do to an array that is laid out.
use Rattle.std.proofs.Common.{◌≡◌, ℕ, zero, suc, ◌+◌, ◌-◌, ◌*◌, ◌<◌, ◌≤◌, List, [], ◌∷◌, ◌++◌, All, length, take, drop, refl, sym, ap, ◌∙◌, subst, arith, length-drop, length-take-le, mul-suc, mul-zero, mul-add}
use Rattle.std.proofs.lemmas.List.{take-append-drop}
use Rattle.std.proofs.lemmas.List.Elements.{All-cons, All-nil}
use Rattle.std.proofs.Math.Nat.{lt_of_mul-lt-mul_left, mul-le-mul_left}
use Rattle.std.specs.List.{flat_map}
use Rattle.oram_geometry.specs.declared.Sizes.{Sizes}
use Rattle.oram_semantics.specs.ArrayReplies.{array_after}
use Rattle.oram_semantics.specs.declared.events.Command.TheVariants.{Discard, Read, Write}
use Rattle.oram_nbd.specs.Bytes.{IsBegun, bytes_at, written, zeroes}
use Rattle.oram_nbd.proofs.Splices.{begun_more, begun_none, begun_zeroes, bytes_at_more, written_none, written_twice, zeroed_more}
use Rattle.oram_volume.specs.Blocks.{IsLaidOut}
use Rattle.oram_volume.specs.CarriedOut.{after_commands, bodies_from}
use Rattle.oram_volume.specs.DiskCalls.{data_of}
use Rattle.oram_volume.specs.RangeCommands.{FitsDevice, discard_commands, read_commands, write_commands}
use Rattle.oram_volume.proofs.Layouts.{laid_after_discard, laid_after_read, laid_after_write, length_laid, read_laid}

-- a range of blocks whose bytes lie within the bytes of a device is one of its blocks
pub blocks_within : (b first count n : ℕ) → 0 < b → b * first + b * count ≤ b * n → first + count ≤ n
blocks_within b first count n some fits =
    let both : b * (first + count) ≡ b * first + b * count = mul-add b first count in
    let more : b * suc n ≡ b * n + b = mul-suc b n in
    let below : first + count < suc n = lt_of_mul-lt-mul_left b (omega arith) in
    omega arith

module _ (d : Sizes) where
  -- the bytes of a range of blocks lie within those of the device
  bytes_within : (first n : ℕ) (array : ℕ → List ℕ) (bytes : List ℕ) → IsLaidOut d array bytes → first + n ≤ d.blocks → d.block_bytes * first + d.block_bytes * n ≤ length bytes
  bytes_within first n array bytes laid within =
      let all : length bytes ≡ d.block_bytes * d.blocks = length_laid d array bytes laid in
      let both : d.block_bytes * (first + n) ≡ d.block_bytes * first + d.block_bytes * n = mul-add d.block_bytes first n in
      let most : d.block_bytes * (first + n) ≤ d.block_bytes * d.blocks = mul-le-mul_left d.block_bytes within in
      omega arith

  -- ---- writes

  pub writes_fit : (n first : ℕ) (payload : List ℕ) → length payload ≡ d.block_bytes * n → first + n ≤ d.blocks → All (FitsDevice d) (write_commands d.block_bytes first n payload)
  writes_fit zero first payload long within = All-nil (FitsDevice d)
  writes_fit (suc n) first payload long within =
      let more : d.block_bytes * suc n ≡ d.block_bytes * n + d.block_bytes = mul-suc d.block_bytes n in
      let rest : length (drop d.block_bytes payload) ≡ length payload - d.block_bytes = length-drop d.block_bytes payload in
      All-cons (FitsDevice d) (Write first (take d.block_bytes payload)) (write_commands d.block_bytes (suc first) n (drop d.block_bytes payload))
      (omega arith, length-take-le d.block_bytes payload (omega arith))
      (writes_fit n (suc first) (drop d.block_bytes payload) (omega arith) (omega arith))

  -- after the first of these writes
  first_written : (n first : ℕ) (payload : List ℕ) (array : ℕ → List ℕ) (bytes : List ℕ) → IsLaidOut d array bytes → length payload ≡ d.block_bytes * suc n → first + suc n ≤ d.blocks
      → IsLaidOut d (array_after d (Write first (take d.block_bytes payload)) array) (written bytes (d.block_bytes * first) (take d.block_bytes payload))
  first_written n first payload array bytes laid long within =
      let more : d.block_bytes * suc n ≡ d.block_bytes * n + d.block_bytes = mul-suc d.block_bytes n in
      laid_after_write d first first (take d.block_bytes payload) (take d.block_bytes payload) refl (omega arith) refl
      (length-take-le d.block_bytes payload (omega arith)) array bytes laid

  length_rest : (n : ℕ) (payload : List ℕ) → length payload ≡ d.block_bytes * suc n → length (drop d.block_bytes payload) ≡ d.block_bytes * n
  length_rest n payload long =
      let more : d.block_bytes * suc n ≡ d.block_bytes * n + d.block_bytes = mul-suc d.block_bytes n in
      let rest : length (drop d.block_bytes payload) ≡ length payload - d.block_bytes = length-drop d.block_bytes payload in
      omega arith

  none_of : (payload : List ℕ) → length payload ≡ 0 → payload ≡ []
  none_of [] none = refl
  none_of (x ∷ rest) none = absurd (omega arith)

  pub laid_after_writes : (n first : ℕ) (payload : List ℕ) (array : ℕ → List ℕ) (bytes : List ℕ) → IsLaidOut d array bytes → length payload ≡ d.block_bytes * n → first + n ≤ d.blocks
      → IsLaidOut d (after_commands d (write_commands d.block_bytes first n payload) array) (written bytes (d.block_bytes * first) payload)
  laid_after_writes zero first payload array bytes laid long within =
      subst (λ (l : List ℕ). IsLaidOut d array l) (sym (ap (written bytes (d.block_bytes * first)) (none_of payload (long ∙ mul-zero d.block_bytes)) ∙ written_none bytes (d.block_bytes * first))) laid
  laid_after_writes (suc n) first payload array bytes laid long within =
      let b = d.block_bytes in
      let front : List ℕ = take b payload in
      let rest : List ℕ = drop b payload in
      let more : b * suc n ≡ b * n + b = mul-suc b n in
      let place : b * suc first ≡ b * first + b = mul-suc b first in
      let short : length front ≡ b = length-take-le b payload (omega arith) in
      let fits : b * first + b * suc n ≤ length bytes = bytes_within first (suc n) array bytes laid within in
      subst (λ (l : List ℕ). IsLaidOut d (after_commands d (write_commands b (suc first) n rest) (array_after d (Write first front) array)) l)
      (ap (λ (k : ℕ). written (written bytes (b * first) front) k rest) (place ∙ ap (λ (k : ℕ). b * first + k) (sym short))
      ∙ written_twice bytes (b * first) front rest (omega arith) ∙ ap (written bytes (b * first)) (take-append-drop b payload))
      (laid_after_writes n (suc first) rest (array_after d (Write first front) array) (written bytes (b * first) front)
      (first_written n first payload array bytes laid long within) (length_rest n payload long) (omega arith))

  -- some of them, from the first on
  pub begun_writes : (k n first : ℕ) (payload : List ℕ) (array : ℕ → List ℕ) (bytes : List ℕ) → IsLaidOut d array bytes → length payload ≡ d.block_bytes * n → first + n ≤ d.blocks
      → (later : List ℕ) × IsBegun bytes (d.block_bytes * first) payload later × IsLaidOut d (after_commands d (take k (write_commands d.block_bytes first n payload)) array) later
  begun_writes zero n first payload array bytes laid long within = (bytes, begun_none bytes (d.block_bytes * first) payload, laid)
  begun_writes (suc k) zero first payload array bytes laid long within = (bytes, begun_none bytes (d.block_bytes * first) payload, laid)
  begun_writes (suc k) (suc n) first payload array bytes laid long within =
      let b = d.block_bytes in
      let front : List ℕ = take b payload in
      let rest : List ℕ = drop b payload in
      let more : b * suc n ≡ b * n + b = mul-suc b n in
      let place : b * suc first ≡ b * first + b = mul-suc b first in
      let fits : b * first + b * suc n ≤ length bytes = bytes_within first (suc n) array bytes laid within in
      let h = begun_writes k n (suc first) rest (array_after d (Write first front) array) (written bytes (b * first) front)
      (first_written n first payload array bytes laid long within) (length_rest n payload long) (omega arith) in (
        h.0,
        begun_more bytes h.0 (b * first) b rest payload (omega arith) (omega arith) refl (subst (λ (p : ℕ). IsBegun (written bytes (b * first) front) p rest h.0) place h.1),
        h.2,
      )

  -- ---- discards

  pub discards_fit : (n first : ℕ) → first + n ≤ d.blocks → All (FitsDevice d) (discard_commands first n)
  discards_fit zero first within = All-nil (FitsDevice d)
  discards_fit (suc n) first within = All-cons (FitsDevice d) (Discard first) (discard_commands (suc first) n) (omega arith) (discards_fit n (suc first) (omega arith))

  first_zeroed : (n first : ℕ) (array : ℕ → List ℕ) (bytes : List ℕ) → IsLaidOut d array bytes → first + suc n ≤ d.blocks
      → IsLaidOut d (array_after d (Discard first) array) (written bytes (d.block_bytes * first) (zeroes d.block_bytes))
  first_zeroed n first array bytes laid within = laid_after_discard d first first refl (omega arith) array bytes laid

  pub laid_after_discards : (n first : ℕ) (array : ℕ → List ℕ) (bytes : List ℕ) → IsLaidOut d array bytes → first + n ≤ d.blocks
      → IsLaidOut d (after_commands d (discard_commands first n) array) (written bytes (d.block_bytes * first) (zeroes (d.block_bytes * n)))
  laid_after_discards zero first array bytes laid within =
      subst (λ (l : List ℕ). IsLaidOut d array l)
      (sym (ap (λ (k : ℕ). written bytes (d.block_bytes * first) (zeroes k)) (mul-zero d.block_bytes) ∙ written_none bytes (d.block_bytes * first))) laid
  laid_after_discards (suc n) first array bytes laid within =
      let b = d.block_bytes in
      let more : b * suc n ≡ b * n + b = mul-suc b n in
      let whole : b + b * n ≡ b * suc n = omega arith in
      let place : b * suc first ≡ b * first + b = mul-suc b first in
      let fits : b * first + b * suc n ≤ length bytes = bytes_within first (suc n) array bytes laid within in
      subst (λ (l : List ℕ). IsLaidOut d (after_commands d (discard_commands (suc first) n) (array_after d (Discard first) array)) l)
      (ap (λ (k : ℕ). written (written bytes (b * first) (zeroes b)) k (zeroes (b * n))) place
      ∙ zeroed_more bytes (b * first) b (b * suc n) fits (b * n) (omega arith) ∙ ap (λ (k : ℕ). written bytes (b * first) (zeroes k)) whole)
      (laid_after_discards n (suc first) (array_after d (Discard first) array) (written bytes (b * first) (zeroes b)) (first_zeroed n first array bytes laid within) (omega arith))

  pub begun_discards : (k n first : ℕ) (array : ℕ → List ℕ) (bytes : List ℕ) → IsLaidOut d array bytes → first + n ≤ d.blocks
      → (later : List ℕ) × IsBegun bytes (d.block_bytes * first) (zeroes (d.block_bytes * n)) later × IsLaidOut d (after_commands d (take k (discard_commands first n)) array) later
  begun_discards zero n first array bytes laid within = (bytes, begun_none bytes (d.block_bytes * first) (zeroes (d.block_bytes * n)), laid)
  begun_discards (suc k) zero first array bytes laid within = (bytes, begun_none bytes (d.block_bytes * first) (zeroes (d.block_bytes * 0)), laid)
  begun_discards (suc k) (suc n) first array bytes laid within =
      let b = d.block_bytes in
      let more : b * suc n ≡ b * n + b = mul-suc b n in
      let left : b * n ≡ b * suc n - b = omega arith in
      let place : b * suc first ≡ b * first + b = mul-suc b first in
      let fits : b * first + b * suc n ≤ length bytes = bytes_within first (suc n) array bytes laid within in
      let h = begun_discards k n (suc first) (array_after d (Discard first) array) (written bytes (b * first) (zeroes b)) (first_zeroed n first array bytes laid within) (omega arith) in (
        h.0,
        begun_zeroes bytes (b * first) b (b * suc n) fits h.0 (omega arith)
            (subst (λ (k : ℕ). IsBegun (written bytes (b * first) (zeroes b)) (b * first + b) (zeroes k) h.0) left
            (subst (λ (p : ℕ). IsBegun (written bytes (b * first) (zeroes b)) p (zeroes (b * n)) h.0) place h.1)),
        h.2,
      )

  -- ---- reads

  pub reads_fit : (n first : ℕ) → first + n ≤ d.blocks → All (FitsDevice d) (read_commands first n)
  reads_fit zero first within = All-nil (FitsDevice d)
  reads_fit (suc n) first within = All-cons (FitsDevice d) (Read first) (read_commands (suc first) n) (omega arith) (reads_fit n (suc first) (omega arith))

  pub laid_after_reads : (n first : ℕ) (array : ℕ → List ℕ) (bytes : List ℕ) → IsLaidOut d array bytes → IsLaidOut d (after_commands d (read_commands first n) array) bytes
  laid_after_reads zero first array bytes laid = laid
  laid_after_reads (suc n) first array bytes laid = laid_after_reads n (suc first) (array_after d (Read first) array) bytes (laid_after_read d first array bytes laid)

  pub begun_reads : (k n first : ℕ) (array : ℕ → List ℕ) (bytes : List ℕ) → IsLaidOut d array bytes → IsLaidOut d (after_commands d (take k (read_commands first n)) array) bytes
  begun_reads zero n first array bytes laid = laid
  begun_reads (suc k) zero first array bytes laid = laid
  begun_reads (suc k) (suc n) first array bytes laid = begun_reads k n (suc first) (array_after d (Read first) array) bytes (laid_after_read d first array bytes laid)

  -- their data are the bytes of the range
  pub data_read : (n first : ℕ) (array : ℕ → List ℕ) (bytes : List ℕ) → IsLaidOut d array bytes → first + n ≤ d.blocks
      → flat_map data_of (bodies_from d (read_commands first n) array) ≡ bytes_at bytes (d.block_bytes * first) (d.block_bytes * n)
  data_read zero first array bytes laid within = ap (λ (k : ℕ). bytes_at bytes (d.block_bytes * first) k) (sym (mul-zero d.block_bytes))
  data_read (suc n) first array bytes laid within =
      let b = d.block_bytes in
      let more : b * suc n ≡ b * n + b = mul-suc b n in
      let whole : b + b * n ≡ b * suc n = omega arith in
      let place : b * suc first ≡ b * first + b = mul-suc b first in
      let rest : flat_map data_of (bodies_from d (read_commands (suc first) n) (array_after d (Read first) array)) ≡ bytes_at bytes (b * suc first) (b * n) =
      data_read n (suc first) (array_after d (Read first) array) bytes (laid_after_read d first array bytes laid) (omega arith) in
      ap (λ (l : List ℕ). l ++ flat_map data_of (bodies_from d (read_commands (suc first) n) (array_after d (Read first) array))) (sym (read_laid d array bytes first laid (omega arith)))
      ∙ ap (λ (l : List ℕ). bytes_at bytes (b * first) b ++ l) (rest ∙ ap (λ (k : ℕ). bytes_at bytes k (b * n)) place)
      ∙ bytes_at_more bytes (b * first) b (b * n) ∙ ap (λ (k : ℕ). bytes_at bytes (b * first) k) whole

  -- writes and discards have none
  pub data_writes : (n first : ℕ) (payload : List ℕ) (array : ℕ → List ℕ) → flat_map data_of (bodies_from d (write_commands d.block_bytes first n payload) array) ≡ []
  data_writes zero first payload array = refl
  data_writes (suc n) first payload array = data_writes n (suc first) (drop d.block_bytes payload) (array_after d (Write first (take d.block_bytes payload)) array)

  pub data_discards : (n first : ℕ) (array : ℕ → List ℕ) → flat_map data_of (bodies_from d (discard_commands first n) array) ≡ []
  data_discards zero first array = refl
  data_discards (suc n) first array = data_discards n (suc first) (array_after d (Discard first) array)
