-- Small facts of a step.
use Rattle.std.proofs.Common.{◌≡◌, Bool, true, false, not, nat_le, if◌then◌else◌, Option, Some, None, length, ◌==◌, ℕ, zero, suc, ◌+◌, ◌-◌, ◌*◌, ◌%◌, ◌^◌, ◌<◌, List, replicate, slice_range, refl, ap, sym, ◌∙◌, arith}
use Rattle.std.proofs.lemmas.Bool.Decides.{nat_tests}
use Rattle.std.specs.Int.{w32, from_be_bytes}
use Rattle.oram_geometry.specs.declared.Sizes.{Sizes}
use Rattle.std.proofs.Math.Pow.{pow_mono}
use Rattle.oram_geometry.specs.Sizes.{fanout, blocks_in, trees_of, depth_of}
use Rattle.oram_tree.specs.Edits.{with_entry}
use Rattle.oram_semantics.specs.Content.{block_of, new_leaf}
use Rattle.oram_semantics.specs.Blocks.{entry_in, next_map_entry, block_after, left_by}
use Rattle.oram_semantics.specs.Events.{address_of}
use Rattle.oram_semantics.specs.Messages.{requested, message_place}
use Rattle.oram_semantics.specs.Run.{refusal_of, has_bad_length, is_over}
use Rattle.oram_semantics.specs.State.{State, status_by, status_in}
use Rattle.oram_semantics.proofs.Bounds.{depth_small}
use Rattle.oram_semantics.proofs.Maps.{block_after-zero, block_after-suc}
use Rattle.oram_semantics.specs.declared.events.Command.{Command}
use Rattle.oram_semantics.specs.declared.events.Command.TheVariants.{Read, Write, Discard}
use Rattle.oram_semantics.specs.declared.events.Reason.{Reason}
use Rattle.oram_semantics.specs.declared.events.Refusal.TheVariants as refusal
use Rattle.oram_semantics.specs.declared.events.Submission.{Submission}
use Rattle.oram_geometry.proofs.DeviceSizes.{blocks_in-zero}
use Rattle.oram_semantics.specs.Agree.{IsAllowed}

-- a block of tree 0 has no map entries
pub map_entry_none : (d : Sizes) (i : ℕ) (x : Submission) (bytes : List ℕ) → i ≡ 0 → 0 ≡ next_map_entry d i x bytes
unfolding next_map_entry
map_entry_none d zero x bytes e = refl
map_entry_none d (suc i) x bytes e = absurd (omega arith)

-- a map block has an entry for the command's block in the tree below
pub map_entry_some : (d : Sizes) (i : ℕ) (x : Submission) (bytes : List ℕ) → 0 < i → (let j = block_of d (i - 1) x % fanout d in from_be_bytes w32 (slice_range bytes (4 * j) (4 * j + 4)) ≡ next_map_entry d i x bytes)
unfolding next_map_entry entry_in
map_entry_some d zero x bytes e = absurd (omega arith)
map_entry_some d (suc i) x bytes e = ap (λ (k : ℕ). entry_in bytes (block_of d k x % fanout d)) (let same : suc i - 1 ≡ i = omega arith in same)

passed : (a b c e f : Bool) →
    (if a then Some refusal.BadAddress else if b then Some refusal.BadLength else if c then Some refusal.BadWords else if e then Some refusal.Busy else if f then Some refusal.Exhausted else None) ≡ None →
    (a ≡ false) × (b ≡ false) × (c ≡ false) × (e ≡ false) × (f ≡ false)
passed true b c e f h = absurd (let no_way : Some refusal.BadAddress ≡ None = h in cc)
passed false true c e f h = absurd (let no_way : Some refusal.BadLength ≡ None = h in cc)
passed false false true e f h = absurd (let no_way : Some refusal.BadWords ≡ None = h in cc)
passed false false false true f h = absurd (let no_way : Some refusal.Busy ≡ None = h in cc)
passed false false false false true h = absurd (let no_way : Some refusal.Exhausted ≡ None = h in cc)
passed false false false false false h = (refl, refl, refl, refl, refl)

-- a command that isn't refused is one that the device allows
pub record IsFine (d : Sizes) (waiting taken : ℕ) (c : Command) (words : List ℕ) : Type 0 where
  pub address : address_of c < blocks_in d 0
  pub bytes : has_bad_length d c ≡ false
  pub words_count : length words ≡ 2 * trees_of d
  pub few : waiting < 64
  pub lifetime : taken < d.lifetime

pub fine : (d : Sizes) (failed : Bool) (waiting taken : ℕ) (c : Command) (words : List ℕ) → refusal_of d failed waiting taken c words ≡ None → (failed ≡ false) × IsFine d waiting taken c words
fine d true waiting taken c words free = absurd (let no_way : Some refusal.Failed ≡ None = free in cc)
fine d false waiting taken c words free =
    let p : (nat_le d.blocks (address_of c) ≡ false) × (has_bad_length d c ≡ false) × (not (length words == 2 * trees_of d) ≡ false) × (nat_le 64 waiting ≡ false) × (nat_le d.lifetime taken ≡ false) =
    passed (nat_le d.blocks (address_of c)) (has_bad_length d c) (not (length words == 2 * trees_of d)) (nat_le 64 waiting) (nat_le d.lifetime taken) free in (
      refl,
      record {
        address = rw (blocks_in-zero d) (grind (arith, nat_tests, p.0));
        bytes = p.1;
        words_count = grind (arith, nat_tests, p.2);
        few = grind (arith, nat_tests, p.3);
        lifetime = grind (arith, nat_tests, p.4);
      },
    )

pub fine_allowed : (d : Sizes) (waiting taken session ticket : ℕ) (c : Command) (words : List ℕ) → IsFine d waiting taken c words → IsAllowed d (record { session = session; ticket = ticket; command = c; words = words })
fine_allowed d waiting taken session ticket c words f = record { address = f.address; words = f.words_count; data_length = f.bytes }

-- if a core's state gives no reason to refuse a command, the device allows it,
pub granted : (d : Sizes) (s : State) (c : Command) (words : List ℕ) → refusal_of d (is_over (status_in s)) (length s.queue) s.next c words ≡ None → IsFine d (length s.queue) s.next c words
granted d s c words free = (fine d (is_over (status_in s)) (length s.queue) s.next c words free).1

not_over : (failure : Option Reason) (queue : List Submission) (lost : Bool) → is_over (status_by failure queue lost) ≡ false → failure ≡ None
not_over None queue lost h = refl
not_over (Some e) queue lost h = absurd (let no_way : true ≡ false = h in cc)

-- and the core hasn't failed
pub unfailed : (d : Sizes) (s : State) (c : Command) (words : List ℕ) → refusal_of d (is_over (status_in s)) (length s.queue) s.next c words ≡ None → s.failure ≡ None
unfailed d s c words free = not_over s.failure s.queue s.lost (fine d (is_over (status_in s)) (length s.queue) s.next c words free).0

-- a copied command is the same
pub copied : (session n m : ℕ) (c d : Command) (w u x : List ℕ) → n ≡ m → d ≡ c → u ≡ w → w ≡ x →
    (let y : Submission = record { session = session; ticket = n; command = d; words = u } in let z : Submission = record { session = session; ticket = m; command = c; words = x } in y ≡ z)
copied session n m c d w u x ticket command words whole = cc

-- a read leaves its block unchanged,
pub block_read : (d : Sizes) (i : ℕ) (x : Submission) (a : ℕ) (bytes : List ℕ) → i ≡ 0 → x.command ≡ Read a → bytes ≡ block_after d i x bytes
block_read d zero x a bytes none is = sym (block_after-zero d x bytes ∙ ap (λ c. left_by d c bytes) is)
block_read d (suc i) x a bytes none is = absurd (omega arith)

-- a write replaces it,
pub block_written : (d : Sizes) (i : ℕ) (x : Submission) (a : ℕ) (new bytes : List ℕ) → i ≡ 0 → x.command ≡ Write a new → new ≡ block_after d i x bytes
block_written d zero x a new bytes none is = sym (block_after-zero d x bytes ∙ ap (λ c. left_by d c bytes) is)
block_written d (suc i) x a new bytes none is = absurd (omega arith)

-- a discard replaces it by zeros,
pub block_discarded : (d : Sizes) (i : ℕ) (x : Submission) (a : ℕ) (bytes : List ℕ) → i ≡ 0 → x.command ≡ Discard a → replicate d.block_bytes 0 ≡ block_after d i x bytes
block_discarded d zero x a bytes none is = sym (block_after-zero d x bytes ∙ ap (λ c. left_by d c bytes) is)
block_discarded d (suc i) x a bytes none is = absurd (omega arith)

-- and in a map block an entry changes
pub block_mapped : (d : Sizes) (i : ℕ) (x : Submission) (bytes : List ℕ) (j leaf : ℕ) → 0 < i → j ≡ block_of d (i - 1) x % fanout d → leaf ≡ new_leaf d (i - 1) x → with_entry bytes j (leaf + 1) ≡ block_after d i x bytes
block_mapped d zero x bytes j leaf some place is = absurd (omega arith)
block_mapped d (suc i) x bytes j leaf some place is =
    let same : suc i - 1 ≡ i = omega arith in
    ap (λ k. with_entry bytes k (leaf + 1)) (place ∙ ap (λ k. block_of d k x % fanout d) same)
    ∙ ap (λ k. with_entry bytes (block_of d i x % fanout d) (k + 1)) (is ∙ ap (λ k. new_leaf d k x) same)
    ∙ sym (block_after-suc d i x bytes)

-- a leaf is a small number
pub leaf_fits : (d : Sizes) (i leaf : ℕ) → leaf < 2 ^ depth_of d i → leaf < 2 ^ 24
leaf_fits d i leaf fits = omega (arith, fits, pow_mono {i = depth_of d i} {j = 24} (depth_small d i))

pub requested_leaf : (m : List ℕ) → message_place m ≡ (requested m).leaf
unfolding requested
requested_leaf m = refl
