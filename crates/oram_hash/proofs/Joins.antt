-- Records that are joined from sealed parts and a path's digests.
use Rattle.std.proofs.Common.{◌≡◌, ℕ, zero, suc, ◌+◌, ◌-◌, ◌*◌, ◌<◌, ◌≤◌, refl, sym, arith, ap, ◌∙◌, inl, inr, List, [], ◌∷◌, ◌++◌, length, take, drop, slice_index_or, All, append_assoc, length-append}
use Rattle.std.proofs.Math.Seq.{take-add}
use Rattle.std.proofs.lemmas.Bool.{cases_eq, eq-eqb, ne_eqb}
use Rattle.std.proofs.lemmas.List.{take_at, drop_at, drop-drop, append-nil}
use Rattle.std.proofs.lemmas.List.Elements.{All-head, All-tail}
use Rattle.oram_hash.specs.Record.{no_digest, left_digest, right_digest}
use Rattle.oram_hash.specs.Path.{Path, HasLength, with_bytes, record_at, digests_at}
use Rattle.oram_hash.specs.Rebuild.{IsJoined, joined_from}
use Rattle.oram_hash.proofs.Rebuilds.{length-record_at, length-left_digest, length-right_digest}

pub digests_at-leaf : (p : Path) (level : ℕ) → level ≡ p.depth → digests_at p level ≡ no_digest ++ no_digest
unfolding digests_at
digests_at-leaf p level end = rw (eq-eqb level p.depth end) refl

pub digests_at-above : (p : Path) (level : ℕ) → level < p.depth → digests_at p level ≡ left_digest (record_at p level) ++ right_digest (record_at p level)
unfolding digests_at
digests_at-above p level h = rw (ne_eqb level p.depth (λ e. omega arith)) refl

-- a record ends with its two digests
pub both_digests : (r : List ℕ) → 64 ≤ length r → take (length r - (length r - 64)) (drop (length r - 64) r) ≡ left_digest r ++ right_digest r
unfolding left_digest right_digest
both_digests r h =
    let whole : length r - (length r - 64) ≡ 32 + 32 = omega arith in
    let left : length r - 32 - (length r - 64) ≡ 32 = omega arith in
    let right : length r - (length r - 32) ≡ 32 = omega arith in
    let seam : length r - 64 + 32 ≡ length r - 32 = omega arith in
    rw (whole, left, right) (take-add 32 32 (drop (length r - 64) r)
    ∙ ap (λ (xs : List ℕ). take 32 (drop (length r - 64) r) ++ take 32 xs) (drop-drop 32 (length r - 64) r ∙ ap (λ (m : ℕ). drop m r) seam))

-- each record of a path ends with the bytes of two digests
abbrev pub HasDigests : Path → Type 0
HasDigests p = (level : ℕ) → level ≤ p.depth → length (digests_at p level) ≡ 64

pub length-digests_at : (p : Path) → HasLength p → 64 ≤ p.record_len → HasDigests p
length-digests_at p whole room level h = elim (cases_eq level p.depth) [
  | inl end ↦ ap length (digests_at-leaf p level end)
  | inr above ↦
      let long : 64 ≤ length (record_at p level) = omega (arith, length-record_at p level whole h) in
      ap length (digests_at-above p level (omega arith)) ∙ length-append (left_digest (record_at p level)) (right_digest (record_at p level))
      ∙ omega (arith, length-left_digest (record_at p level) long, length-right_digest (record_at p level) long)
]

abbrev pub AreParts : Path → List (List ℕ) → Type 0
AreParts p parts = All (λ part. length part + 64 ≡ p.record_len) parts

-- one more part, followed by the path's digests
pub joined_more : (p : Path) (level : ℕ) (parts : List (List ℕ)) (part : List ℕ) → joined_from p level (parts ++ part ∷ []) ≡ joined_from p level parts ++ part ++ digests_at p (level + length parts)
joined_more p level [] part = append-nil (part ++ digests_at p level) ∙ ap (λ (l : ℕ). part ++ digests_at p l) (omega arith)
joined_more p level (x ∷ parts) part =
    ap (λ (bs : List ℕ). x ++ digests_at p level ++ bs) (joined_more p (level + 1) parts part)
    ∙ sym (append_assoc (x ++ digests_at p level) (joined_from p (level + 1) parts ++ part) (digests_at p (level + 1 + length parts)))
    ∙ ap (λ (bs : List ℕ). bs ++ digests_at p (level + 1 + length parts)) (sym (append_assoc (x ++ digests_at p level) (joined_from p (level + 1) parts) part))
    ∙ ap (λ (l : ℕ). x ++ digests_at p level ++ joined_from p (level + 1) parts ++ part ++ digests_at p l) (omega arith)

pub length-joined : (p : Path) (level : ℕ) (parts : List (List ℕ)) → HasDigests p → AreParts p parts → level + length parts ≤ p.depth + 1 → length (joined_from p level parts) ≡ length parts * p.record_len
length-joined p level [] digests all h = omega arith
length-joined p level (x ∷ parts) digests all h =
    let first : length x + 64 ≡ p.record_len = All-head (λ (part : List ℕ). length part + 64 ≡ p.record_len) x parts all in
    let rest = length-joined p (level + 1) parts digests (All-tail (λ (part : List ℕ). length part + 64 ≡ p.record_len) x parts all) (omega arith) in
    omega (arith, length-append (x ++ digests_at p level) (joined_from p (level + 1) parts), length-append x (digests_at p level), digests level (omega arith), rest, first)

first_len : (p : Path) (level : ℕ) (x : List ℕ) (parts : List (List ℕ)) → HasDigests p → AreParts p (x ∷ parts) → level ≤ p.depth → length (x ++ digests_at p level) ≡ p.record_len
first_len p level x parts digests all h =
    let first : length x + 64 ≡ p.record_len = All-head (λ (part : List ℕ). length part + 64 ≡ p.record_len) x parts all in
    length-append x (digests_at p level) ∙ omega (arith, digests level h, first)

-- the record at a level
pub part_of_joined : (p : Path) (from : ℕ) (parts : List (List ℕ)) (k : ℕ) → HasDigests p → AreParts p parts → from + length parts ≤ p.depth + 1 → k < length parts
    → take p.record_len (drop (k * p.record_len) (joined_from p from parts)) ≡ slice_index_or parts k [] ++ digests_at p (from + k)
part_of_joined p from [] k digests all room h = absurd (omega arith)
part_of_joined p from (x ∷ parts) zero digests all room h =
    let start : 0 * p.record_len ≡ 0 = omega arith in
    let place : from ≡ from + 0 = omega arith in
    ap (λ (n : ℕ). take p.record_len (drop n (x ++ digests_at p from ++ joined_from p (from + 1) parts))) start
    ∙ take_at (x ++ digests_at p from) (joined_from p (from + 1) parts) p.record_len (first_len p from x parts digests all (omega arith))
    ∙ ap (λ (l : ℕ). x ++ digests_at p l) place
part_of_joined p from (x ∷ parts) (suc k) digests all room h =
    let start : suc k * p.record_len ≡ p.record_len + k * p.record_len = omega arith in
    let place : from + 1 + k ≡ from + suc k = omega arith in
    let whole = x ++ digests_at p from ++ joined_from p (from + 1) parts in
    ap (λ (n : ℕ). take p.record_len (drop n whole)) start
    ∙ ap (take p.record_len) (sym (drop-drop (k * p.record_len) p.record_len whole)
    ∙ ap (drop (k * p.record_len)) (drop_at (x ++ digests_at p from) (joined_from p (from + 1) parts) p.record_len (first_len p from x parts digests all (omega arith))))
    ∙ part_of_joined p (from + 1) parts k digests (All-tail (λ (part : List ℕ). length part + 64 ≡ p.record_len) x parts all) (omega arith) (omega arith)
    ∙ ap (λ (l : ℕ). slice_index_or parts k [] ++ digests_at p l) place

pub joined_whole : (p : Path) (parts : List (List ℕ)) (bytes : List ℕ) → HasDigests p → IsJoined p parts bytes → HasLength (with_bytes p bytes)
joined_whole p parts bytes digests joined = ap length joined.joined ∙ length-joined p 0 parts digests joined.lengths (omega (arith, joined.levels)) ∙ ap (λ (n : ℕ). n * p.record_len) joined.levels

pub record_at-joined : (p : Path) (parts : List (List ℕ)) (bytes : List ℕ) (level : ℕ) → HasDigests p → IsJoined p parts bytes → level ≤ p.depth
    → record_at (with_bytes p bytes) level ≡ slice_index_or parts level [] ++ digests_at p level
unfolding record_at
record_at-joined p parts bytes level digests joined h =
    ap (λ (bs : List ℕ). take p.record_len (drop (level * p.record_len) bs)) joined.joined
    ∙ part_of_joined p 0 parts level digests joined.lengths (omega (arith, joined.levels)) (omega (arith, joined.levels))
    ∙ ap (λ (l : ℕ). slice_index_or parts level [] ++ digests_at p l) (omega arith)
