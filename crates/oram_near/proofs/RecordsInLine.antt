-- Records that lie one behind the other: one of them is replaced.
use Rattle.std.proofs.Common.{◌≡◌, ℕ, ◌+◌, ◌-◌, ◌*◌, ◌<◌, ◌≤◌, arith, List, ◌++◌, length, take, drop, sym, ap, ◌∙◌, inl, inr}
use Rattle.std.proofs.Math.Nat.{mul-le-mul_right}
use Rattle.std.proofs.lemmas.Bool.{cases_order}
use Rattle.std.proofs.lemmas.List.{drop-drop, drop-take, drop_at, length-append, length-drop, length-take-le, take-append-drop, take-append-le}
use Rattle.std.proofs.lemmas.Slice.{between-put_mid, between_is, drop-put_mid, take-put_mid_below}
use Rattle.oram_host.specs.Path.{record_at}
use Rattle.oram_near.specs.Completion.{PutsLevels}
use Rattle.oram_near.specs.Near.{PutsRecord}
use borrow.Rule.Slice.PartMut.{put_mid}

-- a part of the front of a list
copied : (records rest : List ℕ) (n a k : ℕ) → n ≤ length records → a + k ≤ n → take k (drop a (take n records ++ rest)) ≡ take k (drop a records)
copied records rest n a k some low =
    let size : length (take n records) ≡ n = length-take-le n records some in
    sym (drop-take a k (take n records ++ rest))
    ∙ ap (drop a) (take-append-le (a + k) (take n records) rest (omega (arith, size, low))
    ∙ sym (take-append-le (a + k) (take n records) (drop n records) (omega (arith, size, low))) ∙ ap (take (a + k)) (take-append-drop n records))
    ∙ drop-take a k records

module _ (len node k : ℕ) (record_bytes old : List ℕ) (size : k ≡ len) (whole : length record_bytes ≡ len) (there : (node + 1) * len ≤ length old) where
  abbrev new : List ℕ
  new = put_mid (node * len) k old record_bytes

  begins : node * len + len ≤ length old
  begins = let more : (node + 1) * len ≡ node * len + len = omega arith in omega (arith, more, there)

  above : (other : ℕ) → other < node → record_at len new other ≡ record_at len old other
  above other low =
      let most : (other + 1) * len ≤ node * len = mul-le-mul_right len (omega (arith, low)) in
      between_is new (other * len) ((other + 1) * len)
      ∙ ap (drop (other * len)) (take-put_mid_below (node * len) k old record_bytes ((other + 1) * len) most (omega (arith, begins)))
      ∙ sym (between_is old (other * len) ((other + 1) * len))

  below : (other : ℕ) → node < other → record_at len new other ≡ record_at len old other
  below other high =
      let least : (node + 1) * len ≤ other * len = mul-le-mul_right len (omega (arith, high)) in
      let more : (node + 1) * len ≡ node * len + len = omega arith in
      ap (take ((other + 1) * len - other * len))
      (drop-put_mid (node * len) k old record_bytes (other * len) (omega (arith, least, more, size)) (omega (arith, begins)) (whole ∙ sym size))

  long : length new ≡ length old
  long =
      let front : length (take (node * len) old) ≡ node * len = length-take-le (node * len) old (omega (arith, begins)) in
      length-append (take (node * len) old) (record_bytes ++ drop k (drop (node * len) old))
      ∙ omega (arith, front, length-append record_bytes (drop k (drop (node * len) old)), length-drop k (drop (node * len) old), length-drop (node * len) old, whole, size, begins)

  pub puts_record : PutsRecord len node record_bytes old new
  puts_record =
      let more : (node + 1) * len ≡ node * len + len = omega arith in
      record {
        long = long;
        put = between-put_mid (node * len) k old record_bytes ((node + 1) * len) (omega (arith, begins)) (omega (arith, more, whole));
        others = λ other apart. elim (cases_order other node) [
          | inl same ↦ absurd (apart same)
          | inr (inl low) ↦ above other low
          | inr (inr high) ↦ below other high
        ];
        behind = λ n least. drop-put_mid (node * len) k old record_bytes n (omega (arith, least, more, size)) (omega (arith, begins)) (whole ∙ sym size);
      }

-- the first records of a list are put where others were
module _ (len first count k : ℕ) (records old : List ℕ) (size : k ≡ count * len) (enough : count * len ≤ length records) (there : (first + count) * len ≤ length old) where
  abbrev part : List ℕ
  part = take (count * len) records

  abbrev changed : List ℕ
  changed = put_mid (first * len) k old part

  starts : first * len + count * len ≤ length old
  starts = let more : (first + count) * len ≡ first * len + count * len = omega arith in omega (arith, more, there)

  whole_part : length part ≡ count * len
  whole_part = length-take-le (count * len) records enough

  within : (level : ℕ) → first ≤ level → level < first + count → record_at len changed level ≡ record_at len records (level - first)
  within level low high =
      let i : ℕ = level - first in
      let at : level * len ≡ first * len + i * len = let e : level ≡ first + i = omega (arith, low) in ap (λ (n : ℕ). n * len) e ∙ omega arith in
      let most : (i + 1) * len ≤ count * len = mul-le-mul_right len (omega (arith, low, high)) in
      let more : (i + 1) * len ≡ i * len + len = omega arith in
      let upto : (level + 1) * len ≡ level * len + len = omega arith in
      let front : length (take (first * len) old) ≡ first * len = length-take-le (first * len) old (omega (arith, starts)) in
      let past : drop (level * len) changed ≡ drop (i * len) (part ++ drop k (drop (first * len) old)) =
      ap (λ (n : ℕ). drop n changed) at ∙ sym (drop-drop (i * len) (first * len) changed) ∙ ap (drop (i * len)) (drop_at (take (first * len) old) (part ++ drop k (drop (first * len) old)) (first * len) front) in
      ap (λ (n : ℕ). take n (drop (level * len) changed)) (let e : (level + 1) * len - level * len ≡ len = omega (arith, upto) in e)
      ∙ ap (take len) past ∙ copied records (drop k (drop (first * len) old)) (count * len) (i * len) len enough (omega (arith, most, more))
      ∙ sym (ap (λ (n : ℕ). take n (drop (i * len) records)) (let e : (i + 1) * len - i * len ≡ len = omega (arith, more) in e))

  pub puts_levels : PutsLevels len first count records old changed
  puts_levels = record {
    long =
        let front : length (take (first * len) old) ≡ first * len = length-take-le (first * len) old (omega (arith, starts)) in
        length-append (take (first * len) old) (part ++ drop k (drop (first * len) old))
        ∙ omega (arith, front, length-append part (drop k (drop (first * len) old)), length-drop k (drop (first * len) old), length-drop (first * len) old, whole_part, size, starts);
    put = within;
    above = λ level low.
        let most : (level + 1) * len ≤ first * len = mul-le-mul_right len (omega (arith, low)) in
        between_is changed (level * len) ((level + 1) * len)
        ∙ ap (drop (level * len)) (take-put_mid_below (first * len) k old part ((level + 1) * len) most (omega (arith, starts)))
        ∙ sym (between_is old (level * len) ((level + 1) * len));
    below = λ level high.
        let least : (first + count) * len ≤ level * len = mul-le-mul_right len high in
        let more : (first + count) * len ≡ first * len + count * len = omega arith in
        ap (take ((level + 1) * len - level * len))
        (drop-put_mid (first * len) k old part (level * len) (omega (arith, least, more, size)) (omega (arith, starts)) (whole_part ∙ sym size));
  }
