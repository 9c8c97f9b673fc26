-- The records of a path, sealed level by level.
use Rattle.std.proofs.Common.{◌≡◌, ℕ, ◌+◌, ◌-◌, ◌<◌, List, [], ◌∷◌, ◌++◌, length, take, drop, get_or, map, Bor, Vec, Global, inl, inr, refl, sym, ap, subst, ◌∙◌, append_assoc, arith}
use Rattle.std.proofs.lemmas.Bool.{cases_eq}
use Rattle.std.proofs.lemmas.List.{append-nil, get_or-map, get_or_push, get_or_append_left, length_push, length-append, take_all, drop_all, with_items_is}
use Rattle.std.proofs.Math.Seq.{take-append_seam, drop-append_seam}
use Rattle.std.proofs.lemmas.List.Elements.{All-push}
use Rattle.oram_hash.specs.Path.{digests_at}
use Rattle.oram_hash.specs.Rebuild.{IsJoined, IsRebuilt, StandsRebuilt, joined_from}
use Rattle.oram_hash.proofs.Joins.{joined_more}
use Rattle.oram_bucket.specs.Cell.{Cell}
use Rattle.oram_stash.specs.Eviction.{listed}
use Rattle.oram_tree.specs.Access.{Rewriting, IsSealedTo, IsAppended, part_at, reads_in, sealed_at}

-- the blocks that the lists borrow
abbrev pub lent : List (Vec (Bor Cell) Global) → List (List Cell)
lent lists = map (λ (list : Vec (Bor Cell) Global). map (λ (b : Bor Cell). b.now) list.items) lists

-- the list at a level, as the code reads it
pub lent_at : (lists : List (Vec (Bor Cell) Global)) (level : ℕ) (list : Vec (Bor Cell) Global) → level < length lists → list ≡ get_or lists level list → listed (lent lists) level ≡ map (λ (b : Bor Cell). b.now) list.items
lent_at lists level list lt is =
    let f = λ (v : Vec (Bor Cell) Global). map (λ (b : Bor Cell). b.now) v.items in
    get_or-map f lists level list [] lt ∙ ap f (sym is)

-- a property of each part at its level, and of one more part
at_more : (P : ℕ → List ℕ → Type 0) (parts : List (List ℕ)) (part : List ℕ) (n : ℕ) → length parts ≡ n → ((k : ℕ) → k < n → P k (part_at parts k)) → P n part → (k : ℕ) → k < n + 1 → P k (part_at (parts ++ part ∷ []) k)
at_more P parts part n long before here k lt = elim (cases_eq k n) [
  | inl last ↦ subst (P k) (sym (get_or_push parts part [] k (long ∙ sym last))) (let Q : ℕ → Type 0 = λ j. P j part in subst Q (sym last) here)
  | inr other ↦ subst (P k) (sym (get_or_append_left parts (part ∷ []) [] k (omega arith))) (before k (omega arith))
]

pub sealed_none : (w : Rewriting) (lists : List (List Cell)) (old : List ℕ) → IsSealedTo w lists 0 old old
sealed_none w lists old = record {
  parts = [];
  count = refl;
  lengths = λ k part lt. absurd (omega arith);
  gained = sym (append-nil old);
  sealed = λ level lt. absurd (omega arith);
  read_back = λ level lt. absurd (omega arith);
}

pub sealed_more : (w : Rewriting) (lists : List (List Cell)) (level : ℕ) (old mid after now part : List ℕ)
    → IsSealedTo w lists level old mid → length part + 64 ≡ w.path.record_len → after ≡ mid ++ part → now ≡ after ++ digests_at w.path level
    → part ≡ sealed_at w level (listed lists level) → reads_in w part (listed lists level) → IsSealedTo w lists (level + 1) old now
sealed_more w lists level old mid after now part s long first second is read =
    let so_far = joined_from w.path 0 s.parts in
    let digests = digests_at w.path level in
    let here : level ≡ 0 + length s.parts = omega (arith, s.count) in
    record {
      parts = s.parts ++ part ∷ [];
      count = length_push s.parts part ∙ ap (λ (n : ℕ). n + 1) s.count;
      lengths = All-push (λ (x : List ℕ). length x + 64 ≡ w.path.record_len) s.parts part s.lengths long;
      gained = second ∙ ap (λ xs. xs ++ digests) (first ∙ ap (λ xs. xs ++ part) s.gained ∙ append_assoc old so_far part) ∙ append_assoc old (so_far ++ part) digests
          ∙ ap (λ xs. old ++ xs) (ap (λ (l : ℕ). so_far ++ part ++ digests_at w.path l) here ∙ sym (joined_more w.path 0 s.parts part));
      sealed = at_more (λ k x. x ≡ sealed_at w k (listed lists k)) s.parts part level s.count s.sealed is;
      read_back = at_more (λ k x. reads_in w x (listed lists k)) s.parts part level s.count s.read_back read;
    }

-- a vector that is cut to its old length
pub cut_back : (old now gained : List ℕ) (n : ℕ) → n ≡ length old → now ≡ old ++ gained → take n now ≡ old
cut_back old now gained n long is = ap (λ m. take m now) long ∙ ap (take (length old)) is ∙ take-append_seam old gained

-- the bytes that the vector gained
pub gained_part : (old gained now : List ℕ) (n k : ℕ) → now ≡ old ++ gained → n ≡ length old → k ≡ length now - n → take k (drop n now) ≡ gained
gained_part old gained now n k is long rest =
    let after : drop n now ≡ gained = ap (λ m. drop m now) long ∙ ap (drop (length old)) is ∙ drop-append_seam old gained in
    ap (take k) after ∙ take_all k gained (omega (arith, ap length is, length-append old gained))

-- and the same part rewritten in place
pub written_back : (v : Vec ℕ Global) (old gained now new : List ℕ) (n k : ℕ) → v.items ≡ old ++ gained → now ≡ v.items → n ≡ length old → k ≡ length now - n → length new ≡ length (take k (drop n now))
    → (let xs : List ℕ = take n now ++ (new ++ drop k (drop n now)) in take v.len (xs ++ drop (length xs) v.items) ≡ old ++ new)
written_back v old gained now new n k items now_is long rest kept =
    let xs : List ℕ = take n now ++ (new ++ drop k (drop n now)) in
    let is : now ≡ old ++ gained = now_is ∙ items in
    let part = gained_part old gained now n k is long rest in
    let after : drop n now ≡ gained = ap (λ m. drop m now) long ∙ ap (drop (length old)) is ∙ drop-append_seam old gained in
    let none : drop k (drop n now) ≡ [] = ap (drop k) after ∙ drop_all k gained (omega (arith, ap length is, length-append old gained)) in
    let put : xs ≡ old ++ new = ap (λ ys. ys ++ (new ++ drop k (drop n now))) (cut_back old now gained n long is) ∙ ap (λ ys. old ++ ys) (ap (λ ys. new ++ ys) none ∙ append-nil new) in
    with_items_is v xs (omega (arith, ap length put, length-append old new, length-append old gained, ap length items, v.ok.0, ap length part, kept)) ∙ put

pub joined_whole : (w : Rewriting) (lists : List (List Cell)) (levels : ℕ) (old now part : List ℕ)
    → (s : IsSealedTo w lists levels old now) → levels ≡ w.path.depth + 1 → part ≡ joined_from w.path 0 s.parts → IsJoined w.path s.parts part
joined_whole w lists levels old now part s whole is = record { levels = s.count ∙ whole; lengths = s.lengths; joined = is }

pub appended : (w : Rewriting) (lists : List (List Cell)) (levels : ℕ) (old mid now records root : List ℕ)
    → (s : IsSealedTo w lists levels old mid) → levels ≡ w.path.depth + 1 → now ≡ old ++ records → IsRebuilt w.path s.parts records root → StandsRebuilt w.path records root
    → IsAppended w lists old now root
appended w lists levels old mid now records root s whole gained rebuilt stands = record {
  records = records;
  gained = gained;
  parts = s.parts;
  rebuilt = rebuilt;
  stands = stands;
  sealed = λ level le. s.sealed level (omega arith);
  read_back = λ level le. s.read_back level (omega arith);
}
