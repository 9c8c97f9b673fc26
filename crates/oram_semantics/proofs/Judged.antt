-- The result of the check of a path, in terms of what an answer means.
use Rattle.std.proofs.Common.{◌≡◌, ◌≢◌, ℕ, zero, suc, ◌+◌, ◌*◌, ◌^◌, ◌<◌, ◌≤◌, ◌==◌, ◌&&◌, not, Bool, true, false, if◌then◌else◌, cond, List, [], ◌∷◌, ◌++◌, length, take, drop, slice_index, nat_le, Some, refl, ap, sym, ◌∙◌, arith, inl, inr, length-append}
use Rattle.std.specs.List.{find, range_with_len, flat_map}
use Rattle.std.specs.Str.{bytes_eq}
use Rattle.std.proofs.lemmas.Slice.Eq.{bytes_eq-Decides}
use Rattle.std.proofs.lemmas.List.{drop-drop, length-drop, take-append-drop, take_at, drop_at}
use Rattle.std.proofs.lemmas.Nat.{pow-add}
use Rattle.std.proofs.lemmas.Bool.{cases_eq}
use Rattle.std.proofs.lemmas.Bool.Decides.{nat_tests}
use Rattle.oram_geometry.specs.Sizes.{depth_of}
use Rattle.oram_geometry.specs.Path.{node_on}
use Rattle.oram_geometry.proofs.Nodes.{node_on-inner, node_on-leaf}
use Rattle.oram_trace.specs.declared.entries.Entry.{Entry}
use Rattle.oram_hash.specs.Path.{Path, record_at, HasLength}
use Rattle.oram_hash.specs.Tree.{IsStored, IsPathOf, IsFirstOther, Collides}
use Rattle.oram_semantics.specs.Scheme.{Scheme, record_len}
use Rattle.oram_semantics.specs.Messages.{levels}
use Rattle.oram_semantics.specs.Answers.{first_other, path_in, good_answer, answered_path, is_last_stored, outcome_of, pair_in, is_payload, is_refusal, reason_for}
use Rattle.oram_semantics.specs.Answers.Outcome.{Good, NoRoom, Fails}
use Rattle.oram_semantics.specs.declared.events.Reason.TheVariants.{Tampered}

pub bytes_same : (xs ys : List ℕ) → xs ≡ ys → bytes_eq xs ys ≡ true
bytes_same xs ys e = (bytes_eq-Decides xs ys).1 e

pub bytes_differ : (xs ys : List ℕ) → xs ≢ ys → bytes_eq xs ys ≡ false
bytes_differ xs ys ne = elim (bytes_eq xs ys) as (λ b. (b ≡ true → xs ≡ ys) → b ≡ false) [ true ↦ λ h. absurd (ne (h refl)) | false ↦ λ h. refl ] (bytes_eq-Decides xs ys).0

-- the first number of a range that passes
first_in : (p : ℕ → Bool) (a n l : ℕ) → a ≤ l → l < a + n → ((k : ℕ) → a ≤ k → k < l → p k ≡ false) → p l ≡ true
    → find p (range_with_len a n) ≡ Some l
first_in p a zero l low high before here = absurd (omega arith)
first_in p a (suc n) l low high before here = elim (cases_eq a l) [
  | inl same ↦ ap (λ b. cond b (Some a) (find p (range_with_len (a + 1) n))) (ap p same ∙ here) ∙ ap (λ (k : ℕ). Some k) same
  | inr apart ↦ ap (λ b. cond b (Some a) (find p (range_with_len (a + 1) n))) (before a (omega arith) (omega arith)) ∙ first_in p (a + 1) n l (omega arith) (omega arith) (λ k least most. before k (omega arith) most) here
]

pub first_is : (records : ℕ → List ℕ) (p : Path) (l : ℕ) → IsFirstOther records p l → first_other records p ≡ Some l
unfolding first_other
first_is records p l h =
    first_in (λ k. not (is_last_stored records p k)) 0 (p.depth + 1) l (omega arith) (let w : l ≤ p.depth = h.within in omega arith)
    (λ k low high. ap not (bytes_same _ _ (h.same_above k high)))
    (ap not (bytes_differ _ _ h.differs))

-- two records with the same digest are noticed
pub pair_is : (v : Scheme) (records : ℕ → ℕ → List ℕ) (e : Entry) (bytes : List ℕ) → is_payload v e bytes ≡ true
    → Collides (records e.tree) (answered_path v e bytes) → pair_in v records e bytes ≡ true
unfolding pair_in
pair_is v records e bytes payload h =
    rw (payload, first_is (records e.tree) (answered_path v e bytes) h.0 h.1) (bytes_same _ _ h.2)

no_bytes : (xs : List ℕ) → length xs ≡ 0 → xs ≡ []
no_bytes [] e = refl
no_bytes (x ∷ xs) e = absurd (omega arith)

-- bytes that are cut into equal parts
chunks : (size : ℕ) (f : ℕ → List ℕ) (bytes : List ℕ) (a n : ℕ) → length (drop (a * size) bytes) ≡ n * size
    → ((k : ℕ) → a ≤ k → k < a + n → take size (drop (k * size) bytes) ≡ f k)
    → drop (a * size) bytes ≡ flat_map f (range_with_len a n)
chunks size f bytes a zero long h = no_bytes (drop (a * size) bytes) (long ∙ omega arith)
chunks size f bytes a (suc n) long h =
    let next : drop size (drop (a * size) bytes) ≡ drop ((a + 1) * size) bytes =
    drop-drop size (a * size) bytes ∙ ap (λ k. drop k bytes) (omega arith) in
    let rest : length (drop ((a + 1) * size) bytes) ≡ n * size =
    sym (ap length next) ∙ length-drop size (drop (a * size) bytes) ∙ omega arith in
    sym (take-append-drop size (drop (a * size) bytes))
    ∙ ap (λ xs. xs ++ drop size (drop (a * size) bytes)) (h a (omega arith) (omega arith))
    ∙ ap (λ xs. f a ++ xs) (next ∙ chunks size f bytes (a + 1) n rest (λ k low high. h k (omega arith) (omega arith)))

-- and a part of them
chunk_at : (size : ℕ) (f : ℕ → List ℕ) (a n j : ℕ) → j < n → ((b : ℕ) → a ≤ b → b < a + n → length (f b) ≡ size)
    → take size (drop (j * size) (flat_map f (range_with_len a n))) ≡ f (a + j)
chunk_at size f a zero j below h = absurd (omega arith)
chunk_at size f a (suc n) zero below h =
    let none : 0 * size ≡ 0 = omega arith in
    let here : a + 0 ≡ a = omega arith in
    ap (λ k. take size (drop k (f a ++ flat_map f (range_with_len (a + 1) n)))) none
    ∙ take_at (f a) (flat_map f (range_with_len (a + 1) n)) size (h a (omega arith) (omega arith)) ∙ ap f (sym here)
chunk_at size f a (suc n) (suc j) below h =
    let more : suc j * size ≡ size + j * size = omega arith in
    let next : a + 1 + j ≡ a + suc j = omega arith in
    ap (λ k. take size (drop k (f a ++ flat_map f (range_with_len (a + 1) n)))) more
    ∙ ap (take size) (sym (drop-drop (j * size) size (f a ++ flat_map f (range_with_len (a + 1) n))))
    ∙ ap (λ xs. take size (drop (j * size) xs)) (drop_at (f a) (flat_map f (range_with_len (a + 1) n)) size (h a (omega arith) (omega arith)))
    ∙ chunk_at size f (a + 1) n j (omega arith) (λ b low high. h b (omega arith) (omega arith)) ∙ ap f next

-- their total length
pub length_chunks : (size : ℕ) (f : ℕ → List ℕ) (a n : ℕ) → ((b : ℕ) → a ≤ b → b < a + n → length (f b) ≡ size)
    → length (flat_map f (range_with_len a n)) ≡ n * size
length_chunks size f a zero h = omega arith
length_chunks size f a (suc n) h =
    length-append (f a) (flat_map f (range_with_len (a + 1) n))
    ∙ omega (arith, h a (omega arith) (omega arith), length_chunks size f (a + 1) n (λ b low high. h b (omega arith) (omega arith)))

headed : (bytes : List ℕ) → slice_index bytes 0 ≡ 128 → bytes ≡ 128 ∷ drop 1 bytes
headed [] e = absurd (omega arith)
headed (x ∷ xs) e = ap (λ y. y ∷ xs) e

both_true : (a b : Bool) → (a && b) ≡ true → (a ≡ true) × (b ≡ true)
both_true true b e = (refl, e)
both_true false b e = (e, absurd (let no_way : false ≡ true = e in cc))

pub headed_room : (bytes : List ℕ) → slice_index bytes 0 ≡ 128 → bytes_eq bytes (129 ∷ 8 ∷ []) ≡ false
headed_room bytes e =
    bytes_differ bytes (129 ∷ 8 ∷ []) (λ same. absurd (let first : slice_index bytes 0 ≡ 129 = ap (λ xs. slice_index xs 0) same in omega arith))

pub headed_refusal : (bytes : List ℕ) → slice_index bytes 0 ≡ 128 → is_refusal bytes ≡ false
headed_refusal bytes e =
    let other : (slice_index bytes 0 == 129) ≡ false = grind (arith, nat_tests) in
    elim (length bytes == 2) as (λ b. (b && (slice_index bytes 0 == 129) && nat_le 1 (slice_index bytes 1) && nat_le (slice_index bytes 1) 7) ≡ false) [ true ↦ rw other refl | false ↦ refl ]

-- the properties of a payload
pub record IsPayload (v : Scheme) (e : Entry) (bytes : List ℕ) : Type 0 where
  pub fetches : e.fetch ≡ true
  pub head : slice_index bytes 0 ≡ 128
  pub whole : HasLength (answered_path v e bytes)

pub payload_is : (v : Scheme) (e : Entry) (bytes : List ℕ) → is_payload v e bytes ≡ true → IsPayload v e bytes
payload_is v e bytes payload =
    let size : ℕ = (depth_of v.device e.tree + 1) * record_len v in
    let outer = both_true (e.fetch && (slice_index bytes 0 == 128)) (length bytes == 1 + size) payload in
    let inner = both_true e.fetch (slice_index bytes 0 == 128) outer.0 in
    let long : length bytes ≡ 1 + size = grind (arith, nat_tests, outer.1) in
    record { fetches = inner.0; head = grind (arith, nat_tests, inner.1); whole = length-drop 1 bytes ∙ omega arith }

-- an answer with the records last stored is good
pub good_is : (v : Scheme) (records : ℕ → ℕ → List ℕ) (e : Entry) (bytes : List ℕ) → is_payload v e bytes ≡ true
    → IsPathOf (records e.tree) (answered_path v e bytes) → outcome_of v records e bytes ≡ Good
unfolding outcome_of good_answer path_in record_at
good_is v records e bytes payload same =
    let deep : ℕ = depth_of v.device e.tree in
    let size : ℕ = record_len v in
    let is : IsPayload v e bytes = payload_is v e bytes payload in
    let f : ℕ → List ℕ = λ l. records e.tree (node_on deep e.leaf l) in
    let none : 0 * size ≡ 0 = omega arith in
    let whole : drop (0 * size) (drop 1 bytes) ≡ flat_map f (levels deep) = chunks size f (drop 1 bytes) 0 (deep + 1)
    (ap (λ k. length (drop k (drop 1 bytes))) none ∙ is.whole)
    (λ k low high. same k (omega arith)) in
    let tail : drop 1 bytes ≡ flat_map f (levels deep) = sym (ap (λ k. drop k (drop 1 bytes)) none) ∙ whole in
    let good : bytes ≡ 128 ∷ (if e.fetch then flat_map f (levels deep) else []) =
    headed bytes is.head ∙ ap (λ xs. 128 ∷ xs) tail
    ∙ sym (ap (λ (b : Bool). 128 ∷ (if b then flat_map f (levels deep) else [])) is.fetches) in
    ap (λ b. if b then Good else if bytes_eq bytes (129 ∷ 8 ∷ []) then NoRoom else Fails (reason_for v records e bytes)) (bytes_same _ _ good)

-- whether a payload has those records or not, in both directions, for a stored tree

pow_up : (depth : ℕ) → 2 ^ depth ≤ 2 ^ (depth + 1)
pow_up depth = omega (arith, pow-add 2 depth 1)

-- the records of a path of a stored tree have the length of records
pub path_lengths : (depth size leaf : ℕ) (root : List ℕ) (records : ℕ → List ℕ) → IsStored depth size root records
    → leaf < 2 ^ depth → (l : ℕ) → l ≤ depth → length (records (node_on depth leaf l)) ≡ size
path_lengths depth size leaf root records stored fits l below =
    stored.lengths (node_on depth leaf l) (elim (cases_eq l depth) [
      | inl last ↦ omega (arith, (node_on-leaf depth leaf fits).1, ap (node_on depth leaf) last)
      | inr above ↦ omega (arith, node_on-inner depth leaf l fits (omega arith), pow_up depth)
    ])

-- a payload with another record isn't the good answer
not_good : (v : Scheme) (records : ℕ → ℕ → List ℕ) (e : Entry) (bytes : List ℕ) (l : ℕ) → e.fetch ≡ true →
    ((k : ℕ) → k ≤ depth_of v.device e.tree → length (records e.tree (node_on (depth_of v.device e.tree) e.leaf k)) ≡ record_len v) →
    IsFirstOther (records e.tree) (answered_path v e bytes) l → bytes ≢ good_answer v records e
unfolding good_answer path_in record_at
not_good v records e bytes l fetch lengths other same =
    let deep : ℕ = depth_of v.device e.tree in
    let f : ℕ → List ℕ = λ k. records e.tree (node_on deep e.leaf k) in
    let within : l ≤ deep = other.within in
    let tail : drop 1 bytes ≡ flat_map f (levels deep) =
    ap (drop 1) same ∙ ap (λ (b : Bool). drop 1 (128 ∷ (if b then flat_map f (levels deep) else []))) fetch in
    other.differs (ap (λ xs. take (record_len v) (drop (l * record_len v) xs)) tail ∙ chunk_at (record_len v) f 0 (deep + 1) l (omega arith) (λ b low high. lengths b (omega arith)) ∙ ap f (let z : 0 + l ≡ l = omega arith in z))

-- if this is the first level at which a payload's record isn't the one last stored, the answer fails the device with
-- this level
pub other_is : (v : Scheme) (records : ℕ → ℕ → List ℕ) (e : Entry) (bytes : List ℕ) (l : ℕ) (root : List ℕ)
    → is_payload v e bytes ≡ true → e.leaf < 2 ^ depth_of v.device e.tree
    → IsStored (depth_of v.device e.tree) (record_len v) root (records e.tree)
    → IsFirstOther (records e.tree) (answered_path v e bytes) l → outcome_of v records e bytes ≡ Fails (Tampered e.tree l)
unfolding outcome_of
other_is v records e bytes l root payload fits stored other =
    let is : IsPayload v e bytes = payload_is v e bytes payload in
    let bad : bytes_eq bytes (good_answer v records e) ≡ false =
    bytes_differ _ _ (not_good v records e bytes l is.fetches (path_lengths (depth_of v.device e.tree) (record_len v) e.leaf root (records e.tree) stored fits) other) in
    rw (bad, headed_room bytes is.head, headed_refusal bytes is.head, payload, first_is (records e.tree) (answered_path v e bytes) l other) refl
