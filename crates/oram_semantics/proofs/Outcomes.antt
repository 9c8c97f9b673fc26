-- What each answer means, by its form and the check of its path.
use Rattle.std.proofs.Common.{◌≡◌, ◌≢◌, ◌⊎◌, ◌↔◌, ℕ, ◌+◌, ◌*◌, ◌^◌, ◌<◌, ◌≤◌, ◌==◌, ◌&&◌, Bool, true, false, if◌then◌else◌, List, [], ◌∷◌, length, drop, slice_index, nat_le, Result, Ok, Err, MatchResult, refl, ap, sym, ◌∙◌, arith, inl, inr}
use Rattle.std.specs.Str.{bytes_eq}
use Rattle.std.specs.List.{flat_map}
use Rattle.std.proofs.lemmas.List.{length-drop}
use Rattle.std.proofs.lemmas.Bool.{cases_eq}
use Rattle.std.proofs.lemmas.Bool.Decides.{nat_tests}
use Rattle.oram_geometry.specs.Sizes.{depth_of}
use Rattle.oram_geometry.specs.Path.{node_on}
use Rattle.oram_trace.specs.declared.entries.Entry.{Entry}
use Rattle.oram_hash.specs.declared.HashFault.{HashFault}
use Rattle.oram_hash.specs.declared.HashFault.TheVariants as fault
use Rattle.oram_hash.specs.Path.{HasLength}
use Rattle.oram_hash.specs.Tree.{IsStored, IsPathOf, Collides}
use Rattle.oram_hash.specs.Verdict.{IsFaultOf}
use Rattle.oram_semantics.specs.Scheme.{Scheme, record_len}
use Rattle.oram_semantics.specs.Messages.{levels}
use Rattle.oram_semantics.specs.Answers.{path_in, good_answer, answered_path, outcome_of, outcome_by, pair_in, is_payload, is_refusal, reason_for}
use Rattle.oram_semantics.specs.Answers.Outcome.{Good, NoRoom, Fails}
use Rattle.oram_semantics.specs.declared.events.Reason.TheVariants.{Malformed, HostRefused}
use Rattle.oram_semantics.proofs.Judged.{headed_refusal, payload_is, bytes_same, bytes_differ, path_lengths, length_chunks, good_is, other_is, pair_is}

test_passes : (m n : ℕ) → m ≡ n → (m == n) ≡ true
test_passes m n e = grind (arith, nat_tests)

test_fails : (m n : ℕ) → m ≢ n → (m == n) ≡ false
test_fails m n e = grind (arith, nat_tests)

-- byte 0x81 and the code 8
pub no_room_is : (v : Scheme) (records : ℕ → ℕ → List ℕ) (e : Entry) (bytes : List ℕ) → bytes ≡ 129 ∷ 8 ∷ []
    → outcome_of v records e bytes ≡ NoRoom
unfolding outcome_of good_answer
no_room_is v records e bytes is = ap (outcome_of v records e) is

-- byte 0x81 and another code
pub refused_is : (v : Scheme) (records : ℕ → ℕ → List ℕ) (e : Entry) (bytes : List ℕ) (code : ℕ) → bytes ≡ 129 ∷ code ∷ []
    → 1 ≤ code → code ≤ 7 → outcome_of v records e bytes ≡ Fails (HostRefused code)
unfolding outcome_of good_answer
refused_is v records e bytes code is low high =
    let room : bytes_eq (129 ∷ code ∷ []) (129 ∷ 8 ∷ []) ≡ false =
    bytes_differ (129 ∷ code ∷ []) (129 ∷ 8 ∷ []) (λ same. absurd (let eight : code ≡ 8 = ap (λ xs. slice_index xs 1) same in omega arith)) in
    let above : nat_le 1 code ≡ true = grind (arith, nat_tests) in
    let within : nat_le code 7 ≡ true = grind (arith, nat_tests) in
    ap (outcome_of v records e) is ∙ rw (room, above, within) refl

-- byte 0x80 alone, as the answer to a STORE
pub stored_is : (v : Scheme) (records : ℕ → ℕ → List ℕ) (e : Entry) (bytes : List ℕ) → e.fetch ≡ false → bytes ≡ 128 ∷ []
    → outcome_of v records e bytes ≡ Good
unfolding outcome_of good_answer
stored_is v records e bytes store is =
    let good : bytes ≡ 128 ∷ (if e.fetch then path_in v records e.tree e.leaf else []) =
    is ∙ sym (ap (λ (b : Bool). 128 ∷ (if b then path_in v records e.tree e.leaf else [])) store) in
    ap (λ b. if b then Good else if bytes_eq bytes (129 ∷ 8 ∷ []) then NoRoom else Fails (reason_for v records e bytes)) (bytes_same _ _ good)

malformed_by : (v : Scheme) (records : ℕ → ℕ → List ℕ) (e : Entry) (bytes : List ℕ) → bytes ≢ good_answer v records e
    → bytes ≢ 129 ∷ 8 ∷ [] → is_refusal bytes ≡ false → is_payload v e bytes ≡ false
    → outcome_of v records e bytes ≡ Fails Malformed
unfolding outcome_of
malformed_by v records e bytes good room refusal payload =
    rw (bytes_differ _ _ good, bytes_differ _ _ room, refusal, payload) refl

-- any other first byte
pub malformed_is : (v : Scheme) (records : ℕ → ℕ → List ℕ) (e : Entry) (bytes : List ℕ) → slice_index bytes 0 ≢ 128
    → bytes ≢ 129 ∷ 8 ∷ [] → is_refusal bytes ≡ false → outcome_of v records e bytes ≡ Fails Malformed
unfolding good_answer
malformed_is v records e bytes first room refusal =
    let other : (slice_index bytes 0 == 128) ≡ false = grind (arith, nat_tests) in
    malformed_by v records e bytes (λ same. first (ap (λ xs. slice_index xs 0) same)) room refusal
    (elim e.fetch as (λ b. (b && (slice_index bytes 0 == 128) && (length bytes == 1 + (depth_of v.device e.tree + 1) * record_len v)) ≡ false) [ true ↦ rw other refl | false ↦ refl ])

-- more than byte 0x80, as the answer to a STORE
pub malformed_store : (v : Scheme) (records : ℕ → ℕ → List ℕ) (e : Entry) (bytes : List ℕ) → e.fetch ≡ false
    → slice_index bytes 0 ≡ 128 → bytes ≢ 128 ∷ [] → outcome_of v records e bytes ≡ Fails Malformed
unfolding good_answer
malformed_store v records e bytes store first more =
    malformed_by v records e bytes
    (λ same. more (same ∙ ap (λ (b : Bool). 128 ∷ (if b then path_in v records e.tree e.leaf else [])) store))
    (λ same. absurd (let room : slice_index bytes 0 ≡ 129 = ap (λ xs. slice_index xs 0) same in omega arith))
    (headed_refusal bytes first)
    (ap (λ b. b && (slice_index bytes 0 == 128) && (length bytes == 1 + (depth_of v.device e.tree + 1) * record_len v)) store)

-- byte 0x80 and another length, as the answer to a FETCH
pub malformed_fetch : (v : Scheme) (records : ℕ → ℕ → List ℕ) (e : Entry) (bytes root : List ℕ) → e.fetch ≡ true
    → slice_index bytes 0 ≡ 128 → e.leaf < 2 ^ depth_of v.device e.tree
    → IsStored (depth_of v.device e.tree) (record_len v) root (records e.tree) → ¬ HasLength (answered_path v e bytes)
    → outcome_of v records e bytes ≡ Fails Malformed
unfolding good_answer path_in
malformed_fetch v records e bytes root fetch first fits stored short =
    let deep : ℕ = depth_of v.device e.tree in
    let f : ℕ → List ℕ = λ l. records e.tree (node_on deep e.leaf l) in
    let whole : length (flat_map f (levels deep)) ≡ (deep + 1) * record_len v =
    length_chunks (record_len v) f 0 (deep + 1) (λ l low high. path_lengths deep (record_len v) e.leaf root (records e.tree) stored fits l (omega arith)) in
    let other : (length bytes == 1 + (deep + 1) * record_len v) ≡ false =
    test_fails (length bytes) (1 + (deep + 1) * record_len v) (λ long. short (length-drop 1 bytes ∙ omega arith)) in
    malformed_by v records e bytes
    (λ same. short (ap (λ xs. length (drop 1 xs)) same ∙ ap (λ (b : Bool). length (drop 1 (128 ∷ (if b then flat_map f (levels deep) else [])))) fetch ∙ whole))
    (λ same. absurd (let room : slice_index bytes 0 ≡ 129 = ap (λ xs. slice_index xs 0) same in omega arith))
    (headed_refusal bytes first)
    (rw (fetch, other) (elim (slice_index bytes 0 == 128) as (λ b. (b && false) ≡ false) [ true ↦ refl | false ↦ refl ]))

payload_by : (v : Scheme) (e : Entry) (bytes : List ℕ) → e.fetch ≡ true → slice_index bytes 0 ≡ 128
    → HasLength (answered_path v e bytes) → is_payload v e bytes ≡ true
payload_by v e [] fetch first whole = absurd (omega arith)
payload_by v e (x ∷ xs) fetch first whole =
    let head : (x == 128) ≡ true = grind (arith, nat_tests) in
    let long : (length (x ∷ xs) == 1 + (depth_of v.device e.tree + 1) * record_len v) ≡ true =
    test_passes (length (x ∷ xs)) (1 + (depth_of v.device e.tree + 1) * record_len v) (omega (arith, whole)) in
    rw (fetch, head, long) refl

-- byte 0x80 and the records of a path, as the answer to a FETCH: what their check says
by_check : {A : Type 0} (v : Scheme) (records : ℕ → ℕ → List ℕ) (e : Entry) (bytes root : List ℕ) (r : Result A HashFault)
    → is_payload v e bytes ≡ true → e.leaf < 2 ^ depth_of v.device e.tree
    → IsStored (depth_of v.device e.tree) (record_len v) root (records e.tree)
    → MatchResult r (λ _. IsPathOf (records e.tree) (answered_path v e bytes)) (IsFaultOf (records e.tree) (answered_path v e bytes))
    → outcome_of v records e bytes ≡ outcome_by e.tree r
by_check v records e bytes root (Ok path) payload fits stored judged = good_is v records e bytes payload judged
by_check v records e bytes root (Err fault.Length) payload fits stored judged = absurd (judged (payload_is v e bytes payload).whole)
by_check v records e bytes root (Err (fault.Tampered level)) payload fits stored judged =
    other_is v records e bytes level root payload fits stored judged

-- If byte 0x80 begins the answer to a FETCH in a stored tree, and the answer shows no two records with the same digest,
-- it means what the check of the other bytes says.
pub fetched_is :
    {A : Type 0} (v : Scheme) (records : ℕ → ℕ → List ℕ) (e : Entry) (bytes root : List ℕ) (r : Result A HashFault)
    → e.fetch ≡ true → slice_index bytes 0 ≡ 128 → e.leaf < 2 ^ depth_of v.device e.tree
    → IsStored (depth_of v.device e.tree) (record_len v) root (records e.tree) → pair_in v records e bytes ≡ false
    → ((r ≡ Err fault.Length) ↔ (¬ HasLength (answered_path v e bytes)))
    → MatchResult r (λ _. IsPathOf (records e.tree) (answered_path v e bytes)) (IsFaultOf (records e.tree) (answered_path v e bytes)) ⊎ Collides (records e.tree) (answered_path v e bytes)
    → outcome_of v records e bytes ≡ outcome_by e.tree r
fetched_is v records e bytes root r fetch first fits stored apart short judged = elim (cases_eq (length (drop 1 bytes)) ((depth_of v.device e.tree + 1) * record_len v)) [
  | inl whole ↦
      let payload : is_payload v e bytes ≡ true = payload_by v e bytes fetch first whole in
      elim judged [
        | inl of_path ↦ by_check v records e bytes root r payload fits stored of_path
        | inr pair ↦ absurd (let both : true ≡ false = sym (pair_is v records e bytes payload pair) ∙ apart in cc)
      ]
  | inr other ↦ malformed_fetch v records e bytes root fetch first fits stored other ∙ sym (ap (outcome_by e.tree) (short.1 other))
]
