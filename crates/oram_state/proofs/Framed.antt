-- The frame around the fields of a file, and the whole file.
use Rattle.std.proofs.Common.{◌≡◌, ℕ, ◌-◌, ◌+◌, ◌^◌, ◌<◌, ◌≤◌, Bool, true, false, List, [], ◌∷◌, ◌++◌, length, take, drop, Option, Some, None, Result, Ok, Err, refl, sym, ap, subst, ◌∙◌, append_assoc, arith, rules, inl, inr}
use Rattle.std.specs.Prelude.{IfOk, ◌==◌, ◌&&◌, ◌||◌, ◌⊎◌, ◌↔◌, nat_eq, nat_le, codes, slice_range}
use Rattle.std.specs.List.{starts_with}
use Rattle.std.specs.Cmp.Lexicographic.{pointwise, same_text}
use Rattle.std.specs.Int.{w32, w64, from_be_bytes}
use Rattle.std.proofs.lemmas.Bool.{eqb-true, le-leb, leb-true}
use Rattle.std.proofs.lemmas.Cmp.{nat_list_eq_equiv}
use Rattle.std.proofs.lemmas.List.{take_at, drop_at, take-append-drop, length-append, length-take, length-drop}
use Rattle.std.proofs.lemmas.List.Folds.{drop_split}
use Rattle.sha2.specs.Sha256.{sha256}
use Rattle.sha2.proofs.Facts256.{length-sha256}
use Rattle.oram_semantics.specs.declared.events.Reason.{Reason}
use Rattle.oram_core.specs.Parts.{Parts}
use Rattle.oram_core.specs.declared.parts.Pending.{Pending}
use Rattle.oram_state.specs.declared.fault.StateFault.{StateFault}
use Rattle.oram_state.specs.declared.fault.StateFault.TheVariants.{Magic, Version, Length, Digest, Content}
use Rattle.oram_state.specs.declared.saved.Saved.{Saved}
use Rattle.oram_state.specs.StateBytes.{Work, short, long, body, with_digest, fields_text, mode_by, mode_of, work_of}
use Rattle.oram_state.specs.WellSized.{AreFieldsOf, IsWellSized, IsWorkBy, HasFile, IsFileOf}
use Rattle.oram_state.specs.Parser.{◌>>=◌, Gives, ends_with_digest, fields_in, saved_in, state_in, unless}
use Rattle.oram_state.proofs.Tools.{IsBytes, IsBytes-take, IsBytes-drop, is_short, is_long, then_ok, goes, unless_ok}
use Rattle.oram_state.proofs.Devices.{IsModeOf, both_true}
use Rattle.oram_state.proofs.Whole.{MayTell, all_takes, all_again}
use Rattle.oram_state.proofs.Written.{length-body}

abbrev version_field : List ℕ → ℕ
version_field text = from_be_bytes w32 (slice_range text 8 12)

abbrev fields_part : List ℕ → List ℕ
fields_part text = slice_range text 20 (length text - 32)

-- a text with this frame is a file
framed : (text : List ℕ) → IsBytes text → codes "PATHORAM" ≡ take 8 text → 52 ≤ length text → from_be_bytes w64 (slice_range text 12 20) ≡ length text
    → drop (length text - 32) text ≡ sha256 (take (length text - 32) text) → text ≡ with_digest (body (version_field text) (fields_part text))
framed text bytes letters least count_is digest =
    let n = length text in
    let fields = fields_part text in
    let version : short (version_field text) ≡ slice_range text 8 12 = is_short.back (slice_range text 8 12) (omega (arith, length-take 4 (drop 8 text), length-drop 8 text)) (IsBytes-take 4 (drop 8 text) (IsBytes-drop 8 text bytes)) in
    let len : long n ≡ slice_range text 12 20 = ap long (sym count_is) ∙ is_long.back (slice_range text 12 20) (omega (arith, length-take 8 (drop 12 text), length-drop 12 text)) (IsBytes-take 8 (drop 12 text) (IsBytes-drop 12 text bytes)) in
    let count : n ≡ 52 + length fields = omega (arith, length-take (n - 32 - 20) (drop 20 text), length-drop 20 text) in
    let whole : text ≡ codes "PATHORAM" ++ (short (version_field text) ++ (long n ++ (fields ++ drop (n - 32) text))) =
    sym (take-append-drop 8 text) ∙ ap (λ (x : List ℕ). x ++ drop 8 text) (sym letters)
    ∙ ap (λ (x : List ℕ). codes "PATHORAM" ++ x) (drop_split text 8 12 (omega arith) ∙ ap (λ (x : List ℕ). x ++ drop 12 text) (sym version)
    ∙ ap (λ (x : List ℕ). short (version_field text) ++ x) (drop_split text 12 20 (omega arith) ∙ ap (λ (x : List ℕ). x ++ drop 20 text) (sym len)
    ∙ ap (λ (x : List ℕ). long n ++ x) (drop_split text 20 (n - 32) (omega (arith, least))))) in
    let regrouped : text ≡ body (version_field text) fields ++ drop (n - 32) text =
    whole ∙ regroup (short (version_field text)) (long n) fields (drop (n - 32) text) ∙ ap (λ (k : ℕ). (codes "PATHORAM" ++ short (version_field text) ++ long k ++ fields) ++ drop (n - 32) text) count in
    let front : take (n - 32) text ≡ body (version_field text) fields =
    ap (take (n - 32)) regrouped ∙ take_at (body (version_field text) fields) (drop (n - 32) text) (n - 32) (omega (arith, count, length-body (version_field text) fields)) in
    regrouped ∙ ap (λ (x : List ℕ). body (version_field text) fields ++ x) (digest ∙ ap sha256 front)
  where
    regroup : (a b c e : List ℕ) → codes "PATHORAM" ++ (a ++ (b ++ (c ++ e))) ≡ (codes "PATHORAM" ++ a ++ b ++ c) ++ e
    regroup a b c e = simp append_assoc

-- the versions that are known
abbrev pub IsKnown : ℕ → Type 0
IsKnown version = (version ≡ 1) ⊎ (version ≡ 2)

known_of : (version : ℕ) (a b : Bool) → a ≡ (version == 1) → b ≡ (version == 2) → (a || b) ≡ true → IsKnown version
known_of version true b e f h = inl (eqb-true version 1 (sym e))
known_of version false true e f h = inr (eqb-true version 2 (sym f))
known_of version false false e f h = absurd cc

fields_takes : (text : List ℕ) → IsBytes text → IfOk (fields_in text) (λ x. (text ≡ with_digest (body x.0 x.1)) × IsKnown x.0 × IsBytes x.1)
unfolding fields_in
fields_takes text h =
    let n = length text in
    then_ok _ _ (unless Magic (starts_with nat_eq text (codes "PATHORAM"))) _ (unless_ok Magic (starts_with nat_eq text (codes "PATHORAM"))) (λ _ letters.
    then_ok _ _ (unless Length (nat_le 12 n)) _ (unless_ok Length (nat_le 12 n)) (λ _ _.
    then_ok _ _ (unless Version (version_field text == 1 || version_field text == 2)) _ (unless_ok Version (version_field text == 1 || version_field text == 2)) (λ _ version.
    then_ok _ _ (unless Length (nat_le 52 n && from_be_bytes w64 (slice_range text 12 20) == n)) _ (unless_ok Length (nat_le 52 n && from_be_bytes w64 (slice_range text 12 20) == n)) (λ _ len.
    then_ok _ _ (unless Digest (ends_with_digest text)) _ (unless_ok Digest (ends_with_digest text)) (λ _ digest.
    let both = both_true (nat_le 52 n) (from_be_bytes w64 (slice_range text 12 20) == n) len in (
      framed text h (same_text (codes "PATHORAM") (take 8 text) (sym letters)) (leb-true 52 n both.0) (eqb-true _ n both.1) (same_text (drop (n - 32) text) (sha256 (take (n - 32) text)) (sym digest)),
      known_of (version_field text) (version_field text == 1) (version_field text == 2) refl refl version,
      IsBytes-take (n - 32 - 20) (drop 20 text) (IsBytes-drop 20 text h),
    ))))))

-- ---- reading what was written

-- a test that is passed
passes : {X : Type 0} (why : StateFault) (b : Bool) (next y : Result X StateFault) → b ≡ true → next ≡ y → (unless why b >>= λ _. next) ≡ y
passes why b next y h e = rw h e

known_test : (version : ℕ) → IsKnown version → (version == 1 || version == 2) ≡ true
known_test version (inl e) = rw e refl
known_test version (inr e) = rw e refl

version_again : (version : ℕ) (fields : List ℕ) → IsKnown version → version_field (with_digest (body version fields)) ≡ version
unfolding short long
version_again version fields (inl e) = is_short.again version (omega (arith, e))
version_again version fields (inr e) = is_short.again version (omega (arith, e))

length_again : (version : ℕ) (fields : List ℕ) → 52 + length fields < 2 ^ 64 → from_be_bytes w64 (slice_range (with_digest (body version fields)) 12 20) ≡ 52 + length fields
unfolding short long
length_again version fields fits = is_long.again (52 + length fields) fits

after_head : (version : ℕ) (fields : List ℕ) → drop 20 (with_digest (body version fields)) ≡ fields ++ sha256 (body version fields)
unfolding short long
after_head version fields = refl

digest_again : (text : List ℕ) (n : ℕ) → n ≡ length text → pointwise nat_eq (drop n (with_digest text)) (sha256 (take n (with_digest text))) ≡ true
digest_again text n e = rw (drop_at text (sha256 text) n (sym e), take_at text (sha256 text) n (sym e)) (nat_list_eq_equiv.refl (sha256 text))

ok_pair : (a b : ℕ) (x y : List ℕ) → a ≡ b → x ≡ y → (let made : Result (ℕ × List ℕ) StateFault = Ok (a, x) in made ≡ Ok (b, y))
ok_pair a b x y p q = rw (p, q) refl

fields_again : (version : ℕ) (fields : List ℕ) → IsKnown version → length (with_digest (body version fields)) < 2 ^ 64 → fields_in (with_digest (body version fields)) ≡ Ok (version, fields)
unfolding fields_in
fields_again version fields is_known fits =
    let text = with_digest (body version fields) in
    let n : length text ≡ 52 + length fields = omega (arith, length-append (body version fields) (sha256 (body version fields)), length-sha256 (body version fields), length-body version fields) in
    let letters : starts_with nat_eq text (codes "PATHORAM") ≡ true = refl in
    let version_is : version_field text ≡ version = version_again version fields is_known in
    let tested : (version_field text == 1 || version_field text == 2) ≡ true = rw version_is (known_test version is_known) in
    let len : from_be_bytes w64 (slice_range text 12 20) ≡ length text = length_again version fields (omega (arith, n, fits)) ∙ sym n in
    let least : nat_le 52 (length text) ≡ true = le-leb 52 (length text) (omega (arith, n)) in
    let counted : (nat_le 52 (length text) && from_be_bytes w64 (slice_range text 12 20) == length text) ≡ true = rw (least, len) (same (length text)) in
    let digest : ends_with_digest text ≡ true = digest_again (body version fields) (length text - 32) (omega (arith, n, length-body version fields)) in
    let rest : fields_part text ≡ fields = ap (take (length text - 32 - 20)) (after_head version fields) ∙ take_at fields (sha256 (body version fields)) (length text - 32 - 20) (omega (arith, n)) in
    passes Magic _ _ _ letters
    (passes Length _ _ _ (le-leb 12 (length text) (omega (arith, n)))
    (passes Version _ _ _ tested
    (passes Length _ _ _ counted
    (passes Digest _ _ _ digest
    (ok_pair (version_field text) version (fields_part text) fields version_is rest)))))
  where
    same : (k : ℕ) → (k == k) ≡ true
    same k = search rules

-- ---- the whole

has_file : (version : ℕ) (p : Parts) → IsKnown version → IsModeOf version (mode_of p) → IsWellSized p → HasFile version p
has_file version p (inr e) m h = inr e
has_file version p (inl e) m h = inl (e, nothing p.failure p.waiting (work_of p) p.stalled refl m h.work)
  where
    nothing : (failure : Option Reason) (waiting : List Pending) (w : Work) (stalled : Bool) → waiting ≡ w.waiting → IsModeOf version (mode_by failure waiting stalled) → IsWorkBy p.device failure waiting w stalled → waiting ≡ []
    nothing (Some why) waiting w stalled s m k = s ∙ ap (λ (x : Work). x.waiting) k.none
    nothing None [] w stalled s m k = refl
    nothing None (first ∷ others) w false s m k = absurd (omega (arith, e, m))
    nothing None (first ∷ others) w true s m k = absurd (omega (arith, e, m))

is_mode : (version : ℕ) (failure : Option Reason) (waiting : List Pending) (stalled : Bool) → ((version ≡ 1) × (waiting ≡ [])) ⊎ (version ≡ 2) → IsModeOf version (mode_by failure waiting stalled)
is_mode version (Some why) waiting stalled h = tt
is_mode version None [] stalled h = tt
is_mode version None (first ∷ others) false (inl e) = absurd cc
is_mode version None (first ∷ others) false (inr e) = e
is_mode version None (first ∷ others) true (inl e) = absurd cc
is_mode version None (first ∷ others) true (inr e) = e

known_file : (version : ℕ) (p : Parts) → HasFile version p → IsKnown version
known_file version p (inl e) = inl e.0
known_file version p (inr e) = inr e

-- a text that can be read is the file of the parts that it gives
pub state_takes : (text : List ℕ) → IsBytes text → IfOk (state_in text) (λ s. (version : ℕ) × IsFileOf text version s.overhead s.parts)
unfolding state_in
state_takes text h =
    then_ok _ _ (fields_in text) _ (fields_takes text h) (λ a pa.
    then_ok _ _ (saved_in a.0 a.1) _ (all_takes a.0 a.1 pa.2) (λ s ps.
    then_ok _ _ (unless Content (s.parts.device.leaf_load == 1)) _ (unless_ok Content (s.parts.device.leaf_load == 1)) (λ _ one. (
      a.0,
      record {
        version_known = has_file a.0 s.parts pa.1 ps.1.0 ps.1.2;
        load = eqb-true s.parts.device.leaf_load 1 one;
        overhead_fits = ps.1.1;
        sized = ps.1.2;
        spelled = pa.0 ∙ ap (λ (x : List ℕ). with_digest (body a.0 x)) ps.0;
      },
    ))))

-- and the file of parts is read as these parts
pub state_again : (text : List ℕ) (version overhead : ℕ) (p : Parts) → length text < 2 ^ 64 → IsFileOf text version overhead p → state_in text ≡ Ok (record { overhead = overhead; parts = p })
unfolding state_in
state_again text version overhead p fits h =
    let s : Saved = record { overhead = overhead; parts = p } in
    let fields = fields_text overhead p in
    ap state_in h.spelled
    ∙ goes _ _ _ _ (fields_again version fields (known_file version p h.version_known) (subst (λ (x : List ℕ). length x < 2 ^ 64) h.spelled fits))
    (goes _ _ _ _ (all_again version s (is_mode version p.failure p.waiting p.stalled h.version_known, h.overhead_fits, h.sized))
    (passes Content _ _ _ (ap (λ (n : ℕ). n == 1) h.load) refl))

pub found : (text : List ℕ) (r : Result Saved StateFault) → IsBytes text → Gives (λ s. s) r (state_in text) → IfOk r (λ s. (version : ℕ) × IsFileOf text version s.overhead s.parts)
found text (Ok s) h e = subst (λ (x : Result Saved StateFault). IfOk x (λ s. (version : ℕ) × IsFileOf text version s.overhead s.parts)) e (state_takes text h)
found text (Err why) h e = tt

-- both directions
pub exact : (text : List ℕ) (overhead : ℕ) (p : Parts) → IsBytes text → length text < 2 ^ 64 → (state_in text ≡ Ok (record { overhead = overhead; parts = p })) ↔ ((version : ℕ) × IsFileOf text version overhead p)
exact text overhead p h fits = (λ e. found text (Ok (record { overhead = overhead; parts = p })) h e, λ x. state_again text x.0 overhead p fits x.1)

-- ---- fields without a frame

-- fields that can be read are those of the parts that they give
pub fields_found : (text : List ℕ) (r : Result Saved StateFault) → IsBytes text → Gives (λ s. s) r (saved_in 2 text) → IfOk r (λ s. AreFieldsOf text s.overhead s.parts)
fields_found text (Ok s) h e = spelled_by (subst (λ (x : Result Saved StateFault). IfOk x (λ s. (text ≡ fields_text s.overhead s.parts) × MayTell 2 s)) e (all_takes 2 text h))
  where
    spelled_by : (text ≡ fields_text s.overhead s.parts) × MayTell 2 s → AreFieldsOf text s.overhead s.parts
    spelled_by p = record { overhead_fits = p.1.1; sized = p.1.2; spelled = p.0 }
fields_found text (Err why) h e = tt

-- and the fields of parts are read as these parts
pub fields_again_bare : (text : List ℕ) (overhead : ℕ) (p : Parts) → AreFieldsOf text overhead p → saved_in 2 text ≡ Ok (record { overhead = overhead; parts = p })
fields_again_bare text overhead p h =
    let s : Saved = record { overhead = overhead; parts = p } in
    ap (saved_in 2) h.spelled ∙ all_again 2 s (is_mode 2 p.failure p.waiting p.stalled (inr refl), h.overhead_fits, h.sized)
