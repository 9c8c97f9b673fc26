-- Which patches a log holds: a content holds at most one list of them, and which other contents hold the same.
use Rattle.std.proofs.Common.{◌≡◌, ℕ, suc, ◌+◌, ◌^◌, ◌<◌, ◌≤◌, List, [], ◌∷◌, ◌++◌, length, take, drop, refl, sym, ◌∙◌, ap, subst, arith, length-append, length-drop, append_assoc, take-append-drop, get_or}
use Rattle.std.proofs.lemmas.List.{take_all, take_at, drop_at}
use Rattle.std.proofs.lemmas.List.Elements.{All-append}
use Rattle.std.proofs.lemmas.Nat.{from_le_bytes-to_le_bytes_4, from_le_bytes-to_le_bytes_8}
use Rattle.std.specs.Int.{w32, w64, to_le_bytes, from_le_bytes}
use Rattle.std.specs.Prelude.{All}
use Rattle.oram_redo.specs.Content.{Content, bytes_at, Has}
use Rattle.oram_redo.specs.Log.{Patch, Fits, place_bytes, length_bytes, place_and_length, check_bytes, entry_text, entry, entries, IsLog}
use Rattle.oram_redo.specs.declared.bounds.Bounds.{Bounds}
use Rattle.oram_redo.proofs.Bytes.{length-bytes_at, has_along, has_same, has-append, has_front, has_back, has_one, has_read}

pub place_bytes_are : (place : ℕ) → to_le_bytes w64 place ≡ place_bytes place
unfolding place_bytes
place_bytes_are place = refl

pub length_bytes_are : (len : ℕ) → to_le_bytes w32 len ≡ length_bytes len
unfolding length_bytes
length_bytes_are len = refl

pub length-place_bytes : (place : ℕ) → length (place_bytes place) ≡ 8
unfolding place_bytes
length-place_bytes place = refl

pub length-length_bytes : (len : ℕ) → length (length_bytes len) ≡ 4
unfolding length_bytes
length-length_bytes len = refl

pub length-place_and_length : (place len : ℕ) → length (place_and_length place len) ≡ 12
length-place_and_length place len = omega (arith, length-append (place_bytes place) (length_bytes len), length-place_bytes place, length-length_bytes len)

-- the head of an entry, in its parts
pub head_parts : (bs : List ℕ) → length bs ≡ 13 → get_or bs 0 0 ≡ 255 → bs ≡ 255 ∷ (take 8 (drop 1 bs) ++ take 4 (drop 9 bs))
head_parts [] long is = absurd (omega arith)
head_parts (b ∷ bs) long is =
    let end : take 4 (drop 8 bs) ≡ drop 8 bs = take_all 4 (drop 8 bs) (omega (arith, length-drop 8 bs)) in
    let whole : bs ≡ take 8 bs ++ take 4 (drop 8 bs) = sym (take-append-drop 8 bs) ∙ ap (λ (l : List ℕ). take 8 bs ++ l) (sym end) in
    (λ i. is i ∷ whole i)

pub length-check_bytes : (text : List ℕ) → length (check_bytes text) ≡ 8
unfolding check_bytes
length-check_bytes text = refl

pub length-entry_text : (p : Patch) → length (entry_text p) ≡ 12 + length p.1
length-entry_text p = omega (arith, length-append (place_and_length p.0 (length p.1)) p.1, length-place_and_length p.0 (length p.1))

pub length-entry : (p : Patch) → length (entry p) ≡ 21 + length p.1
length-entry p = omega (arith, length-append (entry_text p) (check_bytes (entry_text p)), length-entry_text p, length-check_bytes (entry_text p))

pub entries-append : (ps qs : List Patch) → entries (ps ++ qs) ≡ entries ps ++ entries qs
entries-append [] qs = refl
entries-append (p ∷ ps) qs = ap (λ (l : List ℕ). entry p ++ l) (entries-append ps qs) ∙ sym (append_assoc (entry p) (entries ps) (entries qs))

pub entries_none : (ps : List Patch) → length (entries ps) ≡ 0 → ps ≡ []
entries_none [] none = refl
entries_none (p ∷ ps) none = absurd (omega (arith, none, length-append (entry p) (entries ps), length-entry p))

place_bytes_one : (a b : ℕ) → a < 2 ^ 64 → b < 2 ^ 64 → place_bytes a ≡ place_bytes b → a ≡ b
unfolding place_bytes
place_bytes_one a b ha hb e = sym (from_le_bytes-to_le_bytes_8 a ha) ∙ ap (λ (l : List ℕ). from_le_bytes w64 l) e ∙ from_le_bytes-to_le_bytes_8 b hb

length_bytes_one : (a b : ℕ) → a < 2 ^ 32 → b < 2 ^ 32 → length_bytes a ≡ length_bytes b → a ≡ b
unfolding length_bytes
length_bytes_one a b ha hb e = sym (from_le_bytes-to_le_bytes_4 a ha) ∙ ap (λ (l : List ℕ). from_le_bytes w32 l) e ∙ from_le_bytes-to_le_bytes_4 b hb

pub place_and_length_one : (a b a' b' : ℕ) → a < 2 ^ 64 → b < 2 ^ 32 → a' < 2 ^ 64 → b' < 2 ^ 32 → place_and_length a b ≡ place_and_length a' b' → (a ≡ a') × (b ≡ b')
place_and_length_one a b a' b' ha hb ha' hb' e =
    let place : place_bytes a ≡ place_bytes a' =
    sym (take_at (place_bytes a) (length_bytes b) 8 (length-place_bytes a)) ∙ ap (λ (l : List ℕ). take 8 l) e ∙ take_at (place_bytes a') (length_bytes b') 8 (length-place_bytes a') in
    let len : length_bytes b ≡ length_bytes b' =
    sym (drop_at (place_bytes a) (length_bytes b) 8 (length-place_bytes a)) ∙ ap (λ (l : List ℕ). drop 8 l) e ∙ drop_at (place_bytes a') (length_bytes b') 8 (length-place_bytes a') in
    (place_bytes_one a a' ha ha' place, length_bytes_one b b' hb hb' len)

-- the parts of an entry that is at a place
pub entry_gate : (p : Patch) (at : ℕ) (log : Content) → Has (entry p) at log → log at ≡ 255
entry_gate p at log has = cc

entry_rest : (p : Patch) (at : ℕ) (log : Content) → Has (entry p) at log → Has (entry_text p ++ check_bytes (entry_text p)) (suc at) log
entry_rest p at log has = cc

pub entry_says : (p : Patch) (at : ℕ) (log : Content) → Has (entry p) at log → Has (entry_text p) (suc at) log
entry_says p at log has = has_front (entry_text p) (check_bytes (entry_text p)) (suc at) log (entry_rest p at log has)

pub entry_check : (p : Patch) (at : ℕ) (log : Content) → Has (entry p) at log → Has (check_bytes (entry_text p)) (at + 13 + length p.1) log
entry_check p at log has =
    has_along (check_bytes (entry_text p)) (suc at + length (entry_text p)) (at + 13 + length p.1) log (omega (arith, length-entry_text p))
    (has_back (entry_text p) (check_bytes (entry_text p)) (suc at) log (entry_rest p at log has))

pub entry_head : (p : Patch) (at : ℕ) (log : Content) → Has (entry p) at log → Has (place_and_length p.0 (length p.1)) (suc at) log
entry_head p at log has = has_front (place_and_length p.0 (length p.1)) p.1 (suc at) log (entry_says p at log has)

pub entry_bytes : (p : Patch) (at : ℕ) (log : Content) → Has (entry p) at log → Has p.1 (at + 13) log
entry_bytes p at log has =
    has_along p.1 (suc at + length (place_and_length p.0 (length p.1))) (at + 13) log (omega (arith, length-place_and_length p.0 (length p.1)))
    (has_back (place_and_length p.0 (length p.1)) p.1 (suc at) log (entry_says p at log has))

pub entry_one : (bounds : Bounds) (p q : Patch) (at : ℕ) (log : Content) → Fits bounds p → Fits bounds q → Has (entry p) at log → Has (entry q) at log → p ≡ q
entry_one bounds p q at log fp fq hp hq =
    let heads : place_and_length p.0 (length p.1) ≡ place_and_length q.0 (length q.1) = has_one _ _ (suc at) log
    (length-place_and_length p.0 (length p.1) ∙ sym (length-place_and_length q.0 (length q.1))) (entry_head p at log hp) (entry_head q at log hq) in
    let parts = place_and_length_one p.0 (length p.1) q.0 (length q.1) fp.place_fits fp.length_fits fq.place_fits fq.length_fits heads in
    let bytes : p.1 ≡ q.1 = has_one p.1 q.1 (at + 13) log parts.1 (entry_bytes p at log hp) (entry_bytes q at log hq) in
    (λ i. (parts.0 i, bytes i))

-- what an entry says, read in two steps: its head, and then its bytes
pub text_read : (place len at : ℕ) (bytes : List ℕ) (log : Content) → bytes_at 13 at log ≡ 255 ∷ place_and_length place len → bytes ≡ bytes_at len (at + 13) log
    → (length bytes ≡ len) × Has (entry_text (place, bytes)) (suc at) log
text_read place len at bytes log spelled bytes_are =
    let long : length bytes ≡ len = ap length bytes_are ∙ length-bytes_at len (at + 13) log in
    let first : Has (place_and_length place len) (suc at) log = has_tail (has_read 13 at log (255 ∷ place_and_length place len) (sym spelled)) in
    let front : Has (place_and_length place (length bytes)) (suc at) log = subst (λ (n : ℕ). Has (place_and_length place n) (suc at) log) (sym long) first in
    let back : Has bytes (suc at + length (place_and_length place (length bytes))) log = has_along bytes (at + 13) _ log (omega (arith, length-place_and_length place (length bytes))) (has_read len (at + 13) log bytes bytes_are) in
    (long, has-append (place_and_length place (length bytes)) bytes (suc at) log front back)
  where
    has_tail : Has (255 ∷ place_and_length place len) at log → Has (place_and_length place len) (suc at) log
    has_tail h = cc

text_is : (place len at : ℕ) (bytes : List ℕ) (log : Content) → length bytes ≡ len → Has (entry_text (place, bytes)) (suc at) log → bytes_at (12 + len) (at + 1) log ≡ entry_text (place, bytes)
text_is place len at bytes log long has =
    let size : 12 + len ≡ length (entry_text (place, bytes)) = omega (arith, length-entry_text (place, bytes), long) in
    let next : at + 1 ≡ suc at = omega arith in
    ap (λ (n : ℕ). bytes_at n (at + 1) log) size ∙ ap (λ (k : ℕ). bytes_at (length (entry_text (place, bytes))) k log) next ∙ has

-- an entry, read in three steps: its head, its bytes, and its checksum
pub entry_read : (place len at : ℕ) (bytes : List ℕ) (log : Content) → bytes_at 13 at log ≡ 255 ∷ place_and_length place len → bytes ≡ bytes_at len (at + 13) log
    → bytes_at 8 (at + 13 + len) log ≡ check_bytes (bytes_at (12 + len) (at + 1) log) → (length bytes ≡ len) × Has (entry (place, bytes)) at log
entry_read place len at bytes log spelled bytes_are whole =
    let text = text_read place len at bytes log spelled bytes_are in
    let said : bytes_at (12 + len) (at + 1) log ≡ entry_text (place, bytes) = text_is place len at bytes log text.0 text.1 in
    let check : Has (check_bytes (entry_text (place, bytes))) (at + 13 + len) log =
    has_read 8 (at + 13 + len) log (check_bytes (entry_text (place, bytes))) (sym (whole ∙ ap check_bytes said)) in
    let both : Has (entry_text (place, bytes) ++ check_bytes (entry_text (place, bytes))) (suc at) log =
    has-append (entry_text (place, bytes)) (check_bytes (entry_text (place, bytes))) (suc at) log text.1
    (has_along (check_bytes (entry_text (place, bytes))) (at + 13 + len) _ log (omega (arith, length-entry_text (place, bytes), text.0)) check) in
    let gate : log at ≡ 255 = gate_is in
    (text.0, (λ i. gate i ∷ both i))
  where
    gate_is : log at ≡ 255
    gate_is = cc

pub all_first : {X : Type 0} (P : X → Type 0) (x : X) (xs : List X) → All P (x ∷ xs) → P x
all_first P x xs all = all 0 x (omega arith)

pub all_rest : {X : Type 0} (P : X → Type 0) (x : X) (xs : List X) → All P (x ∷ xs) → All P xs
all_rest P x xs all = λ k d h. all (suc k) d (omega arith)

-- What has been read of a log so far is the front of the patches that it holds.
pub follows : (bounds : Bounds) (done ps : List Patch) (at : ℕ) (log : Content) → All (Fits bounds) done → All (Fits bounds) ps
    → Has (entries done) at log → Has (entries ps) at log → (log (at + length (entries ps)) ≡ 255 → ⊥) → (rest : List Patch) × (ps ≡ done ++ rest)
follows bounds [] ps at log fd fp hd hp shut = (ps, refl)
follows bounds (d ∷ ds) [] at log fd fp hd hp shut =
    let open_gate : log at ≡ 255 = entry_gate d at log (has_front (entry d) (entries ds) at log hd) in
    let e : at + 0 ≡ at = omega arith in
    absurd (shut (ap log e ∙ open_gate))
follows bounds (d ∷ ds) (p ∷ ps) at log fd fp hd hp shut =
    let same : d ≡ p = entry_one bounds d p at log (all_first (Fits bounds) d ds fd) (all_first (Fits bounds) p ps fp) (has_front (entry d) (entries ds) at log hd) (has_front (entry p) (entries ps) at log hp) in
    let long : length (entry d) ≡ length (entry p) = ap (λ (x : Patch). length (entry x)) same in
    let next : Has (entries ps) (at + length (entry d)) log = has_along (entries ps) _ _ log (omega (arith, long)) (has_back (entry p) (entries ps) at log hp) in
    let stop : log (at + length (entry d) + length (entries ps)) ≡ 255 → ⊥ = λ is. shut (ap log (omega (arith, long, length-append (entry p) (entries ps))) ∙ is) in
    let rest = follows bounds ds ps (at + length (entry d)) log (all_rest (Fits bounds) d ds fd) (all_rest (Fits bounds) p ps fp) (has_back (entry d) (entries ds) at log hd) next stop in
    let back : p ≡ d = sym same in
    (rest.0, (λ i. back i ∷ rest.1 i))

module _ (bounds : Bounds) where
  pub log_kept : (ps : List Patch) (log other : Content) → IsLog bounds ps log → ((i : ℕ) → i ≤ bounds.log_start + length (entries ps) → other i ≡ log i) → IsLog bounds ps other
  log_kept ps log other is same = record {
    stands = has_same (entries ps) bounds.log_start log other (λ i low high. same i (omega arith)) is.stands;
    shut = λ gate. is.shut (sym (same (bounds.log_start + length (entries ps)) (omega arith)) ∙ gate);
    within = is.within;
    each = is.each;
  }

  -- the log after it was emptied
  pub log_none : (log : Content) → bounds.log_start < bounds.log_end → (log bounds.log_start ≡ 255 → ⊥) → IsLog bounds [] log
  log_none log room shut = record {
    stands = refl;
    shut = λ gate. shut (ap log (omega arith) ∙ gate);
    within = omega arith;
    each = λ k d h. absurd (omega arith);
  }

  -- more entries after those that a log holds, and a shut gate after them
  pub log_more : (ps batch : List Patch) (log other : Content) (end : ℕ) → IsLog bounds ps log → end ≡ bounds.log_start + length (entries ps) → ((i : ℕ) → i < end → other i ≡ log i)
      → Has (entries batch) end other → (other (end + length (entries batch)) ≡ 255 → ⊥) → end + length (entries batch) < bounds.log_end → All (Fits bounds) batch → IsLog bounds (ps ++ batch) other
  log_more ps batch log other end is ends same behind shut room fits =
      let long : length (entries (ps ++ batch)) ≡ length (entries ps) + length (entries batch) = ap length (entries-append ps batch) ∙ length-append (entries ps) (entries batch) in
      let front : Has (entries ps) bounds.log_start other = has_same (entries ps) bounds.log_start log other (λ i low high. same i (omega arith)) is.stands in
      let whole : Has (entries ps ++ entries batch) bounds.log_start other = has-append (entries ps) (entries batch) bounds.log_start other front (has_along (entries batch) end _ other ends behind) in
      record {
        stands = subst (λ (l : List ℕ). Has l bounds.log_start other) (sym (entries-append ps batch)) whole;
        shut = λ gate. shut (ap other (omega (arith, ends, long)) ∙ gate);
        within = omega (arith, ends, long, room);
        each = All-append (Fits bounds) ps batch is.each fits;
      }
