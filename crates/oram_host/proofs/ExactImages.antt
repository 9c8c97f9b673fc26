-- Everything is read from its own text only: a text of bytes that reads as a host is its image.
use Rattle.std.proofs.Common.{◌≡◌, ℕ, zero, suc, ◌+◌, ◌-◌, ◌^◌, ◌<◌, ◌≤◌, Bool, true, false, cond, eqb, leb, ltb, List, [], ◌∷◌, ◌++◌, length, get_or, take, drop, All, Result, Ok, Err, ◌↔◌, inl, inr, refl, sym, ap, subst, ◌∙◌, append_assoc, append-nil, arith}
use Rattle.std.specs.Prelude.{◌&&◌, codes, nat_eq}
use Rattle.std.specs.Int.{w32, from_be_bytes, to_be_bytes}
use Rattle.std.specs.List.{AllByRecursion, flat_map, starts_with}
use Rattle.std.specs.Cmp.Lexicographic.{same_text}
use Rattle.std.proofs.lemmas.Bool.{cases_lt, eqb-true, leb-true, ltb-false, ltb-true}
use Rattle.std.proofs.lemmas.List.{get_or-drop, get_or-take, get_or_past, length-take, take-append-drop}
use Rattle.std.proofs.lemmas.List.Concat.{flat_map-cons}
use Rattle.std.proofs.lemmas.Nat.{be_bytes_4}
use Rattle.oram_host.specs.declared.images.ImageFault.{ImageFault}
use Rattle.oram_host.specs.declared.images.ImageFault.TheVariants.{Length, Magic, Version}
use Rattle.oram_host.specs.Host.{Host, IsHost, IsKept, IsKeptTree, IsRecordOf, Kept, RisesFrom}
use Rattle.oram_host.specs.Image.{entries_text, image, kept_text, record_text, tree_text}
use Rattle.oram_host.specs.ImageReader.{Reading, after_end, after_letters, after_version, host_in, is_shape, lawful, next_byte, next_bytes, next_entries, next_kept, next_number, next_record, next_rising, next_tree, ◌>>=◌}
use Rattle.oram_host.proofs.ReadImages.{both_held, host_again, is_passed}

abbrev IsBytes : List ℕ → Type 0
IsBytes text = (i : ℕ) → get_or text i 0 < 256

bytes_past : (n : ℕ) (text : List ℕ) → IsBytes text → IsBytes (drop n text)
bytes_past n text h i = rw get_or-drop (h (n + i))

bytes_front : (n : ℕ) (text : List ℕ) → IsBytes text → IsBytes (take n text)
bytes_front n text h i =
    elim (cases_lt i n) [
      | inl lt ↦ rw (get_or-take n text i 0 lt) (h i)
      | inr le ↦ rw (get_or_past (take n text) i 0 (omega (arith, length-take n text))) (omega arith)
    ]

-- what was read from the front
record Takes (text front rest : List ℕ) : Type 0 where
  parts : text ≡ front ++ rest
  bytes : IsBytes rest

takes_more : (a x b y c : List ℕ) → Takes a x b → Takes b y c → Takes a (x ++ y) c
takes_more a x b y c p q = record { parts = p.parts ∙ ap (λ (t : List ℕ). x ++ t) q.parts ∙ sym (append_assoc x y c); bytes = q.bytes }

-- the value of a step that did not fail
bind_ok : {X Y : Type 0} (read : Result X ImageFault) (next : X → Result Y ImageFault) (y : Y) → (read >>= next) ≡ Ok y → (x : X) × (read ≡ Ok x) × (next x ≡ Ok y)
bind_ok (Ok x) next y e = (x, refl, e)
bind_ok (Err why) next y e = absurd cc

lawful_ok : {Y : Type 0} (b : Bool) (next : Unit {0} → Result Y ImageFault) (y : Y) → (lawful b >>= next) ≡ Ok y → (b ≡ true) × (next tt ≡ Ok y)
lawful_ok true next y e = (refl, e)
lawful_ok false next y e = absurd cc

-- a test that did not fail, and one that had to pass
else_ok : {X : Type 0} (b : Bool) (why : ImageFault) (x y : X) → cond b (Err why) (Ok x) ≡ Ok y → (b ≡ false) × (x ≡ y)
else_ok true why x y e = absurd cc
else_ok false why x y e = (refl, cc)

then_ok : {X : Type 0} (b : Bool) (why : ImageFault) (x y : X) → cond b (Ok x) (Err why) ≡ Ok y → (b ≡ true) × (x ≡ y)
then_ok true why x y e = (refl, cc)
then_ok false why x y e = absurd cc

abbrev done : {X : Type 0} → X → Result X ImageFault
done x = Ok x

value_is : {X : Type 0} (x y : X) → done x ≡ done y → x ≡ y
value_is x y e = cc

-- ---- fields

bytes_take : (n : ℕ) (text : List ℕ) (x : List ℕ × List ℕ) → IsBytes text → next_bytes n text ≡ Ok x → Takes text x.0 x.1 × (length x.0 ≡ n) × IsBytes x.0
unfolding next_bytes
bytes_take n text x h e =
    let g = else_ok (ltb (length text) n) Length (take n text, drop n text) x e in
    let long : n ≤ length text = ltb-false _ _ g.0 in
    let P : List ℕ × List ℕ → Type 0 = λ y. Takes text y.0 y.1 × (length y.0 ≡ n) × IsBytes y.0 in
    subst P g.1 (record { parts = sym (take-append-drop n text); bytes = bytes_past n text h }, omega (arith, length-take n text), bytes_front n text h)

byte_takes : (text : List ℕ) (x : ℕ × List ℕ) → IsBytes text → next_byte text ≡ Ok x → Takes text (x.0 ∷ []) x.1 × (x.0 < 256)
unfolding next_byte
byte_takes [] x h e = absurd cc
byte_takes (b ∷ text) x h e =
    let P : ℕ × List ℕ → Type 0 = λ y. Takes (b ∷ text) (y.0 ∷ []) y.1 × (y.0 < 256) in
    subst P (value_is (b, text) x e) (record { parts = refl; bytes = λ i. h (suc i) }, h 0)

number_takes : (text : List ℕ) (x : ℕ × List ℕ) → IsBytes text → next_number text ≡ Ok x → Takes text (to_be_bytes w32 x.0) x.1
unfolding next_number
number_takes text x h e =
    let b = bind_ok (next_bytes 4 text) (λ bytes. Ok (from_be_bytes w32 bytes.0, bytes.1)) x e in
    let t = bytes_take 4 text b.0 h b.1 in
    let spelled : to_be_bytes w32 (from_be_bytes w32 b.0.0) ≡ b.0.0 = be_bytes_4 b.0.0 (from_be_bytes w32 b.0.0) t.1 t.2 refl in
    let P : ℕ × List ℕ → Type 0 = λ y. Takes text (to_be_bytes w32 y.0) y.1 in
    let Q : List ℕ → Type 0 = λ front. Takes text front b.0.1 in
    subst P (value_is (from_be_bytes w32 b.0.0, b.0.1) x b.2) (subst Q (sym spelled) t.0)

-- ---- entries by rising number

-- an entry is read from its own text only
abbrev IsSpelled : {X : Type 0} → (ℕ → List ℕ → Reading (ℕ × X)) → (ℕ × X → List ℕ) → (ℕ × X → Type 0) → Type 0
IsSpelled {X} next_entry text_of Fits = (least : ℕ) (text : List ℕ) (x : (ℕ × X) × List ℕ) → IsBytes text → next_entry least text ≡ Ok x → Takes text (text_of x.0) x.1 × Fits x.0 × (least ≤ x.0.0)

rising_take : {X : Type 0} (next_entry : ℕ → List ℕ → Reading (ℕ × X)) (text_of : ℕ × X → List ℕ) (Fits : ℕ × X → Type 0) → IsSpelled next_entry text_of Fits
    → (count least : ℕ) (text : List ℕ) (x : List (ℕ × X) × List ℕ) → IsBytes text → next_rising next_entry count least text ≡ Ok x
    → Takes text (flat_map text_of x.0) x.1 × (length x.0 ≡ count) × RisesFrom least x.0 × AllByRecursion Fits x.0
unfolding next_rising
rising_take {X} next_entry text_of Fits spelled zero least text x h e =
    let P : List (ℕ × X) × List ℕ → Type 0 = λ y. Takes text (flat_map text_of y.0) y.1 × (length y.0 ≡ 0) × RisesFrom least y.0 × AllByRecursion Fits y.0 in
    subst P (value_is ([], text) x e) (record { parts = refl; bytes = h }, refl, tt, tt)
rising_take {X} next_entry text_of Fits spelled (suc count) least text x h e =
    let a = bind_ok (next_entry least text) (λ first. next_rising next_entry count (first.0.0 + 1) first.1 >>= λ others. Ok (first.0 ∷ others.0, others.1)) x e in
    let b = bind_ok (next_rising next_entry count (a.0.0.0 + 1) a.0.1) (λ others. Ok (a.0.0 ∷ others.0, others.1)) x a.2 in
    let first = spelled least text a.0 h a.1 in
    let others = rising_take next_entry text_of Fits spelled count (a.0.0.0 + 1) a.0.1 b.0 first.0.bytes b.1 in
    let both = takes_more text (text_of a.0.0) a.0.1 (flat_map text_of b.0.0) b.0.1 first.0 others.0 in
    let P : List (ℕ × X) × List ℕ → Type 0 = λ y. Takes text (flat_map text_of y.0) y.1 × (length y.0 ≡ suc count) × RisesFrom least y.0 × AllByRecursion Fits y.0 in
    subst P (value_is (a.0.0 ∷ b.0.0, b.0.1) x b.2) (rw flat_map-cons both, ap (λ (n : ℕ). suc n) others.1, (first.2, others.2), (first.1, others.3))

entries_take : {X : Type 0} (most : ℕ) (next_entry : ℕ → List ℕ → Reading (ℕ × X)) (text_of : ℕ × X → List ℕ) (Fits : ℕ × X → Type 0) → IsSpelled next_entry text_of Fits
    → (text : List ℕ) (x : List (ℕ × X) × List ℕ) → IsBytes text → next_entries most next_entry text ≡ Ok x → Takes text (entries_text text_of x.0) x.1 × RisesFrom 0 x.0 × AllByRecursion Fits x.0
unfolding next_entries
entries_take most next_entry text_of Fits spelled text x h e =
    let a = bind_ok (next_number text) (λ count. lawful (leb count.0 most) >>= λ _. next_rising next_entry count.0 0 count.1) x e in
    let b = lawful_ok (leb a.0.0 most) (λ _. next_rising next_entry a.0.0 0 a.0.1) x a.2 in
    let head = number_takes text a.0 h a.1 in
    let entries = rising_take next_entry text_of Fits spelled a.0.0 0 a.0.1 x head.bytes b.1 in
    let both = takes_more text (to_be_bytes w32 a.0.0) a.0.1 (flat_map text_of x.0) x.1 head entries.0 in
    let P : ℕ → Type 0 = λ n. Takes text (to_be_bytes w32 n ++ flat_map text_of x.0) x.1 in
    (subst P (sym entries.1) both, entries.2, entries.3)

-- ---- records and trees

record_takes : (nodes record_len : ℕ) → IsSpelled (next_record nodes record_len) record_text (IsRecordOf nodes record_len)
unfolding next_record
record_takes nodes record_len least text x h e =
    let a = bind_ok (next_number text) (λ node. lawful (leb least node.0 && ltb node.0 nodes) >>= λ _. next_bytes record_len node.1 >>= λ bytes. Ok ((node.0, bytes.0), bytes.1)) x e in
    let b = lawful_ok (leb least a.0.0 && ltb a.0.0 nodes) (λ _. next_bytes record_len a.0.1 >>= λ bytes. Ok ((a.0.0, bytes.0), bytes.1)) x a.2 in
    let c = bind_ok (next_bytes record_len a.0.1) (λ bytes. Ok ((a.0.0, bytes.0), bytes.1)) x b.1 in
    let held = both_held (leb least a.0.0) (ltb a.0.0 nodes) b.0 in
    let node = number_takes text a.0 h a.1 in
    let bytes = bytes_take record_len a.0.1 c.0 node.bytes c.1 in
    let P : (ℕ × List ℕ) × List ℕ → Type 0 = λ y. Takes text (record_text y.0) y.1 × IsRecordOf nodes record_len y.0 × (least ≤ y.0.0) in
    subst P (value_is ((a.0.0, c.0.0), c.0.1) x c.2)
    (takes_more text (to_be_bytes w32 a.0.0) a.0.1 c.0.0 c.0.1 node bytes.0, record { node = ltb-true a.0.0 nodes held.1; whole = bytes.1 }, leb-true least a.0.0 held.0)

kept_takes : (text : List ℕ) (x : Kept × List ℕ) → IsBytes text → next_kept text ≡ Ok x → Takes text (kept_text x.0) x.1 × IsKept x.0
unfolding next_kept
kept_takes text x h e =
    let after : ℕ → ℕ → List ℕ → Reading Kept =
    λ depth record_len rest. next_entries (2 ^ (depth + 1) - 1) (next_record (2 ^ (depth + 1) - 1) record_len) rest >>= λ records. Ok (record { depth = depth; record_len = record_len; records = records.0 }, records.1) in
    let a = bind_ok (next_byte text) (λ depth. next_number depth.1 >>= λ record_len. lawful (is_shape depth.0 record_len.0) >>= λ _. after depth.0 record_len.0 record_len.1) x e in
    let b = bind_ok (next_number a.0.1) (λ record_len. lawful (is_shape a.0.0 record_len.0) >>= λ _. after a.0.0 record_len.0 record_len.1) x a.2 in
    let c = lawful_ok (is_shape a.0.0 b.0.0) (λ _. after a.0.0 b.0.0 b.0.1) x b.2 in
    let nodes = 2 ^ (a.0.0 + 1) - 1 in
    let d = bind_ok (next_entries nodes (next_record nodes b.0.0) b.0.1) (λ records. Ok (record { depth = a.0.0; record_len = b.0.0; records = records.0 }, records.1)) x c.1 in
    let depth = (byte_takes text a.0 h a.1).0 in
    let record_len = number_takes a.0.1 b.0 depth.bytes b.1 in
    let records = entries_take nodes (next_record nodes b.0.0) record_text (IsRecordOf nodes b.0.0) (record_takes nodes b.0.0) b.0.1 d.0 record_len.bytes d.1 in
    let head = takes_more text (a.0.0 ∷ []) a.0.1 (to_be_bytes w32 b.0.0) b.0.1 depth record_len in
    let whole = takes_more text ((a.0.0 ∷ []) ++ to_be_bytes w32 b.0.0) b.0.1 (entries_text record_text d.0.0) d.0.1 head records.0 in
    let kept : Kept = record { depth = a.0.0; record_len = b.0.0; records = d.0.0 } in
    let P : Kept × List ℕ → Type 0 = λ y. Takes text (kept_text y.0) y.1 × IsKept y.0 in
    subst P (value_is (kept, d.0.1) x d.2) (whole, record { shape = is_passed a.0.0 b.0.0 c.0; rising = records.1; each = records.2 })

tree_takes : IsSpelled next_tree tree_text IsKeptTree
unfolding next_tree
tree_takes least text x h e =
    let a = bind_ok (next_byte text) (λ number. lawful (leb least number.0) >>= λ _. next_kept number.1 >>= λ kept. Ok ((number.0, kept.0), kept.1)) x e in
    let b = lawful_ok (leb least a.0.0) (λ _. next_kept a.0.1 >>= λ kept. Ok ((a.0.0, kept.0), kept.1)) x a.2 in
    let c = bind_ok (next_kept a.0.1) (λ kept. Ok ((a.0.0, kept.0), kept.1)) x b.1 in
    let number = byte_takes text a.0 h a.1 in
    let kept = kept_takes a.0.1 c.0 number.0.bytes c.1 in
    let P : (ℕ × Kept) × List ℕ → Type 0 = λ y. Takes text (tree_text y.0) y.1 × IsKeptTree y.0 × (least ≤ y.0.0) in
    subst P (value_is ((a.0.0, c.0.0), c.0.1) x c.2)
    (takes_more text (a.0.0 ∷ []) a.0.1 (kept_text c.0.0) c.0.1 number.0 kept.0, record { number = number.1; kept = kept.1 }, leb-true least a.0.0 b.0)

-- ---- hosts

letters_take : (text rest : List ℕ) → IsBytes text → after_letters text ≡ Ok rest → Takes text (codes "ORAMHOST") rest
unfolding after_letters
letters_take text rest h e =
    let g = then_ok (starts_with nat_eq text (codes "ORAMHOST")) Magic (drop 8 text) rest e in
    let same : codes "ORAMHOST" ≡ take 8 text = same_text (codes "ORAMHOST") (take 8 text) (sym g.0) in
    let P : List ℕ → Type 0 = λ r. Takes text (codes "ORAMHOST") r in
    let parts : text ≡ codes "ORAMHOST" ++ drop 8 text = sym (take-append-drop 8 text) ∙ ap (λ (t : List ℕ). t ++ drop 8 text) (sym same) in
    subst P g.1 (record { parts = parts; bytes = bytes_past 8 text h })

version_takes : (text rest : List ℕ) → IsBytes text → after_version text ≡ Ok rest → Takes text (to_be_bytes w32 1) rest
unfolding after_version
version_takes text rest h e =
    let a = bind_ok (next_number text) (λ version. cond (eqb version.0 1) (Ok version.1) (Err Version)) rest e in
    let g = then_ok (eqb a.0.0 1) Version a.0.1 rest a.2 in
    let P : List ℕ → Type 0 = λ r. Takes text (to_be_bytes w32 1) r in
    let Q : ℕ → Type 0 = λ n. Takes text (to_be_bytes w32 n) a.0.1 in
    subst P g.1 (subst Q (eqb-true a.0.0 1 g.0) (number_takes text a.0 h a.1))

at_end : (text : List ℕ) (u : Unit {0}) → after_end text ≡ Ok u → text ≡ []
unfolding after_end
at_end [] u e = refl
at_end (b ∷ text) u e = absurd cc

-- a text that is read as a host is its image
host_takes : (text : List ℕ) (host : Host) → IsBytes text → host_in text ≡ Ok host → IsHost host × (text ≡ image host)
unfolding host_in
host_takes text host h e =
    let trees_and_end : List ℕ → Result Host ImageFault = λ rest. next_entries 256 next_tree rest >>= λ trees. after_end trees.1 >>= λ _. Ok trees.0 in
    let a = bind_ok (after_letters text) (λ letters. after_version letters >>= λ version. trees_and_end version) host e in
    let b = bind_ok (after_version a.0) (λ version. trees_and_end version) host a.2 in
    let c = bind_ok (next_entries 256 next_tree b.0) (λ trees. after_end trees.1 >>= λ _. Ok trees.0) host b.2 in
    let d = bind_ok (after_end c.0.1) (λ _. Ok c.0.0) host c.2 in
    let letters = letters_take text a.0 h a.1 in
    let version = version_takes a.0 b.0 letters.bytes b.1 in
    let trees = entries_take 256 next_tree tree_text IsKeptTree tree_takes b.0 c.0 version.bytes c.1 in
    let head = takes_more text (codes "ORAMHOST") a.0 (to_be_bytes w32 1) b.0 letters version in
    let whole = takes_more text (codes "ORAMHOST" ++ to_be_bytes w32 1) b.0 (entries_text tree_text c.0.0) c.0.1 head trees.0 in
    let none : c.0.1 ≡ [] = at_end c.0.1 d.0 d.1 in
    let P : Host → Type 0 = λ x. IsHost x × (text ≡ image x) in
    subst P (value_is c.0.0 host d.2) (record { rising = trees.1; each = trees.2 }, whole.parts ∙ ap (λ (r : List ℕ). image c.0.0 ++ r) none ∙ append-nil (image c.0.0))

bytes_from_all : (text : List ℕ) → All (λ b. b < 256) text → IsBytes text
bytes_from_all text all i =
    elim (cases_lt i (length text)) [
      | inl lt ↦ all i 0 lt
      | inr le ↦ rw (get_or_past text i 0 le) (omega arith)
    ]

-- a text of bytes is read as a host if and only if it is its image
pub exact_image : (text : List ℕ) (host : Host) → All (λ b. b < 256) text → (host_in text ≡ Ok host) ↔ (IsHost host × (text ≡ image host))
exact_image text host all = (λ e. host_takes text host (bytes_from_all text all) e, λ h. ap host_in h.1 ∙ host_again host h.0)
