-- Texts in which no line reports a failure.
use Rattle.std.proofs.Common.{◌≡◌, ◌≢◌, ◌≤◌, ℕ, zero, suc, ◌/◌, ◌%◌, Bool, true, false, List, [], ◌∷◌, ◌++◌, get_or, map, take, refl, sym, ap, ◌∙◌, subst, arith, append_assoc, append-nil}
use Rattle.std.specs.Prelude.{◌==◌, not, nat_le, nat_lt, if◌then◌else◌, codes, length, slice_index, slice_range}
use Rattle.std.specs.Fmt.{decimal, digits, digits_onto, digit_glyph}
use Rattle.std.specs.List.{AllByRecursion, flat_map, list_all}
use Rattle.std.proofs.lemmas.Bool.{eqb-true, eqb-false, false_from_ne_true}
use Rattle.std.proofs.lemmas.List.{length-take}
use Rattle.byteorder.specs.Endian.{big_number}
use Rattle.hex.specs.Hex.{encode_with, encode_lower, lower_digits}
use Rattle.oram_geometry.specs.declared.ShapeFault.{ShapeFault}
use Rattle.oram_geometry.specs.Sizes.{fault_number}
use Rattle.oram_semantics.specs.Run.{Shown, fails_now}
use Rattle.oram_semantics.specs.declared.events.Note.{Note}
use Rattle.oram_semantics.specs.declared.events.Note.TheVariants.{Accepted, Refused, Taken, Stalled, FailedNow, Resent, Unexpected}
use Rattle.oram_semantics.specs.declared.events.Refusal.{Refusal}
use Rattle.oram_semantics.specs.declared.events.Refusal.TheVariants as refusal
use Rattle.oram_semantics.specs.declared.events.Reply.{Reply}
use Rattle.oram_semantics.specs.declared.events.ReplyBody.{ReplyBody}
use Rattle.oram_semantics.specs.declared.events.ReplyBody.TheVariants as body
use Rattle.oramsim.specs.Printer.{newline, space, refusal_text, note_text, body_text, reply_text, send_text, reaction_text, ready_text, shape_text, error_text, memory_text}
use Rattle.oramsim.specs.Lines.{lines_of, onto_line}
use Rattle.oramsim.specs.Script.{HasNoFailure, IsBeginning, Turn}
use Rattle.oramsim.proofs.Numbers.{both_true}

-- No line ends in these bytes.
record Ink (bytes : List ℕ) : Type 0 where
  each : AllByRecursion (λ c. c ≢ 10) bytes

other_than : (x : ℕ) (b : Bool) → (x == 10) ≡ b → not b ≡ true → x ≢ 10
other_than x true e h = cc
other_than x false e h = eqb-false x 10 e

each_by : (l : List ℕ) → list_all (λ c. not (c == 10)) l ≡ true → AllByRecursion (λ c. c ≢ 10) l
each_by [] h = tt
each_by (x ∷ l) h = let both = both_true (not (x == 10)) (list_all (λ c. not (c == 10)) l) h in (other_than x (x == 10) refl both.0, each_by l both.1)

said : (l : List ℕ) → list_all (λ c. not (c == 10)) l ≡ true → Ink l
said l h = record { each = each_by l h }

each_append : (a b : List ℕ) → AllByRecursion (λ c. c ≢ 10) a → AllByRecursion (λ c. c ≢ 10) b → AllByRecursion (λ c. c ≢ 10) (a ++ b)
each_append [] b p q = q
each_append (x ∷ a) b p q = (p.0, each_append a b p.1 q)

joined : {a b : List ℕ} → Ink a → Ink b → Ink (a ++ b)
joined {a} {b} p q = record { each = each_append a b p.each q.each }

ink_glyph : (d : ℕ) → digit_glyph false d ≢ 10
ink_glyph d = at (nat_lt d 10) refl where
  at : (b : Bool) → nat_lt d 10 ≡ b → digit_glyph false d ≢ 10
  at true e = rw e (omega arith)
  at false e = rw e (omega arith)

digits_by : (k n : ℕ) (acc : List ℕ) (b : Bool) → (n / 10 == 0) ≡ b → AllByRecursion (λ c. c ≢ 10) acc
    → AllByRecursion (λ c. c ≢ 10) (digits_onto k 10 false (n / 10) (digit_glyph false (n % 10) ∷ acc)) → AllByRecursion (λ c. c ≢ 10) (digits_onto (suc k) 10 false n acc)
digits_by k n acc true e p q = rw e (ink_glyph (n % 10), p)
digits_by k n acc false e p q = rw e q

each_digit : (k n : ℕ) (acc : List ℕ) → AllByRecursion (λ c. c ≢ 10) acc → AllByRecursion (λ c. c ≢ 10) (digits_onto k 10 false n acc)
each_digit zero n acc p = p
each_digit (suc k) n acc p = digits_by k n acc (n / 10 == 0) refl p (each_digit k (n / 10) (digit_glyph false (n % 10) ∷ acc) (ink_glyph (n % 10), p))

number : (n : ℕ) → Ink (decimal n)
unfolding digits
number n = record { each = each_digit 64 n [] tt }

each_at : (l : List ℕ) (k : ℕ) → AllByRecursion (λ c. c ≢ 10) l → get_or l k 0 ≢ 10
each_at [] k p = omega arith
each_at (x ∷ l) zero p = p.0
each_at (x ∷ l) (suc k) p = each_at l k p.1

hex_digit : (k : ℕ) → get_or lower_digits k 0 ≢ 10
hex_digit k = each_at lower_digits k (each_by lower_digits refl)

each_hex : (bytes : List ℕ) → AllByRecursion (λ c. c ≢ 10) (encode_lower bytes)
unfolding encode_with
each_hex [] = tt
each_hex (x ∷ bytes) = (hex_digit (x / 16), (hex_digit (x % 16), each_hex bytes))

lines_ink : (l rest : List ℕ) → AllByRecursion (λ c. c ≢ 10) l → lines_of (l ++ 10 ∷ rest) ≡ l ∷ lines_of rest
lines_ink [] rest p = refl
lines_ink (x ∷ l) rest p =
    let same : (x == 10) ≡ false = false_from_ne_true (x == 10) (λ e. p.0 (eqb-true x 10 e)) in
    rw (same, lines_ink l rest p.1) refl

-- Whatever text follows, no line of this one reports a failure.
pub record Clean (text : List ℕ) : Type 0 where
  pub before : (rest : List ℕ) → HasNoFailure rest → HasNoFailure (text ++ rest)

pub clean_text : (text : List ℕ) → Clean text → HasNoFailure text
clean_text text p = subst HasNoFailure (append-nil text) (p.before [] tt)

pub clean_nil : Clean []
clean_nil = record { before = λ rest h. h }

pub clean_append : (a b : List ℕ) → Clean a → Clean b → Clean (a ++ b)
clean_append a b p q = record { before = λ rest h. subst HasNoFailure (sym (append_assoc a b rest)) (p.before (b ++ rest) (q.before rest h)) }

second_of : (line : List ℕ) → take 6 line ≡ codes "failed" → get_or line 1 0 ≡ 97
second_of [] e = ap (λ (xs : List ℕ). get_or xs 1 0) e
second_of (c ∷ []) e = ap (λ (xs : List ℕ). get_or xs 1 0) e
second_of (c ∷ d ∷ line) e = ap (λ (xs : List ℕ). get_or xs 1 0) e

-- a line whose second letter isn't that of `failed`
clean_line : (line : List ℕ) (d : ℕ) → Ink line → get_or line 1 0 ≡ d → d ≢ 97 → Clean (line ++ newline)
clean_line line d ink second other = record {
  before = λ rest h.
      let split : lines_of ((line ++ newline) ++ rest) ≡ line ∷ lines_of rest = ap lines_of (append_assoc line newline rest) ∙ lines_ink line rest ink.each in
      subst (AllByRecursion (λ l. take 6 l ≢ codes "failed")) (sym split) ((λ e. other (sym second ∙ second_of line e)), h);
}

refusal_ink : (e : Refusal) → Ink (refusal_text e)
refusal_ink refusal.BadAddress = said (codes "1 address") refl
refusal_ink refusal.BadLength = said (codes "2 length") refl
refusal_ink refusal.BadWords = said (codes "3 words") refl
refusal_ink refusal.Busy = said (codes "4 busy") refl
refusal_ink refusal.Exhausted = said (codes "5 exhausted") refl
refusal_ink refusal.Failed = said (codes "6 failed") refl

note_clean : (note : Note) → fails_now note ≡ false → Clean (note_text note)
note_clean (Accepted ticket) calm = clean_line (codes "accepted " ++ decimal ticket) 99 (joined (said (codes "accepted ") refl) (number ticket)) refl (omega arith)
note_clean (Refused e) calm = clean_line (codes "refused " ++ refusal_text e) 101 (joined (said (codes "refused ") refl) (refusal_ink e)) refl (omega arith)
note_clean Taken calm = clean_nil
note_clean Stalled calm = clean_line (codes "stalled") 116 (said (codes "stalled") refl) refl (omega arith)
note_clean (FailedNow e) calm = cc
note_clean Resent calm = clean_nil
note_clean Unexpected calm = clean_line (codes "unexpected") 110 (said (codes "unexpected") refl) refl (omega arith)

body_ink : (b : ReplyBody) → Ink (body_text b)
body_ink (body.Data bytes) = joined (said (codes "data ") refl) (record { each = each_hex bytes })
body_ink body.Done = said (codes "done") refl
body_ink body.Failed = said (codes "failed") refl

gap : Ink space
gap = said space refl

reply_clean : (r : Reply) → Clean (reply_text r)
reply_clean r =
    clean_line (codes "reply " ++ decimal r.session ++ space ++ decimal r.ticket ++ space ++ body_text r.body) 101
    (joined (joined (joined (joined (joined (said (codes "reply ") refl) (number r.session)) gap) (number r.ticket)) gap) (body_ink r.body)) refl (omega arith)

path_clean : (fetch : Bool) (tree leaf : ℕ) → Clean ((if fetch then codes "fetch " else codes "store ") ++ decimal tree ++ space ++ decimal leaf ++ newline)
path_clean true tree leaf =
    clean_line (codes "fetch " ++ decimal tree ++ space ++ decimal leaf) 101 (joined (joined (joined (said (codes "fetch ") refl) (number tree)) gap) (number leaf)) refl (omega arith)
path_clean false tree leaf =
    clean_line (codes "store " ++ decimal tree ++ space ++ decimal leaf) 116 (joined (joined (joined (said (codes "store ") refl) (number tree)) gap) (number leaf)) refl (omega arith)

sent_clean : (m : List ℕ) (b : Bool) → nat_le 6 (length m) ≡ b → Clean (send_text m)
sent_clean m true e = rw e (path_clean (slice_index m 0 == 1) (slice_index m 1) (big_number 4 (slice_range m 2 6)))
sent_clean m false e = rw e clean_nil

replies_clean : (rs : List Reply) → Clean (flat_map reply_text rs)
replies_clean [] = clean_nil
replies_clean (r ∷ rs) = clean_append (reply_text r) (flat_map reply_text rs) (reply_clean r) (replies_clean rs)

sends_clean : (ms : List (List ℕ)) → Clean (flat_map send_text ms)
sends_clean [] = clean_nil
sends_clean (m ∷ ms) = clean_append (send_text m) (flat_map send_text ms) (sent_clean m (nat_le 6 (length m)) refl) (sends_clean ms)

reaction_clean : (x : Shown) → fails_now x.note ≡ false → Clean (reaction_text x)
reaction_clean x calm =
    clean_append (note_text x.note ++ flat_map reply_text x.replies) (flat_map send_text x.sends)
    (clean_append (note_text x.note) (flat_map reply_text x.replies) (note_clean x.note calm) (replies_clean x.replies)) (sends_clean x.sends)

pub turns_clean : (turns : List Turn) → AllByRecursion (λ (t : Turn). fails_now t.shown.note ≡ false) turns → Clean (flat_map reaction_text (map (λ (t : Turn). t.shown) turns))
turns_clean [] calm = clean_nil
turns_clean (t ∷ turns) calm = clean_append (reaction_text t.shown) _ (reaction_clean t.shown calm.0) (turns_clean turns calm.1)

pub ready_clean : (trees : ℕ) → Clean (ready_text trees)
ready_clean trees = clean_line (codes "ready " ++ decimal trees) 101 (joined (said (codes "ready ") refl) (number trees)) refl (omega arith)

pub shape_clean : (f : ShapeFault) → Clean (shape_text f)
shape_clean f = clean_line (codes "shape " ++ decimal (fault_number f)) 104 (joined (said (codes "shape ") refl) (number (fault_number f))) refl (omega arith)

pub error_clean : (n : ℕ) → Clean (error_text n)
error_clean n = clean_line (codes "error line " ++ decimal n) 114 (joined (said (codes "error line ") refl) (number n)) refl (omega arith)

pub memory_clean : Clean memory_text
memory_clean = clean_line (codes "out of memory") 117 (said (codes "out of memory") refl) refl (omega arith)

-- Each of these lines is a beginning of one of the others, in their order.
abbrev Begin : List (List ℕ) → List (List ℕ) → Type 0
Begin [] whole = Unit {0}
Begin (line ∷ lines) [] = ⊥
Begin (line ∷ lines) (full ∷ whole) = ((k : ℕ) × (line ≡ take k full)) × Begin lines whole

begin_onto : (x : ℕ) (lines whole : List (List ℕ)) → Begin lines whole → Begin (onto_line x lines) (onto_line x whole)
begin_onto x [] [] h = ((1, refl), tt)
begin_onto x [] (full ∷ whole) h = ((1, refl), tt)
begin_onto x (line ∷ lines) [] h = absurd h
begin_onto x (line ∷ lines) (full ∷ whole) h = ((suc h.0.0, ap (λ l. x ∷ l) h.0.1), h.1)

begin_next : (x : ℕ) (b : Bool) (lines whole : List (List ℕ)) → Begin lines whole → Begin (if b then [] ∷ lines else onto_line x lines) (if b then [] ∷ whole else onto_line x whole)
begin_next x true lines whole h = ((0, refl), h)
begin_next x false lines whole h = begin_onto x lines whole h

begin_lines : (k : ℕ) (text : List ℕ) → Begin (lines_of (take k text)) (lines_of text)
begin_lines zero text = tt
begin_lines (suc k) [] = tt
begin_lines (suc k) (x ∷ text) = begin_next x (x == 10) (lines_of (take k text)) (lines_of text) (begin_lines k text)

-- a beginning of a beginning
shorter : (n k : ℕ) (l : List ℕ) → n ≤ k → take n (take k l) ≡ take n l
shorter zero k l h = refl
shorter (suc n) zero l h = absurd (omega (arith, h))
shorter (suc n) (suc k) [] h = refl
shorter (suc n) (suc k) (x ∷ l) h = ap (λ r. x ∷ r) (shorter n k l (omega (arith, h)))

long_enough : (k : ℕ) (full : List ℕ) → take 6 (take k full) ≡ codes "failed" → 6 ≤ k
long_enough k full e = omega (arith, ap length e, length-take 6 (take k full), length-take k full)

begins_unfailed : (lines whole : List (List ℕ)) → Begin lines whole → AllByRecursion (λ l. take 6 l ≢ codes "failed") whole → AllByRecursion (λ l. take 6 l ≢ codes "failed") lines
begins_unfailed [] whole h all = tt
begins_unfailed (line ∷ lines) [] h all = absurd h
begins_unfailed (line ∷ lines) (full ∷ whole) h all = (
  (λ e.
      let cut : take 6 (take h.0.0 full) ≡ codes "failed" = subst (λ (l : List ℕ). take 6 l ≡ codes "failed") h.0.1 e in
      all.0 (sym (shorter 6 h.0.0 full (long_enough h.0.0 full cut)) ∙ cut)),
  begins_unfailed lines whole h.1 all.1,
)

-- If no line of a text reports a failure, no line of a beginning of it does.
pub beginning_unfailed : (text whole : List ℕ) → IsBeginning text whole → HasNoFailure whole → HasNoFailure text
beginning_unfailed text whole b h = subst HasNoFailure (sym b.1) (begins_unfailed (lines_of (take b.0 whole)) (lines_of whole) (begin_lines b.0 whole) h)
