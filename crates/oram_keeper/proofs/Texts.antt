-- The text of a process behind its title.
use Rattle.std.proofs.Common.{◌≡◌, ℕ, suc, ◌+◌, ◌<◌, List, [], ◌∷◌, ◌++◌, length, take, get_or, arith, refl, sym, ap, ◌∙◌, append-nil, append_assoc}
use Rattle.std.specs.List.{flat_map}
use Rattle.std.specs.Int.{w32, to_be_bytes}
use Rattle.std.proofs.Math.Seq.{take-suc}
use Rattle.std.proofs.lemmas.Grind.{flat_map-append}
use Rattle.std.proofs.lemmas.List.{append_cancel_left}
use Rattle.oram_kept.specs.Text.{Parts, number_bytes, text_of}
use Rattle.oram_state.specs.StateBytes.{short, table_text, with_table}

same_number : (n : ℕ) → number_bytes n ≡ short n
unfolding number_bytes short
same_number n = refl

pub same_table : (table : List ℕ) → flat_map number_bytes table ≡ table_text table
same_table [] = refl
same_table (n ∷ ns) = λ i. same_number n i ++ same_table ns i

as_bytes : (n : ℕ) → short n ≡ to_be_bytes w32 n
unfolding short
as_bytes n = refl

-- a number is put behind those before it
pub number_pushed : (before table text bytes new : List ℕ) (k : ℕ) → k < length table → text ≡ before ++ table_text (take k table) → bytes ≡ to_be_bytes w32 (get_or table k 0) → new ≡ text ++ bytes
    → new ≡ before ++ table_text (take (k + 1) table)
number_pushed before table text bytes new k within was is grown =
    let next : k + 1 ≡ suc k = omega arith in
    let last : table_text (get_or table k 0 ∷ []) ≡ bytes = append-nil (short (get_or table k 0)) ∙ as_bytes (get_or table k 0) ∙ sym is in
    let more : table_text (take (k + 1) table) ≡ table_text (take k table) ++ bytes =
    ap (λ (n : ℕ). table_text (take n table)) next ∙ ap table_text (take-suc table k 0 within) ∙ flat_map-append short (take k table) (get_or table k 0 ∷ [])
    ∙ ap (λ (l : List ℕ). table_text (take k table) ++ l) last in
    grown ∙ ap (λ (l : List ℕ). l ++ bytes) was ∙ append_assoc before (table_text (take k table)) bytes ∙ ap (λ (l : List ℕ). before ++ l) (sym more)

-- the text of a process with this title
pub text_is : (title before table after records : List ℕ) (p : Parts) → p ≡ record { before = title ++ before; table = table; after = after; records = records }
    → text_of p ≡ title ++ (with_table before table after ++ records)
text_is title before table after records p is =
    ap text_of is ∙ in_five title before (flat_map number_bytes table) after records ∙ ap (λ (l : List ℕ). title ++ ((before ++ (l ++ after)) ++ records)) (same_table table)
  where
    in_five : (a b c d e : List ℕ) → (a ++ b) ++ (c ++ (d ++ e)) ≡ a ++ ((b ++ (c ++ d)) ++ e)
    in_five a b c d e = simp append_assoc

-- a text is that of one process
pub one_behind : (title p q : List ℕ) → title ++ p ≡ title ++ q → p ≡ q
one_behind title p q same = append_cancel_left title p q same
