-- The fields of a core are those before its table, the table, and those after it.
use Rattle.std.proofs.Common.{◌≡◌, ℕ, ◌+◌, ◌*◌, List, [], ◌∷◌, ◌++◌, length, take, drop, Option, Some, None, refl, sym, ap, ◌∙◌, arith, append_assoc, length-append}
use Rattle.std.proofs.lemmas.List.{take_at, drop_at}
use Rattle.std.specs.List.{flat_map}
use Rattle.std.specs.Prelude.{map}
use Rattle.oram_geometry.specs.declared.Sizes.{Sizes}
use Rattle.oram_tree.specs.Parts.{Parts as TreeParts, parts_of as tree_parts}
use Rattle.oram_semantics.specs.State.{State}
use Rattle.oram_semantics.specs.declared.events.Reason.{Reason}
use Rattle.oram_semantics.specs.declared.events.Reason.TheVariants.{Malformed, Tampered, HostRefused}
use Rattle.oram_core.specs.Parts.{Parts, parts_of, pending_of, state_of, submissions_from, trees_from}
use Rattle.oram_core.specs.declared.parts.Pending.{Pending}
use Rattle.oram_state.specs.AroundTable.{FieldsAreAroundTable, after_table, before_len, before_table}
use Rattle.oram_state.specs.DecodedCore.{AreSavedFields}
use Rattle.oram_state.specs.StateBytes.{after_text, before_text, failure_text, fields_text, half, head_text, long, short, table_text, with_table}

-- the parts of the core that parts make
pendings_again : (t : ℕ) (waiting : List Pending) → map pending_of (submissions_from t waiting) ≡ waiting
pendings_again t [] = refl
pendings_again t (q ∷ waiting) = ap (λ (qs : List Pending). q ∷ qs) (pendings_again (t + 1) waiting)

trees_again : (i : ℕ) (trees : List TreeParts) → map tree_parts (trees_from i trees) ≡ trees
trees_again i [] = refl
trees_again i (t ∷ trees) = ap (λ (ts : List TreeParts). t ∷ ts) (trees_again (i + 1) trees)

parts_again : (p : Parts) → parts_of p.device (state_of p) ≡ p
parts_again p =
    ap (λ (ts : List TreeParts). record p { trees = ts; waiting = (parts_of p.device (state_of p)).waiting }) (trees_again 0 p.trees)
    ∙ ap (λ (qs : List Pending). record p { waiting = qs }) (pendings_again _ p.waiting)

in_three : (a b c e : List ℕ) → a ++ (b ++ c ++ e) ≡ (a ++ b) ++ (c ++ e)
in_three a b c e = simp append_assoc

pub fields_in_three : (overhead : ℕ) (p : Parts) → fields_text overhead p ≡ with_table (before_text overhead p) p.table (after_text p)
fields_in_three overhead p = in_three (head_text overhead p) (failure_text p.failure) (table_text p.table) (after_text p)

pub fields_around : FieldsAreAroundTable
fields_around text overhead d s h =
    let same : parts_of d s ≡ h.parts = ap (λ (e : Sizes). parts_of e s) h.device ∙ ap (parts_of h.parts.device) h.state ∙ parts_again h.parts in
    h.fields.spelled ∙ fields_in_three overhead h.parts
    ∙ ap (λ (p : Parts). with_table (before_text overhead p) p.table (after_text p)) (sym same)

-- how long the parts are
length-head : (overhead : ℕ) (p : Parts) → length (head_text overhead p) ≡ 45
unfolding half short long
length-head overhead p = refl

length-failure : (failure : Option Reason) → 45 + length (failure_text failure) ≡ before_len failure
length-failure None = refl
length-failure (Some Malformed) = refl
length-failure (Some (Tampered tree level)) = refl
length-failure (Some (HostRefused code)) = refl

pub length-before : (overhead : ℕ) (d : Sizes) (s : State) → length (before_table overhead d s) ≡ before_len s.failure
length-before overhead d s =
    length-append (head_text overhead (parts_of d s)) (failure_text s.failure) ∙ ap (λ (n : ℕ). n + length (failure_text s.failure)) (length-head overhead (parts_of d s)) ∙ length-failure s.failure

length-short : (n : ℕ) → length (short n) ≡ 4
unfolding short
length-short n = refl

pub length-table : (table : List ℕ) → length (table_text table) ≡ 4 * length table
length-table [] = refl
length-table (n ∷ table) =
    let rest = length-table table in
    let first = length-short n in
    omega (arith, length-append (short n) (table_text table), first, rest)

-- the parts of a text by their lengths
pub first_of : (text a b c : List ℕ) (n : ℕ) → text ≡ a ++ (b ++ c) → length a ≡ n → take n text ≡ a
first_of text a b c n is len = ap (take n) is ∙ take_at a (b ++ c) n len

pub last_of : (text a b c : List ℕ) (n m : ℕ) → text ≡ a ++ (b ++ c) → length a ≡ n → length b ≡ m → drop m (drop n text) ≡ c
last_of text a b c n m is len_a len_b = ap (λ (x : List ℕ). drop m (drop n x)) is ∙ ap (drop m) (drop_at a (b ++ c) n len_a) ∙ drop_at b c m len_b
