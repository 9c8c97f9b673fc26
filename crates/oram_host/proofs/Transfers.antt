-- A beginning of a text is written piece by piece, and read piece by piece.
use Rattle.std.proofs.Common.{◌≡◌, ℕ, List, [], ◌++◌, length, take, drop, Option, sym, ap, ◌∙◌, subst, append_assoc, append-nil, take-append-drop}
use lib.Seq.{take-append_seam}
use Rattle.std.proofs.KnownBytes.{Appends-trans, Consumes-trans}
use Rattle.std.specs.Io.KnownBytes.{Appends}
use Rattle.oram_host.specs.Transfers.{Begins, TakesFrom}

-- ---- writing

-- the front of the text was written
pub begun : (a b : Option (List ℕ)) (front rest text : List ℕ) → Appends a b front → front ++ rest ≡ text → Begins a b text
begun a b front rest text p e = (length front, subst (Appends a b) (sym (ap (take (length front)) (sym e) ∙ take-append_seam front rest)) p)

cut_at : (count : ℕ) (piece rest : List ℕ) → take count piece ++ (drop count piece ++ rest) ≡ piece ++ rest
cut_at count piece rest = sym (append_assoc (take count piece) (drop count piece) rest) ∙ ap (λ (l : List ℕ). l ++ rest) (take-append-drop count piece)

-- a beginning of the first piece was written
pub begun_first : (a b : Option (List ℕ)) (piece rest text : List ℕ) → Begins a b piece → piece ++ rest ≡ text → Begins a b text
begun_first a b piece rest text p e = begun a b (take p.0 piece) (drop p.0 piece ++ rest) text p.1 (cut_at p.0 piece rest ∙ e)

-- the front was written, and then a beginning of the next piece
pub begun_next : (a b c : Option (List ℕ)) (front piece rest text : List ℕ) → Appends a b front → Begins b c piece → (front ++ piece) ++ rest ≡ text → Begins a c text
begun_next a b c front piece rest text p q e =
    let cut = take q.0 piece in
    let left = drop q.0 piece ++ rest in
    let same : (front ++ cut) ++ left ≡ (front ++ piece) ++ rest =
    append_assoc front cut left ∙ ap (λ (l : List ℕ). front ++ l) (cut_at q.0 piece rest) ∙ sym (append_assoc front piece rest) in
    begun a c (front ++ cut) left text (Appends-trans a b c front cut p q.1) (same ∙ e)

-- the front was written, and then a beginning of the last piece
pub begun_last : (a b c : Option (List ℕ)) (front piece : List ℕ) → Appends a b front → Begins b c piece → Begins a c (front ++ piece)
begun_last a b c front piece p q = begun_next a b c front piece [] (front ++ piece) p q (append-nil (front ++ piece))

-- ---- reading

pub taken_twice : (a b c : Option (List ℕ)) → TakesFrom a b → TakesFrom b c → TakesFrom a c
taken_twice a b c p q = (p.0 ++ q.0, Consumes-trans a b c p.0 q.0 p.1 q.1)
