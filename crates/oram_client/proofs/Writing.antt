-- What is written of a batch that was begun, step by step.
use Rattle.std.proofs.Common.{◌≡◌, ℕ, List, [], ◌++◌, length, take, drop, Option, sym, ap, ◌∙◌, subst, append_assoc, refl}
use Rattle.std.proofs.lemmas.List.{take-append-drop}
use Rattle.std.proofs.Math.Seq.{take-append_seam}
use Rattle.std.proofs.KnownBytes.{Appends-kept, Appends-trans}
use Rattle.std.specs.Io.KnownBytes.{Appends, Keeps}
use Rattle.oram_client.specs.StreamBatches.{WritesOn}
use Rattle.oram_client.proofs.TakenIn.{kept_appends}

-- nothing was written
pub writes_none : (a b : Option (List ℕ)) (bytes : List ℕ) → Keeps a b → WritesOn a b bytes bytes
writes_none a b bytes kept = ([], kept_appends a b kept, refl)

-- some bytes were written
pub writes_some : (a b : Option (List ℕ)) (bytes : List ℕ) (count : ℕ) → Appends a b (take count bytes) → WritesOn a b bytes (drop count bytes)
writes_some a b bytes count appends = (take count bytes, appends, take-append-drop count bytes)

pub writes_both : (a b c : Option (List ℕ)) (bytes mid rest : List ℕ) → WritesOn a b bytes mid → WritesOn b c mid rest → WritesOn a c bytes rest
writes_both a b c bytes mid rest one two =
    (one.0 ++ two.0, Appends-trans a b c one.0 two.0 one.1 two.1, append_assoc one.0 two.0 rest ∙ ap (λ (x : List ℕ). one.0 ++ x) two.2 ∙ one.2)

-- and then the writer was flushed
pub writes_flushed : (a b c : Option (List ℕ)) (bytes rest : List ℕ) → WritesOn a b bytes rest → Keeps b c → WritesOn a c bytes rest
writes_flushed a b c bytes rest one kept = (one.0, Appends-kept a b c one.0 one.1 kept, one.2)

-- how many bytes were written
pub written_count : (a b : Option (List ℕ)) (bytes rest : List ℕ) → WritesOn a b bytes rest → (count : ℕ) × Appends a b (take count bytes)
written_count a b bytes rest one =
    let same : take (length one.0) bytes ≡ one.0 = ap (take (length one.0)) (sym one.2) ∙ take-append_seam one.0 rest in
    (length one.0, subst (Appends a b) (sym same) one.1)
