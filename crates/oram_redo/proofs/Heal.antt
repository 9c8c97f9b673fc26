-- A batch is written again over whatever a crash has left in its places.
use Rattle.std.proofs.Common.{◌≡◌, ◌⊎◌, ℕ, suc, ◌+◌, ◌<◌, ◌≤◌, List, [], ◌∷◌, ◌++◌, length, refl, ◌∙◌, arith}
use Rattle.oram_redo.specs.Content.{Content, put}
use Rattle.oram_redo.specs.Log.{Patch, put_all, Spares}
use Rattle.oram_redo.proofs.Bytes.{put_outside}

pub put_heals : (bs : List ℕ) (at : ℕ) (c d : Content) (i : ℕ) → ((i < at ⊎ at + length bs ≤ i) → c i ≡ d i) → put bs at c i ≡ put bs at d i
put_heals [] at c d i h = h (grind arith)
put_heals (b ∷ bs) at c d i h =
    let tail = put_heals bs (suc at) c d i in
    grind arith

pub put_all_heals : (ps : List Patch) (c d : Content) (i : ℕ) → (Spares ps i → c i ≡ d i) → put_all ps c i ≡ put_all ps d i
put_all_heals [] c d i same = same tt
put_all_heals (p ∷ ps) c d i same = put_all_heals ps (put p.1 p.0 c) (put p.1 p.0 d) i (λ spared. put_heals p.1 p.0 c d i (λ outside. same (outside, spared)))

pub put_all-append : (ps qs : List Patch) (c : Content) → put_all (ps ++ qs) c ≡ put_all qs (put_all ps c)
put_all-append [] qs c = refl
put_all-append (p ∷ ps) qs c = put_all-append ps qs (put p.1 p.0 c)

pub put_all_spares : (ps : List Patch) (c : Content) (i : ℕ) → Spares ps i → put_all ps c i ≡ c i
put_all_spares [] c i spared = refl
put_all_spares (p ∷ ps) c i spared = put_all_spares ps (put p.1 p.0 c) i spared.1 ∙ put_outside p.1 p.0 c i spared.0

pub spares-append : (ps qs : List Patch) (i : ℕ) → Spares (ps ++ qs) i → Spares ps i × Spares qs i
spares-append [] qs i spared = (tt, spared)
spares-append (p ∷ ps) qs i spared = let rest = spares-append ps qs i spared.1 in ((spared.0, rest.0), rest.1)
