-- The front of a file: the device and the mode.
use Rattle.std.proofs.Common.{◌≡◌, ℕ, ◌+◌, ◌-◌, ◌^◌, Bool, true, false, cond, List, ◌∷◌, ◌++◌, Option, Some, None, Ok, Err, refl, sym, ap, ◌∙◌, subst, append_assoc, arith}
use Rattle.std.specs.Prelude.{IfOk, ◌&&◌, ◌==◌, ⊤}
use Rattle.std.proofs.lemmas.Bool.{le-leb, eqb-true}
use Rattle.std.specs.Int.{w16, w32, w64}
use Rattle.oram_geometry.specs.declared.Sizes.{Sizes}
use Rattle.oram_geometry.specs.declared.ShapeFault.{ShapeFault}
use Rattle.oram_geometry.specs.Sizes.{IsDevice, device_of, device_unless, most_blocks, range_fault}
use Rattle.oram_geometry.proofs.DeviceSizes.{most_blocks-range}
use Rattle.oram_geometry.proofs.Ranges.{in_ranges}
use Rattle.oram_state.specs.declared.fault.StateFault.TheVariants.{Content}
use Rattle.oram_state.specs.declared.mode.Mode.{Mode}
use Rattle.oram_state.specs.declared.mode.Mode.TheVariants.{Idle, Failed, Waiting, Stalled}
use Rattle.oram_state.specs.declared.saved.Head.{Head}
use Rattle.oram_state.specs.StateBytes.{half, short, long, device_text, mode_number}
use Rattle.oram_state.specs.WellSized.{IsShort, IsLong}
use Rattle.oram_state.specs.Parser.{known, mode_in, next_byte, next_device, next_head, next_number}
use Rattle.oram_state.proofs.Tools.{IsBytes, Took, took_both, then_ok, goes, byte_takes, byte_again, half_takes, half_again, short_takes, short_again, long_takes, long_again}

-- ---- the device

known_by : (s : Sizes) (fault : Option ShapeFault) → fault ≡ range_fault s → IfOk (known (device_unless s fault)) (λ d. (d ≡ s) × IsDevice d)
known_by s None e = (refl, in_ranges s (sym e))
known_by s (Some fault) e = tt

known_takes : (s : Sizes) → IfOk (known (device_of s)) (λ d. (d ≡ s) × IsDevice d)
known_takes s = known_by s (range_fault s) refl

known_again : (d : Sizes) → IsDevice d → known (device_of d) ≡ Ok d
known_again d h =
    let a = le-leb 1 d.blocks h.some_blocks in
    let b = le-leb d.blocks (most_blocks d.leaf_load) h.few_blocks in
    let p = le-leb 16 d.block_bytes h.some_bytes in
    let q = le-leb d.block_bytes 4096 h.few_bytes in
    let r = le-leb 1 d.slots h.some_slots in
    let s = le-leb d.slots 8 h.few_slots in
    let t = le-leb 1 d.top h.some_top in
    let u = le-leb d.top (most_blocks d.leaf_load) h.few_top in
    let v = le-leb 1 d.lifetime h.some_lifetime in
    let w = le-leb d.lifetime (2 ^ 40) h.few_lifetime in
    let x = le-leb 1 d.leaf_load h.some_load in
    let y = le-leb d.leaf_load 8 h.few_load in
    let z = h.room in
    rw (a, b, p, q, h.whole_words, r, s, t, u, v, w, x, y, z) refl

-- a device, with its leaf load as it is read back
load_again : (d : Sizes) → IsDevice d → known (device_of (record d { leaf_load = d.leaf_load - 1 + 1 })) ≡ Ok d
load_again d h =
    let same : d.leaf_load ≡ d.leaf_load - 1 + 1 = (let some = h.some_load in omega arith) in
    subst (λ (n : ℕ). known (device_of (record d { leaf_load = n })) ≡ Ok d) same (known_again d h)

pub device_takes : (text : List ℕ) → IsBytes text → IfOk (next_device text) (λ x. Took text (device_text x.0) x.1 × IsDevice x.0)
unfolding next_device
device_takes text h =
    then_ok _ _ (next_number w32 text) _ (short_takes text h) (λ a pa.
    then_ok _ _ (next_number w32 a.1) _ (short_takes a.1 pa.0.bytes) (λ b pb.
    then_ok _ _ (next_number w16 b.1) _ (half_takes b.1 pb.0.bytes) (λ m pm.
    then_ok _ _ (next_number w16 m.1) _ (half_takes m.1 pm.0.bytes) (λ c pc.
    then_ok _ _ (next_number w32 c.1) _ (short_takes c.1 pc.0.bytes) (λ d pd.
    then_ok _ _ (next_number w64 d.1) _ (long_takes d.1 pd.0.bytes) (λ e pe.
    let s : Sizes = record { blocks = a.0; block_bytes = b.0; slots = c.0; top = d.0; lifetime = e.0; leaf_load = m.0 + 1 } in
    let less : m.0 ≡ m.0 + 1 - 1 = omega arith in
    let pm' : Took b.1 (half (m.0 + 1 - 1)) m.1 = subst (λ (n : ℕ). Took b.1 (half n) m.1) less pm.0 in
    then_ok _ _ (known (device_of s)) _ (known_takes s) (λ f pf.
    (rw pf.0 (took_both (took_both (took_both (took_both (took_both pa.0 pb.0) pm') pc.0) pd.0) pe.0), pf.1))))))))

pub device_again : (d : Sizes) (rest : List ℕ) → IsDevice d → next_device (device_text d ++ rest) ≡ Ok (d, rest)
unfolding next_device
device_again d rest h =
    let regrouped : device_text d ++ rest ≡ short d.blocks ++ (short d.block_bytes ++ (half (d.leaf_load - 1) ++ (half d.slots ++ (short d.top ++ (long d.lifetime ++ rest))))) = simp append_assoc in
    ap next_device regrouped
    ∙ goes _ _ _ _ (short_again d.blocks _ (omega (arith, h.few_blocks, (most_blocks-range d.leaf_load).1)))
    (goes _ _ _ _ (short_again d.block_bytes _ (omega (arith, h.few_bytes)))
    (goes _ _ _ _ (half_again (d.leaf_load - 1) _ (omega (arith, h.few_load)))
    (goes _ _ _ _ (half_again d.slots _ (omega (arith, h.few_slots)))
    (goes _ _ _ _ (short_again d.top _ (omega (arith, h.few_top, (most_blocks-range d.leaf_load).1)))
    (goes _ _ _ _ (long_again d.lifetime rest (omega (arith, h.few_lifetime)))
    (goes _ _ _ _ (load_again d h) refl))))))

-- ---- the mode

-- only files of the second version have a core at work
abbrev pub IsModeOf : ℕ → Mode → Type 0
IsModeOf version Idle = ⊤
IsModeOf version Failed = ⊤
IsModeOf version Waiting = version ≡ 2
IsModeOf version Stalled = version ≡ 2

pub both_true : (a b : Bool) → (a && b) ≡ true → (a ≡ true) × (b ≡ true)
both_true true b h = (refl, h)
both_true false b h = absurd cc

mode_by_tests : (version byte : ℕ) (a b c d : Bool) → a ≡ (byte == 0) → b ≡ (byte == 1) → c ≡ (byte == 2 && version == 2) → d ≡ (byte == 3 && version == 2)
    → IfOk {T = Mode} (cond a (Ok Idle) (cond b (Ok Failed) (cond c (Ok Waiting) (cond d (Ok Stalled) (Err Content))))) (λ m. (mode_number m ≡ byte) × IsModeOf version m)
mode_by_tests version byte true b c d e f g h = (sym (eqb-true byte 0 (sym e)), tt)
mode_by_tests version byte false true c d e f g h = (sym (eqb-true byte 1 (sym f)), tt)
mode_by_tests version byte false false true d e f g h = let k = both_true (byte == 2) (version == 2) (sym g) in (sym (eqb-true byte 2 k.0), eqb-true version 2 k.1)
mode_by_tests version byte false false false true e f g h = let k = both_true (byte == 3) (version == 2) (sym h) in (sym (eqb-true byte 3 k.0), eqb-true version 2 k.1)
mode_by_tests version byte false false false false e f g h = tt

mode_takes : (version byte : ℕ) → IfOk (mode_in version byte) (λ m. (mode_number m ≡ byte) × IsModeOf version m)
mode_takes version byte = mode_by_tests version byte (byte == 0) (byte == 1) (byte == 2 && version == 2) (byte == 3 && version == 2) refl refl refl refl

mode_again : (version : ℕ) (m : Mode) → IsModeOf version m → mode_in version (mode_number m) ≡ Ok m
mode_again version Idle h = refl
mode_again version Failed h = refl
mode_again version Waiting h = rw h refl
mode_again version Stalled h = rw h refl

-- ---- the head

abbrev pub head_fields : Head → List ℕ
head_fields h = device_text h.device ++ short h.overhead ++ mode_number h.mode ∷ (long h.tickets ++ long h.nonce)

pub record IsHead (version : ℕ) (h : Head) : Type 0 where
  pub device : IsDevice h.device
  pub overhead : IsShort h.overhead
  pub mode : IsModeOf version h.mode
  pub tickets : IsLong h.tickets
  pub nonce : IsLong h.nonce

pub head_takes : (version : ℕ) (text : List ℕ) → IsBytes text → IfOk (next_head version text) (λ x. Took text (head_fields x.0) x.1 × IsHead version x.0)
unfolding next_head
head_takes version text h =
    then_ok _ _ (next_device text) _ (device_takes text h) (λ a pa.
    then_ok _ _ (next_number w32 a.1) _ (short_takes a.1 pa.0.bytes) (λ b pb.
    then_ok _ _ (next_byte b.1) _ (byte_takes b.1 pb.0.bytes) (λ c pc.
    then_ok _ _ (mode_in version c.0) _ (mode_takes version c.0) (λ m pm.
    then_ok _ _ (next_number w64 c.1) _ (long_takes c.1 pc.bytes) (λ d pd.
    then_ok _ _ (next_number w64 d.1) _ (long_takes d.1 pd.0.bytes) (λ e pe. (
      rw pm.0 (took_both (took_both pa.0 pb.0) (took_both pc (took_both pd.0 pe.0))),
      record { device = pa.1; overhead = pb.1; mode = pm.1; tickets = pd.1; nonce = pe.1 },
    )))))))

pub head_again : (version : ℕ) (x : Head) (rest : List ℕ) → IsHead version x → next_head version (head_fields x ++ rest) ≡ Ok (x, rest)
unfolding next_head
head_again version x rest h =
    let regrouped : head_fields x ++ rest ≡ device_text x.device ++ (short x.overhead ++ (mode_number x.mode ∷ (long x.tickets ++ (long x.nonce ++ rest)))) = simp append_assoc in
    ap (next_head version) regrouped
    ∙ goes _ _ _ _ (device_again x.device _ h.device)
    (goes _ _ _ _ (short_again x.overhead _ h.overhead)
    (goes _ _ _ _ (byte_again (mode_number x.mode) _)
    (goes _ _ _ _ (mode_again version x.mode h.mode)
    (goes _ _ _ _ (long_again x.tickets _ h.tickets)
    (goes _ _ _ _ (long_again x.nonce rest h.nonce) refl)))))
