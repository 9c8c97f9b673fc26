use Rattle.std.proofs.Common.{◌≡◌, ◌==◌, ℕ, Bool, true, false, not, if◌then◌else◌, List, length, slice_index, Some, None, refl, sym}
use Rattle.std.specs.Prelude.{nat_lt}
use borrow.Author.Tests.{eq-eqb, le-ltb, lt-ltb, ne_eqb}
use Rattle.oram_core.specs.Verdicts.{refusal_in}
use Rattle.oram_core.proofs.verdicts.refusal_in.Goals as goal

-- what is read, by the outcomes of the four tests
read_by : (bytes : List ℕ) (a b d e : Bool) → (length bytes == 2) ≡ a → (slice_index bytes 0 == 129) ≡ b → (slice_index bytes 1 == 0) ≡ d → nat_lt 8 (slice_index bytes 1) ≡ e →
    (if not a then None else if not b then None else if d then None else if e then None else Some (slice_index bytes 1)) ≡ refusal_in bytes
read_by bytes a b d e p q r s = rw (sym p, sym q, sym r, sym s) refl

pub returns-then-bytes-ne2 : goal.returns-then-bytes-ne2
returns-then-bytes-ne2 c =
    let bytes = c.args.bytes.now in
    read_by bytes false (slice_index bytes 0 == 129) (slice_index bytes 1 == 0) (nat_lt 8 (slice_index bytes 1)) (ne_eqb (length bytes) 2 c.if-bytes-ne2.true) refl refl refl

pub returns-then-bytes : goal.returns-then-bytes
returns-then-bytes c =
    let bytes = c.args.bytes.now in
    read_by bytes true false (slice_index bytes 1 == 0) (nat_lt 8 (slice_index bytes 1)) (eq-eqb (length bytes) 2 c.if-bytes-ne2.false) (ne_eqb (slice_index bytes 0) 129 c.if-bytes.true) refl refl

pub returns-then-bytes-eq0 : goal.returns-then-bytes-eq0
returns-then-bytes-eq0 c =
    let bytes = c.args.bytes.now in
    read_by bytes true true true (nat_lt 8 (slice_index bytes 1)) (eq-eqb (length bytes) 2 c.if-bytes-ne2.false) (eq-eqb (slice_index bytes 0) 129 c.if-bytes.false) (eq-eqb (slice_index bytes 1) 0 c.if-bytes-eq0.true) refl

pub returns-then-bytes-gt8 : goal.returns-then-bytes-gt8
returns-then-bytes-gt8 c =
    let bytes = c.args.bytes.now in
    read_by bytes true true false true (eq-eqb (length bytes) 2 c.if-bytes-ne2.false) (eq-eqb (slice_index bytes 0) 129 c.if-bytes.false) (ne_eqb (slice_index bytes 1) 0 c.if-bytes-eq0.false) (lt-ltb 8 (slice_index bytes 1) c.if-bytes-gt8.true)

pub returns : goal.returns
returns c =
    let bytes = c.args.bytes.now in
    read_by bytes true true false false (eq-eqb (length bytes) 2 c.if-bytes-ne2.false) (eq-eqb (slice_index bytes 0) 129 c.if-bytes.false) (ne_eqb (slice_index bytes 1) 0 c.if-bytes-eq0.false) (le-ltb 8 (slice_index bytes 1) c.if-bytes-gt8.false)
