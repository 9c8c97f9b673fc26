use Rattle.std.proofs.Common.{◌≡◌, ℕ, List, ap, sym, ◌∙◌, refl}
use Rattle.oram_core.specs.Parts.{Parts, AreParts, parts_of}
use Rattle.oram_state.specs.StateBytes.{after_text, before_text, with_table}
use Rattle.oram_state.specs.WellSized.{HasCounts}
use Rattle.oram_state.proofs.Counted.{counted}
use Rattle.oram_state.proofs.FieldsInThree.{fields_in_three}
use Rattle.oram_state.proofs.Sized.{fields_as}
use Rattle.oram_state.proofs.around_table.encode_around_table.Goals as goal

-- counts are the same without the table
pub write_after_table-requires : goal.write_after_table-requires
write_after_table-requires g c =
    let counts = counted (g.S.Sealer.cipher c.args.core.now.sealer).overhead _ c.in_ok-parts.ensures.right in
    record { trees = counts.trees; waiting = counts.waiting; message = counts.message }

pub returns-clause-saved : goal.returns-clause-saved
returns-clause-saved g c =
    let overhead = (g.S.Sealer.cipher c.args.core.now.sealer).overhead in
    let d = c.args.core.now.device in
    let s = c.args.core.now.state in
    let p : Parts = record c.in_ok-parts.parts { table = s.table } in
    let same : p ≡ parts_of d s = ap (λ (q : Parts). record q { table = s.table }) c.in_ok-parts.ensures.same in
    let before = c.in_ok-before.before.items in
    let after = c.in_ok-after.after.items in
    let spelled : with_table before s.table after ≡ with_table (before_text c.overhead.result p) p.table (after_text p) =
    ap (λ (text : List ℕ). with_table text s.table after) c.in_ok-before.ensures.spelled ∙ ap (λ (text : List ℕ). with_table (before_text c.overhead.result p) s.table text) c.in_ok-after.ensures.spelled in
    fields_as (with_table before s.table after) overhead c.overhead.result p d s c.overhead.ensures same c.in_ok-parts.ensures.again c.in_ok-parts.ensures.right
    (spelled ∙ sym (fields_in_three c.overhead.result p))
    (record { nonce = c.in_ok-before.ensures.fit; roots = c.in_ok-after.ensures.roots; waiting = c.in_ok-after.ensures.waiting })
