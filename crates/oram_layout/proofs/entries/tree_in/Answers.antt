use Rattle.std.proofs.Common.{◌≡◌, sym, ◌∙◌, ap, arith}
use Rattle.std.proofs.lemmas.Bool.{false≢true}
use Rattle.std.proofs.lemmas.Bool.Decides.{Decides-eqb}
use Rattle.std.proofs.lemmas.Slice.Eq.{slice_eq-Decides}
use Rattle.oram_pair.specs.Fronts.{eight_bytes}
use Rattle.oram_layout.specs.Header.{four_bytes}
use Rattle.oram_layout.specs.declared.shapes.Shape.{Shape}
use Rattle.oram_layout.proofs.EntryReads.{no_place, no_shape, only_tree}
use Rattle.oram_layout.proofs.entries.tree_in.Goals as goal

pub returns-in_err-shape : goal.returns-in_err-shape
returns-in_err-shape c = rw c.from_residual.ensures (no_shape c.args.entry.now c.four_bytes_in.result (omega arith) c.four_bytes_in.ensures c.in_err-shape.ensures)

pub returns-in_err-tree : goal.returns-in_err-tree
returns-in_err-tree c =
    let entry = c.args.entry.now in
    let shape = c.in_ok-shape.shape in
    let depth : shape.depth ≡ _ = c.in_ok-shape.ensures.1 in
    let len : four_bytes shape.record_len ≡ _ = ap four_bytes c.in_ok-shape.ensures.2 ∙ c.four_bytes_in.ensures in
    rw c.from_residual-in_err-tree.ensures (no_place entry shape c.eight_bytes_in.result depth len (omega arith) c.eight_bytes_in.ensures c.in_err-tree.ensures)

pub returns-else-eq : goal.returns-else-eq
returns-else-eq c =
    let depth : c.in_ok-shape.shape.depth ≡ _ = c.in_ok-shape.ensures.1 in
    let len : four_bytes c.in_ok-shape.shape.record_len ≡ _ = ap four_bytes c.in_ok-shape.ensures.2 ∙ c.four_bytes_in.ensures in
    let tree = c.in_ok-tree.tree in
    let is = c.in_ok-tree.ensures in
    only_tree c.args.entry.now tree (ap (λ (s : Shape). s.depth) is.0 ∙ depth) (ap (λ (s : Shape). four_bytes s.record_len) is.0 ∙ len) (ap eight_bytes is.1 ∙ c.eight_bytes_in.ensures)
    (λ same. false≢true (sym c.if-eq.false ∙ (slice_eq-Decides Decides-eqb c.args.entry.now c.entry-own.result c.eq.result c.eq.ensures).1 (same ∙ sym c.entry-own.ensures)))
