use Rattle.std.proofs.Common.{◌≡◌, ℕ, List, [], ◌∷◌, ◌++◌, ap, ap₂, ◌∙◌, arith, take_all}
use Rattle.std.specs.List.{flat_map}
use Rattle.oram_kept.specs.Layout.{eight_bytes}
use Rattle.oram_kept.specs.Reading.{said_bytes}
use Rattle.oram_redo.specs.Log.{check_bytes}
use Rattle.oram_kept.proofs.head.Head.encode.Goals as goal

pub returns : goal.returns
returns c =
    let head = c.args.self.now in
    let numbers : List ℕ = head.before ∷ head.table ∷ head.after ∷ head.records ∷ head.check ∷ [] in
    let written : c.loop-number.head.items ≡ said_bytes head =
    c.loop-number.invariant ∙ ap (flat_map eight_bytes) (take_all c.loop-number.number-index numbers (omega arith)) in
    let sum : c.check_of-sum.result ≡ check_bytes (said_bytes head) = c.check_of-sum.ensures ∙ ap check_bytes (c.deref.ensures.value ∙ written) in
    c.in_ok-extend_from_slice-2.ensures.items ∙ ap₂ (λ (a b : List ℕ). a ++ b) written sum
