use Rattle.std.proofs.Common.{◌<◌, ℕ, List, All, length, arith, inl, inr}
use Rattle.std.proofs.lemmas.Bool.{cases_lt}
use Rattle.std.proofs.lemmas.List.{get_or_past}
use Rattle.std.proofs.lemmas.List.Elements.{All-get_or}
use Rattle.oram_state.proofs.Tools.{IsBytes}
use Rattle.oram_state.proofs.Framed.{exact}
use Rattle.oram_state.proofs.files_are_exact.Goals as goal

each_byte : (text : List ℕ) → All (λ b. b < 256) text → IsBytes text
each_byte text all i =
    elim (cases_lt i (length text)) [
      | inl lt ↦ All-get_or (λ b. b < 256) text i 0 lt all
      | inr le ↦ rw (get_or_past text i 0 le) (omega arith)
    ]

pub returns : goal.returns
returns c = λ text overhead p bytes fits. exact text overhead p (each_byte text bytes) fits
