use Rattle.std.proofs.Common.{rules, ◌∙◌, sym}
use Rattle.std.proofs.lemmas.Nat.{le_bytes_8}
use Rattle.oram_pair.proofs.EightBytes.{eight_bytes_are}
use Rattle.oram_pair.proofs.numbers.eight_bytes_in.Goals as goal

pub returns : goal.returns
returns c = sym (eight_bytes_are c.from_le_bytes.result) ∙ le_bytes_8 c.args.bytes.now c.from_le_bytes.result c.requires (λ i. let fits = c.type_inv.bytes i in search rules) c.from_le_bytes.ensures
