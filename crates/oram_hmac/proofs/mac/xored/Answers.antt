use Rattle.std.proofs.Common.{arith, ap, ◌∙◌, sym, map, bit_xor, length-set, get_or}
use Rattle.std.proofs.lemmas.List.{take_all}
use Rattle.oram_hmac.proofs.SameBytes.{mask_more}
use Rattle.oram_hmac.proofs.mac.xored.Goals as goal

pub loop-i-preserved : goal.loop-i-preserved
loop-i-preserved c = record {
  long = length-set c.loop-i.masked c.loop-i.i (bit_xor (get_or c.args.block.now c.loop-i.i 0) c.args.byte) ∙ c.loop-i.invariant.long;
  front = mask_more c.loop-i.masked c.args.block.now c.loop-i.i c.args.byte (omega arith) (omega arith) c.loop-i.invariant.front;
}

pub returns : goal.returns
returns c =
    let whole = take_all c.loop-i.i c.args.block.now (omega arith) in
    sym (take_all c.loop-i.i c.loop-i.masked (omega arith)) ∙ c.loop-i.invariant.front ∙ ap (map (λ b. bit_xor b c.args.byte)) whole
