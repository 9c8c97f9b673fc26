use Rattle.std.proofs.Common.{arith, ◌<◌, ap, ◌∙◌, length, length-set, length-append}
use Rattle.std.specs.Int.{w64, to_be_bytes}
use Rattle.oram_summary.proofs.Spelled.{fit_more, numbers_more}
use Rattle.oram_summary.proofs.numbers.read_numbers.Goals as goal

pub loop-i-preserved : goal.loop-i-preserved
loop-i-preserved c = record {
  count = length-set c.loop-i.numbers c.loop-i.i c.in_ok-number.number ∙ c.loop-i.invariant.count;
  fit = fit_more c.loop-i.numbers c.loop-i.i c.in_ok-number.number c.loop-i.invariant.fit c.in_ok-number.ensures.fits;
  front = numbers_more c.args.text.now c.loop-i.rest.now c.in_ok-number.after.now c.loop-i.numbers c.loop-i.i c.in_ok-number.number
      (omega (arith, c.loop-i.invariant.count)) c.loop-i.invariant.front c.in_ok-number.ensures.some;
  long = omega (arith, c.loop-i.invariant.long, ap length c.in_ok-number.ensures.some, length-append (to_be_bytes w64 c.in_ok-number.number) c.in_ok-number.after.now);
}

pub returns-in_err-number-clause-none : goal.returns-in_err-number-clause-none
returns-in_err-number-clause-none c = λ _.
    let short : length c.loop-i.rest.now < 8 = c.in_err-number.ensures.none cc in
    omega (arith, short, c.loop-i.invariant.long)
