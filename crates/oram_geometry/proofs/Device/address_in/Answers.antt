use Rattle.std.proofs.Common.{◌≡◌, ◌<◌, ◌/◌, ◌+◌, ap, sym, ◌∙◌, subst, arith}
use Rattle.oram_geometry.specs.Sizes.{fanout, address_in, blocks_in}
use Rattle.oram_geometry.proofs.DeviceSizes.{address_in-zero, address_in-next, address_in-below}
use Rattle.oram_geometry.proofs.Device.address_in.Goals as goal

pub loop-init : goal.loop-init
loop-init c = (sym (address_in-zero c.args.self.now c.args.address), c.requires.address)

pub loop-preserved : goal.loop-preserved
loop-preserved c =
    let d = c.args.self.now in
    let inv = c.loop.invariant in
    let by : c.fanout-fanout.result ≡ fanout d = c.fanout-fanout.ensures.value in
    let step : c.loop.within / c.fanout-fanout.result ≡ address_in d (c.loop.counter + 1) c.args.address =
    ap (λ n. c.loop.within / n) by ∙ ap (λ n. n / fanout d) inv.0 ∙ address_in-next d c.loop.counter c.args.address in
    (step, rw step (address_in-below d c.loop.counter c.args.address (omega (arith, c.fanout-fanout.ensures.range)) (subst (λ n. n < blocks_in d c.loop.counter) inv.0 inv.1)))
