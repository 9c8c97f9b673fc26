use Rattle.std.proofs.Common.{arith}
use Rattle.oram_summary.proofs.Decoded.{AreParts, found_is, found_only, stash_of}
use Rattle.oram_summary.proofs.decoder.behind_numbers.Goals as goal

pub returns-clause-ok : goal.returns-clause-ok
returns-clause-ok c =
    let device = c.in-Some-device_in.device in
    let root = c.in-Some-split_first_chunk.root.now in
    let rest = c.in-Some-split_first_chunk.rest.now in
    let cases = c.in-Some-split_first_chunk.ensures.cases in
    let parts : AreParts c.args.numbers.now c.args.bytes.now root rest c.in-Some.sealer device = record {
      many = c.told-numbers;
      fit = c.fits-numbers;
      version = c.requires.version;
      long = c.requires.long;
      sealed = c.in-Some.ensures.some;
      sizes = c.in-Some-device_in.ensures.some.0;
      is_device = c.in-Some-device_in.ensures.some.1;
      near = omega (arith, c.if-near_levels-from.false, c.from.ensures, c.depth.ensures.count);
      few = c.if-count.false;
      front = cases.0;
      behind = cases.1;
    } in
    found_is c.args.numbers.now c.args.bytes.now root rest c.in-Some.sealer device c.in-Ok.stash.items parts c.in-Ok.ensures.ok

pub returns-in-Err-clause-only : goal.returns-in-Err-clause-only
returns-in-Err-clause-only c = λ summary is.
    let device = c.in-Some-device_in.device in
    let root = c.in-Some-split_first_chunk.root.now in
    let rest = c.in-Some-split_first_chunk.rest.now in
    let cases = c.in-Some-split_first_chunk.ensures.cases in
    let parts : AreParts c.args.numbers.now c.args.bytes.now root rest c.in-Some.sealer device = record {
      many = c.told-numbers;
      fit = c.fits-numbers;
      version = c.requires.version;
      long = c.requires.long;
      sealed = c.in-Some.ensures.some;
      sizes = c.in-Some-device_in.ensures.some.0;
      is_device = c.in-Some-device_in.ensures.some.1;
      near = omega (arith, c.if-near_levels-from.false, c.from.ensures, c.depth.ensures.count);
      few = c.if-count.false;
      front = cases.0;
      behind = cases.1;
    } in
    c.in-Err.ensures.only summary.stash (stash_of c.args.numbers.now c.args.bytes.now root rest c.in-Some.sealer device parts summary is)

pub returns-clause-only : goal.returns-clause-only
returns-clause-only c = λ summary is.
    let device = c.in-Some-device_in.device in
    let root = c.in-Some-split_first_chunk.root.now in
    let rest = c.in-Some-split_first_chunk.rest.now in
    let cases = c.in-Some-split_first_chunk.ensures.cases in
    let parts : AreParts c.args.numbers.now c.args.bytes.now root rest c.in-Some.sealer device = record {
      many = c.told-numbers;
      fit = c.fits-numbers;
      version = c.requires.version;
      long = c.requires.long;
      sealed = c.in-Some.ensures.some;
      sizes = c.in-Some-device_in.ensures.some.0;
      is_device = c.in-Some-device_in.ensures.some.1;
      near = omega (arith, c.if-near_levels-from.false, c.from.ensures, c.depth.ensures.count);
      few = c.if-count.false;
      front = cases.0;
      behind = cases.1;
    } in
    found_only c.args.numbers.now c.args.bytes.now root rest c.in-Some.sealer device c.in-Ok.stash.items parts summary is
    (c.in-Ok.ensures.only summary.stash (stash_of c.args.numbers.now c.args.bytes.now root rest c.in-Some.sealer device parts summary is))
