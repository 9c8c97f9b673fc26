use Rattle.std.proofs.Common.{◌≡◌, ap, refl, arith, length, true, false, get_or}
use Rattle.oram_summary.specs.Text.{HasLength}
use Rattle.oram_summary.proofs.Decoded.{behind_numbers_of, length-behind, length-text, no_content, ok_is, stated_is, text_has_version, version_from, version_is}
use Rattle.oram_summary.proofs.decoder.decode_summary.Goals as goal

pub returns-then-not-starts_with-clause-only : goal.returns-then-not-starts_with-clause-only
returns-then-not-starts_with-clause-only c = λ summary is.
    let yes : c.starts_with.result ≡ true = (version_from c.args.text.now c.to_be_bytes.result c.starts_with.result c.starts_with.ensures.value c.to_be_bytes.ensures).1 (text_has_version c.args.text.now summary is) in
    let no : c.starts_with.result ≡ false = c.if-not-starts_with.true in
    cc

pub returns-in_default-clause-only : goal.returns-in_default-clause-only
returns-in_default-clause-only c = λ summary is.
    absurd (omega (arith, c.in_default.ensures.none refl, ap length is.text, length-text summary is.summary))

pub returns-then-text-len-clause-only : goal.returns-then-text-len-clause-only
returns-then-text-len-clause-only c = λ summary is.
    let behind = behind_numbers_of c.args.text.now c.read_numbers.new.numbers c.in-Some.rest.now c.read_numbers.array_long c.read_numbers.ensures.fit c.in-Some.ensures.some summary is in
    let bytes : get_or c.read_numbers.new.numbers 3 0 ≡ summary.device.block_bytes = ap (λ ns. get_or ns 3 0) behind.numbers in
    absurd (c.if-text-len.true (omega (arith, ap length is.text, length-text summary is.summary, bytes, c.from.ensures)))

pub behind_numbers-requires-clause-version : goal.behind_numbers-requires-clause-version
behind_numbers-requires-clause-version c =
    version_is c.args.text.now c.read_numbers.new.numbers c.in-Some.rest.now c.read_numbers.array_long c.read_numbers.ensures.fit c.in-Some.ensures.some
    ((version_from c.args.text.now c.to_be_bytes.result c.starts_with.result c.starts_with.ensures.value c.to_be_bytes.ensures).0 c.if-not-starts_with.false)

pub behind_numbers-requires-clause-long : goal.behind_numbers-requires-clause-long
behind_numbers-requires-clause-long c =
    omega (arith, length-behind c.args.text.now c.read_numbers.new.numbers c.in-Some.rest.now c.read_numbers.array_long c.in-Some.ensures.some, c.if-text-len.false, c.from.ensures)

pub returns-clause-ok : goal.returns-clause-ok
returns-clause-ok c = ok_is c.args.text.now c.read_numbers.new.numbers c.in-Some.rest.now c.in-Some.ensures.some c.behind_numbers.result c.behind_numbers.ensures.ok

pub returns-clause-only : goal.returns-clause-only
returns-clause-only c = λ summary is.
    c.behind_numbers.ensures.only summary (behind_numbers_of c.args.text.now c.read_numbers.new.numbers c.in-Some.rest.now c.read_numbers.array_long c.read_numbers.ensures.fit c.in-Some.ensures.some summary is)

pub returns-clause-content : goal.returns-clause-content
returns-clause-content c = λ content.
    let has = (version_from c.args.text.now c.to_be_bytes.result c.starts_with.result c.starts_with.ensures.value c.to_be_bytes.ensures).0 c.if-not-starts_with.false in
    let stated = stated_is c.args.text.now c.read_numbers.new.numbers c.in-Some.rest.now c.read_numbers.array_long c.read_numbers.ensures.fit c.in-Some.ensures.some in
    let long : HasLength c.args.text.now = omega (arith, c.if-text-len.false, c.from.ensures, stated) in (
      has,
      long,
      λ summary is. no_content c.behind_numbers.result summary content
          (c.behind_numbers.ensures.only summary (behind_numbers_of c.args.text.now c.read_numbers.new.numbers c.in-Some.rest.now c.read_numbers.array_long c.read_numbers.ensures.fit c.in-Some.ensures.some summary is)),
    )
