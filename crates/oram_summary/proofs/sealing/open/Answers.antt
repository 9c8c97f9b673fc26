use Rattle.std.proofs.Common.{◌≡◌, ◌≢◌, ◌∙◌, arith, ap, Bool, MatchBool, subst, sym}
use Rattle.oram_hmac.specs.Hmac.{hmac}
use Rattle.oram_summary.proofs.SealedText.{AreOpened, only_tag, right_tag, sealed_long}
use Rattle.oram_summary.proofs.sealing.open.Goals as goal

pub returns-in_default-clause-only : goal.returns-in_default-clause-only
returns-in_default-clause-only c = λ text is. absurd (omega (arith, c.in_default.ensures.cases, sealed_long c.args.key.now c.args.sealed.now text is))

pub returns-in_default-split_first_chunk-clause-only : goal.returns-in_default-split_first_chunk-clause-only
returns-in_default-split_first_chunk-clause-only c = λ text is.
    absurd (omega (arith, c.in_default-split_first_chunk.ensures.cases, c.in-Some.ensures.cases.2, sealed_long c.args.key.now c.args.sealed.now text is))

pub returns-then-not-is_tag_of-clause-only : goal.returns-then-not-is_tag_of-clause-only
returns-then-not-is_tag_of-clause-only c = λ text is.
    let first = c.in-Some.ensures.cases in
    let second = c.in-Some-split_first_chunk.ensures.cases in
    let opened : AreOpened c.args.key.now c.args.sealed.now c.in-Some.salt.now c.in-Some-split_first_chunk.tag.now c.in-Some.rest.now c.in-Some-split_first_chunk.bytes.now c.in_ok-text.text.items c.stream_key.result c.tag_key.result = record {
      parts = record { salt_is = first.0; rest_is = first.1; tag_is = second.0; bytes_are = second.1; long = omega (arith, first.2, second.2) };
      stream_is = c.stream_key.ensures;
      text_is = c.in_ok-text.ensures;
      tags_is = c.tag_key.ensures;
    } in
    let differ : c.in-Some-split_first_chunk.tag.now ≢ hmac c.tag_key.result c.deref.result.now = subst (λ (b : Bool). MatchBool b (c.in-Some-split_first_chunk.tag.now ≡ hmac c.tag_key.result c.deref.result.now) (c.in-Some-split_first_chunk.tag.now ≢ hmac c.tag_key.result c.deref.result.now)) c.if-not-is_tag_of.true c.is_tag_of.ensures in
    absurd (differ ((only_tag c.args.key.now c.args.sealed.now c.in-Some.salt.now c.in-Some-split_first_chunk.tag.now c.in-Some.rest.now c.in-Some-split_first_chunk.bytes.now c.in_ok-text.text.items c.stream_key.result c.tag_key.result opened text is).1 ∙ ap (hmac c.tag_key.result) (sym c.deref.ensures.value)))

pub returns-then-not-is_tag_of-clause-tag : goal.returns-then-not-is_tag_of-clause-tag
returns-then-not-is_tag_of-clause-tag c = λ wrong text is.
    let first = c.in-Some.ensures.cases in
    let second = c.in-Some-split_first_chunk.ensures.cases in
    let opened : AreOpened c.args.key.now c.args.sealed.now c.in-Some.salt.now c.in-Some-split_first_chunk.tag.now c.in-Some.rest.now c.in-Some-split_first_chunk.bytes.now c.in_ok-text.text.items c.stream_key.result c.tag_key.result = record {
      parts = record { salt_is = first.0; rest_is = first.1; tag_is = second.0; bytes_are = second.1; long = omega (arith, first.2, second.2) };
      stream_is = c.stream_key.ensures;
      text_is = c.in_ok-text.ensures;
      tags_is = c.tag_key.ensures;
    } in
    let differ : c.in-Some-split_first_chunk.tag.now ≢ hmac c.tag_key.result c.deref.result.now = subst (λ (b : Bool). MatchBool b (c.in-Some-split_first_chunk.tag.now ≡ hmac c.tag_key.result c.deref.result.now) (c.in-Some-split_first_chunk.tag.now ≢ hmac c.tag_key.result c.deref.result.now)) c.if-not-is_tag_of.true c.is_tag_of.ensures in
    differ ((only_tag c.args.key.now c.args.sealed.now c.in-Some.salt.now c.in-Some-split_first_chunk.tag.now c.in-Some.rest.now c.in-Some-split_first_chunk.bytes.now c.in_ok-text.text.items c.stream_key.result c.tag_key.result opened text is).1 ∙ ap (hmac c.tag_key.result) (sym c.deref.ensures.value))

pub returns-clause-ok : goal.returns-clause-ok
returns-clause-ok c =
    let first = c.in-Some.ensures.cases in
    let second = c.in-Some-split_first_chunk.ensures.cases in
    let opened : AreOpened c.args.key.now c.args.sealed.now c.in-Some.salt.now c.in-Some-split_first_chunk.tag.now c.in-Some.rest.now c.in-Some-split_first_chunk.bytes.now c.in_ok-text.text.items c.stream_key.result c.tag_key.result = record {
      parts = record { salt_is = first.0; rest_is = first.1; tag_is = second.0; bytes_are = second.1; long = omega (arith, first.2, second.2) };
      stream_is = c.stream_key.ensures;
      text_is = c.in_ok-text.ensures;
      tags_is = c.tag_key.ensures;
    } in
    let same : c.in-Some-split_first_chunk.tag.now ≡ hmac c.tag_key.result c.deref.result.now = subst (λ (b : Bool). MatchBool b (c.in-Some-split_first_chunk.tag.now ≡ hmac c.tag_key.result c.deref.result.now) (c.in-Some-split_first_chunk.tag.now ≢ hmac c.tag_key.result c.deref.result.now)) c.if-not-is_tag_of.false c.is_tag_of.ensures in
    right_tag c.args.key.now c.args.sealed.now c.in-Some.salt.now c.in-Some-split_first_chunk.tag.now c.in-Some.rest.now c.in-Some-split_first_chunk.bytes.now c.in_ok-text.text.items c.stream_key.result c.tag_key.result opened (same ∙ ap (hmac c.tag_key.result) c.deref.ensures.value)

pub returns-clause-only : goal.returns-clause-only
returns-clause-only c = λ text is.
    let first = c.in-Some.ensures.cases in
    let second = c.in-Some-split_first_chunk.ensures.cases in
    let opened : AreOpened c.args.key.now c.args.sealed.now c.in-Some.salt.now c.in-Some-split_first_chunk.tag.now c.in-Some.rest.now c.in-Some-split_first_chunk.bytes.now c.in_ok-text.text.items c.stream_key.result c.tag_key.result = record {
      parts = record { salt_is = first.0; rest_is = first.1; tag_is = second.0; bytes_are = second.1; long = omega (arith, first.2, second.2) };
      stream_is = c.stream_key.ensures;
      text_is = c.in_ok-text.ensures;
      tags_is = c.tag_key.ensures;
    } in
    (only_tag c.args.key.now c.args.sealed.now c.in-Some.salt.now c.in-Some-split_first_chunk.tag.now c.in-Some.rest.now c.in-Some-split_first_chunk.bytes.now c.in_ok-text.text.items c.stream_key.result c.tag_key.result opened text is).0
