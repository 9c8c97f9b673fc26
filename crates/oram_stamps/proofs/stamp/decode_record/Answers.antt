use Rattle.std.proofs.Common.{◌≡◌, ◌≢◌, Bool, MatchBool, subst, ℕ, List, ◌++◌, ◌<◌, arith, length, take, drop, sym, ap, ◌∙◌, refl, take-append-drop, length-append}
use Rattle.oram_stamps.specs.Stamps.{AreNumbers, record_text, stamp_text, tag}
use Rattle.oram_stamps.specs.declared.stamp.Stamp.{Stamp}
use Rattle.oram_stamps.proofs.Spelled.{length-tag, parts_same, record_front, record_long, record_same}
use Rattle.oram_stamps.proofs.stamp.decode_record.Goals as goal

pub returns-in_err-stamp-clause-none : goal.returns-in_err-stamp-clause-none
returns-in_err-stamp-clause-none c = λ e stamp rest fits is.
    let short : length c.args.bytes.now < 16 = c.in_err-stamp.ensures.none cc in
    omega (arith, short, ap length is, record_long c.args.key.now.0 c.args.place stamp rest)

pub returns-in_err-shown-clause-none : goal.returns-in_err-shown-clause-none
returns-in_err-shown-clause-none c = λ e stamp rest fits is.
    let same = record_same c.args.key.now.0 c.args.place c.in_ok-stamp.stamp stamp c.args.bytes.now c.in_ok-stamp.rest.now rest c.in_ok-stamp.ensures.fits fits c.in_ok-stamp.ensures.some is in
    let short : length c.in_ok-stamp.rest.now < 32 = c.in_err-shown.ensures.cases in
    omega (arith, short, ap length same.1, length-append (tag c.args.key.now.0 c.args.place stamp) rest, length-tag c.args.key.now.0 c.args.place stamp)

-- the bytes behind the stamp are those of the tag and what follows it
behind : (rest shown after : List ℕ) → shown ≡ take 32 rest → after ≡ drop 32 rest → rest ≡ shown ++ after
behind rest shown after front back = sym (ap (λ (b : List ℕ). b ++ after) front ∙ ap (λ (b : List ℕ). take 32 rest ++ b) back ∙ take-append-drop 32 rest)

pub returns-else-equals-clause-none : goal.returns-else-equals-clause-none
returns-else-equals-clause-none c = λ e stamp rest fits is.
    let key = c.args.key.now.0 in
    let place = c.args.place in
    let read = c.in_ok-stamp.stamp in
    let same = record_same key place read stamp c.args.bytes.now c.in_ok-stamp.rest.now rest c.in_ok-stamp.ensures.fits fits c.in_ok-stamp.ensures.some is in
    let cases = c.in_ok-shown.ensures.cases in
    let shown = c.in_ok-shown.shown.now in
    let after = c.in_ok-shown.rest.now in
    let whole : shown ++ after ≡ tag key place stamp ++ rest = sym (behind c.in_ok-stamp.rest.now shown after cases.0 cases.1) ∙ same.1 in
    let long : length shown ≡ 32 = omega (arith, ap length (behind c.in_ok-stamp.rest.now shown after cases.0 cases.1), length-append shown after, cases.2) in
    let parts = parts_same shown after (tag key place stamp) rest (long ∙ sym (length-tag key place stamp)) whole in
    let is_tag : shown ≡ c.tag.result = parts.0 ∙ ap (λ (s : Stamp). tag key place s) (sym same.0) ∙ sym c.tag.ensures in
    let differ : shown ≢ c.tag.result = subst (λ (b : Bool). MatchBool b (shown ≡ c.tag.result) (shown ≢ c.tag.result)) c.if-equals.false c.equals.ensures in
    differ is_tag

pub returns-then-equals-clause-some : goal.returns-then-equals-clause-some
returns-then-equals-clause-some c =
    let key = c.args.key.now.0 in
    let place = c.args.place in
    let read = c.in_ok-stamp.stamp in
    let cases = c.in_ok-shown.ensures.cases in
    let shown = c.in_ok-shown.shown.now in
    let is_tag : shown ≡ c.tag.result = subst (λ (b : Bool). MatchBool b (shown ≡ c.tag.result) (shown ≢ c.tag.result)) c.if-equals.true c.equals.ensures in
    record_front key place read c.args.bytes.now c.in_ok-stamp.rest.now c.in_ok-shown.rest.now c.in_ok-stamp.ensures.some
    (behind c.in_ok-stamp.rest.now c.in_ok-shown.shown.now c.in_ok-shown.rest.now cases.0 cases.1 ∙ ap (λ (b : List ℕ). b ++ c.in_ok-shown.rest.now) (is_tag ∙ c.tag.ensures))
