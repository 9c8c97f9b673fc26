use Rattle.std.proofs.Common.{◌≡◌, ◌≢◌, ℕ, List, [], ◌∷◌, ◌++◌, sym, ap, ◌∙◌, refl, append-nil, arith}
use Rattle.oram_stamps.specs.Stamps.{AreNumbers, record_text, shown_text, stamp_text, tag}
use Rattle.oram_stamps.specs.declared.stamp.Place.TheVariants.{Begun, Done}
use Rattle.oram_stamps.specs.declared.stamp.Shown.{Shown}
use Rattle.oram_stamps.specs.declared.stamp.Stamp.{Stamp}
use Rattle.oram_stamps.proofs.Spelled.{records_same}
use Rattle.oram_stamps.proofs.stamp.decode_shown.Goals as goal

-- what follows the first of both records is the second one
second_is : (key : List ℕ) (begun : Stamp) (shown : Shown) (bytes rest : List ℕ) → AreNumbers begun → AreNumbers shown.begun → bytes ≡ record_text key Begun begun ++ rest → bytes ≡ shown_text key shown
    → rest ≡ record_text key Done shown.done ++ []
second_is key begun shown bytes rest fits fits_shown one is =
    (records_same key Begun begun shown.begun rest (record_text key Done shown.done) fits fits_shown (sym one ∙ is)).1 ∙ sym (append-nil _)

pub returns-in_err-done-clause-none : goal.returns-in_err-done-clause-none
returns-in_err-done-clause-none c = λ e shown fits_begun fits_done is.
    c.in_err-done.ensures.none (cc) shown.done [] fits_done
    (second_is c.args.key.now.0 c.in_ok-begun.begun shown c.args.bytes.now c.in_ok-begun.rest.now c.in_ok-begun.ensures.fits fits_begun c.in_ok-begun.ensures.some is)

pub returns-then-not-is_empty-clause-none : goal.returns-then-not-is_empty-clause-none
returns-then-not-is_empty-clause-none c = λ e shown fits_begun fits_done is.
    let second = second_is c.args.key.now.0 c.in_ok-begun.begun shown c.args.bytes.now c.in_ok-begun.rest.now c.in_ok-begun.ensures.fits fits_begun c.in_ok-begun.ensures.some is in
    let none : c.in_ok-done.rest.now ≡ [] =
    (records_same c.args.key.now.0 Done c.in_ok-done.done shown.done c.in_ok-done.rest.now [] c.in_ok-done.ensures.fits fits_done (sym c.in_ok-done.ensures.some ∙ second)).1 in
    grind (arith, none, c.is_empty.ensures, c.if-not-is_empty.true)
