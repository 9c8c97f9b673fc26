use Rattle.std.proofs.Common.{◌≡◌, ◌∙◌, length, sym, arith}
use Rattle.std.proofs.lemmas.Bool.{false≢true}
use Rattle.oram_kept.proofs.ReadPages.{page_cut}
use Rattle.oram_kept.proofs.reading.sound_bytes.Goals as goal

pub returns-then-not-is_check_of-clause-none : goal.returns-then-not-is_check_of-clause-none
returns-then-not-is_check_of-clause-none c none bytes is =
    let short : length c.split_at.result.1.now ≡ 8 = omega (arith, c.split_at.ensures.back_len, c.requires) in
    absurd (false≢true (sym c.if-not-is_check_of.true ∙ c.is_check_of.ensures.1 (page_cut bytes c.split_at.result.0.now c.split_at.result.1.now c.args.page.now c.split_at.ensures.by_index.0 short is)))
