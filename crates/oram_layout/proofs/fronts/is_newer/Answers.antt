use Rattle.std.proofs.Common.{sym, ◌∙◌, arith}
use Rattle.std.proofs.lemmas.Bool.{false≢true, lt-ltb, ltb-true}
use Rattle.oram_layout.specs.Fronts.{bucket_name}
use Rattle.oram_pair.proofs.FrontBytes.{starts_so}
use Rattle.oram_layout.proofs.FrontBytes.{newer_from, newer_long, newer_name, newer_version}
use Rattle.oram_layout.proofs.fronts.is_newer.Goals as goal
use Rattle.oram_layout.proofs.fronts.is_newer.Goals.{then-bytes-lt-LETTERS_LEN-via-then-bytes-lt-LETTERS_LEN, then-bytes-lt-LETTERS_LEN-via-else-bytes-lt-LETTERS_LEN+then-not-starts_with}

pub returns-then-bytes-lt-LETTERS_LEN : goal.returns-then-bytes-lt-LETTERS_LEN
returns-then-bytes-lt-LETTERS_LEN c =
    elim c.then-bytes-lt-LETTERS_LEN.branch [
      | then-bytes-lt-LETTERS_LEN-via-then-bytes-lt-LETTERS_LEN w ↦ (λ no. absurd (false≢true no), λ newer. absurd (omega (arith, newer_long c.args.bytes.now newer)))
      | then-bytes-lt-LETTERS_LEN-via-else-bytes-lt-LETTERS_LEN+then-not-starts_with w ↦
          (λ no. absurd (false≢true no), λ newer. absurd (false≢true (sym w.if-not-starts_with.true ∙ (starts_so bucket_name c.args.bytes.now w.starts_with.result w.starts_with.ensures.value).1 (newer_name c.args.bytes.now newer))))
    ]

pub returns : goal.returns
returns c =
    let bytes = c.args.bytes.now in
    let named = (starts_so bucket_name bytes c.starts_with.result c.starts_with.ensures.value).0 c.if-not-starts_with.false in
    let version = c.eight_bytes_in.result in (
      λ above. newer_from bytes version named c.eight_bytes_in.ensures (omega arith) (ltb-true 3 version above),
      λ newer. lt-ltb 3 version (newer_version bytes version c.eight_bytes_in.ensures (omega arith) newer),
    )
