use Rattle.std.proofs.Common.{sym, ◌∙◌, arith}
use Rattle.std.proofs.lemmas.Bool.{false≢true, lt-ltb, ltb-true}
use Rattle.oram_layout.specs.Fronts.{bucket_name}
use Rattle.oram_pair.proofs.FrontBytes.{starts_so}
use Rattle.oram_layout.proofs.FrontBytes.{older_from, older_long, older_name, older_version}
use Rattle.oram_layout.proofs.fronts.is_older.Goals as goal
use Rattle.oram_layout.proofs.fronts.is_older.Goals.{then-bytes-lt-LETTERS_LEN-via-then-bytes-lt-LETTERS_LEN, then-bytes-lt-LETTERS_LEN-via-else-bytes-lt-LETTERS_LEN+then-not-starts_with}

pub returns-then-bytes-lt-LETTERS_LEN : goal.returns-then-bytes-lt-LETTERS_LEN
returns-then-bytes-lt-LETTERS_LEN c =
    elim c.then-bytes-lt-LETTERS_LEN.branch [
      | then-bytes-lt-LETTERS_LEN-via-then-bytes-lt-LETTERS_LEN w ↦ (λ no. absurd (false≢true no), λ older. absurd (omega (arith, older_long c.args.bytes.now older)))
      | then-bytes-lt-LETTERS_LEN-via-else-bytes-lt-LETTERS_LEN+then-not-starts_with w ↦
          (λ no. absurd (false≢true no), λ older. absurd (false≢true (sym w.if-not-starts_with.true ∙ (starts_so bucket_name c.args.bytes.now w.starts_with.result w.starts_with.ensures.value).1 (older_name c.args.bytes.now older))))
    ]

pub returns : goal.returns
returns c =
    let bytes = c.args.bytes.now in
    let named = (starts_so bucket_name bytes c.starts_with.result c.starts_with.ensures.value).0 c.if-not-starts_with.false in
    let version = c.eight_bytes_in.result in (
      λ below. older_from bytes version named c.eight_bytes_in.ensures (ltb-true version 3 below),
      λ older. lt-ltb version 3 (older_version bytes version c.eight_bytes_in.ensures (omega arith) older),
    )
