use Rattle.std.proofs.Common.{◌≡◌, sym, ◌∙◌, ap, arith, ℕ, length, take}
use Rattle.std.proofs.lemmas.Bool.{false≢true}
use Rattle.oram_pair.proofs.FrontBytes.{front_letters_are, front_long, starts_so}
use Rattle.oram_pair.proofs.fronts.identity_in.Goals as goal
use Rattle.oram_pair.proofs.fronts.identity_in.Goals.{then-bytes-lt-FRONT_LEN-via-then-bytes-lt-FRONT_LEN, then-bytes-lt-FRONT_LEN-via-else-bytes-lt-FRONT_LEN+then-not-starts_with}

pub returns-then-bytes-lt-FRONT_LEN-clause-read_again : goal.returns-then-bytes-lt-FRONT_LEN-clause-read_again
returns-then-bytes-lt-FRONT_LEN-clause-read_again c identity is =
    elim c.then-bytes-lt-FRONT_LEN.branch [
      | then-bytes-lt-FRONT_LEN-via-then-bytes-lt-FRONT_LEN w ↦ absurd (omega (arith, front_long c.args.letters.now identity c.args.bytes.now c.told-letters is))
      | then-bytes-lt-FRONT_LEN-via-else-bytes-lt-FRONT_LEN+then-not-starts_with w ↦
          let begins = front_letters_are c.args.letters.now identity c.args.bytes.now c.told-letters is in
          let as_long : take (length c.args.letters.now) c.args.bytes.now ≡ c.args.letters.now = ap (λ (n : ℕ). take n c.args.bytes.now) c.told-letters ∙ begins in
          absurd (false≢true (sym w.if-not-starts_with.true ∙ (starts_so c.args.letters.now c.args.bytes.now w.starts_with.result w.starts_with.ensures.value).1 (sym as_long)))
    ]
