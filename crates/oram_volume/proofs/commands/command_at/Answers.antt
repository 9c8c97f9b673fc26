use Rattle.std.proofs.Common.{◌≡◌, ◌+◌, ◌-◌, ◌*◌, ◌/◌, ◌∷◌, ℕ, List, take, drop, ap, sym, subst, ◌∙◌, arith}
use Rattle.oram_semantics.specs.declared.events.Command.TheVariants.{Discard, Read, Write}
use Rattle.oram_volume.specs.RangeCommands.{commands_of}
use Rattle.oram_volume.proofs.RangeCommands.{discard_at, read_at, write_at}
use Rattle.oram_volume.proofs.commands.command_at.Goals as goal

pub returns-in-Read : goal.returns-in-Read
returns-in-Read c =
    let b = c.args.block in
    let k = c.args.number in
    let op = c.args.operation.now in
    subst (λ (p : ℕ). drop k (commands_of b op) ≡ Read (p / b + k) ∷ drop (k + 1) (commands_of b op)) (sym c.place.ensures) (read_at b _ _ k op c.in-Read.is c.requires.within)

pub returns-in-Zero : goal.returns-in-Zero
returns-in-Zero c =
    let b = c.args.block in
    let k = c.args.number in
    let op = c.args.operation.now in
    subst (λ (p : ℕ). drop k (commands_of b op) ≡ Discard (p / b + k) ∷ drop (k + 1) (commands_of b op)) (sym c.place.ensures) (discard_at b _ _ k op c.in-Zero.is c.requires.within)

pub returns-in_ok-bytes-in-Write : goal.returns-in_ok-bytes-in-Write
returns-in_ok-bytes-in-Write c =
    let b = c.args.block in
    let k = c.args.number in
    let op = c.args.operation.now in
    let part = c.in_ok-bytes-in-Write.bytes in
    let size : (b * k + b) - b * k ≡ b = omega arith in
    let copied = c.in_ok-bytes-in-Write.ensures ∙ ap (λ (m : ℕ). take m (drop (b * k) c.as_slice.result.now)) size ∙ ap (λ (l : List ℕ). take b (drop (b * k) l)) c.as_slice.ensures in
    subst (λ (p : ℕ). drop k (commands_of b op) ≡ Write (p / b + k) part ∷ drop (k + 1) (commands_of b op)) (sym c.place.ensures) (write_at b _ k _ part op c.in-Write.is c.requires.within copied)
