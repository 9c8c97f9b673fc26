use Rattle.std.proofs.Common.{◌≡◌, ◌++◌, ◌+◌, ◌-◌, ◌∷◌, [], refl, length, take, drop, rules}
use Rattle.std.specs.Int.{w32, to_be_bytes}
use Rattle.oram_wire.specs.FrameStream.{Feeding, IsLeft, length_at}
use Rattle.oram_wire.specs.ListOfBodies.{bodies_in}
use Rattle.oram_wire.proofs.Streams.{frames_across, leaves_nothing, leaves_rest}
use Rattle.oram_wire.proofs.frames.advance.Goals as goal
use Rattle.oram_wire.proofs.frames.advance.Goals.{then-broken, else-broken+in_ok-held}

pub returns-clause-ok : goal.returns-clause-ok
returns-clause-ok c =
    let held = c.args.held.now.items in
    let piece = c.args.piece.now in
    let n = c.in-Some.length in
    let body = c.in_ok-joined_body.field-0.items in
    let part = c.split_at.result.0.now in
    let rest = c.in_ok-rest.rest.now in
    let first : bodies_in c.push.new.self.items ≡ body ∷ [] = rw (c.in_ok-push.ensures.items, c.new-frames.ensures.items) refl in
    let left : Feeding = record { held = c.if-broken.drop.items; broken = c.in_ok-rest.broken } in
    let leaves : IsLeft rest left = elim c.if-broken.branch [
      | then-broken w ↦ leaves_nothing rest _ _ w.if-broken.true c.in_ok-rest.ensures.rest (rw w.drop-is w.new-then-broken.ensures.items)
      | else-broken+in_ok-held w ↦ leaves_rest rest _ _ w.if-broken.false c.in_ok-rest.ensures.rest (rw w.drop-is w.in_ok-held.ensures)
    ] in
    let number : n ≡ length_at (held ++ piece) = search rules in
    let front : part ≡ take (4 + n - length held) piece = search rules in
    let back : c.split_at.result.1.now ≡ drop (4 + n - length held) piece = search rules in
    let part_len : length part ≡ 4 + n - length held = search rules in
    let across : held ++ part ≡ to_be_bytes w32 (length_at (held ++ part)) ++ body = search rules in
    frames_across held piece part c.split_at.result.1.now body rest n (bodies_in c.cut.new.frames.items) left c.requires number front back part_len across (search rules)
    (search rules) (search rules) leaves
