use Rattle.std.proofs.Common.{◌≡◌, ℕ, List, Option, None, Some, MatchOption, rules, sym, ap, subst}
use Rattle.std.specs.Global.{Vec}
use Rattle.std.specs.Prelude.{IsOk}
use Rattle.oram_client.specs.StampedStreams.{HearsStamp}
use Rattle.oram_client.specs.declared.awaited.Progress.{Progress}
use Rattle.oram_client.proofs.stamp_answers.hear_begun.Goals as goal

pub returns-in-Some : goal.returns-in-Some
returns-in-Some g c =
    let before : Progress = c.args.progress.now in
    let after : Progress = record { left = before.left; no_room = before.no_room; begun = c.take.new.self; done = before.done } in
    let was : before.begun ≡ Some c.in-Some.begun = search rules in
    let none : c.take.new.self ≡ None = search rules in
    let heard = subst (λ (message : List ℕ). HearsStamp g.S.Read.remaining g.S.Write.contents message c.args.line.now c.hear_stamp.result c.hear_stamp.new.line) c.deref.ensures.value c.hear_stamp.ensures in
    subst (λ (b : Option (Vec ℕ)). MatchOption b (IsOk c.hear_stamp.result × (c.hear_stamp.new.line ≡ c.args.line.now) × (after ≡ before))
    (λ (begun : Vec ℕ). HearsStamp g.S.Read.remaining g.S.Write.contents begun.items c.args.line.now c.hear_stamp.result c.hear_stamp.new.line × (after ≡ record before { begun = None })))
    (sym was) (heard, ap (λ (b : Option (Vec ℕ)). let p : Progress = record { left = before.left; no_room = before.no_room; begun = b; done = before.done } in p) none)
