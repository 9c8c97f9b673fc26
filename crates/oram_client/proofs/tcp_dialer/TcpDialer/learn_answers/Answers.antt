use Rattle.std.proofs.Common.{◌≡◌, Bool, true, false, List, ℕ, MatchBool, inl, inr, refl, ap, ◌∙◌, subst, rules}
use Rattle.oram_wire.specs.HostMessages.{no_room_answer}
use Rattle.oram_link_laws.specs.Repair.{IsAmong}
use Rattle.oram_rounds.specs.Batches.{texts}
use Rattle.oram_stamps.specs.Known.{answered}
use Rattle.oram_client.specs.Dialer.{Destination}
use Rattle.oram_client.specs.Stamped.{with_known}
use Rattle.oram_client.proofs.tcp_dialer.TcpDialer.learn_answers.Goals as goal

pub returns-then-not-has_no_room : goal.returns-then-not-has_no_room
returns-then-not-has_no_room g c =
    let given = texts c.args.answers.now in
    let known = c.settle.new.self in
    let said : c.has_no_room.result ≡ false = search rules in
    let not : ¬ IsAmong no_room_answer given =
    subst (λ (b : Bool). MatchBool b (IsAmong no_room_answer given) (¬ IsAmong no_room_answer given)) said c.has_no_room.ensures in
    (known, inr (not, c.settle.ensures ∙ ap (λ (d : Destination). answered d.known) c.self.view_is), ap (λ (d : Destination). with_known d known) c.self.view_is)

pub returns-else-not-has_no_room : goal.returns-else-not-has_no_room
returns-else-not-has_no_room g c =
    let given = texts c.args.answers.now in
    let said : c.has_no_room.result ≡ true = search rules in
    let among : IsAmong no_room_answer given =
    subst (λ (b : Bool). MatchBool b (IsAmong no_room_answer given) (¬ IsAmong no_room_answer given)) said c.has_no_room.ensures in
    (c.args.self.now.known, inl (among, refl), refl)
