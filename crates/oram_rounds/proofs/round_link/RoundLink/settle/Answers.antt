use Rattle.std.proofs.Common.{◌≡◌, ◌++◌, Bool, true, false, List, [], ℕ, take, refl, sym, ap, ◌∙◌, subst}
use Rattle.std.specs.Global.{Vec}
use Rattle.oram_rounds.specs.Arrivals.{Awaited}
use Rattle.oram_rounds.specs.Batches.{texts}
use Rattle.oram_rounds.specs.Rounds.{Round}
use Rattle.oram_rounds.proofs.Arriving.{AcksOf, EndsUp, up_broken, up_settled, up_unsettled}
use Rattle.oram_rounds.proofs.round_link.RoundLink.settle.Goals as goal

pub returns-then-arrivals : goal.returns-then-arrivals
returns-then-arrivals g c = λ l fetches put some paths none k.
    let n = c.receive_all.ensures.arriving l fetches put k in
    let m = c.receive_all.new.self in
    let broken : c.receive_all.new.arrivals.broken ≡ true = ap (λ (w : Awaited). w.broken) (sym c.arrivals.view_is) ∙ c.if-arrivals.true in
    let up = up_broken g.B.BatchLink.batches g.B.BatchLink.streams l fetches g.met.B.BatchLink.ends_as_batch some paths none (put ++ n.0) c.receive_all.new.arrivals m n.1 c.args.self.now put n.0 refl n.2 broken in
    subst (λ (r : Round _). EndsUp g.B.BatchLink.batches g.B.BatchLink.streams l fetches g.met.B.BatchLink.ends_as_batch some paths none (put ++ n.0) c.receive_all.new.arrivals m n.1 c.args.self.now put r) (sym c.self.view_is) up

pub returns-then-receive_acks : goal.returns-then-receive_acks
returns-then-receive_acks g c = λ l fetches put some paths none k.
    let n = c.receive_all.ensures.arriving l fetches put k in
    let m = c.receive_all.new.self in
    let whole : c.receive_all.new.arrivals.broken ≡ false = ap (λ (w : Awaited). w.broken) (sym c.arrivals.view_is) ∙ c.if-arrivals.false in
    let all = c.receive_all.ensures.all whole in
    let acks : AcksOf g.B.BatchLink.batches g.B.BatchLink.streams m.kept m.inner true c.receive_acks.new.inner =
    subst (λ (r : Round _). AcksOf g.B.BatchLink.batches g.B.BatchLink.streams r.kept r.inner true c.receive_acks.new.inner) c.self.view_is
    (subst (λ (b : Bool). AcksOf g.B.BatchLink.batches g.B.BatchLink.streams (texts (take c.self.inside.kept c.self.inside.stores.items)) c.self.inside.inner b c.receive_acks.new.inner) c.if-receive_acks.true
    (subst (λ (all : List (Vec ℕ)). AcksOf g.B.BatchLink.batches g.B.BatchLink.streams (texts (take c.self.inside.kept all)) c.self.inside.inner c.receive_acks.result c.receive_acks.new.inner) c.deref.ensures.value c.receive_acks.ensures)) in
    let up = up_settled g.B.BatchLink.batches g.B.BatchLink.streams l fetches g.met.B.BatchLink.ends_as_batch some paths none (put ++ n.0) c.receive_all.new.arrivals m n.1 c.args.self.now put n.0 refl n.2 whole all c.receive_acks.new.inner acks in
    subst (λ (r : Round _). EndsUp g.B.BatchLink.batches g.B.BatchLink.streams l fetches g.met.B.BatchLink.ends_as_batch some paths none (put ++ n.0) c.receive_all.new.arrivals m n.1 c.args.self.now put r) (sym c.self-then-receive_acks.view_is)
    (subst (λ (r : Round _). EndsUp g.B.BatchLink.batches g.B.BatchLink.streams l fetches g.met.B.BatchLink.ends_as_batch some paths none (put ++ n.0) c.receive_all.new.arrivals m n.1 c.args.self.now put r) (sym c.forget_kept.ensures)
    (subst (λ (r : Round _). EndsUp g.B.BatchLink.batches g.B.BatchLink.streams l fetches g.met.B.BatchLink.ends_as_batch some paths none (put ++ n.0) c.receive_all.new.arrivals m n.1 c.args.self.now put (record r { inner = c.receive_acks.new.inner; kept = [] })) (sym c.self.view_is) up))

pub returns : goal.returns
returns g c = λ l fetches put some paths none k.
    let n = c.receive_all.ensures.arriving l fetches put k in
    let m = c.receive_all.new.self in
    let whole : c.receive_all.new.arrivals.broken ≡ false = ap (λ (w : Awaited). w.broken) (sym c.arrivals.view_is) ∙ c.if-arrivals.false in
    let all = c.receive_all.ensures.all whole in
    let acks : AcksOf g.B.BatchLink.batches g.B.BatchLink.streams m.kept m.inner false c.receive_acks.new.inner =
    subst (λ (r : Round _). AcksOf g.B.BatchLink.batches g.B.BatchLink.streams r.kept r.inner false c.receive_acks.new.inner) c.self.view_is
    (subst (λ (b : Bool). AcksOf g.B.BatchLink.batches g.B.BatchLink.streams (texts (take c.self.inside.kept c.self.inside.stores.items)) c.self.inside.inner b c.receive_acks.new.inner) c.if-receive_acks.false
    (subst (λ (all : List (Vec ℕ)). AcksOf g.B.BatchLink.batches g.B.BatchLink.streams (texts (take c.self.inside.kept all)) c.self.inside.inner c.receive_acks.result c.receive_acks.new.inner) c.deref.ensures.value c.receive_acks.ensures)) in
    let up = up_unsettled g.B.BatchLink.batches g.B.BatchLink.streams l fetches g.met.B.BatchLink.ends_as_batch some paths none (put ++ n.0) c.receive_all.new.arrivals m n.1 c.args.self.now put n.0 refl n.2 whole all c.receive_acks.new.inner acks in
    subst (λ (r : Round _). EndsUp g.B.BatchLink.batches g.B.BatchLink.streams l fetches g.met.B.BatchLink.ends_as_batch some paths none (put ++ n.0) c.receive_all.new.arrivals m n.1 c.args.self.now put (record r { inner = c.receive_acks.new.inner })) (sym c.self.view_is) up
