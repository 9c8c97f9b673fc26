use Rattle.std.proofs.Common.{◌≡◌, ◌∷◌, List, ℕ, take, Ok, Err, true, sym, ap, ◌∙◌, subst}
use Rattle.std.specs.Global.{Vec}
use Rattle.oram_session.specs.Outcome.{Outcome, outcome_of}
use Rattle.oram_rounds.specs.Arrivals.{AreArriving, Awaited}
use Rattle.oram_rounds.specs.Batches.{texts}
use Rattle.oram_rounds.specs.Overlay.{IsOverlaid}
use Rattle.oram_rounds.specs.PathMessages.{IsPathFetch}
use Rattle.oram_rounds.specs.Rounds.{Round}
use Rattle.oram_rounds.specs.Streams.{GivesNext}
use Rattle.oram_rounds.proofs.Arriving.{MoreArrive, Puts, lost_next, none_more, received}
use Rattle.oram_rounds.proofs.round_link.RoundLink.receive.Goals as goal

pub returns-in_default-clause-arriving : goal.returns-in_default-clause-arriving
returns-in_default-clause-arriving g c = λ l fetches put whole k.
    let none : c.arrivals.inside.due.items ≡ c.pop_front.new.self.items = c.in_default.ensures.items in
    let same : c.args.arrivals.now ≡ record { due = texts c.pop_front.new.self.items; full = c.arrivals.inside.is_full; broken = c.arrivals.inside.is_broken } =
    sym c.arrivals.view_is ∙ ap (λ (due : List (Vec ℕ)). let w : Awaited = record { due = texts due; full = c.arrivals.inside.is_full; broken = c.arrivals.inside.is_broken } in w) none in
    none_more g.B.BatchLink.batches g.B.BatchLink.streams l fetches put _ c.args.self.now
    (subst (λ (w : Awaited). AreArriving g.B.BatchLink.batches g.B.BatchLink.streams l fetches put w c.args.self.now) same k)

pub returns-in-Ok-clause-arriving : goal.returns-in-Ok-clause-arriving
returns-in-Ok-clause-arriving g c = λ l fetches put whole k.
    let rest = texts c.pop_front.new.self.items in
    let f = c.in-Some.fetch.items in
    let due : c.args.arrivals.now.due ≡ f ∷ rest = ap (λ (w : Awaited). w.due) (sym c.arrivals.view_is) ∙ ap texts c.in-Some.ensures.items in
    let answer = c.in-Ok.answer.items in
    let x = c.kept_over-laid.result.items in
    let next = subst (λ (o : Outcome). GivesNext g.B.BatchLink.batches g.B.BatchLink.streams c.self.inside.inner f o c.next_answer.new.self) (ap outcome_of c.in-Ok.is)
    (subst (λ (b : List ℕ). GivesNext g.B.BatchLink.batches g.B.BatchLink.streams c.self.inside.inner b (outcome_of c.next_answer.result) c.next_answer.new.self) c.deref-2.ensures.value c.next_answer.ensures) in
    let path = c.in-Some-fetched_path.ensures in
    let over : (p : IsPathFetch c.self.inside.device f) × IsOverlaid c.self.inside.device c.self.inside.record_len p.tree p.leaf (texts (take c.self.inside.kept c.self.inside.stores.items)) answer x =
    (record { tree = c.in-Some-fetched_path.tree; leaf = c.in-Some-fetched_path.leaf; tree_in = path.0; leaf_in = path.1; named = sym c.deref.ensures.value ∙ path.2 }, c.kept_over-laid.ensures) in
    received g.B.BatchLink.batches g.B.BatchLink.streams l fetches put c.args.arrivals.now c.args.self.now k whole f rest due c.next_answer.new.self answer x
    (subst (λ (r : Round _). (p : IsPathFetch r.device f) × IsOverlaid r.device r.record_len p.tree p.leaf r.kept answer x) c.self.view_is over)
    (subst (λ (r : Round _). GivesNext g.B.BatchLink.batches g.B.BatchLink.streams r.inner f (Ok answer) c.next_answer.new.self) c.self.view_is next) c.put_ahead.new.arrivals c.put_ahead.new.self
    (subst (λ (w : Awaited). Puts g.B.BatchLink.batches g.B.BatchLink.streams l fetches put c.args.arrivals.now c.args.self.now k whole f rest due c.next_answer.new.self (record w { due = rest }) (record c.args.self.now { inner = c.next_answer.new.self }) x c.put_ahead.new.arrivals c.put_ahead.new.self) c.arrivals.view_is
    (subst (λ (r : Round _). Puts g.B.BatchLink.batches g.B.BatchLink.streams l fetches put c.args.arrivals.now c.args.self.now k whole f rest due c.next_answer.new.self (record { due = rest; full = c.arrivals.inside.is_full; broken = c.arrivals.inside.is_broken }) (record r { inner = c.next_answer.new.self }) x c.put_ahead.new.arrivals c.put_ahead.new.self) c.self.view_is c.put_ahead.ensures))

pub returns-in-Err-clause-arriving : goal.returns-in-Err-clause-arriving
returns-in-Err-clause-arriving g c = λ l fetches put whole k.
    let rest = texts c.pop_front.new.self.items in
    let f = c.in-Some.fetch.items in
    let due : c.args.arrivals.now.due ≡ f ∷ rest = ap (λ (w : Awaited). w.due) (sym c.arrivals.view_is) ∙ ap texts c.in-Some.ensures.items in
    let next = subst (λ (o : Outcome). GivesNext g.B.BatchLink.batches g.B.BatchLink.streams c.self.inside.inner f o c.next_answer.new.self) (ap outcome_of c.in-Err.is)
    (subst (λ (b : List ℕ). GivesNext g.B.BatchLink.batches g.B.BatchLink.streams c.self.inside.inner b (outcome_of c.next_answer.result) c.next_answer.new.self) c.deref-2.ensures.value c.next_answer.ensures) in
    let fault = c.in-Err.field-0 in
    let lost = lost_next g.B.BatchLink.batches g.B.BatchLink.streams l fetches put c.args.arrivals.now c.args.self.now k whole f rest due c.next_answer.new.self fault
    (subst (λ (r : Round _). GivesNext g.B.BatchLink.batches g.B.BatchLink.streams r.inner f (Err fault) c.next_answer.new.self) c.self.view_is next) in
    subst (λ (r : Round _). MoreArrive g.B.BatchLink.batches g.B.BatchLink.streams l fetches put c.args.arrivals.now c.args.self.now k whole f rest due c.next_answer.new.self (record { due = rest; full = c.arrivals.inside.is_full; broken = true }) (record r { inner = c.next_answer.new.self })) (sym c.self.view_is)
    (subst (λ (w : Awaited). MoreArrive g.B.BatchLink.batches g.B.BatchLink.streams l fetches put c.args.arrivals.now c.args.self.now k whole f rest due c.next_answer.new.self (record w { due = rest; broken = true }) (record c.args.self.now { inner = c.next_answer.new.self })) (sym c.arrivals.view_is) lost)
