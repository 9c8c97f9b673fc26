use Rattle.std.proofs.Common.{◌∷◌, ◌++◌, [], List, ℕ, take, refl, sym, ap, ◌∙◌, subst, inl, inr, Option, Ok}
use Rattle.std.proofs.lemmas.Result.{err_from_is_err_and}
use Rattle.oram_rounds.specs.Batches.{BatchOutcome, batch_outcome_of, texts}
use Rattle.oram_rounds.specs.Overlay.{IsOverlaid}
use Rattle.oram_rounds.specs.Rounds.{Fetches, Round}
use Rattle.std.specs.Option.{option_to_list}
use Rattle.std.specs.Global.{Vec}
use Rattle.oram_rounds.specs.PathMessages.{IsPathFetch}
use Rattle.oram_session.specs.declared.link.LinkFault.TheVariants.{OutOfMemory}
use Rattle.oram_rounds.proofs.SentBodies.{declines, fetch_failed, fetch_given, fetch_refused}
use Rattle.oram_rounds.proofs.Texts.{texts_by}
use Rattle.oram_rounds.proofs.round_link.RoundLink.fetch.Goals as goal

pub returns-in_err-to_vec-clause-call : goal.returns-in_err-to_vec-clause-call
returns-in_err-to_vec-clause-call g c =
    let p = err_from_is_err_and c.from_residual.result c.from_residual.ensures.1 in
    rw (p.1, p.2) (declines g.B.BatchLink.batches c.args.self.now c.args.body.now OutOfMemory (inl refl))

pub returns-in_err-answers-clause-call : goal.returns-in_err-answers-clause-call
returns-in_err-answers-clause-call g c =
    let p = err_from_is_err_and c.from_residual-in_err-answers.result c.from_residual-in_err-answers.ensures.1 in
    let f : IsPathFetch c.args.self.now.device c.args.body.now =
    record { tree = c.args.tree; leaf = c.args.leaf; tree_in = c.requires.tree; leaf_in = c.requires.leaf; named = c.requires.body } in
    let sent = c.call_all.ensures in
    let batch = subst (λ (o : BatchOutcome). g.B.BatchLink.batches c.self.inside.inner (texts (take c.self.inside.kept c.self.inside.stores.items) ++ c.args.body.now ∷ []) o sent.0 c.call_all.new.self)
    (ap batch_outcome_of c.in_err-answers.was)
    (subst (λ (all : List (Vec ℕ)). g.B.BatchLink.batches c.self.inside.inner (texts (take c.self.inside.kept all) ++ c.args.body.now ∷ []) (batch_outcome_of c.call_all.result) sent.0 c.call_all.new.self)
    c.deref.ensures.value
    (subst (λ (b : List ℕ). g.B.BatchLink.batches c.self.inside.inner (texts (take c.self.inside.kept c.deref.result.now) ++ b ∷ []) (batch_outcome_of c.call_all.result) sent.0 c.call_all.new.self)
    (c.in_ok-to_vec.ensures.items_if_clones_equal (λ x y e. e)) sent.1)) in
    (sent.0, rw (p.1, p.2) (inr (inl (fetch_failed g.B.BatchLink.batches _ _ _ c.self.view_is c.args.body.now f c.requires.first sent.0 c.in_err-answers.field-0.0 batch refl refl refl))))

pub returns-in-Some-first_refusal-clause-call : goal.returns-in-Some-first_refusal-clause-call
returns-in-Some-first_refusal-clause-call g c =
    let f : IsPathFetch c.args.self.now.device c.args.body.now =
    record { tree = c.args.tree; leaf = c.args.leaf; tree_in = c.requires.tree; leaf_in = c.requires.leaf; named = c.requires.body } in
    let sent = c.call_all.ensures in
    let batch = subst (λ (o : BatchOutcome). g.B.BatchLink.batches c.self.inside.inner (texts (take c.self.inside.kept c.self.inside.stores.items) ++ c.args.body.now ∷ []) o sent.0 c.call_all.new.self)
    (ap batch_outcome_of c.in_ok-answers.was)
    (subst (λ (all : List (Vec ℕ)). g.B.BatchLink.batches c.self.inside.inner (texts (take c.self.inside.kept all) ++ c.args.body.now ∷ []) (batch_outcome_of c.call_all.result) sent.0 c.call_all.new.self)
    c.deref.ensures.value
    (subst (λ (b : List ℕ). g.B.BatchLink.batches c.self.inside.inner (texts (take c.self.inside.kept c.deref.result.now) ++ b ∷ []) (batch_outcome_of c.call_all.result) sent.0 c.call_all.new.self)
    (c.in_ok-to_vec.ensures.items_if_clones_equal (λ x y e. e)) sent.1)) in
    let all = texts_by c.in_ok-answers.answers.items c.pop.new.self.items c.in-Some.answer (c.pop.ensures.items ∙ ap (λ (o : Option (Vec ℕ)). c.pop.new.self.items ++ option_to_list o) c.in-Some.is) in
    let refused = c.in-Some-first_refusal.ensures in (
      sent.0,
      inr (inl (fetch_refused g.B.BatchLink.batches _ _ _ c.self.view_is c.args.body.now f c.requires.first sent.0 (texts c.in_ok-answers.answers.items) (texts c.pop.new.self.items) c.in-Some.answer.items
          c.in-Some-first_refusal.refusal.items c.refused_with.result.items c.refused_with.ensures all batch refl refl refl refused.0 refused.1)),
    )

pub returns-clause-call : goal.returns-clause-call
returns-clause-call g c =
    let f : IsPathFetch c.args.self.now.device c.args.body.now =
    record { tree = c.args.tree; leaf = c.args.leaf; tree_in = c.requires.tree; leaf_in = c.requires.leaf; named = c.requires.body } in
    let sent = c.call_all.ensures in
    let batch = subst (λ (o : BatchOutcome). g.B.BatchLink.batches c.self.inside.inner (texts (take c.self.inside.kept c.self.inside.stores.items) ++ c.args.body.now ∷ []) o sent.0 c.call_all.new.self)
    (ap batch_outcome_of c.in_ok-answers.was)
    (subst (λ (all : List (Vec ℕ)). g.B.BatchLink.batches c.self.inside.inner (texts (take c.self.inside.kept all) ++ c.args.body.now ∷ []) (batch_outcome_of c.call_all.result) sent.0 c.call_all.new.self)
    c.deref.ensures.value
    (subst (λ (b : List ℕ). g.B.BatchLink.batches c.self.inside.inner (texts (take c.self.inside.kept c.deref.result.now) ++ b ∷ []) (batch_outcome_of c.call_all.result) sent.0 c.call_all.new.self)
    (c.in_ok-to_vec.ensures.items_if_clones_equal (λ x y e. e)) sent.1)) in
    let all = texts_by c.in_ok-answers.answers.items c.pop.new.self.items c.in-Some.answer (c.pop.ensures.items ∙ ap (λ (o : Option (Vec ℕ)). c.pop.new.self.items ++ option_to_list o) c.in-Some.is) in
    let now = c.forget_kept.ensures in
    let over = subst (λ (r : Round _). IsOverlaid r.device r.record_len c.args.tree c.args.leaf r.held c.in-Some.answer.items c.overlaid.result.items) now c.overlaid.ensures in (
      sent.0,
      inr (inl (subst (λ (r : Round _). Fetches g.B.BatchLink.batches c.args.self.now.device c.args.self.now.record_len c.args.self.now c.args.body.now (Ok c.overlaid.result.items) sent.0 r) (sym now)
          (fetch_given g.B.BatchLink.batches _ _ _ c.self.view_is c.args.body.now f c.requires.first sent.0 (texts c.in_ok-answers.answers.items) (texts c.pop.new.self.items) c.in-Some.answer.items
          c.overlaid.result.items all batch refl refl refl c.in_default-first_refusal.ensures over))),
    )
