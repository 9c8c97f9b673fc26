use Rattle.std.proofs.Common.{◌≡◌, ℕ, List, [], ◌∷◌, ◌++◌, Some, None, Ok, Err, drop, map, refl, sym, ap, ◌∙◌, subst}
use Rattle.std.specs.Global.{Vec}
use Rattle.std.specs.List.{slice_get}
use Rattle.std.proofs.lemmas.Result.{err_from_is_err_and}
use Rattle.oram_session.specs.Outcome.{Outcome}
use Rattle.oram_rounds.specs.Batches.{texts}
use Rattle.oram_rounds.specs.Streams.{GivesNext}
use Rattle.oram_rounds.proofs.KeptPaths.{leaf_fits}
use Rattle.oram_near.specs.ComingAnswers.{Coming}
use Rattle.oram_near.specs.Completion.{IsCompleted}
use Rattle.oram_near.specs.EmptyRecords.{made_with}
use Rattle.oram_near.specs.Near.{rest_of}
use Rattle.oram_near.specs.NearCalls.{NearValue, client_of}
use Rattle.oram_near.specs.NearStreams.{PassesOver}
use Rattle.oram_near.specs.PathRequests.{store_in}
use Rattle.oram_near.proofs.FarStores.{same_bodies}
use Rattle.oram_near.proofs.StreamCalls.{fetch_fault, fetch_given, fetch_memory, none_to_come}
use Rattle.oram_near.proofs.near_link.NearLink.next_fetched.Goals as goal

none_first : (xs : List (Vec ℕ)) → None ≡ slice_get xs 0 → texts xs ≡ []
none_first [] is = refl
none_first (x ∷ xs) is = absurd cc

some_first : (xs : List (Vec ℕ)) (x : Vec ℕ) → Some x ≡ slice_get xs 0 → (more : List (Vec ℕ)) × (texts xs ≡ x.items ∷ texts more)
some_first [] x is = absurd cc
some_first (y ∷ xs) x is = (xs, (let same : y ≡ x = cc in ap (λ (v : Vec ℕ). v.items ∷ texts xs) same))

pub returns-in_default : goal.returns-in_default
returns-in_default g c =
    let i = c.self.inside in
    let k : NearValue _ _ = record { inner = i.inner; empty = record { maker = i.empty; rest = rest_of i.near }; device = i.device; near = i.near; unsure = map store_in (texts i.unsure.items); coming = i.coming } in
    λ l bodies answers rest h next.
    absurd (none_to_come g.B.BatchLink.batches g.B.BatchLink.streams (made_with g.E.EmptyRecords.record_at) k c.args.self.now c.self.view_is c.args.tree c.args.leaf
    (leaf_fits c.args.self.now.device c.args.tree c.args.leaf c.requires.leaf) (sym c.fetches.ensures ∙ none_first c.fetches.result.now c.in_default.ensures.value) l bodies answers rest h next)

pub returns-in_err-answer : goal.returns-in_err-answer
returns-in_err-answer g c =
    let i = c.self.inside in
    let k : NearValue _ _ = record { inner = i.inner; empty = record { maker = i.empty; rest = rest_of i.near }; device = i.device; near = i.near; unsure = map store_in (texts i.unsure.items); coming = i.coming } in
    let p = err_from_is_err_and c.from_residual.result c.from_residual.ensures.1 in
    let more = some_first c.fetches.result.now c.in-Some.message.now c.in-Some.ensures.value in
    let o : Outcome = Err c.in_err-answer.field-0.0 in
    let gives = subst (λ (b : List ℕ). GivesNext g.B.BatchLink.batches g.B.BatchLink.streams i.inner b o c.next_answer.new.self) c.deref.ensures.value c.in_err-answer.ensures in
    rw (p.1, p.2)
    (fetch_fault g.B.BatchLink.batches g.B.BatchLink.streams (made_with g.E.EmptyRecords.record_at) k c.args.self.now c.self.view_is c.args.tree c.args.leaf
    (leaf_fits c.args.self.now.device c.args.tree c.args.leaf c.requires.leaf) c.in-Some.message.now.items (texts more.0) (sym c.fetches.ensures ∙ more.1) c.next_answer.new.self c.in_err-answer.field-0.0 i.coming gives)

pub returns-in_default-complete : goal.returns-in_default-complete
returns-in_default-complete g c =
    let i = c.self.inside in
    let inv = c.self.invariant in
    let k : NearValue _ _ = record { inner = i.inner; empty = record { maker = i.empty; rest = rest_of i.near }; device = i.device; near = i.near; unsure = map store_in (texts i.unsure.items); coming = i.coming } in
    let more = some_first c.fetches.result.now c.in-Some.message.now c.in-Some.ensures.value in
    let o : Outcome = Ok c.in_ok-answer.answer.items in
    let gives = subst (λ (b : List ℕ). GivesNext g.B.BatchLink.batches g.B.BatchLink.streams i.inner b o c.next_answer.new.self) c.deref.ensures.value c.in_ok-answer.ensures in
    let stores = texts c.deref-in_default-complete.result.now in
    let named : stores ≡ map _ (map store_in (texts i.unsure.items)) =
    ap texts c.deref-in_default-complete.ensures.value ∙ sym (same_bodies i.device i.near.levels i.near.record_len (texts i.unsure.items) inv.3) in
    let left : texts c.fetches-in_default-complete.result.now ≡ texts more.0 =
    c.fetches-in_default-complete.ensures ∙ ap (λ (x : Coming). x.fetches) c.pass.ensures ∙ ap (drop 1) (sym c.fetches.ensures ∙ more.1) in
    let passes = subst (λ (bs : List (List ℕ)). PassesOver g.B.BatchLink.batches g.B.BatchLink.streams c.next_answer.new.self (bs ++ stores) c.pass_over.new.link) left c.pass_over.ensures in
    fetch_memory g.B.BatchLink.batches g.B.BatchLink.streams (made_with g.E.EmptyRecords.record_at) k c.args.self.now c.self.view_is c.args.tree c.args.leaf
    (leaf_fits c.args.self.now.device c.args.tree c.args.leaf c.requires.leaf) c.in-Some.message.now.items (texts more.0) (sym c.fetches.ensures ∙ more.1) c.next_answer.new.self c.pass_over.new.link c.in_ok-answer.answer.items stores
    c.pass.new.self named gives passes

pub returns : goal.returns
returns g c =
    let i = c.self.inside in
    let k : NearValue _ _ = record { inner = i.inner; empty = record { maker = i.empty; rest = rest_of i.near }; device = i.device; near = i.near; unsure = map store_in (texts i.unsure.items); coming = i.coming } in
    let at = made_with g.E.EmptyRecords.record_at in
    let more = some_first c.fetches.result.now c.in-Some.message.now c.in-Some.ensures.value in
    let o : Outcome = Ok c.in_ok-answer.answer.items in
    let gives = subst (λ (b : List ℕ). GivesNext g.B.BatchLink.batches g.B.BatchLink.streams i.inner b o c.next_answer.new.self) c.deref.ensures.value c.in_ok-answer.ensures in
    let completed = subst (λ (b : List ℕ). IsCompleted (client_of at k) c.args.tree c.args.leaf b c.in-Ok.given.items) c.deref-2.ensures.value c.in-Ok.ensures in
    fetch_given g.B.BatchLink.batches g.B.BatchLink.streams at k c.args.self.now c.self.view_is c.args.tree c.args.leaf
    (leaf_fits c.args.self.now.device c.args.tree c.args.leaf c.requires.leaf) c.in-Some.message.now.items (texts more.0) (sym c.fetches.ensures ∙ more.1) c.next_answer.new.self c.in_ok-answer.answer.items c.in-Ok.given.items
    c.pass.new.self c.pass.ensures gives completed
