use Rattle.std.proofs.Common.{◌≡◌, ◌<◌, ◌≤◌, ◌∷◌, ◌∙◌, [], List, ℕ, inl, inr, length, take, refl, rules, sym, ap, subst, arith, true, true≢false}
use Rattle.std.specs.Global.{Vec}
use Rattle.std.specs.Prelude.{All, map}
use Rattle.std.specs.List.{list_any}
use Rattle.std.proofs.lemmas.List.{get_or-map, length-map, take_more}
use Rattle.oram_host.specs.Refusals.{code_of}
use Rattle.oram_host.specs.declared.refusals.HostRefusal.{HostRefusal}
use Rattle.oram_store.specs.Groups.{IsOfTrees, ServesGroup, is_store, message_of}
use Rattle.oram_store.specs.Messages.{body_of}
use Rattle.oram_store.specs.declared.groups.Change.{Change}
use Rattle.oram_wire.specs.ListOfBodies.{bodies_in}
use Rattle.oram_wire.specs.declared.host_messages.HostAnswer.TheVariants.{Done, Refused}
use Rattle.oram_store.proofs.Fronts.{front_alone}
use Rattle.oram_store.proofs.Responses.{code_is}
use Rattle.oram_store.proofs.store.FileStore.answer_group.Goals.{in-Ok+in_ok-extend_from_slice-in-Ok, in-Err+in_ok-extend_from_slice-in-Err}
use Rattle.oram_store.proofs.store.FileStore.answer_group.Goals as goal

-- one message alone
pub returns-then-not-go_together-clause-ok : goal.returns-then-not-go_together-clause-ok
returns-then-not-go_together-clause-ok g c =
    let call = c.in_ok-answer.ensures in
    let bodies : List (List ℕ) = bodies_in c.args.bodies.now in
    let body : List ℕ = c.deref-then-not-go_together.result.now in
    let some : 0 < length bodies = omega (arith, c.requires, length-map c.args.bodies.now (λ (v : Vec ℕ). v.items)) in
    let one : take 1 bodies ≡ body ∷ [] =
    take_more bodies 0 [] some
    ∙ ap (λ (b : List ℕ). b ∷ []) (get_or-map (λ (v : Vec ℕ). v.items) c.args.bodies.now 0 c.index-bodies-0.result [] c.requires ∙ ap (λ (v : Vec ℕ). v.items) (sym c.index-bodies-0.is) ∙ sym c.deref-then-not-go_together.ensures.value) in (
      call.ok.0,
      call.ok.1,
      call.ok.2,
      inl (
        body,
        one,
        record {
          request = λ message numbers is. let t = call.ok.3 message numbers is in record { responds = t.0; committed = t.1; goes_on = t.2; full = t.3; serves = t.4 };
          records = call.ok.4;
          levels = call.ok.5;
          op = λ h other others. sym call.ok.2 ∙ call.op h other others;
          misfit = λ h. sym call.ok.2 ∙ call.misfit h;
          records_misfit = λ h. let refused = call.records_misfit h in (sym call.ok.2 ∙ refused.0, refused.1);
          levels_misfit = λ h. let refused = call.levels_misfit h in (sym call.ok.2 ∙ refused.0, refused.1);
        },
      ),
    )

-- if the first message is answered alone, no others can go with it
pub returns-then-not-go_together-clause-all : goal.returns-then-not-go_together-clause-all
returns-then-not-go_together-clause-all g c messages front =
    let changes : List Change = c.in_ok-changes.changes.items in
    let bodies : List (List ℕ) = bodies_in c.args.bodies.now in
    let long : length (map message_of changes) ≡ length changes = length-map changes message_of in
    let apart : (2 ≤ length c.deref.result.now) × (list_any is_store (map message_of c.deref.result.now) ≡ true) → ⊥ = λ both. true≢false (sym (c.go_together.ensures.1 both) ∙ c.if-not-go_together.true) in
    front_alone c.args.self.now.trees bodies messages (map message_of changes) front (c.in_ok-changes.ensures.bodies ∙ ap (λ (n : ℕ). take n bodies) (sym long))
    (omega (arith, c.in_ok-changes.ensures.all messages front.are front.accepted front.few, long))
    (λ both. apart (subst (λ (ss : List Change). (2 ≤ length ss) × (list_any is_store (map message_of ss) ≡ true)) (sym c.deref.ensures.value) (omega (arith, both.0, long), both.1)))

pub returns-clause-all : goal.returns-clause-all
returns-clause-all g c messages front = omega (arith, c.in_ok-changes.ensures.all messages front.are front.accepted front.few, c.len.ensures)

-- STOREs and PUTs together
pub returns-clause-ok : goal.returns-clause-ok
returns-clause-ok g c =
    let changes : List Change = c.in_ok-changes.changes.items in
    let bodies : List (List ℕ) = bodies_in c.args.bodies.now in
    let long : length changes ≡ c.len.result = omega (arith, c.len.ensures, c.in_ok-changes.changes.ok.0) in
    let are : map body_of (map message_of changes) ≡ take c.len.result bodies = c.in_ok-changes.ensures.bodies ∙ ap (λ (n : ℕ). take n bodies) long in
    let has_store : list_any is_store (map message_of changes) ≡ true =
    subst (λ (ss : List Change). list_any is_store (map message_of ss) ≡ true) c.deref.ensures.value (c.go_together.ensures.0 c.if-not-go_together.false).1 in
    let of : All (IsOfTrees c.args.self.now.trees) c.deref-2.result.now = subst (λ (ss : List Change). All (IsOfTrees c.args.self.now.trees) ss) (sym c.deref-2.ensures.value) c.in_ok-changes.ensures.of in
    elim c.match-change_together.branch [
      | in-Ok+in_ok-extend_from_slice-in-Ok w ↦ (
        Done,
        tt,
        search rules,
        inr (record {
          messages = map message_of changes;
          are = are;
          accepted = c.in_ok-changes.ensures.accepted;
          has_store = has_store;
          either = inl refl;
          trees = c.change_together.ensures.trees;
          committed = λ granted. w.in-Ok.ensures.none_pending;
          goes_on = λ granted. w.in-Ok.ensures.running;
          full = λ full. cc;
          serves = λ honest s. subst (λ (ss : List Change). ServesGroup g.F.FilePair.model (map message_of ss) Done c.args.self.now c.change_together.new.self) c.deref-2.ensures.value (w.in-Ok.ensures.serves of honest s);
        }),
      )
      | in-Err+in_ok-extend_from_slice-in-Err w ↦ (
        Refused (code_of w.in-Err.why),
        code_is w.in-Err.why,
        search rules,
        inr (record {
          messages = map message_of changes;
          are = are;
          accepted = c.in_ok-changes.ensures.accepted;
          has_store = has_store;
          either = inr (ap (λ (why : HostRefusal). Refused (code_of why)) w.in-Err.ensures.refused);
          trees = c.change_together.ensures.trees;
          committed = λ granted. absurd granted;
          goes_on = λ granted. absurd granted;
          full = λ full. w.in-Err.ensures.failure;
          serves = λ honest s. subst (λ (ss : List Change). ServesGroup g.F.FilePair.model (map message_of ss) (Refused (code_of w.in-Err.why)) c.args.self.now c.change_together.new.self) c.deref-2.ensures.value (w.in-Err.ensures.serves of honest s);
        }),
      )
    ]
