use Rattle.std.proofs.Common.{◌≡◌, inl, inr, true≢false, ◌<◌, ◌∷◌, ◌++◌, ◌∙◌, [], List, ℕ, length, get_or, take, sym, ap, subst, arith, length-append}
use Rattle.std.specs.Global.{Vec}
use Rattle.std.specs.Prelude.{All, is_some, map}
use Rattle.std.proofs.lemmas.Bool.{cases_lt}
use Rattle.std.proofs.lemmas.List.{get_or-map, length-map, map-append, take_more}
use Rattle.std.proofs.lemmas.List.Elements.{All-push}
use Rattle.oram_store.specs.Groups.{FitsTree, IsAcceptedChange, IsOfTrees, message_of}
use Rattle.oram_store.specs.Messages.{Message, OfHost, body_of}
use Rattle.oram_store.specs.declared.groups.Change.{Change}
use Rattle.oram_wire.specs.ListOfBodies.{bodies_in}
use Rattle.oram_wire.specs.declared.host_messages.HostRequest.TheVariants.{Fetch}
use Rattle.oram_store.proofs.Fronts.{front_at, front_within}
use Rattle.oram_store.proofs.store.FileStore.changes_in.Goals as goal

pub loop-body-preserved : goal.loop-body-preserved
loop-body-preserved g c =
    let old : List Change = c.loop-body.changes.items in
    let change : Change = c.in-Some.change in
    let items : c.push.new.self.items ≡ old ++ change ∷ [] = c.in_ok-push.ensures.items in
    let i : ℕ = c.loop-body.body-index in
    let bodies : List (List ℕ) = bodies_in c.args.bodies.now in
    let within : i < length bodies = omega (arith, c.loop-body-test.true, length-map c.args.bodies.now (λ (v : Vec ℕ). v.items)) in
    let body : get_or bodies i [] ≡ body_of (message_of change) =
    get_or-map (λ (v : Vec ℕ). v.items) c.args.bodies.now i c.body-item.result [] c.loop-body-test.true
    ∙ ap (λ (v : Vec ℕ). v.items) (sym c.body-item.is) ∙ sym c.deref.ensures.value ∙ c.in-Some.ensures.body in
    let messages : map message_of c.push.new.self.items ≡ map message_of old ++ message_of change ∷ [] = ap (map message_of) items ∙ map-append message_of old (change ∷ []) in
    record {
      count = omega (arith, ap length items, length-append old (change ∷ []), c.loop-body.invariant.count);
      few = omega (arith, ap length items, length-append old (change ∷ []), c.len.ensures, c.loop-body.changes.ok.0, c.if-len-ge-MOST_TOGETHER.false);
      fits = subst (λ (ss : List Change). All FitsTree ss) (sym items) (All-push FitsTree old change c.loop-body.invariant.fits c.in-Some.ensures.fits.0);
      of = subst (λ (ss : List Change). All (IsOfTrees c.args.self.now.trees) ss) (sym items) (All-push (IsOfTrees c.args.self.now.trees) old change c.loop-body.invariant.of c.in-Some.ensures.fits.1);
      bodies = ap (map body_of) messages ∙ map-append body_of (map message_of old) (message_of change ∷ [])
          ∙ ap (λ (bs : List (List ℕ)). bs ++ body_of (message_of change) ∷ []) c.loop-body.invariant.bodies
          ∙ ap (λ (b : List ℕ). take i bodies ++ b ∷ []) (sym body) ∙ sym (take_more bodies i [] within);
      accepted = subst (λ (ms : List Message). All (IsAcceptedChange c.args.self.now.trees) ms) (sym messages)
          (All-push (IsAcceptedChange c.args.self.now.trees) (map message_of old) (message_of change) c.loop-body.invariant.accepted c.in-Some.ensures.accepted);
    }

-- the next message isn't a STORE or a PUT that the trees accept
pub returns-in_default-clause-all : goal.returns-in_default-clause-all
returns-in_default-clause-all g c messages are accepted few = elim (cases_lt c.loop-body.body-index (length messages)) [
  | inl longer ↦ (
      let i : ℕ = c.loop-body.body-index in
      let bodies : List (List ℕ) = bodies_in c.args.bodies.now in
      let message : Message = get_or messages i (OfHost (Fetch 0 0)) in
      let body : c.deref.result.now ≡ body_of message =
      c.deref.ensures.value ∙ ap (λ (v : Vec ℕ). v.items) c.body-item.is
      ∙ sym (get_or-map (λ (v : Vec ℕ). v.items) c.args.bodies.now i c.body-item.result [] c.loop-body-test.true) ∙ front_at messages bodies i (OfHost (Fetch 0 0)) are longer in
      absurd (true≢false (sym (c.change_in.ensures.all message (accepted i (OfHost (Fetch 0 0)) longer) body) ∙ ap is_some c.in_default.is)))
  | inr shorter ↦ omega (arith, shorter, c.loop-body.invariant.count)
]

pub returns-clause-all : goal.returns-clause-all
returns-clause-all g c messages are accepted few =
    omega (arith, front_within messages (bodies_in c.args.bodies.now) are, length-map c.args.bodies.now (λ (v : Vec ℕ). v.items), c.loop-body.invariant.count, c.loop-body-test.false)
