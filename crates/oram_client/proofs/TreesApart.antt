-- A host's trees don't depend on one another.
use Rattle.std.proofs.Common.{◌≡◌, ◌≢◌, ◌⊎◌, ℕ, ◌==◌, Bool, true, false, cond, List, [], ◌∷◌, Option, None, Some, Ok, Err, refl, sym, ap, ◌∙◌, subst, inl, inr}
use Rattle.std.specs.Prelude.{MatchOption, slice_index}
use Rattle.std.proofs.lemmas.Bool.{cases_eq}
use Rattle.oram_wire.specs.HostMessages.{request_body}
use Rattle.oram_wire.specs.HostBodies.{HasNumbers, IsMisfit, names_request}
use Rattle.oram_wire.specs.declared.host_messages.HostAnswer.{HostAnswer}
use Rattle.oram_wire.specs.declared.host_messages.HostAnswer.TheVariants.{Done, Payload, Refused}
use Rattle.oram_wire.specs.declared.host_messages.HostRequest.{HostRequest}
use Rattle.oram_wire.specs.declared.host_messages.HostRequest.TheVariants.{Fetch, Put, Shape, Store}
use Rattle.oram_host.specs.Answers.{Answers, IsFetched, IsPut, IsShaped, IsStored, Keeps}
use Rattle.oram_host.specs.Host.{Host, Kept, tree_at}
use Rattle.oram_host.specs.Refusals.{Refuses, RefusesFetch, RefusesPut, RefusesShape, RefusesStore}
use Rattle.std.specs.BTreeMap.{is_at}
use Rattle.std.specs.Ordering.{nat_cmp}
use Rattle.oram_host.specs.Service.{Serves}
use Rattle.oram_host.specs.declared.refusals.HostRefusal.{HostRefusal}
use Rattle.oram_host.specs.declared.refusals.HostRefusal.TheVariants.{NoShape}
use Rattle.oram_session.specs.Honesty.{IsHonestCall}
use Rattle.oram_session.specs.Outcome.{Outcome}
use Rattle.oram_link_laws.specs.Runs.{Exchange, HostRun}
use Rattle.oram_link_laws.proofs.Same.{look, look_past, look_self}
use Rattle.oram_client.specs.TreesApart.{AgreeBeside, IsAbout, IsAboutAnother, LeavesTreeOut, TreesAreApart, tree_of}

-- the second byte of a request's body is its tree
second_byte : (message : HostRequest) → slice_index (request_body message) 1 ≡ tree_of message
second_byte (Fetch tree leaf) = refl
second_byte (Store tree leaf records) = refl
second_byte (Put tree node bytes) = refl
second_byte (Shape tree depth record_len) = refl

one_tree : (a b : HostRequest) (body : List ℕ) → body ≡ request_body a → body ≡ request_body b → tree_of b ≡ tree_of a
one_tree a b body is_a is_b = sym (second_byte b) ∙ ap (λ (l : List ℕ). slice_index l 1) (sym is_b ∙ is_a) ∙ second_byte a

module _ (tree : ℕ) where
  -- the entries of a host without those of the tree
  with_entry : (e : ℕ × Kept) → (e.0 ≡ tree) ⊎ (e.0 ≡ tree → ⊥) → Host → Host
  with_entry e (inl here) es = es
  with_entry e (inr there) es = e ∷ es

  without : Host → Host
  without [] = []
  without (e ∷ es) = with_entry e (cases_eq e.0 tree) (without es)

  look_with : (t : ℕ) (e : ℕ × Kept) (es : Host) (which : (e.0 ≡ tree) ⊎ (e.0 ≡ tree → ⊥)) → t ≢ tree → look t (without es) ≡ look t es
      → look t (with_entry e which (without es)) ≡ look t (e ∷ es)
  unfolding with_entry
  look_with t e es (inl here) apart same = same ∙ sym (look_past t e es (λ is. apart (sym is ∙ here)))
  look_with t e es (inr there) apart same = ap (λ (o : Option Kept). cond (is_at (nat_cmp t) e.0) (Some e.1) o) same

  gone_with : (e : ℕ × Kept) (es : Host) (which : (e.0 ≡ tree) ⊎ (e.0 ≡ tree → ⊥)) → look tree (without es) ≡ None → look tree (with_entry e which (without es)) ≡ None
  unfolding with_entry
  gone_with e es (inl here) none = none
  gone_with e es (inr there) none = look_past tree e (without es) there ∙ none

  look_without : (t : ℕ) (es : Host) → t ≢ tree → look t (without es) ≡ look t es
  unfolding without
  look_without t [] apart = refl
  look_without t (e ∷ es) apart = look_with t e es (cases_eq e.0 tree) apart (look_without t es apart)

  look_gone : (es : Host) → look tree (without es) ≡ None
  unfolding without
  look_gone [] = refl
  look_gone (e ∷ es) = gone_with e es (cases_eq e.0 tree) (look_gone es)

  -- a host that keeps of the tree what is given, and of every other tree what another host keeps
  given : Option Kept → Host → Host
  given None host = without host
  given (Some kept) host = (tree, kept) ∷ without host

  given_here : (o : Option Kept) (host : Host) → look tree (given o host) ≡ o
  unfolding given without
  given_here None host = look_gone host
  given_here (Some kept) host = let e : ℕ × Kept = (tree, kept) in look_self e (without host)

  given_there : (o : Option Kept) (host : Host) (t : ℕ) → t ≢ tree → look t (given o host) ≡ look t host
  unfolding given without
  given_there None host t apart = look_without t host apart
  given_there (Some kept) host t apart =
      let e : ℕ × Kept = (tree, kept) in look_past t e (without host) (λ same. apart (sym same)) ∙ look_without t host apart

  -- what the other host becomes, when this one becomes `after` by an answer
  next : HostAnswer → Host → Host → Host
  next Done after other = given (tree_at other tree) after
  next (Payload bytes) after other = other
  next (Refused code) after other = other

  keeps_there : (host other after : Host) (t : ℕ) (kept : Kept) → AgreeBeside tree host other → t ≢ tree → Keeps host t kept after → Keeps other t kept (next Done after other)
  unfolding next given
  keeps_there host other after t kept agree apart keeps = record {
    here = given_there (tree_at other tree) after t apart ∙ keeps.here;
    others = λ u distinct. elim (cases_eq u tree) [
      | inl same ↦ subst (λ (n : ℕ). tree_at (next Done after other) n ≡ tree_at other n) (sym same) (given_here (tree_at other tree) after)
      | inr elsewhere ↦ given_there (tree_at other tree) after u elsewhere ∙ keeps.others u distinct ∙ agree u elsewhere
    ];
  }

  refuses_there : (host other : Host) (message : HostRequest) (why : HostRefusal) → AgreeBeside tree host other → tree_of message ≢ tree → Refuses host message why → Refuses other message why
  refuses_there host other (Fetch t leaf) why agree apart refuses = subst (λ (o : Option Kept). MatchOption o (why ≡ NoShape) (λ kept. RefusesFetch kept leaf why)) (agree t apart) refuses
  refuses_there host other (Store t leaf records) why agree apart refuses = subst (λ (o : Option Kept). MatchOption o (why ≡ NoShape) (λ kept. RefusesStore kept leaf records why)) (agree t apart) refuses
  refuses_there host other (Put t node bytes) why agree apart refuses = subst (λ (o : Option Kept). MatchOption o (why ≡ NoShape) (λ kept. RefusesPut kept node bytes why)) (agree t apart) refuses
  refuses_there host other (Shape t depth record_len) why agree apart refuses = subst (λ (o : Option Kept). RefusesShape o depth record_len why) (agree t apart) refuses

  -- a request about another tree has the same answer

  answers_there : (host other after : Host) (message : HostRequest) (answer : HostAnswer) → AgreeBeside tree host other → tree_of message ≢ tree → Answers host message answer after
      → Answers other message answer (next answer after other)
  unfolding next
  answers_there host other after message (Refused code) agree apart (why, is, refuses, same) = (why, is, refuses_there host other message why agree apart refuses, refl)
  answers_there host other after (Fetch t leaf) (Payload bytes) agree apart (fetched, same) =
      (record { kept = fetched.kept; shaped = sym (agree t apart) ∙ fetched.shaped; leaf_in = fetched.leaf_in; path = fetched.path }, refl)
  answers_there host other after (Store t leaf records) (Payload bytes) agree apart none = none
  answers_there host other after (Put t node bytes) (Payload payload) agree apart none = none
  answers_there host other after (Shape t depth record_len) (Payload bytes) agree apart none = none
  answers_there host other after (Fetch t leaf) Done agree apart none = none
  answers_there host other after (Store t leaf records) Done agree apart stored = record {
    kept = stored.kept;
    stored = stored.stored;
    shaped = sym (agree t apart) ∙ stored.shaped;
    stores = stored.stores;
    keeps = keeps_there host other after t stored.stored agree apart stored.keeps;
  }
  answers_there host other after (Put t node bytes) Done agree apart put = record {
    kept = put.kept;
    changed = put.changed;
    shaped = sym (agree t apart) ∙ put.shaped;
    puts = put.puts;
    keeps = keeps_there host other after t put.changed agree apart put.keeps;
  }
  answers_there host other after (Shape t depth record_len) Done agree apart shaped = record {
    shape = shaped.shape;
    free = sym (agree t apart) ∙ shaped.free;
    keeps = keeps_there host other after t _ agree apart shaped.keeps;
  }

  -- what changes is what is kept of the request's tree

  keeps_others : (host after : Host) (t : ℕ) (kept : Kept) → t ≡ tree → Keeps host t kept after → AgreeBeside tree after host
  keeps_others host after t kept here keeps = λ u apart. keeps.others u (λ same. apart (same ∙ here))

  answers_here : (host after : Host) (message : HostRequest) (answer : HostAnswer) → tree_of message ≡ tree → Answers host message answer after → AgreeBeside tree after host
  answers_here host after message (Refused code) here (why, is, refuses, same) = λ u apart. ap (λ (h : Host). tree_at h u) same
  answers_here host after (Fetch t leaf) (Payload bytes) here (fetched, same) = λ u apart. ap (λ (h : Host). tree_at h u) same
  answers_here host after (Store t leaf records) (Payload bytes) here none = absurd none
  answers_here host after (Put t node bytes) (Payload payload) here none = absurd none
  answers_here host after (Shape t depth record_len) (Payload bytes) here none = absurd none
  answers_here host after (Fetch t leaf) Done here none = absurd none
  answers_here host after (Store t leaf records) Done here stored = keeps_others host after t stored.stored here stored.keeps
  answers_here host after (Put t node bytes) Done here put = keeps_others host after t put.changed here put.keeps
  answers_here host after (Shape t depth record_len) Done here shaped = keeps_others host after t _ here shaped.keeps

  agree_next : (host other after : Host) (message : HostRequest) (answer : HostAnswer) → AgreeBeside tree host other → Answers host message answer after → AgreeBeside tree after (next answer after other)
  unfolding next
  agree_next host other after message (Refused code) agree (why, is, refuses, same) = λ u apart. ap (λ (h : Host). tree_at h u) same ∙ agree u apart
  agree_next host other after (Fetch t leaf) (Payload bytes) agree (fetched, same) = λ u apart. ap (λ (h : Host). tree_at h u) same ∙ agree u apart
  agree_next host other after (Store t leaf records) (Payload bytes) agree none = absurd none
  agree_next host other after (Put t node bytes) (Payload payload) agree none = absurd none
  agree_next host other after (Shape t depth record_len) (Payload bytes) agree none = absurd none
  agree_next host other after message Done agree done = λ u apart. sym (given_there (tree_at other tree) after u apart)

  -- what is no request is refused
  refused_there : (answer : HostAnswer) (after other : Host) (code : ℕ) → answer ≡ Refused code → next answer after other ≡ other
  unfolding next
  refused_there answer after other code is = ap (λ (a : HostAnswer). next a after other) is

  serves_there : (host other after : Host) (body : List ℕ) (answer : HostAnswer) → AgreeBeside tree host other → IsAboutAnother tree body → Serves host body answer after
      → Serves other body answer (next answer after other) × AgreeBeside tree after (next answer after other)
  serves_there host other after body answer agree (inl none) serves =
      let refused = serves.op none in
      let kept : next answer after other ≡ other = refused_there answer after other 7 refused.0 in (
        record {
          request = λ message numbers is. absurd (names_it message body none is);
          op = λ unnamed. (refused.0, kept);
          misfit = λ misfit. ((serves.misfit misfit).0, kept);
        },
        λ u apart. ap (λ (h : Host). tree_at h u) refused.1 ∙ agree u apart ∙ ap (λ (h : Host). tree_at h u) (sym kept),
      )
    where
      names : (message : HostRequest) → names_request (request_body message) ≡ true
      names (Fetch t leaf) = refl
      names (Store t leaf records) = refl
      names (Put t node bytes) = refl
      names (Shape t depth record_len) = refl

      true_false : true ≡ false → ⊥
      true_false e = cc

      names_it : (message : HostRequest) (body : List ℕ) → names_request body ≡ false → body ≡ request_body message → ⊥
      names_it message body none is = true_false (sym (names message) ∙ ap names_request (sym is) ∙ none)
  serves_there host other after body answer agree (inr (message, numbers, is, apart)) serves = (
    record {
      request = λ m fits same. answers_there host other after m answer agree (λ here. apart (one_tree m message body same is ∙ here)) (serves.request m fits same);
      op = λ unnamed. ((serves.op unnamed).0, refused_there answer after other 7 (serves.op unnamed).0);
      misfit = λ misfit. ((serves.misfit misfit).0, refused_there answer after other 4 (serves.misfit misfit).0);
    },
    agree_next host other after message answer agree (serves.request message numbers is),
  )

  serves_here : (host after : Host) (body : List ℕ) (answer : HostAnswer) → IsAbout tree body → Serves host body answer after → AgreeBeside tree after host
  serves_here host after body answer (message, numbers, is, here) serves = answers_here host after message answer here (serves.request message numbers is)

  -- an exchange

  call_there : (host other after : Host) (body : List ℕ) (o : Outcome) → AgreeBeside tree host other → IsAboutAnother tree body → IsHonestCall host body o after
      → (rest : Host) × IsHonestCall other body o rest × AgreeBeside tree after rest
  call_there host other after body (Ok bytes) agree another (answer, is, given_back, serves) =
      let there = serves_there host other after body answer agree another serves in
      (next answer after other, (answer, is, given_back, there.0), there.1)
  call_there host other after body (Err fault) agree another (inl unheard) = (other, inl refl, λ u apart. ap (λ (h : Host). tree_at h u) unheard ∙ agree u apart)
  call_there host other after body (Err fault) agree another (inr (answer, serves)) =
      let there = serves_there host other after body answer agree another serves in
      (next answer after other, inr (answer, there.0), there.1)

  call_here : (host after : Host) (body : List ℕ) (o : Outcome) → IsAbout tree body → IsHonestCall host body o after → AgreeBeside tree after host
  call_here host after body (Ok bytes) about (answer, is, given_back, serves) = serves_here host after body answer about serves
  call_here host after body (Err fault) about (inl unheard) = λ u apart. ap (λ (h : Host). tree_at h u) unheard
  call_here host after body (Err fault) about (inr (answer, serves)) = serves_here host after body answer about serves

  apart_all : (exchanges left : List Exchange) (host other after : Host) → AgreeBeside tree host other → HostRun host exchanges after → LeavesTreeOut tree exchanges left
      → (rest : Host) × HostRun other left rest × AgreeBeside tree after rest
  apart_all [] left host other after agree run none =
      (other, subst (λ (es : List Exchange). HostRun other es other) (sym none) refl, λ u apart. ap (λ (h : Host). tree_at h u) (sym run) ∙ agree u apart)
  apart_all (e ∷ exchanges) left host other after agree run (inl (about, leaves)) =
      let same = call_here host run.0 e.0 e.1 about run.1 in
      apart_all exchanges left run.0 other after (λ u apart. same u apart ∙ agree u apart) run.2 leaves
  apart_all (e ∷ exchanges) left host other after agree run (inr (others, is, another, leaves)) =
      let call = call_there host other run.0 e.0 e.1 agree another run.1 in
      let more = apart_all exchanges others run.0 call.0 after call.2 run.2 leaves in
      (more.0, subst (λ (es : List Exchange). HostRun other es more.0) (sym is) (call.0, call.1, more.1), more.2)

pub trees_are_apart : TreesAreApart
trees_are_apart tree host other after exchanges left agree run leaves = apart_all tree exchanges left host other after agree run leaves
