-- What is found of a connection that a crash cuts off.
use Rattle.std.proofs.Common.{◌≡◌, ◌≤◌, ◌∙◌, ℕ, false, List, [], ◌∷◌, ◌++◌, Err, Ok, Result, refl, sym, ap, subst}
use Rattle.std.specs.Prelude.{All, map}
use Rattle.std.specs.List.{FoldsTo}
use Rattle.std.proofs.lemmas.List.{map-append}
use Rattle.std.proofs.lemmas.List.Elements.{All-cons, All-head, All-nil, All-tail}
use Rattle.oram_redo.specs.FilePair.{Contents, FileModel}
use Rattle.oram_host.specs.Answered.{Answering}
use Rattle.oram_host.specs.declared.serve_fault.ServeFault.{ServeFault}
use Rattle.oram_host.specs.declared.serve_fault.ServeFault.TheVariants.{Frame, OutOfMemory, Read, Stalled, Truncated, Write}
use Rattle.oram_store.specs.GroupRuns as store
use Rattle.oram_store.specs.KeptRecords.{IsSound, StoreValue}
use Rattle.oram_store.specs.Reopened.{IsFoundAgain, IsOpenedOver}
use Rattle.oram_store.proofs.GroupRuns.{honest_before, in_turn, sound_after}
use Rattle.oram_store.proofs.Reopened.{found_again}
use Rattle.oram_disk_host.specs.Hosts.{HostedValue}
use Rattle.oram_disk_host.specs.Lasting.{AnswersLast, IsLasting, store_groups}
use Rattle.oram_disk_host.specs.Serving.{EndsServing, Group, HasServed, IsServed}

all_of_first : {X : Type 0} (P : X → Type 0) (xs ys : List X) → All P (xs ++ ys) → All P xs
all_of_first P [] ys all = All-nil P
all_of_first P (x ∷ xs) ys all = All-cons P x xs (All-head P x (xs ++ ys) all) (all_of_first P xs ys (All-tail P x (xs ++ ys) all))

all_of_others : {X : Type 0} (P : X → Type 0) (xs ys : List X) → All P (xs ++ ys) → All P ys
all_of_others P [] ys all = all
all_of_others P (x ∷ xs) ys all = all_of_others P xs ys (All-tail P x (xs ++ ys) all)

-- a run over two lists has come to the end of the first one
led_to : {P A : Type 0} (R : P → A → P → Type 0) (p : P) (xs ys : List A) (q : P) → FoldsTo R p (xs ++ ys) q → (at : P) × FoldsTo R p xs at × FoldsTo R at ys q
led_to R p [] ys q led = (p, refl, led)
led_to R p (x ∷ xs) ys q led = let rest = led_to R led.0 xs ys q led.2 in (rest.0, (led.0, led.1, rest.1), rest.2)

module _ {F : Type 0} (model : FileModel F) where
  as_groups : (groups : List Group) (old new : HostedValue F) → FoldsTo (IsServed model) old groups new → store.AnswersGroups model (store_groups groups) old.store new.store
  as_groups [] old new led = ap (λ (h : HostedValue F). h.store) (sym led)
  as_groups (group ∷ rest) old new led = (led.0.store, led.1.answers, led.1.runs, as_groups rest led.0 new led.2)

  -- however a connection ends, some groups were served
  pub ends_served : (p q : Answering (HostedValue F)) (result : Result Unit ServeFault) → EndsServing model p q result → (groups : List Group) × (rest : List ℕ) × HasServed model p q groups rest
  ends_served p q (Ok x) ends = (ends.0, [], ends.1)
  ends_served p q (Err Write) ends = (ends.0, ends.1, ends.2)
  ends_served p q (Err OutOfMemory) ends = (ends.0, ends.1, ends.2)
  ends_served p q (Err Read) ends = (ends.0, ends.1, ends.2)
  ends_served p q (Err Frame) ends = (ends.0, ends.1, ends.2)
  ends_served p q (Err Truncated) ends = (ends.0, ends.1, ends.2)
  ends_served p q (Err Stalled) ends = (ends.0, ends.1, ends.2)

  pub was_honest : (p q : Answering (HostedValue F)) (result : Result Unit ServeFault) → EndsServing model p q result → model.is_honest q.state.store.file.files → model.is_honest p.state.store.file.files
  was_honest p q result ends honest =
      let served = ends_served p q result ends in
      honest_before model (store_groups served.0) p.state.store q.state.store (as_groups served.0 p.state q.state served.2.led) honest

  module _ (only_now : (v : F) (c : Contents) → model.left_since v (model.moment v) c → model.may_leave v c)
      (counts_now : (v : F) (t : ℕ) (c : Contents) → t ≤ model.moment v → model.may_leave v c → model.left_since v t c) (whole : (v : F) → model.may_leave v (model.seen v)) where
    pub answers_last : AnswersLast model
    answers_last p q groups rest served requests honest sound first others are =
        let split = led_to (IsServed model) p.state first others q.state (subst (λ (gs : List Group). FoldsTo (IsServed model) p.state gs q.state) (sym are) served.led) in
        let at : HostedValue F = split.0 in
        let all : store.AreRequests (store_groups first ++ store_groups others) =
        subst store.AreRequests (ap store_groups (sym are) ∙ map-append (λ (g : Group). record { bodies = g.bodies; given = g.answer }) first others) requests in
        let first_are = all_of_first (λ (group : store.Group). All store.IsRequest group.bodies) (store_groups first) (store_groups others) all in
        let others_are = all_of_others (λ (group : store.Group). All store.IsRequest group.bodies) (store_groups first) (store_groups others) all in
        let said = as_groups first p.state at split.1 in
        let then = as_groups others at q.state split.2 in
        let was_honest = honest_before model (store_groups others) at.store q.state.store then honest in
        record {
          at = at;
          answered = split.1;
          found = λ running c again left opened.
              found_again model (store_groups first) (store_groups others) p.state.store at.store q.state.store again c said running
              (in_turn model only_now counts_now whole (store_groups first) p.state.store at.store first_are said was_honest sound)
              (in_turn model only_now counts_now whole (store_groups others) at.store q.state.store others_are then honest
              (sound_after model (store_groups first) p.state.store at.store first_are said was_honest sound running))
              left opened;
        }
