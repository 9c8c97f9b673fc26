-- Groups of messages, one after the other.
use Rattle.std.proofs.Common.{◌≡◌, ◌⊎◌, inl, inr, ⊎_elim, ℕ, suc, ◌≤◌, true, false, true≢false, List, [], ◌∷◌, ◌++◌, refl, sym, ◌∙◌, ap, subst, arith}
use Rattle.std.specs.Prelude.{All, map}
use Rattle.std.proofs.lemmas.Bool.{cases_Bool}
use Rattle.std.proofs.lemmas.List.{map-append}
use Rattle.oram_host.specs.declared.refusals.HostRefusal.TheVariants.{OutOfMemory}
use Rattle.oram_layout.specs.Records.{AreKept, Records as RecordsOf}
use Rattle.oram_layout.specs.Trees.{Trees}
use Rattle.oram_levels.specs.Messages.{FetchLevels, StoreLevels}
use Rattle.oram_redo.specs.Content.{Content}
use Rattle.oram_redo.specs.FilePair.{Contents, FileModel, LeavesOnly}
use Rattle.oram_redo.proofs.Moments.{started}
use Rattle.oram_store.specs.Crashes.{MayBeFound, MayHold}
use Rattle.oram_store.specs.FirstAnswers.{AnswersBody, AnswersFirst}
use Rattle.oram_store.specs.GroupRuns.{Answered, AnswersGroups, AreAnswered, AreInTurn, AreRequests, Exchange, FoundAtBorder, Group, GroupsInTurn, IsFirstCarriedOut, IsGroupCarriedOut, IsRequest, answered_bodies, answered_body}
use Rattle.oram_store.specs.Groups.{AnswersGroup, AnswersInTurn, AreCarriedOut, IsAcceptedChange, IsDoneOrFull}
use Rattle.oram_store.specs.KeptRecords.{Holds, IsSound, StoreValue, records_of, sure_records}
use Rattle.oram_store.specs.LevelsAnswers.{RespondsToLevels}
use Rattle.oram_store.specs.Messages.{HasItsNumbers, IsDoneIn, Message, OfHost, OfLevels, Responds, body_of}
use Rattle.oram_store.specs.RecordFile.{FileValue, Finds, OnlyIf, Runs}
use Rattle.oram_store.specs.Refusals.{RespondsWith}
use Rattle.oram_wire.specs.declared.host_messages.HostAnswer.{HostAnswer}
use Rattle.oram_wire.specs.declared.host_messages.HostRequest.TheVariants as request
use Rattle.oram_store.proofs.Crashes.{found_leads, found_more, found_then, same_front}
use Rattle.oram_store.proofs.Lives.{found_sure}
use Rattle.oram_store.proofs.MessagesServed.{ServesMessage, as_levels, message_keep}
use Rattle.oram_store.proofs.Served.{kept_then}

-- the answers stay right if the records before them are the same
answered_keep : (trees after : Trees) (one two three : RecordsOf) (all : List Exchange) → AreKept one two → AreAnswered trees two all after three → AreAnswered trees one all after three
answered_keep trees after one two three [] same said = (said.0, kept_then one two three same said.1)
answered_keep trees after one two three (first ∷ rest) same said = (said.0, said.1, said.2, message_keep trees one two said.1 first.message first.given same said.3, said.4)

-- some messages, and then some more
pub answered_then : (trees mid_trees after : Trees) (old mid new : RecordsOf) (first more : List Exchange) → AreAnswered trees old first mid_trees mid → AreAnswered mid_trees mid more after new
    → AreAnswered trees old (first ++ more) after new
answered_then trees mid_trees after old mid new [] more said then =
    answered_keep trees after old mid new more said.1 (subst (λ (t : Trees). AreAnswered t mid more after new) said.0 then)
answered_then trees mid_trees after old mid new (one ∷ rest) more said then =
    (said.0, said.1, said.2, said.3, answered_then said.0 mid_trees after said.1 mid new rest more said.4 then)

abbrev with_answer : HostAnswer → Message → Exchange
with_answer given message = record { message = message; given = given }

-- the trees give this answer to each STORE and PUT that they don't refuse
responds_accepted : (trees : Trees) (message : Message) (given : HostAnswer) → IsAcceptedChange trees message → IsDoneOrFull given → Responds trees message given trees
responds_accepted trees (OfHost (request.Fetch tree leaf)) given accepted either = absurd accepted
responds_accepted trees (OfHost (request.Shape tree depth record_len)) given accepted either = absurd accepted
responds_accepted trees (OfLevels (FetchLevels tree first last leaf)) given accepted either = absurd accepted
responds_accepted trees (OfHost (request.Store tree leaf records)) given accepted (inl done) =
    subst (λ (a : HostAnswer). RespondsWith trees (request.Store tree leaf records) a trees) (sym done) (accepted.1, refl)
responds_accepted trees (OfHost (request.Store tree leaf records)) given accepted (inr full) =
    subst (λ (a : HostAnswer). RespondsWith trees (request.Store tree leaf records) a trees) (sym full) (OutOfMemory, refl, inr (accepted.1, refl), refl)
responds_accepted trees (OfHost (request.Put tree node bytes)) given accepted (inl done) =
    subst (λ (a : HostAnswer). RespondsWith trees (request.Put tree node bytes) a trees) (sym done) (accepted.1, refl)
responds_accepted trees (OfHost (request.Put tree node bytes)) given accepted (inr full) =
    subst (λ (a : HostAnswer). RespondsWith trees (request.Put tree node bytes) a trees) (sym full) (OutOfMemory, refl, inr (accepted.1, refl), refl)
responds_accepted trees (OfLevels (StoreLevels tree first leaf records)) given accepted (inl done) =
    (subst (λ (a : HostAnswer). RespondsToLevels trees (StoreLevels tree first leaf records) a) (sym done) accepted.1, refl)
responds_accepted trees (OfLevels (StoreLevels tree first leaf records)) given accepted (inr full) =
    (subst (λ (a : HostAnswer). RespondsToLevels trees (StoreLevels tree first leaf records) a) (sym full) (OutOfMemory, refl, inr (accepted.1, refl)), refl)

in_turn_answered : (trees : Trees) (one two : RecordsOf) (messages : List Message) (given : HostAnswer) → All (IsAcceptedChange trees) messages → IsDoneOrFull given → AnswersInTurn trees one messages given two
    → AreAnswered trees one (map (with_answer given) messages) trees two
in_turn_answered trees one two [] given accepted either said = (refl, said)
in_turn_answered trees one two (message ∷ rest) given accepted either said = (
  trees,
  said.0,
  responds_accepted trees message given (accepted 0 message (omega arith)) either,
  said.1,
  in_turn_answered trees said.0 two rest given (λ k d h. accepted (suc k) d (omega arith)) either said.2,
)

same_bodies : (messages : List Message) (given : HostAnswer) → map answered_body (map (with_answer given) messages) ≡ map (λ (body : List ℕ). (body, given)) (map body_of messages)
same_bodies [] given = refl
same_bodies (message ∷ rest) given = ap (λ (all : List Answered). (body_of message, given) ∷ all) (same_bodies rest given)

module _ {F : Type 0} (model : FileModel F) where
  -- one group
  record StepsOn (group : Group) (old mid : StoreValue F) : Type 0 where
    sound : mid.file.has_stopped ≡ false → IsSound model mid
    exchanges : List Exchange
    are : map answered_body exchanges ≡ answered_bodies group
    answered : mid.file.has_stopped ≡ false → AreAnswered old.trees (records_of model old) exchanges mid.trees (records_of model mid)
    moments : LeavesOnly model old.file.files mid.file.files
        (Finds (model.seen old.file.files) (λ c. MayHold old.trees (sure_records model old) (records_of model old) c ⊎ IsGroupCarriedOut old.trees (records_of model old) group c))

  -- what a store has done about one message, whichever it is
  message_done : (message : Message) (body : List ℕ) (given : HostAnswer) (old mid : StoreValue F) → HasItsNumbers message → body ≡ body_of message → AnswersBody model body given old mid
      → model.is_honest mid.file.files → IsSound model old → Responds old.trees message given mid.trees × ServesMessage model message given old mid
  message_done (OfHost message) body given old mid numbers is said honest s =
      let call = said.request message numbers is in
      let serves = call.serves honest s in
      (call.responds, record { sound = serves.sound; records = serves.records; any_moment = serves.any_moment })
  message_done (OfLevels message) body given old mid numbers is said honest s =
      let call = said.levels message numbers is in
      ((call.responds, call.trees), as_levels model message given old mid (call.serves honest s))

  step_alone : (group : Group) (old mid : StoreValue F) (body : List ℕ) → group.bodies ≡ body ∷ [] → AnswersBody model body group.given old mid → IsRequest body
      → model.is_honest mid.file.files → IsSound model old → StepsOn group old mid
  step_alone group old mid body one said is honest s =
      let message : Message = is.0 in
      let done = message_done message body group.given old mid is.1 is.2 said honest s in
      let serves = done.1 in
      record {
        sound = serves.sound;
        exchanges = with_answer group.given message ∷ [];
        are = ap (λ (b : List ℕ). (b, group.given) ∷ []) (sym is.2) ∙ ap (map (λ (b : List ℕ). (b, group.given))) (sym one);
        answered = λ running. (mid.trees, records_of model mid, done.0, serves.records running, (refl, λ tree node. refl));
        moments = found_leads model old.file.files mid.file.files
            (λ c. MayHold old.trees (sure_records model old) (records_of model old) c ⊎ OnlyIf (MayBeFound group.given mid.file.has_stopped) (IsDoneIn old.trees (records_of model old) message c))
            (λ c. MayHold old.trees (sure_records model old) (records_of model old) c ⊎ IsGroupCarriedOut old.trees (records_of model old) group c) serves.any_moment
            (λ c either. ⊎_elim (λ may. inl may) (λ out. inr (inl (message, one ∙ ap (λ (b : List ℕ). b ∷ []) is.2, out.holds))) either);
      }

  step_together : (group : Group) (old mid : StoreValue F) → AnswersGroup model group.bodies group.given old mid
      → model.is_honest mid.file.files → IsSound model old → StepsOn group old mid
  step_together group old mid said honest s =
      let serves = said.serves honest s in
      record {
        sound = serves.sound;
        exchanges = map (with_answer group.given) said.messages;
        are = same_bodies said.messages group.given ∙ ap (map (λ (b : List ℕ). (b, group.given))) said.are;
        answered = λ running. subst (λ (t : Trees). AreAnswered old.trees (records_of model old) (map (with_answer group.given) said.messages) t (records_of model mid)) (sym said.trees)
            (in_turn_answered old.trees (records_of model old) (records_of model mid) said.messages group.given said.accepted said.either (serves.records running));
        moments = found_leads model old.file.files mid.file.files
            (λ c. MayHold old.trees (sure_records model old) (records_of model old) c ⊎ OnlyIf (MayBeFound group.given mid.file.has_stopped) (AreCarriedOut old.trees (records_of model old) said.messages c))
            (λ c. MayHold old.trees (sure_records model old) (records_of model old) c ⊎ IsGroupCarriedOut old.trees (records_of model old) group c) serves.any_moment
            (λ c either. ⊎_elim (λ may. inl may) (λ out. inr (inr (said.messages, said.are, out.holds))) either);
      }

  step_on : (group : Group) (old mid : StoreValue F) → AnswersFirst model group.bodies group.given old mid → All IsRequest group.bodies
      → model.is_honest mid.file.files → IsSound model old → StepsOn group old mid
  step_on group old mid (inl alone) are honest s =
      let first : All IsRequest (alone.0 ∷ []) = subst (All IsRequest) alone.1 are in
      step_alone group old mid alone.0 alone.1 alone.2 (first 0 alone.0 (omega arith)) honest s
  step_on group old mid (inr together) are honest s = step_together group old mid together honest s

  -- a store whose file has stopped changes nothing more
  stopped_stays : (groups : List Group) (old new : StoreValue F) → AnswersGroups model groups old new → old.file.has_stopped ≡ true → new.file ≡ old.file
  stopped_stays [] old new said stopped = ap (λ (v : StoreValue F). v.file) said
  stopped_stays (group ∷ rest) old new said stopped =
      let same = said.2.stays stopped in
      stopped_stays rest said.0 new said.3 (ap (λ (v : FileValue F). v.has_stopped) same ∙ stopped) ∙ same

  pub honest_before : (groups : List Group) (old new : StoreValue F) → AnswersGroups model groups old new → model.is_honest new.file.files → model.is_honest old.file.files
  honest_before [] old new said honest = subst (λ (v : StoreValue F). model.is_honest v.file.files) said honest
  honest_before (group ∷ rest) old new said honest = said.2.after.honest (honest_before rest said.0 new said.3 honest)

  -- a store that has answered requests and goes on is sound
  pub sound_after : (groups : List Group) (old new : StoreValue F) → AreRequests groups → AnswersGroups model groups old new → model.is_honest new.file.files → IsSound model old → new.file.has_stopped ≡ false
      → IsSound model new
  sound_after [] old new are said honest s running = subst (IsSound model) (sym said) s
  sound_after (group ∷ rest) old new are said honest s running =
      let mid : StoreValue F = said.0 in
      let step : StepsOn group old mid = step_on group old mid said.1 (are 0 group (omega arith)) (honest_before rest mid new said.3 honest) s in
      elim (cases_Bool mid.file.has_stopped) [
        | inl stopped ↦ (
            let still : new.file.has_stopped ≡ true = ap (λ (v : FileValue F). v.has_stopped) (stopped_stays rest mid new said.3 stopped) ∙ stopped in
            absurd (true≢false (sym still ∙ running)))
        | inr going ↦ sound_after rest mid new (λ k d h. are (suc k) d (omega arith)) said.3 honest (step.sound going) running
      ]

  nothing_yet : (old : StoreValue F) → AreInTurn [] old.trees (records_of model old) old.trees (records_of model old)
  nothing_yet old = record { exchanges = []; are = refl; answered = (refl, λ tree node. refl) }

  -- a group, and then the others
  one_more : (group : Group) (rest : List Group) (old mid new : StoreValue F) → StepsOn group old mid → mid.file.has_stopped ≡ false
      → AreInTurn rest mid.trees (records_of model mid) new.trees (records_of model new) → AreInTurn (group ∷ rest) old.trees (records_of model old) new.trees (records_of model new)
  one_more group rest old mid new step running then = record {
    exchanges = step.exchanges ++ then.exchanges;
    are = map-append answered_body step.exchanges then.exchanges
        ∙ ap (λ (bs : List Answered). bs ++ map answered_body then.exchanges) step.are ∙ ap (λ (bs : List Answered). answered_bodies group ++ bs) then.are;
    answered = answered_then old.trees mid.trees new.trees (records_of model old) (records_of model mid) (records_of model new) step.exchanges then.exchanges (step.answered running) then.answered;
  }

  module _ (only_now : (v : F) (c : Contents) → model.left_since v (model.moment v) c → model.may_leave v c)
      (counts_now : (v : F) (t : ℕ) (c : Contents) → t ≤ model.moment v → model.may_leave v c → model.left_since v t c) (whole : (v : F) → model.may_leave v (model.seen v)) where
    begins_here : (groups : List Group) (old : StoreValue F) (c : Content) → MayHold old.trees (sure_records model old) (records_of model old) c ⊎ IsFirstCarriedOut old.trees (records_of model old) groups c
        → FoundAtBorder model groups old c
    begins_here groups old c found = record { first = []; rest = groups; are = refl; at = old; answered = refl; in_turn = nothing_yet old; found = found }

    goes_further : (group : Group) (rest : List Group) (old mid : StoreValue F) → AnswersFirst model group.bodies group.given old mid → Runs model old.file mid.file
        → StepsOn group old mid → mid.file.has_stopped ≡ false → (c : Content) → FoundAtBorder model rest mid c → FoundAtBorder model (group ∷ rest) old c
    goes_further group rest old mid said runs step running c found = record {
      first = group ∷ found.first;
      rest = found.rest;
      are = ap (λ (gs : List Group). group ∷ gs) found.are;
      at = found.at;
      answered = (mid, said, runs, found.answered);
      in_turn = one_more group found.first old mid found.at step running found.in_turn;
      found = found.found;
    }

    pub in_turn : (groups : List Group) (old new : StoreValue F) → AreRequests groups → AnswersGroups model groups old new → model.is_honest new.file.files → IsSound model old
        → GroupsInTurn model groups old new
    in_turn [] old new are said honest s = record {
      in_turn = λ running. subst (λ (v : StoreValue F). AreInTurn [] old.trees (records_of model old) v.trees (records_of model v)) (sym said) (nothing_yet old);
      any_moment = subst (λ (v : StoreValue F). LeavesOnly model old.file.files v.file.files (Finds (model.seen old.file.files) (FoundAtBorder model [] old))) (sym said)
          (started model old.file.files (Finds (model.seen old.file.files) (FoundAtBorder model [] old))
          (λ c left. found_more (model.seen old.file.files) c (Holds old.trees (sure_records model old)) (FoundAtBorder model [] old) (λ r holds. begins_here [] old r (inl (inl holds)))
          (found_sure model old s c (only_now old.file.files c left))));
    }
    in_turn (group ∷ rest) old new are said honest s =
        let mid : StoreValue F = said.0 in
        let step : StepsOn group old mid = step_on group old mid said.1 (are 0 group (omega arith)) (honest_before rest mid new said.3 honest) s in
        let Q : Content → Type 0 = λ c. MayHold old.trees (sure_records model old) (records_of model old) c ⊎ IsGroupCarriedOut old.trees (records_of model old) group c in
        let begun = found_leads model old.file.files mid.file.files Q (FoundAtBorder model (group ∷ rest) old) step.moments (λ c found. begins_here (group ∷ rest) old c found) in
        elim (cases_Bool mid.file.has_stopped) [
          | inl stopped ↦ (
              let same = stopped_stays rest mid new said.3 stopped in
              let still : new.file.has_stopped ≡ true = ap (λ (v : FileValue F). v.has_stopped) same ∙ stopped in
              record {
                in_turn = λ running. absurd (true≢false (sym still ∙ running));
                any_moment = subst (λ (v : FileValue F). LeavesOnly model old.file.files v.files (Finds (model.seen old.file.files) (FoundAtBorder model (group ∷ rest) old))) (sym same) begun;
              })
          | inr running ↦ (
              let then = in_turn rest mid new (λ k d h. are (suc k) d (omega arith)) said.3 honest (step.sound running) in
              record {
                in_turn = λ still. one_more group rest old mid new step running (then.in_turn still);
                any_moment = found_then model old.file.files mid.file.files new.file.files (FoundAtBorder model (group ∷ rest) old) (FoundAtBorder model rest mid) (FoundAtBorder model (group ∷ rest) old)
                    (same_front model old.file.files mid.file.files (FoundAtBorder model (group ∷ rest) old) begun (counts_now mid.file.files) (whole mid.file.files)) begun then.any_moment
                    (λ c found. found) (λ c found. goes_further group rest old mid said.1 said.2 step running c found);
              })
        ]
