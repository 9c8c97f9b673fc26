-- What a store has that is opened again after a crash.
use Rattle.std.proofs.Common.{◌≡◌, ◌⊎◌, inl, inr, false, List, [], ◌∷◌, ◌++◌, refl, sym, ◌∙◌, ap, subst, append_assoc}
use Rattle.std.specs.Prelude.{map}
use Rattle.std.specs.List.{flat_map}
use Rattle.std.proofs.lemmas.List.{map-append}
use Rattle.std.proofs.lemmas.List.Concat.{flat_map-append}
use Rattle.oram_levels.specs.Messages.{FetchLevels, StoreLevels}
use Rattle.oram_redo.specs.Content.{Content}
use Rattle.oram_redo.specs.FilePair.{Contents, FileModel}
use Rattle.oram_layout.specs.BucketFile.{IsBucketFile}
use Rattle.oram_layout.specs.Records.{Records as RecordsOf, records_in}
use Rattle.oram_layout.specs.Trees.{Trees}
use Rattle.oram_store.specs.Crashes.{MayHold}
use Rattle.oram_store.specs.GroupRuns.{Answered, AnswersGroups, AreInTurn, FoundAtBorder, Group, GroupsInTurn, IsFirstCarriedOut, answered_bodies, answered_body}
use Rattle.oram_store.specs.KeptRecords.{StoreValue, records_of, sure_records}
use Rattle.oram_store.specs.Messages.{IsDoneIn, Message, OfHost, OfLevels}
use Rattle.oram_store.specs.RecordFile.{Finds}
use Rattle.oram_store.specs.Reopened.{IsFoundAgain, IsOpenedOver}
use Rattle.oram_wire.specs.declared.host_messages.HostRequest.TheVariants as request
use Rattle.oram_store.proofs.GroupRuns.{answered_then}

-- a content that was found is that of a bucket file
some_file : (trees : Trees) (records : RecordsOf) (message : Message) (c : Content) → IsDoneIn trees records message c → (t : Trees) × IsBucketFile t c
some_file trees records (OfHost (request.Fetch tree leaf)) c done = (trees, done.file)
some_file trees records (OfHost (request.Store tree leaf bytes)) c done = (trees, done.0)
some_file trees records (OfHost (request.Put tree node bytes)) c done = (trees, done.0)
some_file trees records (OfHost (request.Shape tree depth len)) c done = (done.0, done.2.file)
some_file trees records (OfLevels (FetchLevels tree first last leaf)) c done = (trees, done.file)
some_file trees records (OfLevels (StoreLevels tree first leaf bytes)) c done = (trees, done.0)

first_file : (trees : Trees) (records : RecordsOf) (groups : List Group) (c : Content) → IsFirstCarriedOut trees records groups c → (t : Trees) × IsBucketFile t c
first_file trees records [] c done = absurd done
first_file trees records (group ∷ rest) c (inl alone) = some_file trees records alone.0 c alone.2
first_file trees records (group ∷ rest) c (inr together) = (trees, together.2.0)

found_file : (trees : Trees) (sure all : RecordsOf) (groups : List Group) (c : Content) → MayHold trees sure all c ⊎ IsFirstCarriedOut trees all groups c → (t : Trees) × IsBucketFile t c
found_file trees sure all groups c (inl (inl holds)) = (trees, holds.file)
found_file trees sure all groups c (inl (inr holds)) = (trees, holds.file)
found_file trees sure all groups c (inr done) = first_file trees all groups c done

module _ {F : Type 0} (model : FileModel F) where
  -- some groups, and then others
  groups_then : (first more : List Group) (old at new : StoreValue F) → AnswersGroups model first old at → AnswersGroups model more at new → AnswersGroups model (first ++ more) old new
  groups_then [] more old at new said then = subst (λ (v : StoreValue F). AnswersGroups model more v new) said then
  groups_then (group ∷ rest) more old at new said then = (said.0, said.1, said.2, groups_then rest more said.0 at new said.3 then)

  turns_then : (first more : List Group) (old at new : StoreValue F) → AreInTurn first old.trees (records_of model old) at.trees (records_of model at)
      → AreInTurn more at.trees (records_of model at) new.trees (records_of model new) → AreInTurn (first ++ more) old.trees (records_of model old) new.trees (records_of model new)
  turns_then first more old at new one two = record {
    exchanges = one.exchanges ++ two.exchanges;
    are = map-append answered_body one.exchanges two.exchanges ∙ ap (λ (l : List Answered). l ++ map answered_body two.exchanges) one.are
        ∙ ap (λ (l : List Answered). flat_map answered_bodies first ++ l) two.are ∙ sym (flat_map-append answered_bodies first more);
    answered = answered_then old.trees at.trees new.trees (records_of model old) (records_of model at) (records_of model new) one.exchanges two.exchanges one.answered two.answered;
  }

  border_then : (first more : List Group) (old at : StoreValue F) (c : Content) → AnswersGroups model first old at → AreInTurn first old.trees (records_of model old) at.trees (records_of model at)
      → FoundAtBorder model more at c → FoundAtBorder model (first ++ more) old c
  border_then first more old at c said turn found = record {
    first = first ++ found.first;
    rest = found.rest;
    are = append_assoc first found.first found.rest ∙ ap (λ (l : List Group). first ++ l) found.are;
    at = found.at;
    answered = groups_then first found.first old at found.at said found.answered;
    in_turn = turns_then first found.first old at found.at turn found.in_turn;
    found = found.found;
  }

  pub found_again : (first more : List Group) (old at new again : StoreValue F) (c : Contents) → AnswersGroups model first old at → at.file.has_stopped ≡ false → GroupsInTurn model first old at → GroupsInTurn model more at new
      → model.left_since new.file.files (model.moment at.file.files) c → IsOpenedOver model c again → IsFoundAgain model first more old again
  unfolding border_then
  found_again first more old at new again c said running before after left opened =
      let here : Finds (model.seen at.file.files) (FoundAtBorder model more at) c = after.any_moment.each c left in
      let file = found_file here.are.at.trees (sure_records model here.are.at) (records_of model here.are.at) here.are.rest here.records here.are.found in
      let has = opened file.0 here.records here.stands file.1 in
      record {
        content = here.records;
        found = border_then first more old at here.records said (before.in_turn running) here.are;
        later = here.are.first;
        all_first = refl;
        has = record {
          file = subst (λ (t : Trees). IsBucketFile t here.records) (sym has.0) file.1;
          kept = λ tree node. subst (λ (t : Trees). records_in t here.records tree node ≡ records_of model again tree node) (sym has.0) (sym (has.2 tree node));
        };
        sound = has.1;
      }
