-- Two requests that a store answers together.
use Rattle.std.proofs.Common.{◌≡◌, inl, inr, ℕ, ◌^◌, ◌<◌, List, [], ◌∷◌, ◌++◌, length, take, drop, get_or, refl, sym, ◌∙◌, ap, subst, arith}
use Rattle.std.specs.Prelude.{All, map}
use Rattle.std.specs.Int.{w32, from_be_bytes, to_be_bytes}
use Rattle.std.proofs.lemmas.List.{drop_at, take_at}
use Rattle.std.proofs.lemmas.List.Elements.{All-cons, All-nil}
use Rattle.std.proofs.lemmas.Nat.{from_be_bytes-to_be_bytes_4}
use Rattle.oram_layout.specs.Records.{AreKept, Records as RecordsOf, records_in}
use Rattle.oram_layout.specs.Trees.{Trees}
use Rattle.oram_levels.specs.Messages.{FetchLevels, StoreLevels}
use Rattle.oram_redo.specs.FilePair.{Contents, FileModel}
use Rattle.oram_store.specs.FirstAnswers.{AnswersFirst}
use Rattle.oram_store.specs.GroupRuns.{AnswersGroups, AreRequests, Group, IsRequest, both_done}
use Rattle.oram_store.specs.Groups.{AnswersGroup, AnswersInTurn, AreCarriedOut, IsAcceptedChange}
use Rattle.oram_store.specs.KeptRecords.{Holds, IsSound, StoreValue, records_of, sure_records}
use Rattle.oram_store.specs.Laws.{no_records}
use Rattle.oram_store.specs.Messages.{Message, OfHost, OfLevels, body_of}
use Rattle.oram_store.specs.RecordFile.{Finds, Runs}
use Rattle.oram_wire.specs.HostBodies.{HasNumbers, IsAnswer}
use Rattle.oram_wire.specs.HostMessages.{answer_body, done_answer, request_body}
use Rattle.oram_wire.specs.declared.host_messages.HostAnswer.{HostAnswer}
use Rattle.oram_wire.specs.declared.host_messages.HostAnswer.TheVariants as answer
use Rattle.oram_wire.specs.declared.host_messages.HostRequest.{HostRequest}
use Rattle.oram_wire.specs.declared.host_messages.HostRequest.TheVariants as request
use Rattle.oram_store.proofs.Crashes.{found_more}
use Rattle.oram_store.proofs.Lives.{found_sure, sure_is}
use Rattle.oram_store.proofs.Served.{kept_then}
use Rattle.oram_store.proofs.Together.{in_turn_keeps}

-- the only answer with these bytes
pub is_done : (given : HostAnswer) → IsAnswer given → answer_body given ≡ done_answer → given ≡ answer.Done
is_done (answer.Payload bytes) is same = absurd (omega (arith, is, ap length same))
is_done answer.Done is same = refl
is_done (answer.Refused code) is same = absurd (omega (arith, ap (λ (l : List ℕ). get_or l 0 0) same))

-- the fields of a STORE or a PUT, by its body
abbrev fields_body : ℕ → ℕ → ℕ → List ℕ → List ℕ
fields_body op tree place bytes = (op ∷ tree ∷ []) ++ to_be_bytes w32 place ++ bytes

place_in : (op tree place : ℕ) (bytes : List ℕ) → place < 2 ^ 32 → from_be_bytes w32 (take 4 (drop 2 (fields_body op tree place bytes))) ≡ place
place_in op tree place bytes fits = ap (from_be_bytes w32) (take_at (to_be_bytes w32 place) bytes 4 refl) ∙ from_be_bytes-to_be_bytes_4 place fits

bytes_behind : (op tree place : ℕ) (bytes : List ℕ) → drop 4 (drop 2 (fields_body op tree place bytes)) ≡ bytes
bytes_behind op tree place bytes = drop_at (to_be_bytes w32 place) bytes 4 refl

module _ (op tree tree' place place' : ℕ) (bytes bytes' : List ℕ) (fits : place < 2 ^ 32) (fits' : place' < 2 ^ 32) (same : fields_body op tree place bytes ≡ fields_body op tree' place' bytes') where
  one_tree : tree ≡ tree'
  one_tree = ap (λ (l : List ℕ). get_or l 1 0) same

  one_place : place ≡ place'
  one_place = sym (place_in op tree place bytes fits) ∙ ap (λ (l : List ℕ). from_be_bytes w32 (take 4 (drop 2 l))) same ∙ place_in op tree' place' bytes' fits'

  some_bytes : bytes ≡ bytes'
  some_bytes = sym (bytes_behind op tree place bytes) ∙ ap (λ (l : List ℕ). drop 4 (drop 2 l)) same ∙ bytes_behind op tree' place' bytes'

  one_message : (make : ℕ → ℕ → List ℕ → HostRequest) → make tree place bytes ≡ make tree' place' bytes'
  one_message make = ap (λ (t : ℕ). make t place bytes) one_tree ∙ ap (λ (p : ℕ). make tree' p bytes) one_place ∙ ap (λ (b : List ℕ). make tree' place' b) some_bytes

other_op : (one two : HostRequest) (m n : ℕ) → get_or (request_body one) 0 0 ≡ m → get_or (request_body two) 0 0 ≡ n → request_body one ≡ request_body two → (m ≡ n → ⊥) → one ≡ two
other_op one two m n is_m is_n same differ = absurd (differ (sym is_m ∙ ap (λ (l : List ℕ). get_or l 0 0) same ∙ is_n))

-- a body is that of one request only
same_request : (trees : Trees) (one two : HostRequest) → IsAcceptedChange trees (OfHost one) → HasNumbers two → request_body one ≡ request_body two → one ≡ two
same_request trees (request.Fetch tree leaf) two accepted fits same = absurd accepted
same_request trees (request.Shape tree depth record_len) two accepted fits same = absurd accepted
same_request trees (request.Store tree leaf records) (request.Store tree' leaf' records') accepted fits same = one_message 2 tree tree' leaf leaf' records records' accepted.0 fits same request.Store
same_request trees (request.Put tree node bytes) (request.Put tree' node' bytes') accepted fits same = one_message 3 tree tree' node node' bytes bytes' accepted.0 fits same request.Put
same_request trees (request.Store tree leaf records) (request.Fetch tree' leaf') accepted fits same = other_op (request.Store tree leaf records) (request.Fetch tree' leaf') 2 1 refl refl same (λ e. omega (arith, e))
same_request trees (request.Store tree leaf records) (request.Put tree' node' bytes') accepted fits same = other_op (request.Store tree leaf records) (request.Put tree' node' bytes') 2 3 refl refl same (λ e. omega (arith, e))
same_request trees (request.Store tree leaf records) (request.Shape tree' depth' len') accepted fits same = other_op (request.Store tree leaf records) (request.Shape tree' depth' len') 2 4 refl refl same (λ e. omega (arith, e))
same_request trees (request.Put tree node bytes) (request.Fetch tree' leaf') accepted fits same = other_op (request.Put tree node bytes) (request.Fetch tree' leaf') 3 1 refl refl same (λ e. omega (arith, e))
same_request trees (request.Put tree node bytes) (request.Store tree' leaf' records') accepted fits same = other_op (request.Put tree node bytes) (request.Store tree' leaf' records') 3 2 refl refl same (λ e. omega (arith, e))
same_request trees (request.Put tree node bytes) (request.Shape tree' depth' len') accepted fits same = other_op (request.Put tree node bytes) (request.Shape tree' depth' len') 3 4 refl refl same (λ e. omega (arith, e))

-- no STORE of levels has the body of one of the four requests
not_seven : (two : HostRequest) (body : List ℕ) → get_or body 0 0 ≡ 7 → body ≡ request_body two → ⊥
not_seven (request.Fetch tree leaf) body seven same = omega (arith, seven, ap (λ (l : List ℕ). get_or l 0 0) same)
not_seven (request.Store tree leaf records) body seven same = omega (arith, seven, ap (λ (l : List ℕ). get_or l 0 0) same)
not_seven (request.Put tree node bytes) body seven same = omega (arith, seven, ap (λ (l : List ℕ). get_or l 0 0) same)
not_seven (request.Shape tree depth record_len) body seven same = omega (arith, seven, ap (λ (l : List ℕ). get_or l 0 0) same)

same_message : (trees : Trees) (one : Message) (two : HostRequest) → IsAcceptedChange trees one → HasNumbers two → body_of one ≡ request_body two → one ≡ OfHost two
same_message trees (OfHost one) two accepted fits same = ap OfHost (same_request trees one two accepted fits same)
same_message trees (OfLevels (FetchLevels tree first last leaf)) two accepted fits same = absurd accepted
same_message trees (OfLevels (StoreLevels tree first leaf records)) two accepted fits same = absurd (not_seven two (body_of (OfLevels (StoreLevels tree first leaf records))) refl same)

-- two messages with the bodies of two others
module _ (trees : Trees) (first second : HostRequest) (fits : HasNumbers first) (fits_too : HasNumbers second) where
  pub same_messages : (messages : List Message) → All (IsAcceptedChange trees) messages → map body_of messages ≡ request_body first ∷ request_body second ∷ [] → messages ≡ OfHost first ∷ OfHost second ∷ []
  same_messages [] accepted are = absurd cc
  same_messages (one ∷ []) accepted are = absurd (omega (arith, ap length are))
  same_messages (one ∷ two ∷ three ∷ rest) accepted are = absurd (omega (arith, ap length are))
  same_messages (one ∷ two ∷ []) accepted are =
      let here : one ≡ OfHost first = same_message trees one first (accepted 0 one (omega arith)) fits (ap (λ (l : List (List ℕ)). get_or l 0 []) are) in
      let there : two ≡ OfHost second = same_message trees two second (accepted 1 two (omega arith)) fits_too (ap (λ (l : List (List ℕ)). get_or l 1 []) are) in
      ap (λ (m : Message). m ∷ two ∷ []) here ∙ ap (λ (m : Message). OfHost first ∷ m ∷ []) there

-- answers stay right if the records after them are the same
in_turn_kept : (trees : Trees) (one two three : RecordsOf) (messages : List Message) → AreKept two three → AnswersInTurn trees one messages answer.Done two → AnswersInTurn trees one messages answer.Done three
in_turn_kept trees one two three [] same said = kept_then one two three said same
in_turn_kept trees one two three (message ∷ rest) same said = (said.0, said.1, in_turn_kept trees said.0 two three rest same said.2)

module _ {F : Type 0} (model : FileModel F) (first second : HostRequest) (fits : HasNumbers first) (fits_too : HasNumbers second) (old new : StoreValue F) where
  -- two messages were answered, and the answer has the bytes of `Done`
  pub both_answered : (one two : List ℕ) (count : ℕ) (bytes : List ℕ) (given : HostAnswer) → one ≡ request_body first → two ≡ request_body second → count ≡ 2 → bytes ≡ done_answer → IsAnswer given
      → bytes ≡ answer_body given → AnswersFirst model (take count (one ∷ two ∷ [])) given old new → AnswersFirst model (request_body first ∷ request_body second ∷ []) answer.Done old new
  both_answered one two count bytes given is is_too both done answers said_bytes said =
      subst (λ (a : HostAnswer). AnswersFirst model (request_body first ∷ request_body second ∷ []) a old new) (is_done given answers (sym said_bytes ∙ done))
      (subst (λ (bs : List (List ℕ)). AnswersFirst model bs given old new)
      (ap (λ (n : ℕ). take n (one ∷ two ∷ [])) both ∙ ap (λ (b : List ℕ). b ∷ two ∷ []) is ∙ ap (λ (b : List ℕ). request_body first ∷ b ∷ []) is_too) said)

  -- two bodies aren't one
  pub as_group : (given : HostAnswer) → AnswersFirst model (request_body first ∷ request_body second ∷ []) given old new → AnswersGroup model (request_body first ∷ request_body second ∷ []) given old new
  as_group given (inl alone) = absurd (omega (arith, ap length alone.1))
  as_group given (inr together) = together

  pub are_requests : AreRequests (both_done first second)
  are_requests =
      All-cons (λ (group : Group). All IsRequest group.bodies) (record { bodies = request_body first ∷ request_body second ∷ []; given = answer.Done }) []
      (All-cons IsRequest (request_body first) (request_body second ∷ []) (OfHost first, fits, refl) (All-cons IsRequest (request_body second) [] (OfHost second, fits_too, refl) (All-nil IsRequest)))
      (All-nil (λ (group : Group). All IsRequest group.bodies))

  pub is_answered : AnswersFirst model (request_body first ∷ request_body second ∷ []) answer.Done old new → Runs model old.file new.file → AnswersGroups model (both_done first second) old new
  is_answered said runs = (new, said, runs, refl)

  pub both_found : AnswersGroup model (request_body first ∷ request_body second ∷ []) answer.Done old new → model.is_honest new.file.files → IsSound model old → AreKept no_records (records_of model old)
      → (c : Contents) → model.may_leave new.file.files c → Finds (model.seen new.file.files) (AreCarriedOut new.trees no_records (OfHost first ∷ OfHost second ∷ [])) c
  both_found said honest sound blank c now =
      let serves = said.serves honest sound in
      let running = said.goes_on tt in
      let are : said.messages ≡ OfHost first ∷ OfHost second ∷ [] = same_messages old.trees first second fits fits_too said.messages said.accepted said.are in
      let both : AnswersInTurn new.trees (records_of model old) (OfHost first ∷ OfHost second ∷ []) answer.Done (records_of model new) =
      subst (λ (t : Trees). AnswersInTurn t (records_of model old) (OfHost first ∷ OfHost second ∷ []) answer.Done (records_of model new)) (sym said.trees)
      (subst (λ (ms : List Message). AnswersInTurn old.trees (records_of model old) ms answer.Done (records_of model new)) are (serves.records running)) in
      let begun = in_turn_keeps new.trees no_records (records_of model old) (records_of model new) (OfHost first ∷ OfHost second ∷ []) answer.Done blank both in
      found_more (model.seen new.file.files) c (Holds new.trees (sure_records model new)) (AreCarriedOut new.trees no_records (OfHost first ∷ OfHost second ∷ []))
      (λ r holds. (
        holds.file,
        in_turn_kept new.trees no_records (records_of model new) (records_in new.trees r) (OfHost first ∷ OfHost second ∷ [])
            (kept_then (records_of model new) (sure_records model new) (records_in new.trees r) (sure_is model new (said.committed tt)) holds.kept) begun,
      ))
      (found_sure model new (serves.sound running) c now)
