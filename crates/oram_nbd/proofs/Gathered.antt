-- Requests that were carried out together, and their replies.
use Rattle.std.proofs.Common.{◌≡◌, ◌⊎◌, inl, inr, Bool, true, false, ℕ, suc, ◌+◌, ◌-◌, ◌*◌, ◌%◌, ◌<◌, ◌≤◌, append_assoc, drop, drop-cons, get_or, length-drop, List, [], ◌∷◌, ◌++◌, All, length, map, Option, None, Some, refl, sym, ap, ◌∙◌, subst, arith, length-append, take, length-take-le}
use Rattle.std.proofs.lemmas.List.{append-nil, drop_all, length-map, map-append, take-append-drop, take-append-le, take_all, take_at}
use Rattle.std.proofs.lemmas.Bool.{cases_lt}
use Rattle.std.proofs.Math.Seq.{take-append-add}
use Rattle.std.proofs.lemmas.Grind.{flat_map-append}
use Rattle.std.specs.Io.KnownBytes.{Appends, Consumes}
use Rattle.std.proofs.KnownBytes.{Appends-trans, Consumes-nil, Consumes-trans}
use Rattle.std.proofs.lemmas.List.Elements.{All-append, All-cons, All-head, All-nil, All-tail}
use Rattle.oram_nbd.specs.Accesses.{AsksFor, Range, calls_of, range_of, request_calls}
use Rattle.oram_nbd.specs.Batches.{IsUncalled, answers_text, refusals_text, reply_if, reply_of, AreCollected, AreServedBy, EndsBy, HasRepliedToAll, HasBegun, HasGathered, IsWithoutMemory, LeftBy, DoesRequest, DoesIfAccepted}
use Rattle.oram_nbd.specs.Beside.{GoesOn, Arrays, HasArrays}
use Rattle.oram_nbd.specs.Bytes.{bytes_at}
use Rattle.oram_nbd.specs.Calls.{SavesAll, SavesPart}
use Rattle.oram_nbd.specs.DeviceKind.{DeviceKind}
use Rattle.oram_nbd.specs.Streams.{ComesShort, IsBegunText}
use Rattle.oram_nbd.specs.Transmission.{HasServedRequests, IsBehind, IsCutOff, ServesBatch}
use Rattle.oram_nbd.specs.declared.batches.Close.{Close}
use Rattle.oram_nbd.specs.declared.batches.Close.TheVariants.{Waits, NoRoom, Leaves, Breaks}
use Rattle.oram_nbd.specs.declared.faults.NbdFault.{NbdFault}
use Rattle.oram_nbd.specs.declared.faults.NbdFault.TheVariants as fault
use Rattle.oram_nbd.specs.declared.requests.Command.{Command}
use Rattle.oram_nbd.specs.declared.requests.Command.TheVariants as command
use Rattle.oram_nbd.specs.Messages.{payload_len, reply_text, request_text, IsRequest, SimpleReply}
use Rattle.oram_nbd.specs.Messages.SimpleReply.{Done, Refused}
use Rattle.oram_nbd.specs.Operations.{all_done, all_given, done_by, given_by, read_len, AreBegun, IsPartOf, IsPlaced, IsWithin, TouchSomeByte}
use Rattle.oram_nbd.specs.Service.{after, array_after_requests, whole_request_of, given, given_len, refusal_of, touched_len, whole_requests_text, replies_text, AreRequestsBegun, RequestsTouchSomeByte, WholeRequest, FailsForGood, IsAnswer, IsWholeRequest, IsLeftIf, IsPartly, IsRefusal, IsReplied, IsReply, IsService, IsAnsweredBy, NeverFails, SaysFailed, SaysFault, TellsFailure, EndsWith, AnsweredRequest}
use Rattle.oram_nbd.specs.declared.faults.NbdError.{NbdError}
use Rattle.oram_nbd.specs.declared.faults.NbdError.TheVariants.{Io, NoMemory, Shutdown}
use Rattle.oram_nbd.specs.declared.operations.Operation.{Operation}
use Rattle.oram_nbd.specs.declared.operations.Operation.TheVariants.{Read}
use Rattle.oram_nbd.specs.declared.requests.Request.{Request}
use Rattle.oram_nbd.proofs.Beside.{at_rest, weaker}
use Rattle.oram_nbd.proofs.Saving.{all_weaker, part_weaker}
use Rattle.oram_nbd.proofs.KeptBatches.{all_done_as_requested, done_as_requested, ranges_as_requested, served_one, some_touches}
use Rattle.oram_nbd.proofs.ListSteps.{length_done, length_part, part_whole}
use Rattle.oram_nbd.proofs.Served.{partly_none, refusal_is_other}

abbrev pub answered_with : WholeRequest → SimpleReply → AnsweredRequest
answered_with a reply = record { request = a.request; payload = a.payload; reply = reply }

-- ---- The operations of a batch

pub all_within : (size : ℕ) (arrived : List WholeRequest) (ops : List Operation) → AreServedBy size arrived ops → All (IsWithin size) ops
all_within size [] [] served = All-nil (IsWithin size)
all_within size [] (op ∷ ops) served = absurd served
all_within size (a ∷ arrived) [] served = absurd served
all_within size (a ∷ arrived) (op ∷ ops) served =
    All-cons (IsWithin size) op ops (served_one size (refusal_of size a.request) a op served.0).0 (all_within size arrived ops served.1)

pub all_placed : (size : ℕ) (arrived : List WholeRequest) (ops : List Operation) → AreServedBy size arrived ops → All IsPlaced ops
all_placed size [] [] served = All-nil IsPlaced
all_placed size [] (op ∷ ops) served = absurd served
all_placed size (a ∷ arrived) [] served = absurd served
all_placed size (a ∷ arrived) (op ∷ ops) served =
    All-cons IsPlaced op ops (served_one size (refusal_of size a.request) a op served.0).1 (all_placed size arrived ops served.1)

pub as_many : (size : ℕ) (arrived : List WholeRequest) (ops : List Operation) → AreServedBy size arrived ops → length ops ≡ length arrived
as_many size [] [] served = refl
as_many size [] (op ∷ ops) served = absurd served
as_many size (a ∷ arrived) [] served = absurd served
as_many size (a ∷ arrived) (op ∷ ops) served = ap (λ (n : ℕ). suc n) (as_many size arrived ops served.1)

pub served_by_more : (size : ℕ) (arrived : List WholeRequest) (ops : List Operation) (a : WholeRequest) (op : Operation) → AreServedBy size arrived ops → DoesIfAccepted (refusal_of size a.request) size a op
    → AreServedBy size (arrived ++ a ∷ []) (ops ++ op ∷ [])
served_by_more size [] [] a op served one = (one, tt)
served_by_more size [] (x ∷ ops) a op served one = absurd served
served_by_more size (x ∷ arrived) [] a op served one = absurd served
served_by_more size (x ∷ arrived) (y ∷ ops) a op served one = (served.0, served_by_more size arrived ops a op served.1 one)

-- ---- One request and its reply

-- the operation was done
answer_done : (size : ℕ) (a : WholeRequest) (op : Operation) (o : Option NbdError) (bytes : List ℕ) → refusal_of size a.request ≡ o → DoesIfAccepted o size a op → length bytes ≡ size
    → IsAnswer bytes a.request a.payload (reply_if o (Done (given_by op bytes))) (done_by op bytes)
answer_done size a op (Some e) bytes is nothing long =
    inl (ap (λ (n : ℕ). refusal_of n a.request) long ∙ is, ap (λ (x : Operation). done_by x bytes) nothing)
answer_done size a op None bytes is s long = (ap (λ (n : ℕ). refusal_of n a.request) long ∙ is, s.gives bytes, s.does bytes)

-- it is refused, and was done in part
answer_part : (size : ℕ) (a : WholeRequest) (op : Operation) (o : Option NbdError) (e : NbdError) (bytes later : List ℕ) → (e ≡ Io) ⊎ ((e ≡ NoMemory) ⊎ (e ≡ Shutdown)) → refusal_of size a.request ≡ o → DoesIfAccepted o size a op
    → length bytes ≡ size → IsPartOf op bytes later → IsAnswer bytes a.request a.payload (reply_if o (Refused e)) later
answer_part size a op (Some f) e bytes later why is nothing long part =
    inl (ap (λ (n : ℕ). refusal_of n a.request) long ∙ is, subst (λ (x : Operation). IsPartOf x bytes later) nothing part)
answer_part size a op None e bytes later why is s long part =
    inr (ap (λ (n : ℕ). refusal_of n a.request) long ∙ is, why, s.in_part bytes later part)

-- it is refused, and nothing of it was done
answer_none : (size : ℕ) (a : WholeRequest) (o : Option NbdError) (e : NbdError) (bytes : List ℕ) → (e ≡ Io) ⊎ ((e ≡ NoMemory) ⊎ (e ≡ Shutdown)) → refusal_of size a.request ≡ o → length bytes ≡ size
    → IsAnswer bytes a.request a.payload (reply_if o (Refused e)) bytes
answer_none size a (Some f) e bytes why is long = inl (ap (λ (n : ℕ). refusal_of n a.request) long ∙ is, refl)
answer_none size a None e bytes why is long =
    inr (ap (λ (n : ℕ). refusal_of n a.request) long ∙ is, why, partly_none a.request.command bytes a.request.offset a.request.length a.payload)

answered_by : (a : WholeRequest) (reply : SimpleReply) (old new : List ℕ) → IsWholeRequest a → IsAnswer old a.request a.payload reply new → IsAnsweredBy old (answered_with a reply) new
answered_by a reply old new is answer = record { request = is.request; payload = is.payload; answer = answer }

-- ---- A batch whose operations were all done

abbrev pub answered_requests : ℕ → List WholeRequest → List (List ℕ) → List AnsweredRequest
answered_requests size [] given = []
answered_requests size (a ∷ arrived) [] = []
answered_requests size (a ∷ arrived) (bytes ∷ given) = answered_with a (reply_of size a.request bytes) ∷ answered_requests size arrived given

pub answered_same : (size : ℕ) (arrived : List WholeRequest) (given : List (List ℕ)) → length given ≡ length arrived → map whole_request_of (answered_requests size arrived given) ≡ arrived
answered_same size [] given many = refl
answered_same size (a ∷ arrived) [] many = absurd (omega (arith, many))
answered_same size (a ∷ arrived) (bytes ∷ given) many = ap (λ (l : List WholeRequest). a ∷ l) (answered_same size arrived given (omega (arith, many)))

pub answered_text : (size : ℕ) (arrived : List WholeRequest) (given : List (List ℕ)) → replies_text (answered_requests size arrived given) ≡ answers_text size (map (λ (a : WholeRequest). a.request) arrived) given
answered_text size [] given = refl
answered_text size (a ∷ arrived) [] = refl
answered_text size (a ∷ arrived) (bytes ∷ given) =
    ap (λ (l : List ℕ). reply_text a.request.cookie (reply_of size a.request bytes) ++ l) (answered_text size arrived given)

reply_done : (size : ℕ) (a : WholeRequest) (op : Operation) (o : Option NbdError) (bytes : List ℕ) → refusal_of size a.request ≡ o → DoesIfAccepted o size a op → length bytes ≡ read_len op
    → IsReply size a.request (reply_if o (Done bytes))
reply_done size a op (Some e) bytes is s long = inl is
reply_done size a op None bytes is s long = (is, long ∙ s.long)

pub answered_fit : (size : ℕ) (arrived : List WholeRequest) (ops : List Operation) (given : List (List ℕ)) → All IsWholeRequest arrived → AreServedBy size arrived ops → map length given ≡ map read_len ops
    → All (λ (t : AnsweredRequest). IsReplied size t) (answered_requests size arrived given)
answered_fit size [] ops given are served lens = All-nil (λ (t : AnsweredRequest). IsReplied size t)
answered_fit size (a ∷ arrived) [] given are served lens = absurd served
answered_fit size (a ∷ arrived) (op ∷ ops) [] are served lens = All-nil (λ (t : AnsweredRequest). IsReplied size t)
answered_fit size (a ∷ arrived) (op ∷ ops) (bytes ∷ given) are served lens =
    let is = All-head IsWholeRequest a arrived are in
    let first : length bytes ≡ read_len op = cc in
    let rest : map length given ≡ map read_len ops = cc in
    All-cons (λ (t : AnsweredRequest). IsReplied size t) (answered_with a (reply_of size a.request bytes)) (answered_requests size arrived given)
    (record { request = is.request; payload = is.payload; reply = reply_done size a op (refusal_of size a.request) bytes refl served.0 first })
    (answered_fit size arrived ops given (All-tail IsWholeRequest a arrived are) served.1 rest)

-- no such reply says that the device has failed
never_io : (size : ℕ) (r : Request) (o : Option NbdError) (bytes : List ℕ) → refusal_of size r ≡ o → reply_if o (Done bytes) ≡ Refused Io → ⊥
never_io size r (Some e) bytes is says = refusal_is_other size r e is (let same : e ≡ Io = cc in same)
never_io size r None bytes is says = cc

pub answered_never_fail : (size : ℕ) (arrived : List WholeRequest) (given : List (List ℕ)) → NeverFails (answered_requests size arrived given)
answered_never_fail size [] given = tt
answered_never_fail size (a ∷ arrived) [] = tt
answered_never_fail size (a ∷ arrived) (bytes ∷ given) =
    (never_io size a.request (refusal_of size a.request) bytes refl, answered_never_fail size arrived given)

pub answered_tell_none : (size : ℕ) (arrived : List WholeRequest) (given : List (List ℕ)) → SaysFailed (answered_requests size arrived given) → ⊥
answered_tell_none size [] given none = none
answered_tell_none size (a ∷ arrived) [] none = none
answered_tell_none size (a ∷ arrived) (bytes ∷ given) (inl says) = never_io size a.request (refusal_of size a.request) bytes refl says
answered_tell_none size (a ∷ arrived) (bytes ∷ given) (inr rest) = answered_tell_none size arrived given rest

pub answered_refuse : (size : ℕ) (failed : Type 0) (arrived : List WholeRequest) (given : List (List ℕ)) → (failed → ⊥) → FailsForGood failed (answered_requests size arrived given)
answered_refuse size failed [] given alive = tt
answered_refuse size failed (a ∷ arrived) [] alive = tt
answered_refuse size failed (a ∷ arrived) (bytes ∷ given) alive = (
  λ f. absurd (alive f),
  answered_refuse size (failed ⊎ (reply_of size a.request bytes ≡ Refused Io)) arrived given (λ e. elim e [
    | inl f ↦ alive f
    | inr says ↦ never_io size a.request (refusal_of size a.request) bytes refl says
  ]),
)

-- The device hadn't failed, and all requests that aren't refused for their own sake were carried out.
pub answered_tell : (size : ℕ) (failed failed' : Type 0) (arrived : List WholeRequest) (given : List (List ℕ)) → (failed → ⊥) → All (TellsFailure size failed failed') (answered_requests size arrived given)
answered_tell size failed failed' [] given alive = All-nil (TellsFailure size failed failed')
answered_tell size failed failed' (a ∷ arrived) [] alive = All-nil (TellsFailure size failed failed')
answered_tell size failed failed' (a ∷ arrived) (bytes ∷ given) alive =
    All-cons (TellsFailure size failed failed') (answered_with a (reply_of size a.request bytes)) (answered_requests size arrived given)
    (record { told = λ f none. absurd (alive f); sound = λ says. absurd (never_io size a.request (refusal_of size a.request) bytes refl says) })
    (answered_tell size failed failed' arrived given alive)

done_ends : (o : Option NbdError) (bytes : List ℕ) → o ≡ None → IsRefusal (reply_if o (Done bytes)) → ⊥
done_ends (Some e) bytes none refuses = cc
done_ends None bytes none refuses = refuses

pub answered_end : (size : ℕ) (arrived : List WholeRequest) (given : List (List ℕ)) → All (EndsWith size None) (answered_requests size arrived given)
answered_end size [] given = All-nil (EndsWith size None)
answered_end size (a ∷ arrived) [] = All-nil (EndsWith size None)
answered_end size (a ∷ arrived) (bytes ∷ given) =
    All-cons (EndsWith size None) (answered_with a (reply_of size a.request bytes)) (answered_requests size arrived given) (done_ends (refusal_of size a.request) bytes) (answered_end size arrived given)

pub answered_service : (size : ℕ) (arrived : List WholeRequest) (ops : List Operation) (bytes : List ℕ) → All IsWholeRequest arrived → AreServedBy size arrived ops → length bytes ≡ size
    → IsService bytes (answered_requests size arrived (all_given ops bytes)) (all_done ops bytes)
answered_service size [] [] bytes are served long = refl
answered_service size [] (op ∷ ops) bytes are served long = absurd served
answered_service size (a ∷ arrived) [] bytes are served long = absurd served
answered_service size (a ∷ arrived) (op ∷ ops) bytes are served long = (
  done_by op bytes,
  answered_by a (reply_of size a.request (given_by op bytes)) bytes (done_by op bytes) (All-head IsWholeRequest a arrived are)
      (answer_done size a op (refusal_of size a.request) bytes refl served.0 long),
  answered_service size arrived ops (done_by op bytes) (All-tail IsWholeRequest a arrived are) served.1
      (length_done size op bytes long (served_one size (refusal_of size a.request) a op served.0).0),
)

-- ---- A batch that is refused: with this error, where its requests aren't refused already

abbrev pub refused_requests : ℕ → List WholeRequest → NbdError → List AnsweredRequest
refused_requests size [] e = []
refused_requests size (a ∷ arrived) e = answered_with a (reply_if (refusal_of size a.request) (Refused e)) ∷ refused_requests size arrived e

-- each of these replies refuses
pub all_refusals : (size : ℕ) (arrived : List WholeRequest) (e : NbdError) → All (λ (t : AnsweredRequest). IsRefusal t.reply) (refused_requests size arrived e)
all_refusals size [] e = All-nil (λ (t : AnsweredRequest). IsRefusal t.reply)
all_refusals size (a ∷ arrived) e = All-cons (λ (t : AnsweredRequest). IsRefusal t.reply) (answered_with a (reply_if (refusal_of size a.request) (Refused e))) (refused_requests size arrived e) (is_refusal (refusal_of size a.request)) (all_refusals size arrived e)
  where
    is_refusal : (o : Option NbdError) → IsRefusal (reply_if o (Refused e))
    is_refusal (Some why) = tt
    is_refusal None = tt

pub refused_same : (size : ℕ) (arrived : List WholeRequest) (e : NbdError) → map whole_request_of (refused_requests size arrived e) ≡ arrived
refused_same size [] e = refl
refused_same size (a ∷ arrived) e = ap (λ (l : List WholeRequest). a ∷ l) (refused_same size arrived e)

pub refused_text : (size : ℕ) (arrived : List WholeRequest) (e : NbdError) → replies_text (refused_requests size arrived e) ≡ refusals_text size (map (λ (a : WholeRequest). a.request) arrived) e
refused_text size [] e = refl
refused_text size (a ∷ arrived) e = ap (λ (l : List ℕ). reply_text a.request.cookie (reply_if (refusal_of size a.request) (Refused e)) ++ l) (refused_text size arrived e)

reply_refused : (size : ℕ) (r : Request) (o : Option NbdError) (e : NbdError) → (e ≡ Io) ⊎ ((e ≡ NoMemory) ⊎ (e ≡ Shutdown)) → refusal_of size r ≡ o → IsReply size r (reply_if o (Refused e))
reply_refused size r (Some f) e why is = inl is
reply_refused size r None e why is = inr (is, why)

pub refused_fit : (size : ℕ) (arrived : List WholeRequest) (e : NbdError) → (e ≡ Io) ⊎ ((e ≡ NoMemory) ⊎ (e ≡ Shutdown)) → All IsWholeRequest arrived → All (λ (t : AnsweredRequest). IsReplied size t) (refused_requests size arrived e)
refused_fit size [] e why are = All-nil (λ (t : AnsweredRequest). IsReplied size t)
refused_fit size (a ∷ arrived) e why are =
    let is = All-head IsWholeRequest a arrived are in
    All-cons (λ (t : AnsweredRequest). IsReplied size t) (answered_with a (reply_if (refusal_of size a.request) (Refused e))) (refused_requests size arrived e)
    (record { request = is.request; payload = is.payload; reply = reply_refused size a.request (refusal_of size a.request) e why refl })
    (refused_fit size arrived e why (All-tail IsWholeRequest a arrived are))

is_refused : (o : Option NbdError) (e : NbdError) → IsRefusal (reply_if o (Refused e))
is_refused (Some f) e = tt
is_refused None e = tt

pub refused_refuse : (size : ℕ) (failed : Type 0) (arrived : List WholeRequest) (e : NbdError) → FailsForGood failed (refused_requests size arrived e)
refused_refuse size failed [] e = tt
refused_refuse size failed (a ∷ arrived) e =
    (λ f. is_refused (refusal_of size a.request) e, refused_refuse size (failed ⊎ (reply_if (refusal_of size a.request) (Refused e) ≡ Refused Io)) arrived e)

io_by : (size : ℕ) (r : Request) (o : Option NbdError) (e : NbdError) → refusal_of size r ≡ o → reply_if o (Refused e) ≡ Refused Io → e ≡ Io
io_by size r (Some f) e is says = absurd (refusal_is_other size r f is (let same : f ≡ Io = cc in same))
io_by size r None e is says = cc

pub refused_tell : (size : ℕ) (arrived : List WholeRequest) (e : NbdError) → SaysFailed (refused_requests size arrived e) → e ≡ Io
refused_tell size [] e none = absurd none
refused_tell size (a ∷ arrived) e (inl says) = io_by size a.request (refusal_of size a.request) e refl says
refused_tell size (a ∷ arrived) e (inr rest) = refused_tell size arrived e rest

pub refused_never_fail : (size : ℕ) (arrived : List WholeRequest) (e : NbdError) → (e ≡ Io → ⊥) → NeverFails (refused_requests size arrived e)
refused_never_fail size [] e other = tt
refused_never_fail size (a ∷ arrived) e other = (λ says. other (io_by size a.request (refusal_of size a.request) e refl says), refused_never_fail size arrived e other)

-- If the device had failed, the error is `EIO`; and it is `EIO` only if the device has failed.
pub refused_tells : (size : ℕ) (failed failed' : Type 0) (arrived : List WholeRequest) (e : NbdError) → (failed → e ≡ Io) → (e ≡ Io → failed') → All (TellsFailure size failed failed') (refused_requests size arrived e)
refused_tells size failed failed' [] e told sound = All-nil (TellsFailure size failed failed')
refused_tells size failed failed' (a ∷ arrived) e told sound =
    All-cons (TellsFailure size failed failed') (answered_with a (reply_if (refusal_of size a.request) (Refused e))) (refused_requests size arrived e)
    (record {
      told = λ f none. ap (λ (o : Option NbdError). reply_if o (Refused e)) none ∙ ap (λ (why : NbdError). Refused why) (told f);
      sound = λ says. sound (io_by size a.request (refusal_of size a.request) e refl says);
    })
    (refused_tells size failed failed' arrived e told sound)

pub refused_end : (size : ℕ) (arrived : List WholeRequest) (e : NbdError) → All (EndsWith size (Some e)) (refused_requests size arrived e)
refused_end size [] e = All-nil (EndsWith size (Some e))
refused_end size (a ∷ arrived) e =
    All-cons (EndsWith size (Some e)) (answered_with a (reply_if (refusal_of size a.request) (Refused e))) (refused_requests size arrived e) (λ none. ap (λ (o : Option NbdError). reply_if o (Refused e)) none) (refused_end size arrived e)

-- nothing was done
pub refused_idle : (size : ℕ) (arrived : List WholeRequest) (e : NbdError) (bytes : List ℕ) → (e ≡ Io) ⊎ ((e ≡ NoMemory) ⊎ (e ≡ Shutdown)) → All IsWholeRequest arrived → length bytes ≡ size
    → IsService bytes (refused_requests size arrived e) bytes
refused_idle size [] e bytes why are long = refl
refused_idle size (a ∷ arrived) e bytes why are long = (
  bytes,
  answered_by a (reply_if (refusal_of size a.request) (Refused e)) bytes bytes (All-head IsWholeRequest a arrived are) (answer_none size a (refusal_of size a.request) e bytes why refl long),
  refused_idle size arrived e bytes why (All-tail IsWholeRequest a arrived are) long,
)

-- the operations were begun
pub refused_service : (size : ℕ) (arrived : List WholeRequest) (ops : List Operation) (e : NbdError) (bytes later : List ℕ) → (e ≡ Io) ⊎ ((e ≡ NoMemory) ⊎ (e ≡ Shutdown)) → All IsWholeRequest arrived → AreServedBy size arrived ops
    → length bytes ≡ size → AreBegun ops bytes later → IsService bytes (refused_requests size arrived e) later
refused_service size [] [] e bytes later why are served long same = same
refused_service size [] (op ∷ ops) e bytes later why are served long begun = absurd served
refused_service size (a ∷ arrived) [] e bytes later why are served long begun = absurd served
refused_service size (a ∷ arrived) (op ∷ ops) e bytes later why are served long (inl part) =
    let is = All-head IsWholeRequest a arrived are in
    let within = (served_one size (refusal_of size a.request) a op served.0).0 in (
      later,
      answered_by a (reply_if (refusal_of size a.request) (Refused e)) bytes later is (answer_part size a op (refusal_of size a.request) e bytes later why refl served.0 long part),
      refused_idle size arrived e later why (All-tail IsWholeRequest a arrived are) (length_part size op bytes later long within part),
    )
refused_service size (a ∷ arrived) (op ∷ ops) e bytes later why are served long (inr rest) =
    let is = All-head IsWholeRequest a arrived are in
    let within = (served_one size (refusal_of size a.request) a op served.0).0 in (
      done_by op bytes,
      answered_by a (reply_if (refusal_of size a.request) (Refused e)) bytes (done_by op bytes) is
          (answer_part size a op (refusal_of size a.request) e bytes (done_by op bytes) why refl served.0 long (part_whole op bytes)),
      refused_service size arrived ops e (done_by op bytes) later why (All-tail IsWholeRequest a arrived are) served.1 (length_done size op bytes long within) rest,
    )

-- ---- A batch at which the device stopped

left_part : (size : ℕ) (a : WholeRequest) (op : Operation) (o : Option NbdError) (bytes later : List ℕ) → DoesIfAccepted o size a op → IsPartOf op bytes later
    → IsLeftIf o bytes (IsPartly a.request.command bytes a.request.offset a.request.length a.payload later) later
left_part size a op (Some e) bytes later nothing part = subst (λ (x : Operation). IsPartOf x bytes later) nothing part
left_part size a op None bytes later s part = s.in_part bytes later part

pub requests_begun : (size : ℕ) (arrived : List WholeRequest) (ops : List Operation) (bytes later : List ℕ) → AreServedBy size arrived ops → length bytes ≡ size → AreBegun ops bytes later
    → AreRequestsBegun arrived bytes later
requests_begun size [] [] bytes later served long same = same
requests_begun size [] (op ∷ ops) bytes later served long begun = absurd served
requests_begun size (a ∷ arrived) [] bytes later served long begun = absurd served
requests_begun size (a ∷ arrived) (op ∷ ops) bytes later served long (inl part) =
    inl (subst (λ (n : ℕ). IsLeftIf (refusal_of n a.request) bytes (IsPartly a.request.command bytes a.request.offset a.request.length a.payload later) later) (sym long)
    (left_part size a op (refusal_of size a.request) bytes later served.0 part))
requests_begun size (a ∷ arrived) (op ∷ ops) bytes later served long (inr rest) =
    let within = (served_one size (refusal_of size a.request) a op served.0).0 in
    inr (subst (λ (b : List ℕ). AreRequestsBegun arrived b later) (done_as_requested size a op bytes served.0 long)
    (requests_begun size arrived ops (done_by op bytes) later served.1 (length_done size op bytes long within) rest))

-- a request that isn't refused, among those that arrived
pub accepted_in : (size : ℕ) (arrived : List WholeRequest) (before after : List Request) (r : Request) → map (λ (a : WholeRequest). a.request) arrived ≡ before ++ r ∷ after → refusal_of size r ≡ None
    → (xs ys : List WholeRequest) × (a : WholeRequest) × (arrived ≡ xs ++ a ∷ ys) × (refusal_of size a.request ≡ None)
accepted_in size [] [] after r is none = absurd cc
accepted_in size [] (b ∷ before) after r is none = absurd cc
accepted_in size (a ∷ arrived) [] after r is none = let same : a.request ≡ r = cc in ([], arrived, a, refl, ap (refusal_of size) same ∙ none)
accepted_in size (a ∷ arrived) (b ∷ before) after r is none =
    let rest : map (λ (x : WholeRequest). x.request) arrived ≡ before ++ r ∷ after = cc in
    let k = accepted_in size arrived before after r rest none in
    (a ∷ k.0, k.1, k.2, ap (λ (l : List WholeRequest). a ∷ l) k.3, k.4)

-- where a request isn't refused for its own sake, the reply to it says why the batch was refused
refused_says_fault : (size : ℕ) (arrived : List WholeRequest) (e : NbdError) → (e ≡ Io) ⊎ ((e ≡ NoMemory) ⊎ (e ≡ Shutdown))
    → ((xs ys : List WholeRequest) × (a : WholeRequest) × (arrived ≡ xs ++ a ∷ ys) × (refusal_of size a.request ≡ None)) → SaysFault (refused_requests size arrived e)
refused_says_fault size arrived e why (xs, ys, a, split, none) = subst (λ (l : List WholeRequest). SaysFault (refused_requests size l e)) (sym split) (among xs)
  where
    says : reply_if (refusal_of size a.request) (Refused e) ≡ Refused e
    says = ap (λ (o : Option NbdError). reply_if o (Refused e)) none

    among : (front : List WholeRequest) → SaysFault (refused_requests size (front ++ a ∷ ys) e)
    among [] = inl (elim why [ inl io ↦ inl (says ∙ ap (λ (f : NbdError). Refused f) io) | inr (inl memory) ↦ inr (inl (says ∙ ap (λ (f : NbdError). Refused f) memory)) | inr (inr gone) ↦ inr (inr (says ∙ ap (λ (f : NbdError). Refused f) gone)) ])
    among (x ∷ front) = inr (among front)

-- ---- Requests that are collected, one after the other

pub record Collected (size : ℕ) (requests : List Request) (operations : List Operation) (unread unread' : Option (List ℕ)) : Type 0 where
  pub arrived : List WholeRequest
  pub collected : AreCollected size arrived requests operations
  pub read : Consumes unread unread' (whole_requests_text arrived)

module _ (size : ℕ) (requests : List Request) (operations : List Operation) (unread mid : Option (List ℕ)) (so_far : Collected size requests operations unread mid) where
  pub collected_more : (requests' : List Request) (operations' : List Operation) (later : Option (List ℕ)) (a : WholeRequest) (op : Operation) → IsWholeRequest a → requests' ≡ requests ++ a.request ∷ [] → operations' ≡ operations ++ op ∷ []
      → DoesIfAccepted (refusal_of size a.request) size a op → Consumes mid later (request_text a.request ++ a.payload) → Collected size requests' operations' unread later
  collected_more requests' operations' later a op is more more' serves came = record {
    arrived = so_far.arrived ++ a ∷ [];
    collected = record {
      all = All-append IsWholeRequest so_far.arrived (a ∷ []) so_far.collected.all (All-cons IsWholeRequest a [] is (All-nil IsWholeRequest));
      same = map-append (λ (x : WholeRequest). x.request) so_far.arrived (a ∷ []) ∙ ap (λ (l : List Request). l ++ a.request ∷ []) so_far.collected.same ∙ sym more;
      served = subst (AreServedBy size (so_far.arrived ++ a ∷ [])) (sym more') (served_by_more size so_far.arrived operations a op so_far.collected.served serves);
    };
    read = subst (Consumes unread later)
        (ap (λ (l : List ℕ). whole_requests_text so_far.arrived ++ l) (sym (append-nil (request_text a.request ++ a.payload)))
        ∙ sym (flat_map-append (λ (x : WholeRequest). request_text x.request ++ x.payload) so_far.arrived (a ∷ [])))
        (Consumes-trans unread mid later (whole_requests_text so_far.arrived) (request_text a.request ++ a.payload) so_far.read came);
  }

  pub gathered_then : (requests' : List Request) (operations' : List Operation) (later : Option (List ℕ)) (close : Close) (part : List ℕ) → requests' ≡ requests → operations' ≡ operations → Consumes mid later part
      → EndsBy close part later → HasGathered size requests' operations' close unread later
  gathered_then requests' operations' later close part same same' came ends = record {
    arrived = so_far.arrived;
    part = part;
    collected = record { all = so_far.collected.all; same = so_far.collected.same ∙ sym same; served = subst (AreServedBy size so_far.arrived) (sym same') so_far.collected.served };
    read = Consumes-trans unread mid later (whole_requests_text so_far.arrived) part so_far.read came;
    ends = ends;
  }

  -- nothing else was read
  pub gathered : (close : Close) → EndsBy close [] mid → HasGathered size requests operations close unread mid
  gathered close ends = gathered_then requests operations mid close [] refl refl (Consumes-nil mid) ends

-- ---- What the replies to a batch come to

-- one batch
pub one_batch : {D W E : Type 0} {kind : DeviceKind D W E} {size : ℕ} {old new : D} {batch : List AnsweredRequest} → All (λ (t : AnsweredRequest). IsReplied size t) batch → FailsForGood (kind.failed old) batch → ServesBatch kind size old batch new
    → HasServedRequests kind size old new batch
one_batch {new = new} {batch = batch} fits refused serves = record { fits = fits; refused = refused; batches = batch ∷ []; all = append-nil batch; served = (new, serves, refl) }

-- operations were begun, and so much of them is kept
abbrev pub Begun : List Operation → Arrays (List ℕ) → Arrays (List ℕ) → Type 0
Begun ops from to = AreBegun ops from.held to.held × SavesPart (AreBegun ops) from to

module _ {D W E : Type 0} {kind : DeviceKind D W E} (size : ℕ) (old new : D) (arrived : List WholeRequest)
    (sized : (may_lie : Bool) (world : W) (bytes : List ℕ) → kind.holds may_lie old world bytes → length bytes ≡ size) where
  -- all operations were done
  pub all_answered : (requests : List Request) (ops : List Operation) (given : List (List ℕ)) → AreCollected size arrived requests ops → map length given ≡ map read_len ops → (kind.failed old → ⊥)
      → GoesOn kind.had kind.hears (HasArrays kind.holds kind.kept) old
      (λ may_lie before later. (given ≡ all_given ops before.held) × (later.held ≡ all_done ops before.held) × SavesAll (TouchSomeByte ops) before later) new
      → AsksFor kind.asked old (calls_of (kind.block_len old) (map range_of ops)) new
      → HasRepliedToAll kind size old new arrived (answered_requests size arrived given)
  all_answered requests ops given collected lens alive goes asks =
      let many : length given ≡ length arrived = sym (length-map given length) ∙ ap length lens ∙ length-map ops read_len ∙ as_many size arrived ops collected.served in
      let same = answered_same size arrived given many in
      record {
        same = same;
        served = one_batch (answered_fit size arrived ops given collected.all collected.served lens) (answered_refuse size (kind.failed old) arrived given alive)
            (record {
              asks = inl (subst (λ (l : List WholeRequest). AsksFor kind.asked old (request_calls (kind.block_len old) size (map (λ (a : WholeRequest). a.request) l)) new) (sym same) (subst (λ (l : List Range). AsksFor kind.asked old (calls_of (kind.block_len old) l) new) (ranges_as_requested size arrived ops collected.served) asks));
              leads = (weaker goes (λ may_lie world before later h step.
                  let long = sized may_lie world before.held h.0 in (
                    subst (λ (l : List ℕ). IsService before.held (answered_requests size arrived given) l) (sym step.1)
                        (subst (λ (gs : List (List ℕ)). IsService before.held (answered_requests size arrived gs) (all_done ops before.held)) (sym step.0)
                        (answered_service size arrived ops before.held collected.all collected.served long)),
                    λ honest. answered_never_fail size arrived given,
                    inl (subst (λ (l : List WholeRequest). (later.held ≡ array_after_requests l before.held) × SavesAll (RequestsTouchSomeByte size l) before later) (sym same)
                        (step.1 ∙ all_done_as_requested size arrived ops before.held collected.served long, all_weaker step.2 (some_touches size arrived ops collected.served))),
                  )));
              tells = answered_tell size (kind.failed old) (kind.failed new) arrived given alive;
              alike = (None, answered_end size arrived given);
            });
        reported = λ says. absurd (answered_tell_none size arrived given says);
      }

  -- the operations were begun, and all requests are refused
  pub all_refused : (requests : List Request) (ops : List Operation) (e : NbdError) → AreCollected size arrived requests ops → (e ≡ Io) ⊎ ((e ≡ NoMemory) ⊎ (e ≡ Shutdown)) → (kind.failed old → e ≡ Io) → (e ≡ Io → kind.failed new)
      → (before after : List Request) (r : Request) → requests ≡ before ++ r ∷ after → refusal_of size r ≡ None
      → GoesOn kind.had kind.hears (HasArrays kind.holds kind.kept) old (λ may_lie before later. Begun ops before later × (e ≡ Io → may_lie ≡ true)) new
      → HasRepliedToAll kind size old new arrived (refused_requests size arrived e)
  all_refused requests ops e collected why told fails before after r split none goes = record {
    same = refused_same size arrived e;
    served = one_batch (refused_fit size arrived e why collected.all) (refused_refuse size (kind.failed old) arrived e)
        (record {
          asks = inr (all_refusals size arrived e);
          leads = (weaker goes (λ may_lie world from to h step.
              let long = sized may_lie world from.held h.0 in (
                refused_service size arrived ops e from.held to.held why collected.all collected.served long step.0.0,
                λ honest. refused_never_fail size arrived e (λ io. let lies : may_lie ≡ true = step.1 io in cc),
                inr (
                  all_refusals size arrived e,
                  inr (
                    refused_says_fault size arrived e why (accepted_in size arrived before after r (collected.same ∙ split) none),
                    subst (λ (l : List WholeRequest). SavesPart (AreRequestsBegun l) from to) (sym (refused_same size arrived e))
                        (part_weaker step.0.1 (λ x begun. requests_begun size arrived ops from.held x collected.served long begun)),
                  ),
                ),
              )));
          tells = refused_tells size (kind.failed old) (kind.failed new) arrived e told fails;
          alike = (Some e, refused_end size arrived e);
        });
    reported = λ says. fails (refused_tell size arrived e says);
  }

  -- the device stopped
  pub all_begun : (requests : List Request) (ops : List Operation) → AreCollected size arrived requests ops → (kind.failed old → ⊥) → (before after : List Request) (r : Request) → requests ≡ before ++ r ∷ after → refusal_of size r ≡ None
      → GoesOn kind.had kind.hears (HasArrays kind.holds kind.kept) old (λ may_lie before later. Begun ops before later) new → HasBegun kind size old new arrived
  all_begun requests ops collected alive before after r split none goes = record {
    alive = alive;
    accepted = accepted_in size arrived before after r (collected.same ∙ split) none;
    begun = weaker goes (λ may_lie world from to h step.
        let long = sized may_lie world from.held h.0 in (
          requests_begun size arrived ops from.held to.held collected.served long step.0,
          part_weaker step.1 (λ x begun. requests_begun size arrived ops from.held x collected.served long begun),
        ));
  }

why_uncalled : {failed : Type 0} {e : NbdError} → IsUncalled failed e → (e ≡ Io) ⊎ ((e ≡ NoMemory) ⊎ (e ≡ Shutdown))
why_uncalled u = elim u.either [ inl io ↦ inl io | inr memory ↦ inr (inl memory) ]

-- A device that isn't called, where all requests are refused: if it has failed, because of that, and else for lack of memory.
pub refused_at_rest : {D W E : Type 0} {kind : DeviceKind D W E} (size : ℕ) (d : D) (arrived : List WholeRequest) (e : NbdError)
    → ((may_lie : Bool) (world : W) (bytes : List ℕ) → kind.holds may_lie d world bytes → length bytes ≡ size) → ((world : W) (bytes : List ℕ) → kind.holds false d world bytes → kind.failed d → ⊥)
    → IsUncalled (kind.failed d) e → All IsWholeRequest arrived → HasRepliedToAll kind size d d arrived (refused_requests size arrived e)
refused_at_rest {kind = kind} size d arrived e sized honest uncalled are = record {
  same = refused_same size arrived e;
  served = one_batch (refused_fit size arrived e (why_uncalled uncalled) are) (refused_refuse size (kind.failed d) arrived e)
      (record {
        asks = inr (all_refusals size arrived e);
        leads = (at_rest (λ may_lie world before h. (
          refused_idle size arrived e before.held (why_uncalled uncalled) are (sized may_lie world before.held h.0),
          λ true_world. refused_never_fail size arrived e (λ io. honest world before.held (subst (λ (b : Bool). kind.holds b d world before.held) true_world h.0) (uncalled.sound io)),
          inr (all_refusals size arrived e, inl (refl, refl)),
        )));
        tells = refused_tells size (kind.failed d) (kind.failed d) arrived e uncalled.told uncalled.sound;
        alike = (Some e, refused_end size arrived e);
      });
  reported = λ says. uncalled.sound (refused_tell size arrived e says);
}

-- the same, with the size of the device written in another way
pub at_size : {D W E : Type 0} {kind : DeviceKind D W E} {n m : ℕ} {old new : D} {arrived : List WholeRequest} {answered : List AnsweredRequest} → n ≡ m → HasRepliedToAll kind n old new arrived answered
    → HasRepliedToAll kind m old new arrived answered
at_size {kind = kind} {old = old} {new = new} {arrived = arrived} {answered = answered} same h = subst (λ (k : ℕ). HasRepliedToAll kind k old new arrived answered) same h

pub begun_at_size : {D W E : Type 0} {kind : DeviceKind D W E} {n m : ℕ} {old new : D} {arrived : List WholeRequest} → n ≡ m → HasBegun kind n old new arrived → HasBegun kind m old new arrived
begun_at_size {kind = kind} {old = old} {new = new} {arrived = arrived} same h = subst (λ (k : ℕ). HasBegun kind k old new arrived) same h

-- how many requests these are
pub length_same : (arrived : List WholeRequest) (answered : List AnsweredRequest) → map whole_request_of answered ≡ arrived → length answered ≡ length arrived
length_same arrived answered same = sym (length-map answered whole_request_of) ∙ ap length same

pub behind_cut : (f : NbdFault) (part : List ℕ) (new : Option (List ℕ)) → IsCutOff f part new → IsBehind part
behind_cut fault.Read part new h = inr (inr (inl h))
behind_cut fault.Truncated part new h = inr (inr (inl h.0))
behind_cut fault.Magic part new h = inr (inr (inr h))
behind_cut fault.Write part new h = absurd h
behind_cut fault.UnknownFlags part new h = absurd h
behind_cut fault.UnknownExport part new h = absurd h
behind_cut fault.TooManyOptions part new h = absurd h
behind_cut fault.OutOfMemory part new h = absurd h
behind_cut fault.Stopped part new h = absurd h

-- what is left after a batch
pub behind_ends : (close : Close) (part : List ℕ) (new : Option (List ℕ)) → EndsBy close part new → IsBehind part
behind_ends Waits part new none = inl none
behind_ends (NoRoom r) part new h = inr (inl (h.0, h.1, h.3))
behind_ends Leaves part new (inl h) = inl h.0
behind_ends Leaves part new (inr h) =
    let a : WholeRequest = record { request = h.0; payload = [] } in
    inr (inl (a, record { request = h.1; payload = sym (ap (λ (c : Command). payload_len c h.0.length) h.2) }, h.3 ∙ sym (append-nil (request_text h.0))))
behind_ends (Breaks f) part new h = behind_cut f part new h

pub behind_left : (close : Close) (rest : List ℕ) (new : Option (List ℕ)) → LeftBy close rest new → IsBehind rest
behind_left Waits rest new none = inl none
behind_left (NoRoom r) rest new none = inl none
behind_left Leaves rest new h = behind_ends Leaves rest new h
behind_left (Breaks f) rest new h = behind_cut f rest new h

-- ---- Replies that are written, one after the other

-- Some of this text was written. The rest is left.
pub record WritesOn (old now : Option (List ℕ)) (all rest : List ℕ) : Type 0 where
  pub so_far : List ℕ
  pub wrote : Appends old now so_far
  pub split : so_far ++ rest ≡ all

module _ (old now : Option (List ℕ)) (all rest : List ℕ) (t : WritesOn old now all rest) where
  pub writes_next : (later : Option (List ℕ)) (more rest' : List ℕ) → rest ≡ more ++ rest' → Appends now later more → WritesOn old later all rest'
  writes_next later more rest' is wrote = record {
    so_far = t.so_far ++ more;
    wrote = Appends-trans old now later t.so_far more t.wrote wrote;
    split = append_assoc t.so_far more rest' ∙ ap (λ (l : List ℕ). t.so_far ++ l) (sym is) ∙ t.split;
  }

  pub writes_all : rest ≡ [] → Appends old now all
  writes_all none = subst (Appends old now) (sym (append-nil t.so_far) ∙ ap (λ (l : List ℕ). t.so_far ++ l) (sym none) ∙ t.split) t.wrote

  pub writes_begun : (later : Option (List ℕ)) (more rest' : List ℕ) → rest ≡ more ++ rest' → IsBegunText now later more → IsBegunText old later all
  writes_begun later more rest' is begun =
      let n : ℕ = begun.0 in
      elim (cases_lt n (length more)) [
        | inl part ↦ (
          length t.so_far + n,
          subst (Appends old later) (sym (front n (take-append-le n more rest' (omega (arith, part))))) (Appends-trans old now later t.so_far (take n more) t.wrote begun.1),
        )
        | inr whole ↦ (
          length t.so_far + length more,
          subst (Appends old later) (sym (front (length more) (take_at more rest' (length more) refl)))
              (Appends-trans old now later t.so_far more t.wrote (subst (Appends now later) (take_all n more (omega (arith, whole))) begun.1)),
        )
      ]
    where
      front : (k : ℕ) {part : List ℕ} → take k (more ++ rest') ≡ part → take (length t.so_far + k) all ≡ t.so_far ++ part
      front k {part = part} same = ap (take (length t.so_far + k)) (sym t.split ∙ ap (λ (l : List ℕ). t.so_far ++ l) is) ∙ take-append-add t.so_far (more ++ rest') k ∙ ap (λ (l : List ℕ). t.so_far ++ l) same

-- the next reply
pub answers_next : (size : ℕ) (requests : List Request) (given : List (List ℕ)) (i : ℕ) (r : Request) (bytes : List ℕ) → i < length requests → length given ≡ length requests
    → r ≡ get_or requests i r → bytes ≡ get_or given i bytes
    → answers_text size (drop i requests) (drop i given) ≡ reply_text r.cookie (reply_of size r bytes) ++ answers_text size (drop (i + 1) requests) (drop (i + 1) given)
answers_next size requests given i r bytes more each is is' =
    let one : i + 1 ≡ suc i = omega arith in
    let first : drop i requests ≡ r ∷ drop (i + 1) requests = drop-cons requests i r more ∙ ap (λ (x : Request). x ∷ drop (suc i) requests) (sym is) ∙ ap (λ (n : ℕ). r ∷ drop n requests) (sym one) in
    let second : drop i given ≡ bytes ∷ drop (i + 1) given =
    drop-cons given i bytes (omega (arith, more, each)) ∙ ap (λ (x : List ℕ). x ∷ drop (suc i) given) (sym is') ∙ ap (λ (n : ℕ). bytes ∷ drop n given) (sym one) in
    ap (λ (l : List Request). answers_text size l (drop i given)) first ∙ ap (λ (l : List (List ℕ)). answers_text size (r ∷ drop (i + 1) requests) l) second

pub refusals_next : (size : ℕ) (requests : List Request) (e : NbdError) (i : ℕ) (r : Request) → i < length requests → r ≡ get_or requests i r
    → refusals_text size (drop i requests) e ≡ reply_text r.cookie (reply_if (refusal_of size r) (Refused e)) ++ refusals_text size (drop (i + 1) requests) e
refusals_next size requests e i r more is =
    let one : i + 1 ≡ suc i = omega arith in
    let first : drop i requests ≡ r ∷ drop (i + 1) requests = drop-cons requests i r more ∙ ap (λ (x : Request). x ∷ drop (suc i) requests) (sym is) ∙ ap (λ (n : ℕ). r ∷ drop n requests) (sym one) in
    ap (λ (l : List Request). refusals_text size l e) first

-- none is left
pub answers_end : (size : ℕ) (requests : List Request) (given : List (List ℕ)) (i : ℕ) → length requests ≤ i → answers_text size (drop i requests) (drop i given) ≡ []
answers_end size requests given i end = ap (λ (l : List Request). answers_text size l (drop i given)) (drop_all i requests end)

pub refusals_end : (size : ℕ) (requests : List Request) (e : NbdError) (i : ℕ) → length requests ≤ i → refusals_text size (drop i requests) e ≡ []
refusals_end size requests e i end = ap (λ (l : List Request). refusals_text size l e) (drop_all i requests end)

-- only a part of the bytes of a write came
pub payload_cut : (a b c : Option (List ℕ)) (r : Request) (f : NbdFault) → IsRequest r → Consumes a b (request_text r) → ComesShort 0 (payload_len r.command r.length) f b c
    → (part : List ℕ) × Consumes a c part × IsCutOff f part c
payload_cut a b c r fault.Read is head h = (request_text r ++ h.0, Consumes-trans a b c (request_text r) h.0 head h.2, inr (r, h.0, is, h.1, refl))
payload_cut a b c r fault.Truncated is head h =
    (request_text r ++ h.0, Consumes-trans a b c (request_text r) h.0 head h.2, (inr (r, h.0, is, h.1, refl), (let some : 0 < length (request_text r ++ h.0) = omega (arith, length-append (request_text r) h.0) in some), h.4))
payload_cut a b c r fault.Magic is head h = absurd h
payload_cut a b c r fault.Write is head h = absurd h
payload_cut a b c r fault.UnknownFlags is head h = absurd h
payload_cut a b c r fault.UnknownExport is head h = absurd h
payload_cut a b c r fault.TooManyOptions is head h = absurd h
payload_cut a b c r fault.OutOfMemory is head h = absurd h
payload_cut a b c r fault.Stopped is head h = absurd h

-- the request at a place among others
pub split_there : {A : Type 0} (xs : List A) (i : ℕ) (x : A) → i < length xs → x ≡ get_or xs i x → xs ≡ take i xs ++ x ∷ drop (suc i) xs
split_there xs i x more is =
    sym (take-append-drop i xs) ∙ ap (λ l. take i xs ++ l) (drop-cons xs i x more ∙ ap (λ y. y ∷ drop (suc i) xs) (sym is))

-- the request for which there was no memory
pub without_memory_one : (close : Close) (r : Request) (part : List ℕ) (unread : Option (List ℕ)) → close ≡ NoRoom r → EndsBy close part unread
    → (a : WholeRequest) × IsWithoutMemory close part unread (a ∷ []) [] × (a.request ≡ r)
without_memory_one close r part unread is ends =
    let h = subst (λ (k : Close). EndsBy k part unread) is ends in
    let a = h.0 in (
      a,
      record {
        all = All-cons IsWholeRequest a [] h.1 (All-nil IsWholeRequest);
        split = h.3 ∙ sym (append-nil (request_text a.request ++ a.payload)) ∙ sym (append-nil ((request_text a.request ++ a.payload) ++ []));
        left = subst (λ (k : Close). LeftBy k [] unread) (sym is) refl;
      },
      h.2,
    )

-- ---- The texts of the replies to a batch, and of its requests

pub text_refused : (size : ℕ) (arrived : List WholeRequest) (e : NbdError) (requests shown : List Request) → map (λ (a : WholeRequest). a.request) arrived ≡ requests → shown ≡ requests
    → refusals_text size shown e ≡ replies_text (refused_requests size arrived e)
text_refused size arrived e requests shown are same = ap (λ (l : List Request). refusals_text size l e) (same ∙ sym are) ∙ sym (refused_text size arrived e)

pub text_answered : (size : ℕ) (arrived : List WholeRequest) (requests shown : List Request) (given shown' : List (List ℕ)) → map (λ (a : WholeRequest). a.request) arrived ≡ requests → shown ≡ requests → shown' ≡ given
    → answers_text size shown shown' ≡ replies_text (answered_requests size arrived given)
text_answered size arrived requests shown given shown' are same same' =
    ap (λ (l : List Request). answers_text size l shown') (same ∙ sym are) ∙ ap (answers_text size (map (λ (a : WholeRequest). a.request) arrived)) same' ∙ sym (answered_text size arrived given)

pub collected_as : (size : ℕ) (arrived : List WholeRequest) (requests : List Request) (operations shown : List Operation) → shown ≡ operations → AreCollected size arrived requests operations → AreCollected size arrived requests shown
collected_as size arrived requests operations shown same collected = subst (λ (ops : List Operation). AreCollected size arrived requests ops) (sym same) collected

-- as many bytes were given as there are requests
pub many_given : (size : ℕ) (arrived : List WholeRequest) (requests : List Request) (ops : List Operation) (given : List (List ℕ)) → AreCollected size arrived requests ops → map length given ≡ map read_len ops → length given ≡ length requests
many_given size arrived requests ops given collected lens =
    sym (length-map given length) ∙ ap length lens ∙ length-map ops read_len ∙ as_many size arrived ops collected.served ∙ sym (length-map arrived (λ (a : WholeRequest). a.request)) ∙ ap length collected.same
