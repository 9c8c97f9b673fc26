-- Requests that were answered, batch after batch.
use Rattle.std.proofs.Common.{◌≡◌, ◌⊎◌, inl, inr, Bool, true, false, ℕ, ◌+◌, List, [], ◌∷◌, ◌++◌, All, length, map, Option, None, Some, ◌≢◌, nat_lt, if◌then◌else◌, refl, sym, ap, ◌∙◌, subst, arith, append_assoc, length-append, take}
use Rattle.std.proofs.lemmas.List.{append-nil}
use Rattle.std.proofs.lemmas.List.Elements.{All-append, All-nil}
use Rattle.std.proofs.lemmas.Grind.{flat_map-append}
use Rattle.std.specs.List.{flat_map}
use Rattle.std.specs.Io.KnownBytes.{Appends, Consumes}
use Rattle.std.proofs.KnownBytes.{Appends-nil, Appends-trans, Consumes-nil, Consumes-trans}
use Rattle.oram_nbd.specs.Batches.{HasRepliedToAll, HasBegun}
use Rattle.oram_nbd.specs.DeviceKind.{DeviceKind}
use Rattle.oram_nbd.specs.Service.{whole_request_of, whole_requests_text, asking, greatest_flags, misfit, refusal_of, replying, requests_text, replies_text, WholeRequest, IsWholeRequest, IsPartly, IsReplied, FailsForGood, SaysFailed, AnsweredRequest}
use Rattle.oram_nbd.specs.Messages.SimpleReply.{Refused}
use Rattle.oram_nbd.specs.Streams.{streams, Streams}
use Rattle.oram_nbd.specs.Transmission.{HasExchanged, HasServedRequests, IsBehind, ServesBatch, StopsServing}
use Rattle.oram_nbd.specs.declared.TheConstants.{LONGEST_PAYLOAD}
use Rattle.oram_nbd.specs.declared.faults.NbdError.{NbdError}
use Rattle.oram_nbd.specs.declared.faults.NbdError.TheVariants.{Io, Invalid, NoSpace}
use Rattle.oram_nbd.specs.declared.faults.NbdFault.TheVariants as fault
use Rattle.oram_nbd.specs.declared.requests.Command.{Command}
use Rattle.oram_nbd.specs.declared.requests.Command.TheVariants.{Read, Write, Disconnect, Flush, Trim, WriteZeroes, Other}
use Rattle.oram_nbd.specs.declared.requests.Request.{Request}
use Rattle.oram_nbd.proofs.Beside.{folds_join}
use Rattle.oram_nbd.proofs.Splices.{written_none}

-- nothing of a command was done
pub partly_none : (c : Command) (bytes : List ℕ) (at n : ℕ) (payload : List ℕ) → IsPartly c bytes at n payload bytes
partly_none Read bytes at n payload = refl
partly_none Write bytes at n payload = (0, omega arith, sym (written_none bytes at))
partly_none Disconnect bytes at n payload = refl
partly_none Flush bytes at n payload = refl
partly_none Trim bytes at n payload = refl
partly_none WriteZeroes bytes at n payload = (0, omega arith, sym (written_none bytes at))
partly_none (Other code) bytes at n payload = refl

-- No request is refused beforehand as if the device had failed.

abbrev pub IsOther : Option NbdError → Type 0
IsOther o = (e : NbdError) → o ≡ Some e → e ≢ Io

other_if : (b : Bool) (x y : Option NbdError) → IsOther x → IsOther y → IsOther (if b then x else y)
other_if true x y first second = first
other_if false x y first second = second

invalid_is_other : IsOther (Some Invalid)
invalid_is_other e is io = cc

no_space_is_other : IsOther (Some NoSpace)
no_space_is_other e is io = cc

none_is_other : IsOther None
none_is_other e is io = cc

misfit_is_other : (c : Command) (size at n : ℕ) → IsOther (misfit c size at n)
misfit_is_other Read size at n = other_if (nat_lt LONGEST_PAYLOAD n) _ _ invalid_is_other (other_if (nat_lt size (at + n)) _ _ invalid_is_other none_is_other)
misfit_is_other Write size at n = other_if (nat_lt LONGEST_PAYLOAD n) _ _ invalid_is_other (other_if (nat_lt size (at + n)) _ _ no_space_is_other none_is_other)
misfit_is_other Disconnect size at n = none_is_other
misfit_is_other Flush size at n = none_is_other
misfit_is_other Trim size at n = other_if (nat_lt size (at + n)) _ _ invalid_is_other none_is_other
misfit_is_other WriteZeroes size at n = other_if (nat_lt size (at + n)) _ _ no_space_is_other none_is_other
misfit_is_other (Other code) size at n = invalid_is_other

pub refusal_is_other : (size : ℕ) (r : Request) → IsOther (refusal_of size r)
refusal_is_other size r = other_if (nat_lt (greatest_flags r.command) r.flags) _ _ invalid_is_other (misfit_is_other r.command size r.offset r.length)

-- ---- Requests that were answered, and then others

pub says_either : (xs ys : List AnsweredRequest) → SaysFailed (xs ++ ys) → SaysFailed xs ⊎ SaysFailed ys
says_either [] ys more = inr more
says_either (t ∷ xs) ys (inl io) = inl (inl io)
says_either (t ∷ xs) ys (inr rest) = elim (says_either xs ys rest) [ inl first ↦ inl (inr first) | inr more ↦ inr more ]

refuses_weaker : (failed failed' : Type 0) (answered : List AnsweredRequest) → (failed → failed') → FailsForGood failed' answered → FailsForGood failed answered
refuses_weaker failed failed' [] less h = tt
refuses_weaker failed failed' (t ∷ answered) less (first, rest) =
    (λ f. first (less f), refuses_weaker (failed ⊎ (t.reply ≡ Refused Io)) (failed' ⊎ (t.reply ≡ Refused Io)) answered (λ e. elim e [ inl f ↦ inl (less f) | inr io ↦ inr io ]) rest)

refuses_join : (failed failed' : Type 0) (xs ys : List AnsweredRequest) → FailsForGood failed xs → (failed ⊎ SaysFailed xs → failed') → FailsForGood failed' ys → FailsForGood failed (xs ++ ys)
refuses_join failed failed' [] ys h tells more = refuses_weaker failed failed' ys (λ f. tells (inl f)) more
refuses_join failed failed' (t ∷ xs) ys (first, rest) tells more = (
  first,
  refuses_join (failed ⊎ (t.reply ≡ Refused Io)) failed' xs ys rest
      (λ e. elim e [ inl d ↦ elim d [ inl f ↦ tells (inl f) | inr io ↦ tells (inr (inl io)) ] | inr later ↦ tells (inr (inr later)) ]) more,
)

-- the text of requests, without their replies
pub requests_text_is : (answered : List AnsweredRequest) → requests_text answered ≡ whole_requests_text (map whole_request_of answered)
requests_text_is [] = refl
requests_text_is (t ∷ answered) = ap (λ (l : List ℕ). asking t ++ l) (requests_text_is answered)

-- for a device of this kind, from this state on
module _ {D W E : Type 0} (kind : DeviceKind D W E) (old : D) where
  pub served_none : HasServedRequests kind (kind.size old) old old []
  served_none = record { fits = All-nil (λ a. IsReplied (kind.size old) a); refused = tt; batches = []; all = refl; served = refl }

  -- more requests
  pub served_join : (mid new : D) (answered more : List AnsweredRequest) → HasServedRequests kind (kind.size old) old mid answered → (kind.failed old ⊎ SaysFailed answered → kind.failed mid)
      → HasServedRequests kind (kind.size old) mid new more → HasServedRequests kind (kind.size old) old new (answered ++ more)
  served_join mid new answered more s tells m = record {
    fits = All-append (λ (a : AnsweredRequest). IsReplied (kind.size old) a) answered more s.fits m.fits;
    refused = refuses_join (kind.failed old) (kind.failed mid) answered more s.refused tells m.refused;
    batches = s.batches ++ m.batches;
    all = flat_map-append (λ (l : List AnsweredRequest). l) s.batches m.batches
        ∙ ap (λ (l : List AnsweredRequest). l ++ flat_map (λ (batch : List AnsweredRequest). batch) m.batches) s.all ∙ ap (λ (l : List AnsweredRequest). answered ++ l) m.all;
    served = folds_join {P = D} {A = List AnsweredRequest} (ServesBatch kind (kind.size old)) s.batches m.batches old mid new s.served m.served;
  }

  -- As far as the loop has come: some requests were answered, and then some bytes were read that aren't served yet.
  pub record Served (from : Streams) (count : ℕ) (mid : D) (now : Streams) (part : List ℕ) : Type 0 where
    pub answered : List AnsweredRequest
    pub many : length answered ≡ count
    pub served : HasServedRequests kind (kind.size old) old mid answered
    pub still : kind.failed old → kind.failed mid
    pub reported : SaysFailed answered → kind.failed mid
    pub read : Consumes from.unread now.unread (requests_text answered ++ part)
    pub wrote : Appends from.written now.written (replies_text answered)

  unfoldable pub begin : (from : Streams) → Served from 0 old from []
  begin from = record { answered = []; many = refl; served = served_none; still = λ f. f; reported = λ none. absurd none; read = Consumes-nil from.unread; wrote = Appends-nil from.written }

  module _ (from : Streams) (count : ℕ) (mid : D) (now : Streams) (part : List ℕ) (s : Served from count mid now part) where
    -- more is read
    unfoldable pub read_on : (unread : Option (List ℕ)) (more : List ℕ) → part ≡ [] → Consumes now.unread unread more → Served from count mid (streams unread now.written) more
    read_on unread more none came = record {
      answered = s.answered;
      many = s.many;
      served = s.served;
      still = s.still;
      reported = s.reported;
      read = Consumes-trans from.unread now.unread unread (requests_text s.answered) more
          (subst (Consumes from.unread now.unread) (ap (λ (l : List ℕ). requests_text s.answered ++ l) none ∙ append-nil (requests_text s.answered)) s.read) came;
      wrote = s.wrote;
    }

    -- a batch of what was read is answered
    pub all_served : (new : D) (arrived : List WholeRequest) (answered : List AnsweredRequest) → HasRepliedToAll kind (kind.size old) mid new arrived answered
        → HasServedRequests kind (kind.size old) old new (s.answered ++ answered)
    all_served new arrived answered a = served_join mid new s.answered answered s.served (λ e. elim e [ inl f ↦ s.still f | inr says ↦ s.reported says ]) a.served

    unfoldable pub batch_answered : (new : D) (written : Option (List ℕ)) (arrived : List WholeRequest) (answered : List AnsweredRequest) (rest : List ℕ) → part ≡ whole_requests_text arrived ++ rest → (kind.failed mid → kind.failed new)
        → HasRepliedToAll kind (kind.size old) mid new arrived answered → Appends now.written written (replies_text answered)
        → Served from (count + length answered) new (streams now.unread written) rest
    batch_answered new written arrived answered rest split still a wrote = record {
      answered = s.answered ++ answered;
      many = length-append s.answered answered ∙ ap (λ (n : ℕ). n + length answered) s.many;
      served = all_served new arrived answered a;
      still = λ f. still (s.still f);
      reported = λ e. elim (says_either s.answered answered e) [ inl before ↦ still (s.reported before) | inr says ↦ a.reported says ];
      read = subst (Consumes from.unread now.unread)
          (ap (λ (l : List ℕ). requests_text s.answered ++ l) (split ∙ ap (λ (l : List ℕ). l ++ rest) (sym (requests_text_is answered ∙ ap whole_requests_text a.same)))
          ∙ sym (append_assoc (requests_text s.answered) (requests_text answered) rest) ∙ ap (λ (l : List ℕ). l ++ rest) (sym (flat_map-append asking s.answered answered))) s.read;
      wrote = subst (Appends from.written written) (sym (flat_map-append replying s.answered answered)) (Appends-trans from.written now.written written (replies_text s.answered) (replies_text answered) s.wrote wrote);
    }

    pub exchanged : HasExchanged s.answered part [] from now
    exchanged = record { read = s.read; wrote = subst (Appends from.written now.written) (sym (append-nil (replies_text s.answered))) s.wrote }

    -- only a beginning of the replies to a batch was written
    pub stopped_at_replies : (new : D) (written : Option (List ℕ)) (arrived : List WholeRequest) (answered : List AnsweredRequest) (rest : List ℕ) (count' : ℕ) → part ≡ whole_requests_text arrived ++ rest → IsBehind rest
        → HasRepliedToAll kind (kind.size old) mid new arrived answered → Appends now.written written (take count' (replies_text answered))
        → StopsServing kind old new fault.Write from (streams now.unread written)
    stopped_at_replies new written arrived answered rest count' split behind a wrote = (
      s.answered,
      answered,
      rest,
      count',
      all_served new arrived answered a,
      behind,
      record {
        read = subst (Consumes from.unread now.unread) (ap (λ (l : List ℕ). requests_text s.answered ++ l) (split ∙ ap (λ (l : List ℕ). l ++ rest) (sym (requests_text_is answered ∙ ap whole_requests_text a.same)))) s.read;
        wrote = Appends-trans from.written now.written written (replies_text s.answered) (take count' (replies_text answered)) s.wrote wrote;
      },
    )

    -- or they can't be flushed
    pub stopped_at_flush : IsBehind part → StopsServing kind old mid fault.Write from now
    stopped_at_flush behind = (
      s.answered,
      [],
      part,
      0,
      subst (λ (l : List AnsweredRequest). HasServedRequests kind (kind.size old) old mid l) (sym (append-nil s.answered)) s.served,
      behind,
      exchanged,
    )

    -- the device stopped at a batch
    pub stopped_at_batch : (new : D) (arrived : List WholeRequest) (rest : List ℕ) → part ≡ whole_requests_text arrived ++ rest → IsBehind rest → All IsWholeRequest arrived → HasBegun kind (kind.size old) mid new arrived
        → StopsServing kind old new fault.Stopped from now
    stopped_at_batch new arrived rest split behind are h = (
      s.answered,
      arrived,
      rest,
      record {
        mid = mid;
        served = s.served;
        whole = are;
        accepted = h.accepted;
        alive = h.alive;
        begun = h.begun;
      },
      behind,
      record { read = subst (Consumes from.unread now.unread) (ap (λ (l : List ℕ). requests_text s.answered ++ l) split) s.read; wrote = exchanged.wrote },
    )
