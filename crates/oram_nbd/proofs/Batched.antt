-- The steps of a connection's loop: a batch, the request for which there was no memory, and the flush.
use Rattle.std.proofs.Common.{◌≡◌, inl, inr, Bool, false, ℕ, ◌+◌, List, [], ◌++◌, length, map, Option, refl, sym, ap, ◌∙◌, subst}
use Rattle.std.proofs.lemmas.List.{length-map}
use Rattle.std.specs.Io.KnownBytes.{Appends, Keeps}
use Rattle.std.proofs.KnownBytes.{Appends-kept}
use Rattle.oram_nbd.specs.Batches.{IsUncalled, refusals_text, BreaksBatch, EndsBatch, HasRepliedToAll, HasBegun, HasGathered, IsWithoutMemory}
use Rattle.oram_nbd.specs.DeviceKind.{DeviceKind}
use Rattle.oram_nbd.specs.Service.{whole_requests_text, replies_text, WholeRequest}
use Rattle.oram_nbd.specs.Streams.{streams, IsBegunText, Streams}
use Rattle.oram_nbd.specs.Transmission.{HasTransmitted, IsBehind, IsCutOff, IsLast, StopsServing}
use Rattle.oram_nbd.specs.declared.batches.Close.{Close}
use Rattle.oram_nbd.specs.declared.faults.NbdError.{NbdError}
use Rattle.oram_nbd.specs.declared.faults.NbdFault.{NbdFault}
use Rattle.oram_nbd.specs.declared.faults.NbdFault.TheVariants as fault
use Rattle.oram_nbd.specs.declared.operations.Operation.{Operation}
use Rattle.oram_nbd.specs.declared.requests.Request.{Request}
use Rattle.oram_nbd.proofs.Gathered.{at_size, begun_at_size, behind_ends, behind_left, length_same, refused_at_rest, refused_requests, text_refused}
use Rattle.oram_nbd.proofs.Served.{Served, batch_answered, exchanged, read_on, stopped_at_batch, stopped_at_flush, stopped_at_replies}

-- for a device of this kind, from this state on, at the beginning of these streams
module _ {D W E : Type 0} (kind : DeviceKind D W E) (old : D) (from : Streams) where
  -- a batch was read
  module _ (count : ℕ) (mid : D) (now : Streams) (unread : Option (List ℕ)) (size : ℕ) (requests : List Request) (ops : List Operation) (close : Close) (s : Served kind old from count mid now []) (same : kind.size mid ≡ kind.size old)
      (h : HasGathered size requests ops close now.unread unread) where
    was_read : Served kind old from count mid (streams unread now.written) (whole_requests_text h.arrived ++ h.part)
    was_read = read_on kind old from count mid now [] s unread (whole_requests_text h.arrived ++ h.part) refl h.read

    -- and answered
    pub batch_served : (new : D) (written : Option (List ℕ)) → (kind.failed mid → kind.failed new) → EndsBatch kind mid new h.arrived now.written written
        → Served kind old from (count + length requests) new (streams unread written) h.part
    batch_served new written still e =
        let a : HasRepliedToAll kind (kind.size old) mid new h.arrived e.0 = at_size same e.1 in
        let many : length e.0 ≡ length requests = length_same h.arrived e.0 a.same ∙ sym (length-map h.arrived (λ (x : WholeRequest). x.request)) ∙ ap length h.collected.same in
        subst (λ (n : ℕ). Served kind old from (count + n) new (streams unread written) h.part) many
        (batch_answered kind old from count mid (streams unread now.written) (whole_requests_text h.arrived ++ h.part) was_read new written h.arrived e.0 h.part refl still a e.2)

    -- or its replies weren't written, or the device stopped
    pub batch_broken : (new : D) (written : Option (List ℕ)) (f : NbdFault) → BreaksBatch kind mid new h.arrived f now.written written
        → StopsServing kind old new f from (streams unread written)
    batch_broken new written f (inl b) =
        let a : HasRepliedToAll kind (kind.size old) mid new h.arrived b.1.0 = at_size same b.1.1 in
        subst (λ (g : NbdFault). StopsServing kind old new g from (streams unread written)) (sym b.0)
        (stopped_at_replies kind old from count mid (streams unread now.written) (whole_requests_text h.arrived ++ h.part) was_read new written h.arrived b.1.0 h.part b.1.2.0 refl (behind_ends close h.part unread h.ends) a b.1.2.1)
    batch_broken new written f (inr b) =
        let begun : HasBegun kind (kind.size old) mid new h.arrived = begun_at_size same b.1.0 in
        subst (λ (g : NbdFault). StopsServing kind old new g from (streams unread written)) (sym b.0)
        (subst (λ (w : Option (List ℕ)). StopsServing kind old new fault.Stopped from (streams unread w)) (sym b.1.1)
        (stopped_at_batch kind old from count mid (streams unread now.written) (whole_requests_text h.arrived ++ h.part) was_read new h.arrived h.part refl (behind_ends close h.part unread h.ends) h.collected.all begun))

  module _ (count : ℕ) (mid : D) (now : Streams) (part : List ℕ) (s : Served kind old from count mid now part) where
    -- the request for which there was no memory, if there is one, is refused
    module _ (size : ℕ) (same : size ≡ kind.size old) (sized : (may_lie : Bool) (world : W) (bytes : List ℕ) → kind.holds may_lie mid world bytes → length bytes ≡ kind.size old)
        (honest : (world : W) (bytes : List ℕ) → kind.holds false mid world bytes → kind.failed mid → ⊥) (e : NbdError) (uncalled : IsUncalled (kind.failed mid) e) (close : Close) (arrived : List WholeRequest) (rest : List ℕ)
        (k : IsWithoutMemory close part now.unread arrived rest) where
      refusal : HasRepliedToAll kind (kind.size old) mid mid arrived (refused_requests (kind.size old) arrived e)
      refusal = refused_at_rest (kind.size old) mid arrived e sized honest uncalled k.all

      its_text : refusals_text size (map (λ (a : WholeRequest). a.request) arrived) e ≡ replies_text (refused_requests (kind.size old) arrived e)
      its_text = ap (λ (n : ℕ). refusals_text n (map (λ (a : WholeRequest). a.request) arrived) e) same
          ∙ text_refused (kind.size old) arrived e (map (λ (a : WholeRequest). a.request) arrived) (map (λ (a : WholeRequest). a.request) arrived) refl refl

      pub without_memory_served : (number : ℕ) (written : Option (List ℕ)) → length arrived ≡ number → Appends now.written written (refusals_text size (map (λ (a : WholeRequest). a.request) arrived) e)
          → Served kind old from (count + number) mid (streams now.unread written) rest
      without_memory_served number written many wrote =
          subst (λ (n : ℕ). Served kind old from (count + n) mid (streams now.unread written) rest) (length_same arrived (refused_requests (kind.size old) arrived e) refusal.same ∙ many)
          (batch_answered kind old from count mid now part s mid written arrived (refused_requests (kind.size old) arrived e) rest k.split (λ f. f) refusal (subst (Appends now.written written) its_text wrote))

      pub without_memory_broken : (written : Option (List ℕ)) → IsBegunText now.written written (refusals_text size (map (λ (a : WholeRequest). a.request) arrived) e)
          → StopsServing kind old mid fault.Write from (streams now.unread written)
      without_memory_broken written begun =
          let b : IsBegunText now.written written (replies_text (refused_requests (kind.size old) arrived e)) = subst (IsBegunText now.written written) its_text begun in
          stopped_at_replies kind old from count mid now part s mid written arrived (refused_requests (kind.size old) arrived e) rest b.0 k.split (behind_left close rest now.unread k.left) refusal b.1

    pub recounted : (n : ℕ) → count ≡ n → Served kind old from n mid now part
    recounted n same = subst (λ (k : ℕ). Served kind old from k mid now part) same s

    -- nothing is left that was read
    pub all_done : part ≡ [] → Served kind old from count mid now []
    all_done none = subst (λ (l : List ℕ). Served kind old from count mid now l) none s

    -- the writer was flushed
    pub flushed : (written : Option (List ℕ)) → Keeps now.written written → Served kind old from count mid (streams now.unread written) part
    flushed written keeps = record {
      answered = s.answered;
      many = s.many;
      served = s.served;
      still = s.still;
      reported = s.reported;
      read = s.read;
      wrote = Appends-kept from.written now.written written (replies_text s.answered) s.wrote keeps;
    }

    -- or not
    pub flush_broken : IsBehind part → StopsServing kind old mid fault.Write from now
    flush_broken behind = stopped_at_flush kind old from count mid now part s behind

    -- the client left, or the input broke off
    pub transmitted : IsLast now.unread part → HasTransmitted kind old mid count from now
    transmitted last = record {
      answered = s.answered;
      last = part;
      all = s.many;
      served = s.served;
      exchanged = exchanged kind old from count mid now part s;
      ended = last;
    }

    pub cut_off : (f : NbdFault) → IsCutOff f part now.unread → StopsServing kind old mid f from now
    cut_off fault.Read cut = (s.answered, part, s.served, exchanged kind old from count mid now part s, cut)
    cut_off fault.Truncated cut = (s.answered, part, s.served, exchanged kind old from count mid now part s, cut)
    cut_off fault.Magic cut = (s.answered, part, s.served, exchanged kind old from count mid now part s, cut)
    cut_off fault.Write cut = absurd cut
    cut_off fault.UnknownFlags cut = absurd cut
    cut_off fault.UnknownExport cut = absurd cut
    cut_off fault.TooManyOptions cut = absurd cut
    cut_off fault.OutOfMemory cut = absurd cut
    cut_off fault.Stopped cut = absurd cut
