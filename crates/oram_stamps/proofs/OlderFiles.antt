-- Each batch has a number that is greater than all that the host has had before, so a file of the host is told from an older one.
use Rattle.std.proofs.Common.{◌≡◌, ◌≢◌, ◌⊎◌, true, false, ℕ, zero, suc, ◌+◌, ◌<◌, ◌≤◌, ◌^◌, arith, List, [], ◌∷◌, ◌++◌, length, refl, sym, ap, ◌∙◌, subst, inl, inr, max}
use Rattle.std.specs.List.{FoldsTo, slice_get}
use Rattle.oram_stamps.specs.Known.{IsMismatch, IsUnknown, StandsAt, Stamps, begun_number, next_number, next_stamp, number_of, settled}
use Rattle.oram_stamps.specs.Lives.{Event, Happens, HostFile, Life, Message, OlderFilesAreRefused, after, batch, carried_out, new_life}
use Rattle.oram_stamps.specs.Lives.Event.{Keeps, Sends, Arrives, Refuses, Breaks, Answers, Shows, Restarts}
use Rattle.oram_stamps.specs.Lives.Message.{Puts, Stores}
use Rattle.oram_stamps.specs.Note.{restarted}
use Rattle.oram_stamps.specs.declared.known.Mismatch.TheVariants.{OlderHost}
use Rattle.oram_stamps.specs.declared.stamp.Place.TheVariants.{Begun, Done}
use Rattle.oram_stamps.specs.declared.stamp.Stamp.{Stamp}
use Rattle.oram_stamps.proofs.Lives.{sent_current}

-- The numbers on the way rise, from those that the host has begun and done by then, up to this one.
abbrev Rising : ℕ → ℕ → ℕ → List Message → Type 0
Rising top begun done [] = (begun ≤ top) × (done ≤ top)
Rising top begun done (Puts Begun s ∷ way) = (begun < s.number) × Rising top s.number done way
Rising top begun done (Puts Done s ∷ way) = (done < s.number) × Rising top begun s.number way
Rising top begun done (Stores s ∷ way) = (done < s.number) × Rising top begun done way

-- After some events no number is greater than one more than their count. Over a connection the process knows a number that is as great as
-- all that the host has, and that are on their way.
record Numbered (count : ℕ) (w : Life) : Type 0 where
  top : ℕ
  rising : Rising top w.host.shown.begun.number w.host.shown.done.number w.way
  few : top ≤ count + 1
  live : w.live.current.number ≤ count + 1
  file : w.file.current.number ≤ count + 1
  over : w.connected ≡ true → top ≤ w.live.current.number

-- one more batch, with a greater number
rising_more : (top begun done : ℕ) (way : List Message) (s : Stamp) → Rising top begun done way → top < s.number → Rising s.number begun done (way ++ batch s)
rising_more top begun done [] s r more = (omega (arith, r.0, more), (omega (arith, r.1, more), (omega (arith, r.1, more), (omega arith, omega arith))))
rising_more top begun done (Puts Begun t ∷ way) s r more = (r.0, rising_more top t.number done way s r.1 more)
rising_more top begun done (Puts Done t ∷ way) s r more = (r.0, rising_more top begun t.number way s r.1 more)
rising_more top begun done (Stores t ∷ way) s r more = (r.0, rising_more top begun done way s r.1 more)

-- what the host has isn't above the top
rising_from : (top begun done : ℕ) (way : List Message) → Rising top begun done way → (begun ≤ top) × (done ≤ top)
rising_from top begun done [] r = r
rising_from top begun done (Puts Begun t ∷ way) r =
    let rest = rising_from top t.number done way r.1 in (omega (arith, r.0, rest.0), rest.1)
rising_from top begun done (Puts Done t ∷ way) r =
    let rest = rising_from top begun t.number way r.1 in (rest.0, omega (arith, r.0, rest.1))
rising_from top begun done (Stores t ∷ way) r = rising_from top begun done way r.1

-- A file of the host, and the same one or a later one: what has changed has a greater number.
record Later (h l : HostFile) : Type 0 where
  begun : (l.shown.begun ≡ h.shown.begun) ⊎ (h.shown.begun.number < l.shown.begun.number)
  done : (l.shown.done ≡ h.shown.done) ⊎ (h.shown.done.number < l.shown.done.number)
  stored : (l.stored ≡ h.stored) ⊎ (h.shown.done.number < l.stored.number)

not_later : (h : HostFile) → Later h h
not_later h = record { begun = inl refl; done = inl refl; stored = inl refl }

-- the same stamp or a later one
abbrev Next : Stamp → Stamp → Type 0
Next s t = (t ≡ s) ⊎ (s.number < t.number)

next_le : (s t : Stamp) → Next s t → s.number ≤ t.number
next_le s t (inl same) = omega (arith, ap (λ (x : Stamp). x.number) same)
next_le s t (inr more) = omega (arith, more)

next_next : (r s t : Stamp) → Next r s → Next s t → Next r t
next_next r s t (inl same) (inl too) = inl (too ∙ same)
next_next r s t (inl same) (inr more) = inr (omega (arith, more, ap (λ (x : Stamp). x.number) same))
next_next r s t (inr more) next = inr (omega (arith, more, next_le s t next))

stored_later : (n m : ℕ) (r s t : Stamp) → n ≤ m → (s ≡ r) ⊎ (n < s.number) → (t ≡ s) ⊎ (m < t.number) → (t ≡ r) ⊎ (n < t.number)
stored_later n m r s t le (inl same) (inl too) = inl (too ∙ same)
stored_later n m r s t le (inr more) (inl too) = inr (omega (arith, more, ap (λ (x : Stamp). x.number) too))
stored_later n m r s t le first (inr more) = inr (omega (arith, le, more))

later_later : (g h l : HostFile) → Later g h → Later h l → Later g l
later_later g h l one two = record {
  begun = next_next g.shown.begun h.shown.begun l.shown.begun one.begun two.begun;
  done = next_next g.shown.done h.shown.done l.shown.done one.done two.done;
  stored = stored_later g.shown.done.number h.shown.done.number g.stored h.stored l.stored (next_le g.shown.done h.shown.done one.done) one.stored two.stored;
}

-- the next message arrives
later_after : (top : ℕ) (h : HostFile) (next : Message) (way : List Message) → Rising top h.shown.begun.number h.shown.done.number (next ∷ way)
    → Later h (after h next) × Rising top (after h next).shown.begun.number (after h next).shown.done.number way
later_after top h (Puts Begun s) way r = (record { begun = inr r.0; done = inl refl; stored = inl refl }, r.1)
later_after top h (Puts Done s) way r = (record { begun = inl refl; done = inr r.0; stored = inl refl }, r.1)
later_after top h (Stores s) way r = (record { begun = inl refl; done = inl refl; stored = inr r.0 }, r.1)

-- each event keeps the numbers, and leaves the host as it was or changes it for the later
abbrev Goes : ℕ → Life → Life → Type 0
Goes count w x = Numbered (suc count) x × Later w.host x.host

goes_on : (count : ℕ) (w : Life) (e : Event) (x : Life) → count + 3 < 2 ^ 64 → Numbered count w → Happens w e x → Goes count w x
goes_on count w (Keeps check) x few n is =
    let k = restarted w.live check in
    let numbered : Numbered (suc count) (record w { live = record w.live { current = record { number = w.live.current.number; check = check } }; file = k }) = record {
      top = n.top;
      rising = n.rising;
      few = omega (arith, n.few);
      live = omega (arith, n.live);
      file = omega (arith, n.live);
      over = n.over;
    } in
    subst (Goes count w) (sym is) (numbered, not_later w.host)
goes_on count w Sends x few n is =
    let live = is.1.0 in
    let stamp = next_stamp w.live in
    let now : live.current ≡ stamp = sent_current w.live live is.1.1 in
    let most : n.top ≤ w.live.current.number = n.over is.0 in
    let number : live.current.number ≡ w.live.current.number + 1 = ap (λ (s : Stamp). s.number) now ∙ omega (arith, few, n.live) in
    let numbered : Numbered (suc count) (record w { live = live; way = w.way ++ batch live.current }) = record {
      top = live.current.number;
      rising = rising_more n.top w.host.shown.begun.number w.host.shown.done.number w.way live.current n.rising (omega (arith, most, number));
      few = omega (arith, number, n.live);
      live = omega (arith, number, n.live);
      file = omega (arith, n.file);
      over = λ same. omega arith;
    } in
    subst (Goes count w) (sym is.1.2) (numbered, not_later w.host)
goes_on count w Arrives x few n is =
    let next = later_after n.top w.host is.0 is.1
    (subst (λ (way : List Message). Rising n.top w.host.shown.begun.number w.host.shown.done.number way) is.2 n.rising) in
    let numbered : Numbered (suc count) (record w { host = after w.host is.0; way = is.1 }) = record {
      top = n.top;
      rising = next.1;
      few = omega (arith, n.few);
      live = omega (arith, n.live);
      file = omega (arith, n.file);
      over = n.over;
    } in
    subst (Goes count w) (sym is.3) (numbered, next.0)
goes_on count w Refuses x few n is =
    let rest = (subst (λ (way : List Message). Rising n.top w.host.shown.begun.number w.host.shown.done.number way) is.2 n.rising).1 in
    let numbered : Numbered (suc count) (record w { way = is.1 }) = record {
      top = n.top;
      rising = rest;
      few = omega (arith, n.few);
      live = omega (arith, n.live);
      file = omega (arith, n.file);
      over = n.over;
    } in
    subst (Goes count w) (sym is.3) (numbered, not_later w.host)
goes_on count w Breaks x few n is =
    let numbered : Numbered (suc count) (record w { connected = false; way = [] }) = record {
      top = n.top;
      rising = rising_from n.top w.host.shown.begun.number w.host.shown.done.number w.way n.rising;
      few = omega (arith, n.few);
      live = omega (arith, n.live);
      file = omega (arith, n.file);
      over = λ same. absurd cc;
    } in
    subst (Goes count w) (sym is) (numbered, not_later w.host)
goes_on count w Answers x few n is =
    let numbered : Numbered (suc count) (record w { live = settled w.live.current }) = record {
      top = n.top;
      rising = n.rising;
      few = omega (arith, n.few);
      live = omega (arith, n.live);
      file = omega (arith, n.file);
      over = n.over;
    } in
    subst (Goes count w) (sym is.2) (numbered, not_later w.host)
goes_on count w Shows x few n is =
    let begun : ℕ = w.host.shown.begun.number in
    let done : ℕ = w.host.shown.done.number in
    let low = rising_from n.top begun done w.way n.rising in
    let now : is.0.current.number ≡ max w.live.current.number (max begun done) = ap (λ (k : Stamps). k.current.number) is.2.after in
    let none : Rising (max begun done) begun done [] = (omega arith, omega arith) in
    let numbered : Numbered (suc count) (record w { live = is.0; connected = true }) = record {
      top = max begun done;
      rising = subst (λ (way : List Message). Rising (max begun done) begun done way) (sym is.1) none;
      few = omega (arith, n.few, low.0, low.1);
      live = omega (arith, n.live, n.few, low.0, low.1, now);
      file = omega (arith, n.file);
      over = λ same. omega (arith, now);
    } in
    subst (Goes count w) (sym is.3) (numbered, not_later w.host)
goes_on count w Restarts x few n is =
    let numbered : Numbered (suc count) (record w { live = w.file; connected = false }) = record {
      top = n.top;
      rising = n.rising;
      few = omega (arith, n.few);
      live = omega (arith, n.file);
      file = omega (arith, n.file);
      over = λ same. absurd cc;
    } in
    subst (Goes count w) (sym is) (numbered, not_later w.host)

-- some events
record Went (count : ℕ) (w x : Life) : Type 0 where
  numbered : Numbered count x
  later : Later w.host x.host

goes_all : (count : ℕ) (w : Life) (events : List Event) (x : Life) → count + length events + 2 < 2 ^ 64 → Numbered count w → FoldsTo Happens w events x
    → Went (count + length events) w x
goes_all count w [] x few n is =
    let same : Went count w w = record { numbered = n; later = not_later w.host } in
    let counted : count ≡ count + 0 = omega arith in
    subst (λ (c : ℕ). Went c w x) counted (subst (Went count w) is same)
goes_all count w (e ∷ events) x few n is =
    let step = goes_on count w e is.0 (omega (arith, few)) n is.1 in
    let rest = goes_all (suc count) is.0 events x (omega (arith, few)) step.0 is.2 in
    let counted : suc count + length events ≡ count + suc (length events) = omega arith in
    let went : Went (suc count + length events) w x = record { numbered = rest.numbered; later = later_later w.host is.0.host x.host step.1 rest.later } in
    subst (λ (c : ℕ). Went c w x) counted went

new_numbered : (check : ℕ) → Numbered 0 (new_life check)
new_numbered check = record { top = 0; rising = (omega arith, omega arith); few = omega arith; live = omega arith; file = omega arith; over = λ same. absurd cc }

-- an earlier file that lacks a STORE of the batch with this stamp
module _ (h : HostFile) (s : Stamp) (later : Later h (carried_out s)) (lacks : h.stored ≢ s) where
  not_done : ¬ (s.number ≤ h.shown.done.number)
  not_done le = elim later.stored [ inl same ↦ lacks (sym same) | inr more ↦ (let no : ⊥ = omega (arith, le, more) in no) ]

  done_low : h.shown.done.number ≤ s.number
  done_low = next_le h.shown.done s later.done

  begun_same : s.number ≤ h.shown.begun.number → s ≡ h.shown.begun
  begun_same le = elim later.begun [ inl same ↦ same | inr more ↦ absurd (omega (arith, le, more)) ]

  -- it isn't a file that this client doesn't know
  known : (k : Stamps) (rest : List Stamp) → k.may ≡ s ∷ rest → k.begun ≡ 0 → ¬ IsUnknown k h.shown.begun
  known k rest may front u =
      let first : begun_number k ≡ s.number = ap (λ (i : ℕ). number_of (slice_get k.may i)) front ∙ ap (λ (may' : List Stamp). number_of (slice_get may' 0)) may in
      let number : s.number ≤ h.shown.begun.number = omega (arith, first, u.later) in
      let same = begun_same number in
      u.new 0 (omega (arith, front)) (subst (λ (t : Stamp). StandsAt k.may 0 t) same (subst (λ (may' : List Stamp). StandsAt may' 0 s) (sym may) (omega arith, (refl, omega arith))))

  refused : IsMismatch (settled s) h.shown OlderHost
  refused = (known (settled s) [] refl refl, λ allowed. first_only allowed.1 allowed.2.done_at)
    where
      first_only : (i : ℕ) → StandsAt (s ∷ []) i h.shown.done → ⊥
      first_only zero at = not_done at.1.1
      first_only (suc i) at = omega (arith, at.0)

  refused_next : (next : ℕ) → s.number < 2 ^ 64 → IsMismatch (restarted (settled s) next) h.shown OlderHost
  refused_next next low =
      let t : Stamp = record { number = next_number s.number; check = next } in
      (known (restarted (settled s) next) (t ∷ []) refl refl, λ allowed. neither allowed.1 allowed.2.done_at)
    where
      neither : (i : ℕ) → StandsAt (s ∷ record { number = next_number s.number; check = next } ∷ []) i h.shown.done → ⊥
      neither zero at = not_done at.1.1
      neither (suc zero) at = not_done (omega (arith, at.1.1, low))
      neither (suc (suc i)) at = omega (arith, at.0)

pub older_files_are_refused : OlderFilesAreRefused
older_files_are_refused check before later w x y first second is few lacks =
    let one = goes_all 0 (new_life check) before w (omega (arith, few)) (new_numbered check) first in
    let two = goes_all (0 + length before) w later x (omega (arith, few)) one.numbered second in
    let s : Stamp = x.live.current in
    let low : s.number < 2 ^ 64 = omega (arith, two.numbered.live, few) in
    let went : Later w.host (carried_out s) = subst (Later w.host) is.1 two.later in
    let lacks_it : w.host.stored ≢ s = λ same. lacks (same ∙ sym (ap (λ (l : Life). l.live.current) is.2)) in
    let known : y.live ≡ settled s = ap (λ (l : Life). l.live) is.2 in (
      subst (λ (k : Stamps). IsMismatch k w.host.shown OlderHost) (sym known) (refused w.host s went lacks_it),
      λ next. subst (λ (k : Stamps). IsMismatch (restarted k next) w.host.shown OlderHost) (sym known) (refused_next w.host s went lacks_it next low),
    )
