-- Beside an honest host, its stamps stand where a process and the next one expect them.
use Rattle.std.proofs.Common.{◌≡◌, true, false, ℕ, ◌+◌, ◌-◌, ◌<◌, ◌≤◌, arith, List, [], ◌∷◌, ◌++◌, length, drop, get_or, refl, sym, ap, ◌∙◌, subst, inl, inr, length-append, length-drop}
use Rattle.std.proofs.lemmas.List.{get_or_append_left, get_or_default, get_or-drop}
use Rattle.std.proofs.Math.Seq.{get_or-append_seam}
use Rattle.std.specs.List.{FoldsTo}
use Rattle.oram_stamps.specs.Known.{Covers, EndsIn, IsSent, IsTakenOver, MayShow, StandsAt, Stamps, answered, first_stamp, kept, next_number, next_stamp, seen, sent, settled}
use Rattle.oram_stamps.specs.Lives.{Event, Happens, HostFile, Life, Message, NewestStatesPass, after, batch, carried_out, new_life}
use Rattle.oram_stamps.specs.Lives.Event.{Keeps, Sends, Arrives, Refuses, Breaks, Answers, Shows, Restarts}
use Rattle.oram_stamps.specs.Lives.Message.{Puts, Stores}
use Rattle.oram_stamps.specs.Note.{restarted}
use Rattle.oram_stamps.specs.declared.stamp.Place.TheVariants.{Begun, Done}
use Rattle.oram_stamps.specs.declared.stamp.Shown.{Shown}
use Rattle.oram_stamps.specs.declared.stamp.Stamp.{Stamp}

-- the messages on their way put stamps of keepings that stand in the list, each not before the one that the place has by then
abbrev Coming : List Stamp → ℕ → ℕ → List Message → Type 0
Coming may begun done [] = Unit {0}
Coming may begun done (Puts Begun s ∷ way) = (i : ℕ) × StandsAt may i s × (begun ≤ i) × Coming may i done way
Coming may begun done (Puts Done s ∷ way) = (i : ℕ) × StandsAt may i s × (done ≤ i) × (i ≤ begun) × Coming may begun i way
Coming may begun done (Stores s ∷ way) = Coming may begun done way

record Fits (k : Stamps) (host : Shown) (way : List Message) : Type 0 where
  begun : ℕ
  done : ℕ
  allowed : MayShow k host begun done
  coming : Coming k.may begun done way

-- what holds all the time
record Holds (w : Life) : Type 0 where
  live : Fits w.live w.host.shown w.way
  file : Fits w.file w.host.shown w.way
  own : EndsIn w.file.may (next_stamp w.file)
  ends : EndsIn w.file.may (next_stamp w.live)

stands_more : (xs ys : List Stamp) (i : ℕ) (s : Stamp) → StandsAt xs i s → StandsAt (xs ++ ys) i s
stands_more xs ys i s at = (omega (arith, at.0, length-append xs ys), subst (λ (x : Stamp). Covers x s) (sym (get_or_append_left xs ys s i at.0)) at.1)

stands_drop : (n : ℕ) (xs : List Stamp) (i : ℕ) (s : Stamp) → n ≤ i → StandsAt xs i s → StandsAt (drop n xs) (i - n) s
stands_drop n xs i s le at =
    let back : n + (i - n) ≡ i = omega arith in
    (omega (arith, at.0, length-drop n xs), subst (λ (x : Stamp). Covers x s) (sym (get_or-drop n xs (i - n) s ∙ ap (λ (j : ℕ). get_or xs j s) back)) at.1)

ends_more : (xs : List Stamp) (s t : Stamp) → Covers s t → EndsIn (xs ++ s ∷ []) t
ends_more xs s t covers =
    let last : length (xs ++ s ∷ []) - 1 ≡ length xs = omega (arith, length-append xs (s ∷ [])) in
    let is : get_or (xs ++ s ∷ []) (length (xs ++ s ∷ []) - 1) t ≡ s = ap (λ (j : ℕ). get_or (xs ++ s ∷ []) j t) last ∙ get_or-append_seam xs s [] t in
    (omega (arith, length-append xs (s ∷ [])), subst (λ (x : Stamp). Covers x t) (sym is) covers)

-- a later batch of the same keeping
ends_later : (xs : List Stamp) (s t : Stamp) → EndsIn xs s → t.check ≡ s.check → s.number ≤ t.number → EndsIn xs t
ends_later xs s t ends same le =
    let i : ℕ = length xs - 1 in
    let covers : Covers (get_or xs i s) t = (same ∙ ends.1.0, omega (arith, ends.1.1, le)) in
    (ends.0, subst (λ (x : Stamp). Covers x t) (get_or_default xs i s t ends.0) covers)

coming_more : (xs ys : List Stamp) (b d : ℕ) (way : List Message) → Coming xs b d way → Coming (xs ++ ys) b d way
coming_more xs ys b d [] c = tt
coming_more xs ys b d (Puts Begun s ∷ way) c = (c.0, stands_more xs ys c.0 s c.1, c.2, coming_more xs ys c.0 d way c.3)
coming_more xs ys b d (Puts Done s ∷ way) c = (c.0, stands_more xs ys c.0 s c.1, c.2, c.3, coming_more xs ys b c.0 way c.4)
coming_more xs ys b d (Stores s ∷ way) c = coming_more xs ys b d way c

coming_drop : (n : ℕ) (xs : List Stamp) (b d : ℕ) (way : List Message) → n ≤ b → n ≤ d → Coming xs b d way → Coming (drop n xs) (b - n) (d - n) way
coming_drop n xs b d [] le_b le_d c = tt
coming_drop n xs b d (Puts Begun s ∷ way) le_b le_d c =
    let le : n ≤ c.0 = omega (arith, c.2) in
    (c.0 - n, stands_drop n xs c.0 s le c.1, omega (arith, c.2), coming_drop n xs c.0 d way le le_d c.3)
coming_drop n xs b d (Puts Done s ∷ way) le_b le_d c =
    let le : n ≤ c.0 = omega (arith, c.2) in
    (c.0 - n, stands_drop n xs c.0 s le c.1, omega (arith, c.2), omega (arith, c.3), coming_drop n xs b c.0 way le_b le c.4)
coming_drop n xs b d (Stores s ∷ way) le_b le_d c = coming_drop n xs b d way le_b le_d c

-- one more batch is sent
coming_sent : (xs : List Stamp) (s : Stamp) (b d : ℕ) (way : List Message) → EndsIn xs s → b < length xs → d ≤ b → Coming xs b d way → Coming xs b d (way ++ batch s)
coming_sent xs s b d [] ends low order c =
    (length xs - 1, ends, omega arith, (length xs - 1, ends, omega arith, omega arith, tt))
coming_sent xs s b d (Puts Begun t ∷ way) ends low order c = (c.0, c.1, c.2, coming_sent xs s c.0 d way ends c.1.0 (omega (arith, c.2)) c.3)
coming_sent xs s b d (Puts Done t ∷ way) ends low order c = (c.0, c.1, c.2, c.3, coming_sent xs s b c.0 way ends low c.3 c.4)
coming_sent xs s b d (Stores t ∷ way) ends low order c = coming_sent xs s b d way ends low order c

-- a keeping more at the end, and some fewer at the front
fits_sent : (k : Stamps) (host : Shown) (way : List Message) → Fits k host way → Fits (sent k) host way
fits_sent k host way f =
    let m = f.allowed in
    let le_b : k.done ≤ f.begun = omega (arith, m.done_since, m.in_order) in
    let one : List Stamp = next_stamp k ∷ [] in
    record {
      begun = f.begun - k.done;
      done = f.done - k.done;
      allowed = record {
        begun_at = stands_more (drop k.done k.may) one (f.begun - k.done) host.begun (stands_drop k.done k.may f.begun host.begun le_b m.begun_at);
        done_at = stands_more (drop k.done k.may) one (f.done - k.done) host.done (stands_drop k.done k.may f.done host.done m.done_since m.done_at);
        begun_since = omega (arith, m.begun_since);
        done_since = omega arith;
        in_order = omega (arith, m.in_order);
      };
      coming = coming_more (drop k.done k.may) one (f.begun - k.done) (f.done - k.done) way (coming_drop k.done k.may f.begun f.done way le_b m.done_since f.coming);
    }

-- another stamp for the next batch
fits_current : (k : Stamps) (s : Stamp) (host : Shown) (way : List Message) → Fits k host way → Fits (record k { current = s }) host way
fits_current k s host way f =
    let m = f.allowed in
    record {
      begun = f.begun;
      done = f.done;
      allowed = record { begun_at = m.begun_at; done_at = m.done_at; begun_since = m.begun_since; done_since = m.done_since; in_order = m.in_order };
      coming = f.coming;
    }

fits_batch : (k : Stamps) (host : Shown) (way : List Message) (s : Stamp) → EndsIn k.may s → Fits k host way → Fits k host (way ++ batch s)
fits_batch k host way s ends f = record {
  begun = f.begun;
  done = f.done;
  allowed = f.allowed;
  coming = coming_sent k.may s f.begun f.done way ends f.allowed.begun_at.0 f.allowed.in_order f.coming;
}

fits_arrived : (k : Stamps) (host : HostFile) (next : Message) (rest : List Message) → Fits k host.shown (next ∷ rest) → Fits k (after host next).shown rest
fits_arrived k host (Puts Begun s) rest f =
    let m = f.allowed in
    let c = f.coming in
    record {
      begun = c.0;
      done = f.done;
      allowed = record { begun_at = c.1; done_at = m.done_at; begun_since = omega (arith, m.begun_since, c.2); done_since = m.done_since; in_order = omega (arith, m.in_order, c.2) };
      coming = c.3;
    }
fits_arrived k host (Puts Done s) rest f =
    let m = f.allowed in
    let c = f.coming in
    record {
      begun = f.begun;
      done = c.0;
      allowed = record { begun_at = m.begun_at; done_at = c.1; begun_since = m.begun_since; done_since = omega (arith, m.done_since, c.2); in_order = c.3 };
      coming = c.4;
    }
fits_arrived k host (Stores s) rest f = record { begun = f.begun; done = f.done; allowed = f.allowed; coming = f.coming }

fits_refused : (k : Stamps) (host : Shown) (s : Stamp) (rest : List Message) → Fits k host (Stores s ∷ rest) → Fits k host rest
fits_refused k host s rest f = record { begun = f.begun; done = f.done; allowed = f.allowed; coming = f.coming }

fits_broken : (k : Stamps) (host : Shown) (way : List Message) → Fits k host way → Fits k host []
fits_broken k host way f = record { begun = f.begun; done = f.done; allowed = f.allowed; coming = tt }

fits_settled : (s : Stamp) → Fits (settled s) (carried_out s).shown []
fits_settled s =
    let at : StandsAt (s ∷ []) 0 s = (omega arith, (refl, omega arith)) in
    record {
      begun = 0;
      done = 0;
      allowed = record { begun_at = at; done_at = at; begun_since = omega arith; done_since = omega arith; in_order = omega arith };
      coming = tt;
    }

fits_shown : (k k' : Stamps) (host : Shown) → Fits k host [] → IsTakenOver k host k' → Fits k' host []
fits_shown k k' host f t =
    let m = f.allowed in
    let least = t.first f.begun f.done m in
    let now : Stamps = record k { begun = t.begun; done = t.done; current = seen k.current host } in
    let held : Fits now host [] = record {
      begun = f.begun;
      done = f.done;
      allowed = record { begun_at = m.begun_at; done_at = m.done_at; begun_since = least.0; done_since = least.1; in_order = m.in_order };
      coming = tt;
    } in
    subst (λ (x : Stamps). Fits x host []) (sym t.after) held

-- the stamp of the batch is the next one
pub sent_current : (k k' : Stamps) → IsSent k k' → k'.current ≡ next_stamp k
sent_current k k' (inl is) = ap (λ (x : Stamps). x.current) is.1
sent_current k k' (inr is) = ap (λ (x : Stamps). x.current) is.1

-- the last keeping has a batch with the stamp that was sent, and the rest is as before
sent_known : (k k' : Stamps) (host : Shown) (way : List Message) → IsSent k k' → Fits k host way → Fits k' host (way ++ batch (next_stamp k))
sent_known k k' host way (inl is) f =
    let s = next_stamp k in
    let held : Fits (record k { current = s }) host (way ++ batch s) = fits_batch (record k { current = s }) host way s is.0 (fits_current k s host way f) in
    subst (λ (x : Stamps). Fits x host (way ++ batch s)) (sym is.1) held
sent_known k k' host way (inr is) f =
    let s = next_stamp k in
    let held : Fits (sent k) host (way ++ batch s) = fits_batch (sent k) host way s (ends_more (drop k.done k.may) s s (refl, omega arith)) (fits_sent k host way f) in
    subst (λ (x : Stamps). Fits x host (way ++ batch s)) (sym is.1) held

-- what was kept last ends in its own keeping
own_ends : (k : Stamps) (check : ℕ) → EndsIn (restarted k check).may (next_stamp (restarted k check))
own_ends k check =
    let s : Stamp = record { number = next_number k.current.number; check = check } in
    let t : Stamp = record { number = next_number s.number; check = check } in
    ends_more (drop k.done k.may) s t (refl, omega arith)

holds_on : (w : Life) (e : Event) (x : Life) → Holds w → Happens w e x → Holds x
holds_on w (Keeps check) x h is =
    let later = kept w.live check in
    let fits : Fits later w.host.shown w.way = fits_current w.live later.current w.host.shown w.way h.live in
    let s : Stamp = next_stamp later in
    let held : Holds (record w { live = later; file = restarted w.live check }) = record {
      live = fits;
      file = fits_sent later w.host.shown w.way fits;
      own = own_ends w.live check;
      ends = ends_more (drop w.live.done w.live.may) s s (refl, omega arith);
    } in
    subst Holds (sym is) held
holds_on w Sends x h is =
    let live = is.1.0 in
    let stamp = next_stamp w.live in
    let now : live.current ≡ stamp = sent_current w.live live is.1.1 in
    let held : Holds (record w { live = live; way = w.way ++ batch stamp }) = record {
      live = sent_known w.live live w.host.shown w.way is.1.1 h.live;
      file = fits_batch w.file w.host.shown w.way stamp h.ends h.file;
      own = h.own;
      ends = subst (λ (s : Stamp). EndsIn w.file.may (record { number = next_number s.number; check = s.check })) (sym now)
          (ends_later w.file.may stamp (record { number = next_number stamp.number; check = stamp.check }) h.ends refl (omega arith));
    } in
    subst Holds (sym (is.1.2 ∙ ap (λ (s : Stamp). record w { live = live; way = w.way ++ batch s }) now)) held
holds_on w Arrives x h is =
    let held : Holds (record w { host = after w.host is.0; way = is.1 }) = record {
      live = fits_arrived w.live w.host is.0 is.1 (subst (λ (way : List Message). Fits w.live w.host.shown way) is.2 h.live);
      file = fits_arrived w.file w.host is.0 is.1 (subst (λ (way : List Message). Fits w.file w.host.shown way) is.2 h.file);
      own = h.own;
      ends = h.ends;
    } in
    subst Holds (sym is.3) held
holds_on w Refuses x h is =
    let held : Holds (record w { way = is.1 }) = record {
      live = fits_refused w.live w.host.shown is.0 is.1 (subst (λ (way : List Message). Fits w.live w.host.shown way) is.2 h.live);
      file = fits_refused w.file w.host.shown is.0 is.1 (subst (λ (way : List Message). Fits w.file w.host.shown way) is.2 h.file);
      own = h.own;
      ends = h.ends;
    } in
    subst Holds (sym is.3) held
holds_on w Breaks x h is =
    let held : Holds (record w { connected = false; way = [] }) = record {
      live = fits_broken w.live w.host.shown w.way h.live;
      file = fits_broken w.file w.host.shown w.way h.file;
      own = h.own;
      ends = h.ends;
    } in
    subst Holds (sym is) held
holds_on w Answers x h is =
    let live : Fits (answered w.live) w.host.shown [] =
    subst (λ (host : HostFile). Fits (answered w.live) host.shown []) (sym is.1) (fits_settled w.live.current) in
    let held : Holds (record w { live = answered w.live }) = record {
      live = subst (λ (way : List Message). Fits (answered w.live) w.host.shown way) (sym is.0) live;
      file = h.file;
      own = h.own;
      ends = h.ends;
    } in
    subst Holds (sym is.2) held
holds_on w Shows x h is =
    let live : Fits is.0 w.host.shown [] = fits_shown w.live is.0 w.host.shown (subst (λ (way : List Message). Fits w.live w.host.shown way) is.1 h.live) is.2 in
    let now : Stamp = seen w.live.current w.host.shown in
    let later : EndsIn w.file.may (record { number = next_number now.number; check = now.check }) =
    ends_later w.file.may (next_stamp w.live) (record { number = next_number now.number; check = now.check }) h.ends refl (omega arith) in
    let held : Holds (record w { live = is.0; connected = true }) = record {
      live = subst (λ (way : List Message). Fits is.0 w.host.shown way) (sym is.1) live;
      file = h.file;
      own = h.own;
      ends = subst (λ (k : Stamps). EndsIn w.file.may (next_stamp k)) (sym is.2.after) later;
    } in
    subst Holds (sym is.3) held
holds_on w Restarts x h is =
    let held : Holds (record w { live = w.file; connected = false }) = record { live = h.file; file = h.file; own = h.own; ends = h.own } in
    subst Holds (sym is) held

hold_all : (w : Life) (events : List Event) (x : Life) → Holds w → FoldsTo Happens w events x → Holds x
hold_all w [] x h is = subst Holds is h
hold_all w (e ∷ events) x h is = hold_all is.0 events x (holds_on w e is.0 h is.1) is.2

new_holds : (check : ℕ) → Holds (new_life check)
new_holds check =
    let start = fits_settled first_stamp in
    let known = kept (settled first_stamp) check in
    let fits : Fits (restarted (settled first_stamp) check) (carried_out first_stamp).shown [] =
    fits_sent known (carried_out first_stamp).shown [] (fits_current (settled first_stamp) known.current (carried_out first_stamp).shown [] start) in
    record { live = fits; file = fits; own = own_ends (settled first_stamp) check; ends = own_ends (settled first_stamp) check }

pub newest_pass : NewestStatesPass
newest_pass check events w is none =
    let h = hold_all (new_life check) events w (new_holds check) is in
    (h.live.begun, h.live.done, h.live.allowed)
