-- A run that is given up within a line.
use Rattle.std.proofs.Common.{◌≡◌, ◌⊎◌, inl, inr, ℕ, ◌+◌, true, false, List, [], ◌∷◌, ◌++◌, length, Option, Some, None, Result, Ok, Err, refl, sym, ap, ◌∙◌, subst, append_assoc, append-nil}
use Rattle.std.specs.Prelude.{is_some, IfErr, IsErrAnd}
use Rattle.std.specs.Io.KnownBytes.{Appends}
use Rattle.std.specs.List.{FoldsTo}
use Rattle.std.proofs.KnownBytes.{Appends-trans, Appends-nil}
use Rattle.std.proofs.Math.Seq.{take-append-add}
use Rattle.std.proofs.lemmas.Fn.{FoldsTo-push}
use Rattle.oram_semantics.specs.Run.{Shown}
use Rattle.oram_semantics.specs.State.{State, status_in}
use Rattle.oram_semantics.specs.declared.events.Event.{Event}
use Rattle.oram_semantics.specs.declared.events.Event.TheVariants as event
use Rattle.oramsim.specs.Printer.{reaction_text}
use Rattle.oramsim.specs.Script.{AtEvent, IsAnswered, IsDrained, Obeys, Running, after_turn, is_answer, is_meddling, left_at, newest_of, stage_text, with_host}
use Rattle.oramsim.specs.Correspondence.{GivesUp, RunsOn, IsCalm, IsFaithful, IsHalted, IsHonestAt, IsCutAt, IsUnder, IsAtRun, IsWholeMachine, Prints, PrintsPart}
use Rattle.oramsim.specs.declared.line.Line.{Line}
use Rattle.oramsim.specs.declared.line.Line.TheVariants as line
use Rattle.oramsim.specs.declared.machine.Machine.{Machine}
use Rattle.oramsim.specs.declared.script.SimFault.{SimFault}
use Rattle.oramsim.specs.declared.script.SimFault.TheVariants.{OutOfMemory, Read, Write}
use Rattle.oramsim.proofs.HostAnswers.{IsHeard, honest_at, late_at, replies_as}
use Rattle.oramsim.proofs.Drained.{some_there}
use Rattle.oramsim.proofs.Faithful.{run_right, stays_faithful, unheard}
use Rattle.oramsim.proofs.Turns.{goes_on, turn_text}

pub if_err : {T : Type 0} (P Q : SimFault → Type 0) (r : Result T SimFault) → ((e : SimFault) → P e → Q e) → IfErr r P → IfErr r Q
if_err P Q (Ok x) f p = tt
if_err P Q (Err e) f p = f e p

-- the fault that a `?` raises
pub raised : {T : Type 0} (P : SimFault → Type 0) (r : Result T SimFault) (x : SimFault) → IsErrAnd r (λ e. e ≡ x) → P x → IfErr r P
raised P (Ok t) x same p = tt
raised P (Err e) x same p = subst P (sym same) p

-- Nothing is written after a point at which memory ran out.
pub none_told : (a : List ℕ) (old new : Option (List ℕ)) → new ≡ old → PrintsPart OutOfMemory a a old new
none_told a old new same = ([], [], sym (append-nil a), refl, subst (λ w. Appends old w []) (sym same) (Appends-nil old))

left_more : (e : SimFault) (o out part : List ℕ) → IsCutAt e out part → IsCutAt e (o ++ out) (o ++ part)
left_more OutOfMemory o out part h = ap (λ l. o ++ l) h
left_more Write o out part h = (length o + h.0, ap (λ l. o ++ l) h.1 ∙ sym (take-append-add o out h.0))
left_more Read o out part h = absurd h

-- What was printed before, and then a part.
pub told_before : (e : SimFault) (a b c : List ℕ) (old mid new : Option (List ℕ)) → Prints a b old mid → PrintsPart e b c mid new → PrintsPart e a c old new
told_before e a b c old mid new p q =
    (p.0 ++ q.0, p.0 ++ q.1, q.2 ∙ (ap (λ l. l ++ q.0) p.1 ∙ append_assoc a p.0 q.0), left_more e p.0 q.0 q.1 q.3, Appends-trans old mid new p.0 q.1 p.2 q.4)

-- The same after a head that was printed before.
pub told_behind : (e : SimFault) (head a b : List ℕ) (old new : Option (List ℕ)) → PrintsPart e a b old new → PrintsPart e (head ++ a) (head ++ b) old new
told_behind e head a b old new p = (p.0, p.1, ap (λ l. head ++ l) p.2 ∙ sym (append_assoc head a p.0), p.3, p.4)

-- Memory ran out before anything was written.
pub stays : (r : Running) (m : Machine) (Unmeddled : Type 0) (To : Running → Type 0) (old new : Option (List ℕ)) → IsAtRun r m → (Unmeddled → IsCalm r) → To r → new ≡ old → GivesUp r Unmeddled To OutOfMemory old new
stays r m Unmeddled To old new f calm to same = (r, to, run_right r m f, calm, none_told (stage_text (Some r)) old new same)

-- An event that doesn't reach the host.
pub honest_unheard : (r : Running) (s : State) (ev : Event) → is_answer ev ≡ false → IsFaithful r s → IsHonestAt r s ev
honest_unheard r s ev off h = (r.host, unheard (status_in s) s.message ev r.host off, h)

pub told_cut : (r : Running) (m : Machine) (e : SimFault) (ev : Event) (t : State) (old new : Option (List ℕ)) → IsAtRun r m → IsHalted e m.core.device m.core.state ev t old new
    → GivesUp r (IsHonestAt r m.core.state ev) (λ later. (later ≡ r) ⊎ AtEvent r ev later) e old new
told_cut r m OutOfMemory ev t old new f h = stays r m (IsHonestAt r m.core.state ev) (λ later. (later ≡ r) ⊎ AtEvent r ev later) old new f (λ on. on.2.calm) (inl refl) h
told_cut r m Read ev t old new f h = absurd h
told_cut r m Write ev t old new f h =
    let x = h.0 in
    let n : Machine = record m { core = record m.core { state = t }; outstanding = newest_of x.sends (left_at ev m.outstanding) } in
    let g = goes_on r m n ev x h.1 None None f h.2 refl refl refl refl tt in
    let later = after_turn r ev x in
    (later, inr (x, refl), run_right later n g.0, (λ on. (stays_faithful r m ev x h.1 t f h.2 on.0 on.1 on.2).calm), (reaction_text x, h.3, turn_text r ev x, h.4, h.5))

pub answer_cut : (r : Running) (m n : Machine) (bytes : List ℕ) (e : SimFault) (old new : Option (List ℕ)) → IsWholeMachine m → IsAtRun r m → IsHeard m n bytes
    → GivesUp (with_host r n.server) (IsHonestAt (with_host r n.server) n.core.state (event.Answer bytes)) (λ later. (later ≡ with_host r n.server) ⊎ AtEvent (with_host r n.server) (event.Answer bytes) later) e old new
    → GivesUp r (IsFaithful r m.core.state) (λ later. (later ≡ r) ⊎ ((x : Shown) × IsAnswered r x later)) e old new
answer_cut r m n bytes e old new w f h q = elim q.1 [
  | inl same ↦ (r, inl refl, run_right r m f, (λ faithful. faithful.calm), subst (λ (k : Running). PrintsPart e (stage_text (Some r)) (stage_text (Some k)) old new) same q.4)
  | inr a ↦ (q.0, inr (a.0, (bytes, n.server, replies_as r m n bytes f h, a.1)), q.2, (λ faithful. q.3 (r.host, honest_at r m n bytes w f h, rw h.core faithful)), q.4)
]

pub late_cut : (r : Running) (m n : Machine) (bytes : List ℕ) (e : SimFault) (old new : Option (List ℕ)) → IsWholeMachine m → IsAtRun r m → IsHeard m n bytes
    → GivesUp (with_host r n.server) (IsHonestAt (with_host r n.server) n.core.state event.Lost) (λ later. (later ≡ with_host r n.server) ⊎ AtEvent (with_host r n.server) event.Lost later) e old new
    → GivesUp r (IsFaithful r m.core.state) (λ later. (later ≡ r) ⊎ Obeys r line.Late later) e old new
late_cut r m n bytes e old new w f h q = elim q.1 [
  | inl same ↦ (r, inl refl, run_right r m f, (λ faithful. faithful.calm), subst (λ (k : Running). PrintsPart e (stage_text (Some r)) (stage_text (Some k)) old new) same q.4)
  | inr a ↦ (q.0, inr (bytes, n.server, replies_as r m n bytes f h, a), q.2, (λ faithful. q.3 (r.host, late_at r m n bytes w f h, rw h.core faithful)), q.4)
]

pub reopen_cut : (r : Running) (m : Machine) (again : State) (e : SimFault) (old new : Option (List ℕ)) → again ≡ m.core.state
    → GivesUp r (IsHonestAt r again event.Reopen) (λ later. (later ≡ r) ⊎ AtEvent r event.Reopen later) e old new
    → GivesUp r (IsFaithful r m.core.state) (λ later. (later ≡ r) ⊎ Obeys r line.Reopen later) e old new
reopen_cut r m again e old new same q = (q.0, q.1, q.2, (λ h. q.3 (honest_unheard r again event.Reopen refl (rw same h))), q.4)

pub drain_cut : (r mid : Running) (s : State) (m : Machine) (e : SimFault) (old between new : Option (List ℕ)) (xs : List Shown) → FoldsTo IsDrained r xs mid → RunsOn r mid m old between
    → is_some m.outstanding ≡ true → (IsFaithful r s → IsFaithful mid m.core.state) → GivesUp mid (IsFaithful mid m.core.state) (λ later. (later ≡ mid) ⊎ ((x : Shown) × IsAnswered mid x later)) e between new
    → GivesUp r (IsFaithful r s) (λ later. (ys : List Shown) × FoldsTo IsDrained r ys later) e old new
drain_cut r mid s m e old between new xs folds gone some on q = (q.0, come q.0 q.1, q.2, (λ h. q.3 (on h)), told_before e _ _ _ old between new gone.1 q.4) where
  come : (later : Running) → (later ≡ mid) ⊎ ((x : Shown) × IsAnswered mid x later) → (ys : List Shown) × FoldsTo IsDrained r ys later
  come later (inl same) = (xs, subst (FoldsTo IsDrained r xs) (sym same) folds)
  come later (inr a) = (xs ++ a.0 ∷ [], FoldsTo-push IsDrained r xs mid a.0 later folds (some_there m.outstanding mid.message some gone.0.message, a.1))

-- The line is `known`.
under_as : (r : Running) (l known : Line) (later : Running) → l ≡ known → IsUnder r known later → IsUnder r l later
under_as r l known later e q = subst (λ (k : Line). IsUnder r k later) (sym e) q

-- Nothing meddled before the line, and the line doesn't either.
abbrev pub IsUnmeddled : Running → State → Line → Type 0
IsUnmeddled r s l = (is_meddling l ≡ false) × IsFaithful r s

pub line_cut : (r : Running) (s : State) (l known : Line) (e : SimFault) (old new : Option (List ℕ)) → l ≡ known → GivesUp r (IsFaithful r s) (λ later. (later ≡ r) ⊎ Obeys r known later) e old new
    → GivesUp r (IsUnmeddled r s l) (IsUnder r l) e old new
line_cut r s l known e old new is q = (q.0, under_as r l known q.0 is (elim q.1 [ inl same ↦ inl same | inr obeys ↦ inr (inl obeys) ]), q.2, (λ h. q.3 h.1), q.4)

pub line_told : (r : Running) (s : State) (l : Line) (ev : Event) (e : SimFault) (old new : Option (List ℕ)) → l ≡ line.CoreEvent ev
    → GivesUp r (IsHonestAt r s ev) (λ later. (later ≡ r) ⊎ AtEvent r ev later) e old new → GivesUp r (IsUnmeddled r s l) (IsUnder r l) e old new
line_told r s l ev e old new is q = (
  q.0,
  under_as r l (line.CoreEvent ev) q.0 is (elim q.1 [ inl same ↦ inl same | inr at ↦ inr (inl at) ]),
  q.2,
  (λ h. q.3 (honest_unheard r s ev (subst (λ (k : Line). is_meddling k ≡ false) is h.0) h.1)),
  q.4,
)

pub line_drained : (r : Running) (s : State) (l : Line) (e : SimFault) (old new : Option (List ℕ)) → l ≡ line.Drain → GivesUp r (IsFaithful r s) (λ later. (xs : List Shown) × FoldsTo IsDrained r xs later) e old new
    → GivesUp r (IsUnmeddled r s l) (IsUnder r l) e old new
line_drained r s l e old new is q = (q.0, inr (inr (q.1.0, is, q.1.1)), q.2, (λ h. q.3 h.1), q.4)

pub line_stays : (r : Running) (m : Machine) (l : Line) (old new : Option (List ℕ)) → IsAtRun r m → new ≡ old → GivesUp r (IsUnmeddled r m.core.state l) (IsUnder r l) OutOfMemory old new
line_stays r m l old new f same = stays r m (IsUnmeddled r m.core.state l) (IsUnder r l) old new f (λ h. h.1.calm) (inl refl) same

pub line_answered : (r : Running) (s : State) (l : Line) (e : SimFault) (old new : Option (List ℕ)) → l ≡ line.Answer → GivesUp r (IsFaithful r s) (λ later. (later ≡ r) ⊎ ((x : Shown) × IsAnswered r x later)) e old new
    → GivesUp r (IsUnmeddled r s l) (IsUnder r l) e old new
line_answered r s l e old new is q = line_cut r s l line.Answer e old new is q
