-- A script's run that is given up.
use Rattle.std.proofs.Common.{◌≡◌, ◌≢◌, ◌⊎◌, inl, inr, ℕ, ◌+◌, ◌<◌, Bool, false, List, [], ◌∷◌, ◌++◌, length, take, take_all, Option, Some, None, Result, Ok, Err, IfSome, refl, sym, ap, ◌∙◌, subst, append_assoc, append-nil, arith}
use Rattle.std.specs.Prelude.{◌==◌, IfOk, IfErr, ⊤}
use Rattle.std.specs.Io.BufRead.{take_through, drop_through, strip_last, DropsThrough}
use Rattle.std.specs.Io.KnownBytes.{Appends, Keeps}
use Rattle.std.specs.List.{AllByRecursion, FoldsTo}
use Rattle.std.proofs.KnownBytes.{Appends-kept, Appends-trans}
use Rattle.std.proofs.Math.Seq.{take-append-add}
use Rattle.std.proofs.lemmas.Fn.{FoldsTo-push}
use Rattle.oram_geometry.specs.declared.Sizes.{Sizes}
use Rattle.oram_geometry.specs.declared.ShapeFault.{ShapeFault}
use Rattle.oram_geometry.specs.Sizes.{device_of, trees_of}
use Rattle.oramsim.specs.Printer.{error_text, memory_text, ready_text, shape_text}
use Rattle.oramsim.specs.Lines.{lines_of, line_of}
use Rattle.oramsim.specs.Script.{HasNoFailure, HasPassed, HasRun, IsBad, IsBeginning, IsCutText, IsDue, IsHarmless, IsHarmlessScript, IsNewRun, IsPassed, IsScriptText, IsWithin, Point, GetsTo, Running, Stage, Starts, start, text_at}
use Rattle.oramsim.specs.Correspondence.{GivesUp, GivesUpAt, HasEnded, HasGivenUp, IsCalmAt, IsFaithful, IsFaithfulAt, IsGivingUp, IsCutAt, IsUnder, IsPrintedInPart, IsAtRun, StandsAt, with_memory_line}
use Rattle.oramsim.specs.declared.line.Line.{Line}
use Rattle.oramsim.specs.declared.line.Line.TheVariants.{Device}
use Rattle.oramsim.specs.declared.machine.Machine.{Machine}
use Rattle.oramsim.specs.declared.script.Ending.{Ending}
use Rattle.oramsim.specs.declared.script.Ending.TheVariants.{End, BadLine}
use Rattle.oramsim.specs.declared.script.SimFault.{SimFault}
use Rattle.oramsim.specs.declared.script.SimFault.TheVariants.{OutOfMemory, Read, Write}
use Rattle.oramsim.proofs.Faithful.{run_right}
use Rattle.oramsim.proofs.FirstLine.{lines_first}
use Rattle.oramsim.proofs.Clean.{Clean, beginning_unfailed, clean_append, clean_text, error_clean, memory_clean}
use Rattle.oramsim.proofs.GivenUp.{IsUnmeddled, none_told, told_behind}
use Rattle.oramsim.proofs.Progress.{Came, all_split, came_clean, head_passed, passes_line, point_clean, read_rest, run_done}
use Rattle.oramsim.proofs.Started.{nothing_shown}

-- Memory ran out before anything of a line was written.
pub stays_at : (p : Point) (m : Option Machine) (Unmeddled : Type 0) (To : Point → Type 0) (old new : Option (List ℕ)) → StandsAt p.stage m → (Unmeddled → IsCalmAt p.stage) → To p → new ≡ old
    → GivesUpAt p Unmeddled To OutOfMemory old new
stays_at p m Unmeddled To old new f calm to same = (p, to, run_done p.stage m f, calm, none_told (text_at p) old new same)

-- the point before there is a device
abbrev pub behind : List ℕ → Point
behind head = record { stage = None; head = head }

pub unbegun : (head : List ℕ) (made : Result Sizes ShapeFault) (old new : Option (List ℕ)) → new ≡ old → GivesUpAt (behind head) ⊤ (λ q. (q ≡ behind head) ⊎ Starts head made q) OutOfMemory old new
unbegun head made old new same = (behind head, inl refl, tt, (λ on. tt), none_told (text_at (behind head)) old new same)

pub begun_cut : (head : List ℕ) (made : Result Sizes ShapeFault) (d : Sizes) (trees : ℕ) (m : Machine) (e : SimFault) (old new : Option (List ℕ)) → made ≡ Ok d → trees ≡ trees_of d
    → (r : Running) × IsNewRun d r × IsAtRun r m × IsFaithful r m.core.state → (k : ℕ) × Appends old new (take k (ready_text trees)) → e ≡ Write
    → GivesUpAt (behind head) ⊤ (λ q. (q ≡ behind head) ⊎ Starts head made q) e old new
begun_cut head made d trees m e old new is count p wrote write =
    let text = ready_text (trees_of d) in
    let q : Point = record { stage = Some p.0; head = head ++ text } in
    let to = subst (λ (o : Result Sizes ShapeFault). Starts head o q) (sym is) (p.0, p.1, refl) in
    let more : text_at q ≡ text_at (behind head) ++ text = ap (λ l. (head ++ text) ++ l) (nothing_shown p.0 p.1.turns) ∙ (append-nil (head ++ text) ∙ ap (λ l. l ++ text) (sym (append-nil head))) in
    let cut : GivesUpAt (behind head) ⊤ (λ u. (u ≡ behind head) ⊎ Starts head made u) Write old new = (q, inr to, run_right p.0 m p.2, (λ on. p.3.calm), (text, take wrote.0 text, more, (wrote.0, refl), rw count at wrote.1)) in
    subst (λ (f : SimFault). GivesUpAt (behind head) ⊤ (λ u. (u ≡ behind head) ⊎ Starts head made u) f old new) (sym write) cut

pub faulted_cut : (head : List ℕ) (made : Result Sizes ShapeFault) (fault : ShapeFault) (e : SimFault) (old new : Option (List ℕ)) → made ≡ Err fault → (k : ℕ) × Appends old new (take k (shape_text fault)) → e ≡ Write
    → GivesUpAt (behind head) ⊤ (λ q. (q ≡ behind head) ⊎ Starts head made q) e old new
faulted_cut head made fault e old new is wrote write =
    let text = shape_text fault in
    let q : Point = record { stage = None; head = head ++ text } in
    let to = subst (λ (o : Result Sizes ShapeFault). Starts head o q) (sym is) refl in
    let more : text_at q ≡ text_at (behind head) ++ text = append-nil (head ++ text) ∙ ap (λ l. l ++ text) (sym (append-nil head)) in
    let cut : GivesUpAt (behind head) ⊤ (λ u. (u ≡ behind head) ⊎ Starts head made u) Write old new = (q, inr to, tt, (λ on. tt), (text, take wrote.0 text, more, (wrote.0, refl), wrote.1)) in
    subst (λ (f : SimFault). GivesUpAt (behind head) ⊤ (λ u. (u ≡ behind head) ⊎ Starts head made u) f old new) (sym write) cut

-- the points within a line and after it
abbrev pub Advances : Point → List ℕ → Point → Type 0
Advances p bytes q = IsPassed p bytes q ⊎ IsWithin p (bytes ∷ []) q

-- Nothing meddled before the line, and the line doesn't either.
abbrev pub IsUnmeddledAt : Point → Option Machine → List ℕ → Type 0
IsUnmeddledAt p from bytes = IsHarmless (line_of bytes) × IsFaithfulAt p.stage from

-- A device gave up within a line.
obeyed_at : (stage : Stage) (head : List ℕ) (m : Machine) (bytes : List ℕ) (line : Line) (result : Result Bool SimFault) (old new : Option (List ℕ)) →
    ((r : Running) → IsAtRun r m → IfErr result (λ e. GivesUp r (IsUnmeddled r m.core.state line) (IsUnder r line) e old new))
    → (length bytes == 0) ≡ false → line_of bytes ≡ Some line → StandsAt stage (Some m)
    → IfErr result (λ e. GivesUpAt (record { stage = stage; head = head }) (IsUnmeddledAt (record { stage = stage; head = head }) (Some m) bytes) (Advances (record { stage = stage; head = head }) bytes) e old new)
obeyed_at None head m bytes line result old new cut some e f = absurd f
obeyed_at (Some r) head m bytes line (Ok b) old new cut some e f = tt
obeyed_at (Some r) head m bytes line (Err fault) old new cut some e f =
    let p : Point = record { stage = Some r; head = head } in
    let c = cut r f in
    let q : Point = record { stage = Some c.0; head = head } in
    let leads : Advances p bytes q = elim c.1 [
      | inl same ↦ inr (inl (ap (λ (k : Running). record { stage = Some k; head = head }) same))
      | inr more ↦ elim more [
        | inl obeys ↦ inl (passes_line p q bytes line some e (c.0, obeys, refl))
        | inr drained ↦ inr (inr (r, c.0, drained.0, e ∙ ap (λ (l : Line). Some l) drained.1, refl, drained.2, refl))
      ]
    ] in
    (q, leads, c.2, (λ on. c.3 (subst IsHarmless e on.0, on.1)), told_behind fault head _ _ old new c.4)

pub obeyed_cut : (p : Point) (from : Option Machine) (m : Machine) (bytes : List ℕ) (line : Line) (result : Result Bool SimFault) (old new : Option (List ℕ)) →
    ((r : Running) → IsAtRun r m → IfErr result (λ e. GivesUp r (IsUnmeddled r m.core.state line) (IsUnder r line) e old new))
    → (length bytes == 0) ≡ false → line_of bytes ≡ Some line → from ≡ Some m → StandsAt p.stage from → IfErr result (λ e. GivesUpAt p (IsUnmeddledAt p from bytes) (Advances p bytes) e old new)
obeyed_cut p from m bytes line result old new cut some e is f =
    subst (λ (o : Option Machine). IfErr result (λ u. GivesUpAt p (IsUnmeddledAt p o bytes) (Advances p bytes) u old new)) (sym is)
    (obeyed_at p.stage p.head m bytes line result old new cut some e (subst (StandsAt p.stage) is f))

-- A line made no device.
started_at : (stage : Stage) (head : List ℕ) (from : Option Machine) (bytes : List ℕ) (blocks block_bytes slots top lifetime : ℕ) (made : Result Sizes ShapeFault) (fault : SimFault) (old new : Option (List ℕ)) →
    made ≡ device_of (record { blocks = blocks; block_bytes = block_bytes; slots = slots; top = top; lifetime = lifetime; leaf_load = 1 })
    → ((h : List ℕ) → GivesUpAt (behind h) ⊤ (λ q. (q ≡ behind h) ⊎ Starts h made q) fault old new)
    → (length bytes == 0) ≡ false → line_of bytes ≡ Some (Device blocks block_bytes slots top lifetime) → StandsAt stage None
    → GivesUpAt (record { stage = stage; head = head }) (IsUnmeddledAt (record { stage = stage; head = head }) from bytes) (Advances (record { stage = stage; head = head }) bytes) fault old new
started_at (Some r) head from bytes blocks block_bytes slots top lifetime made fault old new is cut some e f = absurd f
started_at None head from bytes blocks block_bytes slots top lifetime made fault old new is cut some e f =
    let c = cut head in
    let leads : Advances (behind head) bytes c.0 = elim c.1 [
      | inl same ↦ inr (inl same)
      | inr starts ↦ inl (passes_line (behind head) c.0 bytes (Device blocks block_bytes slots top lifetime) some e (subst (λ (o : Result Sizes ShapeFault). Starts head o c.0) is starts))
    ] in
    (c.0, leads, c.2, (λ on. c.3 tt), c.4)

pub started_cut : (p : Point) (from : Option Machine) (bytes : List ℕ) (blocks block_bytes slots top lifetime : ℕ) (made : Result Sizes ShapeFault) (fault : SimFault) (old new : Option (List ℕ)) →
    made ≡ device_of (record { blocks = blocks; block_bytes = block_bytes; slots = slots; top = top; lifetime = lifetime; leaf_load = 1 })
    → ((h : List ℕ) → GivesUpAt (behind h) ⊤ (λ q. (q ≡ behind h) ⊎ Starts h made q) fault old new)
    → (length bytes == 0) ≡ false → line_of bytes ≡ Some (Device blocks block_bytes slots top lifetime) → StandsAt p.stage None
    → GivesUpAt p (IsUnmeddledAt p from bytes) (Advances p bytes) fault old new
started_cut p from bytes blocks block_bytes slots top lifetime made fault old new is cut some e f = started_at p.stage p.head from bytes blocks block_bytes slots top lifetime made fault old new is cut some e f

within_self : (p : Point) (ls : List (List ℕ)) → IsWithin p ls p
within_self p [] = refl
within_self p (l ∷ ls) = inl refl

-- the point after the lines that were passed
passed_reaches : (input : List ℕ) (rest : List (List ℕ)) (q : Point) → HasPassed input rest q → GetsTo input q
passed_reaches input rest q h = (q, rest, h, within_self q rest, h.right)

whole_due : (input text : List ℕ) → IsDue input text → IsCutText input text Write
whole_due input text due = (text, due, (length text, sym (take_all (length text) text (omega arith))))

front_of : (input : List ℕ) (rest : List (List ℕ)) (q : Point) (e : SimFault) → HasPassed input rest q → IsCutText input (with_memory_line e (text_at q)) e
front_of input rest q OutOfMemory h = (q, passed_reaches input rest q h, refl)
front_of input rest q Read h = (rest, q, h, refl)
front_of input rest q Write h = whole_due input (text_at q) (inl (q, passed_reaches input rest q h, inl refl))

-- A clean text reports no failure, and neither does `out of memory` after it.
clean_front : (e : SimFault) (text : List ℕ) → Clean text → HasNoFailure (with_memory_line e text)
clean_front OutOfMemory text clean = clean_text (text ++ memory_text) (clean_append text memory_text clean memory_clean)
clean_front Read text clean = clean_text text clean
clean_front Write text clean = clean_text text clean

here : (input : List ℕ) (left old new : Option (List ℕ)) (number : ℕ) (m : Option Machine) → (came : Came input left old new number m) → HasPassed input (lines_of came.rest) came.point
here input left old new number m came = record { lines = came.lines; split = came.split; passed = came.passed; right = run_done came.point.stage m came.stands }

-- The lines that were passed meddle no more than the script.
before_rest : (input : List ℕ) (lines rest : List (List ℕ)) → lines_of input ≡ lines ++ rest → IsHarmlessScript input → AllByRecursion (λ bytes. IsHarmless (line_of bytes)) lines
before_rest input lines rest split harmless = (all_split (λ b. IsHarmless (line_of b)) lines rest (subst (AllByRecursion (λ b. IsHarmless (line_of b))) split harmless)).0

-- The run was given up between two lines.
pub cut_here : (all left old mid new : Option (List ℕ)) (number : ℕ) (m : Option Machine) (e : SimFault) → IfSome all (λ input. Came input left old mid number m) → Keeps mid new
    → IsGivingUp all old new e
cut_here None left old mid new number m e came keeps = tt
cut_here (Some input) left old mid new number m e came keeps = (
  text_at came.point,
  front_of input (lines_of came.rest) came.point e (here input left old mid number m came),
  (λ harmless. clean_front e (text_at came.point) (came_clean input left old mid number m came (before_rest input came.lines (lines_of came.rest) came.split harmless))),
  Appends-kept old mid new (text_at came.point) came.wrote keeps,
)

-- What was written is flushed.
pub came_kept : (all left old mid new : Option (List ℕ)) (number : ℕ) (m : Option Machine) → IfSome all (λ input. Came input left old mid number m) → Keeps mid new → IfSome all (λ input. Came input left old new number m)
came_kept None left old mid new number m came keeps = tt
came_kept (Some input) left old mid new number m came keeps = record {
  lines = came.lines;
  rest = came.rest;
  point = came.point;
  known = came.known;
  split = came.split;
  count = came.count;
  passed = came.passed;
  stands = came.stands;
  wrote = Appends-kept old mid new (text_at came.point) came.wrote keeps;
  neat = came.neat;
  faithful = came.faithful;
}

-- a beginning of what follows a text
beginning_behind : (a b part out : List ℕ) → b ≡ a ++ out → IsBeginning part out → IsBeginning (a ++ part) b
beginning_behind a b part out e h = (length a + h.0, ap (λ l. a ++ l) h.1 ∙ (sym (take-append-add a out h.0) ∙ ap (take (length a + h.0)) (sym e)))

front_part : (input : List ℕ) (p q : Point) (e : SimFault) (out part : List ℕ) → GetsTo input q → text_at q ≡ text_at p ++ out → IsCutAt e out part → IsCutText input (with_memory_line e (text_at p ++ part)) e
front_part input p q OutOfMemory out part reached eq left = (q, reached, ap (λ l. l ++ memory_text) (ap (λ l. text_at p ++ l) left ∙ sym eq))
front_part input p q Read out part reached eq left = absurd left
front_part input p q Write out part reached eq left = (text_at q, inl (q, reached, inl refl), beginning_behind (text_at p) (text_at q) part out eq left)

clean_part : (p q : Point) (e : SimFault) (out part : List ℕ) → Clean (text_at q) → text_at q ≡ text_at p ++ out → IsCutAt e out part → HasNoFailure (with_memory_line e (text_at p ++ part))
clean_part p q OutOfMemory out part clean eq left = clean_front OutOfMemory (text_at p ++ part) (subst Clean (eq ∙ ap (λ l. text_at p ++ l) (sym left)) clean)
clean_part p q Read out part clean eq left = absurd left
clean_part p q Write out part clean eq left =
    beginning_unfailed (text_at p ++ part) (text_at q) (beginning_behind (text_at p) (text_at q) part out eq left) (clean_text (text_at q) clean)

-- What was printed before the device's turns is clean wherever a line leads.
head_leads : (p q : Point) (bytes : List ℕ) → Advances p bytes q → Clean p.head → Clean q.head
head_leads p q bytes (inl passes) clean = head_passed p q bytes passes clean
head_leads p q bytes (inr (inl same)) clean = subst (λ (u : Point). Clean u.head) (sym same) clean
head_leads p q bytes (inr (inr within)) clean = subst (λ (u : Point). Clean u.head) (sym within.6) clean

-- The lines before this one are passed.
abbrev Split : List ℕ → List (List ℕ) → List ℕ → List ℕ → Type 0
Split input lines bytes rest = lines_of input ≡ lines ++ bytes ∷ lines_of rest

reaches_by : (input : List ℕ) (lines : List (List ℕ)) (p q : Point) (bytes rest : List ℕ) → Split input lines bytes rest → FoldsTo IsPassed start lines p → HasRun p.stage → Advances p bytes q
    → HasRun q.stage → GetsTo input q
reaches_by input lines p q bytes rest split passed right leads at = elim leads [
  | inl passes ↦
      passed_reaches input (lines_of rest) q (record { lines = lines ++ bytes ∷ []; split = split ∙ sym (append_assoc lines (bytes ∷ []) (lines_of rest)); passed = FoldsTo-push IsPassed start lines p bytes q passed passes; right = at })
  | inr within ↦ (p, bytes ∷ lines_of rest, record { lines = lines; split = split; passed = passed; right = right }, within, at)
]

split_at : (input : List ℕ) (left later old mid : Option (List ℕ)) (number : ℕ) (m : Option Machine) (line bytes : List ℕ) → (came : Came input left old mid number m)
    → IfSome left (λ xs. line ≡ take_through 10 xs) → DropsThrough left later 10 → 0 < length line → bytes ≡ strip_last 10 line → Split input came.lines bytes (drop_through 10 came.rest)
split_at input left later old mid number m line bytes came e drops some cut =
    let read = read_rest left later line came.rest e drops came.known in
    came.split ∙ ap (λ l. came.lines ++ l) (lines_first came.rest line read.0 some ∙ ap (λ b. b ∷ lines_of (drop_through 10 came.rest)) (sym cut))

-- The run was given up within a line.
pub cut_within : (all left later old mid new : Option (List ℕ)) (number : ℕ) (m : Option Machine) (line bytes : List ℕ) (e : SimFault) →
    IfSome all (λ input. Came input left old mid number m) → IfSome left (λ xs. line ≡ take_through 10 xs) → DropsThrough left later 10 → 0 < length line → bytes ≡ strip_last 10 line
    → ((p : Point) → StandsAt p.stage m → GivesUpAt p (IsUnmeddledAt p m bytes) (Advances p bytes) e mid new)
    → IsGivingUp all old new e
cut_within None left later old mid new number m line bytes e came has drops some cut gives = tt
cut_within (Some input) left later old mid new number m line bytes e came has drops some cut gives =
    let p = came.point in
    let g = gives p came.stands in
    let split = split_at input left later old mid number m line bytes came has drops some cut in
    let reached = reaches_by input came.lines p g.0 bytes (drop_through 10 came.rest) split came.passed (run_done p.stage m came.stands) g.1 g.2 in (
      text_at p ++ g.4.1,
      front_part input p g.0 e g.4.0 g.4.1 reached g.4.2 g.4.3,
      (λ harmless.
          let parts = all_split (λ b. IsHarmless (line_of b)) came.lines (bytes ∷ lines_of (drop_through 10 came.rest)) (subst (AllByRecursion (λ b. IsHarmless (line_of b))) split harmless) in
          let clean = point_clean g.0 (head_leads p g.0 bytes g.1 came.neat) (g.3 (parts.1.0, came.faithful parts.0)) in
          clean_part p g.0 e g.4.0 g.4.1 clean g.4.2 g.4.3),
      Appends-trans old mid new (text_at p) g.4.1 came.wrote g.4.4,
    )

-- The error line was written in part.
pub cut_error : (all left later old mid next new : Option (List ℕ)) (number : ℕ) (m : Option Machine) (line bytes : List ℕ) (e : SimFault) →
    IfSome all (λ input. Came input left old mid number m) → IfSome left (λ xs. line ≡ take_through 10 xs) → DropsThrough left later 10 → 0 < length line → bytes ≡ strip_last 10 line
    → ((p : Point) → StandsAt p.stage m → IsBad p.stage bytes × (next ≡ mid)) → IsPrintedInPart e (error_text (number + 1)) next new
    → IsGivingUp all old new e
cut_error None left later old mid next new number m line bytes e came has drops some cut bad reported = tt
cut_error (Some input) left later old mid next new number m line bytes Read came has drops some cut bad reported = absurd reported
cut_error (Some input) left later old mid next new number m line bytes OutOfMemory came has drops some cut bad reported =
    let b = bad came.point came.stands in (
      text_at came.point,
      front_of input (lines_of came.rest) came.point OutOfMemory (here input left old mid number m came),
      (λ harmless. clean_front OutOfMemory (text_at came.point) (came_clean input left old mid number m came (before_rest input came.lines (lines_of came.rest) came.split harmless))),
      subst (λ w. Appends old w (text_at came.point)) (sym (reported ∙ b.1)) came.wrote,
    )
cut_error (Some input) left later old mid next new number m line bytes Write came has drops some cut bad reported =
    let b = bad came.point came.stands in
    let p = came.point in
    let split = split_at input left later old mid number m line bytes came has drops some cut in
    let whole = text_at p ++ error_text (number + 1) in
    let due : IsScriptText input whole (BadLine (number + 1)) =
    (came.lines, lines_of (drop_through 10 came.rest), bytes, p, split, came.passed, run_done p.stage m came.stands, b.0, ap (λ k. k + 1) (sym came.count), refl) in
    let begins = beginning_behind (text_at p) whole reported.0 (error_text (number + 1)) refl reported.1 in (
      text_at p ++ reported.0,
      (whole, inr (number + 1, due), begins),
      (λ harmless.
          let clean = came_clean input left old mid number m came (before_rest input came.lines (lines_of came.rest) came.split harmless) in
          beginning_unfailed (text_at p ++ reported.0) whole begins (clean_text whole (clean_append (text_at p) (error_text (number + 1)) clean (error_clean (number + 1))))),
      Appends-trans old next new (text_at p) reported.0 (subst (λ w. Appends old w (text_at p)) (sym b.1) came.wrote) reported.2,
    )

-- a fault that is known
pub giving_up_as : (all old new : Option (List ℕ)) (e : SimFault) → e ≡ OutOfMemory → IsGivingUp all old new e → IsGivingUp all old new OutOfMemory
giving_up_as all old new e same front = subst (IsGivingUp all old new) same front

-- At the other faults, nothing more has to be printed.
pub all_told : (all old new : Option (List ℕ)) (e : SimFault) → e ≢ OutOfMemory → IsGivingUp all old new e → HasGivenUp all old new e
all_told None old new e other front = tt
all_told (Some input) old new OutOfMemory other front = absurd (other refl)
all_told (Some input) old new Read other front = front
all_told (Some input) old new Write other front = front

-- `out of memory` was printed,
pub memory_reported : (all old mid new : Option (List ℕ)) → IsGivingUp all old mid OutOfMemory → Appends mid new memory_text → HasGivenUp all old new OutOfMemory
memory_reported None old mid new front reported = tt
memory_reported (Some input) old mid new front reported = (front.0 ++ memory_text, front.1, front.2, Appends-trans old mid new front.0 memory_text front.3 reported)

-- or a beginning of it.
pub memory_cut : (all old mid new : Option (List ℕ)) (e : SimFault) → IsGivingUp all old mid OutOfMemory → (k : ℕ) × Appends mid new (take k memory_text) → e ≡ Write → HasGivenUp all old new e
memory_cut None old mid new e front reported write = tt
memory_cut (Some input) old mid new e front reported write =
    let whole = front.0 ++ memory_text in
    let part = take reported.0 memory_text in
    let begins = beginning_behind front.0 whole part memory_text refl (reported.0, refl) in
    let cut : IsCutText input (front.0 ++ part) Write = (whole, inl (front.1.0, front.1.1, inr front.1.2), begins) in (
      front.0 ++ part,
      subst (IsCutText input (front.0 ++ part)) (sym write) cut,
      (λ harmless. beginning_unfailed (front.0 ++ part) whole begins (front.2 harmless)),
      Appends-trans old mid new front.0 part front.3 reported.1,
    )

cut_due : (input text : List ℕ) (e : SimFault) → IsCutText input text e → IsCutText input text Write
cut_due input text OutOfMemory c = whole_due input text (inl (c.0, c.1, inr c.2))
cut_due input text Read c = whole_due input text (inl (c.1, passed_reaches input c.0 c.1 c.2, inl c.3))
cut_due input text Write c = c

script_due : (input text : List ℕ) (ending : Ending) → IsScriptText input text ending → IsCutText input text Write
script_due input text End c =
    whole_due input text (inl (c.0, passed_reaches input [] c.0 (record { lines = lines_of input; split = sym (append-nil (lines_of input)); passed = c.1; right = c.2 }), inl c.3))
script_due input text (BadLine n) c = whole_due input text (inr (n, c))

-- What was written can't be flushed.
pub unflushed : (all old mid new : Option (List ℕ)) (ended : Result Ending SimFault) (e : SimFault) → IfOk ended (λ ending. HasEnded all old mid ending) → IfErr ended (λ f. HasGivenUp all old mid f)
    → Keeps mid new → e ≡ Write → HasGivenUp all old new e
unflushed None old mid new ended e ok err keeps write = tt
unflushed (Some input) old mid new (Ok ending) e ok err keeps write =
    (ok.0, subst (IsCutText input ok.0) (sym write) (script_due input ok.0 ending ok.1), ok.2, Appends-kept old mid new ok.0 ok.3 keeps)
unflushed (Some input) old mid new (Err f) e ok err keeps write =
    (err.0, subst (IsCutText input err.0) (sym write) (cut_due input err.0 f err.1), err.2, Appends-kept old mid new err.0 err.3 keeps)

-- a text whose writing was given up
pub unreported : {T : Type 0} (result : Result T SimFault) (shown text : List ℕ) (old new : Option (List ℕ)) → shown ≡ text → (k : ℕ) × Appends old new (take k shown) → IfErr result (λ e. e ≡ Write)
    → IfErr result (λ e. IsPrintedInPart e text old new)
unreported (Ok t) shown text old new same cut write = tt
unreported (Err e) shown text old new same cut write =
    subst (λ (f : SimFault). IsPrintedInPart f text old new) (sym write) (take cut.0 text, (cut.0, refl), subst (λ t. Appends old new (take cut.0 t)) same cut.1)
