-- How far the run of a script has come.
use Rattle.std.proofs.Common.{◌≡◌, ℕ, ◌+◌, ◌<◌, Bool, true, false, List, [], ◌∷◌, ◌++◌, length, length-append, Option, Some, None, Result, Ok, Err, IfSome, refl, sym, ap, ◌∙◌, subst, arith, append_assoc, append-nil}
use Rattle.std.specs.Prelude.{◌==◌}
use Rattle.std.specs.Io.BufRead.{take_through, drop_through, strip_last, DropsThrough}
use Rattle.std.specs.Io.KnownBytes.{Appends, IsAtEnd}
use Rattle.std.specs.List.{AllByRecursion, FoldsTo}
use Rattle.std.proofs.KnownBytes.{Appends-trans, Appends-nil}
use Rattle.std.proofs.lemmas.Fn.{FoldsTo-push}
use Rattle.std.proofs.lemmas.Bool.{eqb-true}
use Rattle.oram_geometry.specs.declared.Sizes.{Sizes}
use Rattle.oram_geometry.specs.declared.ShapeFault.{ShapeFault}
use Rattle.oram_geometry.specs.Sizes.{device_of, trees_of}
use Rattle.oramsim.proofs.FirstLine.{lines_first}
use Rattle.oramsim.proofs.Obeyed.{Obeyed}
use Rattle.oramsim.proofs.Faithful.{run_right}
use Rattle.oramsim.proofs.Clean.{Clean, clean_append, clean_nil, clean_text, error_clean, ready_clean, shape_clean, turns_clean}
use Rattle.oramsim.specs.Printer.{error_text, ready_text, shape_text}
use Rattle.oramsim.specs.Lines.{lines_of, line_of}
use Rattle.oramsim.specs.Script.{HasNoFailure, HasRun, IsBad, IsDone, IsHarmless, IsHarmlessScript, IsPassed, IsRefusedLine, IsScriptText, IsUnfit, Point, Running, Stage, Starts, stage_text, start, text_at}
use Rattle.oramsim.specs.Correspondence.{RunsOnAt, IsCalmAt, IsFaithfulAt, IsAtRun, StandsAt, Prints}
use Rattle.oramsim.specs.declared.line.Line.{Line}
use Rattle.oramsim.specs.declared.line.Line.TheVariants.{Device, CoreEvent, Answer, Drain, Late, Reopen, Tamper, Swap, Snapshot, Restore}
use Rattle.oramsim.specs.declared.machine.Machine.{Machine}
use Rattle.oramsim.specs.declared.script.Ending.TheVariants.{End, BadLine}
use Rattle.oramsim.specs.declared.script.SimFault.{SimFault}

-- A line was passed, and the run goes on.
abbrev pub Passed : Point → List ℕ → Option Machine → Option Machine → Option (List ℕ) → Option (List ℕ) → Type 0
Passed p bytes from m old new = (q : Point) × IsPassed p bytes q × RunsOnAt p q m old new × (IsHarmless (line_of bytes) → IsFaithfulAt p.stage from → IsFaithfulAt q.stage m)

pub passes_line : (p q : Point) (bytes : List ℕ) (line : Line) → (length bytes == 0) ≡ false → line_of bytes ≡ Some line → IsDone p p.stage line q → IsPassed p bytes q
passes_line p q [] line n e d = cc
passes_line p q (b ∷ bytes) line n e d = (line, e, d)

bad_line : (stage : Stage) (bytes : List ℕ) (o : Option Line) → (length bytes == 0) ≡ false → line_of bytes ≡ o → IsRefusedLine stage o → IsBad stage bytes
bad_line stage [] o n e d = cc
bad_line stage (b ∷ bytes) o n e d = subst (IsRefusedLine stage) (sym e) d

passes_empty : (p : Point) (bytes : List ℕ) → (length bytes == 0) ≡ true → IsPassed p bytes p
passes_empty p [] e = refl
passes_empty p (b ∷ bytes) e = absurd (omega (arith, eqb-true (length (b ∷ bytes)) 0 e))

no_text : (p : Point) (old : Option (List ℕ)) → Prints (text_at p) (text_at p) old old
no_text p old = ([], sym (append-nil (text_at p)), Appends-nil old)

pub empty_passed : (p : Point) (m : Option Machine) (bytes : List ℕ) (old : Option (List ℕ)) → (length bytes == 0) ≡ true → StandsAt p.stage m → Passed p bytes m m old old
empty_passed p m bytes old e f = (p, passes_empty p bytes e, (f, no_text p old), λ harmless h. h)

-- A device obeyed a line.
passed_at : (stage : Stage) (head : List ℕ) (m n : Machine) (bytes : List ℕ) (line : Line) (result : Result Bool SimFault) (old new : Option (List ℕ)) →
    ((r : Running) → IsAtRun r m → result ≡ Ok true → Obeyed r m.core.state line n old new)
    → (length bytes == 0) ≡ false → line_of bytes ≡ Some line → StandsAt stage (Some m) → result ≡ Ok true
    → Passed (record { stage = stage; head = head }) bytes (Some m) (Some n) old new
passed_at None head m n bytes line result old new ok some e f done = absurd f
passed_at (Some r) head m n bytes line result old new ok some e f done =
    let o = ok r f done in
    let p : Point = record { stage = Some r; head = head } in
    let q : Point = record { stage = Some o.0; head = head } in
    (q, passes_line p q bytes line some e (o.0, o.1, refl), (o.2.0, (o.2.1.0, ap (λ l. head ++ l) o.2.1.1 ∙ sym (append_assoc head _ o.2.1.0), o.2.1.2)), λ harmless h. o.3 (subst IsHarmless e harmless) h)

pub passed_some : (p : Point) (from : Option Machine) (m n : Machine) (bytes : List ℕ) (line : Line) (result : Result Bool SimFault) (old new : Option (List ℕ)) →
    ((r : Running) → IsAtRun r m → result ≡ Ok true → Obeyed r m.core.state line n old new)
    → (length bytes == 0) ≡ false → line_of bytes ≡ Some line → from ≡ Some m → StandsAt p.stage from → result ≡ Ok true → Passed p bytes from (Some n) old new
passed_some p from m n bytes line result old new ok some e is f done =
    subst (λ (o : Option Machine). Passed p bytes o (Some n) old new) (sym is) (passed_at p.stage p.head m n bytes line result old new ok some e (subst (StandsAt p.stage) is f) done)

refused_at : (stage : Stage) (m : Machine) (bytes : List ℕ) (line : Line) (result : Result Bool SimFault) (old new : Option (List ℕ)) →
    ((r : Running) → IsAtRun r m → result ≡ Ok false → IsUnfit r line × (new ≡ old))
    → (length bytes == 0) ≡ false → line_of bytes ≡ Some line → StandsAt stage (Some m) → result ≡ Ok false → IsBad stage bytes × (new ≡ old)
refused_at None m bytes line result old new bad some e f done = absurd f
refused_at (Some r) m bytes line result old new bad some e f done = let q = bad r f done in (bad_line (Some r) bytes (Some line) some e q.0, q.1)

pub refused_some : (p : Point) (m : Machine) (bytes : List ℕ) (line : Line) (result : Result Bool SimFault) (old new : Option (List ℕ)) →
    ((r : Running) → IsAtRun r m → result ≡ Ok false → IsUnfit r line × (new ≡ old))
    → (length bytes == 0) ≡ false → line_of bytes ≡ Some line → StandsAt p.stage (Some m) → result ≡ Ok false → IsBad p.stage bytes × (new ≡ old)
refused_some p m bytes line result old new bad some e f done = refused_at p.stage m bytes line result old new bad some e f done

-- A device was made where there was none.
started_at : (stage : Stage) (head : List ℕ) (from m : Option Machine) (bytes : List ℕ) (blocks block_bytes slots top lifetime : ℕ) (made : Result Sizes ShapeFault) (old new : Option (List ℕ)) →
    made ≡ device_of (record { blocks = blocks; block_bytes = block_bytes; slots = slots; top = top; lifetime = lifetime; leaf_load = 1 })
    → ((h : List ℕ) → (q : Point) × Starts h made q × RunsOnAt (record { stage = None; head = h }) q m old new × IsFaithfulAt q.stage m)
    → (length bytes == 0) ≡ false → line_of bytes ≡ Some (Device blocks block_bytes slots top lifetime) → StandsAt stage None
    → Passed (record { stage = stage; head = head }) bytes from m old new
started_at (Some r) head from m bytes blocks block_bytes slots top lifetime made old new is began some e f = absurd f
started_at None head from m bytes blocks block_bytes slots top lifetime made old new is began some e f =
    let k = began head in
    let p : Point = record { stage = None; head = head } in
    (k.0, passes_line p k.0 bytes (Device blocks block_bytes slots top lifetime) some e (subst (λ (o : Result Sizes ShapeFault). Starts head o k.0) is k.1), k.2, λ harmless h. k.3)

pub started : (p : Point) (from m : Option Machine) (bytes : List ℕ) (blocks block_bytes slots top lifetime : ℕ) (made : Result Sizes ShapeFault) (old new : Option (List ℕ)) →
    made ≡ device_of (record { blocks = blocks; block_bytes = block_bytes; slots = slots; top = top; lifetime = lifetime; leaf_load = 1 })
    → ((h : List ℕ) → (q : Point) × Starts h made q × RunsOnAt (record { stage = None; head = h }) q m old new × IsFaithfulAt q.stage m)
    → (length bytes == 0) ≡ false → line_of bytes ≡ Some (Device blocks block_bytes slots top lifetime) → StandsAt p.stage None → Passed p bytes from m old new
started p from m bytes blocks block_bytes slots top lifetime made old new is began some e f = started_at p.stage p.head from m bytes blocks block_bytes slots top lifetime made old new is began some e f

head_made : (head : List ℕ) (made : Result Sizes ShapeFault) (q : Point) → Starts head made q → Clean head → Clean q.head
head_made head (Ok d) q k clean = subst (λ (u : Point). Clean u.head) (sym k.2) (clean_append head (ready_text (trees_of d)) clean (ready_clean (trees_of d)))
head_made head (Err fault) q k clean = subst (λ (u : Point). Clean u.head) (sym k) (clean_append head (shape_text fault) clean (shape_clean fault))

head_done : (stage : Stage) (p q : Point) (line : Line) → IsDone p stage line q → Clean p.head → Clean q.head
head_done (Some r) p q line k clean = subst (λ (u : Point). Clean u.head) (sym k.2) clean
head_done None p q (Device blocks block_bytes slots top lifetime) k clean = head_made p.head (device_of (record { blocks = blocks; block_bytes = block_bytes; slots = slots; top = top; lifetime = lifetime; leaf_load = 1 })) q k clean
head_done None p q (CoreEvent e) k clean = absurd k
head_done None p q Answer k clean = absurd k
head_done None p q Drain k clean = absurd k
head_done None p q Late k clean = absurd k
head_done None p q Reopen k clean = absurd k
head_done None p q (Tamper tree node offset) k clean = absurd k
head_done None p q (Swap tree_a node_a tree_b node_b) k clean = absurd k
head_done None p q Snapshot k clean = absurd k
head_done None p q Restore k clean = absurd k

pub head_passed : (p q : Point) (bytes : List ℕ) → IsPassed p bytes q → Clean p.head → Clean q.head
head_passed p q [] k clean = subst (λ (u : Point). Clean u.head) (sym k) clean
head_passed p q (b ∷ bytes) k clean = head_done p.stage p q k.0 k.2 clean

pub calm_at : (stage : Stage) (m : Option Machine) → IsFaithfulAt stage m → IsCalmAt stage
calm_at None m h = tt
calm_at (Some r) None h = absurd h
calm_at (Some r) (Some m) h = h.calm

stage_clean : (stage : Stage) → IsCalmAt stage → Clean (stage_text stage)
stage_clean None calm = clean_nil
stage_clean (Some r) calm = turns_clean r.turns calm

pub point_clean : (p : Point) → Clean p.head → IsCalmAt p.stage → Clean (text_at p)
point_clean p clean calm = clean_append p.head (stage_text p.stage) clean (stage_clean p.stage calm)

pub all_split : {A : Type 0} (P : A → Type 0) (xs ys : List A) → AllByRecursion P (xs ++ ys) → AllByRecursion P xs × AllByRecursion P ys
all_split P [] ys h = (tt, h)
all_split P (x ∷ xs) ys h = let q = all_split P xs ys h.1 in ((h.0, q.0), q.1)

pub run_done : (stage : Stage) (m : Option Machine) → StandsAt stage m → HasRun stage
run_done None m f = tt
run_done (Some r) None f = absurd f
run_done (Some r) (Some m) f = run_right r m f

-- Lines were passed, up to this rest of the input.
pub record Came (input : List ℕ) (left old new : Option (List ℕ)) (number : ℕ) (machine : Option Machine) : Type 0 where
  pub lines : List (List ℕ)
  pub rest : List ℕ
  pub point : Point
  pub known : left ≡ Some rest
  pub split : lines_of input ≡ lines ++ lines_of rest
  pub count : length lines ≡ number
  pub passed : FoldsTo IsPassed start lines point
  pub stands : StandsAt point.stage machine
  pub wrote : Appends old new (text_at point)
  pub neat : Clean point.head
  pub faithful : AllByRecursion (λ bytes. IsHarmless (line_of bytes)) lines → IsFaithfulAt point.stage machine

pub came_clean : (input : List ℕ) (left old new : Option (List ℕ)) (number : ℕ) (m : Option Machine) → (came : Came input left old new number m) → AllByRecursion (λ bytes. IsHarmless (line_of bytes)) came.lines
    → Clean (text_at came.point)
came_clean input left old new number m came harmless = point_clean came.point came.neat (calm_at came.point.stage m (came.faithful harmless))

pub came_none : (all text : Option (List ℕ)) → IfSome all (λ input. Came input all text text 0 None)
came_none None text = tt
came_none (Some input) text = record { lines = []; rest = input; point = start; known = refl; split = refl; count = refl; passed = refl; stands = tt; wrote = Appends-nil text; neat = clean_nil; faithful = λ harmless. tt }

-- A line that was read is the first one of the rest from which it was read.
pub read_rest : (left later : Option (List ℕ)) (line rest : List ℕ) → IfSome left (λ xs. line ≡ take_through 10 xs) → DropsThrough left later 10 → left ≡ Some rest → (line ≡ take_through 10 rest) × (later ≡ Some (drop_through 10 rest))
read_rest left later line rest e drops known = (subst (λ o. IfSome o (λ xs. line ≡ take_through 10 xs)) known e, subst (λ o. DropsThrough o later 10) known drops)

pub came_more : (all left later old mid new : Option (List ℕ)) (number : ℕ) (m n : Option Machine) (line bytes : List ℕ) →
    IfSome all (λ input. Came input left old mid number m) → IfSome left (λ xs. line ≡ take_through 10 xs) → DropsThrough left later 10 → 0 < length line → bytes ≡ strip_last 10 line
    → ((p : Point) → StandsAt p.stage m → Passed p bytes m n mid new)
    → IfSome all (λ input. Came input later old new (number + 1) n)
came_more None left later old mid new number m n line bytes came e drops some cut ok = tt
came_more (Some input) left later old mid new number m n line bytes came e drops some cut ok =
    let read = read_rest left later line came.rest e drops came.known in
    let p = ok came.point came.stands in
    record {
      lines = came.lines ++ bytes ∷ [];
      rest = drop_through 10 came.rest;
      point = p.0;
      known = read.1;
      split = came.split ∙ (ap (λ l. came.lines ++ l) (lines_first came.rest line read.0 some ∙ ap (λ b. b ∷ lines_of (drop_through 10 came.rest)) (sym cut)) ∙ sym (append_assoc came.lines (bytes ∷ []) (lines_of (drop_through 10 came.rest))));
      count = length-append came.lines (bytes ∷ []) ∙ ap (λ k. k + 1) came.count;
      passed = FoldsTo-push IsPassed start came.lines came.point bytes p.0 came.passed p.1;
      stands = p.2.0;
      wrote = subst (Appends old new) (sym p.2.1.1) (Appends-trans _ _ _ _ _ came.wrote p.2.1.2);
      neat = head_passed came.point p.0 bytes p.1 came.neat;
      faithful = λ harmless. let parts = all_split (λ b. IsHarmless (line_of b)) came.lines (bytes ∷ []) harmless in p.3 parts.1.0 (came.faithful parts.0);
    }

-- The input has ended.
pub came_end : (all left old new : Option (List ℕ)) (number : ℕ) (m : Option Machine) → IfSome all (λ input. Came input left old new number m) → IsAtEnd left
    → IfSome all (λ input. (text : List ℕ) × IsScriptText input text End × (IsHarmlessScript input → HasNoFailure text) × Appends old new text)
came_end None left old new number m came end = tt
came_end (Some input) left old new number m came end =
    let over : came.rest ≡ [] = subst IsAtEnd came.known end in
    let all : lines_of input ≡ came.lines = came.split ∙ (ap (λ l. came.lines ++ lines_of l) over ∙ append-nil came.lines) in (
      text_at came.point,
      (came.point, subst (λ l. FoldsTo IsPassed start l came.point) (sym all) came.passed, run_done came.point.stage m came.stands, refl),
      (λ harmless. clean_text (text_at came.point) (came_clean input left old new number m came (subst (AllByRecursion (λ b. IsHarmless (line_of b))) all harmless))),
      came.wrote,
    )

-- A line that the script can't have, and its number is printed.
pub came_bad : (all left later old mid next new : Option (List ℕ)) (number : ℕ) (m : Option Machine) (line bytes : List ℕ) →
    IfSome all (λ input. Came input left old mid number m) → IfSome left (λ xs. line ≡ take_through 10 xs) → DropsThrough left later 10 → 0 < length line → bytes ≡ strip_last 10 line
    → ((p : Point) → StandsAt p.stage m → IsBad p.stage bytes × (next ≡ mid)) → Appends next new (error_text (number + 1))
    → IfSome all (λ input. (text : List ℕ) × IsScriptText input text (BadLine (number + 1)) × (IsHarmlessScript input → HasNoFailure text) × Appends old new text)
came_bad None left later old mid next new number m line bytes came e drops some cut bad reported = tt
came_bad (Some input) left later old mid next new number m line bytes came e drops some cut bad reported =
    let read = read_rest left later line came.rest e drops came.known in
    let p = bad came.point came.stands in
    let split = came.split ∙ ap (λ l. came.lines ++ l) (lines_first came.rest line read.0 some ∙ ap (λ b. b ∷ lines_of (drop_through 10 came.rest)) (sym cut)) in (
      text_at came.point ++ error_text (number + 1),
      (
        came.lines,
        lines_of (drop_through 10 came.rest),
        bytes,
        came.point,
        split,
        came.passed,
        run_done came.point.stage m came.stands,
        p.0,
        ap (λ k. k + 1) (sym came.count),
        refl,
      ),
      (λ harmless.
          let parts = all_split (λ b. IsHarmless (line_of b)) came.lines (bytes ∷ lines_of (drop_through 10 came.rest)) (subst (AllByRecursion (λ b. IsHarmless (line_of b))) split harmless) in
          clean_text (text_at came.point ++ error_text (number + 1)) (clean_append (text_at came.point) (error_text (number + 1)) (came_clean input left old mid number m came parts.0) (error_clean (number + 1)))),
      Appends-trans _ _ _ _ _ (subst (λ w. Appends old w (text_at came.point)) (sym p.1) came.wrote) reported,
    )

-- what is read into an emptied buffer
pub fresh : (left : Option (List ℕ)) (old new : List ℕ) → old ≡ [] → IfSome left (λ xs. new ≡ old ++ take_through 10 xs) → IfSome left (λ xs. new ≡ take_through 10 xs)
fresh left old new none h = subst (λ (l : List ℕ). IfSome left (λ xs. new ≡ l ++ take_through 10 xs)) none h
