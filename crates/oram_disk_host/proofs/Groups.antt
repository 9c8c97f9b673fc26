-- The groups of messages that a host has carried out, and some more of them.
use Rattle.std.proofs.Common.{◌≡◌, ℕ, ◌+◌, ◌-◌, true, false, true≢false, inl, ◌∷◌, ◌++◌, List, [], length, take, drop, Option, Err, Ok, Result, refl, sym, ap, ◌∙◌, subst, append-nil, append_assoc, take_all, le_refl, take-append-drop, arith}
use Rattle.std.specs.Global.{Vec}
use Rattle.std.specs.Prelude.{All, if◌then◌else◌}
use Rattle.std.specs.Result.{is_err, is_ok}
use Rattle.std.proofs.lemmas.List.{drop-map, map-append, take-map, take_rest}
use Rattle.std.specs.List.{flat_map, FoldsTo}
use Rattle.std.proofs.Math.Seq.{take-add}
use Rattle.std.proofs.lemmas.Fn.{FoldsTo-push}
use Rattle.std.proofs.lemmas.List.Concat.{flat_map-append}
use Rattle.std.specs.Io.KnownBytes.{Appends, Consumes, Keeps}
use Rattle.std.proofs.KnownBytes.{Appends-kept, Appends-nil, Appends-trans, Consumes-nil, Consumes-trans}
use Rattle.oram_redo.specs.FilePair.{FileModel}
use Rattle.oram_wire.specs.FrameIo.{GivesBrokenHead, GivesCutFrame, GivesHead, GivesPart}
use Rattle.oram_wire.specs.FrameStream.{IsBody, frame}
use Rattle.oram_wire.specs.HostMessages.{answer_body}
use Rattle.oram_wire.specs.ListOfBodies.{bodies_in}
use Rattle.oram_wire.specs.declared.frame_io.FrameFault.{FrameFault}
use Rattle.oram_wire.specs.declared.frame_io.FrameFault.TheVariants as fault
use Rattle.oram_wire.specs.declared.host_messages.HostAnswer.{HostAnswer}
use Rattle.oram_host.specs.Answered.{Answering}
use Rattle.oram_host.specs.ServeFaults.{frame_fault}
use Rattle.oram_host.specs.Transfers.{Begins}
use Rattle.oram_host.proofs.Transfers.{begun_last}
use Rattle.oram_host.specs.declared.serve_fault.ServeFault.{ServeFault}
use Rattle.oram_host.specs.declared.serve_fault.ServeFault.TheVariants.{Write, Read, Frame, Truncated, Stalled, OutOfMemory}
use Rattle.oram_disk_host.specs.Hosts.{HostedValue, Serves}
use Rattle.oram_disk_host.specs.Serving.{AnswersAll, Carries, EndsServing, Group, HasServed, IsCutOff, IsGathered, IsServed, LeavesOff, answers_text, frames, messages_of}
use Rattle.oram_disk_host.specs.declared.serving.Next.{Next}
use Rattle.oram_disk_host.specs.declared.serving.Next.TheVariants.{Waits, Ends, Fails}

-- one after the other
folds_then : {P A : Type 0} (R : P → A → P → Type 0) (p : P) (xs : List A) (q : P) (ys : List A) (r : P) → FoldsTo R p xs q → FoldsTo R q ys r → FoldsTo R p (xs ++ ys) r
folds_then R p [] q ys r first second = subst (λ s. FoldsTo R s ys r) (sym first) second
folds_then R p (x ∷ xs) q ys r first second = (first.0, first.1, folds_then R first.0 xs q ys r first.2 second)

messages_push : (groups : List Group) (g : Group) → messages_of (groups ++ g ∷ []) ≡ messages_of groups ++ g.bodies
messages_push groups g = flat_map-append (λ (x : Group). x.bodies) groups (g ∷ []) ∙ ap (λ (l : List (List ℕ)). messages_of groups ++ l) (append-nil g.bodies)

-- the frames of an answer to each of some messages
abbrev pub answer_frames : HostAnswer → List (List ℕ) → List ℕ
answer_frames answer bodies = flat_map (λ body. frame (answer_body answer)) bodies

answers_push : (groups : List Group) (g : Group) → answers_text (groups ++ g ∷ []) ≡ answers_text groups ++ answer_frames g.answer g.bodies
answers_push groups g =
    flat_map-append (λ (x : Group). answer_frames x.answer x.bodies) groups (g ∷ []) ∙ ap (λ (l : List ℕ). answers_text groups ++ l) (append-nil (answer_frames g.answer g.bodies))

-- ---- slices of a list of vectors

pub rest_is : (bodies : List (Vec ℕ)) (done : ℕ) → bodies_in (take (length bodies - done) (drop done bodies)) ≡ drop done (bodies_in bodies)
rest_is bodies done = ap bodies_in (take_rest bodies done) ∙ sym (drop-map (λ (v : Vec ℕ). v.items) done bodies)

pub front_is : (bodies : List (Vec ℕ)) (count : ℕ) → bodies_in (take count bodies) ≡ take count (bodies_in bodies)
front_is bodies count = sym (take-map (λ (v : Vec ℕ). v.items) count bodies)

pub bodies_push : (bodies : List (Vec ℕ)) (v : Vec ℕ) → bodies_in (bodies ++ v ∷ []) ≡ bodies_in bodies ++ v.items ∷ []
bodies_push bodies v = map-append (λ (w : Vec ℕ). w.items) bodies (v ∷ [])

-- what a vector has after a push
pub pushed_no : {A E : Type 0} (r : Result Unit E) (xs ys : List A) → is_err r ≡ true → (if is_ok r then xs else ys) ≡ ys
pushed_no (Ok x) xs ys is = absurd (true≢false (sym is))
pushed_no (Err e) xs ys is = refl

pub pushed_yes : {A E : Type 0} (r : Result Unit E) (xs ys : List A) → is_err r ≡ false → (if is_ok r then xs else ys) ≡ xs
pushed_yes (Ok x) xs ys is = refl
pushed_yes (Err e) xs ys is = absurd (true≢false is)

-- ---- frames that were read

pub read_more : (bodies : List (List ℕ)) (body : List ℕ) (a b c : Option (List ℕ)) → Consumes a b (frames bodies) → Consumes b c (frame body) → Consumes a c (frames (bodies ++ body ∷ []))
read_more bodies body a b c first second =
    subst (Consumes a c) (sym (flat_map-append frame bodies (body ∷ []) ∙ ap (λ (l : List ℕ). frames bodies ++ l) (append-nil (frame body)))) (Consumes-trans a b c (frames bodies) (frame body) first second)

-- no further frame could be read
pub gathered_cut : (bodies : List (List ℕ)) (a b c : Option (List ℕ)) → All IsBody bodies → Consumes a b (frames bodies) → (f : FrameFault)
    → (f ≡ fault.Read → GivesPart b c) → (f ≡ fault.Frame → GivesBrokenHead b c) → (f ≡ fault.Truncated → GivesCutFrame b c) → (f ≡ fault.OutOfMemory → GivesHead b c)
    → IsGathered bodies (Fails (frame_fault f)) a c
gathered_cut bodies a b c fits read fault.Read part broken cut head =
    let w = part refl in record { part = w.0; fits = fits; read = Consumes-trans a b c (frames bodies) w.0 read w.2; ends = w.1 }
gathered_cut bodies a b c fits read fault.Frame part broken cut head =
    let w = broken refl in record { part = w.0; fits = fits; read = Consumes-trans a b c (frames bodies) w.0 read w.3; ends = (w.1, w.2) }
gathered_cut bodies a b c fits read fault.Truncated part broken cut head =
    let w = cut refl in record { part = w.0; fits = fits; read = Consumes-trans a b c (frames bodies) w.0 read w.3; ends = (w.1, w.2, w.4) }
gathered_cut bodies a b c fits read fault.OutOfMemory part broken cut head =
    let w = head refl in record { part = w.0; fits = fits; read = Consumes-trans a b c (frames bodies) w.0 read w.3; ends = inl (w.1, w.2) }

-- two equal hosts serve messages in the same way
pub served_by : {F : Type 0} (model : FileModel F) (inside before after : HostedValue F) (bodies : List (List ℕ)) (answer : HostAnswer) → inside ≡ before
    → Serves model inside bodies answer after → Serves model before bodies answer after
served_by {F} model inside before after bodies answer is made = subst (λ (host : HostedValue F). Serves model host bodies answer after) is made

module _ {F : Type 0} (model : FileModel F) where
  -- the first `done` messages were carried out, and their answers written
  pub record HasDone (bodies : List (List ℕ)) (done : ℕ) (old now : HostedValue F) (written written' : Option (List ℕ)) : Type 0 where
    pub groups : List Group
    pub are : messages_of groups ≡ take done bodies
    pub led : FoldsTo (IsServed model) old groups now
    pub wrote : Appends written written' (answers_text groups)

  module _ (bodies : List (List ℕ)) (done : ℕ) (old now : HostedValue F) (written written' : Option (List ℕ)) (k : HasDone bodies done old now written written') where
    -- one more group, whose answers are written or not
    module _ (count : ℕ) (answer : HostAnswer) (after : HostedValue F) (serves : Serves model now (take count (drop done bodies)) answer after) where
      abbrev one : Group
      one = record { bodies = take count (drop done bodies); answer = answer }

      all_are : messages_of (k.groups ++ one ∷ []) ≡ take (done + count) bodies
      all_are = messages_push k.groups one ∙ ap (λ (l : List (List ℕ)). l ++ take count (drop done bodies)) k.are ∙ sym (take-add done count bodies)

      all_led : FoldsTo (IsServed model) old (k.groups ++ one ∷ []) after
      all_led = FoldsTo-push (IsServed model) old k.groups now one after k.led serves

      pub done_more : (last : Option (List ℕ)) → Appends written' last (answer_frames answer (take count (drop done bodies))) → HasDone bodies (done + count) old after written last
      done_more last wrote = record {
        groups = k.groups ++ one ∷ [];
        are = all_are;
        led = all_led;
        wrote = subst (Appends written last) (sym (answers_push k.groups one)) (Appends-trans written written' last (answers_text k.groups) (answer_frames answer (take count (drop done bodies))) k.wrote wrote);
      }

      pub done_in_part : (last : Option (List ℕ)) → Begins written' last (answer_frames answer (take count (drop done bodies))) → AnswersAll model bodies (Err Write) old after written last
      done_in_part last begun = (
        k.groups ++ one ∷ [],
        drop (done + count) bodies,
        record { are = sym (take-append-drop (done + count) bodies) ∙ ap (λ (l : List (List ℕ)). l ++ drop (done + count) bodies) (sym all_are); led = all_led },
        subst (Begins written last) (sym (answers_push k.groups one)) (begun_last written written' last (answers_text k.groups) (answer_frames answer (take count (drop done bodies))) k.wrote begun),
      )

    pub done_memory : (after : HostedValue F) → after ≡ now → AnswersAll model bodies (Err OutOfMemory) old after written written'
    done_memory after same = (
      k.groups,
      drop done bodies,
      record { are = sym (take-append-drop done bodies) ∙ ap (λ (l : List (List ℕ)). l ++ drop done bodies) (sym k.are); led = subst (λ (h : HostedValue F). FoldsTo (IsServed model) old k.groups h) (sym same) k.led },
      k.wrote,
    )

    pub done_whole : (x : Unit {0}) → take done bodies ≡ bodies → AnswersAll model bodies (Ok x) old now written written'
    done_whole x all = (k.groups, record { are = sym all ∙ sym k.are ∙ sym (append-nil (messages_of k.groups)); led = k.led }, k.wrote)

  -- the answers can't be flushed
  pub answers_broken : (bodies : List (List ℕ)) (result : Result Unit ServeFault) (old new : HostedValue F) (written mid last : Option (List ℕ)) → Keeps mid last
      → AnswersAll model bodies result old new written mid → AnswersAll model bodies (Err Write) old new written last
  answers_broken bodies (Ok x) old new written mid last kept said =
      (said.0, [], said.1, (length (answers_text said.0), subst (Appends written last) (sym (take_all (length (answers_text said.0)) (answers_text said.0) (le_refl _))) (Appends-kept written mid last (answers_text said.0) said.2 kept)))
  answers_broken bodies (Err Write) old new written mid last kept said = (said.0, said.1, said.2, (said.3.0, Appends-kept written mid last (take said.3.0 (answers_text said.0)) said.3.1 kept))
  answers_broken bodies (Err OutOfMemory) old new written mid last kept said =
      (said.0, said.1, said.2, (length (answers_text said.0), subst (Appends written last) (sym (take_all (length (answers_text said.0)) (answers_text said.0) (le_refl _))) (Appends-kept written mid last (answers_text said.0) said.3 kept)))
  answers_broken bodies (Err Read) old new written mid last kept said = absurd said
  answers_broken bodies (Err Frame) old new written mid last kept said = absurd said
  answers_broken bodies (Err Truncated) old new written mid last kept said = absurd said
  answers_broken bodies (Err Stalled) old new written mid last kept said = absurd said

  -- what a connection has come to, between two times of reading
  pub record HasRun (p q : Answering (HostedValue F)) : Type 0 where
    pub groups : List Group
    pub led : FoldsTo (IsServed model) p.state groups q.state
    pub read : Consumes p.unread q.unread (frames (messages_of groups))
    pub wrote : Appends p.written q.written (answers_text groups)

  pub run_none : (p : Answering (HostedValue F)) → HasRun p p
  run_none p = record { groups = []; led = refl; read = Consumes-nil p.unread; wrote = Appends-nil p.written }

  module _ (p q z : Answering (HostedValue F)) (k : HasRun p q) (bodies : List (List ℕ)) (next : Next) (gathered : IsGathered bodies next q.unread z.unread) where
    more_served : (groups : List Group) (rest : List (List ℕ)) → Carries model bodies groups rest q.state z.state → HasServed model p z (k.groups ++ groups) (frames rest ++ gathered.part)
    more_served groups rest carries = record {
      led = folds_then (IsServed model) p.state k.groups q.state groups z.state k.led carries.led;
      read = subst (Consumes p.unread z.unread) same (Consumes-trans p.unread q.unread z.unread (frames (messages_of k.groups)) (frames bodies ++ gathered.part) k.read gathered.read);
    }
      where
        parts : frames bodies ≡ frames (messages_of groups) ++ frames rest
        parts = ap frames carries.are ∙ flat_map-append frame (messages_of groups) rest

        joined : frames (messages_of (k.groups ++ groups)) ≡ frames (messages_of k.groups) ++ frames (messages_of groups)
        joined = ap frames (flat_map-append (λ (g : Group). g.bodies) k.groups groups) ∙ flat_map-append frame (messages_of k.groups) (messages_of groups)

        same : frames (messages_of k.groups) ++ (frames bodies ++ gathered.part) ≡ frames (messages_of (k.groups ++ groups)) ++ (frames rest ++ gathered.part)
        same =
            ap (λ (l : List ℕ). frames (messages_of k.groups) ++ (l ++ gathered.part)) parts
            ∙ ap (λ (l : List ℕ). frames (messages_of k.groups) ++ l) (append_assoc (frames (messages_of groups)) (frames rest) gathered.part)
            ∙ sym (append_assoc (frames (messages_of k.groups)) (frames (messages_of groups)) (frames rest ++ gathered.part))
            ∙ ap (λ (l : List ℕ). l ++ (frames rest ++ gathered.part)) (sym joined)

    texts_joined : (groups : List Group) → answers_text k.groups ++ answers_text groups ≡ answers_text (k.groups ++ groups)
    texts_joined groups = sym (flat_map-append (λ (g : Group). answer_frames g.answer g.bodies) k.groups groups)

    all_wrote : (groups : List Group) → Appends q.written z.written (answers_text groups) → Appends p.written z.written (answers_text (k.groups ++ groups))
    all_wrote groups wrote = subst (Appends p.written z.written) (texts_joined groups) (Appends-trans p.written q.written z.written (answers_text k.groups) (answers_text groups) k.wrote wrote)

    -- further messages may come
    pub run_more : (x : Unit {0}) → next ≡ Waits → AnswersAll model bodies (Ok x) q.state z.state q.written z.written → HasRun p z
    run_more x is said =
        let served = more_served said.0 [] said.1 in
        let ends : LeavesOff Waits gathered.part z.unread = subst (λ (n : Next). LeavesOff n gathered.part z.unread) is gathered.ends in
        record {
          groups = k.groups ++ said.0;
          led = served.led;
          read = subst (Consumes p.unread z.unread) (ap (λ (l : List ℕ). frames (messages_of (k.groups ++ said.0)) ++ l) ends ∙ append-nil (frames (messages_of (k.groups ++ said.0)))) served.read;
          wrote = all_wrote said.0 said.2;
        }

    -- the input has ended
    pub run_ends : (x y : Unit {0}) → next ≡ Ends → AnswersAll model bodies (Ok x) q.state z.state q.written z.written → EndsServing model p z (Ok y)
    run_ends x y is said =
        let ends : LeavesOff Ends gathered.part z.unread = subst (λ (n : Next). LeavesOff n gathered.part z.unread) is gathered.ends in (
          k.groups ++ said.0,
          subst (λ (l : List ℕ). HasServed model p z (k.groups ++ said.0) l) ends.0 (more_served said.0 [] said.1),
          all_wrote said.0 said.2,
          ends.1,
        )

    cut_off : (fault : ServeFault) → IsCutOff fault gathered.part z.unread → (groups : List Group) → HasServed model p z groups gathered.part → Appends p.written z.written (answers_text groups) → EndsServing model p z (Err fault)
    cut_off Read cut groups served wrote = (groups, gathered.part, served, wrote, cut)
    cut_off Frame cut groups served wrote = (groups, gathered.part, served, wrote, cut)
    cut_off Truncated cut groups served wrote = (groups, gathered.part, served, wrote, cut)
    cut_off OutOfMemory cut groups served wrote = (groups, gathered.part, served, wrote)
    cut_off Write cut groups served wrote = absurd cut
    cut_off Stalled cut groups served wrote = absurd cut

    -- no further message can be read
    pub run_fails : (x : Unit {0}) (fault : ServeFault) → next ≡ Fails fault → AnswersAll model bodies (Ok x) q.state z.state q.written z.written → EndsServing model p z (Err fault)
    run_fails x fault is said =
        let ends : LeavesOff (Fails fault) gathered.part z.unread = subst (λ (n : Next). LeavesOff n gathered.part z.unread) is gathered.ends in
        cut_off fault ends (k.groups ++ said.0) (more_served said.0 [] said.1) (all_wrote said.0 said.2)

    -- a message can't be answered
    pub run_breaks : (fault : ServeFault) → AnswersAll model bodies (Err fault) q.state z.state q.written z.written → EndsServing model p z (Err fault)
    run_breaks Write said = (
      k.groups ++ said.0,
      frames said.1 ++ gathered.part,
      more_served said.0 said.1 said.2,
      subst (Begins p.written z.written) (texts_joined said.0) (begun_last p.written q.written z.written (answers_text k.groups) (answers_text said.0) k.wrote said.3),
    )
    run_breaks OutOfMemory said = (k.groups ++ said.0, frames said.1 ++ gathered.part, more_served said.0 said.1 said.2, all_wrote said.0 said.3)
    run_breaks Read said = absurd said
    run_breaks Frame said = absurd said
    run_breaks Truncated said = absurd said
    run_breaks Stalled said = absurd said

  -- the loop can't end otherwise
  pub run_stops : (p q : Answering (HostedValue F)) → HasRun p q → EndsServing model p q (Err Read)
  run_stops p q k = (
    k.groups,
    [],
    record { led = k.led; read = subst (Consumes p.unread q.unread) (sym (append-nil (frames (messages_of k.groups)))) k.read },
    k.wrote,
    λ long. absurd (omega arith),
  )
