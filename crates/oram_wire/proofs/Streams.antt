-- Streams of frames, one frame longer and in pieces.
use Rattle.std.proofs.Common.{◌≡◌, ℕ, ◌+◌, ◌-◌, ◌≤◌, min, Bool, true, false, List, [], ◌∷◌, ◌++◌, length, take, drop, slice_range, All, refl, sym, ap, subst, ◌∙◌, arith, inl, inr, ◌⊎◌}
use Rattle.std.specs.Bool.{MatchBool}
use Rattle.std.specs.List.{flat_map}
use Rattle.std.specs.Int.{w32, to_be_bytes}
use Rattle.std.proofs.lemmas.Bool.{cases_lt}
use Rattle.std.proofs.lemmas.List.{append_assoc, append-nil, drop-append-le, drop_all, drop_at, length-append, take_at, take_rest, take-append-drop}
use Rattle.std.proofs.lemmas.List.Concat.{flat_map-append}
use Rattle.std.proofs.lemmas.List.Elements.{All-append, All-cons, All-head, All-nil, All-tail}
use Rattle.std.proofs.Math.Seq.{drop-append-add}
use Rattle.byteorder.specs.Numbers.{big_number-reads_back, big_from-append}
use Rattle.oram_wire.specs.declared.TheConstants.{LONGEST_BODY}
use Rattle.oram_wire.specs.FrameStream.{AreFrames, Feeding, IsBody, IsBroken, IsLeft, IsUnfinished, frame, length_at}
use Rattle.oram_wire.proofs.Numbers.{IsBytes, IsBytes-append, number_and_rest}

-- the bytes after the first four of `held` and the part after it
pub behind_head : (held part : List ℕ) (m : ℕ) → m ≡ min (length held) 4 → 4 ≤ length held + length part
    → slice_range held m (length held) ++ slice_range part (4 - m) (length part) ≡ drop 4 (held ++ part)
behind_head held part m is long =
    let first : slice_range held m (length held) ≡ drop m held = take_rest held m in
    let second : slice_range part (4 - m) (length part) ≡ drop (4 - m) part = take_rest part (4 - m) in
    let both : slice_range held m (length held) ++ slice_range part (4 - m) (length part) ≡ drop m held ++ drop (4 - m) part = ap (λ (xs : List ℕ). xs ++ slice_range part (4 - m) (length part)) first ∙ ap (λ (ys : List ℕ). drop m held ++ ys) second in
    elim (cases_lt (length held) 4) [
      | inl short ↦
          let m_is : m ≡ length held = omega arith in
          let four : length held + (4 - length held) ≡ 4 = omega arith in
          both ∙ ap (λ (k : ℕ). drop k held ++ drop (4 - k) part) m_is ∙ ap (λ (xs : List ℕ). xs ++ drop (4 - length held) part) (drop_all (length held) held (omega arith))
          ∙ sym (drop-append-add held part (4 - length held)) ∙ ap (λ (k : ℕ). drop k (held ++ part)) four
      | inr enough ↦
          let m_is : m ≡ 4 = omega arith in
          both ∙ ap (λ (k : ℕ). drop k held ++ drop (4 - k) part) m_is ∙ sym (drop-append-le 4 held part enough)
    ]

-- the bytes held and the part after them are the number at their front and the bytes after it
pub number_across : (held part body : List ℕ) → IsBytes held → IsBytes part → 4 ≤ length held + length part → body ≡ drop 4 (held ++ part)
    → held ++ part ≡ to_be_bytes w32 (length_at (held ++ part)) ++ body
number_across held part body held_fits part_fits long body_is =
    let long_front : 4 ≤ length (held ++ part) = omega (arith, length-append held part) in
    sym (number_and_rest (held ++ part) (length_at (held ++ part)) long_front (IsBytes-append held part held_fits part_fits) refl)
    ∙ ap (λ (xs : List ℕ). to_be_bytes w32 (length_at (held ++ part)) ++ xs) (sym body_is)

-- the bytes held and the piece after them begin with a frame
frame_across : (held piece part after body : List ℕ) (n : ℕ) → IsUnfinished held → n ≡ length_at (held ++ piece) → part ≡ take (4 + n - length held) piece → after ≡ drop (4 + n - length held) piece
    → length part ≡ 4 + n - length held → held ++ part ≡ to_be_bytes w32 (length_at (held ++ part)) ++ body → (held ++ piece ≡ frame body ++ after) × (length body ≡ n)
frame_across held piece part after body n unfinished n_is part_is after_is part_len front_is =
    let split : piece ≡ part ++ after = sym (ap (λ (xs : List ℕ). xs ++ after) part_is ∙ ap (λ (ys : List ℕ). take (4 + n - length held) piece ++ ys) after_is ∙ take-append-drop (4 + n - length held) piece) in
    let whole : held ++ piece ≡ (held ++ part) ++ after = ap (λ (xs : List ℕ). held ++ xs) split ∙ sym (append_assoc held part after) in
    let within : length held ≤ 4 + n = elim (cases_lt (length held) 4) [
      | inl short ↦ omega arith
      | inr enough ↦ omega (arith, (unfinished enough).1, big_from-append 4 held piece enough)
    ] in
    let count : length (held ++ part) ≡ 4 + n = omega (arith, length-append held part) in
    let number : length_at (held ++ part) ≡ n = sym (n_is ∙ ap length_at whole ∙ big_from-append 4 (held ++ part) after (omega arith)) in
    let body_len : length body ≡ n = omega (arith, ap length front_is, length-append (to_be_bytes w32 (length_at (held ++ part))) body) in
    (whole ∙ ap (λ (xs : List ℕ). xs ++ after) (front_is ∙ ap (λ (k : ℕ). to_be_bytes w32 k ++ body) (number ∙ sym body_len)), body_len)

-- the frame that was begun, and the frames of the piece after it
pub frames_across : (held piece part after body rest : List ℕ) (n : ℕ) (bodies : List (List ℕ)) (left : Feeding) → IsUnfinished held → n ≡ length_at (held ++ piece)
    → part ≡ take (4 + n - length held) piece → after ≡ drop (4 + n - length held) piece → length part ≡ 4 + n - length held → held ++ part ≡ to_be_bytes w32 (length_at (held ++ part)) ++ body → n ≤ LONGEST_BODY
    → flat_map frame bodies ++ rest ≡ flat_map frame (body ∷ []) ++ after → (All IsBody (body ∷ []) → All IsBody bodies) → IsLeft rest left → AreFrames (held ++ piece) bodies left
frames_across held piece part after body rest n bodies left unfinished n_is part_is after_is part_len front_is short cut each leaves =
    let first = frame_across held piece part after body n unfinished n_is part_is after_is part_len front_is in
    record {
      rest = rest;
      whole = first.0 ∙ ap (λ (xs : List ℕ). xs ++ after) (sym (append-nil (frame body))) ∙ sym cut;
      each = each (All-cons IsBody body [] (omega (arith, first.1)) (All-nil IsBody));
      leaves = leaves;
    }

-- the front has no frame
abbrev IsEnd : List ℕ → Type 0
IsEnd rest = IsBroken rest ⊎ IsUnfinished rest

IsEnd-from_left : (rest held : List ℕ) (broken : Bool) → IsLeft rest (record { held = held; broken = broken }) → IsEnd rest
IsEnd-from_left rest held true h = inl h.0
IsEnd-from_left rest held false h = inr h.0

length_at-frame : (body after : List ℕ) → IsBody body → length_at (frame body ++ after) ≡ length body
length_at-frame body after fits = ap length_at (append_assoc (to_be_bytes w32 (length body)) body after) ∙ big_number-reads_back 4 (length body) (body ++ after) (omega arith)

length-frame : (body after : List ℕ) → length (frame body ++ after) ≡ 4 + length body + length after
length-frame body after = length-append (frame body) after ∙ (let e : length (frame body) + length after ≡ 4 + length body + length after = omega (arith, length-append (to_be_bytes w32 (length body)) body) in e)

no_frame : (rest body after : List ℕ) → IsEnd rest → IsBody body → rest ≡ frame body ++ after → ⊥
no_frame rest body after (inl broken) fits e = omega (arith, broken.1, ap length_at e, length_at-frame body after fits)
no_frame rest body after (inr unfinished) fits e =
    let count : length rest ≡ 4 + length body + length after = ap length e ∙ length-frame body after in
    omega (arith, (unfinished (omega arith)).1, ap length_at e, length_at-frame body after fits)

-- a frame at the front can be read in only one way
same_frame : (b c u v : List ℕ) → IsBody b → IsBody c → frame b ++ u ≡ frame c ++ v → (b ≡ c) × (u ≡ v)
same_frame b c u v b_fits c_fits e =
    let count : length b ≡ length c = sym (length_at-frame b u b_fits) ∙ ap length_at e ∙ length_at-frame c v c_fits in
    let left : drop 4 (frame b ++ u) ≡ b ++ u = ap (drop 4) (append_assoc (to_be_bytes w32 (length b)) b u) ∙ drop_at (to_be_bytes w32 (length b)) (b ++ u) 4 refl in
    let right : drop 4 (frame c ++ v) ≡ c ++ v = ap (drop 4) (append_assoc (to_be_bytes w32 (length c)) c v) ∙ drop_at (to_be_bytes w32 (length c)) (c ++ v) 4 refl in
    let behind : b ++ u ≡ c ++ v = sym left ∙ ap (drop 4) e ∙ right in (
      sym (take_at b u (length b) refl) ∙ ap (take (length b)) behind ∙ take_at c v (length b) (sym count),
      sym (drop_at b u (length b) refl) ∙ ap (drop (length b)) behind ∙ drop_at c v (length b) (sym count),
    )

same_frames : (bs cs : List (List ℕ)) (x y : List ℕ) → flat_map frame bs ++ x ≡ flat_map frame cs ++ y → All IsBody bs → All IsBody cs → IsEnd x → IsEnd y → (bs ≡ cs) × (x ≡ y)
same_frames [] [] x y e b_fits c_fits x_ends y_ends = (refl, e)
same_frames [] (c ∷ cs) x y e b_fits c_fits x_ends y_ends =
    absurd (no_frame x c (flat_map frame cs ++ y) x_ends (All-head IsBody c cs c_fits) (e ∙ append_assoc (frame c) (flat_map frame cs) y))
same_frames (b ∷ bs) [] x y e b_fits c_fits x_ends y_ends =
    absurd (no_frame y b (flat_map frame bs ++ x) y_ends (All-head IsBody b bs b_fits) (sym e ∙ append_assoc (frame b) (flat_map frame bs) x))
same_frames (b ∷ bs) (c ∷ cs) x y e b_fits c_fits x_ends y_ends =
    let first = same_frame b c (flat_map frame bs ++ x) (flat_map frame cs ++ y) (All-head IsBody b bs b_fits) (All-head IsBody c cs c_fits)
    (sym (append_assoc (frame b) (flat_map frame bs) x) ∙ e ∙ append_assoc (frame c) (flat_map frame cs) y) in
    let others = same_frames bs cs x y first.1 (All-tail IsBody b bs b_fits) (All-tail IsBody c cs c_fits) x_ends y_ends in
    (ap (λ (d : List ℕ). d ∷ bs) first.0 ∙ ap (λ (ds : List (List ℕ)). c ∷ ds) others.0, others.1)

same_left : (rest held kept : List ℕ) (broken torn : Bool) → IsLeft rest (record { held = held; broken = broken }) → IsLeft rest (record { held = kept; broken = torn })
    → (let x : Feeding = record { held = held; broken = broken } in let y : Feeding = record { held = kept; broken = torn } in x ≡ y)
same_left rest held kept true true p q = ap (λ (h : List ℕ). record { held = h; broken = true }) (p.1 ∙ sym q.1)
same_left rest held kept true false p q = absurd (omega (arith, p.0.1, (q.0 p.0.0).0))
same_left rest held kept false true p q = absurd (omega (arith, q.0.1, (p.0 q.0.0).0))
same_left rest held kept false false p q = ap (λ (h : List ℕ). record { held = h; broken = false }) (p.1 ∙ sym q.1)

-- a stream has only one list of frames
pub same_reading : (stream : List ℕ) (bs cs : List (List ℕ)) (l m : Feeding) → AreFrames stream bs l → AreFrames stream cs m → (bs ≡ cs) × (l ≡ m)
same_reading stream bs cs l m p q =
    let both = same_frames bs cs p.rest q.rest (sym p.whole ∙ q.whole) p.each q.each (IsEnd-from_left p.rest l.held l.broken p.leaves) (IsEnd-from_left q.rest m.held m.broken q.leaves) in
    let P : List ℕ → Type 0 = λ rest. IsLeft rest m in
    (both.0, same_left p.rest l.held m.held l.broken m.broken p.leaves (subst P (sym both.1) q.leaves))

held_is : (rest held : List ℕ) (broken : Bool) → broken ≡ false → IsLeft rest (record { held = held; broken = broken }) → held ≡ rest
held_is rest held true e h = absurd cc
held_is rest held false e h = h.1

-- the frames of a stream and more bytes are those of the stream, then those of the bytes held and the new ones
pub goes_on : (stream piece : List ℕ) (bodies more : List (List ℕ)) (old new : Feeding) → old.broken ≡ false → AreFrames stream bodies old → AreFrames (old.held ++ piece) more new → AreFrames (stream ++ piece) (bodies ++ more) new
goes_on stream piece bodies more old new whole p q =
    let held : old.held ≡ p.rest = held_is p.rest old.held old.broken whole p.leaves in
    record {
      rest = q.rest;
      whole = ap (λ (xs : List ℕ). xs ++ piece) (p.whole ∙ ap (λ (xs : List ℕ). flat_map frame bodies ++ xs) (sym held)) ∙ append_assoc (flat_map frame bodies) old.held piece
          ∙ ap (λ (xs : List ℕ). flat_map frame bodies ++ xs) q.whole ∙ sym (append_assoc (flat_map frame bodies) (flat_map frame more) q.rest)
          ∙ ap (λ (xs : List ℕ). xs ++ q.rest) (sym (flat_map-append frame bodies more));
      each = All-append IsBody bodies more p.each q.each;
      leaves = q.leaves;
    }

-- nothing of a broken stream is held
pub leaves_nothing : (rest held : List ℕ) (broken : Bool) → broken ≡ true → MatchBool broken (IsBroken rest) (IsUnfinished rest) → held ≡ [] → IsLeft rest (record { held = held; broken = broken })
leaves_nothing rest held true e h nothing = (h, nothing)
leaves_nothing rest held false e h nothing = absurd cc

-- bytes that are less than a whole frame are held
pub leaves_rest : (rest held : List ℕ) (broken : Bool) → broken ≡ false → MatchBool broken (IsBroken rest) (IsUnfinished rest) → held ≡ rest → IsLeft rest (record { held = held; broken = broken })
leaves_rest rest held true e h same = absurd cc
leaves_rest rest held false e h same = (h, same)
