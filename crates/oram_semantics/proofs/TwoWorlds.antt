-- The messages of two worlds look alike.
use Rattle.std.proofs.Common.{◌≡◌, ℕ, ◌+◌, ◌-◌, ◌<◌, ◌≤◌, Bool, true, false, if◌then◌else◌, List, [], ◌∷◌, ◌++◌, length, map, take, refl, ap, sym, subst, subst₂, ◌∙◌, arith, append_assoc, append-nil, length-append}
use Rattle.std.proofs.lemmas.Grind.{flat_map-append}
use Rattle.std.proofs.lemmas.List.{map-append, length-map}
use Rattle.oram_geometry.specs.declared.Sizes.{Sizes}
use Rattle.oram_geometry.specs.Sizes.{trees_of}
use Rattle.oram_trace.specs.Tape.{entry}
use Rattle.oram_trace.specs.TapeRearrangement.{tape_len, rearranged_tape, ShowsAlike}
use Rattle.oram_semantics.specs.Events.{address_of, addresses, tape}
use Rattle.oram_semantics.specs.Progress.{Setting, Step, accepted, sent, progress, entries, entry_at, submission_of}
use Rattle.oram_semantics.specs.Run.{Shown, step_of, AllRight, IsRight, AskFor, SendsRight, entries_sent, from_to, is_resent}
use Rattle.oram_semantics.specs.TwoWorlds.{LookAlike, past_of, AreFirstOf, LookAlikeFrom, TwoWorldsLookAlike}
use Rattle.oram_semantics.specs.declared.events.Event.{Event}
use Rattle.oram_semantics.specs.declared.events.Note.{Note}
use Rattle.oram_semantics.specs.declared.events.Submission.{Submission}
use Rattle.oram_semantics.proofs.Counts.{accepted_cons, sent_cons}
use Rattle.oram_semantics.proofs.FirstEntries.{AgreeBelow, entry_same, start_short, start_agrees}
use Rattle.oram_semantics.proofs.Alike.{AreOneScheme, asks_alike, newest_alike}
use Rattle.oram_semantics.proofs.Pasts.{takes, good_rises, brings, Adds, adds}

one_more_by : (b : Bool) (xs ys : List Submission) → (more : List Submission) × ((if b then xs ++ ys else xs) ≡ xs ++ more)
one_more_by true xs ys = (ys, refl)
one_more_by false xs ys = ([], sym (append-nil xs))

-- the accepted submissions stay, and more are added after them
goes_on : (past : List Step) (events : List Event) (xs : List Shown)
    → (more : List Submission) × (accepted (past_of past events xs) ≡ accepted past ++ more)
goes_on past events [] = ([], sym (append-nil (accepted past)))
goes_on past [] (x ∷ xs) = ([], sym (append-nil (accepted past)))
goes_on past (event ∷ events) (x ∷ xs) =
    let step : Step = step_of event x in
    let here = one_more_by step.accepts (accepted past) (submission_of (length (accepted past)) event) in
    let rest = goes_on (step ∷ past) events xs in
    (here.0 ++ rest.0, rest.1 ∙ ap (λ subs. subs ++ rest.0) (accepted_cons step past ∙ here.1) ∙ append_assoc (accepted past) here.0 rest.0)

-- submissions are the first of those with these addresses and this tape
record Begins (all words : List ℕ) (subs : List Submission) : Type 0 where
  short : length subs ≤ length all
  addresses_agree : AgreeBelow (length subs) (addresses subs) all
  words_agree : AgreeBelow (length (tape subs)) (tape subs) words

-- so are those of each earlier past
begins : (all words : List ℕ) (past : List Step) (events : List Event) (xs : List Shown)
    → AreFirstOf all words (past_of past events xs) → Begins all words (accepted past)
begins all words past events xs are =
    let now : List Submission = accepted past in
    let last : List Submission = accepted (past_of past events xs) in
    let on = goes_on past events xs in
    let len : length (addresses now) ≡ length now = length-map now (λ (s : Submission). address_of s.command) in
    let all_len : length (addresses last) ≡ length last = length-map last (λ (s : Submission). address_of s.command) in
    let more : length last ≡ length now + length on.0 = ap length on.1 ∙ length-append now on.0 in
    let low : length (addresses last) ≤ length all = start_short all (addresses last) are.addresses_are in
    record {
      short = omega arith;
      addresses_agree = λ k below. start_agrees all (addresses last) (addresses now) (addresses on.0) are.addresses_are
          (ap addresses on.1 ∙ map-append (λ (s : Submission). address_of s.command) now on.0) k (omega arith);
      words_agree = start_agrees words (tape last) (tape now) (tape on.0) are.tape_is
          (ap tape on.1 ∙ flat_map-append (λ (s : Submission). s.words) now on.0);
    }

-- each command has brought as many words as the device requires
abbrev HasTape : Sizes → List Submission → Type 0
HasTape d subs = length (tape subs) ≡ tape_len d (length subs)

entry_ahead : (d : Sizes) (all words : List ℕ) (subs : List Submission) (m : ℕ) → Begins all words subs → HasTape d subs
    → m < tape_len d (length subs) → entry d (addresses subs) (tape subs) m ≡ entry d all words m
entry_ahead d all words subs m begun whole below =
    entry_same d (addresses subs) all (tape subs) words (length subs) m below begun.addresses_agree (λ k low. begun.words_agree k (omega arith))

-- two pasts have come equally far, and each of their commands has brought its words
record AreLevel (v u : Setting) (past other : List Step) : Type 0 where
  good : (progress v past).good ≡ (progress u other).good
  count : length (accepted past) ≡ length (accepted other)
  words : HasTape v.scheme.device (accepted past)
  others : HasTape v.scheme.device (accepted other)

-- the addresses and tapes of two worlds
record AreMatched (d : Sizes) (a b t q : List ℕ) : Type 0 where
  words : length t ≡ tape_len d (length a)
  alike : ShowsAlike d a b q

tape_len-rises : (d : Sizes) (m n k : ℕ) → n ≤ k → m < tape_len d n → m < tape_len d k
tape_len-rises d m n k low below = grind arith

-- an entry of one past is the same as that of the other
entry_beside : (v u : Setting) (past other : List Step) (a b t q : List ℕ) (m : ℕ) → AreOneScheme v.scheme u.scheme
    → AreMatched v.scheme.device a b t q → AreLevel v u past other → Begins a t (accepted past)
    → Begins b (rearranged_tape q t) (accepted other) → m < entries v past → entry_at v past m ≡ entry_at u other m
entry_beside v u past other a b t q m one match level begun also below =
    let d : Sizes = v.scheme.device in
    let near : m < tape_len d (length (accepted other)) = subst (λ n. m < tape_len d n) level.count below in
    entry_ahead d a t (accepted past) m begun level.words below
    ∙ match.alike t m match.words (tape_len-rises d m (length (accepted past)) (length a) begun.short below)
    ∙ sym (entry_ahead d b (rearranged_tape q t) (accepted other) m also level.others near)
    ∙ ap (λ (e : Sizes). entry e (addresses (accepted other)) (tape (accepted other)) m) (sym one.device)

sent_level : (v u : Setting) (past other : List Step) → AreOneScheme v.scheme u.scheme → AreLevel v u past other
    → entries_sent v past ≡ entries_sent u other
sent_level v u past other one level =
    let trees : trees_of u.scheme.device ≡ trees_of v.scheme.device = ap trees_of one.device in
    rw (level.good, level.count, trees) refl

sends_by : (v u : Setting) (past other : List Step) (s r : Step) (b : Bool) → AreOneScheme v.scheme u.scheme
    → AreLevel v u past other → AreLevel v u (s ∷ past) (r ∷ other) → LookAlike (take 1 (sent past)) (take 1 (sent other))
    → ((m : ℕ) → m < entries v (s ∷ past) → entry_at v (s ∷ past) m ≡ entry_at u (r ∷ other) m)
    → SendsRight v past s b → SendsRight u other r b → LookAlike s.sends r.sends
sends_by v u past other s r true one level next newest same right also = subst₂ LookAlike (sym right) (sym also) newest
sends_by v u past other s r false one level next newest same right also =
    let from : ℕ = entries_sent v past in
    let to : ℕ = entries_sent v (s ∷ past) in
    let numbers : from_to (entries_sent u other) (entries_sent u (r ∷ other)) ≡ from_to from to =
    ap (λ n. from_to n (entries_sent u (r ∷ other))) (sym (sent_level v u past other one level))
    ∙ ap (from_to from) (sym (sent_level v u (s ∷ past) (r ∷ other) one next)) in
    asks_alike v u (s ∷ past) (r ∷ other) from (to - from) s.sends r.sends one (λ m low high. same m (omega arith)) right
    (subst (λ ms. AskFor u (r ∷ other) ms r.sends) numbers also)

count_more : (v : Setting) (past : List Step) (step : Step) (n : ℕ) → Adds v past step n
    → length (accepted (step ∷ past)) ≡ length (accepted past) + n
count_more v past step n more =
    ap length more.accepted_is ∙ length-append (accepted past) more.more ∙ ap (λ k. length (accepted past) + k) more.count

tape_more : (v : Setting) (past : List Step) (step : Step) (n : ℕ) → HasTape v.scheme.device (accepted past) → Adds v past step n
    → HasTape v.scheme.device (accepted (step ∷ past))
tape_more v past step n whole more =
    let d : Sizes = v.scheme.device in
    let words : length (tape (accepted (step ∷ past))) ≡ length (tape (accepted past)) + length (tape more.more) =
    ap (λ subs. length (tape subs)) more.accepted_is
    ∙ ap length (flat_map-append (λ (s : Submission). s.words) (accepted past) more.more)
    ∙ length-append (tape (accepted past)) (tape more.more) in
    words ∙ ap (λ k. k + length (tape more.more)) whole ∙ ap (λ k. tape_len d (length (accepted past)) + k) more.words
    ∙ sym (ap (tape_len d) (count_more v past step n more) ∙ omega arith)

-- after right steps with the same note, two pasts have again come equally far
level_on : (v u : Setting) (past other : List Step) (event beside : Event) (x y : Shown) → AreOneScheme v.scheme u.scheme
    → AreLevel v u past other → IsRight v past event x → IsRight u other beside y → x.note ≡ y.note
    → AreLevel v u (step_of event x ∷ past) (step_of beside y ∷ other)
level_on v u past other event beside x y one level right also note =
    let more = adds v past event x right.note in
    let others = adds u other beside y also.note in
    record {
      good = good_rises v past event x right.note ∙ ap (λ k. k + takes x.note) level.good
          ∙ ap (λ (n : Note). (progress u other).good + takes n) note ∙ sym (good_rises u other beside y also.note);
      count = count_more v past (step_of event x) (brings x.note) more ∙ ap (λ k. k + brings x.note) level.count
          ∙ ap (λ (n : Note). length (accepted other) + brings n) note
          ∙ sym (count_more u other (step_of beside y) (brings y.note) others);
      words = tape_more v past (step_of event x) (brings x.note) level.words more;
      others = subst (λ (d : Sizes). HasTape d (accepted (step_of beside y ∷ other))) one.device (
          tape_more u other (step_of beside y) (brings y.note) (subst (λ (d : Sizes). HasTape d (accepted other)) (sym one.device) level.others) others);
    }

along : (v u : Setting) (past other : List Step) (events others : List Event) (xs ys : List Shown) (a b t q : List ℕ)
    → AreOneScheme v.scheme u.scheme → AreMatched v.scheme.device a b t q → AreLevel v u past other
    → LookAlike (take 1 (sent past)) (take 1 (sent other)) → AreFirstOf a t (past_of past events xs)
    → AreFirstOf b (rearranged_tape q t) (past_of other others ys) → map (λ (x : Shown). x.note) xs ≡ map (λ (y : Shown). y.note) ys
    → AllRight v past events xs → AllRight u other others ys → LookAlikeFrom v u past other events others xs ys
along v u past other events others [] [] a b t q one match level newest first second notes right also = tt
along v u past other events others [] (y ∷ ys) a b t q one match level newest first second notes right also = absurd (cc)
along v u past other events others (x ∷ xs) [] a b t q one match level newest first second notes right also = absurd (cc)
along v u past other [] others (x ∷ xs) (y ∷ ys) a b t q one match level newest first second notes right also = absurd right
along v u past other (event ∷ events) [] (x ∷ xs) (y ∷ ys) a b t q one match level newest first second notes right also = absurd also
along v u past other (event ∷ events) (beside ∷ others) (x ∷ xs) (y ∷ ys) a b t q one match level newest first second notes right also =
    λ apart still.
    let s : Step = step_of event x in
    let r : Step = step_of beside y in
    let note : x.note ≡ y.note = cc in
    let rest : map (λ (x : Shown). x.note) xs ≡ map (λ (y : Shown). y.note) ys = cc in
    let here = (right apart).0 in
    let there = (also still).0 in
    let next = level_on v u past other event beside x y one level here there note in
    let same : (m : ℕ) → m < entries v (s ∷ past) → entry_at v (s ∷ past) m ≡ entry_at u (r ∷ other) m =
    λ m below. entry_beside v u (s ∷ past) (r ∷ other) a b t q m one match next (begins a t (s ∷ past) events xs first) (begins b (rearranged_tape q t) (r ∷ other) others ys second) below in
    let alike : LookAlike x.sends y.sends =
    sends_by v u past other s r (is_resent x.note) one level next newest same here.sends (subst (λ (n : Note). SendsRight u other r (is_resent n)) (sym note) there.sends) in
    let last : LookAlike (take 1 (sent (s ∷ past))) (take 1 (sent (r ∷ other))) =
    subst₂ (λ ms ns. LookAlike (take 1 ms) (take 1 ns)) (sym (sent_cons s past)) (sym (sent_cons r other)) (newest_alike x.sends y.sends (sent past) (sent other) alike newest) in
    (alike, along v u (s ∷ past) (r ∷ other) events others xs ys a b t q one match next last first second rest (right apart).1 (also still).1)

-- at the beginning nothing has happened
level_none : (v u : Setting) → AreLevel v u [] []
unfolding progress accepted
level_none v u = record { good = refl; count = refl; words = omega arith; others = omega arith }

newest_none : LookAlike (take 1 (sent [])) (take 1 (sent []))
unfolding sent
newest_none = tt

pub two_worlds : TwoWorldsLookAlike
two_worlds first second words q are right also =
    along first.setting second.setting [] [] first.events second.events first.reactions second.reactions first.addresses second.addresses words q
    (record { device = are.device; overhead = are.overhead })
    (record { words = are.words_are; alike = are.alike }) (level_none first.setting second.setting) newest_none are.first_is are.second_is are.notes right also
