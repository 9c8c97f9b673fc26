-- Options that were answered, one after another.
use Rattle.std.proofs.Common.{◌≡◌, ◌≢◌, inl, inr, ℕ, ◌+◌, ◌<◌, ◌≤◌, ◌^◌, List, [], ◌∷◌, ◌++◌, length, Bool, Option, Some, None, All, refl, sym, ap, ◌∙◌, subst, arith, length-append, take, append_assoc}
use Rattle.std.specs.Int.{w32, to_be_bytes}
use Rattle.std.proofs.lemmas.List.{append-nil}
use Rattle.std.proofs.lemmas.List.Elements.{All-push, All-nil}
use Rattle.std.proofs.lemmas.Grind.{flat_map-append}
use Rattle.std.specs.Io.KnownBytes.{Appends, Consumes, IsAtEnd}
use Rattle.std.proofs.KnownBytes.{Appends-nil, Appends-trans, Consumes-nil, Consumes-trans}
use Rattle.oram_nbd.specs.declared.TheConstants.{LONGEST_NAME, LONGEST_OPTION, MOST_OPTIONS}
use Rattle.oram_nbd.specs.Streams.{streams, Misses, Streams}
use Rattle.oram_nbd.specs.Options.{option_head, option_text, IsHead}
use Rattle.oram_nbd.specs.Handshake.{greeting, refused, Answers, ExportValue, AreClientFlags, IsNamed}
use Rattle.oram_nbd.specs.Negotiation.{answers_to_options, options_text, asking, AnsweredOption, HasAgreed, HasNegotiated, IsAnsweredOption, IsNoOption, IsUnfinishedOption, StopsAt, StopsChoosing}
use Rattle.oram_nbd.specs.declared.faults.NbdFault.{NbdFault}
use Rattle.oram_nbd.specs.declared.faults.NbdFault.TheVariants as fault
use Rattle.oram_nbd.specs.declared.handshake.Agreement.{Agreement}
use Rattle.oram_nbd.specs.declared.handshake.Agreement.TheVariants.{Gone}
use Rattle.oram_nbd.specs.declared.options.HandshakeOption.{HandshakeOption}
use Rattle.oram_nbd.specs.declared.options.HandshakeOption.TheVariants.{ExportName}
use Rattle.oram_nbd.specs.declared.options.OptionHead.{OptionHead}
use Rattle.oram_nbd.specs.declared.options.ReplyKind.TheVariants.{TooBig}

module _ (e : ExportValue) (zeroes : Bool) where
  -- an option that carries no more than it may, and one that carries more
  pub short_option : (h : OptionHead) (content text : List ℕ) (ends : Option Agreement) → IsHead h → length content ≡ h.length → h.length ≤ LONGEST_OPTION → Answers e zeroes h.option content text ends →
      (let x : AnsweredOption = record { option = h.option; content = content; answer = text } in IsAnsweredOption e zeroes x ends)
  short_option h content text ends is long few answer = record {
    known = is.known;
    code = is.code;
    short = subst (λ (n : ℕ). n < 2 ^ 32) (sym long) is.length;
    answer = inl (subst (λ (n : ℕ). n ≤ LONGEST_OPTION) (sym long) few, answer);
  }

  pub long_option : (h : OptionHead) (content text : List ℕ) → IsHead h → length content ≡ h.length → LONGEST_OPTION < h.length → h.option ≢ ExportName → text ≡ refused h.option TooBig →
      (let x : AnsweredOption = record { option = h.option; content = content; answer = text } in IsAnsweredOption e zeroes x None)
  long_option h content text is long many other answer = record {
    known = is.known;
    code = is.code;
    short = subst (λ (n : ℕ). n < 2 ^ 32) (sym long) is.length;
    answer = inr (subst (λ (n : ℕ). LONGEST_OPTION < n) (sym long) many, other, answer, refl);
  }

  -- such an option doesn't carry the name of the export
  pub long_name : (content : List ℕ) → length e.name ≤ LONGEST_NAME → LONGEST_OPTION < length content → IsNamed e.name content → ⊥
  long_name content few many named = elim named [ inl none ↦ omega (arith, many, ap length none) | inr same ↦ omega (arith, few, many, ap length same) ]

  -- as far as the loop has come
  pub record Negotiated (from : Streams) (count : ℕ) (now : Streams) : Type 0 where
    pub all : List AnsweredOption
    pub many : length all ≡ count
    pub flags : ℕ
    pub fixed : AreClientFlags flags zeroes
    pub each : All (λ x. IsAnsweredOption e zeroes x None) all
    pub read : Consumes from.unread now.unread (to_be_bytes w32 flags ++ options_text all)
    pub wrote : Appends from.written now.written (greeting ++ answers_to_options all)

  pub greeted : (from now : Streams) (flags : ℕ) → AreClientFlags flags zeroes → Consumes from.unread now.unread (to_be_bytes w32 flags) → Appends from.written now.written greeting → Negotiated from 0 now
  greeted from now flags fixed read wrote = record {
    all = [];
    many = refl;
    flags = flags;
    fixed = fixed;
    each = All-nil (λ x. IsAnsweredOption e zeroes x None);
    read = subst (Consumes from.unread now.unread) (sym (append-nil (to_be_bytes w32 flags))) read;
    wrote = subst (Appends from.written now.written) (sym (append-nil greeting)) wrote;
  }

  pub negotiated_next : (from : Streams) (count : ℕ) (now later : Streams) (x : AnsweredOption) →
      Negotiated from count now → IsAnsweredOption e zeroes x None → Consumes now.unread later.unread (asking x) → Appends now.written later.written x.answer → Negotiated from (count + 1) later
  negotiated_next from count now later x s is came wrote = record {
    all = s.all ++ x ∷ [];
    many = length-append s.all (x ∷ []) ∙ ap (λ (n : ℕ). n + 1) s.many;
    flags = s.flags;
    fixed = s.fixed;
    each = All-push (λ y. IsAnsweredOption e zeroes y None) s.all x s.each is;
    read = subst (Consumes from.unread later.unread)
        (append_assoc (to_be_bytes w32 s.flags) (options_text s.all) (asking x) ∙ ap (λ (l : List ℕ). to_be_bytes w32 s.flags ++ l) (ap (λ (l : List ℕ). options_text s.all ++ l) (sym (append-nil (asking x))) ∙ sym (flat_map-append asking s.all (x ∷ []))))
        (Consumes-trans from.unread now.unread later.unread (to_be_bytes w32 s.flags ++ options_text s.all) (asking x) s.read came);
    wrote = subst (Appends from.written later.written)
        (append_assoc greeting (answers_to_options s.all) x.answer ∙ ap (λ (l : List ℕ). greeting ++ l) (ap (λ (l : List ℕ). answers_to_options s.all ++ l) (sym (append-nil x.answer)) ∙ sym (flat_map-append (λ (y : AnsweredOption). y.answer) s.all (x ∷ []))))
        (Appends-trans from.written now.written later.written (greeting ++ answers_to_options s.all) x.answer s.wrote wrote);
  }

  -- and then some more bytes were read and written
  pub negotiated_then : (from : Streams) (count : ℕ) (now later : Streams) (part more : List ℕ) →
      (s : Negotiated from count now) → Consumes now.unread later.unread part → Appends now.written later.written more → HasNegotiated e zeroes s.all part more from later
  negotiated_then from count now later part more s came wrote = record {
    flags = s.flags;
    fixed = s.fixed;
    each = s.each;
    read = Consumes-trans from.unread now.unread later.unread (to_be_bytes w32 s.flags ++ options_text s.all) part s.read came;
    wrote = Appends-trans from.written now.written later.written (greeting ++ answers_to_options s.all) more s.wrote wrote;
  }

  -- only read
  pub negotiated_read : (from : Streams) (count : ℕ) (now : Streams) (later : Option (List ℕ)) (part : List ℕ) →
      (s : Negotiated from count now) → Consumes now.unread later part → HasNegotiated e zeroes s.all part [] from (streams later now.written)
  negotiated_read from count now later part s came = negotiated_then from count now (streams later now.written) part [] s came (Appends-nil now.written)

  -- the text of an option whose head was read before the rest
  whole_text : (h : OptionHead) (x : AnsweredOption) → x.option ≡ h.option → length x.content ≡ h.length → option_head h.option h.length ++ x.content ≡ asking x
  whole_text h x same long =
      ap (λ (o : HandshakeOption). option_head o h.length ++ x.content) (sym same) ∙ ap (λ (n : ℕ). option_head x.option n ++ x.content) (sym long)

  reads_whole_option : (a b c : Option (List ℕ)) (h : OptionHead) (x : AnsweredOption) → x.option ≡ h.option → length x.content ≡ h.length → Consumes a b (option_head h.option h.length) → Consumes b c x.content → Consumes a c (asking x)
  reads_whole_option a b c h x same long head rest =
      subst (Consumes a c) (whole_text h x same long) (Consumes-trans a b c (option_head h.option h.length) x.content head rest)

  pub negotiated_on : (from : Streams) (count : ℕ) (now : Streams) (mid : Option (List ℕ)) (later : Streams) (h : OptionHead) (x : AnsweredOption) →
      Negotiated from count now → x.option ≡ h.option → length x.content ≡ h.length → IsAnsweredOption e zeroes x None →
      Consumes now.unread mid (option_head h.option h.length) → Consumes mid later.unread x.content → Appends now.written later.written x.answer → Negotiated from (count + 1) later
  negotiated_on from count now mid later h x s same long is head rest wrote =
      negotiated_next from count now later x s is (reads_whole_option now.unread mid later.unread h x same long head rest) wrote

  -- the client left, or the last option ended the handshake
  pub agreed_gone : (from : Streams) (count : ℕ) (now : Streams) (later : Option (List ℕ)) →
      Negotiated from count now → Consumes now.unread later [] → IsAtEnd later → HasAgreed e Gone from (streams later now.written)
  agreed_gone from count now later s nothing ended = record { zeroes = zeroes; xs = s.all; ended = inl (refl, ended, negotiated_read from count now later [] s nothing) }

  pub agreed_by : (from : Streams) (count : ℕ) (now : Streams) (mid : Option (List ℕ)) (later : Streams) (h : OptionHead) (x : AnsweredOption) (agreement : Agreement) →
      Negotiated from count now → x.option ≡ h.option → length x.content ≡ h.length → IsAnsweredOption e zeroes x (Some agreement) →
      Consumes now.unread mid (option_head h.option h.length) → Consumes mid later.unread x.content → Appends now.written later.written x.answer → HasAgreed e agreement from later
  agreed_by from count now mid later h x agreement s same long is head rest wrote = record {
    zeroes = zeroes;
    xs = s.all;
    ended = inr (x, is, negotiated_then from count now later (asking x) x.answer s (reads_whole_option now.unread mid later.unread h x same long head rest) wrote);
  }

  -- no whole option came
  pub stopped_at_head : (from : Streams) (count : ℕ) (now : Streams) (later : Option (List ℕ)) (f : NbdFault) →
      Negotiated from count now → Misses IsUnfinishedOption IsNoOption f now.unread later → StopsChoosing e f from (streams later now.written)
  stopped_at_head from count now later fault.Read s (part, cut, came) =
      (zeroes, s.all, part, negotiated_read from count now later part s came, cut)
  stopped_at_head from count now later fault.Truncated s (part, cut, came, some, ended) =
      (zeroes, s.all, part, negotiated_read from count now later part s came, cut, some, ended)
  stopped_at_head from count now later fault.Magic s (part, none, came) =
      (zeroes, s.all, part, negotiated_read from count now later part s came, none)
  stopped_at_head from count now later fault.Write s h = absurd h
  stopped_at_head from count now later fault.UnknownFlags s h = absurd h
  stopped_at_head from count now later fault.UnknownExport s h = absurd h
  stopped_at_head from count now later fault.TooManyOptions s h = absurd h
  stopped_at_head from count now later fault.OutOfMemory s h = absurd h
  stopped_at_head from count now later fault.Stopped s h = absurd h

  some_bytes : (h : OptionHead) (bytes : List ℕ) → 0 < length (option_head h.option h.length ++ bytes)
  some_bytes h bytes = omega (arith, length-append (option_head h.option h.length) bytes)

  -- it stopped after the head of an option
  pub stopped_behind : (from : Streams) (count : ℕ) (now : Streams) (mid : Option (List ℕ)) (later : Streams) (h : OptionHead) (f : NbdFault) →
      Negotiated from count now → IsHead h → Consumes now.unread mid (option_head h.option h.length) → StopsAt e zeroes h f (streams mid now.written) later → StopsChoosing e f from later
  stopped_behind from count now mid later h fault.Read s is head ((part, few, came), wrote) = (
    zeroes,
    s.all,
    option_head h.option h.length ++ part,
    negotiated_then from count now later (option_head h.option h.length ++ part) [] s (Consumes-trans now.unread mid later.unread (option_head h.option h.length) part head came) wrote,
    inr (h, part, is, few, refl),
  )
  stopped_behind from count now mid later h fault.Truncated s is head ((part, few, came, least, ended), wrote) = (
    zeroes,
    s.all,
    option_head h.option h.length ++ part,
    negotiated_then from count now later (option_head h.option h.length ++ part) [] s (Consumes-trans now.unread mid later.unread (option_head h.option h.length) part head came) wrote,
    inr (h, part, is, few, refl),
    some_bytes h part,
    ended,
  )
  stopped_behind from count now mid later h fault.Write s is head (x, ends, same, long, ex, came, (n, wrote)) =
      (zeroes, s.all, x, ends, n, negotiated_then from count now later (asking x) (take n x.answer) s (reads_whole_option now.unread mid later.unread h x same long head came) wrote, ex)
  stopped_behind from count now mid later h fault.UnknownExport s is head (content, which, long, other, came, wrote) =
      let x : AnsweredOption = record { option = ExportName; content = content; answer = [] } in
      (zeroes, s.all, content, negotiated_then from count now later (option_text ExportName content) [] s (reads_whole_option now.unread mid later.unread h x (sym which) long head came) wrote, other)
  stopped_behind from count now mid later h fault.OutOfMemory s is head (content, which, came, wrote) = (
    zeroes,
    s.all,
    option_head h.option h.length ++ content,
    negotiated_then from count now later (option_head h.option h.length ++ content) [] s (Consumes-trans now.unread mid later.unread (option_head h.option h.length) content head came) wrote,
    (h, content, is, which, refl),
  )
  stopped_behind from count now mid later h fault.Magic s is head p = absurd p
  stopped_behind from count now mid later h fault.UnknownFlags s is head p = absurd p
  stopped_behind from count now mid later h fault.TooManyOptions s is head p = absurd p
  stopped_behind from count now mid later h fault.Stopped s is head p = absurd p

  pub stopped_at_last : (from : Streams) (count : ℕ) (now : Streams) → Negotiated from count now → count ≡ MOST_OPTIONS → StopsChoosing e fault.TooManyOptions from now
  stopped_at_last from count now s most =
      (zeroes, s.all, negotiated_then from count now now [] [] s (Consumes-nil now.unread) (Appends-nil now.written), s.many ∙ most)
