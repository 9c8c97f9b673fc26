-- What clap's matches ask for, from clap's answer.
use Rattle.std.proofs.Common.{◌≡◌, ◌∙◌, sym, ap, ap₂, refl, subst, Bool, List, [], ◌∷◌, Option, Some, None, true, inl, inr, option_map, codes}
use Rattle.std.specs.Prelude.{◌≢◌, Box, option_and_then}
use Rattle.std.specs.Box.{box_value}
use Rattle.std.proofs.lemmas.Option.{same_Some}
use Rattle.std.proofs.lemmas.Bool.{and_parts}
use Rattle.clap.specs.Walk.{Row, Text, first_of}
use Rattle.clap.specs.Matches.{subcommand_name_of}
use Rattle.clap.specs.Simple.{App, HasMatchesOf, built, is_simple, subcommand_of, subcommand_rows, subcommand_rows_of}
use Rattle.clap.specs.declared.parser.matches.ArgMatches.{ArgMatches}
use Rattle.clap.specs.Kinds.{Kinds, HasKind, IsAmong}
use Rattle.clap.specs.Faults.{fault_of, is_free_app, is_simple_and_free}
use Rattle.clap.specs.Values.{kind_of}
use Rattle.clap.specs.declared.parser.matches.SubCommand.{SubCommand}
use Rattle.clap.specs.declared.parser.matches.ArgMatches.TheViews.{out-SubCommand}
use Rattle.clap.specs.declared.error.Error.{Error}
use Rattle.clap.specs.declared.error.kind.ErrorKind.{ErrorKind}
use Rattle.clap.specs.declared.error.kind.ErrorKind.TheVariants.{OutOfMemory}
use Rattle.oram_settings.specs.declared.command_line.NoRequest.{NoRequest}
use Rattle.oram_settings.specs.declared.command_line.NoRequest.TheVariants as why
use Rattle.oram_settings.specs.CommandLine.{AnswersFaults, AnswersFault, Request, is_given, program, request_by, request_in, request_of, unless_faulty}
use Rattle.oram_settings.proofs.Program.{is_free}

-- a subcommand of this name, with these rows
entered_is : {Z : Type 0} (s : Option (Box SubCommand Z)) (name : Text) (rows : List Row)
    → option_map (λ b. (out-SubCommand (box_value b)).name.now) s ≡ Some name
    → option_map (λ (p : Text × List Row). p.1) (subcommand_rows s) ≡ Some rows
    → subcommand_rows s ≡ Some (name, rows)
entered_is None name rows named found = search
entered_is (Some b) name rows named found = ap₂ (λ n r. Some (n, r)) (same_Some _ _ named) (same_Some _ _ found)

-- an error other than running out of memory is a fault that clap finds, and then the words ask for
-- nothing
refused : (kinds : Kinds) (e : Error) (request : Option Request) → HasKind kinds e → kind_of e ≢ OutOfMemory → unless_faulty kinds request ≡ None
refused [] e request (inl memory) other = absurd (other memory)
refused [] e request (inr h) other = absurd h
refused (kind ∷ kinds) e request h other = refl

-- an error that doesn't become OutOfMemory isn't one of memory
not_memory : (k : ErrorKind) (reason : NoRequest) → AnswersFault k reason → reason ≢ why.OutOfMemory → k ≢ OutOfMemory
not_memory k (why.Help text) (inl h) other m = cc
not_memory k (why.Help text) (inr h) other m = cc
not_memory k (why.Mistake text) h other m = h.2 m
not_memory k why.OutOfMemory h other m = other refl

only : (k j : ErrorKind) → IsAmong k (j ∷ []) → k ≡ j
only k j (inl h) = h
only k j (inr h) = absurd h

-- an error of one of these kinds becomes what these kinds allow
reason_as : (kinds : Kinds) (e : Error) (reason : NoRequest) → HasKind kinds e → AnswersFault (kind_of e) reason → AnswersFaults kinds reason
reason_as kinds e (why.Help text) (inl memory) (inl h) = absurd cc
reason_as kinds e (why.Help text) (inl memory) (inr h) = absurd cc
reason_as kinds e (why.Help text) (inr among) (inl h) = inl (subst (λ k. IsAmong k kinds) h among)
reason_as kinds e (why.Help text) (inr among) (inr h) = inr (subst (λ k. IsAmong k kinds) h among)
reason_as kinds e (why.Mistake text) (inl memory) h = absurd (h.2 memory)
reason_as kinds e (why.Mistake text) (inr among) h = (
  λ one. h.0 (only _ _ (subst (λ ks. IsAmong (kind_of e) ks) one among)),
  λ one. h.1 (only _ _ (subst (λ ks. IsAmong (kind_of e) ks) one among)),
)
reason_as kinds e why.OutOfMemory known h = tt

module _ (a : App) (same : a ≡ program) (words : List Text) where
  free : is_simple_and_free a ≡ true
  free = ap is_simple_and_free same ∙ is_free

  pub request_refused : (e : Error) → (is_simple_and_free a ≡ true → HasKind (fault_of a words) e) → (reason : NoRequest) → AnswersFault (kind_of e) reason → reason ≢ why.OutOfMemory
      → request_in words ≡ None
  request_refused e kinds reason is other =
      sym (ap (λ (b : App). unless_faulty (fault_of b words) (option_and_then request_by (subcommand_of b words))) same)
      ∙ refused (fault_of a words) e _ (kinds free) (not_memory (kind_of e) reason is other)

  -- and it becomes what the faults that clap finds allow
  pub reason_refused : (e : Error) → (is_simple_and_free a ≡ true → HasKind (fault_of a words) e) → (reason : NoRequest) → AnswersFault (kind_of e) reason → AnswersFaults (fault_of program words) reason
  reason_refused e kinds reason is = subst (λ (b : App). AnswersFaults (fault_of b words) reason) same (reason_as (fault_of a words) e reason (kinds free) is)

  -- if clap finds no fault
  pub reason_sound : (is_simple_and_free a ≡ true → fault_of a words ≡ []) → (reason : NoRequest) → AnswersFaults [] reason → AnswersFaults (fault_of program words) reason
  reason_sound sound reason is = subst (λ (b : App). AnswersFaults (fault_of b words) reason) same (subst (λ (kinds : Kinds). AnswersFaults kinds reason) (sym (sound free)) is)

  module _ (m : ArgMatches) (sound : is_simple_and_free a ≡ true → fault_of a words ≡ []) (matches : HasMatchesOf a words m) where
    simple : is_simple a ≡ true
    simple = (and_parts (is_simple a) (is_free_app (built a)) free).0

    -- what the words ask for, by the subcommand that a parse of them entered
    by_entered : (s : Option (Text × List Row)) → subcommand_of a words ≡ s → request_in words ≡ option_and_then request_by s
    by_entered s entered =
        sym (ap (λ (b : App). unless_faulty (fault_of b words) (option_and_then request_by (subcommand_of b words))) same)
        ∙ ap₂ (λ kinds t. unless_faulty kinds (option_and_then request_by t)) (sound free) entered

    pub request_is : (name : Text) (rows : List Row) (word size image : Option Text) (is_new is_json is_salvage : Bool) → Some name ≡ subcommand_name_of m
        → Some rows ≡ option_map (λ (p : Text × List Row). p.1) (subcommand_rows_of m) → word ≡ first_of (codes "word") rows → is_new ≡ is_given (first_of (codes "new") rows) → is_json ≡ is_given (first_of (codes "json") rows)
        → is_salvage ≡ is_given (first_of (codes "salvage") rows) → size ≡ first_of (codes "size") rows → image ≡ first_of (codes "image") rows
        → request_in words ≡ option_and_then (λ (w : Text). request_of name w is_new is_json is_salvage size image) word
    request_is name rows word size image is_new is_json is_salvage named found read said asked left sized imaged =
        by_entered (Some (name, rows)) (sym (matches simple).1 ∙ entered_is _ name rows (sym named) (sym found))
        ∙ ap₂ (λ (n : Bool) (j : Bool). option_and_then (λ (x : Text). request_of name x n j (is_given (first_of (codes "salvage") rows)) (first_of (codes "size") rows) (first_of (codes "image") rows)) (first_of (codes "word") rows)) (sym said) (sym asked)
        ∙ ap₂ (λ (v : Bool) (i : Option Text). option_and_then (λ (x : Text). request_of name x is_new is_json v (first_of (codes "size") rows) i) (first_of (codes "word") rows)) (sym left) (sym imaged)
        ∙ ap₂ (λ (s : Option Text) (w : Option Text). option_and_then (λ (x : Text). request_of name x is_new is_json is_salvage s image) w) (sym sized) (sym read)
