-- What clap's matches name, from clap's answer.
use Rattle.std.proofs.Common.{◌≡◌, ◌∙◌, sym, ap, ap₂, refl, List, [], ◌∷◌, Option, Some, None, true, inl, inr, option_map, codes}
use Rattle.std.specs.Prelude.{◌≢◌, Box, option_and_then}
use Rattle.std.specs.Box.{box_value}
use Rattle.std.proofs.lemmas.Bool.{and_parts}
use Rattle.std.proofs.lemmas.Option.{same_Some}
use Rattle.clap.specs.Walk.{Row, Text, first_of}
use Rattle.clap.specs.Matches.{subcommand_name_of}
use Rattle.clap.specs.Simple.{App, HasMatchesOf, built, is_simple, subcommand_of, subcommand_rows, subcommand_rows_of}
use Rattle.clap.specs.declared.parser.matches.ArgMatches.{ArgMatches}
use Rattle.clap.specs.Kinds.{Kinds, HasKind}
use Rattle.clap.specs.Faults.{fault_of, is_free_app, is_simple_and_free}
use Rattle.clap.specs.Values.{kind_of}
use Rattle.clap.specs.declared.error.Error.{Error}
use Rattle.clap.specs.declared.error.kind.ErrorKind.TheVariants.{OutOfMemory}
use Rattle.clap.specs.declared.parser.matches.SubCommand.{SubCommand}
use Rattle.clap.specs.declared.parser.matches.ArgMatches.TheViews.{out-SubCommand}
use Rattle.oram_cli.specs.CommandLine.{named_by, named_in, unless_faulty}

-- an error other than running out of memory is a fault that clap finds, and then the words name
-- nothing
refused : (kinds : Kinds) (e : Error) (named : Option (Text × Text)) → HasKind kinds e → kind_of e ≢ OutOfMemory → unless_faulty kinds named ≡ None
refused [] e named (inl memory) other = absurd (other memory)
refused [] e named (inr h) other = absurd h
refused (kind ∷ kinds) e named h other = refl

pub named_refused : (a : App) (words : List Text) (e : Error) → is_simple_and_free a ≡ true → (is_simple_and_free a ≡ true → HasKind (fault_of a words) e)
    → kind_of e ≢ OutOfMemory → named_in a words ≡ None
named_refused a words e free kinds other = refused (fault_of a words) e _ (kinds free) other

-- a subcommand of this name, with these rows
pub entered_is : {Z : Type 0} (s : Option (Box SubCommand Z)) (name : Text) (rows : List Row)
    → option_map (λ b. (out-SubCommand (box_value b)).name.now) s ≡ Some name
    → option_map (λ (p : Text × List Row). p.1) (subcommand_rows s) ≡ Some rows
    → subcommand_rows s ≡ Some (name, rows)
entered_is None name rows named found = search
entered_is (Some b) name rows named found = ap₂ (λ n r. Some (n, r)) (same_Some _ _ named) (same_Some _ _ found)

-- what the words name, by the subcommand that a parse of them entered, and its word
pub named_is : (a : App) (words : List Text) (m : ArgMatches) (name : Text) (rows : List Row) (word : Option Text) → is_simple_and_free a ≡ true
    → (is_simple_and_free a ≡ true → fault_of a words ≡ []) → HasMatchesOf a words m
    → Some name ≡ subcommand_name_of m → Some rows ≡ option_map (λ (p : Text × List Row). p.1) (subcommand_rows_of m)
    → word ≡ first_of (codes "word") rows → named_in a words ≡ option_map (λ (w : Text). (name, w)) word
named_is a words m name rows word free sound matches named found read =
    let simple : is_simple a ≡ true = (and_parts (is_simple a) (is_free_app (built a)) free).0 in
    let entered : subcommand_of a words ≡ Some (name, rows) = sym (matches simple).1 ∙ entered_is _ name rows (sym named) (sym found) in
    ap₂ (λ kinds s. unless_faulty kinds (option_and_then named_by s)) (sound free) entered ∙ ap (option_map (λ (w : Text). (name, w))) (sym read)

no_rows : (s : Option (Text × List Row)) → None ≡ option_map (λ (p : Text × List Row). p.1) s → s ≡ None
no_rows None e = refl
no_rows (Some p) e = cc

-- if a parse of the words entered no subcommand, they name nothing
pub named_none : (a : App) (words : List Text) (m : ArgMatches) → is_simple_and_free a ≡ true → (is_simple_and_free a ≡ true → fault_of a words ≡ []) → HasMatchesOf a words m
    → None ≡ option_map (λ (p : Text × List Row). p.1) (subcommand_rows_of m) → named_in a words ≡ None
named_none a words m free sound matches none =
    let simple : is_simple a ≡ true = (and_parts (is_simple a) (is_free_app (built a)) free).0 in
    let entered : subcommand_of a words ≡ None = sym (matches simple).1 ∙ no_rows _ none in
    ap₂ (λ kinds s. unless_faulty kinds (option_and_then named_by s)) (sound free) entered
