-- What the calls on an argument or a command of clap leave of what clap reads.
use Rattle.std.proofs.Common.{◌≡◌, ◌∙◌, ap, ap₂, Bool, Option, Some, true, false, List, ℕ}
use Rattle.std.specs.Prelude.{◌||◌}
use Rattle.std.specs.Borrow.{Bor}
use Rattle.clap.specs.Built.{AddsArg}
use Rattle.clap.specs.Walk.{Rule}
use Rattle.clap.specs.Simple.{App, app_of_fields, on_top, with_rule}
use Rattle.clap.specs.Words.{app_of, rule_of}
use Rattle.clap.specs.declared.builder.action.ArgAction.{ArgAction}
use Rattle.clap.specs.declared.builder.arg.Arg.{Arg}
use Rattle.clap.specs.declared.builder.command.Command.{Command}
use Rattle.clap.specs.declared.builder.command.Command.TheViews.{out-Command}
use Rattle.clap.specs.declared.builder.texts.Texts.TheVariants.{One}

module _ (a b : Arg) (rule : Rule) (is : rule_of a ≡ rule) where
  pub with_help : (help : Option (Bor (List ℕ))) → b ≡ record a { help = help } → rule_of b ≡ rule
  with_help help set = ap rule_of set ∙ is

  pub with_name : (name : Bor (List ℕ)) → b ≡ record a { val_names = One name } → rule_of b ≡ record rule { value_names = 1 }
  with_name name set = ap rule_of set ∙ ap (λ (r : Rule). record r { value_names = 1 }) is

  pub with_need : (wanted : Bool) → b ≡ record a { required = wanted } → rule_of b ≡ record rule { required = wanted }
  with_need wanted set = ap rule_of set ∙ ap (λ (r : Rule). record r { required = wanted }) is

  pub with_long : (name : Bor (List ℕ)) → b ≡ record a { long = Some name } → rule_of b ≡ record rule { long = Some name.now }
  with_long name set = ap rule_of set ∙ ap (λ (r : Rule). record r { long = Some name.now }) is

  pub with_action : (action : ArgAction) → b ≡ record a { action = Some action } → rule_of b ≡ record rule { action = Some action }
  with_action action set = ap rule_of set ∙ ap (λ (r : Rule). record r { action = Some action }) is

module _ (a b : Arg) (local : a.global ≡ false) where
  pub help_local : (help : Option (Bor (List ℕ))) → b ≡ record a { help = help } → b.global ≡ false
  help_local help set = ap (λ (x : Arg). x.global) set ∙ local

  pub name_local : (name : Bor (List ℕ)) → b ≡ record a { val_names = One name } → b.global ≡ false
  name_local name set = ap (λ (x : Arg). x.global) set ∙ local

  pub need_local : (wanted : Bool) → b ≡ record a { required = wanted } → b.global ≡ false
  need_local wanted set = ap (λ (x : Arg). x.global) set ∙ local

  pub long_local : (name : Bor (List ℕ)) → b ≡ record a { long = Some name } → b.global ≡ false
  long_local name set = ap (λ (x : Arg). x.global) set ∙ local

  pub action_local : (action : ArgAction) → b ≡ record a { action = Some action } → b.global ≡ false
  action_local action set = ap (λ (x : Arg). x.global) set ∙ local

module _ (a b : Command) (app : App) (is : app_of a ≡ app) where
  pub with_about : (text : Option (Bor (List ℕ))) → out-Command b ≡ record (out-Command a) { about = text } → app_of b ≡ app
  with_about text set = ap app_of_fields set ∙ is

  pub with_after_help : (text : Option (Bor (List ℕ))) → out-Command b ≡ record (out-Command a) { after_help = text } → app_of b ≡ app
  with_after_help text set = ap app_of_fields set ∙ is

  pub with_version : (text : Bor (List ℕ)) → out-Command b ≡ record (out-Command a) { version = Some text } → app_of b ≡ on_top (λ s. record s { has_version = true }) app
  with_version text set = ap app_of_fields set ∙ ap (λ (x : App). on_top (λ s. record s { has_version = true }) x) is

  pub with_subcommand_required : (wanted : Bool) → out-Command b ≡ record (out-Command a) { subcommand_required = wanted } → app_of b ≡ on_top (λ s. record s { subcommand_required = wanted }) app
  with_subcommand_required wanted set = ap app_of_fields set ∙ ap (λ (x : App). on_top (λ s. record s { subcommand_required = wanted }) x) is

module _ (a b : Command) (local : (out-Command a).has_globals ≡ false) where
  pub version_local : (text : Bor (List ℕ)) → out-Command b ≡ record (out-Command a) { version = Some text } → (out-Command b).has_globals ≡ false
  version_local text set = ap (λ f. f.has_globals) set ∙ local

  pub about_local : (text : Option (Bor (List ℕ))) → out-Command b ≡ record (out-Command a) { about = text } → (out-Command b).has_globals ≡ false
  about_local text set = ap (λ f. f.has_globals) set ∙ local

  pub after_help_local : (text : Option (Bor (List ℕ))) → out-Command b ≡ record (out-Command a) { after_help = text } → (out-Command b).has_globals ≡ false
  after_help_local text set = ap (λ f. f.has_globals) set ∙ local

-- an argument that isn't global is added
module _ (old new : Command) (a : Arg) (adds : AddsArg old a new) (no_global : a.global ≡ false) where
  pub arg_local : (out-Command old).has_globals ≡ false → (out-Command new).has_globals ≡ false
  arg_local local = adds.globals ∙ ap₂ (λ (x : Bool) (y : Bool). x || y) local no_global

  pub with_arg : (app : App) (rule : Rule) → app_of old ≡ app → rule_of a ≡ rule → app_of new ≡ with_rule app rule
  with_arg app rule is reads = adds.shape no_global ∙ ap₂ with_rule is reads
