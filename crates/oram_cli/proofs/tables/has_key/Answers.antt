use Rattle.std.proofs.Common.{◌≡◌, ◌∙◌, refl, ap, Option, Some, None, option_map, is_some}
use Rattle.toml.specs.View.{view}
use Rattle.toml.proofs.Views.{view-lookup}
use Rattle.oram_cli.proofs.tables.has_key.Goals as goal

same_some : {X Y : Type 0} (f : X → Y) (o : Option X) → is_some o ≡ is_some (option_map f o)
same_some f None = refl
same_some f (Some x) = refl

pub returns : goal.returns
returns c = c.contains_key.ensures ∙ same_some view _ ∙ ap is_some (view-lookup c.args.key.now c.args.table.now.entries)
