use Rattle.std.proofs.Common.{rules, refl}
use Rattle.oram_summary.specs.Laws.{short_text, some_key, some_salt}
use Rattle.oram_summary.proofs.SealedText.{length-tag}
use Rattle.oram_summary.proofs.law.sealing_example.Goals as goal

pub returns : goal.returns
returns c = record {
  salt = refl;
  salts = refl;
  keys = refl;
  key_differs = search rules;
  salt_differs = search rules;
  text_differs = search rules;
  tag = length-tag some_key some_salt short_text;
  opens = (some_salt, refl, refl);
}
