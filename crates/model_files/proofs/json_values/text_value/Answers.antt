use Rattle.std.proofs.Common.{◌∙◌, sym, ap}
use Rattle.std.proofs.lemmas.Str.{encodes-chars}
use Rattle.serde_json.specs.Data.{string}
use Rattle.model_files.proofs.json_values.text_value.Goals as goal

pub returns : goal.returns
returns c = c.in_ok-try_from_str.ensures ∙ ap string (sym (encodes-chars c.args.text.now c.utf8.text))
