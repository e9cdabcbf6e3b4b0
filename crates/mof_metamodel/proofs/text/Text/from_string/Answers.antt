use Rattle.mof_metamodel.proofs.text.Text.from_string.Goals as goal
use Rattle.std.proofs.lemmas.Str.{encodes-chars, IsUtf8-string_bytes}

pub returns-clause-bytes : goal.returns-clause-bytes
returns-clause-bytes c = encodes-chars _ (IsUtf8-string_bytes c.args.s)
