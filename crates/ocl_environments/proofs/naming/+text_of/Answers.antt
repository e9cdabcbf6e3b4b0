use Rattle.std.proofs.Common.{◌∙◌, ap, sym}
use Rattle.ocl_environments.specs.Naming.{type_text}
use Rattle.ocl_environments.proofs.NamingLaws.{same_text, string_characters, integer_characters, boolean_characters, null_characters, string_text, integer_text, boolean_text, null_text}
use Rattle.ocl_environments.proofs.naming.+text_of.Goals as goal

pub returns-in-Str : goal.returns-in-Str
returns-in-Str t c = same_text c.new.result _ _ (string_characters ∙ string_text c.args.metas.now ∙ ap (type_text c.args.metas.now) (sym c.in-Str.is)) c.new.ensures.characters

pub returns-in-Int : goal.returns-in-Int
returns-in-Int t c = same_text c.new-in-Int.result _ _ (integer_characters ∙ integer_text c.args.metas.now ∙ ap (type_text c.args.metas.now) (sym c.in-Int.is)) c.new-in-Int.ensures.characters

pub returns-in-Bool : goal.returns-in-Bool
returns-in-Bool t c = same_text c.new-in-Bool.result _ _ (boolean_characters ∙ boolean_text c.args.metas.now ∙ ap (type_text c.args.metas.now) (sym c.in-Bool.is)) c.new-in-Bool.ensures.characters

pub returns-in-Null : goal.returns-in-Null
returns-in-Null t c = same_text c.new-in-Null.result _ _ (null_characters ∙ null_text c.args.metas.now ∙ ap (type_text c.args.metas.now) (sym c.in-Null.is)) c.new-in-Null.ensures.characters
