use Rattle.std.proofs.Common.{◌∙◌, sym, ap}
use Rattle.ocl_environments.specs.Naming.{texts_of, joined_names}
use Rattle.ocl_environments.proofs.NamingLaws.{same_text, no_names, empty_characters}
use Rattle.ocl_environments.proofs.naming.path_text.Goals as goal

pub returns-in-empty : goal.returns-in-empty
returns-in-empty c =
    same_text c.new.result _ _
    (empty_characters ∙ sym (no_names c.as_slice.result.now c.in-empty.len_below) ∙ ap (λ names. joined_names (texts_of names)) c.as_slice.ensures)
    c.new.ensures.characters
