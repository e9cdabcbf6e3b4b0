-- Which form a file of a model has: JSON where its first byte behind a byte order mark and blanks is `{`, else XMI.
use Rattle.std.specs.Prelude.{ℕ, ◌==◌, Bool, false, List, [], ◌∷◌, if◌then◌else◌}
use Rattle.mof_metamodel.specs.Characters.{is_blank}
use Rattle.model_files.specs.declared.file_form.Form.{Form}
use Rattle.model_files.specs.declared.file_form.Form.TheVariants.{Xmi, Json}
use Rattle.model_files.specs.JsonText.{without_mark}

-- the first byte behind blanks is `{`
abbrev pub begins_object : List ℕ → Bool
begins_object [] = false
begins_object (b ∷ bs) = if is_blank b then begins_object bs else b == 123

abbrev pub form_of : List ℕ → Form
form_of bytes = if begins_object (without_mark bytes) then Json else Xmi
