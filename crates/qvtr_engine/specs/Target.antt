-- The file of the target: the path that the target's name has in the words, and the form of the file there.
use Rattle.std.specs.Prelude.{◌≡◌, ℕ, List, [], ◌∷◌, Option, Some, None, if◌then◌else◌, All}
use Rattle.std.specs.FinMap.{get}
use Rattle.vault_io.specs.Files.{Files}
use Rattle.mof_metamodel.specs.Characters.{same_name}
use Rattle.model_files.specs.declared.file_form.Form.{Form}
use Rattle.model_files.specs.declared.file_form.Form.TheVariants.{Xmi}
use Rattle.model_files.specs.FileForm.{form_of}
use Rattle.qvtr_engine.specs.CheckWords.{Bound, CheckWords}
use Rattle.qvtr_engine.specs.CheckedNames.{name_of, target_of}

-- the path of a name, the first one
abbrev pub path_named : List Bound → List ℕ → List ℕ
path_named [] name = []
path_named (b ∷ bs) name = if same_name name (name_of b) then b.path else path_named bs name

abbrev pub target_path : CheckWords → List ℕ
target_path w = path_named w.files (target_of w)

-- the form of a file, if there is one
abbrev pub form_in : Option (List ℕ) → Form
form_in None = Xmi
form_in (Some bytes) = form_of bytes

abbrev pub form_at : Files → List ℕ → Form
form_at files path = form_in (get files path)

abbrev pub target_form : Files → CheckWords → Form
target_form files w = form_at files (target_path w)

-- where one of these words has the path, this is the form of the file there
abbrev pub IsFormAmong : Files → List Bound → List ℕ → Form → Type 0
IsFormAmong files bs path form = All (λ b. b.path ≡ path → form ≡ form_at files path) bs
