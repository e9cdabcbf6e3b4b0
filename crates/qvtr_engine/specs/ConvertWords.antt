-- The words of `convert`.
use Rattle.std.specs.Prelude.{◌≡◌, ℕ, Bool, true, ◌==◌, List, [], ◌∷◌, length, codes, Option, Some, None, option_map, ◌&&◌, if◌then◌else◌}
use Rattle.std.specs.List.{list_all}
use Rattle.mof_metamodel.specs.Metamodels.{same_name}
use Rattle.model_files.specs.declared.file_form.Form.{Form}
use Rattle.model_files.specs.declared.file_form.Form.TheVariants.{Xmi, Json}
use Rattle.command_words.specs.Arguments.{AreArguments, arguments_of}
use Rattle.qvtr_engine.specs.Paths.{is_filled, are_all_apart}
use Rattle.qvtr_engine.specs.Reading.{◌>>=◌, when_true, nth}

-- the form of the file that is put, the paths of the metamodel and of the model, and that of the file that is put
pub record ConvertWords : Type 0 where
  pub form : Form
  pub metamodel : List ℕ
  pub model : List ℕ
  pub output : List ℕ

abbrev pub form_word : Form → List ℕ
form_word Xmi = codes "xmi"
form_word Json = codes "json"

abbrev pub convert_paths : ConvertWords → List (List ℕ)
convert_paths c = c.metamodel ∷ c.model ∷ c.output ∷ []

-- the four words as arguments
abbrev pub convert_arguments : ConvertWords → List (List ℕ)
convert_arguments c = form_word c.form ∷ convert_paths c

-- The words are `convert FORM META IN OUT`, of which FORM is `xmi` or `json`, and the others are paths that are apart and not empty.
pub record IsConvert (words : List (List ℕ)) (c : ConvertWords) : Type 0 where
  pub further : List (List ℕ)
  pub named : words ≡ codes "convert" ∷ further
  pub arguments : AreArguments further (convert_arguments c)
  pub filled : list_all is_filled (convert_paths c) ≡ true
  pub apart : are_all_apart (convert_paths c) ≡ true

-- They are read from the front.

abbrev pub form_named : List ℕ → Option Form
form_named word = if same_name word (codes "xmi") then Some Xmi else if same_name word (codes "json") then Some Json else None

abbrev pub has_good_paths : ConvertWords → Bool
has_good_paths c = list_all is_filled (convert_paths c) && are_all_apart (convert_paths c)

abbrev pub convert_with : List (List ℕ) → Form → ConvertWords
convert_with arguments form = record { form = form; metamodel = nth arguments 1; model = nth arguments 2; output = nth arguments 3 }

-- four arguments, of which the first one is a form
abbrev pub convert_in : List (List ℕ) → Option ConvertWords
convert_in arguments = option_map (convert_with arguments) (form_named (nth arguments 0))

unfoldable pub convert_from : List (List ℕ) → Option ConvertWords
convert_from arguments = if length arguments == 4 then convert_in arguments >>= (λ c. when_true (has_good_paths c) c) else None

-- the words behind the command's name
unfoldable pub convert_of : List (List ℕ) → Option ConvertWords
convert_of further = arguments_of further >>= convert_from
