-- The file of the target: its path and its form.
use Rattle.std.proofs.Common.{◌≡◌, ℕ, ◌+◌, Bool, true, false, cond, List, [], take, drop, refl, sym, ◌∙◌, ap, subst, true≢false, Option, Some, None, IsUtf8}
use Rattle.std.specs.Prelude.{chars, not, slice_get, IfSome}
use Rattle.std.proofs.lemmas.Bool.{false_from_ne_true}
use Rattle.std.proofs.lemmas.List.Elements.{All-nil, All-push, All-weaker, All-contains}
use Rattle.vault_io.specs.Files.{Files}
use Rattle.mof_metamodel.specs.Characters.{same_name}
use Rattle.mof_metamodel.specs.TextLaws.{bytes_same}
use Rattle.model_files.specs.declared.file_form.Form.{Form}
use Rattle.qv_syntax.specs.declared.script.Script.{Script}
use Rattle.qvtr_engine.specs.CheckWords.{Bound, CheckWords, check_paths}
use Rattle.qvtr_engine.specs.CheckedMetamodels.{is_metamodel}
use Rattle.qvtr_engine.specs.CheckedModels.{model_files}
use Rattle.qvtr_engine.specs.CheckedNames.{NamesFit, name_of}
use Rattle.qvtr_engine.specs.Names.{is_among}
use Rattle.qvtr_engine.specs.Target.{path_named, form_at, target_form, target_path, IsFormAmong}
use Rattle.qvtr_engine.proofs.NumberingLaws.{AreDistinct, target_among}
use Rattle.qvtr_engine.proofs.ReadingInputLaws.{of_the_words}
use Rattle.qvtr_engine.proofs.ReadingLaws.{same_is, same_holds}
use Rattle.qvtr_engine.proofs.RequestLaws.{drop_at, take_at}

-- ---- the path of a name

pub path_here : (bs : List Bound) (i : ℕ) (b : Bound) (name whole : List ℕ) → slice_get bs i ≡ Some b → same_name name (name_of b) ≡ true
    → path_named (drop i bs) name ≡ whole → b.path ≡ whole
path_here bs i b name whole at named h =
    sym (ap (λ t. cond t b.path (path_named (drop (i + 1) bs) name)) named) ∙ sym (ap (λ xs. path_named xs name) (drop_at bs i b at)) ∙ h

pub path_on : (bs : List Bound) (i : ℕ) (b : Bound) (name whole : List ℕ) → slice_get bs i ≡ Some b → same_name name (name_of b) ≡ false
    → path_named (drop i bs) name ≡ whole → path_named (drop (i + 1) bs) name ≡ whole
path_on bs i b name whole at named h =
    sym (ap (λ t. cond t b.path (path_named (drop (i + 1) bs) name)) named) ∙ sym (ap (λ xs. path_named xs name) (drop_at bs i b at)) ∙ h

-- ---- names are compared by their bytes, which tell their characters

pub same_characters : (a b : List ℕ) → IsUtf8 a → IsUtf8 b → (t : Bool) → t ≡ same_name a b → t ≡ same_name (chars a) (chars b)
same_characters a b ua ub true e = sym (same_holds (chars a) (chars b) (ap chars (same_is a b (sym e))))
same_characters a b ua ub false e =
    sym (false_from_ne_true (same_name (chars a) (chars b)) (λ same.
    true≢false (sym (same_holds a b (bytes_same a b ua ub (same_is (chars a) (chars b) same))) ∙ sym e)))

-- ---- the form of the file at the target's path, as far as files were read

-- the form is that of the file at the path, if the word has the path
abbrev IsFormOf : Files → List ℕ → Form → Bound → Type 0
IsFormOf files path form c = c.path ≡ path → form ≡ form_at files path

module _ (files : Files) (b : Bound) (path : List ℕ) (known read : Form) (is : read ≡ form_at files b.path) where
  read_here : same_name b.path path ≡ true → read ≡ form_at files path
  read_here e = is ∙ ap (form_at files) (same_is b.path path e)

  by_test : (t : Bool) → same_name b.path path ≡ t → known ≡ form_at files path → cond t read known ≡ form_at files path
  by_test true e h = read_here e
  by_test false e h = h

  form_here : IsFormOf files path (cond (same_name b.path path) read known) b
  form_here same = let e = same_holds b.path path same in ap (λ t. cond t read known) e ∙ read_here e

  form_kept : (c : Bound) → IsFormOf files path known c → IsFormOf files path (cond (same_name b.path path) read known) c
  form_kept c h same = by_test (same_name b.path path) refl (h same)

  form_on : (bs : List Bound) (i : ℕ) → slice_get bs i ≡ Some b → IsFormAmong files (take i bs) path known
      → IsFormAmong files (take (i + 1) bs) path (cond (same_name b.path path) read known)
  form_on bs i at h =
      subst (λ xs. IsFormAmong files xs path (cond (same_name b.path path) read known)) (sym (take_at bs i b at))
      (All-push (IsFormOf files path (cond (same_name b.path path) read known)) (take i bs) b
      (All-weaker (IsFormOf files path known) (IsFormOf files path (cond (same_name b.path path) read known)) form_kept (take i bs) h) form_here)

pub form_more : (told : Option Files) (bs : List Bound) (i : ℕ) (b : Bound) (path : List ℕ) (known read next : Form) → slice_get bs i ≡ Some b
    → next ≡ cond (same_name b.path path) read known
    → IfSome told (λ files. read ≡ form_at files b.path) → IfSome told (λ files. IsFormAmong files (take i bs) path known)
    → IfSome told (λ files. IsFormAmong files (take (i + 1) bs) path next)
form_more None bs i b path known read next at e is h = tt
form_more (Some files) bs i b path known read next at e is h =
    subst (IsFormAmong files (take (i + 1) bs) path) (sym e) (form_on files b path known read is bs i at h)

pub no_form : (told : Option Files) (path : List ℕ) (form : Form) → IfSome told (λ files. IsFormAmong files [] path form)
no_form None path form = tt
no_form (Some files) path form = All-nil (λ b. b.path ≡ path → form ≡ form_at files path)

-- the files are those of the words
pub form_read : (told : Option Files) (bs cs : List Bound) (path other : List ℕ) (form : Form) → bs ≡ cs → path ≡ other
    → IfSome told (λ files. IsFormAmong files bs path form) → IfSome told (λ files. IsFormAmong files cs other form)
form_read told bs cs path other form same there h =
    subst (λ p. IfSome told (λ files. IsFormAmong files cs p form)) there (subst (λ xs. IfSome told (λ files. IsFormAmong files xs path form)) same h)

-- ---- the form of the target's file

pub same_form : (files : Files) (w : CheckWords) (s : Script) (form : Form) → NamesFit w s → AreDistinct s → IsFormAmong files (model_files w s) (target_path w) form
    → form ≡ target_form files w
same_form files w s form fits distinct among =
    let at = target_among w s fits distinct in
    All-contains (λ c. c.path ≡ target_path w → form ≡ form_at files (target_path w)) (model_files w s) at.word among at.has at.is

-- its path is one of the words
pub target_named : (w : CheckWords) (s : Script) → NamesFit w s → AreDistinct s → is_among (check_paths w) (target_path w) ≡ true
target_named w s fits distinct = of_the_words w (λ x. not (is_metamodel s x)) (target_path w) (target_among w s fits distinct).among
