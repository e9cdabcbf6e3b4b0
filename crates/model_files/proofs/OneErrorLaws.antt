-- One fault is told of a tree of elements, and one error of a file.
use Rattle.std.proofs.Common.{◌≡◌, ◌≢◌, ℕ, ◌<◌, ◌≤◌, true, false, List, [], ◌∷◌, length, refl, sym, ◌∙◌, ap, ap₂, subst, arith, true≢false, Option, None, Some}
use Rattle.serde_json.specs.Data.{Data}
use Rattle.mof_metamodel.specs.declared.desc.MetaDesc.{MetaDesc}
use Rattle.mof_metamodel.specs.declared.fault.MetaFault.{MetaFault}
use Rattle.object_tables.specs.declared.limit.TheConstants.{MAX_OBJECTS}
use Rattle.mof_metamodel.specs.MetaFaults as meta_faults
use Rattle.mof_metamodel.specs.WellMeta.{WellMeta}
use Rattle.object_tables.specs.declared.breach.Breach.{Breach}
use Rattle.object_tables.specs.declared.limit.LimitKind.{LimitKind}
use Rattle.object_tables.specs.declared.limit.LimitKind.TheVariants as limits
use Rattle.object_tables.specs.Models.{ModelData, id_at}
use Rattle.object_tables.specs.Validity.{Valid, IsFirstBreach}
use Rattle.xmi_text.specs.declared.error.TextFault.{TextFault}
use Rattle.xmi_text.specs.Faults as markup
use Rattle.xmi_text.specs.Trees.{Tree}
use Rattle.xmi_text.proofs.faults.FirstFault.{first_told}
use Rattle.model_assembly.specs.declared.fault.Externs.{Externs}
use Rattle.model_assembly.specs.declared.fault.Externs.TheVariants as externs
use Rattle.model_assembly.specs.declared.fault.ModelFault.{ModelFault}
use Rattle.model_assembly.specs.declared.fault.ModelFault.TheVariants as faults
use Rattle.model_assembly.specs.FirstFault.{IsFirstAt, IsFirstBy, IsInvalid, IsTooDeep, IsLimit, IsFirstFault}
use Rattle.xmi_profile.specs.Reads.{IsRefused}
use Rattle.xmi_profile.specs.Reads as reads
use Rattle.model_assembly.specs.Source.{Source, object_count}
use Rattle.xmi_profile.proofs.PlaceFaults.{one_first_at}
use Rattle.xmi_profile.proofs.SpotFaults.{one_first_by}
use Rattle.model_files.specs.declared.fault.FileError.{FileError}
use Rattle.model_files.specs.declared.fault.FileError.TheVariants as errors
use Rattle.model_files.specs.declared.fault.JsonFault.{JsonFault}
use Rattle.model_files.specs.declared.fault.JsonFault.TheVariants as json_faults
use Rattle.model_files.specs.declared.file_form.Form.{Form}
use Rattle.model_files.specs.declared.file_form.Form.TheVariants.{Xmi, Json}
use Rattle.model_files.specs.Described.{IsWhy, top_packages, description_of}
use Rattle.model_files.specs.Emof.{emof}
use Rattle.model_files.specs.FileForm.{form_of}
use Rattle.model_files.specs.Files.{IsErrorIn, IsTold, IsMetaFileError}
use Rattle.model_files.specs.JsonContent.{objects_of, source_of, first_wrong, HasTooMany, IsFirstOfPlaces, IsFirstOfOthers, IsFirstContentFault}
use Rattle.model_files.specs.JsonFaults.{IsJsonFault}
use Rattle.model_files.specs.JsonText.{value_in}
use Rattle.model_files.specs.Shape.{first_amiss}
use Rattle.model_files.proofs.FaultlessLaws.{not_broken}
use Rattle.model_files.proofs.FileLaws.{one_tree, one_value, no_value, amiss_clash, shape_of, text_alone, no_meta, no_package}
use Rattle.model_files.proofs.MetaFileLaws.{IsOf, OfModel, OfDescription, is_of, not_both, one_emof, heads}
use Rattle.model_files.proofs.OneFaultLaws.{one_meta_fault, one_breach}
use Rattle.model_files.proofs.OneModelLaws.{same_content}
use Rattle.std.proofs.lemmas.Option.{same_Some}

-- ---- a tree of elements

-- where a fault stands that is told
data Standing (s : Source) (f : ModelFault) : Type 0 where
  AtPlace : IsFirstAt s f → Standing s f
  BySpot : IsFirstBy s f → Standing s f
  InModel : (breach : Breach) (id : List ℕ) → f ≡ faults.Invalid breach id → IsInvalid s breach id → Standing s f
  Beyond : (kind : LimitKind) → f ≡ faults.Limit kind → IsLimit s kind → Standing s f

standing : (s : Source) (f : ModelFault) → IsFirstFault s f → Standing s f
standing s (faults.UnknownClass name) x = AtPlace x
standing s (faults.UnknownProperty id prop) x = AtPlace x
standing s (faults.WrongValue id prop) x = AtPlace x
standing s (faults.DuplicateId id) x = AtPlace x
standing s (faults.Dangling id prop reference) x = BySpot x
standing s (faults.TwoContainers id) x = BySpot x
standing s (faults.Mismatch id prop other other_prop) x = BySpot x
standing s (faults.Invalid breach id) x = InModel breach id refl x
standing s (faults.Limit kind) x = Beyond kind refl x

at_limit : (s : Source) (f : ModelFault) (kind : LimitKind) → IsFirstAt s f → IsLimit s kind → ⊥
at_limit s f limits.Objects x many = let few = x.fewer in omega (arith, few, many)
at_limit s f limits.Depth x deep = deep.content.faultless.at f x.place x.stands

by_limit : (s : Source) (f : ModelFault) (kind : LimitKind) → IsFirstBy s f → IsLimit s kind → ⊥
by_limit s f limits.Objects x many = let few = x.fewer in omega (arith, few, many)
by_limit s f limits.Depth x deep = deep.content.faultless.by f x.spot x.stands

invalid_limit : (s : Source) (breach : Breach) (id : List ℕ) (kind : LimitKind) → IsInvalid s breach id → IsLimit s kind → ⊥
invalid_limit s breach id limits.Objects x many = let few = x.fewer in omega (arith, few, many)
invalid_limit s breach id limits.Depth x deep =
    let same = same_content s deep.model x.model deep.content x.content deep.valid.kept x.kept in
    not_broken x.model breach (subst Valid same deep.valid) x.broken

one_limit : (s : Source) (k l : LimitKind) → IsLimit s k → IsLimit s l → k ≡ l
one_limit s limits.Objects limits.Objects x y = refl
one_limit s limits.Objects limits.Depth x y = absurd (let few = y.fewer in omega (arith, few, x))
one_limit s limits.Depth limits.Objects x y = absurd (let few = x.fewer in omega (arith, few, y))
one_limit s limits.Depth limits.Depth x y = refl

one_invalid : (s : Source) (b c : Breach) (i j : List ℕ) → IsInvalid s b i → IsInvalid s c j → faults.Invalid b i ≡ faults.Invalid c j
one_invalid s b c i j x y =
    let same = same_content s y.model x.model y.content x.content y.kept x.kept in
    let breach : b ≡ c = one_breach x.model b c x.broken (subst (λ (m : ModelData). IsFirstBreach m c) same y.broken) in
    let there : id_at x.model c.object.0 ≡ Some j = subst (λ (m : ModelData). id_at m c.object.0 ≡ Some j) same y.id_is in
    let id : i ≡ j = same_Some i j (sym x.id_is ∙ ap (λ (d : Breach). id_at x.model d.object.0) breach ∙ there) in
    ap₂ (λ (d : Breach) (k : List ℕ). faults.Invalid d k) breach id

-- one fault is told of a tree
pub one_fault : (s : Source) (f g : ModelFault) → WellMeta s.meta → IsFirstFault s f → IsFirstFault s g → f ≡ g
one_fault s f g well x y = by (standing s f x) (standing s g y)
  where
    by : Standing s f → Standing s g → f ≡ g
    by (AtPlace x) (AtPlace y) = one_first_at s f g well x y
    by (AtPlace x) (BySpot y) = absurd (y.none_at f x.place x.stands)
    by (AtPlace x) (InModel b i e y) = absurd (y.content.faultless.at f x.place x.stands)
    by (AtPlace x) (Beyond k e y) = absurd (at_limit s f k x y)
    by (BySpot x) (AtPlace y) = absurd (x.none_at g y.place y.stands)
    by (BySpot x) (BySpot y) = one_first_by s f g well x y
    by (BySpot x) (InModel b i e y) = absurd (y.content.faultless.by f x.spot x.stands)
    by (BySpot x) (Beyond k e y) = absurd (by_limit s f k x y)
    by (InModel b i e x) (AtPlace y) = absurd (x.content.faultless.at g y.place y.stands)
    by (InModel b i e x) (BySpot y) = absurd (x.content.faultless.by g y.spot y.stands)
    by (InModel b i e x) (InModel c j h y) = e ∙ one_invalid s b c i j x y ∙ sym h
    by (InModel b i e x) (Beyond k h y) = absurd (invalid_limit s b i k x y)
    by (Beyond k e x) (AtPlace y) = absurd (at_limit s g k y x)
    by (Beyond k e x) (BySpot y) = absurd (by_limit s g k y x)
    by (Beyond k e x) (InModel c j h y) = absurd (invalid_limit s c j k y x)
    by (Beyond k e x) (Beyond l h y) = e ∙ ap (λ (z : LimitKind). faults.Limit z) (one_limit s k l x y) ∙ sym h

-- ---- a value of JSON

data Placed (meta : MetaDesc) (d : Data) (f : ModelFault) : Type 0 where
  OfPlaces : IsFirstOfPlaces meta d f → Placed meta d f
  OfOthers : IsFirstOfOthers meta d f → Placed meta d f
  OfMany : f ≡ faults.Limit limits.Objects → HasTooMany d → Placed meta d f

placed : (meta : MetaDesc) (d : Data) (f : ModelFault) → IsFirstContentFault meta d f → Placed meta d f
placed meta d (faults.UnknownClass name) x = OfPlaces x
placed meta d (faults.UnknownProperty id prop) x = OfPlaces x
placed meta d (faults.WrongValue id prop) x = OfPlaces x
placed meta d (faults.DuplicateId id) x = OfPlaces x
placed meta d (faults.Dangling id prop reference) x = OfOthers x
placed meta d (faults.TwoContainers id) x = OfOthers x
placed meta d (faults.Mismatch id prop other other_prop) x = OfOthers x
placed meta d (faults.Invalid breach id) x = OfOthers x
placed meta d (faults.Limit limits.Objects) x = OfMany refl x
placed meta d (faults.Limit limits.Depth) x = OfOthers x

wrong_none : (meta : MetaDesc) (d : Data) (f g : ModelFault) → IsFirstOfPlaces meta d f → IsFirstOfOthers meta d g → ⊥
wrong_none meta d f g x y = let e : None ≡ Some f = sym y.right ∙ x.first in absurd cc

one_content_fault : (meta : MetaDesc) (d : Data) (f g : ModelFault) → WellMeta meta → IsFirstContentFault meta d f → IsFirstContentFault meta d g → f ≡ g
one_content_fault meta d f g well x y = by (placed meta d f x) (placed meta d g y)
  where
    by : Placed meta d f → Placed meta d g → f ≡ g
    by (OfPlaces x) (OfPlaces y) = same_Some f g (sym x.first ∙ y.first)
    by (OfPlaces x) (OfOthers y) = absurd (wrong_none meta d f g x y)
    by (OfPlaces x) (OfMany e y) = absurd (let few = x.fewer in let many = y.more in omega (arith, few, many))
    by (OfOthers x) (OfPlaces y) = absurd (wrong_none meta d g f y x)
    by (OfOthers x) (OfOthers y) = one_fault (source_of meta d) f g well x.first y.first
    by (OfOthers x) (OfMany e y) = absurd (let few = x.fewer in let many = y.more in omega (arith, few, many))
    by (OfMany e x) (OfPlaces y) = absurd (let few = y.fewer in let many = x.more in omega (arith, few, many))
    by (OfMany e x) (OfOthers y) = absurd (let few = y.fewer in let many = x.more in omega (arith, few, many))
    by (OfMany e x) (OfMany h y) = e ∙ sym h

one_json_fault : (meta : MetaDesc) (bytes : List ℕ) (f g : JsonFault) → WellMeta meta → IsJsonFault meta bytes f → IsJsonFault meta bytes g → f ≡ g
one_json_fault meta bytes json_faults.Syntax json_faults.Syntax well x y = refl
one_json_fault meta bytes json_faults.Syntax (json_faults.Shape p) well x (d, e, y) = absurd (no_value bytes d e x)
one_json_fault meta bytes json_faults.Syntax (json_faults.Content g) well x (d, e, y) = absurd (no_value bytes d e x)
one_json_fault meta bytes (json_faults.Shape p) json_faults.Syntax well (d, e, x) y = absurd (no_value bytes d e y)
one_json_fault meta bytes (json_faults.Shape p) (json_faults.Shape q) well (d, e, x) (c, f, y) =
    ap (λ (path : List ℕ). json_faults.Shape path) (same_Some p q (sym x ∙ ap first_amiss (one_value bytes d c e f) ∙ y))
one_json_fault meta bytes (json_faults.Shape p) (json_faults.Content g) well (c, f, x) (d, e, y) = absurd (amiss_clash bytes d c p e f (shape_of meta d g y) x)
one_json_fault meta bytes (json_faults.Content h) json_faults.Syntax well (d, e, x) y = absurd (no_value bytes d e y)
one_json_fault meta bytes (json_faults.Content h) (json_faults.Shape q) well (d, e, x) (c, f, y) = absurd (amiss_clash bytes d c q e f (shape_of meta d h x) y)
one_json_fault meta bytes (json_faults.Content h) (json_faults.Content g) well (d, e, x) (c, f, y) =
    ap (λ (fault : ModelFault). json_faults.Content fault)
    (one_content_fault meta d h g well x (subst (λ (v : Data). IsFirstContentFault meta v g) (one_value bytes c d f e) y))

-- ---- a file

module _ (meta : MetaDesc) (outside : Externs) (bytes : List ℕ) (well : WellMeta meta) where
  one_refusal : (f g : ModelFault) → IsRefused meta outside bytes f → IsRefused meta outside bytes g → f ≡ g
  one_refusal f g x y =
      one_fault (reads.source_of meta outside x.tree) f g well x.first
      (subst (λ (t : Tree). IsFirstFault (reads.source_of meta outside t) g) (one_tree bytes y.tree x.tree y.markup x.markup) y.first)

  one_text_fault : (f g : TextFault) → markup.IsFirstFault bytes f → markup.IsFirstFault bytes g → f ≡ g
  one_text_fault f g x y = same_Some f g (sym (first_told bytes f x) ∙ first_told bytes g y)

  -- one error is told of a file
  pub one_error_in : (form : Form) (e f : FileError) → IsTold e → IsTold f → IsErrorIn meta outside bytes form e → IsErrorIn meta outside bytes form f → e ≡ f
  one_error_in form errors.NoMemory f n o x y = absurd (n refl)
  one_error_in form (errors.Meta e) f n o x y = absurd (no_meta meta outside bytes form e x)
  one_error_in form (errors.NoPackage e) f n o x y = absurd (no_package meta outside bytes form e x)
  one_error_in Xmi (errors.Json e) f n o x y = absurd x
  one_error_in Json (errors.Text e) f n o x y = absurd x
  one_error_in Json (errors.Content e) f n o x y = absurd x
  one_error_in Xmi (errors.Text e) f n o x y = by f o y
    where
      by : (f : FileError) → IsTold f → IsErrorIn meta outside bytes Xmi f → errors.Text e ≡ f
      by (errors.Text f) o y = ap (λ (t : TextFault). errors.Text t) (one_text_fault e f x y)
      by (errors.Json f) o y = absurd y
      by (errors.Content f) o y = absurd (text_alone meta outside bytes e f x y)
      by (errors.Meta f) o y = absurd y
      by (errors.NoPackage f) o y = absurd y
      by errors.NoMemory o y = absurd (o refl)
  one_error_in Xmi (errors.Content e) f n o x y = by f o y
    where
      by : (f : FileError) → IsTold f → IsErrorIn meta outside bytes Xmi f → errors.Content e ≡ f
      by (errors.Text f) o y = absurd (text_alone meta outside bytes f e y x)
      by (errors.Json f) o y = absurd y
      by (errors.Content f) o y = ap (λ (t : ModelFault). errors.Content t) (one_refusal e f x y)
      by (errors.Meta f) o y = absurd y
      by (errors.NoPackage f) o y = absurd y
      by errors.NoMemory o y = absurd (o refl)
  one_error_in Json (errors.Json e) f n o x y = by f o y
    where
      by : (f : FileError) → IsTold f → IsErrorIn meta outside bytes Json f → errors.Json e ≡ f
      by (errors.Text f) o y = absurd y
      by (errors.Json f) o y = ap (λ (t : JsonFault). errors.Json t) (one_json_fault meta bytes e f well x y)
      by (errors.Content f) o y = absurd y
      by (errors.Meta f) o y = absurd y
      by (errors.NoPackage f) o y = absurd y
      by errors.NoMemory o y = absurd (o refl)

-- ---- a file of a metamodel

one_why : (m : ModelData) (e f : FileError) → IsTold e → IsTold f → IsWhy m e → IsWhy m f → e ≡ f
one_why m (errors.Text e) f n o x y = absurd x
one_why m (errors.Json e) f n o x y = absurd x
one_why m (errors.Content e) f n o x y = absurd x
one_why m errors.NoMemory f n o x y = absurd (n refl)
one_why m (errors.Meta e) f n o (root, only, x) y = by f o y
  where
    by : (f : FileError) → IsTold f → IsWhy m f → errors.Meta e ≡ f
    by (errors.Text f) o y = absurd y
    by (errors.Json f) o y = absurd y
    by (errors.Content f) o y = absurd y
    by (errors.Meta f) o (other, there, y) =
        ap (λ (t : MetaFault). errors.Meta t)
        (one_meta_fault (description_of m root) e f x (subst (λ (r : ℕ). meta_faults.IsFirstFault (description_of m r) f.kind f.name) (heads (sym there ∙ only)) y))
    by (errors.NoPackage f) o (y, z) = absurd (z (y ∙ ap length only))
    by errors.NoMemory o y = absurd (o refl)
one_why m (errors.NoPackage e) f n o (x, z) y = by f o y
  where
    by : (f : FileError) → IsTold f → IsWhy m f → errors.NoPackage e ≡ f
    by (errors.Text f) o y = absurd y
    by (errors.Json f) o y = absurd y
    by (errors.Content f) o y = absurd y
    by (errors.Meta f) o (other, there, y) = absurd (z (x ∙ ap length there))
    by (errors.NoPackage f) o (y, w) = ap (λ (k : ℕ). errors.NoPackage k) (x ∙ sym y)
    by errors.NoMemory o y = absurd (o refl)

-- one error is told of a file of a metamodel
pub one_error_of_metamodel : WellMeta emof → (bytes : List ℕ) (e f : FileError) → IsTold e → IsTold f → IsMetaFileError bytes e → IsMetaFileError bytes f → e ≡ f
one_error_of_metamodel well bytes e f n o x y = by (is_of bytes e n x) (is_of bytes f o y)
  where
    by : IsOf bytes e → IsOf bytes f → e ≡ f
    by (OfModel x) (OfModel y) = one_error_in emof externs.Primitives bytes well (form_of bytes) e f n o x y
    by (OfModel x) (OfDescription y) = absurd (not_both bytes e f n x y)
    by (OfDescription x) (OfModel y) = absurd (not_both bytes f e o y x)
    by (OfDescription x) (OfDescription y) =
        one_why x.model e f n o x.why (subst (λ (m : ModelData). IsWhy m f) (one_emof bytes y.model x.model y.spelled x.spelled) y.why)
