-- A file is one model, or has faults of which none is told where it is a model.
use Rattle.std.proofs.Common.{◌≡◌, ◌⊎◌, ℕ, ◌≤◌, Bool, true, false, List, length, refl, sym, ◌∙◌, ap, subst, arith, true≢false, inl, inr, Option, None, Some, Result, Ok, Err}
use Rattle.std.specs.Prelude.{IfErr, IsOkUnless}
use Rattle.serde_json.specs.Data.{Data}
use Rattle.mof_metamodel.specs.declared.desc.MetaDesc.{MetaDesc}
use Rattle.object_tables.specs.declared.limit.TheConstants.{MAX_OBJECTS}
use Rattle.mof_metamodel.specs.WellMeta.{WellMeta}
use Rattle.mof_metamodel.specs.declared.fault.MetaFault.{MetaFault}
use Rattle.object_tables.specs.declared.limit.LimitKind.{LimitKind}
use Rattle.object_tables.specs.declared.limit.LimitKind.TheVariants as limits
use Rattle.object_tables.specs.Models.{ModelData}
use Rattle.xmi_text.specs.declared.error.TextFault.{TextFault}
use Rattle.xmi_text.specs.Faults as markup
use Rattle.xmi_text.specs.Markup.{Markup}
use Rattle.xmi_text.specs.Trees.{Tree}
use Rattle.xmi_text.proofs.faults.FirstFault.{first_told, outside_documents}
use Rattle.xmi_text.proofs.forward.Spelled.{markup_spelled}
use Rattle.xmi_text.proofs.reading.Staying.{one_spelled}
use Rattle.model_assembly.specs.declared.fault.Externs.{Externs}
use Rattle.model_assembly.specs.declared.fault.ModelFault.{ModelFault}
use Rattle.model_assembly.specs.declared.fault.ModelFault.TheVariants as faults
use Rattle.model_assembly.specs.FirstFault.{IsFirstFault, IsModel}
use Rattle.xmi_profile.specs.Reads.{Spells, IsRefused}
use Rattle.xmi_profile.specs.Reads as reads
use Rattle.model_files.specs.declared.fault.FileError.{FileError}
use Rattle.model_files.specs.declared.fault.FileError.TheVariants as errors
use Rattle.model_files.specs.declared.fault.JsonFault.{JsonFault}
use Rattle.model_files.specs.declared.fault.JsonFault.TheVariants as json_faults
use Rattle.model_files.specs.declared.file_form.Form.{Form}
use Rattle.model_files.specs.declared.file_form.Form.TheVariants.{Xmi, Json}
use Rattle.model_files.specs.FaultTexts.{is_model_limit, is_json_limit, is_text_limit, is_limit}
use Rattle.model_files.specs.Files.{SpellsIn, IsErrorIn, IsTold}
use Rattle.model_files.specs.JsonContent.{objects_of, source_of, first_wrong, SpellsModel, IsFirstOfPlaces, IsFirstOfOthers, IsFirstContentFault, IsLimit}
use Rattle.model_files.specs.JsonFaults.{IsJsonFault}
use Rattle.model_files.specs.JsonText.{value_in}
use Rattle.model_files.specs.Shape.{first_amiss}
use Rattle.model_files.proofs.FaultlessLaws.{not_faulty, same_limit, one_test}
use Rattle.model_files.proofs.JsonKnownLaws.{prop_plain, are_right}
use Rattle.model_files.proofs.JsonNumberLaws.{value_fits, objects_fit}
use Rattle.model_files.proofs.JsonTreeLaws.{IsSound, objects_counted}
use Rattle.model_files.proofs.OneModelLaws.{same_content}

pub one_tree : (bytes : List ℕ) (t u : Tree) → Markup bytes t → Markup bytes u → t ≡ u
one_tree bytes t u m n = one_spelled bytes t u (markup_spelled bytes t m) (markup_spelled bytes u n)

pub one_value : (bytes : List ℕ) (d e : Data) → value_in bytes ≡ Some d → value_in bytes ≡ Some e → d ≡ e
one_value bytes d e f g = let h : Some d ≡ Some e = sym f ∙ g in cc

pub no_value : (bytes : List ℕ) (d : Data) → value_in bytes ≡ Some d → value_in bytes ≡ None → ⊥
no_value bytes d f g = let h : Some d ≡ None = sym f ∙ g in absurd cc

-- ---- one model

module _ (meta : MetaDesc) (outside : Externs) (bytes : List ℕ) where
  one_in_xmi : (a b : ModelData) → Spells meta outside bytes a → Spells meta outside bytes b → a ≡ b
  one_in_xmi a b x y =
      let s = reads.source_of meta outside x.tree in
      let there : IsModel s b = subst (λ (t : Tree). IsModel (reads.source_of meta outside t) b) (one_tree bytes y.tree x.tree y.markup x.markup) y.model in
      same_content s a b x.model.content there.content x.model.valid.kept there.valid.kept

  one_in_json : (a b : ModelData) → SpellsIn meta outside bytes Json a → SpellsIn meta outside bytes Json b → a ≡ b
  one_in_json a b (d, e, x) (c, f, y) =
      let there : IsModel (source_of meta d) b = subst (λ (v : Data). IsModel (source_of meta v) b) (one_value bytes c d f e) y.model in
      same_content (source_of meta d) a b x.model.content there.content x.model.valid.kept there.valid.kept

  pub one_in : (form : Form) (a b : ModelData) → SpellsIn meta outside bytes form a → SpellsIn meta outside bytes form b → a ≡ b
  one_in Xmi a b x y = one_in_xmi a b x y
  one_in Json a b x y = one_in_json a b x y

-- ---- no fault beside a model

not_of_places : (meta : MetaDesc) (d : Data) (m : ModelData) (fault : ModelFault) → SpellsModel meta d m → IsFirstOfPlaces meta d fault → ⊥
not_of_places meta d m fault x y = let e : None ≡ Some fault = sym x.right ∙ y.first in absurd cc

not_of_others : (meta : MetaDesc) (d : Data) (m : ModelData) (fault : ModelFault) → SpellsModel meta d m → IsFirstOfOthers meta d fault → ⊥
not_of_others meta d m fault x y = not_faulty (source_of meta d) m x.model fault y.first

counted : (meta : MetaDesc) (bytes : List ℕ) (d : Data) (m : ModelData) → value_in bytes ≡ Some d → SpellsModel meta d m → length (objects_of d) ≤ MAX_OBJECTS
counted meta bytes d m e x =
    let well : WellMeta meta = subst WellMeta x.model.content.meta x.model.valid.kept.well in
    let sound : IsSound meta d =
    record { plain = prop_plain meta well; right = are_right meta well (objects_of d) x.right; fit = objects_fit d (value_fits bytes d e) } in
    let same = objects_counted meta d sound in
    let few = x.model.objects in
    omega (arith, same, few)

not_content : (meta : MetaDesc) (bytes : List ℕ) (d : Data) (m : ModelData) → value_in bytes ≡ Some d → SpellsModel meta d m → (fault : ModelFault) → IsFirstContentFault meta d fault → ⊥
not_content meta bytes d m e x (faults.UnknownClass name) y = not_of_places meta d m (faults.UnknownClass name) x y
not_content meta bytes d m e x (faults.UnknownProperty id prop) y = not_of_places meta d m (faults.UnknownProperty id prop) x y
not_content meta bytes d m e x (faults.WrongValue id prop) y = not_of_places meta d m (faults.WrongValue id prop) x y
not_content meta bytes d m e x (faults.DuplicateId id) y = not_of_places meta d m (faults.DuplicateId id) x y
not_content meta bytes d m e x (faults.Dangling id prop reference) y = not_of_others meta d m (faults.Dangling id prop reference) x y
not_content meta bytes d m e x (faults.TwoContainers id) y = not_of_others meta d m (faults.TwoContainers id) x y
not_content meta bytes d m e x (faults.Mismatch id prop other other_prop) y = not_of_others meta d m (faults.Mismatch id prop other other_prop) x y
not_content meta bytes d m e x (faults.Invalid breach id) y = not_of_others meta d m (faults.Invalid breach id) x y
not_content meta bytes d m e x (faults.Limit limits.Objects) y = let few = counted meta bytes d m e x in let many = y.more in omega (arith, few, many)
not_content meta bytes d m e x (faults.Limit limits.Depth) y = not_of_others meta d m (faults.Limit limits.Depth) x y

not_json : (meta : MetaDesc) (bytes : List ℕ) (d : Data) (m : ModelData) → value_in bytes ≡ Some d → SpellsModel meta d m → (fault : JsonFault) → IsJsonFault meta bytes fault → ⊥
not_json meta bytes d m e x json_faults.Syntax y = no_value bytes d e y
not_json meta bytes d m e x (json_faults.Shape path) (c, f, g) =
    let there : first_amiss d ≡ Some path = subst (λ (v : Data). first_amiss v ≡ Some path) (one_value bytes c d f e) g in
    let clash : None ≡ Some path = sym x.shape ∙ there in
    absurd cc
not_json meta bytes d m e x (json_faults.Content fault) (c, f, g) =
    not_content meta bytes d m e x fault (subst (λ (v : Data). IsFirstContentFault meta v fault) (one_value bytes c d f e) g)

module _ (meta : MetaDesc) (outside : Externs) (bytes : List ℕ) (m : ModelData) where
  not_text : Spells meta outside bytes m → (fault : TextFault) → markup.IsFirstFault bytes fault → ⊥
  not_text x fault y = outside_documents fault.kind bytes x.tree fault.at x.markup y.stands

  not_refused : Spells meta outside bytes m → (fault : ModelFault) → IsRefused meta outside bytes fault → ⊥
  not_refused x fault y =
      not_faulty (reads.source_of meta outside x.tree) m x.model fault
      (subst (λ (t : Tree). IsFirstFault (reads.source_of meta outside t) fault) (one_tree bytes y.tree x.tree y.markup x.markup) y.first)

  -- where the file is a model, no error is told but want of memory
  pub no_error_in : (form : Form) → SpellsIn meta outside bytes form m → (e : FileError) → IsErrorIn meta outside bytes form e → e ≡ errors.NoMemory
  no_error_in Xmi x (errors.Text fault) y = absurd (not_text x fault y)
  no_error_in Xmi x (errors.Json fault) y = absurd y
  no_error_in Xmi x (errors.Content fault) y = absurd (not_refused x fault y)
  no_error_in Xmi x (errors.Meta fault) y = absurd y
  no_error_in Xmi x (errors.NoPackage n) y = absurd y
  no_error_in Xmi x errors.NoMemory y = refl
  no_error_in Json x (errors.Text fault) y = absurd y
  no_error_in Json (d, e, x) (errors.Json fault) y = absurd (not_json meta bytes d m e x fault y)
  no_error_in Json x (errors.Content fault) y = absurd y
  no_error_in Json x (errors.Meta fault) y = absurd y
  no_error_in Json x (errors.NoPackage n) y = absurd y
  no_error_in Json x errors.NoMemory y = refl

-- so it is answered
pub only_in : {T : Type 0} (meta : MetaDesc) (outside : Externs) (bytes : List ℕ) (form : Form) (r : Result T FileError) → IfErr r (IsErrorIn meta outside bytes form)
    → (m : ModelData) → SpellsIn meta outside bytes form m → IsOkUnless r errors.NoMemory
only_in meta outside bytes form (Ok x) h m spelled = tt
only_in meta outside bytes form (Err e) h m spelled = no_error_in meta outside bytes m form spelled e h

-- ---- limits

abbrev Others : MetaDesc → Data → ModelFault → Type 0
Others meta d fault = (length (objects_of d) ≤ MAX_OBJECTS) × ((¬ (first_wrong meta (objects_of d) ≡ None)) ⊎ IsFirstFault (source_of meta d) fault)

of_places : (meta : MetaDesc) (d : Data) (fault : ModelFault) → IsFirstOfPlaces meta d fault → Others meta d fault
of_places meta d fault x = (x.fewer, inl (λ e. (let f : None ≡ Some fault = sym e ∙ x.first in absurd cc)))

of_others : (meta : MetaDesc) (d : Data) (fault : ModelFault) → IsFirstOfOthers meta d fault → Others meta d fault
of_others meta d fault x = (x.fewer, inr x.first)

-- a fault that is no limit stands among few objects, at a place or as one of references
others : (meta : MetaDesc) (d : Data) (fault : ModelFault) → is_model_limit fault ≡ false → IsFirstContentFault meta d fault → Others meta d fault
others meta d (faults.UnknownClass name) e x = of_places meta d (faults.UnknownClass name) x
others meta d (faults.UnknownProperty id prop) e x = of_places meta d (faults.UnknownProperty id prop) x
others meta d (faults.WrongValue id prop) e x = of_places meta d (faults.WrongValue id prop) x
others meta d (faults.DuplicateId id) e x = of_places meta d (faults.DuplicateId id) x
others meta d (faults.Dangling id prop reference) e x = of_others meta d (faults.Dangling id prop reference) x
others meta d (faults.TwoContainers id) e x = of_others meta d (faults.TwoContainers id) x
others meta d (faults.Mismatch id prop other other_prop) e x = of_others meta d (faults.Mismatch id prop other other_prop) x
others meta d (faults.Invalid breach id) e x = of_others meta d (faults.Invalid breach id) x
others meta d (faults.Limit kind) e x = absurd cc

limit_alone : (meta : MetaDesc) (d : Data) (kind : LimitKind) (g : ModelFault) → is_model_limit g ≡ false → IsLimit meta d kind → Others meta d g → ⊥
limit_alone meta d limits.Objects g e x (few, other) = let many = x.more in omega (arith, few, many)
limit_alone meta d limits.Depth g e x (few, inl wrong) = wrong x.right
limit_alone meta d limits.Depth g e x (few, inr first) = true≢false (same_limit (source_of meta d) (faults.Limit limits.Depth) g x.first first ∙ e)

apart : (meta : MetaDesc) (d : Data) (f g : ModelFault) → is_model_limit f ≡ true → is_model_limit g ≡ false → IsFirstContentFault meta d f → IsFirstContentFault meta d g → ⊥
apart meta d (faults.Limit kind) g e h x y = limit_alone meta d kind g h x (others meta d g h y)
apart meta d (faults.UnknownClass name) g e h x y = absurd cc
apart meta d (faults.UnknownProperty id prop) g e h x y = absurd cc
apart meta d (faults.WrongValue id prop) g e h x y = absurd cc
apart meta d (faults.DuplicateId id) g e h x y = absurd cc
apart meta d (faults.Dangling id prop reference) g e h x y = absurd cc
apart meta d (faults.TwoContainers id) g e h x y = absurd cc
apart meta d (faults.Mismatch id prop other other_prop) g e h x y = absurd cc
apart meta d (faults.Invalid breach id) g e h x y = absurd cc

same_content_limit : (meta : MetaDesc) (d : Data) (f g : ModelFault) → IsFirstContentFault meta d f → IsFirstContentFault meta d g → is_model_limit f ≡ is_model_limit g
same_content_limit meta d f g x y = one_test (is_model_limit f) (is_model_limit g) (λ e h. apart meta d f g e h x y) (λ e h. apart meta d g f e h y x)

pub amiss_clash : (bytes : List ℕ) (d c : Data) (path : List ℕ) → value_in bytes ≡ Some d → value_in bytes ≡ Some c → first_amiss d ≡ None → first_amiss c ≡ Some path → ⊥
amiss_clash bytes d c path e f g h =
    let k : None ≡ Some path = sym g ∙ ap first_amiss (one_value bytes d c e f) ∙ h in
    absurd cc

pub shape_of : (meta : MetaDesc) (d : Data) (fault : ModelFault) → IsFirstContentFault meta d fault → first_amiss d ≡ None
shape_of meta d (faults.UnknownClass name) x = x.shape
shape_of meta d (faults.UnknownProperty id prop) x = x.shape
shape_of meta d (faults.WrongValue id prop) x = x.shape
shape_of meta d (faults.DuplicateId id) x = x.shape
shape_of meta d (faults.Dangling id prop reference) x = x.shape
shape_of meta d (faults.TwoContainers id) x = x.shape
shape_of meta d (faults.Mismatch id prop other other_prop) x = x.shape
shape_of meta d (faults.Invalid breach id) x = x.shape
shape_of meta d (faults.Limit limits.Objects) x = x.shape
shape_of meta d (faults.Limit limits.Depth) x = x.shape

same_json_limit : (meta : MetaDesc) (bytes : List ℕ) (f g : JsonFault) → IsJsonFault meta bytes f → IsJsonFault meta bytes g → is_json_limit f ≡ is_json_limit g
same_json_limit meta bytes json_faults.Syntax json_faults.Syntax x y = refl
same_json_limit meta bytes json_faults.Syntax (json_faults.Shape p) x y = refl
same_json_limit meta bytes json_faults.Syntax (json_faults.Content g) x (d, e, y) = absurd (no_value bytes d e x)
same_json_limit meta bytes (json_faults.Shape p) json_faults.Syntax x y = refl
same_json_limit meta bytes (json_faults.Shape p) (json_faults.Shape q) x y = refl
same_json_limit meta bytes (json_faults.Shape p) (json_faults.Content g) (c, f, x) (d, e, y) = absurd (amiss_clash bytes d c p e f (shape_of meta d g y) x)
same_json_limit meta bytes (json_faults.Content h) json_faults.Syntax (d, e, x) y = absurd (no_value bytes d e y)
same_json_limit meta bytes (json_faults.Content h) (json_faults.Shape q) (d, e, x) (c, f, y) = absurd (amiss_clash bytes d c q e f (shape_of meta d h x) y)
same_json_limit meta bytes (json_faults.Content h) (json_faults.Content g) (d, e, x) (c, f, y) =
    same_content_limit meta d h g x (subst (λ (v : Data). IsFirstContentFault meta v g) (one_value bytes c d f e) y)

same_text_limit : (bytes : List ℕ) (f g : TextFault) → markup.IsFirstFault bytes f → markup.IsFirstFault bytes g → is_text_limit f.kind ≡ is_text_limit g.kind
same_text_limit bytes f g x y =
    let h : Some f ≡ Some g = sym (first_told bytes f x) ∙ first_told bytes g y in
    let same : f ≡ g = cc in
    ap (λ (t : TextFault). is_text_limit t.kind) same

module _ (meta : MetaDesc) (outside : Externs) (bytes : List ℕ) where
  pub text_alone : (f : TextFault) (g : ModelFault) → markup.IsFirstFault bytes f → IsRefused meta outside bytes g → ⊥
  text_alone f g x y = outside_documents f.kind bytes y.tree f.at y.markup x.stands

  same_refused_limit : (f g : ModelFault) → IsRefused meta outside bytes f → IsRefused meta outside bytes g → is_model_limit f ≡ is_model_limit g
  same_refused_limit f g x y =
      same_limit (reads.source_of meta outside x.tree) f g x.first
      (subst (λ (t : Tree). IsFirstFault (reads.source_of meta outside t) g) (one_tree bytes y.tree x.tree y.markup x.markup) y.first)

  pub no_meta : (form : Form) (e : MetaFault) → IsErrorIn meta outside bytes form (errors.Meta e) → ⊥
  no_meta Xmi e x = x
  no_meta Json e x = x

  pub no_package : (form : Form) (n : ℕ) → IsErrorIn meta outside bytes form (errors.NoPackage n) → ⊥
  no_package Xmi n x = x
  no_package Json n x = x

  -- of two errors that are told of a file both are limits, or none is
  pub same_limit_in : (form : Form) (e f : FileError) → IsTold e → IsTold f → IsErrorIn meta outside bytes form e → IsErrorIn meta outside bytes form f → is_limit e ≡ is_limit f
  same_limit_in form errors.NoMemory f n o x y = absurd (n refl)
  same_limit_in form (errors.Meta e) f n o x y = absurd (no_meta form e x)
  same_limit_in form (errors.NoPackage e) f n o x y = absurd (no_package form e x)
  same_limit_in Xmi (errors.Json e) f n o x y = absurd x
  same_limit_in Json (errors.Text e) f n o x y = absurd x
  same_limit_in Json (errors.Content e) f n o x y = absurd x
  same_limit_in Xmi (errors.Text e) f n o x y = by f o y
    where
      by : (f : FileError) → IsTold f → IsErrorIn meta outside bytes Xmi f → is_text_limit e.kind ≡ is_limit f
      by (errors.Text f) o y = same_text_limit bytes e f x y
      by (errors.Json f) o y = absurd y
      by (errors.Content f) o y = absurd (text_alone e f x y)
      by (errors.Meta f) o y = absurd y
      by (errors.NoPackage f) o y = absurd y
      by errors.NoMemory o y = absurd (o refl)
  same_limit_in Xmi (errors.Content e) f n o x y = by f o y
    where
      by : (f : FileError) → IsTold f → IsErrorIn meta outside bytes Xmi f → is_model_limit e ≡ is_limit f
      by (errors.Text f) o y = absurd (text_alone f e y x)
      by (errors.Json f) o y = absurd y
      by (errors.Content f) o y = same_refused_limit e f x y
      by (errors.Meta f) o y = absurd y
      by (errors.NoPackage f) o y = absurd y
      by errors.NoMemory o y = absurd (o refl)
  same_limit_in Json (errors.Json e) f n o x y = by f o y
    where
      by : (f : FileError) → IsTold f → IsErrorIn meta outside bytes Json f → is_json_limit e ≡ is_limit f
      by (errors.Text f) o y = absurd y
      by (errors.Json f) o y = same_json_limit meta bytes e f x y
      by (errors.Content f) o y = absurd y
      by (errors.Meta f) o y = absurd y
      by (errors.NoPackage f) o y = absurd y
      by errors.NoMemory o y = absurd (o refl)
