-- The types that are listed are those that a relation's variables have, and what is refused of them are faults that stand.
use Rattle.std.proofs.Common.{◌≡◌, ◌≢◌, ◌⊎◌, ℕ, zero, suc, List, [], ◌∷◌, ◌++◌, refl, sym, ◌∙◌, ap, subst, map, arith, inl, inr}
use Rattle.std.specs.Prelude.{Option, Some, None, Ok, Err, Contains, All, IsTrue, is_some}
use Rattle.std.specs.List.{flat_map}
use Rattle.std.specs.Option.{option_map, option_to_list, option_and_then, option_or}
use Rattle.std.proofs.lemmas.Bool.{false≢true}
use Rattle.std.proofs.lemmas.Option.{same_Some, none-some, slice_get_within, get_or_from_slice_get}
use Rattle.std.proofs.lemmas.List.{map-append}
use Rattle.std.proofs.lemmas.List.Elements.{All-contains}
use Rattle.mof_metamodel.specs.declared.desc.ClassId.{ClassId}
use Rattle.mof_metamodel.specs.NameTables.{NamesWith, value_of}
use Rattle.mof_metamodel.proofs.PropLemmas.{to_flat_map, from_flat_map}
use Rattle.qv_syntax.specs.declared.name.Path.{Path}
use Rattle.qv_syntax.specs.declared.type_tree.Kind.{Kind}
use Rattle.qv_syntax.specs.declared.type_tree.TypeTree.{TypeTree}
use Rattle.qv_syntax.specs.declared.ty.Ty.{Ty}
use Rattle.qv_syntax.specs.declared.ty.Ty.TheVariants as types
use Rattle.qv_syntax.specs.declared.script.DomainTree.{DomainTree}
use Rattle.qv_syntax.specs.declared.script.RelationTree.{RelationTree}
use Rattle.ocl_environments.specs.Environments.{Environment}
use Rattle.ocl_environments.specs.Naming.{names_of}
use Rattle.ocl_environments.specs.Written.{written}
use Rattle.ocl_environments.specs.Outcomes.{RuleResult, and_then, wrong_type}
use Rattle.ocl_environments.specs.Agreement.{collection_parts}
use Rattle.ocl_types.specs.TypingScopes.{element, no_collection}
use Rattle.ocl_types.proofs.JudgedLaws.{ok_ok, ok_err}
use Rattle.ocl_types.proofs.LayerLaws.{parts_of_collection}
use Rattle.ocl_types.proofs.WrittenLaws.{element_is}
use Rattle.script_scopes.specs.declared.template_classes.ModelNames.{ModelNames}
use Rattle.script_scopes.specs.ScriptNames.{model_names}
use Rattle.script_scopes.specs.Occurrences.{Piece, WrittenProperty, piece_template, template_variables}
use Rattle.script_scopes.specs.Occurrences.Piece.{begins, asks}
use Rattle.script_scopes.specs.Divisions.{model_of, HasPiece}
use Rattle.script_scopes.specs.Environments.{Setting, in_script, metamodel_names, slots_of}
use Rattle.script_scopes.specs.Declarations.{IsWrittenFor, IsTemplateClass, HasVariableType, IsRepeated, template_class, meta_of}
use Rattle.script_scopes.specs.Faults.{domain_models, typed_names}
use Rattle.script_scopes.specs.Refusals.{HasNamesInOrder}
use Rattle.script_scopes.specs.LocatedPieces.{located}
use Rattle.script_scopes.specs.FirstEntries.{first_entries}
use Rattle.script_scopes.specs.VariableTypes.{written_types, single_type, typing_of, written_typing, HasSingle, metamodel_numbers, class_in, object_typing, class_typing, HasClass, IsAgreed, Classes, declared_types, template_types, variable_types, AreTyped}
use Rattle.script_scopes.proofs.MemberLemmas.{to_filter_map, from_map}
use Rattle.script_variables.proofs.FirstEntryLemmas.{first_value, onto_value, value_among, one_value, once_value, among_value}
use Rattle.script_variables.proofs.LocatedLaws.{located_piece, piece_located, located_templates}
use Rattle.script_variables.proofs.WrittenTypeLaws.{written_from, written_to, written_named}
use Rattle.script_variables.proofs.PlaceLaws.{meta_found}

abbrev Typing : Type 0
Typing = List ℕ × Ty

-- ---- types that are written

module _ (env : Environment) where
  pub single_written : (tree : TypeTree) (ty : Ty) → single_type env tree ≡ Ok ty → written env tree ≡ Ok ty
  single_written tree ty h = by (written env tree) refl h
    where
      by : (o : RuleResult Ty) → written env tree ≡ o → and_then o (element env.metas) ≡ Ok ty → written env tree ≡ Ok ty
      by (Ok t) e g = e ∙ ap (λ (u : Ty). Ok u) (sym (element_is env.metas t ty g).0)
      by (Err f) e g = absurd (ok_err (Err f) ty f g refl)

  pub single_single : (tree : TypeTree) (ty : Ty) (kind : Kind) (inner : Ty) → single_type env tree ≡ Ok ty → ty ≢ types.Coll kind inner
  single_single tree ty kind inner h same =
      ok_err (single_type env tree) ty (wrong_type env.metas inner ty) h
      (ap (λ (o : RuleResult Ty). and_then o (element env.metas)) (single_written tree ty h)
      ∙ ap (no_collection env.metas ty) (ap collection_parts same ∙ parts_of_collection kind inner))

  typing_from : (name : List ℕ) (o : RuleResult Ty) (v : List ℕ) (ty : Ty) → Contains (typing_of name o) (v, ty) → (name ≡ v) × (o ≡ Ok ty)
  typing_from name (Ok t) v ty (zero, l, at) = (ap (λ (p : Typing). p.0) at, ap (λ (p : Typing). Ok p.1) at)
  typing_from name (Ok t) v ty (suc k, l, at) = absurd (omega arith)
  typing_from name (Err f) v ty (k, l, at) = absurd (omega arith)

  typing_to : (name : List ℕ) (o : RuleResult Ty) (ty : Ty) → o ≡ Ok ty → Contains (typing_of name o) (name, ty)
  typing_to name o ty is = subst (λ (r : RuleResult Ty). Contains (typing_of name r) (name, ty)) (sym is) (0, omega arith, refl)

  module _ (r : RelationTree) (v : List ℕ) (ty : Ty) where
    pub declared_from : Contains (declared_types env r) (v, ty) → (tree : TypeTree) × IsWrittenFor r v tree × (single_type env tree ≡ Ok ty)
    declared_from c =
        let (w, among, has) = from_flat_map (written_typing env) (written_types r) (v, ty) c in
        let (name, is) = typing_from w.0 (single_type env w.1) v ty has in
        (w.1, written_from r v w.1 (subst (λ (n : List ℕ). Contains (written_types r) (n, w.1)) name among), is)

    declared_to : (tree : TypeTree) → IsWrittenFor r v tree → single_type env tree ≡ Ok ty → Contains (declared_types env r) (v, ty)
    declared_to tree h is = to_flat_map (written_typing env) (written_types r) (v, tree) (v, ty) (written_to r v tree h) (typing_to v (single_type env tree) ty is)

  -- one type for each variable, where each is declared once
  declared_value : (r : RelationTree) → ((n : List ℕ) → ¬ IsRepeated (typed_names r) n) → (v : List ℕ) (tree : TypeTree) (ty : Ty) → IsWrittenFor r v tree → single_type env tree ≡ Ok ty
      → value_of (declared_types env r) v ≡ Some ty
  declared_value r once v tree ty h is =
      let (t, found) = among_value (declared_types env r) v ty (declared_to r v ty tree h is) in
      let (other, w, single) = declared_from r v t (value_among (declared_types env r) v t found) in
      let same : other ≡ tree = one_value (written_types r) v other tree (subst (λ (ns : List (List ℕ)). ¬ IsRepeated ns v) (sym (written_named r)) (once v)) (written_to r v other w) (written_to r v tree h) in
      found ∙ ap Some (ok_ok (single_type env tree) t ty (ap (single_type env) (sym same) ∙ single) is)

-- ---- classes of templates

-- a template begins with this variable, whose class is found
record HasTemplate (class : Classes) (p : List ℕ × Piece) (v : List ℕ) (ty : Ty) : Type 0 where
  pub at : Option WrittenProperty
  pub path : Path
  pub found : ℕ × ClassId
  pub is : p.1 ≡ begins at v path
  pub known : class p.0 path ≡ Some found
  pub typed : ty ≡ types.Class found.0 found.1

class_from : (class : Classes) (p : List ℕ × Piece) (v : List ℕ) (ty : Ty) → Contains (class_typing class p) (v, ty) → HasTemplate class p v ty
class_from class (model, begins at w path) v ty c = by (class model path) refl c
  where
    by : (o : Option (ℕ × ClassId)) → class model path ≡ o → Contains (option_to_list (option_map (object_typing w) o)) (v, ty) → HasTemplate class (model, begins at w path) v ty
    by None e (k, l, is) = absurd (omega arith)
    by (Some found) e (zero, l, is) = record {
      at = at;
      path = path;
      found = found;
      is = ap (λ (t : Typing). begins at t.0 path) is;
      known = e;
      typed = ap (λ (t : Typing). t.1) (sym is);
    }
    by (Some found) e (suc k, l, is) = absurd (omega arith)
class_from class (model, asks at e) v ty (k, l, is) = absurd (omega arith)

class_to : (class : Classes) (model v : List ℕ) (at : Option WrittenProperty) (path : Path) (found : ℕ × ClassId) → class model path ≡ Some found
    → Contains (class_typing class (model, begins at v path)) (v, types.Class found.0 found.1)
class_to class model v at path found is =
    subst (λ (o : Option (ℕ × ClassId)). Contains (option_to_list (option_map (object_typing v) o)) (v, types.Class found.0 found.1)) (sym is) (0, omega arith, refl)

-- each template has a class, so that the names are those of all templates
classes_named : (class : Classes) (ps : List (List ℕ × Piece)) → All (HasClass class) ps → map {A = Typing} {B = List ℕ} (λ t. t.0) (flat_map (class_typing class) ps) ≡ flat_map (λ (p : List ℕ × Piece). piece_template p.1) ps
classes_named class [] all = refl
classes_named class (p ∷ ps) all =
    map-append {A = Typing} {B = List ℕ} (λ t. t.0) (class_typing class p) (flat_map (class_typing class) ps)
    ∙ ap (λ (ns : List (List ℕ)). ns ++ map {A = Typing} {B = List ℕ} (λ t. t.0) (flat_map (class_typing class) ps)) (one p (all 0 p (omega arith)))
    ∙ ap (λ (ns : List (List ℕ)). piece_template p.1 ++ ns) (classes_named class ps (λ i d l. all (suc i) d (omega arith)))
  where
    one : (q : List ℕ × Piece) → HasClass class q → map {A = Typing} {B = List ℕ} (λ t. t.0) (class_typing class q) ≡ piece_template q.1
    one (model, begins at v path) h = by (class model path) h
      where
        by : (o : Option (ℕ × ClassId)) → IsTrue (is_some o) → map {A = Typing} {B = List ℕ} (λ t. t.0) (option_to_list (option_map (object_typing v) o)) ≡ v ∷ []
        by None g = absurd (false≢true g)
        by (Some c) g = refl
    one (model, asks at e) h = refl

-- ---- in a setting

pub domain_among : (r : RelationTree) (domain : DomainTree) (piece : Piece) → HasPiece r domain piece → Contains r.domains domain
domain_among r domain piece h = (h.place, slice_get_within r.domains h.place domain h.found, get_or_from_slice_get r.domains h.place domain domain h.found)

module _ (s : Setting) (r : RelationTree) (names : ModelNames) (models : names.models ≡ first_entries (metamodel_numbers (slots_of s.script))) (metas : names.metas ≡ metamodel_names s.script)
    (order : HasNamesInOrder (model_names s.script.models) r) where
  abbrev class : Classes
  class = class_in s.metas names

  abbrev env : Environment
  env = in_script s

  pub model_known : (domain : DomainTree) (piece : Piece) (model : List ℕ) → HasPiece r domain piece → model_of domain ≡ Some model → Contains (model_names s.script.models) model
  model_known domain piece model h of = All-contains (Contains (model_names s.script.models)) (domain_models r) model order.known (to_filter_map model_of r.domains domain model (domain_among r domain piece h) of)

  abbrev in_meta : List ℕ → Path → Option ClassId
  in_meta model path = template_class s.metas (metamodel_names s.script) (meta_of s.script model) (names_of path)

  pub class_known : (model : List ℕ) (path : Path) → Contains (model_names s.script.models) model → class model path ≡ option_map (λ c. (meta_of s.script model, c)) (in_meta model path)
  class_known model path known =
      ap (λ (o : Option ℕ). option_and_then (λ meta. option_map (λ (c : ClassId). (meta, c)) (template_class s.metas names.metas meta (names_of path))) o)
      (ap (λ (es : NamesWith ℕ). value_of es model) models ∙ first_value (metamodel_numbers (slots_of s.script)) model ∙ meta_found s.script model known)
      ∙ ap (λ (ns : List (List ℕ)). option_map (λ (c : ClassId). (meta_of s.script model, c)) (template_class s.metas ns (meta_of s.script model) (names_of path))) metas

  class_named : (model : List ℕ) (path : Path) (found : ℕ × ClassId) → Contains (model_names s.script.models) model → class model path ≡ Some found
      → (found.0 ≡ meta_of s.script model) × (in_meta model path ≡ Some found.1)
  class_named model path found known is = by (in_meta model path) refl (sym (class_known model path known) ∙ is)
    where
      by : (o : Option ClassId) → in_meta model path ≡ o → option_map (λ (c : ClassId). (meta_of s.script model, c)) o ≡ Some found → (found.0 ≡ meta_of s.script model) × (in_meta model path ≡ Some found.1)
      by None e g = absurd (none-some found g)
      by (Some c) e g = let same = same_Some (meta_of s.script model, c) found g in (ap (λ (f : ℕ × ClassId). f.0) (sym same), e ∙ ap (λ (f : ℕ × ClassId). Some f.1) same)

  pub template_from : (v : List ℕ) (ty : Ty) → Contains (template_types class r) (v, ty) → IsTemplateClass s.metas s.script r v ty
  template_from v ty c =
      let (p, among, has) = from_flat_map (class_typing class) (located r) (v, ty) c in
      let t = class_from class p v ty has in
      let (domain, piece, of) = located_piece p.0 p.1 r among in
      let known = model_known domain p.1 p.0 piece of in
      let (meta, named) = class_named p.0 t.path t.found known t.known in
      record {
        domain = domain;
        at = t.at;
        path = t.path;
        model = p.0;
        class = t.found.1;
        piece = subst (HasPiece r domain) t.is piece;
        of_model = of;
        known = known;
        named = named;
        is = t.typed ∙ ap (λ (m : ℕ). types.Class m t.found.1) meta;
      }

  template_to : (v : List ℕ) (ty : Ty) → IsTemplateClass s.metas s.script r v ty → Contains (template_types class r) (v, ty)
  template_to v ty h =
      to_flat_map (class_typing class) (located r) (h.model, begins h.at v h.path) (v, ty) (piece_located h.model (begins h.at v h.path) r h.domain h.piece h.of_model)
      (subst (λ (t : Ty). Contains (class_typing class (h.model, begins h.at v h.path)) (v, t)) (sym h.is)
      (class_to class h.model v h.at h.path (meta_of s.script h.model, h.class)
      (class_known h.model h.path h.known ∙ ap (λ (o : Option ClassId). option_map (λ (c : ClassId). (meta_of s.script h.model, c)) o) h.named)))

  -- ---- what is listed is what a variable has

  pub type_from : (v : List ℕ) (ty : Ty) → value_of (variable_types env class r) v ≡ Some ty → HasVariableType s.metas s.script env r v ty
  type_from v ty h = by (value_of (declared_types env r) v) refl
      (sym (onto_value (first_entries (declared_types env r)) (template_types class r) v ∙ ap (λ (o : Option Ty). option_or o (value_of (template_types class r) v)) (first_value (declared_types env r) v)) ∙ h)
    where
      by : (o : Option Ty) → value_of (declared_types env r) v ≡ o → option_or o (value_of (template_types class r) v) ≡ Some ty → HasVariableType s.metas s.script env r v ty
      by None e g = HasVariableType.template (template_from v ty (value_among (template_types class r) v ty g))
      by (Some t) e g =
          let (tree, w, is) = declared_from env r v t (value_among (declared_types env r) v t e) in
          HasVariableType.is_written tree w (single_written env tree t is ∙ ap (λ (u : Ty). Ok u) (same_Some t ty g))

  module _ (typed : AreTyped env class r) where
    pub single_of : (tree : TypeTree) (v : List ℕ) → IsWrittenFor r v tree → (ty : Ty) × (single_type env tree ≡ Ok ty)
    single_of tree v w = All-contains (HasSingle env) (written_types r) (v, tree) typed.single (written_to r v tree w)

    single_is : (tree : TypeTree) (v : List ℕ) (ty : Ty) → IsWrittenFor r v tree → written env tree ≡ Ok ty → single_type env tree ≡ Ok ty
    single_is tree v ty w is = let (t, single) = single_of tree v w in single ∙ ap (λ (u : Ty). Ok u) (ok_ok (written env tree) t ty (single_written env tree t single) is)

    -- where it is written
    pub written_value : (tree : TypeTree) (v : List ℕ) (ty : Ty) → IsWrittenFor r v tree → written env tree ≡ Ok ty → value_of (first_entries (declared_types env r)) v ≡ Some ty
    written_value tree v ty w is = first_value (declared_types env r) v ∙ declared_value env r order.declared_once v tree ty w (single_is tree v ty w is)

    pub agreed_class : (v : List ℕ) (ty declared : Ty) → IsTemplateClass s.metas s.script r v ty → value_of (first_entries (declared_types env r)) v ≡ Some declared → declared ≡ ty
    agreed_class v ty declared t found = All-contains (IsAgreed (first_entries (declared_types env r))) (template_types class r) (v, ty) typed.agreed (template_to v ty t) declared found

    template_value : (v : List ℕ) (ty : Ty) → IsTemplateClass s.metas s.script r v ty → value_of (template_types class r) v ≡ Some ty
    template_value v ty t = once_value (template_types class r) v ty
        (subst (λ (ns : List (List ℕ)). ¬ IsRepeated ns v) (sym (classes_named class (located r) typed.known ∙ located_templates r)) (order.one_template v)) (template_to v ty t)

    pub type_to : (v : List ℕ) (ty : Ty) → HasVariableType s.metas s.script env r v ty → value_of (variable_types env class r) v ≡ Some ty
    type_to v ty (HasVariableType.is_written tree w is) =
        onto_value (first_entries (declared_types env r)) (template_types class r) v ∙ ap (λ (o : Option Ty). option_or o (value_of (template_types class r) v)) (written_value tree v ty w is)
    type_to v ty (HasVariableType.template t) = onto_value (first_entries (declared_types env r)) (template_types class r) v ∙ by (value_of (first_entries (declared_types env r)) v) refl
      where
        by : (o : Option Ty) → value_of (first_entries (declared_types env r)) v ≡ o → option_or o (value_of (template_types class r) v) ≡ Some ty
        by None e = template_value v ty t
        by (Some declared) e = ap Some (agreed_class v ty declared t e)

    -- a variable that is declared has a type
    pub has_type : (v : List ℕ) → ((tree : TypeTree) × IsWrittenFor r v tree) ⊎ Contains (template_variables r) v → (ty : Ty) × HasVariableType s.metas s.script env r v ty
    has_type v (inl (tree, w)) = let (ty, single) = single_of tree v w in (ty, HasVariableType.is_written tree w (single_written env tree ty single))
    has_type v (inr c) =
        let (t, among, is) = from_map {X = Typing} {Y = List ℕ} (λ t. t.0) (template_types class r) v (subst (λ (ns : List (List ℕ)). Contains ns v) (sym (classes_named class (located r) typed.known ∙ located_templates r)) c) in
        (t.1, HasVariableType.template (template_from v t.1 (subst (λ (n : List ℕ). Contains (template_types class r) (n, t.1)) is among)))
