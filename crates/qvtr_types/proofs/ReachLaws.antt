-- The variables of a relation may be brought into reach: each has a type of the metamodels, and an object variable a class of its model's
-- metamodel.
use Rattle.std.proofs.Common.{◌≡◌, ◌≢◌, ◌<◌, inl, inr, ℕ, List, [], Bool, true, false, ◌&&◌, refl, sym, ◌∙◌, ap, subst, length, get_or, arith}
use Rattle.std.specs.Prelude.{Option, None, Some, Ok, All, IsTrue, nat_lt, ◌==◌, Contains, slice_get}
use Rattle.std.specs.List.{AllZip, position_or_len}
use Rattle.std.specs.Option.{option_map_or}
use Rattle.std.proofs.Common.{eq-eqb}
use Rattle.std.proofs.lemmas.Bool.{lt-ltb}
use Rattle.std.proofs.lemmas.Option.{same_Some, none-some, slice_get-get_or}
use Rattle.std.proofs.lemmas.List.{length-map}
use Rattle.std.proofs.lemmas.List.Elements.{All-contains}
use Rattle.mof_metamodel.specs.declared.desc.MetaDesc.{MetaDesc}
use Rattle.mof_metamodel.specs.declared.desc.ClassId.{ClassId}
use Rattle.mof_metamodel.specs.Metamodels.{class_count}
use Rattle.mof_metamodel.proofs.Facts.{first_true}
use Rattle.mof_metamodel.specs.Characters.{same_name}
use Rattle.qv_syntax.specs.declared.name.Path.{Path}
use Rattle.qv_syntax.specs.declared.type_tree.Kind.{Kind}
use Rattle.qv_syntax.specs.declared.type_tree.TypeTree.{TypeTree}
use Rattle.qv_syntax.specs.declared.ty.Ty.{Ty, out-Ty, roll-Ty, roll-out-Ty, out-roll-Ty, fold-roll-Ty}
use Rattle.qv_syntax.specs.declared.ty.Ty.TheOpen as of
use Rattle.qv_syntax.specs.declared.ty.Ty.TheVariants as types
use Rattle.qv_syntax.specs.declared.program.Var.{Var}
use Rattle.qv_syntax.specs.declared.script.BlockTree.{BlockTree}
use Rattle.qv_syntax.specs.declared.script.DomainTree.{DomainTree}
use Rattle.qv_syntax.specs.declared.script.DomainTree.TheVariants as domains
use Rattle.qv_syntax.specs.declared.script.RelationTree.{RelationTree}
use Rattle.qv_syntax.specs.Types.{AreRelated, ConformsTo}
use Rattle.ocl_environments.specs.declared.fault.TypeFault.{TypeFault}
use Rattle.ocl_environments.specs.Agreement.{collection_layer}
use Rattle.ocl_environments.specs.Environments.{Environment, meta_at, is_over, is_over_step, is_flat, is_flat_layer, is_type, class_of, slot_at, is_object_type, is_variable}
use Rattle.ocl_environments.specs.Naming.{names_of}
use Rattle.ocl_environments.specs.Outcomes.{RuleResult, and_then}
use Rattle.ocl_types.specs.TypingScopes.{flat, flat_by}
use Rattle.ocl_environments.specs.Written.{written}
use Rattle.ocl_types.proofs.DeclaredLemmas.{declared_is_type}
use Rattle.ocl_types.proofs.LayerLaws.{class_of_class, is_class}
use Rattle.std.proofs.lemmas.Bool.{and_from}
use Rattle.script_scopes.specs.ScriptNames.{model_names}
use Rattle.script_scopes.specs.Conjuncts.{clause_conjuncts}
use Rattle.script_scopes.specs.Occurrences.{WrittenProperty, relations_of, occurrences, variables_of, root_of, template_body}
use Rattle.script_scopes.specs.Occurrences.Piece.{begins}
use Rattle.script_scopes.specs.Divisions.{model_of, HasPiece}
use Rattle.script_scopes.specs.ObjectModels.{HasModel, IsArgument}
use Rattle.script_scopes.specs.Environments.{Setting, in_script, metamodel_names, slot_of, slots_of}
use Rattle.script_scopes.specs.Declarations.{HasVariableType, template_class, meta_of}
use Rattle.script_scopes.specs.Refusals.{AreInOrder}
use Rattle.script_scopes.specs.Resolutions.{IsVariable, model_number}
use Rattle.script_scopes.specs.Faults.{StandsInDeclarations}
use Rattle.qvtr_types.specs.Expressions.{HaveTypes}
use Rattle.qvtr_types.specs.RootVariables.{IsNamed}
use Rattle.qvtr_types.specs.ResolvedConjuncts.{ClauseReach}
use Rattle.qvtr_types.specs.LoneArguments.{CallsRelated}
use Rattle.qvtr_types.specs.ScriptScopes.{IsDeclared, IsSettledWith, reach_before, HasRelatedArguments}
use Rattle.script_variables.specs.SettledRelations.{HasOneType}
use Rattle.script_variables.proofs.BindingLaws.{number_at, number_had}
use Rattle.script_scopes.proofs.CallRowLaws.{number_by, among_some}
use Rattle.mof_metamodel.proofs.Facts.{contains_at}
use Rattle.qvtr_types.proofs.DomainLaws.{model_known}
use Rattle.qvtr_types.proofs.DataNameLaws.{zip_here}
use Rattle.script_variables.proofs.NameOrderLaws.{relations_once as names_once}
use Rattle.script_scopes.proofs.OnceLemmas.{new_names-distinct}
use Rattle.qvtr_types.proofs.RootLaws.{one_place}
use Rattle.script_variables.proofs.PlaceLaws.{first_below, place_is}
use Rattle.qvtr_types.proofs.TemplateLaws.{path_class_at}
use Rattle.script_variables.proofs.TypeLaws.{domain_among}
use Rattle.qvtr_types.proofs.ZipLemmas.{zip_left, zip_right}

-- ---- types

-- classes that are related are of one metamodel
class_same : (m n : ℕ) (c d : ClassId) → types.Class m c ≡ types.Class n d → m ≡ n
class_same m n c d h =
    let one : ℕ × ClassId = (m, c) in
    let other : ℕ × ClassId = (n, d) in
    ap (λ (p : ℕ × ClassId). p.0) (same_Some one other (sym (class_of_class m c) ∙ ap class_of h ∙ class_of_class n d))

conforms_meta : (metas : List MetaDesc) (m n : ℕ) (c d : ClassId) → ConformsTo metas (types.Class m c) (types.Class n d) → m ≡ n
conforms_meta metas m n c d (inl same) = class_same m n c d same
conforms_meta metas m n c d (inr sub) = class_same m sub.m c sub.class sub.first ∙ sym (class_same n sub.m d sub.super sub.second)

related_meta : (metas : List MetaDesc) (m n : ℕ) (c d : ClassId) → AreRelated metas (types.Class m c) (types.Class n d) → m ≡ n
related_meta metas m n c d (inl one) = conforms_meta metas m n c d one
related_meta metas m n c d (inr other) = sym (conforms_meta metas n m d c other)

-- a class of a metamodel is a type of a variable
class_type : (metas : List MetaDesc) (m : ℕ) (c : ClassId) → m < length metas → c.0 < class_count (meta_at metas m) → IsTrue (is_type metas (types.Class m c))
class_type metas m c in_metas in_meta =
    and_from (is_over metas (types.Class m c)) (is_flat (types.Class m c))
    (ap (is_over metas) (sym (types.rolls-Class m c)) ∙ fold-roll-Ty Bool (is_over_step metas) (of.Class m c)
    ∙ and_from (nat_lt m (length metas)) (nat_lt c.0 (class_count (meta_at metas m))) (lt-ltb m (length metas) in_metas) (lt-ltb c.0 (class_count (meta_at metas m)) in_meta))
    (flat_class m c)
  where
    flat_class : (m : ℕ) (c : ClassId) → is_flat (types.Class m c) ≡ true
    flat_class m c = ap is_flat (sym (types.rolls-Class m c)) ∙ ap is_flat_layer (out-roll-Ty (of.Class m c))

-- a type that is written and is no collection is one of a variable
flat_written : (env : Environment) (tree : TypeTree) (ty : Ty) → written env tree ≡ Ok ty → ((kind : Kind) (inner : Ty) → ty ≢ types.Coll kind inner) → IsTrue (is_type env.metas ty)
flat_written env tree ty is none = declared_is_type env tree ty (ap (λ (r : RuleResult Ty). and_then r (flat env.metas)) is ∙ by (out-Ty ty) refl)
  where
    by : (l : of.Ty-F Ty) → out-Ty ty ≡ l → flat_by env.metas ty (collection_layer l) ≡ Ok ty
    by (of.Coll kind inner) at = absurd (none kind inner (sym (roll-out-Ty ty) ∙ ap roll-Ty at ∙ types.rolls-Coll kind inner))
    by of.Str at = refl
    by of.Int at = refl
    by of.Bool at = refl
    by (of.Enum m e) at = refl
    by (of.Class m c) at = refl
    by of.Null at = refl

-- ---- one relation

module _ (s : Setting) (order : AreInOrder s.script s.target) (r : RelationTree) (among : Contains (relations_of s.script) r) (faultless : (f : TypeFault) → StandsInDeclarations s r f → ⊥) where
  -- the class of a template
  template_named : (domain : DomainTree) (at : Option WrittenProperty) (v : List ℕ) (path : Path) (model : List ℕ) → HasPiece r domain (begins at v path) → model_of domain ≡ Some model
      → (class : ClassId) × HasVariableType s.metas s.script (in_script s) r v (types.Class (meta_of s.script model) class)
  template_named domain at v path model piece of = by (template_class s.metas (metamodel_names s.script) (meta_of s.script model) (names_of path)) refl
    where
      known : Contains (model_names s.script.models) model
      known = model_known s order r among domain model (domain_among r domain (begins at v path) piece) of

      by : (o : Option ClassId) → template_class s.metas (metamodel_names s.script) (meta_of s.script model) (names_of path) ≡ o
          → (class : ClassId) × HasVariableType s.metas s.script (in_script s) r v (types.Class (meta_of s.script model) class)
      by None is = absurd (faultless _ (StandsInDeclarations.unknown_class domain at v path model piece of known is))
      by (Some class) is = (
        class,
        HasVariableType.template (record {
          domain = domain;
          at = at;
          path = path;
          model = model;
          class = class;
          piece = piece;
          of_model = of;
          known = known;
          named = is;
          is = refl;
        }),
      )

  -- a variable has a type of the metamodels
  pub type_within : (v : List ℕ) (ty : Ty) → HasVariableType s.metas s.script (in_script s) r v ty → IsTrue (is_type s.metas ty)
  type_within v ty (HasVariableType.is_written tree w is) =
      flat_written (in_script s) tree ty is (λ kind inner same. faultless _ (StandsInDeclarations.collection v tree kind inner w (is ∙ ap (λ (t : Ty). Ok t) same)))
  type_within v ty (HasVariableType.template t) =
      let at = path_class_at s.metas (meta_of s.script t.model) t.class (metamodel_names s.script) (names_of t.path) t.named in
      subst (λ (u : Ty). IsTrue (is_type s.metas u)) (sym t.is) (class_type s.metas (meta_of s.script t.model) t.class at.0 at.1)

  -- the root of a domain of a model has a class of the model's metamodel
  root_class : (place : ℕ) (domain : DomainTree) (model : List ℕ) → slice_get r.domains place ≡ Some domain → model_of domain ≡ Some model
      → (class : ClassId) × HasVariableType s.metas s.script (in_script s) r (root_of domain) (types.Class (meta_of s.script model) class)
  root_class place (domains.Pattern mark model root template span) m found of =
      template_named (domains.Pattern mark model root template span) None root.text (template_body template).class m (record { place = place; found = found; has = (0, omega arith, refl) }) of
  root_class place (domains.Primitive root ty span) m found of = absurd (none-some m of)

-- ---- types

-- the variables of a relation have types of the metamodels
pub own_types : (s : Setting) → AreInOrder s.script s.target → (r : RelationTree) (vars : List Var) → IsDeclared s r vars → HaveTypes s.metas vars
own_types s order r vars own i d l =
    let var = get_or vars i d in
    let (v, named, is) = zip_left (IsVariable s r) (variables_of r) vars i var own.are (slice_get-get_or vars i d l) in
    first_true (is_over s.metas var.ty) (is_flat var.ty) (type_within s order r own.among own.faultless v var.ty is.typed)

-- and so have the roots
pub settled_types : (s : Setting) → AreInOrder s.script s.target → (roots : List (List Var)) → AllZip (IsSettledWith s) (relations_of s.script) roots → All (HaveTypes s.metas) roots
settled_types s order roots all i d l j e m =
    let its = get_or roots i d in
    let root = get_or its j e in
    let (called, found, settled) = zip_left (IsSettledWith s) (relations_of s.script) roots i its all (slice_get-get_or roots i d l) in
    let (domain, asked, named) = zip_left (λ d root. IsNamed (variables_of called) settled.vars (root_of d) root) called.domains its j root settled.has (slice_get-get_or its j e m) in
    All-contains (λ v. IsTrue (is_over s.metas v.ty)) settled.vars root (own_types s order called settled.vars settled.declared) (contains_at settled.vars named.place root named.found)

-- ---- its variables, where the roots of all relations are known

module _ (s : Setting) (order : AreInOrder s.script s.target) (roots : List (List Var)) (all : AllZip (IsSettledWith s) (relations_of s.script) roots)
    (r : RelationTree) (vars : List Var) (own : IsDeclared s r vars) where
  abbrev reach : ClauseReach
  reach = reach_before s roots r

  module _ (related : HasRelatedArguments s r vars roots) where
    -- a variable at its place
    record IsPlaced (v : List ℕ) (var : Var) : Type 0 where
      pub named : IsNamed (variables_of r) vars v var
      pub is : IsVariable s r v var
      pub only : HasOneType s r v var

    module _ (v : List ℕ) (var : Var) (p : IsPlaced v var) (m : ℕ) (class : ClassId) (same : var.ty ≡ types.Class m class) where
      argument_meta : (clause : Option BlockTree) → All (CallsRelated reach vars) (clause_conjuncts clause) → (domain : DomainTree) (model : List ℕ) → IsArgument s.script clause v domain
          → model_of domain ≡ Some model → m ≡ meta_of s.script model
      argument_meta clause fitting domain model arg of =
          let (number, found) = among_some (relations_of s.script) arg.called arg.call.relation in
          let (its, at, settled) = zip_right (IsSettledWith s) (relations_of s.script) roots number arg.called all found in
          let (root, there, root_named) = zip_right (λ d root. IsNamed (variables_of arg.called) settled.vars (root_of d) root) arg.called.domains its arg.place domain settled.has arg.asked in
          let fits : AreRelated s.metas var.ty root.ty =
          All-contains (CallsRelated reach vars) (clause_conjuncts clause) arg.call.conjunct fitting arg.call.among arg.called.name.text arg.args arg.call.is number its
          (number_by s.script (names_once s.script s.target order) number arg.called found) at arg.place arg.arg root arg.given there var (record { v = v; alone = arg.alone; named = p.named }) in
          let (c, has) = root_class s order arg.called arg.call.relation settled.declared.faultless arg.place domain model arg.asked of in
          let class_is : types.Class (meta_of s.script model) c ≡ root.ty =
          zip_here (HasOneType s arg.called) (variables_of arg.called) settled.vars root_named.place (root_of domain) root settled.declared.one
          (number_at (variables_of arg.called) (root_of domain) root_named.place root_named.named) root_named.found (types.Class (meta_of s.script model) c) has in
          related_meta s.metas m (meta_of s.script model) class c
          (subst (λ (ty : Ty). AreRelated s.metas (types.Class m class) ty) (sym class_is) (subst (λ (ty : Ty). AreRelated s.metas ty root.ty) same fits))

      -- an object variable has a class of its model's metamodel
      model_meta : (model : List ℕ) → HasModel s.script r v model → m ≡ meta_of s.script model
      model_meta model (HasModel.template domain at path piece of) =
          let (c, has) = template_named s order r own.among own.faultless domain at v path model piece of in
          class_same m (meta_of s.script model) class c (sym same ∙ sym (p.only (types.Class (meta_of s.script model) c) has))
      model_meta model (HasModel.when_argument domain arg of) = argument_meta r.when related.whens domain model arg of
      model_meta model (HasModel.where_argument domain arg of) = argument_meta r.wheres related.wheres domain model arg of

    argument_known : (clause : Option BlockTree) (v : List ℕ) (domain : DomainTree) (model : List ℕ) → IsArgument s.script clause v domain → model_of domain ≡ Some model → Contains (model_names s.script.models) model
    argument_known clause v domain model arg of =
        let (number, found) = among_some (relations_of s.script) arg.called arg.call.relation in
        let (its, at, settled) = zip_right (IsSettledWith s) (relations_of s.script) roots number arg.called all found in
        model_known s order arg.called arg.call.relation domain model (contains_at arg.called.domains arg.place domain arg.asked) of

    model_there : (v model : List ℕ) → HasModel s.script r v model → Contains (model_names s.script.models) model
    model_there v model (HasModel.template domain at path piece of) = model_known s order r own.among domain model (domain_among r domain (begins at v path) piece) of
    model_there v model (HasModel.when_argument domain arg of) = argument_known r.when v domain model arg of
    model_there v model (HasModel.where_argument domain arg of) = argument_known r.wheres v domain model arg of

    -- the variable may be brought into reach
    variable_in : (v : List ℕ) (var : Var) → IsPlaced v var → IsTrue (is_variable (in_script s) ([], record { ty = var.ty; model = var.model }))
    variable_in v var p = by var.model refl
      where
        typed : IsTrue (is_type s.metas var.ty)
        typed = type_within s order r own.among own.faultless v var.ty p.is.typed

        object : (n : ℕ) → var.model ≡ Some n → (o : Option (ℕ × ClassId)) → class_of var.ty ≡ o → IsTrue (is_object_type (in_script s) var.ty n)
        object n at None is = absurd (none-some n (sym (p.is.data_value (λ m c same. none-some (m, c) (sym is ∙ ap class_of same ∙ class_of_class m c))) ∙ at))
        object n at (Some c) is =
            let same : var.ty ≡ types.Class c.0 c.1 = is_class var.ty c is in
            let (model, has, numbered) = p.is.object c.0 c.1 same in
            let known = model_there v model has.has in
            let n_is : n ≡ model_number s model = same_Some n (model_number s model) (sym at ∙ numbered) in
            let below = first_below model (model_names s.script.models) known in
            let place = place_is model (model_names s.script.models) known in
            let slots = length-map s.script.models (slot_of s.script) in
            let names = length-map s.script.models (λ m. m.name.text) in
            let inside : model_number s model < length (slots_of s.script) = omega (arith, below, place, slots, names) in
            subst (λ (k : ℕ). IsTrue (is_object_type (in_script s) var.ty k)) (sym n_is)
            (and_from (nat_lt (model_number s model) (length (slots_of s.script)) && option_map_or (λ d. d.0 == (slot_at (slots_of s.script) (model_number s model)).meta) (class_of var.ty) false) (is_type s.metas var.ty)
            (and_from (nat_lt (model_number s model) (length (slots_of s.script))) (option_map_or (λ d. d.0 == (slot_at (slots_of s.script) (model_number s model)).meta) (class_of var.ty) false)
            (lt-ltb (model_number s model) (length (slots_of s.script)) inside)
            (ap (λ (o : Option (ℕ × ClassId)). option_map_or (λ d. d.0 == (slot_at (slots_of s.script) (model_number s model)).meta) o false) is
            ∙ eq-eqb c.0 (meta_of s.script model) (model_meta v var p c.0 c.1 same model has.has)))
            typed)

        by : (o : Option ℕ) → var.model ≡ o → IsTrue (is_variable (in_script s) ([], record { ty = var.ty; model = o }))
        by None at = typed
        by (Some n) at = object n at (class_of var.ty) refl

    -- all of them may
    pub all_in_reach : All (λ var. IsTrue (is_variable (in_script s) ([], record { ty = var.ty; model = var.model }))) vars
    all_in_reach i d l =
        let var = get_or vars i d in
        let found : slice_get vars i ≡ Some var = slice_get-get_or vars i d l in
        let (v, named, is) = zip_left (IsVariable s r) (variables_of r) vars i var own.are found in
        let there = contains_at (variables_of r) i v named in
        let at = number_had (variables_of r) v there in
        let place : position_or_len (same_name v) (variables_of r) ≡ i =
        one_place (variables_of r) (position_or_len (same_name v) (variables_of r)) i v (new_names-distinct [] (occurrences r)) (number_at (variables_of r) v (position_or_len (same_name v) (variables_of r)) at) named in
        variable_in v var (record {
          named = record { place = i; named = at ∙ ap Some place; found = found };
          is = is;
          only = zip_here (HasOneType s r) (variables_of r) vars i v var own.one named found;
        })
