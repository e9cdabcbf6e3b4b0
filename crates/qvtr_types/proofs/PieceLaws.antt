-- Pieces of templates that are as their places ask, and faults that stand at pieces: those of the relation's items, and no others.
use Rattle.std.proofs.Common.{◌≡◌, ℕ, List, refl, sym, ap, subst, ◌∙◌, ⊎_elim, arith, true≢false, false}
use Rattle.std.specs.Prelude.{Option, Some, None, Ok, Err, Contains, IsTrue}
use Rattle.std.proofs.lemmas.Option.{same_Some, none-some, get_or_from_slice_get}
use Rattle.mof_metamodel.specs.declared.desc.MetaDesc.{MetaDesc}
use Rattle.mof_metamodel.specs.declared.desc.ClassId.{ClassId}
use Rattle.mof_metamodel.specs.declared.desc.PropId.{PropId}
use Rattle.mof_metamodel.specs.declared.desc.PropType.{PropType}
use Rattle.mof_metamodel.specs.Metamodels.{prop_number, type_of}
use Rattle.qv_syntax.specs.declared.expr.Expr.{Expr}
use Rattle.qv_syntax.specs.declared.name.Path.{Path}
use Rattle.qv_syntax.specs.declared.ty.Ty.{Ty}
use Rattle.qv_syntax.specs.declared.ty.Ty.TheVariants as types
use Rattle.qv_syntax.specs.declared.typed.Typed.{Typed}
use Rattle.qv_syntax.specs.declared.typed.Values.{Values}
use Rattle.qv_syntax.specs.declared.program.Var.{Var}
use Rattle.qv_syntax.specs.declared.script.DomainTree.{DomainTree}
use Rattle.qv_syntax.specs.declared.script.DomainTree.TheVariants as domains
use Rattle.qv_syntax.specs.declared.script.RelationTree.{RelationTree}
use Rattle.qv_syntax.specs.Types.{AreRelated}
use Rattle.qv_syntax.specs.TypeRules.{HasProperty, value_type}
use Rattle.qv_syntax.specs.TypedTrees.{Typing}
use Rattle.ocl_environments.specs.declared.fault.TypeFault.{TypeFault}
use Rattle.ocl_environments.specs.declared.fault.TypeFault.TheVariants.{UnknownName}
use Rattle.ocl_environments.specs.declared.part.TypedPart.{TypedPart}
use Rattle.ocl_environments.specs.Environments.{no_meta, meta_at, class_of}
use Rattle.ocl_types.specs.HasType.{HasType, HasTree, Stands}
use Rattle.ocl_environments.specs.Outcomes.{wrong_type}
use Rattle.ocl_types.specs.Typing.{typed}
use Rattle.ocl_types.proofs.LayerLaws.{class_of_class}
use Rattle.script_scopes.specs.ScriptNames.{model_names}
use Rattle.script_scopes.specs.Conjuncts.{is_null}
use Rattle.script_scopes.specs.Occurrences.{WrittenProperty, Piece, property_of}
use Rattle.script_scopes.specs.Occurrences.Piece.{begins, asks}
use Rattle.script_scopes.specs.Divisions.{model_of, HasPiece}
use Rattle.script_scopes.specs.Environments.{Setting, in_relation}
use Rattle.script_scopes.specs.Resolutions.{domain_reach}
use Rattle.qvtr_types.specs.Expressions.{HasTyping, StandsInGiven}
use Rattle.script_scopes.specs.Faults.{IsProperty, StandsAt, StandsInPlace, StandsInDeclarations}
use Rattle.qvtr_types.specs.PlacedFaults.{StandsInItems}
use Rattle.script_scopes.specs.ResolvedTemplates.{DomainReach, class_named}
use Rattle.qvtr_types.specs.TemplatePieces.{IsItemProperty, LacksProperty, IsValueOf, StandsInValue, StandsInNested, IsMeant, StandsAtPiece}
use Rattle.qvtr_types.proofs.InRelationLaws.{typing_expression, same_typing, none_stands}

-- ---- a property has one type

module _ (metas : List MetaDesc) (m : ℕ) (class : ClassId) where
  property_type : (prop : PropId) (gives : Values) (of : Ty) → HasProperty metas (types.Class m class) prop gives of
      → (t : PropType) × (type_of (meta_at metas m) prop.0 ≡ Some t) × (of ≡ value_type m t)
  property_type prop gives of h =
      let same : (m, class) ≡ (h.m, h.class) = same_Some (m, class) (h.m, h.class) (sym (class_of_class m class) ∙ ap class_of h.is ∙ class_of_class h.m h.class) in
      let meta : m ≡ h.m = ap (λ (c : ℕ × ClassId). c.0) same in
      let there : meta_at metas m ≡ h.has.meta = ap (meta_at metas) meta ∙ get_or_from_slice_get metas h.m h.has.meta no_meta h.has.found in
      (h.of, ap (λ d. type_of d prop.0) there ∙ h.typed, h.value ∙ ap (λ (k : ℕ). value_type k h.of) (sym meta))

  one_type : (p q : PropId) (gives given : Values) (of other : Ty) → p.0 ≡ q.0 → HasProperty metas (types.Class m class) p gives of → HasProperty metas (types.Class m class) q given other → of ≡ other
  one_type p q gives given of other same one two =
      let (t, at_t, is_t) = property_type p gives of one in
      let (u, at_u, is_u) = property_type q given other two in
      is_t ∙ ap (value_type m) (same_Some t u (sym at_t ∙ ap (type_of (meta_at metas m)) same ∙ at_u)) ∙ sym is_u

-- ---- pieces in reach of a domain

module _ (reach : DomainReach) where
  -- a piece that is meant, as the value at a property, has one
  meant_property : (piece : Piece) (at : WrittenProperty) → IsMeant reach piece → property_of piece ≡ Some at
      → (class : ClassId) × (prop : PropId) × (of : Ty) × IsItemProperty reach at class prop of
  meant_property (begins None v path) at meant is = absurd (none-some at is)
  meant_property (begins (Some a) v path) at meant is =
      (meant.class, meant.prop, meant.of, subst (λ (b : WrittenProperty). IsItemProperty reach b meant.class meant.prop meant.of) (same_Some a at is) meant.property)
  meant_property (asks None e) at meant is = absurd meant
  meant_property (asks (Some a) e) at meant is =
      (meant.class, meant.prop, meant.of, subst (λ (b : WrittenProperty). IsItemProperty reach b meant.class meant.prop meant.of) (same_Some a at is) meant.property)

  value_typing : (of : Ty) (e : Expr) → IsValueOf reach of e → (tree : Typed) × (t : Typing) × HasTyping reach.env e tree t
  value_typing of e (IsValueOf.empty tree t null has) = (tree, t, has)
  value_typing of e (IsValueOf.given tree null given) = (tree, given.typing, given.has)

  meant_typing : (at : Option WrittenProperty) (e : Expr) → IsMeant reach (asks at e) → (tree : Typed) × (t : Typing) × HasTyping reach.env e tree t
  meant_typing None e meant = absurd meant
  meant_typing (Some at) e meant = value_typing meant.of e meant.value

-- ---- pieces of a relation

-- a domain with a piece has a model
pub piece_model : (r : RelationTree) (domain : DomainTree) (piece : Piece) → HasPiece r domain piece → (model : List ℕ) × (model_of domain ≡ Some model)
piece_model r (domains.Pattern mark model root template span) piece h = (model.text, refl)
piece_model r (domains.Primitive root ty span) piece h = absurd (omega (arith, h.has.1))

module _ (s : Setting) (r : RelationTree) (vars : List Var) where
  module _ (declared : (f : TypeFault) → ¬ StandsInDeclarations s r f)
      (domain : DomainTree) (model : List ℕ) (of_model : model_of domain ≡ Some model) (known : Contains (model_names s.script.models) model) where
    abbrev reach : DomainReach
    reach = domain_reach s r vars model

    abbrev wanted : Ty → Typing
    wanted of = record { ty = of; model = Some reach.model }

    abbrev standing : (piece : Piece) (at : WrittenProperty) (class : ClassId) → HasPiece r domain piece → property_of piece ≡ Some at → class_named reach at.class ≡ Some class → StandsAt s r piece model class at.name
    standing piece at class has holder is_class = record { domain = domain; at = at; has = has; holder = holder; of_model = of_model; known = known; is_class = is_class; named = refl }

    abbrev property : (at : WrittenProperty) (class : ClassId) (prop : PropId) (of : Ty) → IsItemProperty reach at class prop of → IsProperty s model class at.name of
    property at class prop of h = record { prop = prop; gives = h.gives; found = h.number; has = h.has }

    value_stands : (at : WrittenProperty) (class : ClassId) (prop : PropId) (of : Ty) (e : Expr) (f : TypeFault) → HasPiece r domain (asks (Some at) e) → IsItemProperty reach at class prop of
        → StandsInValue reach of at.name e f → StandsInItems s r vars f
    value_stands at class prop of e f has h (StandsInValue.typing stands) = StandsInItems.typing domain (Some at) e f has stands
    value_stands at class prop of e f has h (StandsInValue.given null (StandsInGiven.typing stands)) = StandsInItems.typing domain (Some at) e f has stands
    value_stands at class prop of e f has h (StandsInValue.given null (StandsInGiven.type tree t has_t apart same)) =
        StandsInItems.value (Some at) e model class at.name of t f (standing (asks (Some at) e) at class has refl h.is_class) (property at class prop of h) null
        (typing_expression s r vars e tree t has_t) (subst (StandsInPlace s (wanted of) t at.name) (sym same) (StandsInPlace.type apart))
    value_stands at class prop of e f has h (StandsInValue.given null (StandsInGiven.model tree t m has_t is apart same)) =
        StandsInItems.value (Some at) e model class at.name of t f (standing (asks (Some at) e) at class has refl h.is_class) (property at class prop of h) null
        (typing_expression s r vars e tree t has_t) (subst (StandsInPlace s (wanted of) t at.name) (sym same) (StandsInPlace.model m is apart))

    nested_stands : (at : WrittenProperty) (class : ClassId) (prop : PropId) (of : Ty) (v : List ℕ) (path : Path) (f : TypeFault) → HasPiece r domain (begins (Some at) v path) → IsItemProperty reach at class prop of
        → StandsInNested reach of path f → StandsInItems s r vars f
    nested_stands at class prop of v path f has h (StandsInNested.unknown_class (none, is)) = absurd (declared _ (StandsInDeclarations.unknown_class domain (Some at) v path model has of_model known none))
    nested_stands at class prop of v path f has h (StandsInNested.other_class inner named apart same) =
        subst (StandsInItems s r vars) (sym same)
        (StandsInItems.nested (Some at) v path model class inner at.name of (standing (begins (Some at) v path) at class has refl h.is_class) (property at class prop of h) named apart)

    -- a fault at a piece stands in the relation's items
    pub piece_stands : (piece : Piece) (f : TypeFault) → HasPiece r domain piece → StandsAtPiece reach piece f → StandsInItems s r vars f
    piece_stands _ _ has (StandsAtPiece.outer v path f (none, is)) = absurd (declared _ (StandsInDeclarations.unknown_class domain None v path model has of_model known none))
    piece_stands _ _ has (StandsAtPiece.property piece at f holder h) =
        subst (StandsInItems s r vars) (sym h.is) (StandsInItems.unknown_property piece model h.class at.name (standing piece at h.class has holder h.is_class) h.lacks)
    piece_stands _ _ has (StandsAtPiece.nested at class prop of v path f h stands) = nested_stands at class prop of v path f has h stands
    piece_stands _ _ has (StandsAtPiece.expression at class prop of e f h stands) = value_stands at class prop of e f has h stands

  -- ---- where each piece is as its place asks, no fault stands in an item

  module _ (one : (e : Expr) (p q : TypedPart) → HasType (in_relation s r vars) e p → HasType (in_relation s r vars) e q → p ≡ q)
      (only : (e : Expr) (t : Typed) → HasTree (in_relation s r vars) e t → typed (in_relation s r vars) e ≡ Ok t)
      (fails : (e : Expr) (f : TypeFault) → Stands (in_relation s r vars) e f → (g : TypeFault) × (typed (in_relation s r vars) e ≡ Err g))
      (meant : (domain : DomainTree) (model : List ℕ) (piece : Piece) → HasPiece r domain piece → model_of domain ≡ Some model → IsMeant (domain_reach s r vars model) piece) where
    -- the property of a piece that stands at one
    module _ (piece : Piece) (model : List ℕ) (class : ClassId) (name : List ℕ) (here : StandsAt s r piece model class name) where
      abbrev reach_here : DomainReach
      reach_here = domain_reach s r vars model

      there : IsMeant reach_here piece
      there = meant here.domain model piece here.has here.of_model

      property_there : (prop : PropId) × (of : Ty) × IsItemProperty reach_here here.at class prop of
      property_there =
          let (c, prop, of, h) = meant_property reach_here piece here.at there here.holder in
          let same : c ≡ class = same_Some c class (sym h.is_class ∙ here.is_class) in
          (prop, of, subst (λ (d : ClassId). IsItemProperty reach_here here.at d prop of) same h)

      no_unknown : prop_number (meta_at s.metas reach_here.meta) class.0 name ≡ None → ⊥
      no_unknown none =
          let (prop, of, h) = property_there in
          none-some prop.0 (sym none ∙ ap (prop_number (meta_at s.metas reach_here.meta) class.0) (sym here.named) ∙ h.number)

      -- of the property at which it stands
      same_property : (of : Ty) → IsProperty s model class name of → (c : ClassId) (prop : PropId) (other : Ty) → IsItemProperty reach_here here.at c prop other → other ≡ of
      same_property of p c prop other h =
          let same : c ≡ class = same_Some c class (sym h.is_class ∙ here.is_class) in
          let k : IsItemProperty reach_here here.at class prop other = subst (λ (d : ClassId). IsItemProperty reach_here here.at d prop other) same h in
          one_type s.metas reach_here.meta class prop p.prop k.gives p.gives other of
          (same_Some prop.0 p.prop.0 (sym k.number ∙ ap (prop_number (meta_at s.metas reach_here.meta) class.0) here.named ∙ p.found)) k.has p.has

    given_fits : (model : List ℕ) (of : Ty) (e : Expr) (given : Typing) (name : List ℕ) (f : TypeFault) → IsValueOf (domain_reach s r vars model) of e → is_null e ≡ false
        → ((tree : Typed) (t : Typing) → HasTyping (in_relation s r vars) e tree t → given ≡ t)
        → StandsInPlace s (record { ty = of; model = Some (domain_reach s r vars model).model }) given name f → ⊥
    given_fits model of e given name f (IsValueOf.empty tree t null has) not_null same stands = true≢false (sym null ∙ not_null)
    given_fits model of e given name _ (IsValueOf.given tree null g) not_null same (StandsInPlace.type apart) =
        apart (subst (λ (t : Typing). AreRelated s.metas t.ty of) (sym (same tree g.typing g.has)) g.fits.related)
    given_fits model of e given name _ (IsValueOf.given tree null g) not_null same (StandsInPlace.model m is apart) =
        let at : g.typing.model ≡ Some m = ap (λ (t : Typing). t.model) (sym (same tree g.typing g.has)) ∙ is in
        ⊎_elim (λ none. none-some m (sym none ∙ at)) (λ one_model. apart (sym one_model ∙ at)) g.fits.model

    value_faultless : (at : Option WrittenProperty) (e : Expr) (model : List ℕ) (class : ClassId) (name : List ℕ) (of : Ty) (here : StandsAt s r (asks at e) model class name)
        → IsMeant (domain_reach s r vars model) (asks at e) → IsProperty s model class name of → IsValueOf (domain_reach s r vars model) of e
    value_faultless None e model class name of here there p = absurd there
    value_faultless (Some at) e model class name of here there p =
        subst (λ (t : Ty). IsValueOf (domain_reach s r vars model) t e)
        (same_property (asks (Some at) e) model class name here of p there.class there.prop there.of
        (subst (λ (a : WrittenProperty). IsItemProperty (domain_reach s r vars model) a there.class there.prop there.of) (same_Some at here.at here.holder) there.property))
        there.value

    nested_faultless : (at : Option WrittenProperty) (v : List ℕ) (path : Path) (model : List ℕ) (class inner : ClassId) (name : List ℕ) (of : Ty) (here : StandsAt s r (begins at v path) model class name)
        → IsMeant (domain_reach s r vars model) (begins at v path) → IsProperty s model class name of → class_named (domain_reach s r vars model) path ≡ Some inner
        → AreRelated s.metas (types.Class (domain_reach s r vars model).meta inner) of
    nested_faultless None v path model class inner name of here there p is = absurd (none-some here.at here.holder)
    nested_faultless (Some at) v path model class inner name of here there p is =
        let same_type : there.of ≡ of = same_property (begins (Some at) v path) model class name here of p there.class there.prop there.of
        (subst (λ (a : WrittenProperty). IsItemProperty (domain_reach s r vars model) a there.class there.prop there.of) (same_Some at here.at here.holder) there.property) in
        let same_class : there.inner ≡ inner = same_Some there.inner inner (sym there.nested.is_class ∙ is) in
        subst (λ (c : ClassId). AreRelated s.metas (types.Class (domain_reach s r vars model).meta c) of) same_class
        (subst (λ (t : Ty). AreRelated s.metas (types.Class (domain_reach s r vars model).meta there.inner) t) same_type there.nested.related)

    pub items_faultless : (f : TypeFault) → StandsInItems s r vars f → ⊥
    items_faultless _ (StandsInItems.typing domain at e f piece stands) =
        let (model, of_model) = piece_model r domain (asks at e) piece in
        let (tree, t, has) = meant_typing (domain_reach s r vars model) at e (meant domain model (asks at e) piece of_model) in
        none_stands (in_relation s r vars) only fails e tree t f has stands
    items_faultless _ (StandsInItems.unknown_property piece model class name here none) = no_unknown piece model class name here none
    items_faultless _ (StandsInItems.value at e model class name of given f here p null expr stands) =
        given_fits model of e given name f (value_faultless at e model class name of here (there (asks at e) model class name here) p) null
        (λ tree t has. same_typing s r vars one e tree t given has expr) stands
    items_faultless _ (StandsInItems.nested at v path model class inner name of here p is apart) =
        apart (nested_faultless at v path model class inner name of here (there (begins at v path) model class name here) p is)
