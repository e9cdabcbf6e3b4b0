-- What is refused of the types of a relation's variables are faults that stand, and where nothing is, none of these stands.
use Rattle.std.proofs.Common.{◌≡◌, ◌≢◌, ℕ, List, refl, sym, ◌∙◌, ap, subst}
use Rattle.std.specs.Prelude.{Option, Some, None, Ok, Err, Contains, IsTrue, is_some}
use Rattle.std.specs.Option.{option_map}
use Rattle.std.proofs.lemmas.Bool.{false≢true}
use Rattle.std.proofs.lemmas.Option.{none-some}
use Rattle.std.proofs.lemmas.List.Elements.{All-contains}
use Rattle.mof_metamodel.specs.declared.desc.ClassId.{ClassId}
use Rattle.mof_metamodel.specs.NameTables.{NamesWith}
use Rattle.qv_syntax.specs.declared.name.Path.{Path}
use Rattle.qv_syntax.specs.declared.type_tree.Kind.{Kind}
use Rattle.qv_syntax.specs.declared.type_tree.TypeTree.{TypeTree}
use Rattle.qv_syntax.specs.declared.ty.Ty.{Ty}
use Rattle.qv_syntax.specs.declared.ty.Ty.TheVariants as types
use Rattle.qv_syntax.specs.declared.script.DomainTree.{DomainTree}
use Rattle.qv_syntax.specs.declared.script.RelationTree.{RelationTree}
use Rattle.ocl_environments.specs.declared.fault.TypeFault.{TypeFault}
use Rattle.ocl_environments.specs.Environments.{Environment}
use Rattle.ocl_environments.specs.Naming.{names_of}
use Rattle.ocl_environments.specs.Written.{written}
use Rattle.ocl_environments.specs.Outcomes.{RuleResult, and_then, wrong_type}
use Rattle.ocl_environments.specs.Agreement.{collection_parts}
use Rattle.ocl_types.specs.TypingScopes.{element, no_collection}
use Rattle.ocl_types.proofs.JudgedLaws.{ok_ok, ok_err, err_err}
use Rattle.ocl_types.proofs.LayerLaws.{is_collection}
use Rattle.script_scopes.specs.declared.template_classes.ModelNames.{ModelNames}
use Rattle.script_scopes.specs.ScriptNames.{model_names}
use Rattle.script_scopes.specs.Occurrences.{WrittenProperty, Piece}
use Rattle.script_scopes.specs.Occurrences.Piece.{begins, asks}
use Rattle.script_scopes.specs.Divisions.{model_of, HasPiece}
use Rattle.script_scopes.specs.Environments.{Setting, in_script, metamodel_names, slots_of}
use Rattle.script_scopes.specs.Declarations.{IsWrittenFor, IsTemplateClass, template_class, meta_of}
use Rattle.script_scopes.specs.Faults.{StandsInDeclarations}
use Rattle.script_scopes.specs.Refusals.{HasNamesInOrder}
use Rattle.script_scopes.specs.LocatedPieces.{located}
use Rattle.script_scopes.specs.FirstEntries.{first_entries}
use Rattle.script_scopes.specs.VariableTypes.{single_type, HasClass, LacksClass, metamodel_numbers, class_in, Classes, declared_types, AreTyped, StandsInTypes}
use Rattle.script_variables.proofs.FirstEntryLemmas.{first_value, value_among}
use Rattle.script_variables.proofs.LocatedLaws.{located_piece, piece_located}
use Rattle.script_variables.proofs.WrittenTypeLaws.{written_from}
use Rattle.script_variables.proofs.TypeLaws.{single_written, single_single, single_of, declared_from, model_known, class_known, template_from, written_value, agreed_class}

module _ (s : Setting) (r : RelationTree) where
  abbrev env : Environment
  env = in_script s

  collection_stands : (v : List ℕ) (tree : TypeTree) (ty : Ty) (f : TypeFault) → IsWrittenFor r v tree → written env tree ≡ Ok ty → element env.metas ty ≡ Err f → StandsInDeclarations s r f
  collection_stands v tree ty f w is h = by (collection_parts ty) refl h
    where
      by : (o : Option (Kind × Ty)) → collection_parts ty ≡ o → no_collection env.metas ty o ≡ Err f → StandsInDeclarations s r f
      by None at g = absurd (ok_err {X = Ty} (Ok ty) ty f refl g)
      by (Some (kind, inner)) at g =
          let same : ty ≡ types.Coll kind inner = is_collection ty (kind, inner) at in
          subst (StandsInDeclarations s r) (ap (wrong_type env.metas inner) (sym same) ∙ err_err {X = Ty} (Err (wrong_type env.metas inner ty)) (wrong_type env.metas inner ty) f refl g)
          (StandsInDeclarations.collection v tree kind inner w (is ∙ ap (λ (t : Ty). Ok t) same))

  written_stands : (v : List ℕ) (tree : TypeTree) (f : TypeFault) → IsWrittenFor r v tree → single_type env tree ≡ Err f → StandsInDeclarations s r f
  written_stands v tree f w h = by (written env tree) refl h
    where
      by : (o : RuleResult Ty) → written env tree ≡ o → and_then o (element env.metas) ≡ Err f → StandsInDeclarations s r f
      by (Ok ty) e g = collection_stands v tree ty f w e g
      by (Err k) e g = StandsInDeclarations.unknown_type v tree f w (e ∙ g)

module _ (s : Setting) (r : RelationTree) (names : ModelNames) (models : names.models ≡ first_entries (metamodel_numbers (slots_of s.script))) (metas : names.metas ≡ metamodel_names s.script)
    (order : HasNamesInOrder (model_names s.script.models) r) where
  abbrev class : Classes
  class = class_in s.metas names

  abbrev declared : NamesWith Ty
  declared = first_entries (declared_types (in_script s) r)

  abbrev in_meta : List ℕ → Path → Option ClassId
  in_meta model path = template_class s.metas (metamodel_names s.script) (meta_of s.script model) (names_of path)

  not_mapped : (m : ℕ) (o : Option ClassId) → option_map {U = ℕ × ClassId} (λ (c : ClassId). (m, c)) o ≡ None → o ≡ None
  not_mapped m None h = refl
  not_mapped m (Some c) h = absurd (none-some (m, c) (sym h))

  class_stands : (p : List ℕ × Piece) (f : TypeFault) → Contains (located r) p → LacksClass class p f → StandsInDeclarations s r f
  class_stands (model, begins at v path) f among lacks =
      let (domain, piece, of) = located_piece model (begins at v path) r among in
      let known = model_known s r names models metas order domain (begins at v path) model piece of in
      subst (StandsInDeclarations s r) (sym lacks.1)
      (StandsInDeclarations.unknown_class domain at v path model piece of known
      (not_mapped (meta_of s.script model) (in_meta model path) (sym (class_known s r names models metas order model path known) ∙ lacks.0)))
  class_stands (model, asks at e) f among lacks = absurd lacks

  pub types_stand : (f : TypeFault) → StandsInTypes (in_script s) class r f → StandsInDeclarations s r f
  types_stand f (StandsInTypes.wrong_written h) = written_stands s r h.name h.tree f (written_from r h.name h.tree h.among) h.is
  types_stand f (StandsInTypes.no_class h) = class_stands h.piece f h.among h.lacks
  types_stand f (StandsInTypes.other_class h) =
      let (ty, found, apart, is) = h.other in
      let (tree, w, single) = declared_from (in_script s) r h.typing.0 ty (value_among (declared_types (in_script s) r) h.typing.0 ty (sym (first_value (declared_types (in_script s) r) h.typing.0) ∙ found)) in
      subst (StandsInDeclarations s r) (sym is)
      (StandsInDeclarations.other_class h.typing.0 tree ty h.typing.1 w (single_written (in_script s) tree ty single) (template_from s r names models metas order h.typing.0 h.typing.1 h.among) apart)

  -- ---- none stands

  module _ (typed : AreTyped (in_script s) class r) where
    pub no_unknown_type : (v : List ℕ) (tree : TypeTree) (f : TypeFault) → IsWrittenFor r v tree → written (in_script s) tree ≡ Err f → ⊥
    no_unknown_type v tree f w is =
        let (ty, single) = single_of s r names models metas order typed tree v w in
        ok_err (written (in_script s) tree) ty f (single_written (in_script s) tree ty single) is

    pub no_written_collection : (v : List ℕ) (tree : TypeTree) (kind : Kind) (inner : Ty) → IsWrittenFor r v tree → written (in_script s) tree ≡ Ok (types.Coll kind inner) → ⊥
    no_written_collection v tree kind inner w is =
        let (ty, single) = single_of s r names models metas order typed tree v w in
        single_single (in_script s) tree ty kind inner single (ok_ok (written (in_script s) tree) ty (types.Coll kind inner) (single_written (in_script s) tree ty single) is)

    pub no_unknown_class : (domain : DomainTree) (at : Option WrittenProperty) (v : List ℕ) (path : Path) (model : List ℕ) → HasPiece r domain (begins at v path) → model_of domain ≡ Some model
        → Contains (model_names s.script.models) model → in_meta model path ≡ None → ⊥
    no_unknown_class domain at v path model piece of known none =
        let has : IsTrue (is_some (class model path)) = All-contains (HasClass class) (located r) (model, begins at v path) typed.known (piece_located model (begins at v path) r domain piece of) in
        false≢true (sym (ap (λ (o : Option (ℕ × ClassId)). is_some o) (class_known s r names models metas order model path known ∙ ap (λ (o : Option ClassId). option_map (λ (c : ClassId). (meta_of s.script model, c)) o) none)) ∙ has)

    pub no_other_class : (v : List ℕ) (tree : TypeTree) (ty other : Ty) → IsWrittenFor r v tree → written (in_script s) tree ≡ Ok ty → IsTemplateClass s.metas s.script r v other → ty ≢ other → ⊥
    no_other_class v tree ty other w is t apart =
        apart (agreed_class s r names models metas order typed v other ty t (written_value s r names models metas order typed tree v ty w is))
