-- Two programs to which a script without a fault resolves are one (QVT 1.3, section 7.11), over well metamodels.
use Rattle.std.proofs.Common.{◌≡◌, ℕ, List, sym, ◌∙◌, subst}
use Rattle.std.specs.Prelude.{Some, Contains, IsTrue}
use Rattle.std.specs.List.{AllZip}
use Rattle.std.proofs.lemmas.Option.{same_Some}
use Rattle.mof_metamodel.specs.declared.desc.ClassId.{ClassId}
use Rattle.mof_metamodel.specs.declared.desc.MetaDesc.{MetaDesc}
use Rattle.mof_metamodel.specs.declared.desc.PropId.{PropId}
use Rattle.mof_metamodel.proofs.Facts.{first_true}
use Rattle.qv_syntax.specs.declared.name.Name.{Name}
use Rattle.qv_syntax.specs.declared.program.Key.{Key}
use Rattle.qv_syntax.specs.declared.program.Program.{Program}
use Rattle.qv_syntax.specs.declared.program.Rel.{Rel}
use Rattle.qv_syntax.specs.declared.program.Var.{Var}
use Rattle.qv_syntax.specs.declared.query.Query.{Query}
use Rattle.qv_syntax.specs.declared.script.KeyTree.{KeyTree}
use Rattle.qv_syntax.specs.declared.script.RelationTree.{RelationTree}
use Rattle.qv_syntax.specs.declared.script.Script.{Script}
use Rattle.ocl_environments.specs.declared.fault.TypeFault.{TypeFault}
use Rattle.ocl_environments.specs.Environments.{Environment, AreWell, is_over, is_flat}
use Rattle.ocl_types.proofs.TypedParts.{IsReady}
use Rattle.script_scopes.specs.ScriptNames.{model_names}
use Rattle.script_scopes.specs.Occurrences.{relations_of}
use Rattle.script_scopes.specs.Declarations.{keys_of, key_property}
use Rattle.script_scopes.specs.Environments.{Setting, in_script}
use Rattle.script_scopes.specs.Keys.{IsKey}
use Rattle.script_scopes.specs.Resolutions.{IsVariable, IsRelation, IsProgramOf, IsResolution}
use Rattle.script_scopes.specs.Faults.{HasQueries, StandsInScript}
use Rattle.mof_metamodel.proofs.Facts.{contains_at}
use Rattle.script_variables.proofs.VariableLaws.{zip_one}
use Rattle.qvtr_types.specs.ResolvedScripts.{setting_of, IsFaultOf}
use Rattle.qvtr_types.proofs.DataNameLaws.{zip_here}
use Rattle.qvtr_types.proofs.ReachLaws.{type_within}
use Rattle.qvtr_types.proofs.ZipLemmas.{zip_left, zip_length}
use Rattle.qvtr_types.proofs.well_formed.Apart.{models_apart}
use Rattle.qvtr_types.proofs.well_formed.Numbers.{one_place}
use Rattle.qvtr_types.proofs.one_program.Lists.{by_place}
use Rattle.qvtr_types.proofs.one_program.Relations.{one_relation}
use Rattle.qvtr_types.proofs.one_program.Queries.{one_queries, script_ready, one_tree}
use Rattle.qvtr_types.proofs.one_program.Faultless.{none_declared, script_in_order, one_variables}

one_key : (env : Environment) (tree : KeyTree) (a b : Key) → IsKey env tree a → IsKey env tree b → a ≡ b
one_key env tree a b one other =
    let first : ℕ × ClassId = (a.meta, a.class) in
    let second : ℕ × ClassId = (b.meta, b.class) in
    let same : first ≡ second = same_Some first second (sym one.class ∙ other.class) in
    let props : a.props ≡ b.props = zip_one (λ (name : Name) (prop : PropId). key_property env first name.text ≡ Some prop.0)
    (λ name x y is its. λ i. record { 0 = same_Some x.0 y.0 (sym is ∙ its) i }) tree.props a.props b.props one.props
    (subst (λ (c : ℕ × ClassId). AllZip (λ (name : Name) (prop : PropId). key_property env c name.text ≡ Some prop.0) tree.props b.props) (sym same) other.props) in
    λ i. record { meta = (same i).0; class = (same i).1; props = props i }

-- over one list of queries
module _ (s : Setting) (ready : IsReady (in_script s)) (none : (f : TypeFault) → StandsInScript s f → ⊥) where
  over : (r : RelationTree) → Contains (relations_of s.script) r → (name : List ℕ) (var : Var) → IsVariable s r name var → IsTrue (is_over s.metas var.ty)
  over r among name var is =
      first_true (is_over s.metas var.ty) (is_flat var.ty) (type_within s (script_in_order s none) r among (none_declared s none r among) name var.ty is.typed)

  one_rel : (r : RelationTree) → Contains (relations_of s.script) r → (a b : Rel) → IsRelation s r a → IsRelation s r b → a ≡ b
  one_rel r among a b one other =
      one_relation s r (one_variables s none r among) (λ vars are. one_tree s ready r vars are (over r among)) a b one other

  rels_one : (xs ys : List Rel) → AllZip (IsRelation s) (relations_of s.script) xs → AllZip (IsRelation s) (relations_of s.script) ys → xs ≡ ys
  rels_one xs ys one other =
      by_place xs ys (sym (zip_length (IsRelation s) (relations_of s.script) xs one) ∙ zip_length (IsRelation s) (relations_of s.script) ys other) (λ i a b at there.
      let (r, found, is) = zip_left (IsRelation s) (relations_of s.script) xs i a one at in
      one_rel r (contains_at (relations_of s.script) i r found) a b is (zip_here (IsRelation s) (relations_of s.script) ys i r b other found there))

  one_program : (p q : Program) → IsProgramOf s p → IsProgramOf s q → p ≡ q
  one_program p q one other =
      let name : p.name ≡ q.name = one.named ∙ sym other.named in
      let models : p.models ≡ q.models = one.models ∙ sym other.models in
      let target : p.target ≡ q.target = one_place (model_names s.script.models) (models_apart s none) p.target q.target s.target one.aimed other.aimed in
      let keys : p.keys ≡ q.keys = zip_one (IsKey (in_script s)) (one_key (in_script s)) (keys_of s.script) p.keys q.keys one.keys.each other.keys.each in
      let rels : p.rels ≡ q.rels = rels_one p.rels q.rels one.rels other.rels in
      let queries : p.queries ≡ q.queries = one.queries ∙ sym other.queries in
      λ i. record { name = name i; models = models i; target = target i; keys = keys i; rels = rels i; queries = queries i }

module _ (metas : List MetaDesc) (script : Script) (target : List ℕ) (well : AreWell metas) (none : (f : TypeFault) → IsFaultOf metas script target f → ⊥) where
  -- a fault that stands over the queries of the script is one of the script
  none_stands : (queries : List Query) → HasQueries (setting_of metas script target queries) → (f : TypeFault) → StandsInScript (setting_of metas script target queries) f → ⊥
  none_stands queries has f stands = none f (record {
    queries = queries;
    settled = λ typed other. one_queries metas script target well queries typed has other;
    stands = stands;
  })

  pub programs_are_one : (p q : Program) → IsResolution (setting_of metas script target p.queries) p → IsResolution (setting_of metas script target q.queries) q → p ≡ q
  programs_are_one p q one other =
      let has : HasQueries (setting_of metas script target p.queries) = one.program_of.typed_queries in
      let queries : p.queries ≡ q.queries = one_queries metas script target well p.queries q.queries has other.program_of.typed_queries in
      one_program (setting_of metas script target p.queries) (script_ready metas script target well p.queries has) (none_stands p.queries has) p q one.program_of
      (subst (λ (qs : List Query). IsProgramOf (setting_of metas script target qs) q) (sym queries) other.program_of)
