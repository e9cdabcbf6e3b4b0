-- What operators, `if`, collection literals, `let`, queries and extents make of typed parts is typed (OCL 2.4, chapters 7, 8 and 11).
use Rattle.std.proofs.Common.{◌≡◌, ℕ, Bool, true, false, List, [], ◌∷◌, Option, None, Some, map, length, refl, sym, ap, ◌∙◌, subst, ◌⊎◌, inl, inr, append_assoc, append-nil, arith, if◌then◌else◌}
use Rattle.std.specs.Prelude.{IsTrue, Contains}
use Rattle.mof_metamodel.specs.declared.desc.MetaDesc.{MetaDesc}
use Rattle.mof_metamodel.proofs.TableLemmas.{map-map}
use Rattle.qv_syntax.specs.declared.name.Path.{Path}
use Rattle.qv_syntax.specs.declared.operator.Operator.{Operator}
use Rattle.qv_syntax.specs.declared.operator.Operator.TheVariants as operators
use Rattle.qv_syntax.specs.declared.ty.Ty.{Ty}
use Rattle.qv_syntax.specs.declared.ty.Ty.TheVariants as types
use Rattle.qv_syntax.specs.declared.type_tree.Kind.{Kind}
use Rattle.qv_syntax.specs.declared.type_tree.Kind.TheVariants as kinds
use Rattle.qv_syntax.specs.declared.type_tree.TypeTree.{TypeTree}
use Rattle.qv_syntax.specs.declared.typed.Node.TheVariants as nodes
use Rattle.qv_syntax.specs.declared.typed.TypedInfix.{TypedInfix}
use Rattle.qv_syntax.specs.Types.{AllConform, IsOneModel, IsTopOf}
use Rattle.qv_syntax.specs.TypeRules.{Operated, Branches, Elements}
use Rattle.qv_syntax.specs.TypedTrees as trees
use Rattle.qv_syntax.specs.TypedTrees.{Typing, IsTyped, AreTyped, IsChained}
use Rattle.ocl_environments.specs.declared.part.TypedPart.{TypedPart}
use Rattle.ocl_environments.specs.declared.part.Chained.{Chained}
use Rattle.ocl_environments.specs.declared.variable.Variable.{Variable}
use Rattle.ocl_environments.specs.declared.variable.Signature.{Signature}
use Rattle.ocl_environments.specs.Environments.{is_over, Environment, with_variable, only_model}
use Rattle.ocl_environments.specs.Naming.{names_of}
use Rattle.ocl_environments.specs.Classifiers.{named_class}
use Rattle.ocl_environments.specs.Agreement.{has_objects, model_for}
use Rattle.ocl_environments.specs.Parts.{tree_of, trees_of, types_of}
use Rattle.ocl_types.specs.Judged.{Judged}
use Rattle.ocl_types.specs.TypingScopes.{let_part}
use Rattle.ocl_types.specs.TypingOperators.{unchained, chain_part}
use Rattle.ocl_types.specs.TypeRules.{operator_judged, linked_judged, not_judged, negated_judged, if_judged, collection_judged, let_judged, bound_judged, arguments_judged, query_judged, extent_judged}
use Rattle.ocl_types.specs.TypedContext.{AreOver, context_of, variables_of, typing_of, query_type}
use Rattle.ocl_types.proofs.LayerLaws.{objects_of_class, objects_of_collection, objects_of_null, kept_again, none_kept, kept_alike}
use Rattle.ocl_types.proofs.ConformanceLaws.{first_in, later_in, in_either, alike}
use Rattle.mof_metamodel.proofs.Facts.{nothing_in}
use Rattle.ocl_types.proofs.ClassifierLaws.{class_there}
use Rattle.ocl_types.proofs.WrittenLaws.{declared_written}
use Rattle.ocl_types.proofs.RangeLaws.{written_over, each_over, operated_over}
use Rattle.ocl_types.proofs.RelationLaws.{models_alike}
use Rattle.ocl_types.proofs.NumberLaws.{mapped_there, only_model_is}
use Rattle.ocl_types.proofs.TypedParts.{IsReady, IsPart, AllKept, AreParts, IsLinkedTo, part_over, typed_with, count_of, finds_has}

-- ---- lists of parts

pub no_parts : (env : Environment) → AreParts env []
no_parts env = record { typed = AreTyped.none (variables_of env); kept = tt }

pub part_more : (env : Environment) (p : TypedPart) (ps : List TypedPart) → IsPart env p → AreParts env ps → AreParts env (p ∷ ps)
part_more env p ps one rest = record { typed = AreTyped.one_more (variables_of env) (tree_of p) (trees_of ps) (typing_of p) (map typing_of ps) one.typed rest.typed; kept = (one.kept, rest.kept) }

pub same_types : (ps : List TypedPart) → trees.types_of (map typing_of ps) ≡ types_of ps
same_types ps = map-map (λ (t : Typing). t.ty) typing_of ps

-- the types of parts are of the metamodels
pub parts_over : (env : Environment) → IsReady env → (ps : List TypedPart) → AreParts env ps → AreOver env.metas (types_of ps)
parts_over env ready ps parts = subst (AreOver env.metas) (same_types ps)
    (each_over (context_of env) ready.results (variables_of env) (trees_of ps) (map typing_of ps) ready.over parts.typed)

-- ---- operators

operator_gives : (metas : List MetaDesc) (operator : Operator) (a b t : Ty) → (operator_judged metas operator a b).has t → Operated metas operator a b t
operator_gives metas operators.Implies a b t is = (is.0, is.1.0, is.1.1)
operator_gives metas operators.Xor a b t is = (is.0, is.1.0, is.1.1)
operator_gives metas operators.Or a b t is = (is.0, is.1.0, is.1.1)
operator_gives metas operators.And a b t is = (is.0, is.1.0, is.1.1)
operator_gives metas operators.Equal a b t is = is
operator_gives metas operators.NotEqual a b t is = is
operator_gives metas operators.Less a b t is = (is.0, is.1.0, is.1.1)
operator_gives metas operators.Greater a b t is = (is.0, is.1.0, is.1.1)
operator_gives metas operators.AtMost a b t is = (is.0, is.1.0, is.1.1)
operator_gives metas operators.AtLeast a b t is = (is.0, is.1.0, is.1.1)
operator_gives metas operators.Plus a b t is = is
operator_gives metas operators.Minus a b t is = (is.0, is.1.0, is.1.1)
operator_gives metas operators.Times a b t is = (is.0, is.1.0, is.1.1)

-- nothing is linked yet
pub unlinked : (env : Environment) (ready : IsReady env) (p : TypedPart) → IsPart env p → IsLinkedTo env p.ty (unchained p)
unlinked env ready p part = record { extends = λ rest last more. more; over = part_over env ready p part }

-- one operator more, and the part behind it
pub linked_typed : (env : Environment) (ready : IsReady env) (first : Ty) (c d : Chained) (operator : Operator) (right : TypedPart)
    → IsLinkedTo env first c → IsPart env right → (linked_judged env.metas c operator right).has d → IsLinkedTo env first d
linked_typed env ready first c d operator right before part is =
    let t : Ty = is.0 in
    let goes : Operated env.metas operator c.ty right.ty t = operator_gives env.metas operator c.ty right.ty t is.1 in
    let link : TypedInfix = record { operator = operator; right = tree_of right; ty = t } in
    subst (IsLinkedTo env first) (sym is.2) (record {
      extends = λ rest last more.
          let behind : IsChained (context_of env) (variables_of env) c.ty (link ∷ rest) last =
          IsChained.operator (variables_of env) c.ty operator (tree_of right) (typing_of right) t rest last part.typed goes more in
          subst (λ links. IsChained (context_of env) (variables_of env) first links last) (sym (append_assoc c.links (link ∷ []) rest)) (before.extends (link ∷ rest) last behind);
      over = operated_over env.metas operator c.ty right.ty t goes;
    })

pub chain_typed : (env : Environment) (p : TypedPart) (c : Chained) → IsPart env p → IsLinkedTo env p.ty c → IsPart env (chain_part p c)
unfolding chain_part
chain_typed env p c part links = record {
  typed = IsTyped.chain (variables_of env) (tree_of p) c.links (typing_of p) c.ty part.typed
      (subst (λ ls. IsChained (context_of env) (variables_of env) p.ty ls c.ty) (append-nil c.links) (links.extends [] c.ty (IsChained.no_more (variables_of env) c.ty)));
  kept = kept_again c.ty p.model;
}

pub not_typed : (env : Environment) (p q : TypedPart) → IsPart env p → (not_judged env.metas p).has q → IsPart env q
not_typed env p q part is = subst (IsPart env) (sym is.1)
    (record { typed = IsTyped.negation (variables_of env) (tree_of p) (typing_of p) part.typed is.0; kept = none_kept types.Bool })

pub negated_typed : (env : Environment) (p q : TypedPart) → IsPart env p → (negated_judged env.metas p).has q → IsPart env q
negated_typed env p q part is = subst (IsPart env) (sym is.1)
    (record { typed = IsTyped.negated (variables_of env) (tree_of p) (typing_of p) part.typed is.0; kept = none_kept types.Int })

-- ---- if

-- a type to which others conform has objects where they have
top_alike : (metas : List MetaDesc) (tys : List Ty) (top ty : Ty) → IsTopOf metas tys top → Contains tys ty → has_objects ty ≡ has_objects top
top_alike metas tys top ty is among = alike metas ty top (is.above ty among)

no_objects : (a : Ty) (model : Option ℕ) → a ≡ types.Null → model_for a model ≡ model → model ≡ None
no_objects a model null kept = sym kept ∙ ap (λ t. if has_objects t then model else None) null ∙ ap (λ b. if b then model else None) objects_of_null

some_kept : (a : Ty) (x : ℕ) (model : Option ℕ) → model ≡ Some x → model_for a model ≡ model → has_objects a ≡ true
some_kept a x model is kept = by (has_objects a) refl (subst (λ m. model_for a m ≡ m) is kept)
  where
    by : (b : Bool) → has_objects a ≡ b → (if b then Some x else None) ≡ Some x → has_objects a ≡ true
    by true at is = at
    by false at is = absurd (cc)

-- where each place with a model has a type of objects, and types are alike with the whole, the model is kept
kept_from : (ty : Ty) (model : Option ℕ) → ((x : ℕ) → model ≡ Some x → has_objects ty ≡ true) → model_for ty model ≡ model
kept_from ty None has = none_kept ty
kept_from ty (Some x) has = ap (λ b. if b then Some x else None) (has x refl)

branch_objects : (metas : List MetaDesc) (a b t : Ty) (m n : Option ℕ) (x : ℕ) → Branches metas a b t → model_for a m ≡ m → model_for b n ≡ n → (m ≡ Some x) ⊎ (n ≡ Some x) → has_objects t ≡ true
branch_objects metas a b t m n x (inl (null, same)) one other (inl here) = absurd (let none : m ≡ None = no_objects a m null one in cc)
branch_objects metas a b t m n x (inl (null, same)) one other (inr here) = ap has_objects same ∙ some_kept b x n here other
branch_objects metas a b t m n x (inr (inl (null, same))) one other (inl here) = ap has_objects same ∙ some_kept a x m here one
branch_objects metas a b t m n x (inr (inl (null, same))) one other (inr here) = absurd (let none : n ≡ None = no_objects b n null other in cc)
branch_objects metas a b t m n x (inr (inr top)) one other (inl here) = sym (top_alike metas (a ∷ b ∷ []) t a top (first_in a a (b ∷ []) refl)) ∙ some_kept a x m here one
branch_objects metas a b t m n x (inr (inr top)) one other (inr here) = sym (top_alike metas (a ∷ b ∷ []) t b top (later_in a b (b ∷ []) (first_in b b [] refl))) ∙ some_kept b x n here other

pub if_typed : (env : Environment) (ready : IsReady env) (c a b q : TypedPart) → IsPart env c → IsPart env a → IsPart env b → (if_judged env.metas c a b).has q → IsPart env q
if_typed env ready c a b q condition one other is =
    let t : Ty = is.1.0.0 in
    let model : Option ℕ = is.1.0.1 in
    let goes : Branches env.metas a.ty b.ty t = is.1.1.0 in
    let join : IsOneModel (a.model ∷ b.model ∷ []) model = is.1.1.1 in
    let place : (x : ℕ) → model ≡ Some x → (a.model ≡ Some x) ⊎ (b.model ≡ Some x) = λ x at. elim (in_either a.model (Some x) (b.model ∷ []) (join.comes x at)) [
      | inl here ↦ inl here
      | inr more ↦ elim (in_either b.model (Some x) [] more) [ inl here ↦ inr here | inr none ↦ absurd (nothing_in (Some x) none) ]
    ] in
    subst (IsPart env) (sym is.1.2) (record {
      typed = IsTyped.branches (variables_of env) (tree_of c) (tree_of a) (tree_of b) (typing_of c) (typing_of a) (typing_of b) t model condition.typed is.0 one.typed other.typed goes join;
      kept = kept_from t model (λ x at. branch_objects env.metas a.ty b.ty t a.model b.model x goes one.kept other.kept (place x at));
    })

-- ---- collection literals

element_objects : (ps : List TypedPart) (top : Ty) (x : ℕ) → AllKept ps → ((ty : Ty) → Contains (types_of ps) ty → has_objects ty ≡ has_objects top)
    → Contains (trees.models_of (map typing_of ps)) (Some x) → has_objects top ≡ true
element_objects [] top x kept like among = absurd (nothing_in (Some x) among)
element_objects (p ∷ ps) top x kept like among = elim (in_either p.model (Some x) (trees.models_of (map typing_of ps)) among) [
  | inl here ↦ sym (like p.ty (first_in p.ty p.ty (types_of ps) refl)) ∙ some_kept p.ty x p.model here kept.0
  | inr there ↦ element_objects ps top x kept.1 (λ ty at. like ty (later_in p.ty ty (types_of ps) at)) there
]

elements_alike : (metas : List MetaDesc) (tys : List Ty) (t ty : Ty) → Elements metas tys t → Contains tys ty → has_objects ty ≡ has_objects t
elements_alike metas [] t ty elements among = absurd (nothing_in ty among)
elements_alike metas (a ∷ more) t ty elements among = top_alike metas (a ∷ more) t ty elements.0 among

pub collection_typed : (env : Environment) (ready : IsReady env) (kind : Kind) (ps : List TypedPart) (q : TypedPart) → AreParts env ps
    → (collection_judged env.metas kind ps).has q → IsPart env q
collection_typed env ready kind ps q parts is =
    let t : Ty = is.0.0 in
    let model : Option ℕ = is.0.1 in
    let elements : Elements env.metas (types_of ps) t = is.1.0 in
    let join : IsOneModel (trees.models_of (map typing_of ps)) model =
    subst (λ ms. IsOneModel ms model) (sym (models_alike ps)) is.1.1 in
    subst (IsPart env) (sym is.2) (record {
      typed = IsTyped.literal (variables_of env) kind (trees_of ps) (map typing_of ps) t model parts.typed
          (subst (λ tys. Elements env.metas tys t) (sym (same_types ps)) elements) join;
      kept = kept_alike t (types.Coll kind t) model (sym (objects_of_collection kind t))
          (kept_from t model (λ x at. element_objects ps t x parts.kept (λ ty among. elements_alike env.metas (types_of ps) t ty elements among) (join.comes x at)));
    })

-- ---- let

pub bound_kept : (env : Environment) (ty : Ty) (value : TypedPart) (v : Variable) → IsPart env value → (bound_judged env.metas ty value).has v → model_for v.ty v.model ≡ v.model
bound_kept env ty value v part is = subst (λ (w : Variable). model_for w.ty w.model ≡ w.model) (sym is.1)
    (kept_alike value.ty ty value.model (alike env.metas value.ty ty is.0) part.kept)

pub bound_over : (env : Environment) (name : List ℕ) (tree : TypeTree) (ty : Ty) (value : TypedPart) (v : Variable) → (let_judged env name tree).has ty → (bound_judged env.metas ty value).has v → IsTrue (is_over env.metas v.ty)
bound_over env name tree ty value v named is = subst (λ (w : Variable). is_over env.metas w.ty ≡ true) (sym is.1) (written_over env.metas ty (declared_written env tree ty named.1))

pub let_typed : (env : Environment) (name : List ℕ) (tree : TypeTree) (ty : Ty) (value body : TypedPart) (v : Variable) → (let_judged env name tree).has ty → IsPart env value
    → (bound_judged env.metas ty value).has v → IsPart (with_variable env name v) body → IsPart env (let_part (length env.variables) value body)
unfolding let_part
let_typed env name tree ty value body v named part bound inside = record {
  typed = subst (λ n. IsTyped (context_of env) (variables_of env) (record { ty = body.ty; node = nodes.Let n (tree_of value) (tree_of body) }) (typing_of body)) (count_of env)
      (IsTyped.let_in (variables_of env) ty (tree_of value) (tree_of body) (typing_of value) (typing_of body) (declared_written env tree ty named.1) part.typed
      bound.0
      (subst (λ (w : Variable). IsTyped (context_of env) (trees.with_variable (variables_of env) (record { ty = w.ty; model = w.model })) (tree_of body) (typing_of body)) bound.1
      (typed_with env name v body inside)));
  kept = inside.kept;
}

-- ---- queries

arguments_conform : (metas : List MetaDesc) (params : List Ty) (args : List TypedPart) (j : Judged TypedPart) (q : TypedPart) → length args ≡ length params
    → (arguments_judged metas params args j).has q → AllConform metas (types_of args) params × j.has q
arguments_conform metas [] [] j q count is = (tt, is)
arguments_conform metas [] (p ∷ ps) j q count is = absurd (omega (arith, count))
arguments_conform metas (ty ∷ more) [] j q count is = absurd (omega (arith, count))
arguments_conform metas (ty ∷ more) (p ∷ ps) j q count is =
    let rest = arguments_conform metas more ps j q (omega (arith, count)) is.1 in
    ((is.0, rest.0), rest.1)

pub query_typed : (env : Environment) (name : List ℕ) (args : List TypedPart) (q : TypedPart) → AreParts env args → (query_judged env name args).has q → IsPart env q
query_typed env name args q parts is =
    let s : Signature = is.0.1 in
    let a = arguments_conform env.metas s.params args _ q is.2.0 is.2.1 in
    subst (IsPart env) (sym a.1) (record {
      typed = IsTyped.query (variables_of env) is.0.0 (trees_of args) (map typing_of args) (record { params = s.params; result = s.result })
          (mapped_there query_type env.queries is.0.0 (name, s) is.1.there) parts.typed (subst (λ tys. AllConform env.metas tys s.params) (sym (same_types args)) a.0);
      kept = none_kept s.result;
    })

-- ---- extents

pub extent_typed : (env : Environment) (path : Path) (q : TypedPart) → (extent_judged env path).has q → IsPart env q
extent_typed env path q is =
    let c = finds_has (named_class env (names_of path)) _ _ q is in
    let m = finds_has (only_model env.models c.0.0) _ _ q c.2 in
    subst (IsPart env) (sym m.2) (record {
      typed = IsTyped.extent (variables_of env) c.0.0 m.0 c.0.1 (only_model_is env c.0.0 m.0 c.0.1 (class_there env (names_of path) c.0 c.1) m.1);
      kept = kept_from (types.Coll kinds.Set (types.Class c.0.0 c.0.1)) (Some m.0) (λ x at. objects_of_collection kinds.Set (types.Class c.0.0 c.0.1) ∙ objects_of_class c.0.0 c.0.1);
    })
