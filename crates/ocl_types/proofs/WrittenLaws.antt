-- The types that are declared in a script are written types of its metamodels.
use Rattle.std.proofs.Common.{◌≡◌, ℕ, List, Option, None, Some, Ok, Err, refl, sym, ap, ◌∙◌, subst, inl, inr}
use Rattle.std.specs.Prelude.{Result}
use Rattle.mof_metamodel.specs.declared.desc.MetaDesc.{MetaDesc}
use Rattle.qv_syntax.specs.declared.type_tree.Kind.{Kind}
use Rattle.qv_syntax.specs.declared.type_tree.TypeTree.{TypeTree, ind-TypeTree, map-TypeTree, fold-roll-TypeTree}
use Rattle.qv_syntax.specs.declared.type_tree.TypeTree.TheOpen as of
use Rattle.qv_syntax.specs.declared.ty.Ty.{Ty}
use Rattle.qv_syntax.specs.declared.ty.Ty.TheVariants as types
use Rattle.qv_syntax.specs.Types.{IsSingleType, IsWrittenType, IsNoCollection}
use Rattle.ocl_environments.specs.declared.fault.TypeFault.{TypeFault}
use Rattle.ocl_environments.specs.Environments.{Environment}
use Rattle.ocl_environments.specs.Naming.{names_of}
use Rattle.ocl_environments.specs.Classifiers.{named_type}
use Rattle.ocl_types.specs.Judged.{tells}
use Rattle.ocl_types.specs.TypeRules.{IsNested, flat_judged, declared_judged}
use Rattle.ocl_environments.specs.Outcomes.{RuleResult, and_then, wrong_type}
use Rattle.ocl_environments.specs.Agreement.{collection_parts}
use Rattle.ocl_environments.specs.Written.{found_type, collection_of, written_step, written}
use Rattle.ocl_types.specs.TypingScopes.{no_collection, element, flat_by, flat, declared_type}
use Rattle.ocl_types.proofs.JudgedLaws.{Decides, ok_ok, ok_err, err_err, then_ok, says_decides, taking_decides, tells_decides}
use Rattle.ocl_types.proofs.LayerLaws.{is_collection, no_collection_is, parts_of_collection}
use Rattle.ocl_types.proofs.ClassifierLaws.{type_there}

-- a type whose classes and enumerations are those of the metamodels, collections of collections among them
data IsThere (metas : List MetaDesc) : Ty → Type 0 where
  single : (ty : Ty) → IsSingleType metas ty → IsThere metas ty
  collection : (kind : Kind) (inner : Ty) → IsThere metas inner → IsThere metas (types.Coll kind inner)

ok_same : {X : Type 0} (x y : X) → ◌≡◌ {A = RuleResult X} (Ok x) (Ok y) → x ≡ y
ok_same x y is = ok_ok (Ok x) x y refl is

not_ok : {X : Type 0} (f : TypeFault) (x : X) → ◌≡◌ {A = RuleResult X} (Err f) (Ok x) → ⊥
not_ok f x is = ok_err (Err f) x f is refl

-- ---- no collection

pub element_is : (metas : List MetaDesc) (ty t : Ty) → element metas ty ≡ Ok t → (t ≡ ty) × IsNoCollection ty
element_is metas ty t is = by (collection_parts ty) refl is
  where
    by : (o : Option (Kind × Ty)) → collection_parts ty ≡ o → no_collection metas ty o ≡ Ok t → (t ≡ ty) × IsNoCollection ty
    by None at is = (sym (ok_same ty t is), no_collection_is ty at)
    by (Some (kind, inner)) at is = absurd (not_ok _ t is)

-- no collection of collections
flat_is : (metas : List MetaDesc) (ty t : Ty) → flat metas ty ≡ Ok t → (t ≡ ty) × ((kind : Kind) (inner : Ty) → collection_parts ty ≡ Some (kind, inner) → IsNoCollection inner)
flat_is metas ty t is = by (collection_parts ty) is
  where
    by : (o : Option (Kind × Ty)) → flat_by metas ty o ≡ Ok t → (t ≡ ty) × ((kind : Kind) (inner : Ty) → o ≡ Some (kind, inner) → IsNoCollection inner)
    by None is = (sym (ok_same ty t is), λ kind inner some. absurd (cc))
    by (Some (kind, of)) is =
        let o = then_ok (element metas of) (λ e. Ok ty) t is in
        (sym (ok_same ty t o.2), λ k inner some. subst IsNoCollection (ap (λ (p : Kind × Ty). p.1) (same_pair (kind, of) (k, inner) some)) (element_is metas of o.0 o.1).1)
      where
        same_pair : (p q : Kind × Ty) → Some p ≡ Some q → p ≡ q
        same_pair p q some = cc

-- ---- what is written

module _ (env : Environment) where
  abbrev AllThere : TypeTree → Type 0
  AllThere tree = (ty : Ty) → written env tree ≡ Ok ty → IsThere env.metas ty

  abbrev Held : Type 0
  Held = (tree : TypeTree) × AllThere tree

  found_there : (path : List (List ℕ)) (o : Option Ty) (ty : Ty) → named_type env path ≡ o → found_type path o ≡ Ok ty → IsThere env.metas ty
  found_there path None ty at is = absurd (not_ok _ ty is)
  found_there path (Some t) ty at is = subst (IsThere env.metas) (ok_same t ty is) (IsThere.single t (type_there env path t at))

  collection_there : (kind : Kind) (r : Result Ty TypeFault) (ty : Ty) → ((t : Ty) → r ≡ Ok t → IsThere env.metas t) → collection_of kind r ≡ Ok ty → IsThere env.metas ty
  collection_there kind (Ok t) ty there is = subst (IsThere env.metas) (ok_same (types.Coll kind t) ty is) (IsThere.collection kind t (there t refl))
  collection_there kind (Err f) ty there is = absurd (not_ok f ty is)

  layer_there : (y : of.TypeTree-F Held) (ty : Ty) → written_step env (map-TypeTree TypeTree (Result Ty TypeFault) (written env) (map-TypeTree Held TypeTree (λ v. v.0) y)) ≡ Ok ty → IsThere env.metas ty
  layer_there (of.Str span) ty is = subst (IsThere env.metas) (ok_same types.Str ty is) (IsThere.single types.Str tt)
  layer_there (of.Int span) ty is = subst (IsThere env.metas) (ok_same types.Int ty is) (IsThere.single types.Int tt)
  layer_there (of.Bool span) ty is = subst (IsThere env.metas) (ok_same types.Bool ty is) (IsThere.single types.Bool tt)
  layer_there (of.Named path) ty is = found_there (names_of path) (named_type env (names_of path)) ty refl is
  layer_there (of.Coll kind v span) ty is = collection_there kind (written env v.0) ty v.1 is

  written_there : (tree : TypeTree) → AllThere tree
  written_there = ind-TypeTree AllThere (λ x y is ty made.
      subst (λ d. written_step env (map-TypeTree TypeTree (Result Ty TypeFault) (written env) d) ≡ Ok ty → IsThere env.metas ty) is (layer_there y ty)
      (sym (fold-roll-TypeTree (Result Ty TypeFault) (written_step env) x) ∙ made))

  single_there : (ty : Ty) → IsThere env.metas ty → IsNoCollection ty → IsSingleType env.metas ty
  single_there ty (IsThere.single _ has) none = has
  single_there ty (IsThere.collection kind inner there) none = absurd (none kind inner refl)

  -- of those that are no collections of collections
  written_flat : (ty : Ty) → IsThere env.metas ty → ((kind : Kind) (inner : Ty) → collection_parts ty ≡ Some (kind, inner) → IsNoCollection inner) → IsWrittenType env.metas ty
  written_flat ty (IsThere.single _ has) none = inl has
  written_flat ty (IsThere.collection kind inner there) none = inr (kind, inner, refl, single_there inner there (none kind inner (parts_of_collection kind inner)))

  -- ---- what is declared

  single_is : (ty : Ty) → IsSingleType env.metas ty → collection_parts ty ≡ None
  single_is ty has = by (collection_parts ty) refl
    where
      by : (o : Option (Kind × Ty)) → collection_parts ty ≡ o → collection_parts ty ≡ None
      by None at = at
      by (Some p) at = absurd (subst (IsSingleType env.metas) (is_collection ty p at) has)

  -- a written type is no collection of collections
  flat_written : (ty : Ty) → IsWrittenType env.metas ty → flat env.metas ty ≡ Ok ty
  flat_written ty (inl has) = ap (flat_by env.metas ty) (single_is ty has)
  flat_written ty (inr (kind, inner, same, has)) =
      ap (flat_by env.metas ty) (ap collection_parts same ∙ parts_of_collection kind inner)
      ∙ ap (λ o. and_then (no_collection env.metas inner o) (λ e. Ok ty)) (single_is inner has)

  nested : (ty : Ty) (f : TypeFault) → flat env.metas ty ≡ Err f → (kind : Kind) × (inner : Ty) × (ty ≡ types.Coll kind inner) × IsNested env.metas inner f
  nested ty f is = by (collection_parts ty) refl is
    where
      not_err : (t : Ty) → ◌≡◌ {A = RuleResult Ty} (Ok t) (Err f) → ⊥
      not_err t at = ok_err (Ok t) t f refl at

      inside : (inner : Ty) (o : Option (Kind × Ty)) → collection_parts inner ≡ o → and_then (no_collection env.metas inner o) (λ e. Ok ty) ≡ Err f → IsNested env.metas inner f
      inside inner None at is = absurd (not_err ty is)
      inside inner (Some (kind, e)) at is = (kind, e, is_collection inner (kind, e) at, sym (err_err {X = Ty} (Err (wrong_type env.metas e inner)) (wrong_type env.metas e inner) f refl is))

      by : (o : Option (Kind × Ty)) → collection_parts ty ≡ o → flat_by env.metas ty o ≡ Err f → (kind : Kind) × (inner : Ty) × (ty ≡ types.Coll kind inner) × IsNested env.metas inner f
      by None at is = absurd (not_err ty is)
      by (Some (kind, inner)) at is = (kind, inner, is_collection ty (kind, inner) at, inside inner (collection_parts inner) refl is)

  flat_decides : (ty : Ty) → IsThere env.metas ty → Decides (flat env.metas ty) (flat_judged env.metas ty)
  flat_decides ty there = says_decides (flat env.metas ty) (λ t. (t ≡ ty) × IsWrittenType env.metas t)
      (λ f. (kind : Kind) × (inner : Ty) × (ty ≡ types.Coll kind inner) × IsNested env.metas inner f)
      (λ t is. let f = flat_is env.metas ty t is in (f.0, subst (IsWrittenType env.metas) (sym f.0) (written_flat ty there f.1)))
      (λ t declared. ap (flat env.metas) (sym declared.0) ∙ flat_written t declared.1)
      (λ f is. nested ty f is)

  -- the type that is declared is computed
  pub declared_decides : (tree : TypeTree) → Decides (declared_type env tree) (declared_judged env tree)
  declared_decides tree = taking_decides (written env tree) (flat env.metas) (tells (written env tree)) (flat_judged env.metas) (tells_decides (written env tree))
      (λ ty is. flat_decides ty (written_there tree ty is))

  pub declared_written : (tree : TypeTree) (ty : Ty) → (declared_judged env tree).has ty → IsWrittenType env.metas ty
  declared_written tree ty is = is.2.1

  pub declared_is : (tree : TypeTree) (ty : Ty) → declared_type env tree ≡ Ok ty → (written env tree ≡ Ok ty) × IsWrittenType env.metas ty
  declared_is tree ty is =
      let d = (declared_decides tree).told ty is in
      (d.1 ∙ ap (λ t. Ok t) (sym d.2.0), d.2.1)

  pub is_declared : (tree : TypeTree) (ty : Ty) → (written env tree ≡ Ok ty) × IsWrittenType env.metas ty → declared_type env tree ≡ Ok ty
  is_declared tree ty is = (declared_decides tree).only ty (ty, is.0, (refl, is.1))
