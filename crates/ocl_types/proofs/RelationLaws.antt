-- What is computed of the types and the models of parts is what the relations on types say, both ways, of types of the metamodels: that
-- of two branches, of elements, of what an operation on a collection is given, and the one model (OCL 2.4, chapters 7 and 11).
use Rattle.std.proofs.Common.{◌≡◌, ℕ, Bool, true, false, List, [], ◌∷◌, Option, None, Some, Ok, Err, map, length, if◌then◌else◌, refl, sym, ap, ◌∙◌, subst, ◌⊎◌, ⊎_elim, inl, inr, arith}
use Rattle.std.proofs.lemmas.Bool.{false≢true}
use Rattle.std.proofs.lemmas.Option.{none-some, same_Some}
use Rattle.mof_metamodel.specs.declared.desc.MetaDesc.{MetaDesc}
use Rattle.mof_metamodel.specs.declared.desc.ClassId.{ClassId}
use Rattle.mof_metamodel.proofs.TableLemmas.{map-map}
use Rattle.qv_syntax.specs.declared.ty.Ty.{Ty}
use Rattle.qv_syntax.specs.declared.ty.Ty.TheVariants as types
use Rattle.qv_syntax.specs.declared.type_tree.Kind.{Kind}
use Rattle.qv_syntax.specs.Types.{ConformsTo, IsTopOf, IsNoCollection, IsOneModel}
use Rattle.qv_syntax.specs.TypeRules.{Branches, Elements}
use Rattle.qv_syntax.specs.TypedTrees as trees
use Rattle.qv_syntax.specs.TypedTrees.{Typing}
use Rattle.ocl_environments.specs.declared.fault.TypeFault.{TypeFault}
use Rattle.ocl_environments.specs.declared.fault.TypeFault.TheVariants.{ModelMix}
use Rattle.ocl_environments.specs.declared.part.TypedPart.{TypedPart}
use Rattle.ocl_types.specs.declared.collection_operations.Argument.{Argument}
use Rattle.ocl_types.specs.declared.collection_operations.Argument.TheVariants as takes
use Rattle.ocl_environments.specs.Environments.{AreWell, is_over}
use Rattle.ocl_environments.specs.Outcomes.{RuleResult, and_then, asking, wrong_type}
use Rattle.ocl_environments.specs.Agreement.{same_kind, same_type, is_null, collection_parts, has_objects, agreed, upper, joined_models, branches}
use Rattle.ocl_environments.specs.Parts.{types_of, with_models, one_model}
use Rattle.ocl_types.specs.Signatures.{argument_count}
use Rattle.ocl_types.specs.TypingScopes.{no_collection, element}
use Rattle.ocl_types.specs.TypingOperators.{literal_type}
use Rattle.ocl_types.specs.TypingCollections.{given_elements, given_type, given_types}
use Rattle.ocl_types.specs.TypeRules.{part_models, one_model_judged, branches_judged, DoNotAgree, IsNested, elements_judged, GivenConforms, IsMisgiven, given_judged}
use Rattle.ocl_types.specs.TypedContext.{AreOver, typing_of}
use Rattle.ocl_environments.proofs.TypeLaws.{same_is_one, same_kinds, same_kind_itself}
use Rattle.ocl_types.proofs.JudgedLaws.{Decides, ok_ok, ok_err, err_err, then_ok, then_err, says_decides}
use Rattle.ocl_types.proofs.LayerLaws.{is_collection, parts_of_collection, no_parts, null_is, objects_of_class, objects_of_null}
use Rattle.ocl_types.proofs.ConformanceLaws.{first_in, later_in, agreed_top, upper_top}
use Rattle.ocl_types.proofs.WrittenLaws.{element_is}
use Rattle.ocl_types.proofs.RangeLaws.{elements_of}
use Rattle.ocl_types.proofs.OneModelLaws.{with_one, one_with, joined_one, one_joined, without_none, with_none, one_model_some}
use Rattle.ocl_types.proofs.TopLaws.{agreed_where, agreed_fault, upper_where, upper_fault}

ok_is : {X : Type 0} (x y : X) → ◌≡◌ {A = RuleResult X} (Ok x) (Ok y) → x ≡ y
ok_is x y is = ok_ok (Ok x) x y refl is

not_err : {X : Type 0} (x : X) (f : TypeFault) → ◌≡◌ {A = RuleResult X} (Ok x) (Err f) → ⊥
not_err x f is = ok_err (Ok x) x f refl is

not_ok : {X : Type 0} (f : TypeFault) (x : X) → ◌≡◌ {A = RuleResult X} (Err f) (Ok x) → ⊥
not_ok f x is = ok_err (Err f) x f is refl

same_fault : (X : Type 0) (f g : TypeFault) → ◌≡◌ {A = RuleResult X} (Err f) (Err g) → g ≡ f
same_fault X f g is = sym (err_err {X = X} (Err f) f g refl is)

-- ---- two branches

class_is_not_null : (m : ℕ) (c : ClassId) → types.Class m c ≡ types.Null → ⊥
class_is_not_null m c is = false≢true (sym objects_of_null ∙ ap has_objects (sym is) ∙ objects_of_class m c)

null_above : (metas : List MetaDesc) (a b : Ty) → ConformsTo metas a b → a ≡ types.Null → b ≡ types.Null
null_above metas a b (inl same) null = sym same ∙ null
null_above metas a b (inr sub) null = absurd (class_is_not_null sub.m sub.class (sym sub.first ∙ null))

null_below : (metas : List MetaDesc) (a b : Ty) → ConformsTo metas a b → b ≡ types.Null → a ≡ types.Null
null_below metas a b (inl same) null = same ∙ null
null_below metas a b (inr sub) null = absurd (class_is_not_null sub.m sub.super (sym sub.second ∙ null))

module _ (metas : List MetaDesc) (well : AreWell metas) where
  abbrev computed : Bool → Bool → Ty → Ty → RuleResult Ty
  computed x y a b = if x then Ok b else if y then Ok a else upper metas a b

  branches_give : (a b t : Ty) → branches metas a b ≡ Ok t → Branches metas a b t
  branches_give a b t is = by (is_null a) (is_null b) refl refl is
    where
      by : (x y : Bool) → is_null a ≡ x → is_null b ≡ y → computed x y a b ≡ Ok t → Branches metas a b t
      by true y one other is = inl ((null_is a).0 one, sym (ok_is b t is))
      by false true one other is = inr (inl ((null_is b).0 other, sym (ok_is a t is)))
      by false false one other is = inr (inr (upper_top metas well a b t is))

  branches_where : (a b t : Ty) → is_over metas a ≡ true → is_over metas b ≡ true → Branches metas a b t → branches metas a b ≡ Ok t
  branches_where a b t over_a over_b goes = by (is_null a) (is_null b) refl refl goes
    where
      apart : (x : Ty) → is_null x ≡ false → x ≡ types.Null → ⊥
      apart x isnt is = false≢true (sym isnt ∙ (null_is x).1 is)

      first : IsTopOf metas (a ∷ b ∷ []) t → ConformsTo metas a t
      first top = top.above a (first_in a a (b ∷ []) refl)

      second : IsTopOf metas (a ∷ b ∷ []) t → ConformsTo metas b t
      second top = top.above b (later_in a b (b ∷ []) (first_in b b [] refl))

      same_ok : (x : Ty) → x ≡ t → ◌≡◌ {A = RuleResult Ty} (Ok x) (Ok t)
      same_ok x is = ap (λ u. Ok u) is

      by : (x y : Bool) → is_null a ≡ x → is_null b ≡ y → Branches metas a b t → computed x y a b ≡ Ok t
      by true y one other (inl (null, same)) = same_ok b (sym same)
      by true y one other (inr (inl (null, same))) = same_ok b (null ∙ sym ((null_is a).0 one) ∙ sym same)
      by true y one other (inr (inr top)) =
          let above : t ≡ types.Null = null_above metas a t (first top) ((null_is a).0 one) in
          same_ok b (null_below metas b t (second top) above ∙ sym above)
      by false true one other (inl (null, same)) = absurd (apart a one null)
      by false true one other (inr (inl (null, same))) = same_ok a (sym same)
      by false true one other (inr (inr top)) =
          absurd (apart a one (null_below metas a t (first top) (null_above metas b t (second top) ((null_is b).0 other))))
      by false false one other (inl (null, same)) = absurd (apart a one null)
      by false false one other (inr (inl (null, same))) = absurd (apart b other null)
      by false false one other (inr (inr top)) = upper_where metas well a b t over_a over_b top

  branches_fault : (a b : Ty) (f : TypeFault) → is_over metas a ≡ true → is_over metas b ≡ true → branches metas a b ≡ Err f → f ≡ wrong_type metas a b
  branches_fault a b f over_a over_b is = by (is_null a) (is_null b) is
    where
      by : (x y : Bool) → computed x y a b ≡ Err f → f ≡ wrong_type metas a b
      by true y is = absurd (not_err b f is)
      by false true is = absurd (not_err a f is)
      by false false is = upper_fault metas well a b f over_a over_b is

  pub branches_decide : (a b : Ty) → is_over metas a ≡ true → is_over metas b ≡ true → Decides (branches metas a b) (branches_judged metas a b)
  branches_decide a b over_a over_b = says_decides (branches metas a b) (Branches metas a b) (λ f. f ≡ wrong_type metas a b)
      (λ t is. branches_give a b t is) (λ t goes. branches_where a b t over_a over_b goes) (λ f is. branches_fault a b f over_a over_b is)

  -- ---- elements

  elements_give : (tys : List Ty) (t : Ty) → literal_type metas tys ≡ Ok t → Elements metas tys t
  elements_give [] t is = sym (ok_is types.Null t is)
  elements_give (ty ∷ more) t is =
      let o = then_ok (agreed metas ty more) (element metas) t is in
      let e = element_is metas o.0 t o.2 in
      (subst (IsTopOf metas (ty ∷ more)) (sym e.0) (agreed_top metas well ty o.0 more o.1), subst IsNoCollection (sym e.0) e.1)

  elements_where : (tys : List Ty) (t : Ty) → AreOver metas tys → Elements metas tys t → literal_type metas tys ≡ Ok t
  elements_where [] t over is = ap (λ u. Ok u) (sym is)
  elements_where (ty ∷ more) t over (top, single) =
      ap (λ r. and_then r (element metas)) (agreed_where metas well ty t more over top) ∙ ap (no_collection metas t) (no_parts t single)

  element_fault : (ty : Ty) (f : TypeFault) → element metas ty ≡ Err f → IsNested metas ty f
  element_fault ty f is = by (collection_parts ty) refl is
    where
      by : (o : Option (Kind × Ty)) → collection_parts ty ≡ o → no_collection metas ty o ≡ Err f → IsNested metas ty f
      by None at is = absurd (not_err ty f is)
      by (Some (kind, inner)) at is = (kind, inner, is_collection ty (kind, inner) at, same_fault Ty (wrong_type metas inner ty) f is)

  elements_fault : (tys : List Ty) (f : TypeFault) → AreOver metas tys → literal_type metas tys ≡ Err f
      → DoNotAgree metas tys f ⊎ ((top : Ty) × IsTopOf metas tys top × IsNested metas top f)
  elements_fault [] f over is = absurd (not_err types.Null f is)
  elements_fault (ty ∷ more) f over is = ⊎_elim
      (λ first. inl (agreed_fault metas well ty more f over first))
      (λ second. inr (second.0, agreed_top metas well ty second.0 more second.1, element_fault second.0 f second.2))
      (then_err (agreed metas ty more) (element metas) f is)

  pub elements_decide : (tys : List Ty) → AreOver metas tys → Decides (literal_type metas tys) (elements_judged metas tys)
  elements_decide tys over = says_decides (literal_type metas tys) (Elements metas tys) (λ f. DoNotAgree metas tys f ⊎ ((top : Ty) × IsTopOf metas tys top × IsNested metas top f))
      (λ t is. elements_give tys t is) (λ t elements. elements_where tys t over elements) (λ f is. elements_fault tys f over is)

  -- ---- what an operation on a collection is given

  module _ (kind : Kind) (of : Ty) (over_of : is_over metas of ≡ true) where
    abbrev head : Ty → List Ty → Ty
    head d [] = d
    head d (x ∷ xs) = x

    one_same : (a b : Ty) (xs ys : List Ty) → (a ∷ xs) ≡ (b ∷ ys) → a ≡ b
    one_same a b xs ys same = ap (head a) same

    same_parts : (p q : Kind × Ty) → Some p ≡ Some q → p ≡ q
    same_parts p q same = same_Some p q same

    abbrev Asked : Argument → List Ty → Ty → Type 0
    Asked argument args = GivenConforms metas argument kind of args

    abbrev Misgiven : Argument → List Ty → TypeFault → Type 0
    Misgiven argument args f = (t : Ty) × (args ≡ t ∷ []) × IsMisgiven metas argument kind of t f

    element_given : (ty : Ty) → is_over metas ty ≡ true → Decides (given_type metas takes.Element kind of ty) (given_judged metas takes.Element kind of (ty ∷ []))
    element_given ty over = says_decides (upper metas of ty) (Asked takes.Element (ty ∷ [])) (Misgiven takes.Element (ty ∷ []))
        (λ u is. (ty, refl, upper_top metas well of ty u is))
        (λ u given. upper_where metas well of ty u over_of over
        (subst (λ e. IsTopOf metas (of ∷ e ∷ []) u) (sym (one_same ty given.0 [] [] given.1)) given.2))
        (λ f is. (ty, refl, upper_fault metas well of ty f over_of over is))

    inner_over : (ty : Ty) (p : Kind × Ty) → is_over metas ty ≡ true → collection_parts ty ≡ Some p → is_over metas p.1 ≡ true
    inner_over ty p over at = elements_of metas p.0 p.1 (subst (λ t. is_over metas t ≡ true) (is_collection ty p at) over)

    -- the parts of a type that is this collection
    parts_are : (ty : Ty) (other : Kind) (e : Ty) (o : Option (Kind × Ty)) → collection_parts ty ≡ o → (ty ∷ []) ≡ (types.Coll other e ∷ []) → o ≡ Some (other, e)
    parts_are ty other e o at same = sym at ∙ ap collection_parts (one_same ty (types.Coll other e) [] [] same) ∙ parts_of_collection other e

    collection_given : (ty : Ty) → is_over metas ty ≡ true → Decides (given_type metas takes.Collection kind of ty) (given_judged metas takes.Collection kind of (ty ∷ []))
    collection_given ty over = by (collection_parts ty) refl
      where
        by : (o : Option (Kind × Ty)) → collection_parts ty ≡ o → Decides (given_elements metas false kind of ty o) (given_judged metas takes.Collection kind of (ty ∷ []))
        by None at = says_decides (Err (wrong_type metas (types.Coll kind of) ty)) (Asked takes.Collection (ty ∷ [])) (Misgiven takes.Collection (ty ∷ []))
            (λ u is. absurd (not_ok (wrong_type metas (types.Coll kind of) ty) u is))
            (λ u given. absurd (none-some (given.0, given.1) (parts_are ty given.0 given.1 None at given.2)))
            (λ f is. (ty, refl, inl (same_fault Ty (wrong_type metas (types.Coll kind of) ty) f is)))
        by (Some (other, inner)) at = says_decides (upper metas of inner) (Asked takes.Collection (ty ∷ [])) (Misgiven takes.Collection (ty ∷ []))
            (λ u is. (other, inner, ap (λ t. t ∷ []) (is_collection ty (other, inner) at), upper_top metas well of inner u is))
            (λ u given.
            let same : inner ≡ given.1 = ap (λ (p : Kind × Ty). p.1) (same_parts (other, inner) (given.0, given.1) (parts_are ty given.0 given.1 (Some (other, inner)) at given.2)) in
            upper_where metas well of inner u over_of (inner_over ty (other, inner) over at) (subst (λ e. IsTopOf metas (of ∷ e ∷ []) u) (sym same) given.3))
            (λ f is. (ty, refl, inr (other, inner, is_collection ty (other, inner) at, upper_fault metas well of inner f over_of (inner_over ty (other, inner) over at) is)))

    same_given : (ty : Ty) → is_over metas ty ≡ true → Decides (given_type metas takes.SameKind kind of ty) (given_judged metas takes.SameKind kind of (ty ∷ []))
    same_given ty over = by (collection_parts ty) refl
      where
        of_kind : (other : Kind) (inner : Ty) (b : Bool) → collection_parts ty ≡ Some (other, inner) → same_kind kind other ≡ b
            → Decides (asking b (wrong_type metas (types.Coll kind of) ty) (upper metas of inner)) (given_judged metas takes.SameKind kind of (ty ∷ []))
        of_kind other inner true at alike =
            let whole : ty ≡ types.Coll kind inner = is_collection ty (other, inner) at ∙ ap (λ k. types.Coll k inner) (sym (same_kinds kind other alike)) in
            says_decides (upper metas of inner) (Asked takes.SameKind (ty ∷ [])) (Misgiven takes.SameKind (ty ∷ []))
            (λ u is. (inner, ap (λ t. t ∷ []) whole, upper_top metas well of inner u is))
            (λ u given.
            let same : inner ≡ given.0 = ap (λ (p : Kind × Ty). p.1) (same_parts (other, inner) (kind, given.0) (parts_are ty kind given.0 (Some (other, inner)) at given.1)) in
            upper_where metas well of inner u over_of (inner_over ty (other, inner) over at) (subst (λ e. IsTopOf metas (of ∷ e ∷ []) u) (sym same) given.2))
            (λ f is. (ty, refl, inr (inner, whole, upper_fault metas well of inner f over_of (inner_over ty (other, inner) over at) is)))
        of_kind other inner false at alike = says_decides (Err (wrong_type metas (types.Coll kind of) ty)) (Asked takes.SameKind (ty ∷ [])) (Misgiven takes.SameKind (ty ∷ []))
            (λ u is. absurd (not_ok (wrong_type metas (types.Coll kind of) ty) u is))
            (λ u given.
            let same : other ≡ kind = ap (λ (p : Kind × Ty). p.0) (same_parts (other, inner) (kind, given.0) (parts_are ty kind given.0 (Some (other, inner)) at given.1)) in
            absurd (false≢true (sym alike ∙ ap (same_kind kind) same ∙ same_kind_itself kind)))
            (λ f is. (ty, refl, inl (same_fault Ty (wrong_type metas (types.Coll kind of) ty) f is)))

        by : (o : Option (Kind × Ty)) → collection_parts ty ≡ o → Decides (given_elements metas true kind of ty o) (given_judged metas takes.SameKind kind of (ty ∷ []))
        by None at = says_decides (Err (wrong_type metas (types.Coll kind of) ty)) (Asked takes.SameKind (ty ∷ [])) (Misgiven takes.SameKind (ty ∷ []))
            (λ u is. absurd (not_ok (wrong_type metas (types.Coll kind of) ty) u is))
            (λ u given. absurd (none-some (kind, given.0) (parts_are ty kind given.0 None at given.1)))
            (λ f is. (ty, refl, inl (same_fault Ty (wrong_type metas (types.Coll kind of) ty) f is)))
        by (Some (other, inner)) at = of_kind other inner (same_kind kind other) at refl

    index_given : (ty : Ty) → Decides (given_type metas takes.Index kind of ty) (given_judged metas takes.Index kind of (ty ∷ []))
    index_given ty = by (same_type ty types.Int) refl
      where
        by : (b : Bool) → same_type ty types.Int ≡ b
            → Decides (and_then (asking b (wrong_type metas types.Int ty) (Ok tt)) (λ (v : Unit {0}). Ok of)) (given_judged metas takes.Index kind of (ty ∷ []))
        by true same = says_decides (Ok of) (Asked takes.Index (ty ∷ [])) (Misgiven takes.Index (ty ∷ []))
            (λ u is. (ap (λ t. t ∷ []) ((same_is_one ty types.Int).0 same), sym (ok_is of u is)))
            (λ u given. ap (λ t. Ok t) (sym given.1))
            (λ f is. absurd (not_err of f is))
        by false same = says_decides (Err (wrong_type metas types.Int ty)) (Asked takes.Index (ty ∷ [])) (Misgiven takes.Index (ty ∷ []))
            (λ u is. absurd (not_ok (wrong_type metas types.Int ty) u is))
            (λ u given. absurd (false≢true (sym same ∙ (same_is_one ty types.Int).1 (one_same ty types.Int [] [] given.0))))
            (λ f is. (ty, refl, same_fault Ty (wrong_type metas types.Int ty) f is))

    nothing_given : Decides (given_types metas takes.Nothing kind of []) (given_judged metas takes.Nothing kind of [])
    nothing_given = says_decides (Ok of) (Asked takes.Nothing []) (Misgiven takes.Nothing []) (λ u is. (refl, sym (ok_is of u is))) (λ u given. ap (λ t. Ok t) (sym given.1)) (λ f is. absurd (not_err of f is))

    -- with as many arguments as there are to be
    pub given_decides : (argument : Argument) (args : List TypedPart) → length args ≡ argument_count argument → AreOver metas (types_of args)
        → Decides (given_types metas argument kind of args) (given_judged metas argument kind of (types_of args))
    given_decides takes.Nothing [] count over = nothing_given
    given_decides takes.Nothing (p ∷ ps) count over = absurd (omega (arith, count))
    given_decides takes.Element [] count over = absurd (omega (arith, count))
    given_decides takes.Element (p ∷ []) count over = element_given p.ty (over p.ty (first_in p.ty p.ty [] refl))
    given_decides takes.Element (p ∷ q ∷ ps) count over = absurd (omega (arith, count))
    given_decides takes.Collection [] count over = absurd (omega (arith, count))
    given_decides takes.Collection (p ∷ []) count over = collection_given p.ty (over p.ty (first_in p.ty p.ty [] refl))
    given_decides takes.Collection (p ∷ q ∷ ps) count over = absurd (omega (arith, count))
    given_decides takes.SameKind [] count over = absurd (omega (arith, count))
    given_decides takes.SameKind (p ∷ []) count over = same_given p.ty (over p.ty (first_in p.ty p.ty [] refl))
    given_decides takes.SameKind (p ∷ q ∷ ps) count over = absurd (omega (arith, count))
    given_decides takes.Index [] count over = absurd (omega (arith, count))
    given_decides takes.Index (p ∷ []) count over = index_given p.ty
    given_decides takes.Index (p ∷ q ∷ ps) count over = absurd (omega (arith, count))

-- ---- the one model

one_decides : (name : List ℕ) (o : Option (Option ℕ)) (models : List (Option ℕ)) → ((m : Option ℕ) → o ≡ Some m → IsOneModel models m) → ((m : Option ℕ) → IsOneModel models m → o ≡ Some m)
    → Decides (one_model name o) (one_model_judged name models)
one_decides name o models there back = says_decides (one_model name o) (IsOneModel models) (λ f. f ≡ ModelMix name)
    (λ m is. there m (one_model_some name o m is)) (λ m one. ap (one_model name) (back m one)) (λ f is. by o f is)
  where
    by : (q : Option (Option ℕ)) (f : TypeFault) → one_model name q ≡ Err f → f ≡ ModelMix name
    by (Some m) f is = absurd (not_err m f is)
    by None f is = same_fault (Option ℕ) (ModelMix name) f is

pub models_alike : (ps : List TypedPart) → trees.models_of (map typing_of ps) ≡ part_models ps
models_alike ps = map-map (λ (t : Typing). t.model) typing_of ps

pub two_models_decide : (name : List ℕ) (a b : Option ℕ) → Decides (one_model name (joined_models a b)) (one_model_judged name (a ∷ b ∷ []))
two_models_decide name a b = one_decides name (joined_models a b) (a ∷ b ∷ []) (λ m is. joined_one a b m is) (λ m one. one_joined a b m one)

pub models_decide : (name : List ℕ) (model : Option ℕ) (ps : List TypedPart) → Decides (one_model name (with_models model ps)) (one_model_judged name (model ∷ part_models ps))
models_decide name model ps = one_decides name (with_models model ps) (model ∷ part_models ps)
    (λ m is. subst (λ ms. IsOneModel (model ∷ ms) m) (models_alike ps) (with_one model ps m is))
    (λ m one. one_with model ps m (subst (λ ms. IsOneModel (model ∷ ms) m) (sym (models_alike ps)) one))

pub element_models_decide : (name : List ℕ) (ps : List TypedPart) → Decides (one_model name (with_models None ps)) (one_model_judged name (part_models ps))
element_models_decide name ps = one_decides name (with_models None ps) (part_models ps)
    (λ m is. without_none (part_models ps) m (subst (λ ms. IsOneModel (None ∷ ms) m) (models_alike ps) (with_one None ps m is)))
    (λ m one. one_with None ps m (subst (λ ms. IsOneModel (None ∷ ms) m) (sym (models_alike ps)) (with_none (part_models ps) m one)))
