-- Types to which others conform: what is computed is what the definition says, of types of the metamodels (OCL 2.4, section 8.2.1).
use Rattle.std.proofs.Common.{◌≡◌, ◌<◌, ℕ, Bool, true, false, ◌&&◌, List, [], ◌∷◌, Option, None, Some, Ok, Err, length, fold, if◌then◌else◌, refl, sym, ap, ◌∙◌, subst, ⊎_elim, inl, inr}
use Rattle.std.specs.Prelude.{Contains, nat_lt}
use Rattle.std.proofs.lemmas.Bool.{false≢true, ltb-true}
use Rattle.std.proofs.lemmas.Option.{slice_get_within, get_or_from_slice_get}
use Rattle.mof_metamodel.specs.declared.desc.MetaDesc.{MetaDesc}
use Rattle.mof_metamodel.specs.declared.desc.ClassId.{ClassId}
use Rattle.mof_metamodel.specs.Metamodels.{class_count, Conforms}
use Rattle.mof_metamodel.specs.MetaFaults.{WellMeta}
use Rattle.mof_metamodel.proofs.ReachLemmas.{conforms_through}
use Rattle.mof_metamodel.proofs.SearchLemmas.{passes_all}
use Rattle.qv_syntax.specs.declared.ty.Ty.{Ty, roll-Ty, fold-roll-Ty}
use Rattle.qv_syntax.specs.declared.ty.Ty.TheOpen as of
use Rattle.qv_syntax.specs.declared.ty.Ty.TheVariants as types
use Rattle.qv_syntax.specs.Types.{ConformsTo, IsTopOf}
use Rattle.ocl_environments.specs.declared.fault.TypeFault.{TypeFault}
use Rattle.ocl_environments.specs.Environments.{no_meta, meta_at, class_of, AreWell, is_over, is_over_step}
use Rattle.ocl_environments.specs.Conformance.{ConformsBy, TypeConforms}
use Rattle.ocl_environments.specs.Outcomes.{wrong_type}
use Rattle.ocl_environments.specs.Agreement.{fits, higher, all_fit, agreed, upper, IsTop}
use Rattle.ocl_types.specs.TypeRules.{top_judged, DoNotAgree}
use Rattle.std.proofs.lemmas.Bool.{and_parts}
use Rattle.ocl_types.proofs.UpperLaws.{fits_exactly, agreed_complete, among_scanned}
use Rattle.ocl_types.proofs.JudgedLaws.{Decides, ok_err, err_err, says_decides}
use Rattle.ocl_types.proofs.LayerLaws.{by_layer, is_class, class_of_class}
use Rattle.ocl_types.specs.TypedContext.{AreOver}
use Rattle.ocl_types.proofs.ConformanceLaws.{first_in, later_in, in_two, agreed_top, upper_top}

module _ (metas : List MetaDesc) where
  -- a class of the metamodels is one of its metamodel
  over_layer : (l : of.Ty-F Ty) (c : ℕ × ClassId) → is_over metas (roll-Ty l) ≡ true → class_of (roll-Ty l) ≡ Some c → (c.0 < length metas) × (c.1.0 < class_count (meta_at metas c.0))
  over_layer l c over at =
      let same : roll-Ty l ≡ types.Class c.0 c.1 = is_class (roll-Ty l) c at in
      let step : (nat_lt c.0 (length metas) && nat_lt c.1.0 (class_count (meta_at metas c.0))) ≡ true =
      sym (fold-roll-Ty Bool (is_over_step metas) (of.Class c.0 c.1)) ∙ ap (is_over metas) (types.rolls-Class c.0 c.1) ∙ sym (ap (is_over metas) same) ∙ over in
      let both = and_parts (nat_lt c.0 (length metas)) (nat_lt c.1.0 (class_count (meta_at metas c.0))) step in
      (ltb-true _ _ both.0, ltb-true _ _ both.1)

  class_within : (ty : Ty) (c : ℕ × ClassId) → is_over metas ty ≡ true → class_of ty ≡ Some c → (c.0 < length metas) × (c.1.0 < class_count (meta_at metas c.0))
  class_within ty c = by_layer (λ t. is_over metas t ≡ true → class_of t ≡ Some c → (c.0 < length metas) × (c.1.0 < class_count (meta_at metas c.0))) (λ l. over_layer l c) ty

  -- a type of the metamodels conforms to itself
  itself : (a : Ty) → is_over metas a ≡ true → TypeConforms metas a a
  itself a over = by (class_of a) refl
    where
      by : (o : Option (ℕ × ClassId)) → class_of a ≡ o → ConformsBy metas a a o o
      by (Some c) at = let within = class_within a c over at in (refl, (within.0, within.1, ([], refl)))
      by None at = refl

  -- what conforms by the definition does so as the checker's test says
  pub to_conforms : (a b : Ty) → is_over metas a ≡ true → ConformsTo metas a b → TypeConforms metas a b
  to_conforms a b over (inl same) = subst (TypeConforms metas a) same (itself a over)
  to_conforms a b over (inr sub) =
      let first : class_of a ≡ Some (sub.m, sub.class) = ap class_of sub.first ∙ class_of_class sub.m sub.class in
      let second : class_of b ≡ Some (sub.m, sub.super) = ap class_of sub.second ∙ class_of_class sub.m sub.super in
      let same : meta_at metas sub.m ≡ sub.meta = get_or_from_slice_get metas sub.m sub.meta no_meta sub.found in
      let inside : sub.class.0 < class_count (meta_at metas sub.m) = subst (λ d. sub.class.0 < class_count d) (sym same) sub.within in
      let path : Conforms (meta_at metas sub.m) sub.class.0 sub.super.0 = subst (λ d. Conforms d sub.class.0 sub.super.0) (sym same) sub.conforms in
      subst (λ o. ConformsBy metas a b o (class_of b)) (sym first)
      (subst (λ o. ConformsBy metas a b (Some (sub.m, sub.class)) o) (sym second) (refl, (slice_get_within metas sub.m sub.meta sub.found, inside, path)))

  -- two classes that conform to each other are one
  no_circle : (meta : MetaDesc) → WellMeta meta → (c d : ℕ) → c < class_count meta → Conforms meta c d → Conforms meta d c → c ≡ d
  no_circle meta well c d within ([], same) back = same
  no_circle meta well c d within (e ∷ path, (super, rest)) back =
      let circle = conforms_through meta e d c (path, rest) back in
      absurd (well.acyclic c within (e, circle.0, super, circle.1))

  module _ (well : AreWell metas) where
    one_class : (a b : Ty) → TypeConforms metas a b → TypeConforms metas b a → a ≡ b
    one_class a b there back = by (class_of a) (class_of b) refl refl there back
      where
        by : (x y : Option (ℕ × ClassId)) → class_of a ≡ x → class_of b ≡ y → ConformsBy metas a b x y → ConformsBy metas b a y x → a ≡ b
        by (Some c) (Some d) one other there back =
            let meta : c.0 ≡ d.0 = there.0 in
            let closed : Conforms (meta_at metas c.0) d.1.0 c.1.0 = subst (λ m. Conforms (meta_at metas m) d.1.0 c.1.0) (sym meta) back.1.2 in
            let class : c.1.0 ≡ d.1.0 = no_circle (meta_at metas c.0) (well c.0 no_meta there.1.0) c.1.0 d.1.0 there.1.1 there.1.2 closed in
            let same : types.Class c.0 c.1 ≡ types.Class d.0 d.1 = λ i. types.Class (meta i) (record { 0 = class i }) in
            is_class a c one ∙ same ∙ sym (is_class b d other)
        by (Some c) None one other there back = there
        by None y one other there back = there

    -- two types that conform to each other are one
    pub one_type : (a b : Ty) → is_over metas a ≡ true → is_over metas b ≡ true → ConformsTo metas a b → ConformsTo metas b a → a ≡ b
    one_type a b one other there back = one_class a b (to_conforms a b one there) (to_conforms b a other back)

    pub fits_where : (a b : Ty) → is_over metas a ≡ true → ConformsTo metas a b → fits metas a b ≡ true
    fits_where a b over is = (fits_exactly metas well a b).1 (to_conforms a b over is)

    -- ---- a type to which several conform

    top_is : (tys : List Ty) (t : Ty) → AreOver metas tys → IsTopOf metas tys t → IsTop metas tys t
    top_is tys t over top = record {
      among = top.among;
      above = passes_all (λ ty. fits metas ty t) tys (λ ty among. fits_where ty t (over ty among) (top.above ty among));
    }

    -- where there is one, that is computed
    pub agreed_where : (ty t : Ty) (tys : List Ty) → AreOver metas (ty ∷ tys) → IsTopOf metas (ty ∷ tys) t → agreed metas ty tys ≡ Ok t
    agreed_where ty t tys over top =
        let known = agreed_complete metas well ty t tys (top_is (ty ∷ tys) t over top) in
        let found : Ty = fold (higher metas) ty tys in
        let other : IsTopOf metas (ty ∷ tys) found = agreed_top metas well ty found tys known in
        known ∙ ap (λ u. Ok u) (one_type found t (over found other.among) (over t top.among) (top.above found other.among) (other.above t top.among))

    misfit : (top : Ty) (tys : List Ty) (f : TypeFault) → all_fit metas top tys ≡ Err f → (ty : Ty) × Contains tys ty × (fits metas ty top ≡ false) × (f ≡ wrong_type metas top ty)
    misfit top [] f is = absurd (ok_err (all_fit metas top []) top f refl is)
    misfit top (x ∷ tys) f is = by (fits metas x top) refl is (misfit top tys f)
      where
        by : (b : Bool) → fits metas x top ≡ b → (if b then all_fit metas top tys else Err (wrong_type metas top x)) ≡ Err f
            → (all_fit metas top tys ≡ Err f → (ty : Ty) × Contains tys ty × (fits metas ty top ≡ false) × (f ≡ wrong_type metas top ty))
            → (ty : Ty) × Contains (x ∷ tys) ty × (fits metas ty top ≡ false) × (f ≡ wrong_type metas top ty)
        by true at is later = let o = later is in (o.0, later_in x o.0 tys o.1, o.2, o.3)
        by false at is later = (x, first_in x x tys refl, at, sym (err_err (Err (wrong_type metas top x)) (wrong_type metas top x) f refl is))

    misfit_is : (a b : Ty) → is_over metas a ≡ true → fits metas a b ≡ false → ConformsTo metas a b → ⊥
    misfit_is a b over isnt is = false≢true (sym isnt ∙ fits_where a b over is)

    -- where there is none, the fault names two that don't go together
    pub agreed_fault : (ty : Ty) (tys : List Ty) (f : TypeFault) → AreOver metas (ty ∷ tys) → agreed metas ty tys ≡ Err f → DoNotAgree metas (ty ∷ tys) f
    agreed_fault ty tys f over is =
        let top : Ty = fold (higher metas) ty tys in
        let o = misfit top (ty ∷ tys) f is in
        let among : Contains (ty ∷ tys) top = ⊎_elim (λ (same : top ≡ ty). first_in ty top tys (sym same)) (λ (there : Contains tys top). later_in ty top tys there) (among_scanned metas ty tys) in
        (top, o.0, among, o.1, misfit_is o.0 top (over o.0 o.1) o.2, o.3)

    -- ---- two types

    AreBoth : (a b : Ty) → is_over metas a ≡ true → is_over metas b ≡ true → AreOver metas (a ∷ b ∷ [])
    AreBoth a b one other = λ ty among. in_two (λ t. is_over metas t ≡ true) a b one other ty among

    pub upper_where : (a b t : Ty) → is_over metas a ≡ true → is_over metas b ≡ true → IsTopOf metas (a ∷ b ∷ []) t → upper metas a b ≡ Ok t
    upper_where a b t one other top = agreed_where a t (b ∷ []) (AreBoth a b one other) top

    pub upper_fault : (a b : Ty) (f : TypeFault) → is_over metas a ≡ true → is_over metas b ≡ true → upper metas a b ≡ Err f → f ≡ wrong_type metas a b
    upper_fault a b f one other is = by (fits metas a b) refl is
      where
        own : (t : Ty) → is_over metas t ≡ true → fits metas t t ≡ true
        own t over = fits_where t t over (inl refl)

        last : (t : Ty) (x : Bool) → x ≡ true → (if x then Ok t else Err (wrong_type metas t t)) ≡ Err f → ⊥
        last t true at is = ok_err (Ok t) t f refl is
        last t false at is = false≢true at

        first : (t u : Ty) (x y : Bool) → x ≡ true → (if x then (if y then Ok t else Err (wrong_type metas t u)) else Err (wrong_type metas t t)) ≡ Err f → f ≡ wrong_type metas t u
        first t u true true at is = absurd (ok_err (Ok t) t f refl is)
        first t u true false at is = sym (err_err (Err (wrong_type metas t u)) (wrong_type metas t u) f refl is)
        first t u false y at is = absurd (false≢true at)

        higher_fits : (x : Bool) → x ≡ true → all_fit metas b (a ∷ b ∷ []) ≡ Err f → fits metas a b ≡ x → ⊥
        higher_fits x at is same = last b (fits metas b b) (own b other) (sym (ap (λ q. if q then all_fit metas b (b ∷ []) else Err (wrong_type metas b a)) (same ∙ at)) ∙ is)

        by : (x : Bool) → fits metas a b ≡ x → all_fit metas (if x then b else a) (a ∷ b ∷ []) ≡ Err f → f ≡ wrong_type metas a b
        by true at is = absurd (higher_fits true refl is at)
        by false at is = first a b (fits metas a a) (fits metas b a) (own a one) is

    pub upper_decides : (a b : Ty) → is_over metas a ≡ true → is_over metas b ≡ true → Decides (upper metas a b) (top_judged metas a b)
    upper_decides a b one other = says_decides (upper metas a b) (IsTopOf metas (a ∷ b ∷ [])) (λ f. f ≡ wrong_type metas a b)
        (λ t is. upper_top metas well a b t is) (λ t top. upper_where a b t one other top) (λ f is. upper_fault a b f one other is)
