-- What several types agree on: one of them, to which all conform, if there is one.
use Rattle.std.proofs.Common.{◌≡◌, ℕ, ◌<◌, Bool, true, false, ◌&&◌, if◌then◌else◌, List, [], ◌∷◌, ◌++◌, Option, Some, None, length, fold, refl, sym, ◌∙◌, subst, ◌⊎◌, ⊎_elim, inl, inr, arith, Ok, Err}
use Rattle.std.specs.Prelude.{nat_eq, nat_lt, ◌==◌, Contains, IsTrue, ◌↔◌}
use Rattle.std.specs.List.{list_any, list_all}
use Rattle.std.proofs.lemmas.Bool.{eqb-true, false≢true, ltb-true, cond-true, cond-false, lt-ltb}
use Rattle.std.proofs.Common.{eq-eqb}
use Rattle.std.proofs.lemmas.Bool.Decides.{nat_tests}
use Rattle.std.proofs.lemmas.List.Elements.{Contains-append_left, Contains-append_right, Contains-append_cases, Contains-push_cases, Contains-push}
use Rattle.mof_metamodel.specs.declared.desc.MetaDesc.{MetaDesc}
use Rattle.mof_metamodel.specs.declared.desc.ClassId.{ClassId}
use Rattle.mof_metamodel.specs.Metamodels.{class_count, lineage_of, IsPath}
use Rattle.mof_metamodel.specs.MetaFaults.{WellMeta}
use Rattle.mof_metamodel.proofs.LineageLemmas.{Has, conforms_exactly, grounded_from_acyclic}
use Rattle.qv_syntax.specs.declared.ty.Ty.{Ty}
use Rattle.ocl_environments.specs.Environments.{no_meta, meta_at, class_of, AreWell}
use Rattle.ocl_environments.specs.Outcomes.{wrong_type}
use Rattle.ocl_environments.specs.Agreement.{class_fits, fits_by, fits, higher, all_fit, agreed, IsTop}
use Rattle.ocl_environments.proofs.TypeLaws.{same_types, same_is_one}
use Rattle.std.proofs.lemmas.Bool.{and_from}
use Rattle.std.proofs.lemmas.Bool.{and_parts}
use Rattle.ocl_environments.specs.Conformance.{ClassConforms, ConformsBy, TypeConforms}
use Rattle.mof_metamodel.proofs.Facts.{nothing_in, only_one}

three_true : (a b c : Bool) → (a && b && c) ≡ true → (a ≡ true) × (b ≡ true) × (c ≡ true)
three_true true true c is = (refl, refl, is)
three_true true false c is = absurd (false≢true is)
three_true false b c is = absurd (false≢true is)

all_true : (a b c : Bool) → a ≡ true → b ≡ true → c ≡ true → (a && b && c) ≡ true
all_true a b c x y z = rw (x, y, z) refl

path_joined : (desc : MetaDesc) (a b c : ℕ) (p q : List ℕ) → IsPath desc a p b → IsPath desc b q c → IsPath desc a (p ++ q) c
path_joined desc a b c [] q ab bc = subst (λ x. IsPath desc x q c) (sym ab) bc
path_joined desc a b c (e ∷ p) q ab bc = (ab.0, path_joined desc e b c p q ab.1 bc)

listed_joined : (desc : MetaDesc) (a b c : ℕ) → WellMeta desc → a < class_count desc → b < class_count desc → Has (lineage_of desc a) b → Has (lineage_of desc b) c → Has (lineage_of desc a) c
listed_joined desc a b c well within inside ab bc =
    let ground = grounded_from_acyclic desc well.acyclic in
    let first = (conforms_exactly desc ground a b within).0 ab in
    let second = (conforms_exactly desc ground b c inside).0 bc in
    (conforms_exactly desc ground a c within).1 (first.0 ++ second.0, path_joined desc a b c first.0 second.0 first.1 second.1)

module _ (metas : List MetaDesc) (well : AreWell metas) where
  class_joined : (m : ℕ) (c d e : ClassId) → class_fits metas m c d ≡ true → class_fits metas m d e ≡ true → class_fits metas m c e ≡ true
  class_joined m c d e cd de =
      let first = three_true (nat_lt m (length metas)) (nat_lt c.0 (class_count (meta_at metas m))) (list_any (nat_eq d.0) (lineage_of (meta_at metas m) c.0)) cd in
      let second = three_true (nat_lt m (length metas)) (nat_lt d.0 (class_count (meta_at metas m))) (list_any (nat_eq e.0) (lineage_of (meta_at metas m) d.0)) de in
      all_true _ _ _ first.0 first.1
      (listed_joined (meta_at metas m) c.0 d.0 e.0 (well m no_meta (ltb-true _ _ first.0)) (ltb-true _ _ first.1) (ltb-true _ _ second.1) first.2 second.2)

  by_joined : (a b c : Ty) (x y z : Option (ℕ × ClassId)) → fits_by metas a b x y ≡ true → fits_by metas b c y z ≡ true → (a ≡ b) ⊎ ((b ≡ c) ⊎ (fits_by metas a c x z ≡ true))
  by_joined a b c (Some x) (Some y) (Some z) ab bc =
      let first = and_parts (x.0 == y.0) (class_fits metas x.0 x.1 y.1) ab in
      let second = and_parts (y.0 == z.0) (class_fits metas y.0 y.1 z.1) bc in
      let xy : x.0 ≡ y.0 = eqb-true x.0 y.0 first.0 in
      let yz : y.0 ≡ z.0 = eqb-true y.0 z.0 second.0 in
      let joined : class_fits metas x.0 x.1 z.1 ≡ true = class_joined x.0 x.1 y.1 z.1 first.1 (subst (λ m. class_fits metas m y.1 z.1 ≡ true) (sym xy) second.1) in
      inr (inr (and_from _ _ (eq-eqb x.0 z.0 (xy ∙ yz)) joined))
  by_joined a b c (Some x) (Some y) None ab bc = inr (inl (same_types b c bc))
  by_joined a b c (Some x) None z ab bc = inl (same_types a b ab)
  by_joined a b c None y z ab bc = inl (same_types a b ab)

  pub fits_joined : (a b c : Ty) → fits metas a b ≡ true → fits metas b c ≡ true → fits metas a c ≡ true
  fits_joined a b c ab bc = ⊎_elim
      (λ (same : a ≡ b). subst (λ t. fits metas t c ≡ true) (sym same) bc)
      (λ (rest : (b ≡ c) ⊎ (fits_by metas a c (class_of a) (class_of c) ≡ true)). ⊎_elim (λ (same : b ≡ c). subst (λ t. fits metas a t ≡ true) same ab) (λ (done : fits metas a c ≡ true). done) rest)
      (by_joined a b c (class_of a) (class_of b) (class_of c) ab bc)

  -- A type to which all conform conforms to what the scan finds.
  scanned : (t cur : Ty) (types : List Ty) → fits metas cur t ≡ true → list_all (λ ty. fits metas ty t) types ≡ true
      → (Contains types t) ⊎ (fits metas t cur ≡ true) → fits metas t (fold (higher metas) cur types) ≡ true
  scanned t cur [] below all (inl in_none) = absurd (nothing_in t in_none)
  scanned t cur [] below all (inr above) = above
  scanned t cur (x ∷ types) below all found =
      let both = and_parts (fits metas x t) (list_all (λ ty. fits metas ty t) types) all in
      let next : fits metas (higher metas cur x) t ≡ true = either_below t cur x (fits metas cur x) below both.0 in
      scanned t (higher metas cur x) types next both.1 (carried t cur x types below both.0 found)
    where
      either_below : (t cur x : Ty) (b : Bool) → fits metas cur t ≡ true → fits metas x t ≡ true → fits metas (if b then x else cur) t ≡ true
      either_below t cur x true below head = head
      either_below t cur x false below head = below

      moved : (t cur x : Ty) (b : Bool) → fits metas cur x ≡ b → fits metas t cur ≡ true → fits metas t (if b then x else cur) ≡ true
      moved t cur x true up above = fits_joined t cur x above up
      moved t cur x false up above = above

      carried : (t cur x : Ty) (types : List Ty) → fits metas cur t ≡ true → fits metas x t ≡ true → (Contains (x ∷ types) t) ⊎ (fits metas t cur ≡ true)
          → (Contains types t) ⊎ (fits metas t (higher metas cur x) ≡ true)
      carried t cur x types below head (inr above) = inr (moved t cur x (fits metas cur x) refl above)
      carried t cur x types below head (inl among) = ⊎_elim
          (λ (here : Contains (x ∷ []) t).
          let same : x ≡ t = only_one x t here in
          let up : fits metas cur x ≡ true = subst (λ u. fits metas cur u ≡ true) (sym same) below in
          let self : fits metas t x ≡ true = subst (λ u. fits metas u x ≡ true) same (subst (λ u. fits metas x u ≡ true) (sym same) head) in
          inr (subst (λ b. fits metas t (if b then x else cur) ≡ true) (sym up) self))
          (λ (there : Contains types t). inl there)
          (Contains-append_cases (x ∷ []) types t among)

  lifted : (t top : Ty) (types : List Ty) → fits metas t top ≡ true → list_all (λ ty. fits metas ty t) types ≡ true → list_all (λ ty. fits metas ty top) types ≡ true
  lifted t top [] up all = refl
  lifted t top (x ∷ types) up all =
      let both = and_parts (fits metas x t) (list_all (λ ty. fits metas ty t) types) all in
      and_from _ _ (fits_joined x t top both.0 up) (lifted t top types up both.1)

  all_fitting : (top : Ty) (types : List Ty) → list_all (λ ty. fits metas ty top) types ≡ true → all_fit metas top types ≡ Ok top
  all_fitting top [] all = refl
  all_fitting top (x ∷ types) all =
      let both = and_parts (fits metas x top) (list_all (λ ty. fits metas ty top) types) all in
      rw both.0 (all_fitting top types both.1)

  split : (ty t : Ty) (types : List Ty) → Contains (ty ∷ types) t → (Contains types t) ⊎ (ty ≡ t)
  split ty t types among = ⊎_elim (λ (here : Contains (ty ∷ []) t). inr (only_one ty t here)) (λ (there : Contains types t). inl there) (Contains-append_cases (ty ∷ []) types t among)

  -- where one of the types has all below it, the scan finds one, and the fault doesn't come
  pub agreed_complete : (ty t : Ty) (types : List Ty) → IsTop metas (ty ∷ types) t → agreed metas ty types ≡ Ok (fold (higher metas) ty types)
  agreed_complete ty t types top =
      let both = and_parts (fits metas ty t) (list_all (λ s. fits metas s t) types) top.above in
      let placed : (Contains types t) ⊎ (fits metas t ty ≡ true) = ⊎_elim (λ (there : Contains types t). inl there)
      (λ (same : ty ≡ t). inr (subst (λ u. fits metas u ty ≡ true) same (subst (λ u. fits metas ty u ≡ true) (sym same) both.0))) (split ty t types top.among) in
      let up : fits metas t (fold (higher metas) ty types) ≡ true = scanned t ty types both.0 both.1 placed in
      all_fitting (fold (higher metas) ty types) (ty ∷ types) (lifted t (fold (higher metas) ty types) (ty ∷ types) up top.above)

module _ (metas : List MetaDesc) (well : AreWell metas) where
  class_fits_exactly : (m : ℕ) (c d : ClassId) → IsTrue (class_fits metas m c d) ↔ ClassConforms metas m c d
  class_fits_exactly m c d = (there, back)
    where
      there : IsTrue (class_fits metas m c d) → ClassConforms metas m c d
      there is =
          let all = three_true (nat_lt m (length metas)) (nat_lt c.0 (class_count (meta_at metas m))) (list_any (nat_eq d.0) (lineage_of (meta_at metas m) c.0)) is in
          let within : m < length metas = ltb-true _ _ all.0 in
          let inside : c.0 < class_count (meta_at metas m) = ltb-true _ _ all.1 in
          (within, inside, (conforms_exactly (meta_at metas m) (grounded_from_acyclic (meta_at metas m) (well m no_meta within).acyclic) c.0 d.0 inside).0 all.2)

      back : ClassConforms metas m c d → IsTrue (class_fits metas m c d)
      back is =
          let within : nat_lt m (length metas) ≡ true = lt-ltb _ _ is.0 in
          let inside : nat_lt c.0 (class_count (meta_at metas m)) ≡ true = lt-ltb _ _ is.1 in
          all_true _ _ _ within inside ((conforms_exactly (meta_at metas m) (grounded_from_acyclic (meta_at metas m) (well m no_meta is.0).acyclic) c.0 d.0 is.1).1 is.2)

  by_exactly : (a b : Ty) (x y : Option (ℕ × ClassId)) → IsTrue (fits_by metas a b x y) ↔ ConformsBy metas a b x y
  by_exactly a b (Some c) (Some d) =
      let exact = class_fits_exactly c.0 c.1 d.1 in (
        λ is. let both = and_parts (c.0 == d.0) (class_fits metas c.0 c.1 d.1) is in (eqb-true c.0 d.0 both.0, exact.0 both.1),
        λ is. and_from _ _ (eq-eqb c.0 d.0 is.0) (exact.1 is.1),
      )
  by_exactly a b (Some c) None = same_is_one a b
  by_exactly a b None y = same_is_one a b

  -- the test tells conformance
  pub fits_exactly : (a b : Ty) → IsTrue (fits metas a b) ↔ TypeConforms metas a b
  fits_exactly a b = by_exactly a b (class_of a) (class_of b)

module _ (metas : List MetaDesc) where
  pub among_scanned : (cur : Ty) (types : List Ty) → (fold (higher metas) cur types ≡ cur) ⊎ Contains types (fold (higher metas) cur types)
  among_scanned cur [] = inl refl
  among_scanned cur (x ∷ types) = by (fits metas cur x) refl (among_scanned (higher metas cur x) types)
    where
      last : Ty
      last = fold (higher metas) (higher metas cur x) types

      by : (b : Bool) → fits metas cur x ≡ b → (fold (higher metas) (higher metas cur x) types ≡ higher metas cur x) ⊎ Contains types (fold (higher metas) (higher metas cur x) types)
          → (fold (higher metas) (higher metas cur x) types ≡ cur) ⊎ Contains (x ∷ types) (fold (higher metas) (higher metas cur x) types)
      by b is (inr there) = inr (Contains-append_right (x ∷ []) types _ there)
      by true is (inl same) = inr (Contains-append_left (x ∷ []) types _ (subst (Contains (x ∷ [])) (sym (same ∙ cond-true (fits metas cur x) x cur is)) (Contains-push [] x)))
      by false is (inl same) = inl (same ∙ cond-false (fits metas cur x) x cur is)

  found_fitting : (top t : Ty) (types : List Ty) → all_fit metas top types ≡ Ok t → (t ≡ top) × (list_all (λ ty. fits metas ty top) types ≡ true)
  found_fitting top t [] is = (cc, refl)
  found_fitting top t (x ∷ types) is = by (fits metas x top) (found_fitting top t types) is
    where
      by : (b : Bool) → (all_fit metas top types ≡ Ok t → (t ≡ top) × (list_all (λ ty. fits metas ty top) types ≡ true))
          → (if b then all_fit metas top types else Err (wrong_type metas top x)) ≡ Ok t → (t ≡ top) × ((b && list_all (λ ty. fits metas ty top) types) ≡ true)
      by true more is = more is
      by false more is = absurd (cc)

  -- what is agreed on is one of the types, and all conform to it
  pub agreed_sound : (ty t : Ty) (types : List Ty) → agreed metas ty types ≡ Ok t → IsTop metas (ty ∷ types) t
  agreed_sound ty t types is =
      let found = found_fitting (fold (higher metas) ty types) t (ty ∷ types) is in
      record {
        among = subst (Contains (ty ∷ types)) (sym found.0) (⊎_elim
            (λ (same : fold (higher metas) ty types ≡ ty). Contains-append_left (ty ∷ []) types _ (subst (Contains (ty ∷ [])) (sym same) (Contains-push [] ty)))
            (λ (there : Contains types (fold (higher metas) ty types)). Contains-append_right (ty ∷ []) types _ there)
            (among_scanned ty types));
        above = subst (λ u. IsTrue (list_all (λ s. fits metas s u) (ty ∷ types))) (sym found.0) found.1;
      }
