-- Whether a type conforms to another, and to that of a property, by the tests.
use Rattle.std.proofs.Common.{◌≡◌, ◌<◌, ◌&&◌, ℕ, List, true, false, Option, None, Some, refl, sym, ap, ◌∙◌, subst, length}
use Rattle.std.specs.Prelude.{◌==◌, nat_eq, nat_lt}
use Rattle.std.specs.List.{list_any}
use Rattle.std.specs.Option.{option_map_or}
use Rattle.std.proofs.lemmas.Bool.{eqb-true, eq-eqb, ltb-true, lt-ltb}
use Rattle.std.proofs.lemmas.List.Elements.{All-contains}
use Rattle.std.proofs.lemmas.Option.{get_or_from_slice_get}
use Rattle.mof_metamodel.specs.declared.desc.MetaDesc.{MetaDesc}
use Rattle.mof_metamodel.specs.declared.desc.ClassId.{ClassId}
use Rattle.mof_metamodel.specs.declared.desc.PropId.{PropId}
use Rattle.mof_metamodel.specs.declared.desc.PropType.{PropType}
use Rattle.mof_metamodel.specs.Metamodels.{class_count, lineage_of, type_of}
use Rattle.mof_metamodel.specs.MetaFaults.{WellMeta}
use Rattle.mof_metamodel.proofs.LineageLemmas.{conforms_exactly, grounded_from_acyclic}
use Rattle.qv_syntax.specs.declared.ty.Ty.{Ty}
use Rattle.ocl_environments.specs.Environments.{meta_at, no_meta, AreWell, class_of}
use Rattle.ocl_environments.specs.Agreement.{class_fits, fits_by, fits}
use Rattle.ocl_environments.specs.Conformance.{ClassConforms, ConformsBy, TypeConforms}
use Rattle.ocl_environments.specs.Navigation.{value_type}
use Rattle.ocl_environments.proofs.TypeLaws.{same_is_one}
use Rattle.enforcement_rules.specs.Patterns.{FitsProperty}
use Rattle.enforcement_rules.specs.PatternTests.{fits_property}
use Rattle.enforcement_rules.proofs.ListLaws.{within_some, some_among, and_first, and_second, and_both}

module _ (metas : List MetaDesc) (well : AreWell metas) where
  well_at : (m : ℕ) → m < length metas → WellMeta (meta_at metas m)
  well_at m below =
      let found = within_some metas m below in
      subst WellMeta (sym (get_or_from_slice_get metas m found.0 no_meta found.1)) (All-contains WellMeta metas found.0 well (some_among metas m found.0 found.1))

  class_told : (m : ℕ) (c d : ClassId) → class_fits metas m c d ≡ true → ClassConforms metas m c d
  class_told m c d h =
      let both = and_first (nat_lt m (length metas) && nat_lt c.0 (class_count (meta_at metas m))) (list_any (nat_eq d.0) (lineage_of (meta_at metas m) c.0)) h in
      let below = ltb-true m (length metas) (and_first (nat_lt m (length metas)) (nat_lt c.0 (class_count (meta_at metas m))) both) in
      let within = ltb-true c.0 (class_count (meta_at metas m)) (and_second (nat_lt m (length metas)) (nat_lt c.0 (class_count (meta_at metas m))) both) in (
        below,
        within,
        (conforms_exactly (meta_at metas m) (grounded_from_acyclic (meta_at metas m) (well_at m below).acyclic) c.0 d.0 within).0
            (and_second (nat_lt m (length metas) && nat_lt c.0 (class_count (meta_at metas m))) (list_any (nat_eq d.0) (lineage_of (meta_at metas m) c.0)) h),
      )

  told_class : (m : ℕ) (c d : ClassId) → ClassConforms metas m c d → class_fits metas m c d ≡ true
  told_class m c d (below, within, conforms) =
      and_both (nat_lt m (length metas) && nat_lt c.0 (class_count (meta_at metas m))) (list_any (nat_eq d.0) (lineage_of (meta_at metas m) c.0))
      (and_both (nat_lt m (length metas)) (nat_lt c.0 (class_count (meta_at metas m))) (lt-ltb m (length metas) below) (lt-ltb c.0 (class_count (meta_at metas m)) within))
      ((conforms_exactly (meta_at metas m) (grounded_from_acyclic (meta_at metas m) (well_at m below).acyclic) c.0 d.0 within).1 conforms)

  by_told : (a b : Ty) (c d : Option (ℕ × ClassId)) → fits_by metas a b c d ≡ true → ConformsBy metas a b c d
  by_told a b (Some c) (Some d) h = (eqb-true c.0 d.0 (and_first (c.0 == d.0) (class_fits metas c.0 c.1 d.1) h), class_told c.0 c.1 d.1 (and_second (c.0 == d.0) (class_fits metas c.0 c.1 d.1) h))
  by_told a b (Some c) None h = (same_is_one a b).0 h
  by_told a b None d h = (same_is_one a b).0 h

  told_by : (a b : Ty) (c d : Option (ℕ × ClassId)) → ConformsBy metas a b c d → fits_by metas a b c d ≡ true
  told_by a b (Some c) (Some d) h = and_both (c.0 == d.0) (class_fits metas c.0 c.1 d.1) (eq-eqb c.0 d.0 h.0) (told_class c.0 c.1 d.1 h.1)
  told_by a b (Some c) None h = (same_is_one a b).1 h
  told_by a b None d h = (same_is_one a b).1 h

  pub fits_told : (a b : Ty) → fits metas a b ≡ true → TypeConforms metas a b
  fits_told a b h = by_told a b (class_of a) (class_of b) h

  pub told_fits : (a b : Ty) → TypeConforms metas a b → fits metas a b ≡ true
  told_fits a b h = told_by a b (class_of a) (class_of b) h

  pub property_told : (meta : ℕ) (prop : PropId) (ty : Ty) → fits_property metas meta prop ty ≡ true → FitsProperty metas meta prop ty
  property_told meta prop ty h = by (type_of (meta_at metas meta) prop.0) refl h
    where
      by : (o : Option PropType) → type_of (meta_at metas meta) prop.0 ≡ o → option_map_or (λ of. fits metas ty (value_type meta of)) o false ≡ true → FitsProperty metas meta prop ty
      by None e g = absurd (cc)
      by (Some of) e g = record { of = of; typed = e; conforms = fits_told ty (value_type meta of) g }

  pub told_property : (meta : ℕ) (prop : PropId) (ty : Ty) → FitsProperty metas meta prop ty → fits_property metas meta prop ty ≡ true
  told_property meta prop ty f = ap (λ (o : Option PropType). option_map_or (λ of. fits metas ty (value_type meta of)) o false) f.typed ∙ told_fits ty (value_type meta f.of) f.conforms
