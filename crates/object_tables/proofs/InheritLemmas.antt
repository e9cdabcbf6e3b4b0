-- What a metamodel says of the classes at the ends of an opposite pair.
use Rattle.std.proofs.Common.{◌≡◌, ℕ, ◌<◌, ap, sym, subst, Some, None, true, inl, inr}
use Rattle.std.specs.Prelude.{Contains}
use Rattle.std.proofs.lemmas.Bool.{cases_lt}
use Rattle.std.proofs.lemmas.List.{get_or_past}
use Rattle.mof_metamodel.specs.declared.desc.MetaDesc.{MetaDesc}
use Rattle.mof_metamodel.specs.Metamodels.{class_count, no_prop, props_of, prop_count, prop_at, opposite_number, opposite_of, type_of}
use Rattle.mof_metamodel.specs.WellMeta.{WellMeta, AreOpposites}
use Rattle.mof_metamodel.proofs.MetaLaws.{has_exactly}
use Rattle.object_tables.specs.Models.{is_class_type, ConformsTo}

-- what the ends of an opposite pair have to do with each other
pub record IsPairOf (desc : MetaDesc) (p q : ℕ) : Type 0 where
  pub within : q < prop_count desc
  pub back : opposite_of desc q ≡ Some p
  pub other : q ≡ p → ⊥
  pub near_class : is_class_type (type_of desc p) ≡ true
  pub far_class : is_class_type (type_of desc q) ≡ true
  -- a class conforms to the one's type exactly where it has the other
  pub near_has : (c : ℕ) → c < class_count desc → ConformsTo desc c (type_of desc p) → Contains (props_of desc c) q
  pub far_fits : (c : ℕ) → c < class_count desc → Contains (props_of desc c) p → ConformsTo desc c (type_of desc q)
  pub one_whole : (prop_at desc p).composite ≡ true → (prop_at desc q).composite ≡ true → ⊥

opposite_known : (desc : MetaDesc) (p q : ℕ) → opposite_of desc p ≡ Some q → p < prop_count desc
opposite_known desc p q e = elim (cases_lt p (prop_count desc)) [
  | inl l ↦ l
  | inr le ↦ (let none : opposite_of desc p ≡ None = ap (λ d. opposite_number desc d.1.opposite) (get_or_past _ p (0, no_prop) le) in absurd cc)
]

pub pair_of_opposites : (desc : MetaDesc) (p q : ℕ) → WellMeta desc → opposite_of desc p ≡ Some q → IsPairOf desc p q
pair_of_opposites desc p q w e =
    let l : p < prop_count desc = opposite_known desc p q e in
    let o : AreOpposites desc p q = w.opposites p q l e in
    let lq : q < prop_count desc = opposite_known desc q p o.back in
    record {
      within = lq;
      back = o.back;
      other = o.other;
      near_class = ap is_class_type o.type;
      far_class = ap is_class_type o.back_type;
      near_has = λ c lc h. (has_exactly desc c lc q lq).1 (subst (ConformsTo desc c) o.type h);
      far_fits = λ c lc h. subst (ConformsTo desc c) (sym o.back_type) ((has_exactly desc c lc p l).0 h);
      one_whole = w.containers p q l e;
    }

pub opposite_back : (desc : MetaDesc) (p q : ℕ) → WellMeta desc → p < prop_count desc → opposite_of desc p ≡ Some q → opposite_of desc q ≡ Some p
opposite_back desc p q w l e = (w.opposites p q l e).back

pub opposite_other : (desc : MetaDesc) (p q : ℕ) → WellMeta desc → p < prop_count desc → opposite_of desc p ≡ Some q → q ≡ p → ⊥
opposite_other desc p q w l e = (w.opposites p q l e).other
