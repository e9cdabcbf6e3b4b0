-- Demanded terms, those within their keys, and what objects hold by the numbers of terms.
use Rattle.std.specs.Prelude.{◌≡◌, ◌-◌, ℕ, zero, suc, Bool, true, false, List, [], ◌∷◌, map, Option, None, Some, Contains, if◌then◌else◌}
use Rattle.std.specs.List.{list_any, flat_map}
use Rattle.std.specs.Option.{option_map, option_to_list}
use Rattle.std.specs.Ordering.{is_eq}
use Rattle.std.specs.declared.cmp.Ordering.TheVariants.{Equal}
use Rattle.std.proofs.Common.{refl, ap, sym, ◌∙◌, subst, arith, true≢false}
use Rattle.std.proofs.lemmas.Option.{none-some, same_Some}
use Rattle.std.proofs.lemmas.Bool.{eqb-true, eq-eqb}
use Rattle.mof_metamodel.specs.declared.desc.MetaDesc.{MetaDesc}
use Rattle.mof_metamodel.specs.declared.desc.PropId.{PropId}
use Rattle.mof_metamodel.specs.Metamodels.{type_of}
use Rattle.mof_metamodel.proofs.PropLemmas.{from_flat_map}
use Rattle.object_tables.specs.Models.{ModelData, is_class_type, values_at, partners_at, IsLinked}
use Rattle.qv_syntax.specs.declared.program.Program.{Program}
use Rattle.qvtr_semantics.specs.declared.datum.Datum.{Datum}
use Rattle.qvtr_semantics.specs.Objects.{value_datum}
use Rattle.template_match.proofs.ListLaws.{contains_later}
use Rattle.mof_metamodel.proofs.Facts.{contains_first}
use Rattle.enforcement_rules.proofs.ListLaws.{any_there, any_here, mapped_from}
use Rattle.mof_metamodel.proofs.Facts.{contains_map}
use Rattle.mof_metamodel.proofs.Facts.{nothing_in}
use Rattle.repair_semantics.specs.declared.term.Term.{Term, out-Term}
use Rattle.repair_semantics.specs.declared.term.TermValue.{TermValue, out-TermValue}
use Rattle.repair_semantics.specs.declared.term.TermValue.TheOpen as of
use Rattle.repair_semantics.specs.declared.demand.Demand.{Demand}
use Rattle.repair_semantics.specs.Terms.{term_in, datum_in, term_part, datum_part, same_term, term_order, each_once}
use Rattle.repair_semantics.specs.TargetItems.{target_meta_number}
use Rattle.repair_semantics.specs.Demands.{terms_in, demanded_terms}
use Rattle.repair_semantics.specs.Claims.{Held, same_held}
use Rattle.repair_semantics.specs.Conflicts as terms_of
use Rattle.repair_semantics.specs.Images.{same_number, holds}
use Rattle.repair_semantics.specs.Candidates.{held_by_number}
use Rattle.repair_semantics.proofs.TieLaws.{ties_are_one}
use Rattle.reading_laws.specs.Readings.{Numbering, held_as}
use Rattle.repair_laws.specs.Closed.{AreClosed}
use Rattle.repair_laws.specs.DemandedKeys.{IsDemandedAt, AreDemandedAt, IsDemandedByKey, IsInDemands}
use Rattle.repair_laws.proofs.DemandLaws.{in_flat_map}
use Rattle.repair_laws.proofs.StandingLaws.{once_keeps}
use Rattle.repair_laws.proofs.TermOrder.{once_from}

-- ---- demanded terms

option_from : (o : Option Term) (t : Term) → Contains (option_to_list o) t → o ≡ Some t
option_from None t c = absurd (nothing_in t c)
option_from (Some u) t (zero, below, is) = ap (λ x. Some x) is
option_from (Some u) t (suc k, below, is) = absurd (omega (arith, below))

pub demanded_in : (demands : List Demand) (t : Term) → Contains (demanded_terms demands) t → IsInDemands demands t
demanded_in demands t c =
    let (d, there, within) = from_flat_map terms_in demands t (once_from (flat_map terms_in demands) t c) in
    by d there within
  where
    by : (d : Demand) → Contains demands d → Contains (terms_in d) t → IsInDemands demands t
    by d there (zero, below, is) = IsInDemands.owner d there is
    by d there (suc k, below, is) = IsInDemands.value d there (option_from (term_in d.value) t (k, omega (arith, below), is))

respected : (t y z : Term) → term_order y z ≡ Equal → same_term t y ≡ true → same_term t z ≡ true
respected t y z tie same = ap (same_term t) (sym ((ties_are_one y z).0 (ap is_eq tie))) ∙ same

once_has : (xs : List Term) (t : Term) → Contains xs t → Contains (each_once term_order xs) t
once_has xs t c =
    let found = any_there (same_term t) (each_once term_order xs) (once_keeps term_order (same_term t) (respected t) xs c.0 t c.1 c.2 ((ties_are_one t t).1 refl)) in
    subst (Contains (each_once term_order xs)) (sym ((ties_are_one t found.0).0 found.2)) found.1

pub in_demanded : (demands : List Demand) (t : Term) → IsInDemands demands t → Contains (demanded_terms demands) t
in_demanded demands t (IsInDemands.owner d there is) =
    once_has (flat_map terms_in demands) t
    (in_flat_map terms_in demands d t there (subst (Contains (terms_in d)) is (contains_first d.owner (option_to_list (term_in d.value)))))
in_demanded demands t (IsInDemands.value d there is) =
    once_has (flat_map terms_in demands) t
    (in_flat_map terms_in demands d t there
    (contains_later t d.owner (option_to_list (term_in d.value)) (subst (λ (o : Option Term). Contains (option_to_list o) t) (sym is) (contains_first t []))))

-- ---- terms within keys

pub demanded_at : (meta : MetaDesc) (demands : List Demand) (t : Term) (ps : List PropId) (xs : List TermValue) (x : TermValue) → AreDemandedAt meta demands t ps xs → Contains xs x
    → (p : PropId) × IsDemandedAt meta demands t p x
demanded_at meta demands t ps [] x are c = absurd (nothing_in x c)
demanded_at meta demands t [] (y ∷ xs) x are c = absurd are
demanded_at meta demands t (p ∷ ps) (y ∷ xs) x are (zero, below, is) = (p, subst (IsDemandedAt meta demands t p) is are.0)
demanded_at meta demands t (p ∷ ps) (y ∷ xs) x are (suc k, below, is) = demanded_at meta demands t ps xs x are.1 (k, omega (arith, below), is)

pub within_demanded : (meta : MetaDesc) (demands : List Demand) (t : Term) (p : PropId) (x : TermValue) (u : Term) → IsDemandedAt meta demands t p x → term_in x ≡ Some u → IsInDemands demands u
within_demanded meta demands t p x u (IsDemandedAt.own d there owner prop value) is = IsInDemands.value d there (ap term_in value ∙ is)
within_demanded meta demands t p x u (IsDemandedAt.parent d there value opposite owner) is = IsInDemands.owner d there (same_Some d.owner u (sym owner ∙ is))

-- where the key values of demanded terms are demanded, the terms within them are
pub closed_by_keys : (program : Program) (meta : MetaDesc) (demands : List Demand)
    → ((t : Term) → Contains (demanded_terms demands) t → IsDemandedByKey program meta demands t) → AreClosed program (demanded_terms demands)
closed_by_keys program meta demands keys = record {
  managed = λ t c. (keys t c).managed;
  within = λ t x u c has is.
      let k = keys t c in
      let at = demanded_at meta demands t k.props (out-Term t).keys x k.values has in
      in_demanded demands u (within_demanded meta demands t at.0 x u at.1 is);
}

-- ---- what is held

pub value_number : (number : Numbering) (x : TermValue) (t : Term) (n : ℕ) → term_in x ≡ Some t → number t ≡ Some n → held_as number x ≡ Some (Held.object n)
value_number number x t n is at = by (out-TermValue x) is
  where
    by : (y : of.TermValue-F TermValue Term) → term_part y ≡ Some t → held_by_number number (terms_of.held_in y) ≡ Some (Held.object n)
    by (of.Val d) e = absurd (none-some t e)
    by (of.Term u) e = ap (option_map (λ k. Held.object k)) (ap number (same_Some u t e) ∙ at)

pub value_datum_held : (number : Numbering) (x : TermValue) (d : Datum) → datum_in x ≡ Some d → held_as number x ≡ Some (Held.datum d)
value_datum_held number x d is = by (out-TermValue x) is
  where
    by : (y : of.TermValue-F TermValue Term) → datum_part y ≡ Some d → held_by_number number (terms_of.held_in y) ≡ Some (Held.datum d)
    by (of.Val e) g = ap (λ z. Some (Held.datum z)) (same_Some e d g)
    by (of.Term u) g = absurd (none-some d g)

-- an object is held exactly where it is linked, at a reference
pub linked_held : (program : Program) (n : ModelData) (a p b : ℕ) → is_class_type (type_of n.meta p) ≡ true → IsLinked n p a b → holds program n a p (Held.object b) ≡ true
linked_held program n a p b reference linked =
    ap (λ c. list_any (same_held same_number (Held.object b)) (if c then map (λ k. Held.object k) (partners_at n a p) else map (λ v. Held.datum (value_datum (target_meta_number program) v)) (values_at n a p))) reference
    ∙ any_here (same_held same_number (Held.object b)) (map (λ k. Held.object k) (partners_at n a p)) (Held.object b) (contains_map (λ k. Held.object k) (partners_at n a p) b linked) (eq-eqb b b refl)

pub held_linked : (program : Program) (n : ModelData) (a p b : ℕ) → holds program n a p (Held.object b) ≡ true → IsLinked n p a b
held_linked program n a p b h = by (is_class_type (type_of n.meta p)) h
  where
    by : (c : Bool)
        → list_any (same_held same_number (Held.object b)) (if c then map (λ k. Held.object k) (partners_at n a p) else map (λ v. Held.datum (value_datum (target_meta_number program) v)) (values_at n a p)) ≡ true
        → IsLinked n p a b
    by true g =
        let (x, there, same) = any_there (same_held same_number (Held.object b)) (map (λ k. Held.object k) (partners_at n a p)) g in
        let (k, linked, is) = mapped_from (λ k. Held.object k) (partners_at n a p) x there in
        subst (λ y. IsLinked n p a y) (sym (eqb-true b k (ap (same_held same_number (Held.object b)) is ∙ same))) linked
    by false g =
        let (x, there, same) = any_there (same_held same_number (Held.object b)) (map (λ v. Held.datum (value_datum (target_meta_number program) v)) (values_at n a p)) g in
        let (v, at, is) = mapped_from (λ v. Held.datum (value_datum (target_meta_number program) v)) (values_at n a p) x there in
        absurd (true≢false (sym (ap (same_held same_number (Held.object b)) is ∙ same)))
