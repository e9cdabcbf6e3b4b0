-- The classes that a class conforms to are those of its class order.
use Rattle.std.proofs.Common.{◌≡◌, ℕ, ◌<◌, Bool, true, false, List, refl, sym, ◌∙◌, ap, eq-eqb}
use Rattle.std.specs.Prelude.{◌==◌, ◌↔◌, IsTrue, Contains}
use Rattle.std.specs.List.{slice_index_or}
use Rattle.std.proofs.lemmas.Bool.{eqb-true}
use Rattle.std.proofs.lemmas.List.Folds.{list_any_at, Any-from_list_any}
use Rattle.mof_metamodel.specs.declared.desc.MetaDesc.{MetaDesc}
use Rattle.mof_metamodel.specs.Metamodels.{class_count, lineage_of, Conforms}
use Rattle.mof_metamodel.specs.MetaFaults.{WellMeta}
use Rattle.mof_metamodel.proofs.LineageLemmas.{conforms_exactly, grounded_from_acyclic, Has-from_Contains, Contains-from_Has}
use Rattle.qvtr_semantics.specs.Objects.{is_number_among, is_kind_of}

pub among_from : (q : ℕ) (xs : List ℕ) → Contains xs q → is_number_among q xs ≡ true
among_from q xs h = list_any_at (λ k. k == q) xs h.0 q h.1 (eq-eqb _ q h.2)

pub among_to : (q : ℕ) (xs : List ℕ) → is_number_among q xs ≡ true → Contains xs q
among_to q xs h =
    let a = Any-from_list_any (λ k. k == q) xs h in
    let same : a.1 ≡ q = eqb-true a.1 q a.4 in
    (a.0, a.2, ap (λ d. slice_index_or xs a.0 d) (sym same) ∙ a.3 ∙ same)

by_both : (x y : Bool) → (x ≡ true → y ≡ true) → (y ≡ true → x ≡ true) → x ≡ y
by_both true y there back = sym (there refl)
by_both false true there back = back refl
by_both false false there back = refl

pub conforms_listed : (desc : MetaDesc) (c d : ℕ) (b : Bool) → WellMeta desc → c < class_count desc → (IsTrue b ↔ Conforms desc c d) → b ≡ is_kind_of desc c d
conforms_listed desc c d b well within same =
    let exact = conforms_exactly desc (grounded_from_acyclic desc well.acyclic) c d within in
    by_both b (is_kind_of desc c d)
    (λ is. among_from d (lineage_of desc c) (Contains-from_Has (lineage_of desc c) d (exact.1 (same.0 is))))
    (λ has. same.1 (exact.0 (Has-from_Contains (lineage_of desc c) d (among_to d (lineage_of desc c) has))))
