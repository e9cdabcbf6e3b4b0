-- Types that go together, as tests and as relations.
use Rattle.std.proofs.Common.{◌≡◌, ℕ, ◌<◌, if◌then◌else◌, Bool, true, false, List, Ok, refl, sym, ap, ◌∙◌}
use Rattle.std.specs.Prelude.{nat_eq, IsTrue, ◌↔◌}
use Rattle.std.specs.List.{list_any}
use Rattle.mof_metamodel.specs.declared.desc.MetaDesc.{MetaDesc}
use Rattle.mof_metamodel.specs.Metamodels.{class_count, lineage_of, Conforms}
use Rattle.mof_metamodel.specs.MetaFaults.{WellMeta}
use Rattle.qv_syntax.specs.declared.ty.Ty.{Ty}
use Rattle.ocl_environments.specs.Agreement.{is_null, upper, branches}
use Rattle.mof_metamodel.proofs.LineageLemmas.{conforms_exactly, grounded_from_acyclic}

-- the classes that a class conforms to are those of its class order
pub conforms_listed : (desc : MetaDesc) (c d : ℕ) (b : Bool) → WellMeta desc → c < class_count desc → (IsTrue b ↔ Conforms desc c d)
    → b ≡ list_any (nat_eq d) (lineage_of desc c)
conforms_listed desc c d b well within same =
    let exact = conforms_exactly desc (grounded_from_acyclic desc well.acyclic) c d within in
    by b (list_any (nat_eq d) (lineage_of desc c)) (λ is. exact.1 (same.0 is)) (λ has. same.1 (exact.0 has))
  where
    by : (x y : Bool) → (x ≡ true → y ≡ true) → (y ≡ true → x ≡ true) → x ≡ y
    by true y there back = sym (there refl)
    by false true there back = back refl
    by false false there back = refl

-- a branch that is null takes the type of the other
pub null_branch : (metas : List MetaDesc) (one other t : Ty) (b : Bool) → b ≡ is_null one → b ≡ true → t ≡ other → branches metas one other ≡ Ok t
null_branch metas one other t b is null same =
    ap (λ n. if n then Ok other else (if is_null other then Ok one else upper metas one other)) (sym is ∙ null) ∙ ap Ok (sym same)
