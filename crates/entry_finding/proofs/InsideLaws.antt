-- What stands for the same whatever terms stand behind a table has numbers of the table alone.
use Rattle.std.specs.Prelude.{◌≡◌, ◌<◌, ◌≤◌, ℕ, zero, suc, List, [], ◌∷◌, ◌++◌, map, length, replicate, Option, None, Some, slice_index_or, All}
use Rattle.std.specs.Option.{option_map}
use Rattle.std.proofs.Common.{refl, sym, ap, ◌∙◌, arith, inl, inr}
use Rattle.std.proofs.lemmas.Bool.{cases_lt}
use Rattle.std.proofs.lemmas.Option.{same_Some}
use Rattle.std.proofs.lemmas.List.{get_or_past}
use Rattle.std.proofs.lemmas.List.Elements.{All-nil, All-cons}
use Rattle.mof_metamodel.specs.declared.desc.ClassId.{ClassId}
use Rattle.repair_semantics.specs.declared.term.Term.{Term, out-Term}
use Rattle.repair_semantics.specs.declared.demand.Demand.{Demand}
use Rattle.repair_semantics.specs.declared.entry.EntryName.{EntryName}
use Rattle.term_table.specs.declared.numbered.NumberedValue.{NumberedValue}
use Rattle.term_table.specs.declared.numbered.NumberedValue.TheVariants as numbered
use Rattle.term_table.specs.TermTables.{keyed, no_term, term_at, value_in, values_in, IsWithin}
use Rattle.term_table.proofs.TermTableLaws.{class_of_keyed, same_terms}
use Rattle.entry_making.specs.declared.item_demand.ItemDemand.{ItemDemand}
use Rattle.entry_making.specs.declared.numbered_call.NumberedCall.{NumberedCall}
use Rattle.entry_making.specs.Numbered.{IsValueWithin}
use Rattle.entry_making.specs.CallNumbers.{call_of}
use Rattle.entry_making.specs.DemandNumbers.{demand_of}
use Rattle.entry_finding.specs.Found.{IsDemandWithin, IsCallWithin}

same_head : {X : Type 0} (x y : X) (xs ys : List X) → x ∷ xs ≡ y ∷ ys → x ≡ y
same_head x y xs ys h = cc

same_tail : {X : Type 0} (x y : X) (xs ys : List X) → x ∷ xs ≡ y ∷ ys → xs ≡ ys
same_tail x y xs ys h = cc

-- ---- a number outside may stand for another term

abbrev class_one : ClassId
class_one = record { 0 = 1 }

abbrev class_zero : ClassId
class_zero = record { 0 = 0 }

abbrev mark : Term
mark = keyed class_one []

mark_other : mark ≡ no_term → ⊥
mark_other h =
    let classes : class_one ≡ class_zero = sym (class_of_keyed class_one []) ∙ ap (λ (t : Term). (out-Term t).class) h ∙ class_of_keyed class_zero [] in
    let numbers : 1 ≡ 0 = ap (λ (c : ClassId). c.0) classes in
    absurd (omega (arith, numbers))

all_marks : (count n : ℕ) → n < count → slice_index_or (replicate count mark) n no_term ≡ mark
all_marks zero n lt = absurd (omega (arith, lt))
all_marks (suc count) zero lt = refl
all_marks (suc count) (suc n) lt = all_marks count n (omega (arith, lt))

at_marks : (terms : List Term) (n count : ℕ) → length terms ≤ n → n < count → slice_index_or (terms ++ replicate count mark) n no_term ≡ mark
at_marks [] n count past lt = all_marks count n lt
at_marks (t ∷ ts) zero count past lt = absurd (omega (arith, past))
at_marks (t ∷ ts) (suc n) count past lt = at_marks ts n count (omega (arith, past)) (omega (arith, lt))

module _ (terms : List Term) where
  number_inside : (n : ℕ) → ((more : List Term) → term_at (terms ++ more) n ≡ term_at terms n) → n < length terms
  number_inside n same = elim (cases_lt n (length terms)) [
    | inl lt ↦ lt
    | inr past ↦ absurd (mark_other (sym (at_marks terms n (suc n) past (omega arith)) ∙ same (replicate (suc n) mark) ∙ get_or_past terms n no_term past))
  ]

  value_inside : (v : NumberedValue) → ((more : List Term) → value_in (terms ++ more) v ≡ value_in terms v) → IsWithin terms v
  value_inside (numbered.Val d) same = tt
  value_inside (numbered.Term n) same = number_inside n (λ more. same_terms (term_at (terms ++ more) n) (term_at terms n) (same more))

  values_inside : (vs : List NumberedValue) → ((more : List Term) → map (value_in (terms ++ more)) vs ≡ map (value_in terms) vs) → All (IsWithin terms) vs
  values_inside [] same = All-nil (IsWithin terms)
  values_inside (v ∷ vs) same =
      All-cons (IsWithin terms) v vs
      (value_inside v (λ more. same_head (value_in (terms ++ more) v) (value_in terms v) (map (value_in (terms ++ more)) vs) (map (value_in terms) vs) (same more)))
      (values_inside vs (λ more. same_tail (value_in (terms ++ more) v) (value_in terms v) (map (value_in (terms ++ more)) vs) (map (value_in terms) vs) (same more)))

  option_inside : (o : Option NumberedValue) → ((more : List Term) → option_map (value_in (terms ++ more)) o ≡ option_map (value_in terms) o) → IsValueWithin terms o
  option_inside None same = tt
  option_inside (Some v) same = value_inside v (λ more. same_Some (value_in (terms ++ more) v) (value_in terms v) (same more))

  pub options_inside : (vs : List (Option NumberedValue)) → ((more : List Term) → values_in (terms ++ more) vs ≡ values_in terms vs) → All (IsValueWithin terms) vs
  options_inside [] same = All-nil (IsValueWithin terms)
  options_inside (v ∷ vs) same =
      All-cons (IsValueWithin terms) v vs
      (option_inside v (λ more. same_head (option_map (value_in (terms ++ more)) v) (option_map (value_in terms) v) (values_in (terms ++ more) vs) (values_in terms vs) (same more)))
      (options_inside vs (λ more. same_tail (option_map (value_in (terms ++ more)) v) (option_map (value_in terms) v) (values_in (terms ++ more) vs) (values_in terms vs) (same more)))

  demand_inside : (d : ItemDemand) → ((more : List Term) → demand_of (terms ++ more) 0 d ≡ demand_of terms 0 d) → IsDemandWithin terms d
  demand_inside d same = record {
    owner = number_inside d.owner (λ more. ap (λ (x : Demand). x.owner) (same more));
    value = value_inside d.value (λ more. ap (λ (x : Demand). x.value) (same more));
  }

  pub demands_inside : (ds : List ItemDemand) → ((more : List Term) → map (demand_of (terms ++ more) 0) ds ≡ map (demand_of terms 0) ds) → All (IsDemandWithin terms) ds
  demands_inside [] same = All-nil (IsDemandWithin terms)
  demands_inside (d ∷ ds) same =
      All-cons (IsDemandWithin terms) d ds
      (demand_inside d (λ more. same_head (demand_of (terms ++ more) 0 d) (demand_of terms 0 d) (map (demand_of (terms ++ more) 0) ds) (map (demand_of terms 0) ds) (same more)))
      (demands_inside ds (λ more. same_tail (demand_of (terms ++ more) 0 d) (demand_of terms 0 d) (map (demand_of (terms ++ more) 0) ds) (map (demand_of terms 0) ds) (same more)))

  call_inside : (c : NumberedCall) → ((more : List Term) → call_of (terms ++ more) c ≡ call_of terms c) → IsCallWithin terms c
  call_inside c same = values_inside c.roots (λ more. ap (λ (x : EntryName). x.roots) (same more))

  pub calls_inside : (cs : List NumberedCall) → ((more : List Term) → map (call_of (terms ++ more)) cs ≡ map (call_of terms) cs) → All (IsCallWithin terms) cs
  calls_inside [] same = All-nil (IsCallWithin terms)
  calls_inside (c ∷ cs) same =
      All-cons (IsCallWithin terms) c cs
      (call_inside c (λ more. same_head (call_of (terms ++ more) c) (call_of terms c) (map (call_of (terms ++ more)) cs) (map (call_of terms) cs) (same more)))
      (calls_inside cs (λ more. same_tail (call_of (terms ++ more) c) (call_of terms c) (map (call_of (terms ++ more)) cs) (map (call_of terms) cs) (same more)))
