-- Loops over the parts of a visit, as one step and as the end.
use Rattle.std.specs.Prelude.{◌≡◌, ◌<◌, ◌≤◌, ◌↔◌, ℕ, suc, Bool, ◌&&◌, ◌||◌, List, [], ◌∷◌, ◌++◌, length, take, get_or, Option, Contains, IsTrue}
use Rattle.std.specs.Option.{option_map}
use Rattle.std.proofs.Common.{sym, subst}
use Rattle.object_tables.specs.Models.{ModelData}
use Rattle.qv_syntax.specs.declared.program.Program.{Program}
use Rattle.qv_syntax.specs.declared.program.Rel.{Rel}
use Rattle.qvtr_semantics.specs.declared.binding.Binding.{Binding}
use Rattle.qvtr_semantics.specs.Templates.{Values}
use Rattle.qvtr_semantics.specs.Calls.{RelationCall, Asked, AllAsked}
use Rattle.template_match.specs.Search.{values_of}
use Rattle.relation_calls.specs.declared.name.CallName.{CallName}
use Rattle.relation_calls.specs.declared.error.CallError.{CallError}
use Rattle.relation_calls.specs.declared.outcome.Outcome.{Outcome}
use Rattle.relation_calls.specs.Names.{call_named, calls_named}
use Rattle.relation_calls.specs.Seen.{AreClean}
use Rattle.relation_calls.specs.Faults.{IsFault}
use Rattle.relation_calls.specs.Outcomes.{IsOutcome, AreOutcomes}
use Rattle.relation_calls.proofs.ListLaws.{one_more, all_taken, item_of}
use Rattle.mof_metamodel.proofs.Facts.{contains_map}
use Rattle.relation_calls.proofs.VisitLaws.{Chains, ByCalls, ByValues, fault_in, all_more, any_more, clean_calls, clean_values}
use Rattle.relation_calls.proofs.OutcomeLaws.{outcomes_more}

module _ (calls : List (Option CallName)) (i : ℕ) (call : Option CallName) (within : i < length calls) (is : call ≡ get_or calls i call) where
  pub call_here : Contains (calls_named calls) (option_map call_named call)
  call_here = contains_map (λ c. option_map call_named c) calls call (item_of calls i call within is)

  pub next_calls : (j : ℕ) → j ≡ suc i → calls_named (take j calls) ≡ calls_named (take i calls) ++ option_map call_named call ∷ []
  next_calls j next = one_more (λ c. option_map call_named c) calls i j call next within is

  pub call_value : (asked : Asked) (j : ℕ) (all one : Bool) → j ≡ suc i → (IsTrue all ↔ AllAsked asked (calls_named (take i calls))) → (IsTrue one ↔ AllAsked asked (option_map call_named call ∷ []))
      → IsTrue (all && one) ↔ AllAsked asked (calls_named (take j calls))
  call_value asked j all one next before last =
      subst (λ cs. IsTrue (all && one) ↔ AllAsked asked cs) (sym (next_calls j next)) (all_more asked (calls_named (take i calls)) (option_map call_named call) all one before last)

  pub call_clean : (D : RelationCall → Chains) (j : ℕ) → j ≡ suc i → AreClean (ByCalls D (calls_named (take i calls))) → AreClean (ByCalls D (option_map call_named call ∷ []))
      → AreClean (ByCalls D (calls_named (take j calls)))
  call_clean D j next before last =
      subst (λ cs. AreClean (ByCalls D cs)) (sym (next_calls j next)) (clean_calls D (calls_named (take i calls)) (option_map call_named call) before last)

-- at the end
pub calls_value : (calls : List (Option CallName)) (i : ℕ) → length calls ≤ i → (asked : Asked) (all : Bool) → (IsTrue all ↔ AllAsked asked (calls_named (take i calls))) → IsTrue all ↔ AllAsked asked (calls_named calls)
calls_value calls i past asked all h = subst (λ cs. IsTrue all ↔ AllAsked asked (calls_named cs)) (all_taken calls i past) h

pub calls_clean : (calls : List (Option CallName)) (i : ℕ) → length calls ≤ i → (D : RelationCall → Chains) → AreClean (ByCalls D (calls_named (take i calls))) → AreClean (ByCalls D (calls_named calls))
calls_clean calls i past D h = subst (λ cs. AreClean (ByCalls D (calls_named cs))) (all_taken calls i past) h

module _ (bs : List Binding) (i : ℕ) (b : Binding) (within : i < length bs) (is : b ≡ get_or bs i b) where
  pub value_here : Contains (values_of bs) b.values
  value_here = contains_map (λ (x : Binding). x.values) bs b (item_of bs i b within is)

  pub next_values : (j : ℕ) → j ≡ suc i → values_of (take j bs) ≡ values_of (take i bs) ++ b.values ∷ []
  next_values j next = one_more (λ (x : Binding). x.values) bs i j b next within is

  pub value_fault : (D : Values → Chains) (e : CallError) → IsFault (D b.values) e → IsFault (ByValues D (values_of bs)) e
  value_fault D e f = fault_in (D b.values) (ByValues D (values_of bs)) (λ chain seen. (b.values, value_here, seen)) e f

  pub value_clean : (D : Values → Chains) (j : ℕ) → j ≡ suc i → AreClean (ByValues D (values_of (take i bs))) → AreClean (D b.values) → AreClean (ByValues D (values_of (take j bs)))
  value_clean D j next before last = subst (λ vs. AreClean (ByValues D vs)) (sym (next_values j next)) (clean_values D (values_of (take i bs)) b.values before last)

  pub value_any : (P : Values → Type 0) (j : ℕ) (any one : Bool) → j ≡ suc i → (IsTrue any ↔ ((g : Values) × Contains (values_of (take i bs)) g × P g)) → (IsTrue one ↔ P b.values)
      → IsTrue (any || one) ↔ ((g : Values) × Contains (values_of (take j bs)) g × P g)
  value_any P j any one next before last =
      subst (λ vs. IsTrue (any || one) ↔ ((g : Values) × Contains vs g × P g)) (sym (next_values j next)) (any_more P (values_of (take i bs)) b.values any one before last)

  pub value_outcomes : (program : Program) (models : List ModelData) (n : ℕ) (rel : Rel) (os : List Outcome) (o : Outcome) (j : ℕ) → j ≡ suc i
      → AreOutcomes program models n rel (values_of (take i bs)) os → IsOutcome program models n rel b.values o → AreOutcomes program models n rel (values_of (take j bs)) (os ++ o ∷ [])
  value_outcomes program models n rel os o j next before last =
      subst (λ vs. AreOutcomes program models n rel vs (os ++ o ∷ [])) (sym (next_values j next)) (outcomes_more program models n rel (values_of (take i bs)) os b.values o before last)

pub values_clean : (bs : List Binding) (i : ℕ) → length bs ≤ i → (D : Values → Chains) → AreClean (ByValues D (values_of (take i bs))) → AreClean (ByValues D (values_of bs))
values_clean bs i past D h = subst (λ (xs : List Binding). AreClean (ByValues D (values_of xs))) (all_taken bs i past) h

pub values_any : (bs : List Binding) (i : ℕ) → length bs ≤ i → (P : Values → Type 0) (any : Bool) → (IsTrue any ↔ ((g : Values) × Contains (values_of (take i bs)) g × P g))
    → IsTrue any ↔ ((g : Values) × Contains (values_of bs) g × P g)
values_any bs i past P any h = subst (λ (xs : List Binding). IsTrue any ↔ ((g : Values) × Contains (values_of xs) g × P g)) (all_taken bs i past) h

pub values_outcomes : (bs : List Binding) (i : ℕ) → length bs ≤ i → (program : Program) (models : List ModelData) (n : ℕ) (rel : Rel) (os : List Outcome)
    → AreOutcomes program models n rel (values_of (take i bs)) os → AreOutcomes program models n rel (values_of bs) os
values_outcomes bs i past program models n rel os h = subst (λ (xs : List Binding). AreOutcomes program models n rel (values_of xs) os) (all_taken bs i past) h
