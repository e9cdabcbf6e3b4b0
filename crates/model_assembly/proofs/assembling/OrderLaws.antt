-- Targets that are met one by one.
use Rattle.std.proofs.Common.{◌≡◌, ℕ, ◌+◌, ◌<◌, Bool, true, false, cond, List, [], ◌∷◌, ◌++◌, length, drop, get_or, refl, sym, ◌∙◌, ap}
use Rattle.std.specs.Prelude.{◌||◌, nat_eq}
use Rattle.std.specs.List.{list_any}
use Rattle.std.specs.Cmp.{both_ways}
use Rattle.std.proofs.lemmas.Bool.{cond-true, cond-false, eqb-true, eq-eqb}
use Rattle.std.proofs.lemmas.List.Folds.{list_any-append}
use Rattle.mof_metamodel.specs.Metamodels.{united}
use Rattle.model_assembly.specs.declared.assembly.naming.Naming.{Naming}
use Rattle.model_assembly.specs.AssemblyOrders.{targets_run}
use Rattle.model_assembly.specs.Source.{is_at}
use Rattle.model_assembly.proofs.assembling.EntrySteps.{drop_here}

run_here : (o p : ℕ) (xs : List Naming) (i : ℕ) (n : Naming) → i < length xs → n ≡ get_or xs i n → is_at o p n.object n.property ≡ true → targets_run o p (drop i xs) ≡ n.target ∷ targets_run o p (drop (i + 1) xs)
run_here o p xs i n l is at = ap (targets_run o p) (drop_here xs i n l is) ∙ cond-true (is_at o p n.object n.property) (n.target ∷ targets_run o p (drop (i + 1) xs)) [] at

-- nothing is named further behind another reference
pub run_ends : (o p : ℕ) (xs : List Naming) (i : ℕ) (n : Naming) (done all : List ℕ) → i < length xs → n ≡ get_or xs i n → is_at o p n.object n.property ≡ false → united done (targets_run o p (drop i xs)) ≡ all → done ≡ all
run_ends o p xs i n done all l is at h =
    sym (ap (united done) (ap (targets_run o p) (drop_here xs i n l is) ∙ cond-false (is_at o p n.object n.property) (n.target ∷ targets_run o p (drop (i + 1) xs)) [] at)) ∙ h

pub target_met : (o p : ℕ) (xs : List Naming) (i : ℕ) (n : Naming) (done all : List ℕ) → i < length xs → n ≡ get_or xs i n → is_at o p n.object n.property ≡ true → list_any (nat_eq n.target) done ≡ true
    → united done (targets_run o p (drop i xs)) ≡ all → united done (targets_run o p (drop (i + 1) xs)) ≡ all
target_met o p xs i n done all l is at met h =
    sym (ap (λ ys. united ys (targets_run o p (drop (i + 1) xs))) (cond-true (list_any (nat_eq n.target) done) done (done ++ n.target ∷ []) met))
    ∙ sym (ap (united done) (run_here o p xs i n l is at)) ∙ h

pub target_new : (o p : ℕ) (xs : List Naming) (i : ℕ) (n : Naming) (done all : List ℕ) → i < length xs → n ≡ get_or xs i n → is_at o p n.object n.property ≡ true → list_any (nat_eq n.target) done ≡ false
    → united done (targets_run o p (drop i xs)) ≡ all → united (done ++ n.target ∷ []) (targets_run o p (drop (i + 1) xs)) ≡ all
target_new o p xs i n done all l is at met h =
    sym (ap (λ ys. united ys (targets_run o p (drop (i + 1) xs))) (cond-false (list_any (nat_eq n.target) done) done (done ++ n.target ∷ []) met))
    ∙ sym (ap (united done) (run_here o p xs i n l is at)) ∙ h

eq_swap : (a b : ℕ) → nat_eq a b ≡ nat_eq b a
eq_swap a b = both_ways (nat_eq a b) (nat_eq b a) (λ e. eq-eqb b a (sym (eqb-true a b e))) (λ e. eq-eqb a b (sym (eqb-true b a e)))

last_of : (a b : Bool) → cond a true b ≡ (b || (a || false))
last_of true true = refl
last_of true false = refl
last_of false true = refl
last_of false false = refl

-- one more is met
pub met_last : (q t : ℕ) (done : List ℕ) (old : Bool) → old ≡ list_any (nat_eq q) done → cond (nat_eq t q) true old ≡ list_any (nat_eq q) (done ++ t ∷ [])
met_last q t done old h =
    ap (cond (nat_eq t q) true) h
    ∙ last_of (nat_eq t q) (list_any (nat_eq q) done)
    ∙ ap (λ b. list_any (nat_eq q) done || (b || false)) (eq_swap t q)
    ∙ sym (list_any-append (nat_eq q) done (t ∷ []))
