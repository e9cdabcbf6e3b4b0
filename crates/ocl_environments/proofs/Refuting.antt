-- Wrong answers that the definitions exclude, each on a small case: what the definition gives, and that it isn't what the wrong
-- code would answer. A contract says that the code's result is what the definition gives, so it refuses that code.
use Rattle.std.specs.Prelude.{◌≡◌, ◌||◌, ℕ, Bool, true, false, List, [], ◌∷◌, codes, Option, None, Some, Ok, Err, if◌then◌else◌}
use Rattle.std.proofs.Common.{refl, ap, sym, subst, arith, true≢false}
use Rattle.mof_metamodel.specs.declared.desc.MetaDesc.{MetaDesc}
use Rattle.qv_syntax.specs.declared.type_tree.Kind.TheVariants as kinds
use Rattle.qv_syntax.specs.declared.ty.Ty.{Ty}
use Rattle.qv_syntax.specs.declared.ty.Ty.TheVariants as types
use Rattle.ocl_environments.specs.declared.fault.TypeFault.{TypeFault}
use Rattle.ocl_environments.specs.declared.part.TypedPart.{TypedPart}
use Rattle.ocl_environments.specs.declared.variable.Variable.{Variable}
use Rattle.ocl_environments.specs.Environments.{NamesWith, nothing_in_reach, with_variable, value_of}
use Rattle.ocl_environments.specs.Scopes.{in_reach}
use Rattle.ocl_environments.specs.Outcomes.{RuleResult, asking, wrong_type}
use Rattle.ocl_environments.specs.Agreement.{is_null, collection_parts, fits, are_related, all_fit, are_comparable, comparable_elements, branches}
use Rattle.ocl_environments.specs.Lets.{free_name, let_variable}

-- ---- types beside each other

none_holds : (a b c d : Bool) → a ≡ false → b ≡ false → c ≡ false → d ≡ false → (a || b || c || d) ≡ true → ⊥
none_holds a b c d one two three four e =
    let left : (false || b || c || d) ≡ true = subst (λ x. (x || b || c || d) ≡ true) one e in
    let next : (false || false || c || d) ≡ true = subst (λ x. (false || x || c || d) ≡ true) two left in
    let third : (false || false || false || d) ≡ true = subst (λ x. (false || false || x || d) ≡ true) three next in
    let last : false ≡ true = subst (λ x. (false || false || false || x) ≡ true) four third in
    true≢false (sym last)

-- two classes of which neither conforms to the other
pub unrelated_classes_are_compared : (metas : List MetaDesc) (a b : Ty) → is_null a ≡ false → is_null b ≡ false → are_related metas a b ≡ false
    → comparable_elements metas (collection_parts a) (collection_parts b) ≡ false → are_comparable metas a b ≡ true → ⊥
unrelated_classes_are_compared metas a b one two unrelated single e =
    none_holds (is_null a) (is_null b) (are_related metas a b) (comparable_elements metas (collection_parts a) (collection_parts b)) one two unrelated single e

pub elements_of_one_kind : comparable_elements [] (Some (kinds.Set, types.Int)) (Some (kinds.Bag, types.Int)) ≡ false
elements_of_one_kind = refl

-- a Set and a Bag as the two sides of `=`
pub collections_of_two_kinds_are_compared : comparable_elements [] (Some (kinds.Set, types.Int)) (Some (kinds.Bag, types.Int)) ≡ true → ⊥
collections_of_two_kinds_are_compared e = cc

-- ---- the branches of an `if`, by whether they are null, and whether the first conforms to the second

abbrev by_first : List MetaDesc → Ty → Ty → Bool → Bool → Bool → RuleResult Ty
by_first metas one other null other_null above = if null then Ok other else if other_null then Ok one else all_fit metas (if above then other else one) (one ∷ other ∷ [])

-- and by whether the second conforms to the first
abbrev by_second : List MetaDesc → Ty → Ty → Bool → RuleResult Ty
by_second metas one other below = if fits metas one one then (if below then Ok one else Err (wrong_type metas one other)) else Err (wrong_type metas one one)

abbrev faulty : Bool → TypeFault → TypeFault → RuleResult Ty
faulty b f g = if b then Err f else Err g

always_faulty : (b : Bool) (f g : TypeFault) (ty : Ty) → faulty b f g ≡ Ok ty → ⊥
always_faulty true f g ty e = cc
always_faulty false f g ty e = cc

-- the type of the first branch, where the other one's doesn't go with it
pub the_other_branch_is_passed_over : (metas : List MetaDesc) (one other : Ty) → is_null one ≡ false → is_null other ≡ false
    → fits metas one other ≡ false → fits metas other one ≡ false → branches metas one other ≡ Ok one → ⊥
the_other_branch_is_passed_over metas one other full other_full above below e =
    let first : by_first metas one other false (is_null other) (fits metas one other) ≡ Ok one = subst (λ b. by_first metas one other b (is_null other) (fits metas one other) ≡ Ok one) full e in
    let second : by_first metas one other false false (fits metas one other) ≡ Ok one = subst (λ b. by_first metas one other false b (fits metas one other) ≡ Ok one) other_full first in
    let third : by_first metas one other false false false ≡ Ok one = subst (λ b. by_first metas one other false false b ≡ Ok one) above second in
    let last : by_second metas one other false ≡ Ok one = subst (λ b. by_second metas one other b ≡ Ok one) below third in
    always_faulty (fits metas one one) (wrong_type metas one other) (wrong_type metas one one) one last

-- ---- variables

-- the variable of a `let` whose value's type doesn't conform to the written one
pub value_above_its_variable : (metas : List MetaDesc) (ty : Ty) (value : TypedPart) (v : Variable) → fits metas value.ty ty ≡ false → let_variable metas ty value ≡ Ok v → ⊥
unfolding let_variable
value_above_its_variable metas ty value v unfit e = refused (fits metas value.ty ty) (wrong_type metas ty value.ty) (Ok (record { ty = ty; model = value.model })) v unfit e
  where
    refused : (b : Bool) (f : TypeFault) (given : RuleResult Variable) (w : Variable) → b ≡ false → asking b f given ≡ Ok w → ⊥
    refused true f given w h g = cc
    refused false f given w h g = cc

abbrev number : Variable
number = record { ty = types.Int; model = None }

abbrev locals : NamesWith Variable
locals = (codes "x", number) ∷ []

-- a name that a variable of the expression itself has, as a free one
pub variables_hide : free_name (in_reach (record { outer = nothing_in_reach; locals = locals })) (codes "x") ≡ Ok tt → ⊥
variables_hide e = cc

abbrev object : Variable
object = record { ty = types.Class 0 (record { 0 = 0 }); model = Some 1 }

abbrev number_in : Option ℕ → ℕ
number_in None = 0
number_in (Some n) = n

abbrev model_in : Option Variable → ℕ
model_in None = 0
model_in (Some v) = number_in v.model

pub variable_with_its_model : value_of (with_variable nothing_in_reach (codes "x") object).variables (codes "x") ≡ Some object
variable_with_its_model = refl

-- an object variable without the model of its objects
pub variable_without_its_model : value_of (with_variable nothing_in_reach (codes "x") object).variables (codes "x") ≡ Some (record object { model = None }) → ⊥
variable_without_its_model e = let apart : 1 ≡ 0 = ap model_in e in absurd (omega (arith, apart))
