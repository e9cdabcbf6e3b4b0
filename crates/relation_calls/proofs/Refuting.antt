-- Wrong answers that the definitions exclude, each on a small case: what the definition gives, and that it isn't what the wrong
-- code would answer. A contract says that the code's result is what the definition gives, so it refuses that code.
use Rattle.std.specs.Prelude.{◌≡◌, ℕ, zero, suc, List, [], ◌∷◌, ◌++◌, codes, length, Option, None, Some, slice_get, Contains}
use Rattle.std.specs.Option.{option_map}
use Rattle.std.proofs.Common.{refl, sym, ap, subst, ◌∙◌, arith}
use Rattle.std.proofs.lemmas.Option.{same_Some}
use Rattle.qv_syntax.specs.declared.program.Rel.{Rel}
use Rattle.qv_syntax.specs.Relations.{CallsIn}
use Rattle.qvtr_semantics.specs.declared.limits.TheConstants.{MAX_CALLS}
use Rattle.qvtr_semantics.specs.declared.datum.Datum.{Datum}
use Rattle.qvtr_semantics.specs.declared.datum.Datum.TheVariants.{Obj, Val}
use Rattle.qvtr_semantics.specs.declared.binding.Binding.{Binding}
use Rattle.qvtr_semantics.specs.Templates.{Values, value_at}
use Rattle.qvtr_semantics.specs.Bindings.{Source}
use Rattle.qvtr_semantics.specs.Calls.{RelationCall, HoldsFor, Holds}
use Rattle.qvtr_semantics.specs.Chains.{IsCyclic, IsDeep}
use Rattle.qvtr_semantics.specs.Satisfaction.{Satisfied}
use Rattle.qvtr_semantics.specs.SmallModels.{program, both, package_to_schema, two_schemas, one_only, b_alone, text, object, package_call, again, again_call, looping, var, class}
use Rattle.qvtr_semantics.proofs.RowAnswers.{IsThree, three_of, IsPackage, source_is, package_b_is_the_least}
use Rattle.qvtr_semantics.proofs.WhereAnswers.{package_call_holds}
use Rattle.relation_calls.specs.declared.outcome.Outcome.TheVariants as outcomes
use Rattle.relation_calls.specs.Calm.{IsCalm}
use Rattle.relation_calls.specs.Outcomes.{first_alone}
use Rattle.relation_calls.specs.Seeds.{first_root, lesser}
use Rattle.relation_calls.specs.Tables.{row_of}
use Rattle.relation_calls.specs.Visits.{IsChain}

-- ---- bindings and what comes of them

abbrev a_alone : Values
a_alone = text (codes "a") ∷ object 0 0 ∷ None ∷ []

abbrev object_number : Option Datum → ℕ
object_number None = 0
object_number (Some (Obj m o)) = o.0
object_number (Some (Val m v)) = 0

-- the package of a binding
abbrev package_of : Option Values → ℕ
package_of None = 0
package_of (Some b) = object_number (value_at b 1)

pub the_first_without_a_partner : first_alone (a_alone ∷ b_alone ∷ []) (outcomes.Partnered ∷ outcomes.Alone ∷ []) ≡ Some b_alone
the_first_without_a_partner = refl

-- a binding that has a partner, in place of the first that has none
pub first_with_partner : first_alone (a_alone ∷ b_alone ∷ []) (outcomes.Partnered ∷ outcomes.Alone ∷ []) ≡ Some a_alone → ⊥
first_with_partner e = let apart : 1 ≡ 0 = ap package_of e in absurd (omega (arith, apart))

-- no failing binding, where the first one has a partner
pub first_partner_is_enough : first_alone (a_alone ∷ b_alone ∷ []) (outcomes.Partnered ∷ outcomes.Alone ∷ []) ≡ None → ⊥
first_partner_is_enough e = cc

-- the same of the relations: yes, where of two packages the first has its schema
pub first_package_is_enough : Satisfied program one_only → ⊥
first_package_is_enough satisfied = satisfied 0 b_alone package_b_is_the_least.failing

-- a binding whose calls in the when clause don't match
pub unmatched_binding_is_named : first_alone (a_alone ∷ []) (outcomes.Unmatched ∷ []) ≡ Some a_alone → ⊥
unmatched_binding_is_named e = cc

-- ---- calm relations

calls_itself : (rel : Rel) → slice_get looping.rels 1 ≡ Some rel → CallsIn rel.wheres 1
calls_itself rel found = subst (λ (r : Rel). CallsIn r.wheres 1) (same_Some again rel found) (var 0 (class 0 1) ∷ var 1 (class 1 1) ∷ [], (0, omega arith, refl))

-- a relation that calls itself as one that is calm
pub caller_as_calm : (n number : ℕ) → IsCalm looping n number → number ≡ 1 → ⊥
caller_as_calm _ number (IsCalm.calm n _ rel found wheres whens) is =
    caller_as_calm n 1 (wheres 1 (calls_itself rel (ap (slice_get looping.rels) (sym is) ∙ found))) refl

-- ---- seeds and joins

-- the object of another model than the target's
pub root_of_the_source : first_root program package_to_schema.domains ≡ Some 1
root_of_the_source = refl

-- the root of the target's domain
pub root_of_the_target : first_root program package_to_schema.domains ≡ Some 2 → ⊥
root_of_the_target e = let apart : 1 ≡ 2 = same_Some 1 2 e in absurd (omega (arith, apart))

-- the data at the roots of a match of the package a and the schema s1
pub row_of_a_match : row_of package_to_schema.domains (text (codes "a") ∷ object 0 0 ∷ object 1 0 ∷ []) ≡ Some (Obj 0 (record { 0 = 0 }) ∷ Obj 1 (record { 0 = 0 }) ∷ [])
row_of_a_match = refl

-- a row where a root has no value
pub row_without_a_root : row_of package_to_schema.domains (text (codes "a") ∷ object 0 0 ∷ None ∷ []) ≡ None
row_without_a_root = refl

-- of two bindings the one that was found first, where the other one is less
pub first_found_is_least : lesser (1 ∷ []) (Some (record { values = b_alone })) (Some (record { values = a_alone })) ≡ Some (record { values = b_alone }) → ⊥
first_found_is_least e = let apart : 0 ≡ 1 = ap (λ (o : Option Binding). package_of (option_map (λ (b : Binding). b.values) o)) e in absurd (omega (arith, apart))

-- ---- calls in where clauses

pub holds_with_room_for_one : HoldsFor program both 1 package_call
holds_with_room_for_one = λ b matches. let (g, holds) = package_call_holds b matches in (g, record { target = holds.target; wheres = tt })

-- yes, where no call may be made any more
pub a_kept_answer_is_taken_without_room : HoldsFor program both 0 package_call → ⊥
a_kept_answer_is_taken_without_room never = never

-- PackageToSchema with an object that isn't there: no binding of the source has it
abbrev call_of_nothing : RelationCall
call_of_nothing = record { rel = 0; roots = None ∷ object 0 2 ∷ object 1 0 ∷ [] }

no_third_package : (x y : Option Datum) → IsPackage x y → y ≡ object 0 2 → ⊥
no_third_package _ _ IsPackage.first e = let apart : 0 ≡ 2 = ap object_number e in absurd (omega (arith, apart))
no_third_package _ _ IsPackage.second e = let apart : 1 ≡ 2 = ap object_number e in absurd (omega (arith, apart))

no_source : (b : Values) → IsThree b → Source program both package_to_schema call_of_nothing.roots b → ⊥
no_source _ (IsThree.three x y z) source = no_third_package x y (source_is two_schemas x y z source.meets) (source.extends 1 (Obj 0 (record { 0 = 2 })) refl)

pub call_of_nothing_holds : Holds program both call_of_nothing
call_of_nothing_holds = λ b matches. absurd (no_source b (three_of b matches.source.places) matches.source)

-- no, where no binding of the source has the roots of the call
pub call_without_source_fails : (Holds program both call_of_nothing → ⊥) → ⊥
call_without_source_fails fails = fails call_of_nothing_holds

-- ---- chains of calls

-- Again(p1, s2)
abbrev call_of_another : RelationCall
call_of_another = record { rel = 1; roots = object 0 0 ∷ object 1 1 ∷ [] }

-- the schema of a call, of the first of a chain, and of the second
abbrev schema_of : RelationCall → ℕ
schema_of c = object_number (value_at c.roots 1)

abbrev first_schema : List RelationCall → ℕ
first_schema [] = 0
first_schema (c ∷ cs) = schema_of c

abbrev second_schema : List RelationCall → ℕ
second_schema [] = 0
second_schema (c ∷ cs) = first_schema cs

-- a call as one of a chain that has another one alone
pub among_others : Contains (again_call ∷ []) call_of_another → ⊥
among_others (zero, within, is) = let apart : 0 ≡ 1 = ap schema_of is in absurd (omega (arith, apart))
among_others (suc k, within, is) = absurd (omega (arith, within))

-- a chain of more calls than there may be
pub one_call_too_many : (chain : List RelationCall) → length chain ≡ suc MAX_CALLS → IsChain chain → ⊥
one_call_too_many chain more is = let few = is.few in absurd (omega (arith, more, few))

pub call_comes_back : IsCyclic (again_call ∷ again_call ∷ [])
call_comes_back = record {
  before = again_call ∷ [];
  last = again_call;
  is = refl;
  distinct = λ i j d before within same. absurd (omega (arith, before, within));
  repeat = (0, omega arith, refl);
}

-- a chain that comes back as one that is too long
pub cycle_as_deep : IsDeep (again_call ∷ again_call ∷ []) → ⊥
cycle_as_deep deep = deep.distinct 0 1 again_call (omega arith) (omega arith) refl

-- a relation that calls itself with other roots as a chain that comes back
pub each_call_of_itself_is_a_cycle : IsCyclic (again_call ∷ call_of_another ∷ []) → ⊥
each_call_of_itself_is_a_cycle cyclic = by cyclic.before cyclic.last cyclic.is cyclic.repeat
  where
    by : (before : List RelationCall) (last : RelationCall) → again_call ∷ call_of_another ∷ [] ≡ before ++ last ∷ [] → Contains before last → ⊥
    by [] last e h = cc
    by (c ∷ []) last e (zero, within, is) =
        let one : 0 ≡ schema_of c = ap first_schema e in
        let two : 1 ≡ schema_of last = ap second_schema e in
        let same : schema_of c ≡ schema_of last = ap schema_of is in
        absurd (omega (arith, one, two, same))
    by (c ∷ []) last e (suc k, within, is) = absurd (omega (arith, within))
    by (c ∷ d ∷ []) last e h = cc
    by (c ∷ d ∷ d2 ∷ ds) last e h = cc
