-- A conflict computed: two demands give one schema two names.
use Rattle.std.specs.Prelude.{◌≡◌, ℕ, Bool, ◌&&◌, not, ◌==◌, List, codes, Contains, IsTrue}
use Rattle.std.proofs.Common.{refl, ap, sym, subst, arith}
use Rattle.object_tables.specs.declared.value.Value.TheVariants as values
use Rattle.qvtr_semantics.specs.declared.datum.Datum.TheVariants.{Val}
use Rattle.qvtr_semantics.specs.SmallModels.{rdb}
use Rattle.repair_semantics.specs.declared.term.Term.{Term}
use Rattle.repair_semantics.specs.declared.term.TermValue.{out-roll-TermValue}
use Rattle.repair_semantics.specs.declared.term.TermValue.TheOpen as of
use Rattle.repair_semantics.specs.Terms.{same_term}
use Rattle.repair_semantics.specs.Claims.{Held, Fact, claims_of, is_single_spot, same_said, are_against}
use Rattle.repair_semantics.specs.Conflicts.{held_in, fact_of, AreInConflict}
use Rattle.repair_semantics.specs.SmallRepairs.{schema, text_value, demand, first_name, second_name, two_names, name_claim}
use Rattle.repair_semantics.proofs.TieLaws.{ties_are_one}

abbrev named_fact : Held Term → Fact Term
named_fact h = record { owner = schema (codes "a"); prop = 0; holds = h }

fact_is : (s : List ℕ) → fact_of (demand 0 (schema (codes "a")) 0 (text_value s)) ≡ named_fact (Held.datum (Val 0 (values.Str s)))
fact_is s = ap (λ x. named_fact (held_in x)) (out-roll-TermValue (of.Val (Val 0 (values.Str s))))

claimed : (s : List ℕ) → Contains (claims_of rdb (fact_of (demand 0 (schema (codes "a")) 0 (text_value s)))) (name_claim s)
claimed s = subst (λ f. Contains (claims_of rdb f) (name_claim s)) (sym (fact_is s)) (0, omega arith, refl)

abbrev against_by : Bool → Bool
against_by same = (same && (0 == 0)) && is_single_spot rdb (name_claim (codes "a")).spot && not (same_said same_term (name_claim (codes "a")).said (name_claim (codes "x")).said)

names_differ : IsTrue (are_against rdb same_term (name_claim (codes "a")) (name_claim (codes "x")))
names_differ = ap against_by ((ties_are_one (schema (codes "a")) (schema (codes "a"))).1 refl)

pub two_names_clash : AreInConflict rdb two_names first_name second_name (name_claim (codes "a")) (name_claim (codes "x"))
two_names_clash = record {
  earlier = 0;
  later = 1;
  before = omega arith;
  first_is = refl;
  second_is = refl;
  of_first = claimed (codes "a");
  of_second = claimed (codes "x");
  against = names_differ;
}
