-- The example's transformation, told plainly.
use Rattle.std.proofs.Common.{◌≡◌, ◌<◌, ◌≤◌, ◌^◌, ℕ, zero, suc, true, false, List, [], ◌∷◌, map, length, refl, sym, subst, ◌∙◌, arith}
use Rattle.std.specs.Prelude.{codes, Some, slice_get, Contains, All}
use Rattle.std.specs.List.{list_all}
use Rattle.std.proofs.lemmas.Option.{same_Some, none-some}
use Rattle.std.proofs.lemmas.List.Elements.{All-from_recursion}
use Rattle.qv_syntax.specs.declared.program.Rel.{Rel}
use Rattle.qv_syntax.specs.Relations.{IsCallPath}
use Rattle.qv_syntax.specs.WellFormed.{IsWellFormed}
use Rattle.enforcement_rules.specs.Rules.{IsEnforceable}
use Rattle.evaluation_laws.specs.Literals.{HasStorableTexts}
use Rattle.example_program.specs.MainProgram.{package_to_schema, class_to_table, attr_to_column, prim_to_column, nested_to_column, super_to_column, main_program_data}
use Rattle.example_program.proofs.Tests.{all_of, each_of, each_of_none}
use Rattle.example_program.proofs.KindLaws.{metas}
use Rattle.example_program.proofs.WellLaws.{IsTested, tested, is_well_formed}
use Rattle.example_program.proofs.EnforceableLaws.{is_enforceable}
use Rattle.example_program.proofs.TextLaws.{texts_storable}
use Rattle.example_program.proofs.Checks.{all_ok}
use Rattle.example_program.proofs.Plain.{Kind, texts, objects, Pattern, shape, no_more, has_text, has_word, has_object, object_argument, text_argument, word_argument, prefixed_argument, argument_of, Call, Clause, given, called, Relation, rel_of, program_of}

abbrev p2s : Relation
p2s = record {
  name = codes "PackageToSchema";
  top = true;
  stratum = 0;
  vars = (codes "pn", texts) ∷ (codes "p", objects 0 1) ∷ (codes "s", objects 1 1) ∷ [];
  universal = 0 ∷ 1 ∷ [];
  existential = 2 ∷ [];
  from = shape 1 1 (has_text 0 0 no_more);
  to = shape 2 1 (has_text 0 0 no_more);
  prefix = [];
  whens = [];
  wheres = [];
}

abbrev c2t : Relation
c2t = record {
  name = codes "ClassToTable";
  top = true;
  stratum = 1;
  vars = (codes "cn", texts) ∷ (codes "c", objects 0 2) ∷ (codes "p", objects 0 1) ∷ (codes "t", objects 1 2) ∷ (codes "s", objects 1 1) ∷ [];
  universal = 0 ∷ 1 ∷ 2 ∷ 4 ∷ [];
  existential = 3 ∷ [];
  from = shape 1 2 (has_object 2 (shape 2 1 no_more) (has_word 3 (codes "persistent") (has_text 0 0 no_more)));
  to = shape 3 2 (has_object 2 (shape 4 1 no_more) (has_text 0 0 no_more));
  prefix = [];
  whens = record { number = 0; args = object_argument 2 0 1 ∷ object_argument 4 1 1 ∷ [] } ∷ [];
  wheres = called (record { number = 2; args = object_argument 1 0 2 ∷ object_argument 3 1 2 ∷ word_argument [] ∷ [] }) ∷ [];
}

abbrev column_clause : ℕ → ℕ → ℕ → ℕ → Clause
column_clause number class table prefix = called (record { number = number; args = object_argument class 0 2 ∷ object_argument table 1 2 ∷ text_argument prefix ∷ [] })

abbrev a2c : Relation
a2c = record {
  name = codes "AttrToColumn";
  top = false;
  stratum = 0;
  vars = (codes "c", objects 0 2) ∷ (codes "t", objects 1 2) ∷ (codes "prefix", texts) ∷ [];
  universal = 0 ∷ 2 ∷ [];
  existential = 1 ∷ [];
  from = shape 0 2 no_more;
  to = shape 1 2 no_more;
  prefix = 2 ∷ [];
  whens = [];
  wheres = column_clause 3 0 1 2 ∷ column_clause 4 0 1 2 ∷ column_clause 5 0 1 2 ∷ [];
}

abbrev pr2c : Relation
pr2c = record {
  name = codes "PrimToColumn";
  top = false;
  stratum = 0;
  vars = (codes "an", texts) ∷ (codes "pt", texts) ∷ (codes "coln", texts) ∷ (codes "c", objects 0 2) ∷ (codes "a", objects 0 3) ∷ (codes "t", objects 1 2)
      ∷ (codes "k", objects 1 3) ∷ (codes "prefix", texts) ∷ [];
  universal = 0 ∷ 1 ∷ 3 ∷ 4 ∷ 7 ∷ [];
  existential = 2 ∷ 5 ∷ 6 ∷ [];
  from = shape 3 2 (has_object 7 (shape 4 3 (has_text 0 0 (has_text 9 1 no_more))) no_more);
  to = shape 5 2 (has_object 5 (shape 6 3 (has_text 0 2 (has_text 7 1 no_more))) no_more);
  prefix = 7 ∷ [];
  whens = [];
  wheres = given 2 7 0 ∷ [];
}

abbrev n2c : Relation
n2c = record {
  name = codes "NestedToColumn";
  top = false;
  stratum = 0;
  vars = (codes "an", texts) ∷ (codes "c", objects 0 2) ∷ (codes "a", objects 0 3) ∷ (codes "d", objects 0 2) ∷ (codes "t", objects 1 2) ∷ (codes "prefix", texts) ∷ [];
  universal = 0 ∷ 1 ∷ 2 ∷ 3 ∷ 5 ∷ [];
  existential = 4 ∷ [];
  from = shape 1 2 (has_object 7 (shape 2 3 (has_text 0 0 (has_object 10 (shape 3 2 no_more) no_more))) no_more);
  to = shape 4 2 no_more;
  prefix = 5 ∷ [];
  whens = [];
  wheres = called (record { number = 2; args = object_argument 3 0 2 ∷ object_argument 4 1 2 ∷ prefixed_argument 5 0 ∷ [] }) ∷ [];
}

abbrev s2c : Relation
s2c = record {
  name = codes "SuperToColumn";
  top = false;
  stratum = 0;
  vars = (codes "c", objects 0 2) ∷ (codes "d", objects 0 2) ∷ (codes "t", objects 1 2) ∷ (codes "prefix", texts) ∷ [];
  universal = 0 ∷ 1 ∷ 3 ∷ [];
  existential = 2 ∷ [];
  from = shape 0 2 (has_object 4 (shape 1 2 no_more) no_more);
  to = shape 2 2 no_more;
  prefix = 3 ∷ [];
  whens = [];
  wheres = column_clause 2 1 2 3 ∷ [];
}

abbrev pub relations : List Relation
relations = p2s ∷ c2t ∷ a2c ∷ pr2c ∷ n2c ∷ s2c ∷ []

-- it is the program
pub is_main : program_of relations ≡ main_program_data
is_main = refl

-- ---- the tests, computed

all_tested : list_all (all_ok relations) relations ≡ true
all_tested = refl

pub each_tested : (r : Relation) → Contains relations r → IsTested relations r
each_tested r c = tested relations r (all_of (all_ok relations) relations all_tested r c)

-- each stratum is reached: ClassToTable calls PackageToSchema in when
reached_by : (number : ℕ) (r s : Relation) → slice_get relations number ≡ Some s → slice_get relations number ≡ Some r → IsCallPath (program_of relations) number s.stratum
    → IsCallPath (program_of relations) number r.stratum
reached_by number r s is found path = subst (λ x. IsCallPath (program_of relations) number x.stratum) (same_Some s r (sym is ∙ found)) path

reached : (number : ℕ) (r : Relation) → slice_get relations number ≡ Some r → IsCallPath (program_of relations) number r.stratum
reached zero r found = reached_by 0 r p2s refl found (IsCallPath.end 0)
reached (suc zero) r found =
    reached_by 1 r c2t refl found (IsCallPath.by_when 1 (rel_of c2t) 0 0 refl (map argument_of (object_argument 2 0 1 ∷ object_argument 4 1 1 ∷ []), (0, omega arith, refl)) (IsCallPath.end 0))
reached (suc (suc zero)) r found = reached_by 2 r a2c refl found (IsCallPath.end 2)
reached (suc (suc (suc zero))) r found = reached_by 3 r pr2c refl found (IsCallPath.end 3)
reached (suc (suc (suc (suc zero)))) r found = reached_by 4 r n2c refl found (IsCallPath.end 4)
reached (suc (suc (suc (suc (suc zero))))) r found = reached_by 5 r s2c refl found (IsCallPath.end 5)
reached (suc (suc (suc (suc (suc (suc n)))))) r found = absurd (none-some r found)

-- ---- what follows

pub main_is_well_formed : IsWellFormed metas main_program_data
main_is_well_formed = subst (IsWellFormed metas) is_main (is_well_formed relations each_tested reached)

pub main_is_enforceable : IsEnforceable metas main_program_data
main_is_enforceable = subst (IsEnforceable metas) is_main (is_enforceable relations each_tested)

pub main_is_storable : HasStorableTexts main_program_data
main_is_storable = subst HasStorableTexts is_main (texts_storable relations each_tested)

pub few_variables : (rel : Rel) → Contains main_program_data.rels rel → length rel.vars ≤ 2 ^ 32
few_variables =
    each_of (λ (x : Rel). length x.vars ≤ 2 ^ 32) package_to_schema (class_to_table ∷ attr_to_column ∷ prim_to_column ∷ nested_to_column ∷ super_to_column ∷ []) (omega arith)
    (each_of (λ (x : Rel). length x.vars ≤ 2 ^ 32) class_to_table (attr_to_column ∷ prim_to_column ∷ nested_to_column ∷ super_to_column ∷ []) (omega arith)
    (each_of (λ (x : Rel). length x.vars ≤ 2 ^ 32) attr_to_column (prim_to_column ∷ nested_to_column ∷ super_to_column ∷ []) (omega arith)
    (each_of (λ (x : Rel). length x.vars ≤ 2 ^ 32) prim_to_column (nested_to_column ∷ super_to_column ∷ []) (omega arith)
    (each_of (λ (x : Rel). length x.vars ≤ 2 ^ 32) nested_to_column (super_to_column ∷ []) (omega arith)
    (each_of (λ (x : Rel). length x.vars ≤ 2 ^ 32) super_to_column ([]) (omega arith)
    (each_of_none (λ (x : Rel). length x.vars ≤ 2 ^ 32)))))))

pub few_conjuncts : All (λ (x : Rel). length x.wheres < 2 ^ 32) main_program_data.rels
few_conjuncts = All-from_recursion (λ (x : Rel). length x.wheres < 2 ^ 32) main_program_data.rels (omega arith, (omega arith, (omega arith, (omega arith, (omega arith, (omega arith, tt))))))
