-- Wrong answers that the definitions exclude, each on a small case: what the definition gives, and that it isn't what the wrong
-- code would answer. A contract says that the code's result is what the definition gives, so it refuses that code.
use Rattle.std.specs.Prelude.{◌≡◌, ℕ, true, false, List, [], ◌∷◌, codes, length, Option, None, Some, is_none, cond}
use Rattle.std.specs.List.{flat_map}
use Rattle.std.specs.Option.{option_to_list}
use Rattle.std.proofs.Common.{refl, sym, ap, ◌∙◌, arith}
use Rattle.object_tables.specs.declared.value.Value.TheVariants as values
use Rattle.qvtr_semantics.specs.declared.datum.Datum.TheVariants.{Val}
use Rattle.qvtr_semantics.specs.SmallModels.{two_schemas}
use Rattle.repair_semantics.specs.declared.report.Report.{Report}
use Rattle.repair_semantics.specs.declared.term.Term.{Term}
use Rattle.repair_semantics.specs.declared.term.TermValue.{out-roll-TermValue}
use Rattle.repair_semantics.specs.declared.term.TermValue.TheOpen as of
use Rattle.repair_semantics.specs.declared.demand.Demand.{Demand}
use Rattle.repair_semantics.specs.Terms.{term_part, term_in, term_order, each_once}
use Rattle.repair_semantics.specs.Claims.{Held}
use Rattle.repair_semantics.specs.Candidates.{value_held, slot_with}
use Rattle.repair_semantics.specs.CandidateObjects.{fresh_terms}
use Rattle.repair_semantics.specs.Demands.{demanded_terms}
use Rattle.repair_semantics.specs.Reports.{is_removed, IsReport}
use Rattle.repair_semantics.specs.SmallRepairs.{two_relations, text_value, twice, schema, one_demand}
use Rattle.repair_semantics.proofs.RepairRows.{first_is_image}
use Rattle.enforce_mode.specs.Reports.{deleted_count}

-- ---- a target that stays as it is

pub nothing_is_deleted : deleted_count two_schemas two_schemas ≡ 0
nothing_is_deleted = refl

-- each object of the target is deleted
pub each_object_is_deleted : deleted_count two_schemas two_schemas ≡ 2 → ⊥
each_object_is_deleted e = let apart : 0 ≡ 2 = e in omega (arith, apart)

-- ---- two schemas `a`: the first one is what is demanded

abbrev fresh_by : Option ℕ → List Term
fresh_by o = cond (is_none o) (schema (codes "a") ∷ []) []

name_is_no_term : term_in (text_value (codes "a")) ≡ None
name_is_no_term = ap term_part (out-roll-TermValue (of.Val (Val 0 (values.Str (codes "a")))))

one_term : demanded_terms one_demand ≡ schema (codes "a") ∷ []
one_term = ap (λ (t : Option Term). each_once term_order (flat_map (λ (d : Demand). schema (codes "a") ∷ option_to_list t) one_demand)) name_is_no_term

pub nothing_is_fresh : fresh_terms two_relations twice (demanded_terms one_demand) ≡ []
nothing_is_fresh = ap (fresh_terms two_relations twice) one_term ∙ ap fresh_by first_is_image

-- an object that a demanded term is counts as created
pub images_count_as_created : (report : Report) → IsReport two_relations twice one_demand report → report.created ≡ 1 → ⊥
images_count_as_created report is one = let apart : 1 ≡ 0 = sym one ∙ is.created ∙ ap (λ (ts : List Term). length ts) nothing_is_fresh in omega (arith, apart)

-- ---- a slot that holds a text

pub text_is_a_value : value_held (Held.datum (Val 0 (values.Str (codes "a")))) ≡ Some (values.Str (codes "a"))
text_is_a_value = refl

-- values are left out
pub values_are_left_out : value_held (Held.datum (Val 0 (values.Str (codes "a")))) ≡ None → ⊥
values_are_left_out e = cc
