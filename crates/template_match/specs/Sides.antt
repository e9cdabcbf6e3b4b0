-- The two sides of a relation: its source, which the universal variables, the when clause and the domains of other models make up, and its
-- target (QVT 1.3, section 7.10.1).
use Rattle.std.specs.Prelude.{ℕ, Bool, ◌&&◌, not, List}
use Rattle.std.specs.List.{list_all}
use Rattle.object_tables.specs.Models.{ModelData}
use Rattle.qv_syntax.specs.declared.program.Program.{Program}
use Rattle.qv_syntax.specs.declared.program.Rel.{Rel}
use Rattle.qv_syntax.specs.declared.program.Dom.{Dom}
use Rattle.qv_syntax.specs.declared.program.Conj.{Conj}
use Rattle.qvtr_semantics.specs.Templates.{Values}
use Rattle.qvtr_semantics.specs.Bindings.{is_target_domain, have_values, source_meets, target_meets, conjunct_holds}
use Rattle.template_match.specs.declared.side.Side.{Side}
use Rattle.template_match.specs.declared.side.Side.TheVariants.{Source, Target}

-- the clause that is asked
abbrev pub clause_of : Side → Rel → List Conj
clause_of Source rel = rel.whens
clause_of Target rel = rel.wheres

-- the domain's template is asked
abbrev pub is_of_side : Side → Program → Dom → Bool
is_of_side Source program dom = not (is_target_domain program dom)
is_of_side Target program dom = is_target_domain program dom

abbrev pub domain_meets : Side → Program → List ModelData → Values → Dom → Bool
domain_meets Source = source_meets
domain_meets Target = target_meets

-- the binding gives the variables values that they may have, and meets the side
abbrev pub meets_side : Side → List ℕ → Program → List ModelData → Rel → Values → Bool
meets_side side variables program models rel b =
    have_values program models rel variables b
    && list_all (domain_meets side program models b) rel.domains
    && list_all (conjunct_holds program models b) (clause_of side rel)
