-- What the search looks for is what meets the source of a relation, or its target.
use Rattle.std.specs.Prelude.{◌≡◌, ◌⊎◌, ◌↔◌, ℕ, not, List, [], Some, slice_get, Contains}
use Rattle.std.proofs.Common.{refl, sym, ap, ◌∙◌, arith}
use Rattle.object_tables.specs.Models.{ModelData}
use Rattle.object_tables.proofs.ListLemmas.{Contains-filter}
use Rattle.object_tables.proofs.SlotLemmas.{Contains-to_filter}
use Rattle.qv_syntax.specs.declared.program.Var.{Var}
use Rattle.qv_syntax.specs.declared.program.Conj.{Conj}
use Rattle.qv_syntax.specs.declared.typed.Typed.{Typed}
use Rattle.qv_syntax.specs.Parts.{Names}
use Rattle.qv_syntax.specs.Relations.{InConjunct, Says}
use Rattle.qv_syntax.specs.declared.program.Program.{Program}
use Rattle.qv_syntax.specs.declared.program.Rel.{Rel}
use Rattle.qv_syntax.specs.Directions.{AreMeant, HasVariables}
use Rattle.qvtr_semantics.specs.Templates.{Values}
use Rattle.qvtr_semantics.specs.Bindings.{Source, Target}
use Rattle.qvtr_semantics.specs.Satisfaction.{IsLess}
use Rattle.template_match.specs.declared.side.Side.{Side}
use Rattle.template_match.specs.declared.side.Side.TheVariants as sides
use Rattle.template_match.specs.declared.link.Link.{Link}
use Rattle.template_match.specs.declared.join.Join.{Join}
use Rattle.template_match.specs.Joins.{AreJoined}
use Rattle.template_match.specs.declared.plan.Plan.{Plan}
use Rattle.template_match.specs.Plans.{IsPlanOf}
use Rattle.template_match.specs.Problems.{Problem}
use Rattle.template_match.specs.Sources.{IsAsked, is_target_variable, source_variables, NamesNoTarget, SourceWithoutTarget}
use Rattle.template_match.proofs.TellingLaws.{says_names}
use Rattle.template_match.proofs.ProgressLaws.{named_universal}
use Rattle.template_match.proofs.BindingLaws.{one_or_less}
use Rattle.template_match.specs.Posed.{HasPrimitives, HasUniversals, IsPosed, IsSought}

abbrev pub posing : Side → Program → List ModelData → Rel → List Link → List ℕ → List Join → Problem
posing side program models rel links variables joins =
    record { side = side; program = program; models = models; rel = rel; links = links; variables = variables; joins = joins }

same_rel : (a b : Rel) → Some a ≡ Some b → a ≡ b
same_rel a b e = cc

-- a plan is of one relation
pub one_relation : (program : Program) (number : ℕ) (a b : Rel) (plan : Plan) → IsPlanOf program number a plan → IsPlanOf program number b plan → a ≡ b
one_relation program number a b plan p q = same_rel a b (sym p.found ∙ q.found)

-- ---- problems that are posed

named_sought : (program : Program) (rel : Rel) → HasVariables program rel → (c : Conj) (v : ℕ) (e : Typed) (w : ℕ) (var : Var) → Contains rel.whens c → Says c v e → Names e w
    → slice_get rel.vars w ≡ Some var → Contains rel.universal w
named_sought program rel has c v e w var within says names found = (has.universal w var found).1 (named_universal program rel c v e w within says names)

pub source_posed : (program : Program) (models : List ModelData) (number : ℕ) (rel : Rel) (plan : Plan) (joins : List Join) (fixed : Values) → AreMeant program → IsPlanOf program number rel plan → HasPrimitives rel fixed
    → IsPosed (posing sides.Source program models rel plan.source rel.universal joins) fixed
source_posed program models number rel plan joins fixed meant planned primitives =
    let has = (meant number rel planned.found).variables in
    record { links = planned.source; variables = has; seeks = record { universal = λ v c. c; named = named_sought program rel has }; roots = primitives }

pub target_posed : (program : Program) (models : List ModelData) (number : ℕ) (rel : Rel) (plan : Plan) (b : Values) → AreMeant program → IsPlanOf program number rel plan → HasUniversals rel b
    → IsPosed (posing sides.Target program models rel plan.target rel.existential []) b
target_posed program models number rel plan b meant planned universals =
    record { links = planned.target; variables = (meant number rel planned.found).variables; seeks = refl; roots = universals }

says_asked : (c : Conj) (v : ℕ) (e f : Typed) → Says c v e → InConjunct c f → IsAsked c f
says_asked c v e f (Says.equation x g) h = h
says_asked c v e f (Says.condition x g ty own link) h = h

-- where the when clause names none for objects of the target, the others are enough
pub without_target_posed : (program : Program) (models : List ModelData) (number : ℕ) (rel : Rel) (plan : Plan) (fixed : Values) → AreMeant program → IsPlanOf program number rel plan
    → HasPrimitives rel fixed → NamesNoTarget program rel → IsPosed (posing sides.Source program models rel plan.source (source_variables program rel) []) fixed
without_target_posed program models number rel plan fixed meant planned primitives none =
    let has = (meant number rel planned.found).variables in
    record {
      links = planned.source;
      variables = has;
      seeks = record {
        universal = λ v c. Contains-filter (λ w. not (is_target_variable program rel w)) rel.universal v c;
        named = λ c v e w var within says names found.
            let at = says_names c v e w says names in
            Contains-to_filter (λ x. not (is_target_variable program rel x)) rel.universal w (ap not (none c at.0 w within (says_asked c v e at.0 says at.1) at.2))
            (named_sought program rel has c v e w var within says names found);
      };
      roots = primitives;
    }

-- ---- what is looked for

-- no joins ask nothing
pub no_joins : (b : Values) → AreJoined [] b
no_joins b j c = let (k, within, is) = c in absurd (omega (arith, within))

pub source_is : (program : Program) (models : List ModelData) (rel : Rel) (links : List Link) (joins : List Join) (fixed b : Values)
    → IsSought (posing sides.Source program models rel links rel.universal joins) fixed b ↔ (Source program models rel fixed b × AreJoined joins b)
source_is program models rel links joins fixed b = (
  λ s. (record { places = s.partial.places; extends = s.partial.extends; no_others = s.partial.no_others; meets = s.meets }, s.joined),
  λ (s, joined). record { partial = record { places = s.places; extends = s.extends; no_others = s.no_others }; joined = joined; meets = s.meets },
)

pub without_target_is : (program : Program) (models : List ModelData) (rel : Rel) (links : List Link) (fixed b : Values)
    → IsSought (posing sides.Source program models rel links (source_variables program rel) []) fixed b ↔ SourceWithoutTarget program models rel fixed b
without_target_is program models rel links fixed b = (
  λ s. record { places = s.partial.places; extends = s.partial.extends; no_others = s.partial.no_others; meets = s.meets },
  λ s. record { partial = record { places = s.places; extends = s.extends; no_others = s.no_others }; joined = no_joins b; meets = s.meets },
)

pub target_is : (program : Program) (models : List ModelData) (rel : Rel) (links : List Link) (b g : Values)
    → IsSought (posing sides.Target program models rel links rel.existential []) b g ↔ Target program models rel b g
target_is program models rel links b g = (
  λ s. record { places = s.partial.places; extends = s.partial.extends; no_others = s.partial.no_others; meets = s.meets },
  λ s. record { partial = record { places = s.places; extends = s.extends; no_others = s.no_others }; joined = no_joins g; meets = s.meets },
)

-- two bindings that meet the source with the same roots are one, or one of them is less
pub one_source_or_less : (program : Program) (models : List ModelData) (rel : Rel) (roots a b : Values) → Source program models rel roots a → Source program models rel roots b
    → (a ≡ b) ⊎ (IsLess rel.universal a b ⊎ IsLess rel.universal b a)
one_source_or_less program models rel roots a b one other =
    one_or_less (posing sides.Source program models rel [] rel.universal []) roots a b ((source_is program models rel [] [] roots a).1 (one, no_joins a))
    ((source_is program models rel [] [] roots b).1 (other, no_joins b))
