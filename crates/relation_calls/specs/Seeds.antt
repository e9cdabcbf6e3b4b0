-- Values of some universal variables, a seed, with which a search for the bindings of a relation begins: an object for the root of a domain
-- of the source (QVT 1.3, section 7.10.1).
use Rattle.std.specs.Prelude.{◌≡◌, ◌==◌, ℕ, Bool, true, false, not, List, [], ◌∷◌, length, Option, None, Some, Contains, MatchOption, if◌then◌else◌}
use Rattle.std.specs.List.{list_any}
use Rattle.std.specs.Ordering.{is_lt}
use Rattle.object_tables.specs.Models.{ModelData}
use Rattle.qv_syntax.specs.declared.program.Program.{Program}
use Rattle.qv_syntax.specs.declared.program.Rel.{Rel}
use Rattle.qv_syntax.specs.declared.program.Dom.{Dom}
use Rattle.qv_syntax.specs.declared.program.Conj.{Conj}
use Rattle.qv_syntax.specs.declared.program.Conj.TheVariants as conjuncts
use Rattle.qvtr_semantics.specs.declared.datum.Datum.{Datum}
use Rattle.qvtr_semantics.specs.declared.binding.Binding.{Binding}
use Rattle.qvtr_semantics.specs.Templates.{Values, value_at}
use Rattle.qvtr_semantics.specs.Bindings.{Source, Extends}
use Rattle.qvtr_semantics.specs.Calls.{RelationCall, free}
use Rattle.qvtr_semantics.specs.Satisfaction.{IsLess}
use Rattle.template_match.specs.Order.{binding_order}
use Rattle.template_match.specs.Posed.{HasPrimitives}
use Rattle.relation_calls.specs.declared.visit.Visit.{Visit}
use Rattle.relation_calls.specs.declared.outcome.Outcome.TheVariants as outcomes
use Rattle.relation_calls.specs.Outcomes.{IsOutcome}
use Rattle.relation_calls.specs.Visits.{left_of, SeenBy}

-- ---- from the objects of a domain

abbrev pub is_without_model : Option ℕ → Bool
is_without_model None = true
is_without_model (Some model) = false

-- a relation with a primitive domain can't be asked without a value for it
abbrev pub has_primitive : Rel → Bool
has_primitive rel = list_any (λ (dom : Dom). is_without_model dom.model) rel.domains

abbrev pub is_call : Conj → Bool
is_call (conjuncts.Call number args) = true
is_call c = false

-- the domain is one of another model than the target's
abbrev pub is_of_source : Program → Option ℕ → Bool
is_of_source program None = false
is_of_source program (Some model) = not (model == program.target)

-- the root of the first such domain
abbrev pub first_root : Program → List Dom → Option ℕ
first_root program [] = None
first_root program (dom ∷ domains) = if is_of_source program dom.model then Some dom.root else first_root program domains

-- ---- for a search

-- a binding begins with one of the seeds
abbrev pub HasSeed : List Values → Values → Type 0
HasSeed seeds b = (f : Values) × Contains seeds f × Extends f b

-- seeds give values to universal variables alone, and each binding that meets the source begins with one of them
pub record AreSeeds (program : Program) (models : List ModelData) (rel : Rel) (seeds : List Values) : Type 0 where
  pub places : (f : Values) → Contains seeds f → length f ≡ length rel.vars
  pub universal : (f : Values) (v : ℕ) (d : Datum) → Contains seeds f → value_at f v ≡ Some d → Contains rel.universal v
  pub all : (b : Values) → Source program models rel (free rel) b → HasSeed seeds b

-- a seed of a relation with which a search can begin
pub record IsSeedOf (rel : Rel) (f : Values) : Type 0 where
  pub places : length f ≡ length rel.vars
  pub primitives : HasPrimitives rel f

-- ---- what is found

-- the binding meets the source with these roots, its calls match, and it has no partner
abbrev pub IsAloneFrom : Visit → Values → Values → Type 0
IsAloneFrom v f b = Source v.program.now v.models.now v.rel.now f b × IsOutcome v.program.now v.models.now (left_of v) v.rel.now b outcomes.Alone

abbrev pub IsAloneFromAny : Visit → List Values → Values → Type 0
IsAloneFromAny v seeds b = (f : Values) × Contains seeds f × IsAloneFrom v f b

-- the chains that are come to by a binding that meets the source with these roots
abbrev pub SeenFrom : Visit → Values → List RelationCall → Type 0
SeenFrom v f chain = (b : Values) × Source v.program.now v.models.now v.rel.now f b × SeenBy v b chain

abbrev pub SeenFromAny : Visit → List Values → List RelationCall → Type 0
SeenFromAny v seeds chain = (f : Values) × Contains seeds f × SeenFrom v f chain

-- the lesser of two bindings, the first where they tie; the one that there is, if there is one alone
abbrev pub lesser : List ℕ → Option Binding → Option Binding → Option Binding
lesser vars o None = o
lesser vars None (Some new) = Some new
lesser vars (Some old) (Some new) = if is_lt (binding_order vars new old) then Some new else Some old

-- of the values of which P says something the least
pub record IsLeastIn (vars : List ℕ) (P : Values → Type 0) (b : Values) : Type 0 where
  pub among : P b
  pub least : (c : Values) → P c → ¬ IsLess vars c b

-- none, or the least
abbrev pub IsLeastFound : List ℕ → (Values → Type 0) → Option Binding → Type 0
IsLeastFound vars P o = MatchOption o ((b : Values) → ¬ P b) (λ b. IsLeastIn vars P b.values)
