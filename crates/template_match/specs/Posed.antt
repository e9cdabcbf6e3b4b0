-- What a search is given: the links of its side, the variables that are sought, and values of the roots.
use Rattle.std.specs.Prelude.{◌≡◌, ◌⊎◌, ℕ, true, false, None, Some, length, slice_get, Contains}
use Rattle.qv_syntax.specs.declared.program.Rel.{Rel}
use Rattle.qv_syntax.specs.declared.program.Dom.{Dom}
use Rattle.qv_syntax.specs.declared.program.Var.{Var}
use Rattle.qv_syntax.specs.declared.program.Conj.{Conj}
use Rattle.qv_syntax.specs.declared.typed.Typed.{Typed}
use Rattle.qv_syntax.specs.Parts.{Names}
use Rattle.qv_syntax.specs.Relations.{Says}
use Rattle.qv_syntax.specs.Directions.{HasVariables}
use Rattle.qvtr_semantics.specs.declared.datum.Datum.{Datum}
use Rattle.qvtr_semantics.specs.Templates.{Values, value_at}
use Rattle.template_match.specs.declared.side.Side.{Side}
use Rattle.template_match.specs.declared.side.Side.TheVariants.{Source, Target}
use Rattle.template_match.specs.Links.{side_links}
use Rattle.qvtr_semantics.specs.Bindings.{Extends}
use Rattle.template_match.specs.Joins.{AreJoined}
use Rattle.template_match.specs.Sides.{meets_side}
use Rattle.template_match.specs.Problems.{Problem}
use Rattle.template_match.specs.Search.{sought}

abbrev pub HasValue : Values → ℕ → Type 0
HasValue b v = (d : Datum) × (value_at b v ≡ Some d)

-- where the relation isn't top, the variable of each primitive domain has a value
abbrev pub HasPrimitives : Rel → Values → Type 0
HasPrimitives rel fixed = (dom : Dom) → rel.top ≡ false → Contains rel.domains dom → dom.model ≡ None → HasValue fixed dom.root

-- each universal variable has a value
abbrev pub HasUniversals : Rel → Values → Type 0
HasUniversals rel b = (v : ℕ) → Contains rel.universal v → HasValue b v

abbrev pub HasRoots : Side → Rel → Values → Type 0
HasRoots Source rel roots = HasPrimitives rel roots
HasRoots Target rel roots = HasUniversals rel roots

-- in the source universal variables are sought, among them all that the equations of the when clause name
pub record SeeksSource (p : Problem) : Type 0 where
  pub universal : (v : ℕ) → Contains (sought p) v → Contains p.rel.universal v
  pub named : (c : Conj) (v : ℕ) (e : Typed) (w : ℕ) (var : Var) → Contains p.rel.whens c → Says c v e → Names e w → slice_get p.rel.vars w ≡ Some var → Contains (sought p) w

-- and in the target the existential ones
abbrev pub Seeks : Side → Problem → Type 0
Seeks Source p = SeeksSource p
Seeks Target p = sought p ≡ p.rel.existential

pub record IsPosed (p : Problem) (fixed : Values) : Type 0 where
  pub links : p.links ≡ side_links p.side p.program p.rel
  pub variables : HasVariables p.program p.rel
  pub seeks : Seeks p.side p
  pub roots : HasRoots p.side p.rel fixed

-- a binding on the way: the roots and values of variables that are sought
pub record IsPartial (p : Problem) (roots a : Values) : Type 0 where
  pub places : length a ≡ length p.rel.vars
  pub extends : Extends roots a
  pub no_others : (v : ℕ) (d : Datum) → value_at a v ≡ Some d → Contains (sought p) v ⊎ (value_at roots v ≡ Some d)

-- a binding that is looked for
pub record IsSought (p : Problem) (roots b : Values) : Type 0 where
  pub partial : IsPartial p roots b
  pub joined : AreJoined p.joins b
  pub meets : meets_side p.side p.variables p.program p.models p.rel b ≡ true
