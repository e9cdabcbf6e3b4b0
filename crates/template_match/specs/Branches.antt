-- The next variable that gets a value, and the candidates for it, of which each binding that is looked for gives it one.
use Rattle.std.specs.Prelude.{◌≡◌, ◌⊎◌, ◌↔◌, ◌≤◌, ⊤, ℕ, true, false, List, Option, None, Some, length, slice_get, Contains}
use Rattle.qv_syntax.specs.declared.program.Var.{Var}
use Rattle.qv_syntax.specs.declared.program.Conj.{Conj}
use Rattle.qvtr_semantics.specs.declared.datum.Datum.{Datum}
use Rattle.qvtr_semantics.specs.Objects.{held_at}
use Rattle.qvtr_semantics.specs.Templates.{Values, value_at, has}
use Rattle.qvtr_semantics.specs.Bindings.{is_datum_for}
use Rattle.template_match.specs.declared.link.Link.{Link}
use Rattle.template_match.specs.declared.branch.Branch.{Branch}
use Rattle.template_match.specs.declared.candidates.Candidates.{Candidates}
use Rattle.template_match.specs.declared.choice.Choice.{Choice}
use Rattle.template_match.specs.declared.told.Told.{Told}
use Rattle.template_match.specs.declared.told.Told.TheVariants.{Nothing, Said, Chosen}
use Rattle.template_match.specs.Problems.{Problem}
use Rattle.template_match.specs.Search.{sought, conjuncts_in, setting_in, is_open, usable_link, usable_conjunct, usable_variable, data_in}
use Rattle.template_match.specs.Posed.{IsSought}

-- the variable is open, and each binding that is looked for from here gives it one of the candidates
pub record IsBranch (p : Problem) (a : Values) (branch : Branch) : Type 0 where
  pub opens : is_open p a branch.variable ≡ true
  pub named : (b : Values) (d : Datum) → IsSought p a b → value_at b branch.variable ≡ Some d → Contains branch.candidates d

abbrev pub branch_of : Problem → Choice → Branch
branch_of p c = record { variable = c.variable; candidates = data_in (setting_in p) c.candidates }

-- the same where the candidates aren't listed yet, with what their number is at most
pub record IsChoice (p : Problem) (a : Values) (c : Choice) : Type 0 where
  pub branch : IsBranch p a (branch_of p c)
  pub size : length (data_in (setting_in p) c.candidates) ≤ c.count

-- each value that the variable may have and at whose property the datum stands, if there is one, is among the candidates
abbrev pub TellsHolders : Problem → ℕ → ℕ → Option Datum → Candidates → Type 0
TellsHolders p v prop o c = (var : Var) (d : Datum) → slice_get p.rel.vars v ≡ Some var → is_datum_for (setting_in p) var d ≡ true → has (held_at (setting_in p) d prop) o ≡ true
    → Contains (data_in (setting_in p) c) d

-- what is told of an open variable
abbrev pub Tells : Problem → Values → Told → Type 0
Tells p a Nothing = ⊤
Tells p a (Said conjunct) = Contains (conjuncts_in p) conjunct.now × (usable_conjunct p a conjunct.now ≡ true)
Tells p a (Chosen choice) = IsChoice p a choice

-- no binding is looked for from here on
abbrev pub IsBarren : Problem → Values → Type 0
IsBarren p a = (b : Values) → IsSought p a b → ⊥

-- no link, no conjunct and no class gives an open variable candidates
pub record IsStuck (p : Problem) (a : Values) : Type 0 where
  pub links : (l : Link) → Contains p.links l → usable_link p a l ≡ false
  pub conjuncts : (c : Conj) → Contains (conjuncts_in p) c → usable_conjunct p a c ≡ false
  pub variables : (v : ℕ) → Contains (sought p) v → usable_variable p a v ≡ false

abbrev pub IsNext : Problem → Values → Option Branch → Type 0
IsNext p a None = IsStuck p a
IsNext p a (Some branch) = IsBranch p a branch

-- what stood here, and the bindings that are looked for from this one on
abbrev pub IsFound : Problem → Values → List Values → List Values → Type 0
IsFound p a olds news = (b : Values) → Contains news b ↔ (Contains olds b ⊎ IsSought p a b)
