-- Wrong answers that the definitions exclude, each on a small case: what the definition gives, and that it isn't what the wrong
-- code would answer. A contract says that the code's result is what the definition gives, so it refuses that code.
use Rattle.std.specs.Prelude.{◌≡◌, ℕ, true, pos, List, [], ◌∷◌, None, Some}
use Rattle.std.proofs.Common.{refl}
use Rattle.object_tables.specs.declared.value.Value.TheVariants as values
use Rattle.qv_syntax.specs.declared.program.Dom.{Dom}
use Rattle.qv_syntax.specs.declared.program.Marker.TheVariants.{Enforce}
use Rattle.qvtr_semantics.specs.declared.datum.Datum.{Datum}
use Rattle.qvtr_semantics.specs.declared.datum.Datum.TheVariants as datums
use Rattle.term_table.specs.declared.numbered.NumberedValue.TheVariants.{Val, Term}
use Rattle.entry_bindings.specs.declared.argument.Argument.{Argument}
use Rattle.entry_bindings.specs.declared.argument.Argument.TheVariants.{Given, Open}
use Rattle.entry_bindings.specs.declared.matching.Match.{Match}
use Rattle.entry_bindings.specs.Arguments.{put_roots}
use Rattle.entry_bindings.specs.Joins.{agree, filled, matching}

abbrev number : ℕ → Datum
number n = datums.Val 0 (values.Int (pos n))

-- ---- matches: of the relation 1, with the object of the target 4 and the datum 7

abbrev one : Match
one = record { rel = 1; roots = Term 4 ∷ Val (number 7) ∷ [] }

pub open_arguments_take_terms : matching (one ∷ []) 1 (Open 0 ∷ Given (Val (number 7)) ∷ []) ≡ one ∷ []
open_arguments_take_terms = refl

-- a match of another relation
pub each_relation_is_meant : matching (one ∷ []) 2 (Open 0 ∷ Given (Val (number 7)) ∷ []) ≡ one ∷ [] → ⊥
each_relation_is_meant e = cc

-- a variable for objects of the target that takes a datum
pub open_arguments_take_data : agree (Open 0 ∷ Open 1 ∷ []) one.roots ≡ true → ⊥
open_arguments_take_data e = cc

-- ---- a variable that stands for two arguments

pub twice_the_same : filled (None ∷ []) (Open 0 ∷ Open 0 ∷ []) (Term 4 ∷ Term 4 ∷ []) ≡ Some (Some (Term 4) ∷ [])
twice_the_same = refl

-- the first of two objects of the target
pub the_first_is_taken : filled (None ∷ []) (Open 0 ∷ Open 0 ∷ []) (Term 4 ∷ Term 5 ∷ []) ≡ Some (Some (Term 4) ∷ []) → ⊥
the_first_is_taken e = cc

-- ---- two domains with one root

abbrev domain : Dom
domain = record { model = Some 1; marker = Enforce; root = 0; template = None }

abbrev given : List Argument
given = Given (Term 4) ∷ Given (Term 5) ∷ []

pub the_last_counts : put_roots (None ∷ []) (domain ∷ domain ∷ []) given ≡ Some (Given (Term 5)) ∷ []
the_last_counts = refl

-- the argument of the first domain
pub the_first_counts : put_roots (None ∷ []) (domain ∷ domain ∷ []) given ≡ Some (Given (Term 4)) ∷ [] → ⊥
the_first_counts e = cc
