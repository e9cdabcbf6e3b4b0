-- What roots get, one after another.
use Rattle.std.specs.Prelude.{◌≡◌, ◌≤◌, ℕ, List, [], ◌∷◌, length, drop, min, Option}
use Rattle.std.proofs.Common.{refl}
use Rattle.qv_syntax.specs.declared.program.Dom.{Dom}
use Rattle.qv_syntax.specs.declared.typed.Typed.{Typed}
use Rattle.qvtr_semantics.specs.declared.datum.Datum.{Datum}
use Rattle.qvtr_semantics.specs.Templates.{Values}
use Rattle.qvtr_semantics.specs.Calls.{with_roots}
use Rattle.relation_calls.specs.Tables.{with_arguments}
use Rattle.relation_calls.proofs.ListLaws.{both_ended}

none_given : (values : Values) (doms : List Dom) → with_roots values doms [] ≡ values
none_given values [] = refl
none_given values (dom ∷ doms) = refl

-- at the end of the shorter list
pub ended : (values : Values) (doms : List Dom) (ds : List Datum) (i : ℕ) → min (length doms) (length ds) ≤ i → with_roots values (drop i doms) (drop i ds) ≡ values
ended values doms ds i past = both_ended with_roots values (λ ys. refl) (none_given values) doms ds i past

no_argument : (places : List (Option ℕ)) (doms : List Dom) → with_arguments places doms [] ≡ places
no_argument places [] = refl
no_argument places (dom ∷ doms) = refl

pub ended_arguments : (places : List (Option ℕ)) (doms : List Dom) (args : List Typed) (i : ℕ) → min (length doms) (length args) ≤ i
    → with_arguments places (drop i doms) (drop i args) ≡ places
ended_arguments places doms args i past = both_ended with_arguments places (λ ys. refl) (no_argument places) doms args i past
