-- The values of an object at a key, where it has at most one at each property.
use Rattle.std.specs.Prelude.{◌≡◌, ◌≢◌, ◌<◌, ◌≤◌, ◌+◌, ◌&&◌, ◌||◌, ◌==◌, ℕ, zero, suc, Bool, true, false, List, [], ◌∷◌, map, length, Contains}
use Rattle.std.specs.List.{list_any}
use Rattle.std.specs.Ordering.{ordering_then, is_eq, nat_cmp, eq_by_cmp}
use Rattle.std.specs.declared.cmp.Ordering.{Ordering}
use Rattle.std.specs.declared.cmp.Ordering.TheVariants.{Less, Equal, Greater}
use Rattle.std.specs.Cmp.Lexicographic.{slice_cmp}
use Rattle.std.proofs.Common.{refl, sym, ap, ◌∙◌, arith, get_or, drop}
use Rattle.std.proofs.lemmas.Bool.Decides.{nat_tests}
use Rattle.std.proofs.lemmas.List.{at_drop_more}
use Rattle.mof_metamodel.proofs.Facts.{or_false, nothing_in}
use Rattle.mof_metamodel.specs.declared.desc.PropId.{PropId}
use Rattle.object_tables.specs.Models.{ModelData}
use Rattle.qv_syntax.specs.declared.program.Program.{Program}
use Rattle.repair_semantics.specs.Claims.{same_held}
use Rattle.repair_semantics.specs.Images.{same_number, held_in, holds, holds_key}
use Rattle.ocl_eval.specs.OrderLaws.{ties_where_same}
use Rattle.term_table.specs.declared.numbered.NumberedValue.{NumberedValue}
use Rattle.term_table.specs.declared.numbered.NumberedValue.TheVariants as numbered
use Rattle.term_table.specs.NumberOrder.{numbered_value_order}
use Rattle.term_images.specs.KeyReadings.{as_held, asked, alone, is_held, held_at_each}

-- ---- ties

number_ties : (m n : ℕ) → (m == n) ≡ is_eq (nat_cmp m n)
number_ties m n = grind (arith, nat_tests)

-- slots hold two values as one exactly where neither comes first
pub held_ties : (v w : NumberedValue) → same_held same_number (as_held v) (as_held w) ≡ eq_by_cmp numbered_value_order v w
held_ties (numbered.Val d) (numbered.Val e) = ties_where_same d e
held_ties (numbered.Val d) (numbered.Term n) = refl
held_ties (numbered.Term m) (numbered.Val e) = refl
held_ties (numbered.Term m) (numbered.Term n) = number_ties m n

then_ties : (o q : Ordering) → is_eq (ordering_then o q) ≡ (is_eq o && is_eq q)
then_ties Less q = refl
then_ties Equal q = refl
then_ties Greater q = refl

pub and_false : (b : Bool) → (b && false) ≡ false
and_false true = refl
and_false false = refl

-- what is held from a place on is the one there, or stands behind it
pub held_from : (v w : NumberedValue) (ws : List NumberedValue) (i : ℕ) (b : Bool) → i < length ws → w ≡ get_or ws i w
    → eq_by_cmp numbered_value_order v w ≡ b → is_held v (drop i ws) ≡ (b || is_held v (drop (i + 1) ws))
held_from v w ws i b below is tie =
    at_drop_more (is_held v) ws i w below
    ∙ ap (λ u. is_held v (u ∷ drop (i + 1) ws)) (sym is)
    ∙ ap (λ c. c || is_held v (drop (i + 1) ws)) (held_ties v w ∙ tie)

-- ---- objects that hold a key

module _ (program : Program) (m : ModelData) (o : ℕ) where
  -- an object with one value at each property holds exactly these
  pub holds_these : (ps : List PropId) (vs ws : List NumberedValue) → held_at_each program m o ps ≡ map alone vs
      → holds_key program m o ps (asked ws) ≡ is_eq (slice_cmp numbered_value_order ws vs)
  holds_these [] [] [] are = refl
  holds_these [] [] (w ∷ ws) are = refl
  holds_these [] (v ∷ vs) ws are = absurd (cc)
  holds_these (p ∷ ps) [] ws are = absurd (cc)
  holds_these (p ∷ ps) (v ∷ vs) [] are = refl
  holds_these (p ∷ ps) (v ∷ vs) (w ∷ ws) are =
      let here : held_in program m o p.0 ≡ alone v = cc in
      let others : held_at_each program m o ps ≡ map alone vs = cc in
      let first : holds program m o p.0 (as_held w) ≡ is_eq (numbered_value_order w v)
      = ap (list_any (same_held same_number (as_held w))) here ∙ or_false (same_held same_number (as_held w) (as_held v)) ∙ held_ties w v in
      ap (λ b. b && holds_key program m o ps (asked ws)) first
      ∙ ap (λ b. is_eq (numbered_value_order w v) && b) (holds_these ps vs ws others)
      ∙ sym (then_ties (numbered_value_order w v) (slice_cmp numbered_value_order ws vs))

  -- an object without a value at one of the properties holds none
  pub holds_none : (ps : List PropId) (ws : List NumberedValue) → Contains (held_at_each program m o ps) []
      → holds_key program m o ps (asked ws) ≡ false
  holds_none [] ws lacks = absurd (nothing_in [] lacks)
  holds_none (p ∷ ps) [] lacks = refl
  holds_none (p ∷ ps) (w ∷ ws) (zero, within, is) =
      ap (λ hs. list_any (same_held same_number (as_held w)) hs && holds_key program m o ps (asked ws)) is
  holds_none (p ∷ ps) (w ∷ ws) (suc k, within, is) =
      ap (λ b. holds program m o p.0 (as_held w) && b) (holds_none ps ws (k, omega (arith, within), is))
      ∙ and_false (holds program m o p.0 (as_held w))

  -- values of another number than the properties are not held
  pub holds_not : (ps : List PropId) (ws : List NumberedValue) → length ps ≢ length ws → holds_key program m o ps (asked ws) ≡ false
  holds_not [] [] other = absurd (other refl)
  holds_not [] (w ∷ ws) other = refl
  holds_not (p ∷ ps) [] other = refl
  holds_not (p ∷ ps) (w ∷ ws) other =
      ap (λ b. holds program m o p.0 (as_held w) && b) (holds_not ps ws (λ e. other (ap suc e)))
      ∙ and_false (holds program m o p.0 (as_held w))

  -- where nothing is left, nothing is missing
  pub holds_ended : (ps : List PropId) (ws : List NumberedValue) (i : ℕ) → length ps ≡ length ws → length ps ≤ i
      → holds_key program m o (drop i ps) (asked (drop i ws)) ≡ true
  holds_ended [] [] zero long past = refl
  holds_ended [] [] (suc i) long past = refl
  holds_ended [] (w ∷ ws) i long past = absurd (omega (arith, long))
  holds_ended (p ∷ ps) [] i long past = absurd (omega (arith, long))
  holds_ended (p ∷ ps) (w ∷ ws) zero long past = absurd (omega (arith, past))
  holds_ended (p ∷ ps) (w ∷ ws) (suc i) long past = holds_ended ps ws i (omega (arith, long)) (omega (arith, past))
