-- E1: the test on the domains tells what the rule asks.
use Rattle.std.proofs.Common.{◌≡◌, ◌≢◌, ℕ, Bool, true, Option, refl, sym, ◌∙◌}
use Rattle.std.specs.Prelude.{◌↔◌, IsTrue}
use Rattle.std.specs.List.{list_any}
use Rattle.qv_syntax.specs.declared.program.Program.{Program}
use Rattle.qv_syntax.specs.declared.program.Rel.{Rel}
use Rattle.qv_syntax.specs.declared.program.Marker.{Marker}
use Rattle.qv_syntax.specs.declared.program.Marker.TheVariants as markers
use Rattle.enforcement_rules.specs.Patterns.{IsUnmarked}
use Rattle.enforcement_rules.specs.PatternTests.{is_unmarked_as, is_unmarked}
use Rattle.enforcement_rules.specs.TargetTests.{is_of_target}
use Rattle.enforcement_rules.proofs.ListLaws.{any_there, any_here}
use Rattle.enforcement_rules.proofs.ExpressionLaws.{target_model, model_target}

-- ---- E1

module _ (program : Program) where
  marked_other : (model : Option ℕ) (marker : Marker) → is_unmarked_as program model marker ≡ true → (is_of_target program model ≡ true) × (marker ≢ markers.Enforce)
  marked_other model markers.Enforce h = absurd (cc)
  marked_other model markers.Checkonly h = (h, λ e. absurd (cc))
  marked_other model markers.Primitive h = (h, λ e. absurd (cc))

  other_marked : (model : Option ℕ) (marker : Marker) → is_of_target program model ≡ true → marker ≢ markers.Enforce → is_unmarked_as program model marker ≡ true
  other_marked model markers.Enforce is other = absurd (other refl)
  other_marked model markers.Checkonly is other = is
  other_marked model markers.Primitive is other = is

  unmarked_there : (rel : Rel) → list_any (is_unmarked program) rel.domains ≡ true → IsUnmarked program rel
  unmarked_there rel h =
      let found = any_there (is_unmarked program) rel.domains h in
      let dom = found.0 in
      let is = marked_other dom.model dom.marker found.2 in
      record { dom = dom; of = record { is = found.1; target = target_model program dom.model is.0 }; other = is.1 }

  there_unmarked : (rel : Rel) → IsUnmarked program rel → list_any (is_unmarked program) rel.domains ≡ true
  there_unmarked rel u = any_here (is_unmarked program) rel.domains u.dom u.of.is (other_marked u.dom.model u.dom.marker (model_target program u.dom.model u.of.target) u.other)

  pub unmarked_told : (rel : Rel) (b : Bool) → b ≡ list_any (is_unmarked program) rel.domains → IsTrue b ↔ IsUnmarked program rel
  unmarked_told rel b is = (λ h. unmarked_there rel (sym is ∙ h), λ u. is ∙ there_unmarked rel u)
