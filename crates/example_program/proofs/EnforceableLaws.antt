-- A program that is told plainly can be enforced, where the tests of its relations hold.
use Rattle.std.proofs.Common.{◌≡◌, ℕ, List, refl, sym, ap, ◌∙◌, subst}
use Rattle.std.specs.Prelude.{Some, slice_get, Contains}
use Rattle.mof_metamodel.proofs.Facts.{contains_at}
use Rattle.qv_syntax.specs.declared.program.Rel.{Rel}
use Rattle.enforcement_rules.specs.Rules.{Breaks, BreaksAt, IsEnforceable}
use Rattle.example_program.proofs.Tests.{image_at}
use Rattle.example_program.proofs.Plain.{Relation, rel_of, program_of}
use Rattle.example_program.proofs.KindLaws.{metas}
use Rattle.example_program.proofs.WellLaws.{IsTested}
use Rattle.example_program.proofs.PatternRules.{is_marked, keeps_off, all_settled, all_made, all_determined}
use Rattle.example_program.proofs.KeyRules.{one_key_each, all_keyed, single_keys, no_key_cycle}
use Rattle.example_program.proofs.CallRules.{right_arguments, right_calls}

module _ (rs : List Relation) (each : (r : Relation) → Contains rs r → IsTested rs r) where
  keeps : (r : Relation) → IsTested rs r → (rule : ℕ) → ¬ Breaks metas (program_of rs) (rel_of r) rule
  keeps r t rule (Breaks.e1 is h) = is_marked rs r t h
  keeps r t rule (Breaks.e2 is h) = keeps_off rs r t h
  keeps r t rule (Breaks.e3 is h) = all_settled rs r t h
  keeps r t rule (Breaks.e4 is h) = all_made rs r t h
  keeps r t rule (Breaks.e5 is h) = all_keyed rs r t h
  keeps r t rule (Breaks.e6 is h) = single_keys rs r t h
  keeps r t rule (Breaks.e7 is h) = one_key_each rs h
  keeps r t rule (Breaks.e8 is h) = no_key_cycle rs r t h
  keeps r t rule (Breaks.e9 is h) = right_calls rs each r t h
  keeps r t rule (Breaks.e10 is h) = right_arguments rs each r t h
  keeps r t rule (Breaks.e11 is h) = all_determined rs r t h

  pub is_enforceable : IsEnforceable metas (program_of rs)
  is_enforceable number rule b =
      let r = image_at rel_of rs number b.rel b.found in
      keeps r.0 (each r.0 (contains_at rs number r.0 r.1)) rule (subst (λ (x : Rel). Breaks metas (program_of rs) x rule) (sym r.2) b.breaks)
