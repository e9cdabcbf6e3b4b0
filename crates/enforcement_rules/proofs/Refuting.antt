-- Wrong answers that the definitions exclude.
use Rattle.std.proofs.Common.{◌≡◌, ◌<◌, ℕ, List, false, Option, None, Some, refl, sym, ap, ◌∙◌, true≢false}
use Rattle.std.specs.Prelude.{slice_get}
use Rattle.std.proofs.lemmas.Option.{same_Some}
use Rattle.mof_metamodel.specs.declared.desc.MetaDesc.{MetaDesc}
use Rattle.qv_syntax.specs.declared.program.Program.{Program}
use Rattle.qv_syntax.specs.declared.program.Rel.{Rel}
use Rattle.qv_syntax.specs.declared.program.Tmpl.{Tmpl, out-Tmpl}
use Rattle.qv_syntax.specs.Relations.{IsUniversal}
use Rattle.enforcement_rules.specs.declared.standing.Place.{Place}
use Rattle.enforcement_rules.specs.Rules.{BreaksAt, Broken}
use Rattle.enforcement_rules.specs.TargetParts.{IsMade}

module _ (metas : List MetaDesc) (program : Program) where
  -- a relation that breaks a rule is passed over
  passed_over : (earlier later rule other : ℕ) → earlier < later → BreaksAt metas program earlier rule → ¬ Broken metas program later other
  passed_over earlier later rule other less breaks broken = broken.first earlier rule less breaks

  -- the greatest rule in place of the least
  greatest : (number least rule : ℕ) → least < rule → BreaksAt metas program number least → ¬ Broken metas program number rule
  greatest number least rule less breaks broken = broken.least least less breaks

  -- a rule is asked of a relation outside the direction
  outside : (number rule : ℕ) (rel : Rel) → slice_get program.rels number ≡ Some rel → rel.in_direction ≡ false → ¬ Broken metas program number rule
  outside number rule rel found out broken =
      let b = broken.breaks in
      true≢false (sym b.in_direction ∙ ap (λ (r : Rel). r.in_direction) (same_Some b.rel rel (sym b.found ∙ found)) ∙ out)

-- the key of a universal root's class is asked for
universal_root : (program : Program) (rel : Rel) (t : Tmpl) (at : Option Place) → IsUniversal program rel (out-Tmpl t).var → ¬ IsMade program rel t at
universal_root program rel t at universal made = made.existential universal

-- so is that of a root that a caller hands on
called_root : (program : Program) (rel : Rel) (t : Tmpl) → rel.top ≡ false → ¬ IsMade program rel t None
called_root program rel t called made = true≢false (sym (made.own refl) ∙ called)
