-- What is asked of a slot tells its object once its value is known: of an item, of a condition, of an equation.
use Rattle.std.specs.Prelude.{◌≡◌, ℕ, true, Option, None, Some, IfSome, is_some}
use Rattle.std.proofs.Common.{sym, ap, subst, ◌∙◌}
use Rattle.std.proofs.lemmas.Bool.{and_from}
use Rattle.qv_syntax.specs.declared.typed.Typed.{Typed}
use Rattle.qvtr_semantics.specs.declared.datum.Datum.{Datum}
use Rattle.qvtr_semantics.specs.Expressions.{value_for}
use Rattle.qvtr_semantics.specs.Outs.{datum_of}
use Rattle.qvtr_semantics.specs.Templates.{Values, value_at}
use Rattle.template_match.specs.declared.candidates.Candidates.{Candidates}
use Rattle.template_match.specs.Asked.{Asker, AskedValue}
use Rattle.template_match.specs.Branches.{TellsHolders}
use Rattle.template_match.specs.Problems.{Problem}
use Rattle.template_match.specs.Ready.{is_ready}
use Rattle.template_match.specs.Settled.{asked_datum, is_settled, IsTold}

module _ (p : Problem) (a : Values) (t : AskedValue) where
  told_by : (asker : Asker) (r : Option Candidates) (o : Option Datum) → t.by ≡ asker → is_settled p.program p.models a asker ≡ true → o ≡ asked_datum p.program p.models a asker
      → IfSome r (TellsHolders p t.holder t.prop.0 o) → IfSome r (IsTold p a t)
  told_by asker None o by settled is h = tt
  told_by asker (Some c) o by settled is h = record {
    settled = ap (is_settled p.program p.models a) by ∙ settled;
    tells = subst (λ q. TellsHolders p t.holder t.prop.0 q c) (is ∙ sym (ap (asked_datum p.program p.models a) by)) h;
  }

  pub item_told : (e : Typed) (r : Option Candidates) (o : Option Datum) → t.by ≡ Asker.item e → is_ready a e ≡ true → o ≡ datum_of (value_for p.program p.models e a)
      → IfSome r (TellsHolders p t.holder t.prop.0 o) → IfSome r (IsTold p a t)
  item_told e r o by ready is h = told_by (Asker.item e) r o by ready is h

  pub condition_told : (e : Typed) (r : Option Candidates) (d : Datum) → t.by ≡ Asker.condition e → is_ready a e ≡ true → datum_of (value_for p.program p.models e a) ≡ Some d
      → IfSome r (TellsHolders p t.holder t.prop.0 (Some d)) → IfSome r (IsTold p a t)
  condition_told e r d by ready is h =
      told_by (Asker.condition e) r (Some d) by (and_from (is_ready a e) (is_some (datum_of (value_for p.program p.models e a))) ready (ap is_some is)) (sym is) h

  pub equation_told : (v : ℕ) (r : Option Candidates) (d : Datum) → t.by ≡ Asker.equation v → value_at a v ≡ Some d
      → IfSome r (TellsHolders p t.holder t.prop.0 (Some d)) → IfSome r (IsTold p a t)
  equation_told v r d by is h = told_by (Asker.equation v) r (Some d) by (ap is_some is) (sym is) h
