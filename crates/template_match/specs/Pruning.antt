-- What of a side can be asked of a binding in which some variables have no value yet: a shape and an item of an object that has been chosen, if
-- all that it names has a value, and a conjunct of which that holds (QVT 1.3, sections 7.10.1 and 7.11.2).
use Rattle.std.specs.Prelude.{ℕ, Bool, true, ◌||◌, not, List, Option, None, Some}
use Rattle.qv_syntax.specs.declared.program.Conj.{Conj}
use Rattle.qv_syntax.specs.declared.program.Conj.TheVariants as conjuncts
use Rattle.qvtr_semantics.specs.declared.datum.Datum.{Datum}
use Rattle.qvtr_semantics.specs.Outs.{datum_of}
use Rattle.qvtr_semantics.specs.Objects.{held_at}
use Rattle.qvtr_semantics.specs.Expressions.{setting, value_for, is_true}
use Rattle.qvtr_semantics.specs.Templates.{Values, value_at, has}
use Rattle.qvtr_semantics.specs.Bindings.{are_one}
use Rattle.template_match.specs.declared.link.Link.{Link}
use Rattle.template_match.specs.declared.shape.Feature.{Feature}
use Rattle.template_match.specs.declared.shape.Shape.{Shape}
use Rattle.template_match.specs.Asked.{Asker, AskedValue}
use Rattle.template_match.specs.Problems.{Problem}
use Rattle.template_match.specs.Ready.{is_ready}
use Rattle.template_match.specs.Shapes.{has_feature}

-- nothing is asked of a variable that has no value yet
abbrev pub may_have_feature : Problem → Option Datum → Feature → Bool
may_have_feature p None feature = true
may_have_feature p (Some d) feature = has_feature (setting p.program p.models) d feature

abbrev pub may_shape : Problem → Values → Shape → Bool
may_shape p a shape = may_have_feature p (value_at a shape.holder) shape.feature

-- the datum, if there is one yet, stands in the slot
abbrev pub may_have : Option (List Datum) → Option Datum → Bool
may_have slot None = true
may_have slot (Some d) = has slot (Some d)

abbrev pub may_hold : Problem → Option Datum → ℕ → Option Datum → Bool
may_hold p None prop value = true
may_hold p (Some d) prop value = may_have (held_at (setting p.program p.models) d prop) value

abbrev pub may_link : Problem → Values → Link → Bool
may_link p a l = may_hold p (value_at a l.holder) l.prop.0 (value_at a l.variable)

abbrev pub may_hold_item : Problem → Values → Option Datum → ℕ → Asker → Bool
may_hold_item p a None prop by = true
may_hold_item p a (Some d) prop (Asker.item e) = not (is_ready a e) || has (held_at (setting p.program p.models) d prop) (datum_of (value_for p.program p.models e a))
may_hold_item p a (Some d) prop (Asker.condition e) = true
may_hold_item p a (Some d) prop (Asker.equation v) = true

-- what a condition or an equation asks is asked by the conjunct
abbrev pub may_asked : Problem → Values → AskedValue → Bool
may_asked p a t = may_hold_item p a (value_at a t.holder) t.prop.0 t.by

abbrev pub may_be_one : Option Datum → Option Datum → Bool
may_be_one None e = true
may_be_one (Some d) e = are_one (Some d) e

abbrev pub may_conjunct : Problem → Values → Conj → Bool
may_conjunct p a (conjuncts.Cond e) = not (is_ready a e) || is_true p.program p.models e a
may_conjunct p a (conjuncts.Equation v e) = not (is_ready a e) || may_be_one (value_at a v) (datum_of (value_for p.program p.models e a))
may_conjunct p a (conjuncts.Call rel args) = true
