-- What a binding says that meets the source of a relation, with all of its variables, or without those for objects of the target (QVT 1.3,
-- sections 7.10.1 and 7.11.1.4).
use Rattle.std.specs.Prelude.{◌≡◌, ℕ, List, length, slice_get, Contains, IsTrue}
use Rattle.object_tables.specs.Models.{ModelData}
use Rattle.qv_syntax.specs.declared.typed.Typed.{Typed}
use Rattle.qv_syntax.specs.declared.program.Program.{Program}
use Rattle.qv_syntax.specs.declared.program.Rel.{Rel}
use Rattle.qv_syntax.specs.declared.program.Dom.{Dom}
use Rattle.qv_syntax.specs.declared.program.Tmpl.{Tmpl, out-Tmpl}
use Rattle.qv_syntax.specs.declared.program.Conj.{Conj}
use Rattle.qv_syntax.specs.Parts.{Names}
use Rattle.qv_syntax.specs.Relations.{IsSourceDomain, IsTemplateOf, Says}
use Rattle.qvtr_semantics.specs.Expressions.{setting}
use Rattle.qvtr_semantics.specs.Templates.{Values, value_at}
use Rattle.qvtr_semantics.specs.Bindings.{is_value_for, template_meets, conjunct_holds, Extends}

-- The binding extends the roots and meets the source, where these are the variables of which it is asked that they have values: those of
-- the templates of source domains, and those that the expressions name by which a conjunct of when gives a variable, are among them.
pub record MeetsSource (program : Program) (models : List ModelData) (rel : Rel) (Asked : ℕ → Type 0) (roots b : Values) : Type 0 where
  pub places : length b ≡ length rel.vars
  pub extends : Extends roots b
  pub values : (v : ℕ) → Asked v → Contains rel.universal v → IsTrue (is_value_for (setting program models) (slice_get rel.vars v) (value_at b v))
  pub domains : (dom : Dom) → IsSourceDomain program rel dom → IsTrue (template_meets program models dom.template b)
  pub whens : (c : Conj) → Contains rel.whens c → IsTrue (conjunct_holds program models b c)
  pub templates : (dom : Dom) (t : Tmpl) → IsSourceDomain program rel dom → IsTemplateOf dom t → Asked (out-Tmpl t).var
  pub named : (c : Conj) (v : ℕ) (e : Typed) (w : ℕ) → Contains rel.whens c → Says c v e → Names e w → Asked w
