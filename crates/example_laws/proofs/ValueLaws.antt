-- Values of the expressions that the example has: variables, texts, and a name behind a prefix.
use Rattle.std.proofs.Common.{◌≡◌, ℕ, true, List, [], ◌∷◌, length, None, Some, sym, ap, ◌∙◌}
use Rattle.object_tables.specs.declared.value.Value.TheVariants as values
use Rattle.object_tables.specs.Models.{ModelData}
use Rattle.qv_syntax.specs.declared.program.Program.{Program}
use Rattle.qv_syntax.specs.declared.ty.Ty.{Ty}
use Rattle.qv_syntax.specs.declared.ty.Ty.TheVariants as types
use Rattle.qv_syntax.specs.declared.typed.Typed.{Typed}
use Rattle.qv_syntax.specs.declared.typed.Node.{Node, roll-Node, map-Node, fold-roll-Node, out-Node, out-roll-Node}
use Rattle.qv_syntax.specs.declared.typed.Node.TheVariants as nodes
use Rattle.qv_syntax.specs.declared.typed.Call.{Call, fold-Call}
use Rattle.qv_syntax.specs.declared.typed.Call.TheOpen as of
use Rattle.qv_syntax.specs.declared.typed.TypedInfix.{TypedInfix, fold-TypedInfix, fold-roll-TypedInfix}
use Rattle.qv_syntax.specs.declared.typed.TypedPostfix.{TypedPostfix, fold-TypedPostfix}
use Rattle.qvtr_semantics.specs.declared.datum.Datum.TheVariants.{Val}
use Rattle.qvtr_semantics.specs.declared.out.Out.{Out}
use Rattle.qvtr_semantics.specs.declared.out.Out.TheVariants as outs
use Rattle.qvtr_semantics.specs.Outs.{boolean, boolean_of, truth}
use Rattle.qvtr_semantics.specs.Equality.{equal}
use Rattle.qvtr_semantics.specs.Objects.{Setting}
use Rattle.qvtr_semantics.specs.Expressions.{Scope, Meaning, Operated, Called, Queries, setting, queries_within, node_meaning, typed_meaning, infix_meaning, call_meaning, postfix_meaning, variable, all_operated, chosen, value}
use Rattle.qvtr_semantics.proofs.ExpressionLaws.{node_of, typed_is}
use Rattle.repair_semantics.specs.EntryValues.{variable_at, variable_alone}
use Rattle.example_program.specs.Words.{text, the_text, equal_to, is_empty, joined, prefixed}

-- ---- a variable alone

pub alone : (ty : Ty) (v : ℕ) → variable_alone (record { ty = ty; node = nodes.Variable v }) ≡ Some v
alone ty v = ap variable_at (ap out-Node (sym (nodes.rolls-Variable v)) ∙ out-roll-Node (of.Variable v))

pub text_not_alone : (s : List ℕ) → variable_alone (text s) ≡ None
text_not_alone s = ap variable_at (ap out-Node (sym (nodes.rolls-Str s)) ∙ out-roll-Node (of.Str s))

module _ (program : Program) (models : List ModelData) where
  abbrev s : Setting
  s = setting program models

  abbrev q : Queries
  q = queries_within program.queries s (length program.queries)

  abbrev means : Typed → Meaning
  means e = value program models e

  abbrev infix_of : TypedInfix → Operated
  infix_of = fold-TypedInfix Called Meaning Meaning Operated Called (call_meaning s) (node_meaning s q) typed_meaning infix_meaning postfix_meaning

  abbrev call_of : Call → Called
  call_of = fold-Call Called Meaning Meaning Operated Called (call_meaning s) (node_meaning s q) typed_meaning infix_meaning postfix_meaning

  abbrev postfix_of : TypedPostfix → Called
  postfix_of = fold-TypedPostfix Called Meaning Meaning Operated Called (call_meaning s) (node_meaning s q) typed_meaning infix_meaning postfix_meaning

  formed : (ty : Ty) (d : of.Node-F Call Node Typed TypedInfix TypedPostfix) (node : Node) → roll-Node d ≡ node
      → means (record { ty = ty; node = node })
      ≡ node_meaning s q (map-Node Call Node Typed TypedInfix TypedPostfix Called Meaning Meaning Operated Called call_of (node_of s q) means infix_of postfix_of d)
  formed ty d node rolled =
      typed_is s q ty node ∙ ap (node_of s q) (sym rolled)
      ∙ fold-roll-Node Called Meaning Meaning Operated Called (call_meaning s) (node_meaning s q) typed_meaning infix_meaning postfix_meaning d

  -- ---- forms

  pub variable_value : (ty : Ty) (v : ℕ) (scope : Scope) → value program models (record { ty = ty; node = nodes.Variable v }) scope ≡ variable scope v
  variable_value ty v scope = ap (λ (m : Meaning). m scope) (formed ty (of.Variable v) (nodes.Variable v) (nodes.rolls-Variable v))

  pub text_value : (t : List ℕ) (scope : Scope) → value program models (text t) scope ≡ outs.One (Val 0 (values.Str t))
  text_value t scope = ap (λ (m : Meaning). m scope) (formed types.Str (of.Str t) (nodes.Str t) (nodes.rolls-Str t))

  infix_is : (link : TypedInfix) → infix_of link ≡ record { operator = link.operator; right = means link.right }
  infix_is link =
      fold-roll-TypedInfix Called Meaning Meaning Operated Called (call_meaning s) (node_meaning s q) typed_meaning infix_meaning postfix_meaning
      (record { operator = link.operator; right = link.right; ty = link.ty })

  module _ (prefix name : ℕ) (scope : Scope) (none : variable scope prefix ≡ outs.One (Val 0 (values.Str []))) where
    -- an empty prefix is one
    empty_value : means (is_empty prefix) scope ≡ boolean true
    empty_value =
        ap (λ (m : Meaning). m scope) (formed types.Bool (of.Chain (the_text prefix) (equal_to (text []) ∷ [])) (nodes.Chain (the_text prefix) (equal_to (text []) ∷ []))
        (nodes.rolls-Chain (the_text prefix) (equal_to (text []) ∷ [])))
        ∙ ap (λ (o : Operated). all_operated scope (means (the_text prefix) scope) (o ∷ [])) (infix_is (equal_to (text [])))
        ∙ ap (λ (x : Out). truth (equal x (means (text []) scope))) (variable_value types.Str prefix scope ∙ none)
        ∙ ap (λ (x : Out). truth (equal (outs.One (Val 0 (values.Str []))) x)) (text_value [] scope)

    -- behind it the name stands alone
    pub prefixed_value : value program models (prefixed prefix name) scope ≡ variable scope name
    prefixed_value =
        ap (λ (m : Meaning). m scope) (formed types.Str (of.If (is_empty prefix) (the_text name) (joined prefix name)) (nodes.If (is_empty prefix) (the_text name) (joined prefix name))
        (nodes.rolls-If (is_empty prefix) (the_text name) (joined prefix name)))
        ∙ ap (λ (x : Out). chosen (boolean_of x) (means (the_text name) scope) (means (joined prefix name) scope)) empty_value
        ∙ variable_value types.Str name scope
