-- Queries that have no extent of the target, they and those that they call, give one value over models that agree but for the target; so
-- do expressions that call only such queries.
use Rattle.std.specs.Prelude.{◌≡◌, ℕ, zero, suc, List, [], ◌∷◌, length, Option, None, Some, slice_get}
use Rattle.std.proofs.Common.{refl, sym, ap, subst, ◌∙◌}
use Rattle.object_tables.specs.Models.{ModelData}
use Rattle.qv_syntax.specs.declared.program.Program.{Program}
use Rattle.qv_syntax.specs.declared.query.ModelSlot.{ModelSlot}
use Rattle.qv_syntax.specs.declared.query.Query.{Query}
use Rattle.qv_syntax.specs.declared.typed.Typed.{Typed}
use Rattle.qv_syntax.specs.Parts.{Names}
use Rattle.qvtr_semantics.specs.declared.datum.Datum.{Datum}
use Rattle.qvtr_semantics.specs.declared.out.Out.{Out}
use Rattle.qvtr_semantics.specs.Objects.{Setting}
use Rattle.qvtr_semantics.specs.Expressions.{Scope, Queries, variable, query_value, queries_within, bound_value, scope_of, value, value_for}
use Rattle.qvtr_semantics.specs.Templates.{Values, value_at}
use Rattle.source_laws.specs.Agreement.{AgreeBut}
use Rattle.source_laws.specs.SourceValues.{IsOfSources, HasNoTarget}
use Rattle.source_laws.specs.SourceExpressions.{AsksNoTargetExtent, ComesTo, SpeaksOfSources}
use Rattle.source_laws.proofs.OperationLaws.{AllApart, argument_apart}
use Rattle.source_laws.proofs.ValueLaws.{same_meaning}

-- each variable
abbrev Any : ℕ → Type 0
Any n = Unit {0}

module _ (t : ℕ) (slots : List ModelSlot) (ms ns : List ModelData) (agree : AgreeBut t ms ns) (queries : List Query) (e : Typed)
    (apart : (q : ℕ) (query : Query) → ComesTo queries e q → slice_get queries q ≡ Some query → AsksNoTargetExtent t query.body) where
  abbrev s : Setting
  s = record { slots = slots; models = ms }

  abbrev u : Setting
  u = record { slots = slots; models = ns }

  abbrev Alike : Out → Out → Type 0
  Alike x y = (x ≡ y) × HasNoTarget t x

  called_alike : (q : ℕ) (o : Option Query) → slice_get queries q ≡ o → ComesTo queries e q → (a b : Queries)
      → ((called : ℕ) → ComesTo queries e called → (args : List Out) → AllApart t args → Alike (a called args) (b called args))
      → (args : List Out) → AllApart t args → Alike (query_value s a o args) (query_value u b o args)
  called_alike q None found comes a b same args free = (refl, tt)
  called_alike q (Some query) found comes a b same args free =
      same_meaning t slots ms ns agree a b Any query.body (apart q query comes found) (λ v names. tt)
      (λ n calls. same n (ComesTo.through q n comes (record { query = query; found = found; calls = calls })))
      args args refl (λ n any. (refl, argument_apart t args n free))

  pub queries_alike : (n q : ℕ) → ComesTo queries e q → (args : List Out) → AllApart t args → Alike (queries_within queries s n q args) (queries_within queries u n q args)
  queries_alike zero q comes args free = (refl, tt)
  queries_alike (suc n) q comes args free =
      called_alike q (slice_get queries q) refl comes (queries_within queries s n) (queries_within queries u n) (queries_alike n) args free

-- ---- expressions

bound_apart : (t : ℕ) (o : Option Datum) → ((d : Datum) → o ≡ Some d → IsOfSources t d) → HasNoTarget t (bound_value o)
bound_apart t None h = tt
bound_apart t (Some d) h = h d refl

pub variable_is : (b : Values) (v : ℕ) → variable (scope_of b) v ≡ bound_value (value_at b v)
variable_is [] v = refl
variable_is (o ∷ b) zero = refl
variable_is (o ∷ b) (suc v) = variable_is b v

length_scope : (b : Values) → length (scope_of b) ≡ length b
length_scope [] = refl
length_scope (o ∷ b) = ap suc (length_scope b)

-- An expression that speaks of sources has one value over models that agree but for the target, in scopes that agree on the variables that it
-- names, where these have no objects of the target; and the value has none.
pub scope_alike : (program : Program) (ms ns : List ModelData) (e : Typed) (x y : Scope) → AgreeBut program.target ms ns → SpeaksOfSources program e
    → length x ≡ length y → ((v : ℕ) → Names e v → (variable x v ≡ variable y v) × HasNoTarget program.target (variable x v))
    → (value program ms e x ≡ value program ns e y) × HasNoTarget program.target (value program ms e x)
scope_alike program ms ns e x y agree speaks long same =
    let t = program.target in
    let one : Setting = record { slots = program.models; models = ms } in
    let other : Setting = record { slots = program.models; models = ns } in
    let n = length program.queries in
    same_meaning t program.models ms ns agree (queries_within program.queries one n) (queries_within program.queries other n) (Names e) e speaks.own (λ v names. names)
    (λ q calls. queries_alike t program.models ms ns agree program.queries e speaks.called n q (ComesTo.itself q calls)) x y long same

-- the same in bindings
pub value_alike : (program : Program) (ms ns : List ModelData) (e : Typed) (b c : Values) → AgreeBut program.target ms ns → SpeaksOfSources program e
    → length b ≡ length c → ((v : ℕ) → Names e v → value_at b v ≡ value_at c v)
    → ((v : ℕ) (d : Datum) → Names e v → value_at b v ≡ Some d → IsOfSources program.target d)
    → (value_for program ms e b ≡ value_for program ns e c) × HasNoTarget program.target (value_for program ms e b)
value_alike program ms ns e b c agree speaks long same named =
    scope_alike program ms ns e (scope_of b) (scope_of c) agree speaks (length_scope b ∙ long ∙ sym (length_scope c))
    (λ v names. (
      variable_is b v ∙ ap bound_value (same v names) ∙ sym (variable_is c v),
      subst (HasNoTarget program.target) (sym (variable_is b v)) (bound_apart program.target (value_at b v) (λ d at. named v d names at)),
    ))

-- and in one binding
pub value_of_sources : (program : Program) (ms ns : List ModelData) (e : Typed) (b : Values) → AgreeBut program.target ms ns → SpeaksOfSources program e
    → ((v : ℕ) (d : Datum) → Names e v → value_at b v ≡ Some d → IsOfSources program.target d)
    → (value_for program ms e b ≡ value_for program ns e b) × HasNoTarget program.target (value_for program ms e b)
value_of_sources program ms ns e b agree speaks named = value_alike program ms ns e b b agree speaks refl (λ v names. refl) named
