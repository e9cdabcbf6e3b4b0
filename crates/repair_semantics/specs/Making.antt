-- What an entry makes: the values that equations give to existential data variables, and a term for each existential object variable, by
-- the key of its template (QVT 1.3, sections 7.2.3, 7.10.1 and 7.10.2).
use Rattle.std.specs.Prelude.{ℕ, zero, suc, Bool, false, ◌&&◌, ◌==◌, List, [], ◌∷◌, map, length, Option, None, Some, is_some, if◌then◌else◌}
use Rattle.std.specs.List.{find, range_with_len}
use Rattle.std.specs.Option.{option_map, option_and_then, option_or}
use Rattle.mof_metamodel.specs.declared.desc.PropId.{PropId}
use Rattle.mof_metamodel.specs.Metamodels.{opposite_of}
use Rattle.object_tables.specs.Models.{ModelData}
use Rattle.qv_syntax.specs.declared.program.Program.{Program}
use Rattle.qv_syntax.specs.declared.program.Rel.{Rel}
use Rattle.qv_syntax.specs.declared.program.Conj.{Conj}
use Rattle.qv_syntax.specs.declared.program.Conj.TheVariants as conjuncts
use Rattle.qv_syntax.specs.declared.typed.Typed.{Typed}
use Rattle.qvtr_semantics.specs.declared.out.Out.{Out}
use Rattle.qvtr_semantics.specs.Outs.{all_given}
use Rattle.qvtr_semantics.specs.Expressions.{Scope, value, variable, scope_of}
use Rattle.repair_semantics.specs.declared.term.Term.{roll-Term}
use Rattle.repair_semantics.specs.declared.term.TermValue.{TermValue}
use Rattle.repair_semantics.specs.declared.term.TermValue.TheVariants as values
use Rattle.repair_semantics.specs.EntryValues.{TermValues, value_of, data_in, Known, given_out, given_value}
use Rattle.repair_semantics.specs.TargetItems.{Content, TargetItem, variable_of, target_items, class_of_variable, target_metamodel, key_of}

-- the numbers of the variables
abbrev pub variables : Rel → List ℕ
variables rel = range_with_len 0 (length rel.vars)

-- ---- data, by equations

-- the expression of the equation of a variable
abbrev pub equation_of : List Conj → ℕ → Option Typed
equation_of [] v = None
equation_of (conjuncts.Equation w e ∷ cs) v = if w == v then Some e else equation_of cs v
equation_of (c ∷ cs) v = equation_of cs v

-- the value of the equation, if there is one, else the value before
abbrev pub by_equation : Program → List ModelData → Scope → Out → Option Typed → Out
by_equation program models scope before None = before
by_equation program models scope before (Some e) = value program models e scope

-- each variable that has an equation has the value of its expression in a scope, the others have what they had before
abbrev pub with_equations : Program → List ModelData → Rel → Scope → Scope → Scope
with_equations program models rel before scope = map (λ v. by_equation program models scope (variable before v) (equation_of rel.wheres v)) (variables rel)

-- the same where so many equations may wait for one another
abbrev pub scope_within : Program → List ModelData → Rel → Scope → ℕ → Scope
scope_within program models rel before zero = before
scope_within program models rel before (suc n) = with_equations program models rel before (scope_within program models rel before n)

-- the data of an entry with these values, those that its equations give among them. Equations have no cycle, so that no more of them wait for one another than there are conjuncts.
abbrev pub entry_scope : Program → List ModelData → Rel → TermValues → Scope
entry_scope program models rel b = scope_within program models rel (scope_of (data_in b)) (length rel.wheres)

-- ---- terms, by keys

-- the value that an item puts into its slot
abbrev pub content_value : Program → List ModelData → Known → Content → Option TermValue
content_value program models k Content.empty = None
content_value program models k (Content.expression e) = given_value program models k e
content_value program models k (Content.template v) = value_of k.values v

-- the item stands in the template of the variable, at the property
abbrev pub is_item_at : ℕ → ℕ → TargetItem → Bool
is_item_at v p item = (item.owner == v) && (item.prop.0 == p)

-- the first item of the template of a variable at a property
abbrev pub first_item : List TargetItem → ℕ → ℕ → Option TargetItem
first_item items v p = find (is_item_at v p) items

-- the number is there, and is this one
abbrev pub is_option_of : Option ℕ → ℕ → Bool
is_option_of None n = false
is_option_of (Some m) n = m == n

-- the item in which the template of a variable stands
abbrev pub item_around : List TargetItem → ℕ → Option TargetItem
item_around items v = find (λ item. is_option_of (variable_of item.content) v) items

-- the object of the template around, where the property is the opposite of that at which the template stands in it
abbrev pub parent_value : Program → List ModelData → Known → ℕ → Option TargetItem → Option TermValue
parent_value program models k p None = None
parent_value program models k p (Some item) = if is_option_of (opposite_of (target_metamodel program models) item.prop.0) p then value_of k.values item.owner else None

-- the value of the item, if there is one, else the object of the template around
abbrev pub key_value_by : Program → List ModelData → Known → ℕ → Option TargetItem → Option TargetItem → Option TermValue
key_value_by program models k p None around = parent_value program models k p around
key_value_by program models k p (Some item) around = content_value program models k item.content

-- the value of a key property of a template: that of its first item, or else the object of the template around, by the opposite
abbrev pub key_value : Program → List ModelData → List TargetItem → Known → ℕ → PropId → Option TermValue
key_value program models items k v p = key_value_by program models k p.0 (first_item items v p.0) (item_around items v)

-- the term of a class with these key values
abbrev pub keyed : ℕ → List TermValue → TermValue
keyed class xs = values.Term (roll-Term (record { class = record { 0 = class }; keys = xs }))

-- the term of a class with the key values of the template of a variable
abbrev pub term_by : Program → List ModelData → List TargetItem → Known → ℕ → ℕ → Option TermValue
term_by program models items k v class = option_and_then (λ props. option_map (keyed class) (all_given (map (key_value program models items k v) props))) (key_of program class)

-- the term of an object variable, by the values of its template's key properties
abbrev pub made_term : Program → List ModelData → Rel → List TargetItem → Known → ℕ → Option TermValue
made_term program models rel items k v = option_and_then (term_by program models items k v) (class_of_variable rel v)

-- the value of a variable, or else the datum that its equation gives
abbrev pub value_or_datum : TermValues → Scope → ℕ → Option TermValue
value_or_datum b scope v = option_or (value_of b v) (given_out (variable scope v))

-- each variable that has no value before has the term that its key gives for some values
abbrev pub with_terms : Program → List ModelData → Rel → List TargetItem → Scope → TermValues → TermValues → TermValues
with_terms program models rel items scope before b = map (λ v. option_or (value_of before v) (made_term program models rel items (record { values = b; scope = scope }) v)) (variables rel)

-- the same where so many terms may wait for one another
abbrev pub values_within : Program → List ModelData → Rel → List TargetItem → Scope → TermValues → ℕ → TermValues
values_within program models rel items scope before zero = before
values_within program models rel items scope before (suc n) = with_terms program models rel items scope before (values_within program models rel items scope before n)

-- all that is known in an entry with these values, of which the target template has these items. The variables in keys depend on each other without a cycle, so that no more terms wait
-- for one another than there are variables.
abbrev pub known_by : Program → List ModelData → Rel → List TargetItem → TermValues → Scope → Known
known_by program models rel items b scope = record {
  values = values_within program models rel items scope (map (value_or_datum b scope) (variables rel)) (length rel.vars);
  scope = scope;
}

-- all that is known in an entry with these values
abbrev pub entry_known : Program → List ModelData → Rel → TermValues → Known
entry_known program models rel b = known_by program models rel (target_items program rel) b (entry_scope program models rel b)

-- the values of the variables that have none before
abbrev pub others_in : Rel → TermValues → TermValues → TermValues
others_in rel b all = map (λ v. if is_some (value_of b v) then None else value_of all v) (variables rel)

-- what the entry makes: the values of the variables that have none in it
abbrev pub made_values : Program → List ModelData → Rel → TermValues → TermValues
made_values program models rel b = others_in rel b (entry_known program models rel b).values
