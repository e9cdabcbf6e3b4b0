-- What the conditions and equations of a clause ask of slots stands in each binding in which they hold.
use Rattle.std.specs.Prelude.{◌≡◌, ℕ, true, List, [], ◌∷◌, Option, None, Some, is_some, length}
use Rattle.std.specs.List.{AllByRecursion, flat_map, list_all}
use Rattle.std.specs.Option.{option_map}
use Rattle.std.proofs.Common.{refl, sym, ap, subst, ◌∙◌}
use Rattle.std.proofs.lemmas.Bool.{and_parts, or_left, true≢false}
use Rattle.std.proofs.lemmas.Option.{same_Some}
use Rattle.mof_metamodel.specs.declared.desc.PropId.{PropId}
use Rattle.object_tables.specs.Models.{ModelData}
use Rattle.qv_syntax.specs.declared.operator.Operator.{Operator}
use Rattle.qv_syntax.specs.declared.operator.Operator.TheVariants as operators
use Rattle.qv_syntax.specs.declared.program.Program.{Program}
use Rattle.qv_syntax.specs.declared.program.Conj.{Conj}
use Rattle.qv_syntax.specs.declared.program.Conj.TheVariants as conjuncts
use Rattle.qv_syntax.specs.declared.typed.Typed.{Typed}
use Rattle.qv_syntax.specs.declared.typed.Node.{Node, out-Node, roll-Node, roll-out-Node, fold-roll-Node}
use Rattle.qv_syntax.specs.declared.typed.Call.{Call, out-Call, roll-Call, roll-out-Call, fold-Call, fold-roll-Call}
use Rattle.qv_syntax.specs.declared.typed.Call.TheOpen as nodes
use Rattle.qv_syntax.specs.declared.typed.TypedInfix.{TypedInfix}
use Rattle.qv_syntax.specs.declared.typed.TypedPostfix.{TypedPostfix, fold-TypedPostfix, fold-roll-TypedPostfix}
use Rattle.qv_syntax.specs.declared.typed.Values.TheVariants.{Single, Set, OrderedSet}
use Rattle.qvtr_semantics.specs.declared.datum.Datum.{Datum}
use Rattle.qvtr_semantics.specs.declared.out.Out.{Out}
use Rattle.qvtr_semantics.specs.declared.out.Out.TheVariants as outs
use Rattle.qvtr_semantics.specs.Data.{same_datum, is_among}
use Rattle.qvtr_semantics.specs.Equality.{equal, is_known_true}
use Rattle.qvtr_semantics.specs.Outs.{datum_of, boolean_of, truth, given}
use Rattle.qvtr_semantics.specs.Objects.{Setting, navigated, held_at, property}
use Rattle.qvtr_semantics.specs.Expressions.{Scope, Queries, Meaning, Operated, Called, setting, queries_within, node_meaning, call_meaning, typed_meaning, infix_meaning, postfix_meaning, operated, with_datum, scope_of, value_for, is_true}
use Rattle.qvtr_semantics.specs.Templates.{Values, value_at, has}
use Rattle.qvtr_semantics.specs.Bindings.{are_one, conjunct_holds}
use Rattle.qvtr_semantics.proofs.ExpressionLaws.{typed_is, node_of}
use Rattle.ocl_eval.specs.OrderLaws.{same_decides}
use Rattle.template_match.specs.Asked.{Asker, single_prop, slot_by, slot_alone, asked_at, compared_by, chain_asked, condition_asked, conjunct_asked}
use Rattle.template_match.specs.Links.{variable_alone}
use Rattle.template_match.proofs.AskedLaws.{Stands}
use Rattle.template_match.proofs.LinkLaws.{alone_value}
use Rattle.template_match.proofs.ListLaws.{all_append}
use Rattle.template_match.proofs.TellingLaws.{chain_value, known_true}

-- ---- values that are equal

some_value : (o : Option Datum) → is_some o ≡ true → (d : Datum) × (o ≡ Some d)
some_value None h = absurd (true≢false (sym h))
some_value (Some d) h = (d, refl)

-- what is equal to a single value is that value
left_of : (x y : Out) → is_known_true (equal x y) ≡ true → (d : Datum) → datum_of y ≡ Some d → datum_of x ≡ Some d
left_of (outs.One e) (outs.One f) h d is = ap (λ (z : Datum). Some z) ((same_decides e f).0 h) ∙ is
left_of (outs.Many k ds) (outs.One f) h d is = absurd (true≢false (sym h))
left_of outs.Null (outs.One f) h d is = absurd (true≢false (sym h))
left_of outs.Invalid (outs.One f) h d is = absurd (true≢false (sym h))
left_of x (outs.Many k ds) h d is = absurd (cc)
left_of x outs.Null h d is = absurd (cc)
left_of x outs.Invalid h d is = absurd (cc)

right_of : (x y : Out) → is_known_true (equal x y) ≡ true → (d : Datum) → datum_of x ≡ Some d → datum_of y ≡ Some d
right_of (outs.One e) (outs.One f) h d is = ap (λ (z : Datum). Some z) (sym ((same_decides e f).0 h)) ∙ is
right_of (outs.One e) (outs.Many k ds) h d is = absurd (true≢false (sym h))
right_of (outs.One e) outs.Null h d is = absurd (true≢false (sym h))
right_of (outs.One e) outs.Invalid h d is = absurd (true≢false (sym h))
right_of (outs.Many k ds) y h d is = absurd (cc)
right_of outs.Null y h d is = absurd (cc)
right_of outs.Invalid y h d is = absurd (cc)

-- of two data that are one, where there are two
both_one : (o q : Option Datum) → are_one o q ≡ true → (d : Datum) × (o ≡ Some d) × (q ≡ Some d)
both_one None q h = absurd (true≢false (sym h))
both_one (Some e) None h = absurd (true≢false (sym h))
both_one (Some e) (Some f) h = (e, refl, ap (λ (z : Datum). Some z) (sym ((same_decides e f).0 h)))

-- ---- the value of `x.p`

first_among : (x y : Datum) (ds : List Datum) → x ≡ y → is_among y (x ∷ ds) ≡ true
first_among x y ds e = or_left (same_datum y x) (is_among y ds) ((same_decides y x).1 (sym e))

-- a property of one value at most gives what stands in the slot
single_has : (slot : Option (List Datum)) (d : Datum) → datum_of (given slot (navigated Single)) ≡ Some d → has slot (Some d) ≡ true
single_has None d h = absurd (cc)
single_has (Some []) d h = absurd (cc)
single_has (Some (e ∷ ds)) d h = first_among e d ds (same_Some e d h)

module _ (program : Program) (models : List ModelData) (b : Values) where
  abbrev s : Setting
  s = setting program models

  abbrev calls : Queries
  calls = queries_within program.queries s (length program.queries)

  -- the object is bound, and the datum stands in its slot
  abbrev Has : ℕ × PropId → Datum → Type 0
  Has slot d = (o : Datum) × (value_at b slot.0 ≡ Some o) × (has (held_at s o slot.1.0) (Some d) ≡ true)

  -- navigation to such a property
  property_is : (call : Call) (prop : PropId) (scope : Scope) (x : Out) → out-Call call ≡ nodes.Property prop Single
      → fold-Call Called Meaning Meaning Operated Called (call_meaning s) (node_meaning s calls) typed_meaning infix_meaning postfix_meaning call scope x ≡ with_datum x (property s prop.0 Single)
  property_is call prop scope x is =
      ap (λ (k : Call). fold-Call Called Meaning Meaning Operated Called (call_meaning s) (node_meaning s calls) typed_meaning infix_meaning postfix_meaning k scope x) (sym (roll-out-Call call) ∙ ap roll-Call is)
      ∙ ap (λ (m : Called). m scope x) (fold-roll-Call Called Meaning Meaning Operated Called (call_meaning s) (node_meaning s calls) typed_meaning infix_meaning postfix_meaning (nodes.Property prop Single))

  step_is : (step : TypedPostfix) (prop : PropId) (scope : Scope) (x : Out) → out-Call step.call ≡ nodes.Property prop Single
      → fold-TypedPostfix Called Meaning Meaning Operated Called (call_meaning s) (node_meaning s calls) typed_meaning infix_meaning postfix_meaning step scope x ≡ with_datum x (property s prop.0 Single)
  step_is step prop scope x is =
      ap (λ (m : Called). m scope x)
      (fold-roll-TypedPostfix Called Meaning Meaning Operated Called (call_meaning s) (node_meaning s calls) typed_meaning infix_meaning postfix_meaning (record { call = step.call; ty = step.ty }))
      ∙ property_is step.call prop scope x is

  slot_value : (e part : Typed) (step : TypedPostfix) (prop : PropId) → out-Node e.node ≡ nodes.Calls part (step ∷ []) → out-Call step.call ≡ nodes.Property prop Single
      → value_for program models e b ≡ with_datum (value_for program models part b) (property s prop.0 Single)
  slot_value e part step prop is call =
      let d : nodes.Node-F Call Node Typed TypedInfix TypedPostfix = nodes.Calls part (step ∷ []) in
      let node : e.node ≡ roll-Node d = sym (roll-out-Node e.node) ∙ ap roll-Node is in
      ap (λ (m : Meaning). m (scope_of b)) (typed_is s calls e.ty e.node ∙ ap (node_of s calls) node
      ∙ fold-roll-Node Called Meaning Meaning Operated Called (call_meaning s) (node_meaning s calls) typed_meaning infix_meaning postfix_meaning d)
      ∙ step_is step prop (scope_of b) (value_for program models part b) call

  has_by : (x : ℕ) (prop : PropId) (q : Option Datum) (d : Datum) → value_at b x ≡ q → datum_of (given q (property s prop.0 Single)) ≡ Some d → Has (x, prop) d
  has_by x prop None d at h = absurd (cc)
  has_by x prop (Some o) d at h = (o, at, single_has (held_at s o prop.0) d h)

  by_call : (e part : Typed) (step : TypedPostfix) (x : ℕ) (call : nodes.Call-F Call Node Typed TypedInfix TypedPostfix) (slot : ℕ × PropId) (d : Datum) → out-Node e.node ≡ nodes.Calls part (step ∷ [])
      → out-Call step.call ≡ call → variable_alone (out-Node part.node) ≡ Some x → option_map (λ prop. (x, prop)) (single_prop call) ≡ Some slot → datum_of (value_for program models e b) ≡ Some d → Has slot d
  by_call e part step x (nodes.Property prop Single) slot d is call alone says h =
      subst (λ k. Has k d) (same_Some (x, prop) slot says)
      (has_by x prop (value_at b x) d refl
      (ap (λ q. datum_of (given q (property s prop.0 Single))) (sym (alone_value program models part x b alone)) ∙ ap datum_of (sym (slot_value e part step prop is call)) ∙ h))
  by_call e part step x (nodes.Property prop Set) slot d is call alone says h = absurd (cc)
  by_call e part step x (nodes.Property prop OrderedSet) slot d is call alone says h = absurd (cc)
  by_call e part step x (nodes.CollectProperty prop gives) slot d is call alone says h = absurd (cc)
  by_call e part step x (nodes.Operation o args) slot d is call alone says h = absurd (cc)
  by_call e part step x (nodes.Class o class) slot d is call alone says h = absurd (cc)
  by_call e part step x (nodes.Collection o args) slot d is call alone says h = absurd (cc)
  by_call e part step x (nodes.Iterator i number body) slot d is call alone says h = absurd (cc)

  by_steps : (e part : Typed) (steps : List TypedPostfix) (o : Option ℕ) (slot : ℕ × PropId) (d : Datum) → out-Node e.node ≡ nodes.Calls part steps → variable_alone (out-Node part.node) ≡ o
      → slot_by o steps ≡ Some slot → datum_of (value_for program models e b) ≡ Some d → Has slot d
  by_steps e part steps None slot d is alone says h = absurd (cc)
  by_steps e part [] (Some x) slot d is alone says h = absurd (cc)
  by_steps e part (step ∷ []) (Some x) slot d is alone says h = by_call e part step x (out-Call step.call) slot d is refl alone says h
  by_steps e part (step ∷ other ∷ steps) (Some x) slot d is alone says h = absurd (cc)

  by_node : (e : Typed) (n : nodes.Node-F Call Node Typed TypedInfix TypedPostfix) (slot : ℕ × PropId) (d : Datum) → out-Node e.node ≡ n → slot_alone n ≡ Some slot
      → datum_of (value_for program models e b) ≡ Some d → Has slot d
  by_node e (nodes.Calls part steps) slot d is says h = by_steps e part steps (variable_alone (out-Node part.node)) slot d is refl says h
  by_node e n slot d is says h = absurd (cc)

  -- ---- what a conjunct asks

  asked_slot : (slot : Option (ℕ × PropId)) (asker : Asker) → ((k : ℕ × PropId) → slot ≡ Some k → Stands program models b (record { holder = k.0; prop = k.1; by = asker }))
      → AllByRecursion (Stands program models b) (asked_at slot asker)
  asked_slot None asker h = tt
  asked_slot (Some k) asker h = (h k refl, tt)

  -- of `e = other`, where e is `x.p`
  compared : (e other : Typed) → ((d : Datum) → datum_of (value_for program models other b) ≡ Some d → datum_of (value_for program models e b) ≡ Some d)
      → AllByRecursion (Stands program models b) (asked_at (slot_alone (out-Node e.node)) (Asker.condition other))
  compared e other same = asked_slot (slot_alone (out-Node e.node)) (Asker.condition other) (λ k says asked.
      let v = some_value (datum_of (value_for program models other b)) asked in
      let h = by_node e (out-Node e.node) k v.0 refl says (same v.0 v.1) in
      (h.0, h.1, ap (has (held_at s h.0 k.1.0)) v.1 ∙ h.2))

  compared_parts : (c one : Typed) (l : TypedInfix) (o : Operator) → out-Node c.node ≡ nodes.Chain one (l ∷ []) → l.operator ≡ o → is_true program models c b ≡ true
      → AllByRecursion (Stands program models b) (compared_by o one l.right)
  compared_parts c one l operators.Equal is op h =
      let x = value_for program models one b in
      let y = value_for program models l.right b in
      let value : value_for program models c b ≡ truth (equal x y) = chain_value program models b c one l is ∙ ap (λ k. operated k x y) op in
      let known : is_known_true (equal x y) ≡ true = known_true x y (sym (ap (λ k. is_known_true (boolean_of k)) value) ∙ h) in
      all_append (Stands program models b) (asked_at (slot_alone (out-Node one.node)) (Asker.condition l.right)) (asked_at (slot_alone (out-Node l.right.node)) (Asker.condition one))
      (compared one l.right (left_of x y known)) (compared l.right one (right_of x y known))
  compared_parts c one l o is op h = tt

  by_chain : (c first : Typed) (ls : List TypedInfix) → out-Node c.node ≡ nodes.Chain first ls → is_true program models c b ≡ true → AllByRecursion (Stands program models b) (chain_asked first ls)
  by_chain c first [] is h = tt
  by_chain c first (l ∷ []) is h = compared_parts c first l l.operator is refl h
  by_chain c first (l ∷ m ∷ ls) is h = tt

  by_condition : (c : Typed) (n : nodes.Node-F Call Node Typed TypedInfix TypedPostfix) → out-Node c.node ≡ n → is_true program models c b ≡ true
      → AllByRecursion (Stands program models b) (condition_asked n)
  by_condition c (nodes.Chain first ls) is h = by_chain c first ls is h
  by_condition c n is h = tt

  conjunct_asks : (c : Conj) → conjunct_holds program models b c ≡ true → AllByRecursion (Stands program models b) (conjunct_asked c)
  conjunct_asks (conjuncts.Cond c) h = by_condition c (out-Node c.node) refl h
  conjunct_asks (conjuncts.Equation v e) h = asked_slot (slot_alone (out-Node e.node)) (Asker.equation v) (λ k says asked.
      let both = both_one (value_at b v) (datum_of (value_for program models e b)) h in
      let there = by_node e (out-Node e.node) k both.0 refl says both.2 in
      (there.0, there.1, ap (has (held_at s there.0 k.1.0)) both.1 ∙ there.2))
  conjunct_asks (conjuncts.Call rel args) h = tt

  pub clause_asks : (cs : List Conj) → list_all (conjunct_holds program models b) cs ≡ true → AllByRecursion (Stands program models b) (flat_map conjunct_asked cs)
  clause_asks [] h = tt
  clause_asks (c ∷ cs) h =
      let both = and_parts (conjunct_holds program models b c) (list_all (conjunct_holds program models b) cs) h in
      all_append (Stands program models b) (conjunct_asked c) (flat_map conjunct_asked cs) (conjunct_asks c both.0) (clause_asks cs both.1)
