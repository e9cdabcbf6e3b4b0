-- What gives a variable its values names, in each binding that is looked for, the value that the variable has there.
use Rattle.std.specs.Prelude.{◌≡◌, ℕ, zero, Bool, true, List, [], ◌∷◌, length, Option, None, Some, Contains}
use Rattle.std.proofs.Common.{refl, sym, ap, subst, ◌∙◌, arith}
use Rattle.std.proofs.lemmas.Bool.{true≢false}
use Rattle.object_tables.specs.declared.value.Value.{Value}
use Rattle.object_tables.specs.Models.{ModelData}
use Rattle.qv_syntax.specs.declared.operator.Operator.{Operator}
use Rattle.qv_syntax.specs.declared.operator.Operator.TheVariants as operators
use Rattle.qv_syntax.specs.declared.program.Program.{Program}
use Rattle.qv_syntax.specs.declared.program.Conj.{Conj}
use Rattle.qv_syntax.specs.declared.program.Conj.TheVariants as conjuncts
use Rattle.qv_syntax.specs.declared.typed.Typed.{Typed}
use Rattle.qv_syntax.specs.declared.typed.Node.{Node, out-Node, roll-Node, roll-out-Node, out-roll-Node, fold-roll-Node}
use Rattle.qv_syntax.specs.declared.typed.Node.TheVariants as forms
use Rattle.qv_syntax.specs.declared.typed.Call.{Call, fold-Call}
use Rattle.qv_syntax.specs.declared.typed.Call.TheOpen as nodes
use Rattle.qv_syntax.specs.declared.typed.TypedInfix.{TypedInfix, fold-TypedInfix, fold-roll-TypedInfix}
use Rattle.qv_syntax.specs.declared.typed.TypedPostfix.{TypedPostfix, fold-TypedPostfix}
use Rattle.qv_syntax.specs.Parts.{IsWithin, Names, parts_of, node_parts}
use Rattle.qv_syntax.specs.Relations.{Says, InConjunct}
use Rattle.template_match.proofs.ListLaws.{contains_later}
use Rattle.mof_metamodel.proofs.Facts.{contains_first}
use Rattle.qvtr_semantics.specs.declared.datum.Datum.{Datum}
use Rattle.qvtr_semantics.specs.declared.datum.Datum.TheVariants.{Val}
use Rattle.qvtr_semantics.specs.declared.out.Out.{Out}
use Rattle.qvtr_semantics.specs.declared.out.Out.TheVariants as outs
use Rattle.qvtr_semantics.specs.Outs.{datum_of, boolean_of, truth}
use Rattle.qvtr_semantics.specs.Data.{same_datum}
use Rattle.qvtr_semantics.specs.Equality.{equal, is_known_true}
use Rattle.qvtr_semantics.specs.Objects.{held_at}
use Rattle.qvtr_semantics.specs.Expressions.{Queries, Meaning, Operated, Called, setting, queries_within, node_meaning, call_meaning, typed_meaning, infix_meaning, postfix_meaning, operated, scope_of, value_for, is_true}
use Rattle.qvtr_semantics.specs.Templates.{Values, value_at, has}
use Rattle.qvtr_semantics.specs.Bindings.{are_one, conjunct_holds}
use Rattle.qvtr_semantics.proofs.ExpressionLaws.{typed_is, node_of}
use Rattle.ocl_eval.specs.OrderLaws.{same_decides}
use Rattle.template_match.specs.Links.{variable_alone}
use Rattle.template_match.specs.Search.{saying_by, saying_chain, saying_node, saying, some_data}
use Rattle.template_match.specs.Rows.{one_datum}
use Rattle.template_match.proofs.ListLaws.{any_from}
use Rattle.template_match.proofs.LinkLaws.{alone_value}

-- ---- slots

pub has_contains : (slot : Option (List Datum)) (d : Datum) → has slot (Some d) ≡ true → Contains (some_data slot) d
has_contains None d h = absurd (true≢false (sym h))
has_contains (Some ds) d h =
    let found = any_from (same_datum d) ds h in
    subst (Contains ds) (sym ((same_decides d found.0).0 found.2)) found.1

-- an object whose slot holds something is an object
pub no_slot : (program : Program) (models : List ModelData) (m : ℕ) (v : Value) (p : ℕ) (o : Option Datum)
    → has (held_at (setting program models) (Val m v) p) o ≡ true → ⊥
no_slot program models m v p o h = absurd (true≢false (sym h))

-- ---- equations

one_of : (o q : Option Datum) → are_one o q ≡ true → (d : Datum) → o ≡ Some d → Contains (one_datum q) d
one_of None q h d is = absurd (true≢false (sym h))
one_of (Some e) None h d is = absurd (true≢false (sym h))
one_of (Some e) (Some f) h d is =
    let same : e ≡ f = (same_decides e f).0 h in
    (zero, omega arith, sym same ∙ some_is e d is)
  where
    some_is : (x y : Datum) → Some x ≡ Some y → x ≡ y
    some_is x y e = cc

-- ---- conditions `v = e`

pub known_true : (x y : Out) → is_known_true (boolean_of (truth (equal x y))) ≡ true → is_known_true (equal x y) ≡ true
known_true x y h = by (equal x y) h
  where
    by : (o : Option Bool) → is_known_true (boolean_of (truth o)) ≡ true → is_known_true o ≡ true
    by None h = h
    by (Some b) h = h

equal_data : (x y : Out) → is_known_true (equal x y) ≡ true → (d : Datum) → datum_of x ≡ Some d → Contains (one_datum (datum_of y)) d
equal_data (outs.One e) (outs.One f) h d is = one_of (Some e) (Some f) h d is
equal_data (outs.One e) (outs.Many k ds) h d is = absurd (true≢false (sym h))
equal_data (outs.One e) outs.Null h d is = absurd (true≢false (sym h))
equal_data (outs.One e) outs.Invalid h d is = absurd (true≢false (sym h))
equal_data (outs.Many k ds) y h d is = absurd (cc)
equal_data outs.Null y h d is = absurd (cc)
equal_data outs.Invalid y h d is = absurd (cc)

same_pair : (a b : ℕ × Typed) → Some a ≡ Some b → a ≡ b
same_pair a b e = cc

module _ (program : Program) (models : List ModelData) (b : Values) where
  abbrev calls : Queries
  calls = queries_within program.queries (setting program models) (length program.queries)

  abbrev infix_of : TypedInfix → Operated
  infix_of = fold-TypedInfix Called Meaning Meaning Operated Called (call_meaning (setting program models)) (node_meaning (setting program models) calls) typed_meaning infix_meaning postfix_meaning

  abbrev call_of : Call → Called
  call_of = fold-Call Called Meaning Meaning Operated Called (call_meaning (setting program models)) (node_meaning (setting program models) calls) typed_meaning infix_meaning postfix_meaning

  abbrev postfix_of : TypedPostfix → Called
  postfix_of = fold-TypedPostfix Called Meaning Meaning Operated Called (call_meaning (setting program models)) (node_meaning (setting program models) calls) typed_meaning infix_meaning postfix_meaning

  -- the value of a condition with one operator
  pub chain_value : (c first : Typed) (l : TypedInfix) → out-Node c.node ≡ nodes.Chain first (l ∷ [])
      → value_for program models c b ≡ operated l.operator (value_for program models first b) (value_for program models l.right b)
  chain_value c first l is =
      let d : nodes.Node-F Call Node Typed TypedInfix TypedPostfix = nodes.Chain first (l ∷ []) in
      let node : c.node ≡ roll-Node d = sym (roll-out-Node c.node) ∙ ap roll-Node is in
      let operated_is = fold-roll-TypedInfix Called Meaning Meaning Operated Called (call_meaning (setting program models)) (node_meaning (setting program models) calls) typed_meaning infix_meaning postfix_meaning
      (record { operator = l.operator; right = l.right; ty = l.ty }) in
      ap (λ (m : Meaning). m (scope_of b)) (typed_is (setting program models) calls c.ty c.node ∙ ap (node_of (setting program models) calls) node
      ∙ fold-roll-Node Called Meaning Meaning Operated Called (call_meaning (setting program models)) (node_meaning (setting program models) calls) typed_meaning infix_meaning postfix_meaning d)
      ∙ ap (λ (o : Operated). operated o.operator (value_for program models first b) (o.right (scope_of b))) operated_is

  said_by_infix : (c first : Typed) (l : TypedInfix) (o : Operator) (q : Option ℕ) (v : ℕ) (e : Typed) → out-Node c.node ≡ nodes.Chain first (l ∷ []) → l.operator ≡ o
      → variable_alone (out-Node first.node) ≡ q → saying_by o q l.right ≡ Some (v, e) → is_true program models c b ≡ true
      → (d : Datum) → value_at b v ≡ Some d → Contains (one_datum (datum_of (value_for program models e b))) d
  said_by_infix c first l operators.Equal (Some w) v e is op alone says h d at =
      let same_variable : w ≡ v = ap (λ (x : ℕ × Typed). x.0) (same_pair (w, l.right) (v, e) says) in
      let same_right : l.right ≡ e = ap (λ (x : ℕ × Typed). x.1) (same_pair (w, l.right) (v, e) says) in
      let x = value_for program models first b in
      let y = value_for program models l.right b in
      let value : value_for program models c b ≡ truth (equal x y) = chain_value c first l is ∙ ap (λ k. operated k x y) op in
      let known : is_known_true (boolean_of (truth (equal x y))) ≡ true = sym (ap (λ k. is_known_true (boolean_of k)) value) ∙ h in
      let left : datum_of x ≡ Some d = alone_value program models first w b alone ∙ ap (value_at b) same_variable ∙ at in
      subst (λ k. Contains (one_datum (datum_of (value_for program models k b))) d) same_right (equal_data x y (known_true x y known) d left)
  said_by_infix c first l o q v e is op alone says h d at = absurd (cc)

  said_by_chain : (c first : Typed) (ls : List TypedInfix) (v : ℕ) (e : Typed) → out-Node c.node ≡ nodes.Chain first ls → saying_chain first ls ≡ Some (v, e)
      → is_true program models c b ≡ true → (d : Datum) → value_at b v ≡ Some d → Contains (one_datum (datum_of (value_for program models e b))) d
  said_by_chain c first [] v e is says h d at = absurd (cc)
  said_by_chain c first (l ∷ []) v e is says h d at = said_by_infix c first l l.operator (variable_alone (out-Node first.node)) v e is refl refl says h d at
  said_by_chain c first (l ∷ m ∷ ls) v e is says h d at = absurd (cc)

  said_by_node : (c : Typed) (n : nodes.Node-F Call Node Typed TypedInfix TypedPostfix) (v : ℕ) (e : Typed) → out-Node c.node ≡ n → saying_node n ≡ Some (v, e)
      → is_true program models c b ≡ true → (d : Datum) → value_at b v ≡ Some d → Contains (one_datum (datum_of (value_for program models e b))) d
  said_by_node c (nodes.Chain first ls) v e is says h d at = said_by_chain c first ls v e is says h d at
  said_by_node c (nodes.Number value) v e is says h d at = absurd (cc)
  said_by_node c (nodes.Str value) v e is says h d at = absurd (cc)
  said_by_node c (nodes.Bool value) v e is says h d at = absurd (cc)
  said_by_node c nodes.Null v e is says h d at = absurd (cc)
  said_by_node c nodes.Invalid v e is says h d at = absurd (cc)
  said_by_node c (nodes.EnumLiteral m en l) v e is says h d at = absurd (cc)
  said_by_node c (nodes.Variable n) v e is says h d at = absurd (cc)
  said_by_node c (nodes.Let n value body) v e is says h d at = absurd (cc)
  said_by_node c (nodes.Not operand) v e is says h d at = absurd (cc)
  said_by_node c (nodes.Negated operand) v e is says h d at = absurd (cc)
  said_by_node c (nodes.Calls part calls) v e is says h d at = absurd (cc)
  said_by_node c (nodes.If condition one other) v e is says h d at = absurd (cc)
  said_by_node c (nodes.Coll kind elements) v e is says h d at = absurd (cc)
  said_by_node c (nodes.Extent m k) v e is says h d at = absurd (cc)
  said_by_node c (nodes.Query n args) v e is says h d at = absurd (cc)

  -- a conjunct `v = e` that holds: the value of v is that of e
  pub said : (c : Conj) (v : ℕ) (e : Typed) → saying c ≡ Some (v, e) → conjunct_holds program models b c ≡ true
      → (d : Datum) → value_at b v ≡ Some d → Contains (one_datum (datum_of (value_for program models e b))) d
  said (conjuncts.Cond c) v e says h d at = said_by_node c (out-Node c.node) v e refl says h d at
  said (conjuncts.Equation w f) v e says h d at =
      let same_variable : w ≡ v = ap (λ (x : ℕ × Typed). x.0) (same_pair (w, f) (v, e) says) in
      let same_right : f ≡ e = ap (λ (x : ℕ × Typed). x.1) (same_pair (w, f) (v, e) says) in
      subst (λ k. Contains (one_datum (datum_of (value_for program models k b))) d) same_right
      (one_of (value_at b w) (datum_of (value_for program models f b)) h d (ap (value_at b) same_variable ∙ at))
  said (conjuncts.Call number args) v e says h d at = absurd (cc)

-- what a conjunct says
pub says_saying : (c : Conj) (v : ℕ) (e : Typed) → Says c v e → saying c ≡ Some (v, e)
says_saying c v e (Says.equation w f) = refl
says_saying c v e (Says.condition w f ty own link) =
    let first : Typed = record { ty = own; node = forms.Variable w } in
    let ls : List TypedInfix = record { operator = operators.Equal; right = f; ty = link } ∷ [] in
    let chain : out-Node (forms.Chain first ls) ≡ nodes.Chain first ls = ap out-Node (sym (forms.rolls-Chain first ls)) ∙ out-roll-Node (nodes.Chain first ls) in
    let variable : out-Node (forms.Variable w) ≡ nodes.Variable w = ap out-Node (sym (forms.rolls-Variable w)) ∙ out-roll-Node (nodes.Variable w) in
    ap saying_node chain ∙ ap (λ n. saying_by operators.Equal (variable_alone n) f) variable

-- what the expression behind `v =` names stands in the conjunct
pub says_names : (c : Conj) (v : ℕ) (e : Typed) (w : ℕ) → Says c v e → Names e w → (f : Typed) × InConjunct c f × Names f w
says_names c v e w (Says.equation x f) names = (e, refl, names)
says_names c v e w (Says.condition x f ty own link) names =
    let first : Typed = record { ty = own; node = forms.Variable x } in
    let ls : List TypedInfix = record { operator = operators.Equal; right = f; ty = link } ∷ [] in
    let whole : Typed = record { ty = ty; node = forms.Chain first ls } in
    let chain : out-Node (forms.Chain first ls) ≡ nodes.Chain first ls = ap out-Node (sym (forms.rolls-Chain first ls)) ∙ out-roll-Node (nodes.Chain first ls) in
    let part : Contains (parts_of whole) f = subst (λ n. Contains (node_parts n) f) (sym chain) (contains_later f first (f ∷ []) (contains_first f [])) in
    (whole, refl, (names.0, IsWithin.inside whole f _ part names.1))
