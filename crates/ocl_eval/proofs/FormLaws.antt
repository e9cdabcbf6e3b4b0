-- What expressions and calls of each form are, by their parts.
use Rattle.std.proofs.Common.{◌≡◌, ℕ, ℤ, Bool, List, map, sym, ◌∙◌, ap}
use Rattle.mof_metamodel.specs.declared.desc.ClassId.{ClassId}
use Rattle.mof_metamodel.specs.declared.desc.EnumId.{EnumId}
use Rattle.mof_metamodel.specs.declared.desc.PropId.{PropId}
use Rattle.object_tables.specs.declared.value.Value.TheVariants as values
use Rattle.qv_syntax.specs.declared.operation.Operation.{Operation}
use Rattle.qv_syntax.specs.declared.operation.ClassOperation.{ClassOperation}
use Rattle.qv_syntax.specs.declared.operation.CollectionOperation.{CollectionOperation}
use Rattle.qv_syntax.specs.declared.operation.IteratorKind.{IteratorKind}
use Rattle.qv_syntax.specs.declared.type_tree.Kind.{Kind}
use Rattle.qv_syntax.specs.declared.typed.Values.{Values}
use Rattle.qv_syntax.specs.declared.typed.Call.{Call, roll-Call, map-Call, fold-roll-Call}
use Rattle.qv_syntax.specs.declared.typed.Call.TheOpen as of
use Rattle.qv_syntax.specs.declared.typed.Call.TheVariants as calls
use Rattle.qv_syntax.specs.declared.typed.Node.{Node, roll-Node, map-Node, fold-roll-Node}
use Rattle.qv_syntax.specs.declared.typed.Node.TheVariants as nodes
use Rattle.qv_syntax.specs.declared.typed.Typed.{Typed, fold-roll-Typed}
use Rattle.qv_syntax.specs.declared.typed.TypedInfix.{TypedInfix, fold-roll-TypedInfix}
use Rattle.qv_syntax.specs.declared.typed.TypedPostfix.{TypedPostfix, fold-roll-TypedPostfix}
use Rattle.qvtr_semantics.specs.declared.datum.Datum.TheVariants.{Val}
use Rattle.qvtr_semantics.specs.declared.out.Out.{Out}
use Rattle.qvtr_semantics.specs.declared.out.Out.TheVariants.{One}
use Rattle.qvtr_semantics.specs.declared.out.Out.TheVariants as outs
use Rattle.qvtr_semantics.specs.Outs.{boolean, boolean_of}
use Rattle.qvtr_semantics.specs.Integers as integers
use Rattle.qvtr_semantics.specs.Iterators.{iterated, collect}
use Rattle.qvtr_semantics.specs.Objects.{extent, property}
use Rattle.qvtr_semantics.specs.Expressions.{Scope, Meaning, Operated, Called, node_meaning, call_meaning, typed_meaning, infix_meaning, postfix_meaning, variable, with_variable, all_operated, all_called, negation, negated, chosen, literal, in_scope, each, with_datum, with_collection, operation, class_operation, on_collection}
use Rattle.ocl_eval.specs.declared.world.World.{World}
use Rattle.ocl_eval.specs.declared.reached.Reached.{Reached}
use Rattle.ocl_eval.specs.Worlds.{setting_of, queries_of, meaning_of, node_of, call_of, infix_of, postfix_of, reached_in}

-- ---- expressions

part_is : (w : World) (part : Typed) → meaning_of w part ≡ node_of w part.node
part_is w part = fold-roll-Typed Called Meaning Meaning Operated Called (call_meaning (setting_of w)) (node_meaning (setting_of w) (queries_of w)) typed_meaning infix_meaning postfix_meaning (record { ty = part.ty; node = part.node })

node_rolled : (w : World) (d : of.Node-F Call Node Typed TypedInfix TypedPostfix) (n : Node) → roll-Node d ≡ n
    → node_of w n ≡ node_meaning (setting_of w) (queries_of w) (map-Node Call Node Typed TypedInfix TypedPostfix Called Meaning Meaning Operated Called (call_of w) (node_of w) (meaning_of w) (infix_of w) (postfix_of w) d)
node_rolled w d n h = ap (node_of w) (sym h) ∙ fold-roll-Node Called Meaning Meaning Operated Called (call_meaning (setting_of w)) (node_meaning (setting_of w) (queries_of w)) typed_meaning infix_meaning postfix_meaning d

formed : (w : World) (part : Typed) (d : of.Node-F Call Node Typed TypedInfix TypedPostfix) (n : Node) → part.node ≡ n → roll-Node d ≡ n
    → meaning_of w part ≡ node_meaning (setting_of w) (queries_of w) (map-Node Call Node Typed TypedInfix TypedPostfix Called Meaning Meaning Operated Called (call_of w) (node_of w) (meaning_of w) (infix_of w) (postfix_of w) d)
formed w part d n is rolls = part_is w part ∙ ap (node_of w) is ∙ node_rolled w d n rolls

pub number_is : (w : World) (part : Typed) (scope : Scope) (out : Out) (value : ℤ) → part.node ≡ nodes.Number value → out ≡ integers.integer value → out ≡ meaning_of w part scope
number_is w part scope out value is same = same ∙ sym (ap (λ (m : Meaning). m scope) (formed w part (of.Number value) (nodes.Number value) is (nodes.rolls-Number value)))

pub string_is : (w : World) (part : Typed) (scope : Scope) (out : Out) (value : List ℕ) → part.node ≡ nodes.Str value → out ≡ One (Val 0 (values.Str value)) → out ≡ meaning_of w part scope
string_is w part scope out value is same = same ∙ sym (ap (λ (m : Meaning). m scope) (formed w part (of.Str value) (nodes.Str value) is (nodes.rolls-Str value)))

pub bool_is : (w : World) (part : Typed) (scope : Scope) (out : Out) (value : Bool) → part.node ≡ nodes.Bool value → out ≡ boolean value → out ≡ meaning_of w part scope
bool_is w part scope out value is same = same ∙ sym (ap (λ (m : Meaning). m scope) (formed w part (of.Bool value) (nodes.Bool value) is (nodes.rolls-Bool value)))

pub null_is : (w : World) (part : Typed) (scope : Scope) (out : Out) → part.node ≡ nodes.Null → out ≡ outs.Null → out ≡ meaning_of w part scope
null_is w part scope out is same = same ∙ sym (ap (λ (m : Meaning). m scope) (formed w part of.Null nodes.Null is nodes.rolls-Null))

pub invalid_is : (w : World) (part : Typed) (scope : Scope) (out : Out) → part.node ≡ nodes.Invalid → out ≡ outs.Invalid → out ≡ meaning_of w part scope
invalid_is w part scope out is same = same ∙ sym (ap (λ (m : Meaning). m scope) (formed w part of.Invalid nodes.Invalid is nodes.rolls-Invalid))

pub enum_literal_is : (w : World) (part : Typed) (scope : Scope) (out : Out) (meta : ℕ) (enumeration : EnumId) (place : ℕ) → part.node ≡ nodes.EnumLiteral meta enumeration place → out ≡ One (Val meta (values.Lit enumeration place)) → out ≡ meaning_of w part scope
enum_literal_is w part scope out meta enumeration place is same = same ∙ sym (ap (λ (m : Meaning). m scope) (formed w part (of.EnumLiteral meta enumeration place) (nodes.EnumLiteral meta enumeration place) is (nodes.rolls-EnumLiteral meta enumeration place)))

pub variable_is : (w : World) (part : Typed) (scope : Scope) (out : Out) (number : ℕ) → part.node ≡ nodes.Variable number → out ≡ variable scope number → out ≡ meaning_of w part scope
variable_is w part scope out number is same = same ∙ sym (ap (λ (m : Meaning). m scope) (formed w part (of.Variable number) (nodes.Variable number) is (nodes.rolls-Variable number)))

pub extent_is : (w : World) (part : Typed) (scope : Scope) (out : Out) (model : ℕ) (class : ClassId) → part.node ≡ nodes.Extent model class → out ≡ extent (setting_of w) model class.0 → out ≡ meaning_of w part scope
extent_is w part scope out model class is same = same ∙ sym (ap (λ (m : Meaning). m scope) (formed w part (of.Extent model class) (nodes.Extent model class) is (nodes.rolls-Extent model class)))

pub let_is : (w : World) (part : Typed) (scope : Scope) (out : Out) (number : ℕ) (value : Typed) (body : Typed) (v b : Typed) → part.node ≡ nodes.Let number value body → v ≡ value → b ≡ body → out ≡ meaning_of w b (with_variable scope number (meaning_of w v scope)) → out ≡ meaning_of w part scope
let_is w part scope out number value body v b is hv hb same = same ∙ ap (λ e. meaning_of w e (with_variable scope number (meaning_of w v scope))) hb ∙ ap (λ e. meaning_of w body (with_variable scope number (meaning_of w e scope))) hv ∙ sym (ap (λ (m : Meaning). m scope) (formed w part (of.Let number value body) (nodes.Let number value body) is (nodes.rolls-Let number value body)))

pub chain_is : (w : World) (part : Typed) (scope : Scope) (out x : Out) (first : Typed) (rest : List TypedInfix) (e : Typed) (ls : List TypedInfix) (s1 : Scope) → part.node ≡ nodes.Chain first rest → e ≡ first → ls ≡ rest → s1 ≡ scope → x ≡ meaning_of w e scope → out ≡ all_operated s1 x (map (infix_of w) ls) → out ≡ meaning_of w part scope
chain_is w part scope out x first rest e ls s1 is he hl hs hx same =
    same ∙ ap (λ s. all_operated s x (map (infix_of w) ls)) hs ∙ ap (λ y. all_operated scope y (map (infix_of w) ls)) (hx ∙ ap (λ y. meaning_of w y scope) he) ∙ ap (λ y. all_operated scope (meaning_of w first scope) (map (infix_of w) y)) hl ∙ sym (ap (λ (m : Meaning). m scope) (formed w part (of.Chain first rest) (nodes.Chain first rest) is (nodes.rolls-Chain first rest)))

calls_is : (w : World) (part : Typed) (scope : Scope) (out x : Out) (first : Typed) (rest : List TypedPostfix) (e : Typed) (ls : List TypedPostfix) (s1 : Scope) → part.node ≡ nodes.Calls first rest → e ≡ first → ls ≡ rest → s1 ≡ scope → x ≡ meaning_of w e scope → out ≡ all_called s1 x (map (postfix_of w) ls) → out ≡ meaning_of w part scope
calls_is w part scope out x first rest e ls s1 is he hl hs hx same =
    same ∙ ap (λ s. all_called s x (map (postfix_of w) ls)) hs ∙ ap (λ y. all_called scope y (map (postfix_of w) ls)) (hx ∙ ap (λ y. meaning_of w y scope) he) ∙ ap (λ y. all_called scope (meaning_of w first scope) (map (postfix_of w) y)) hl ∙ sym (ap (λ (m : Meaning). m scope) (formed w part (of.Calls first rest) (nodes.Calls first rest) is (nodes.rolls-Calls first rest)))

pub calls_from : (w : World) (part : Typed) (scope : Scope) (out : Out) (x : Reached) (first : Typed) (rest : List TypedPostfix) (e : Typed) (ls : List TypedPostfix) (s1 : Scope) → part.node ≡ nodes.Calls first rest → e ≡ first → ls ≡ rest → s1 ≡ scope → reached_in scope x ≡ meaning_of w e scope → out ≡ all_called s1 (reached_in s1 x) (map (postfix_of w) ls) → out ≡ meaning_of w part scope
calls_from w part scope out x first rest e ls s1 is he hl hs hx same =
    calls_is w part scope out (reached_in s1 x) first rest e ls s1 is he hl hs (ap (λ s. reached_in s x) hs ∙ hx) same

pub not_is : (w : World) (part : Typed) (scope : Scope) (out x : Out) (operand : Typed) (e : Typed) → part.node ≡ nodes.Not operand → e ≡ operand → x ≡ meaning_of w e scope → out ≡ negation x → out ≡ meaning_of w part scope
not_is w part scope out x operand e is he hx same = same ∙ ap negation (hx ∙ ap (λ y. meaning_of w y scope) he) ∙ sym (ap (λ (m : Meaning). m scope) (formed w part (of.Not operand) (nodes.Not operand) is (nodes.rolls-Not operand)))

pub negated_is : (w : World) (part : Typed) (scope : Scope) (out x : Out) (operand : Typed) (e : Typed) → part.node ≡ nodes.Negated operand → e ≡ operand → x ≡ meaning_of w e scope → out ≡ negated x → out ≡ meaning_of w part scope
negated_is w part scope out x operand e is he hx same = same ∙ ap negated (hx ∙ ap (λ y. meaning_of w y scope) he) ∙ sym (ap (λ (m : Meaning). m scope) (formed w part (of.Negated operand) (nodes.Negated operand) is (nodes.rolls-Negated operand)))

pub if_is : (w : World) (part : Typed) (scope : Scope) (out : Out) (condition : Typed) (one : Typed) (other : Typed) (c a b : Typed) → part.node ≡ nodes.If condition one other → c ≡ condition → a ≡ one → b ≡ other → out ≡ chosen (boolean_of (meaning_of w c scope)) (meaning_of w a scope) (meaning_of w b scope) → out ≡ meaning_of w part scope
if_is w part scope out condition one other c a b is hc ha hb same =
    same ∙ ap (λ e. chosen (boolean_of (meaning_of w e scope)) (meaning_of w a scope) (meaning_of w b scope)) hc ∙ ap (λ e. chosen (boolean_of (meaning_of w condition scope)) (meaning_of w e scope) (meaning_of w b scope)) ha
    ∙ ap (λ e. chosen (boolean_of (meaning_of w condition scope)) (meaning_of w one scope) (meaning_of w e scope)) hb ∙ sym (ap (λ (m : Meaning). m scope) (formed w part (of.If condition one other) (nodes.If condition one other) is (nodes.rolls-If condition one other)))

pub coll_is : (w : World) (part : Typed) (scope : Scope) (out : Out) (xs : List Out) (kind : Kind) (elements : List Typed) (es : List Typed) → part.node ≡ nodes.Coll kind elements → es ≡ elements → xs ≡ in_scope scope (map (meaning_of w) es) → out ≡ literal kind xs → out ≡ meaning_of w part scope
coll_is w part scope out xs kind elements es is he hx same = same ∙ ap (literal kind) (hx ∙ ap (λ y. in_scope scope (map (meaning_of w) y)) he) ∙ sym (ap (λ (m : Meaning). m scope) (formed w part (of.Coll kind elements) (nodes.Coll kind elements) is (nodes.rolls-Coll kind elements)))

pub query_is : (w : World) (part : Typed) (scope : Scope) (out : Out) (xs : List Out) (query : ℕ) (elements : List Typed) (es : List Typed) → part.node ≡ nodes.Query query elements → es ≡ elements → xs ≡ in_scope scope (map (meaning_of w) es) → out ≡ queries_of w query xs → out ≡ meaning_of w part scope
query_is w part scope out xs query elements es is he hx same = same ∙ ap (queries_of w query) (hx ∙ ap (λ y. in_scope scope (map (meaning_of w) y)) he) ∙ sym (ap (λ (m : Meaning). m scope) (formed w part (of.Query query elements) (nodes.Query query elements) is (nodes.rolls-Query query elements)))

-- ---- calls

call_rolled : (w : World) (d : of.Call-F Call Node Typed TypedInfix TypedPostfix) (n call : Call) → call ≡ n → roll-Call d ≡ n
    → call_of w call ≡ call_meaning (setting_of w) (map-Call Call Node Typed TypedInfix TypedPostfix Called Meaning Meaning Operated Called (call_of w) (node_of w) (meaning_of w) (infix_of w) (postfix_of w) d)
call_rolled w d n call is h = ap (call_of w) (is ∙ sym h) ∙ fold-roll-Call Called Meaning Meaning Operated Called (call_meaning (setting_of w)) (node_meaning (setting_of w) (queries_of w)) typed_meaning infix_meaning postfix_meaning d

pub property_is : (w : World) (call : Call) (scope : Scope) (x out : Out) (prop : PropId) (gives : Values) → call ≡ calls.Property prop gives → out ≡ with_datum x (property (setting_of w) prop.0 gives) → out ≡ call_of w call scope x
property_is w call scope x out prop gives is same = same ∙ sym (ap (λ (m : Called). m scope x) (call_rolled w (of.Property prop gives) (calls.Property prop gives) call is (calls.rolls-Property prop gives)))

pub collect_property_is : (w : World) (call : Call) (scope : Scope) (x out : Out) (prop : PropId) (gives : Values) → call ≡ calls.CollectProperty prop gives → out ≡ with_collection x (λ c. collect c (map (property (setting_of w) prop.0 gives) c.elements)) → out ≡ call_of w call scope x
collect_property_is w call scope x out prop gives is same = same ∙ sym (ap (λ (m : Called). m scope x) (call_rolled w (of.CollectProperty prop gives) (calls.CollectProperty prop gives) call is (calls.rolls-CollectProperty prop gives)))

pub class_is : (w : World) (call : Call) (scope : Scope) (x out : Out) (named : ClassOperation) (class : ClassId) → call ≡ calls.Class named class → out ≡ class_operation (setting_of w) named class.0 x → out ≡ call_of w call scope x
class_is w call scope x out named class is same = same ∙ sym (ap (λ (m : Called). m scope x) (call_rolled w (of.Class named class) (calls.Class named class) call is (calls.rolls-Class named class)))

pub operation_is : (w : World) (call : Call) (scope : Scope) (x out : Out) (named : Operation) (args : List Typed) (es : List Typed) (xs ys : List Out) → call ≡ calls.Operation named args → es ≡ args → xs ≡ in_scope scope (map (meaning_of w) es) → ys ≡ xs → out ≡ operation named x ys → out ≡ call_of w call scope x
operation_is w call scope x out named args es xs ys is he hx hy same = same ∙ ap (operation named x) (hy ∙ hx ∙ ap (λ y. in_scope scope (map (meaning_of w) y)) he) ∙ sym (ap (λ (m : Called). m scope x) (call_rolled w (of.Operation named args) (calls.Operation named args) call is (calls.rolls-Operation named args)))

pub collection_is : (w : World) (call : Call) (scope : Scope) (x out : Out) (named : CollectionOperation) (args : List Typed) (es : List Typed) → call ≡ calls.Collection named args → es ≡ args → out ≡ with_collection x (λ c. on_collection named c (in_scope scope (map (meaning_of w) es))) → out ≡ call_of w call scope x
collection_is w call scope x out named args es is he same = same ∙ ap (λ y. with_collection x (λ c. on_collection named c (in_scope scope (map (meaning_of w) y)))) he ∙ sym (ap (λ (m : Called). m scope x) (call_rolled w (of.Collection named args) (calls.Collection named args) call is (calls.rolls-Collection named args)))

pub iterator_is : (w : World) (call : Call) (scope : Scope) (x out : Out) (kind : IteratorKind) (number : ℕ) (body : Typed) (e : Typed) → call ≡ calls.Iterator kind number body → e ≡ body → out ≡ with_collection x (λ c. iterated kind c (each scope number (meaning_of w e) c.elements)) → out ≡ call_of w call scope x
iterator_is w call scope x out kind number body e is he same = same ∙ ap (λ y. with_collection x (λ c. iterated kind c (each scope number (meaning_of w y) c.elements))) he ∙ sym (ap (λ (m : Called). m scope x) (call_rolled w (of.Iterator kind number body) (calls.Iterator kind number body) call is (calls.rolls-Iterator kind number body)))

-- ---- operators and calls in a row

pub infix_is : (w : World) (link : TypedInfix) → infix_of w link ≡ record { operator = link.operator; right = meaning_of w link.right }
infix_is w link = fold-roll-TypedInfix Called Meaning Meaning Operated Called (call_meaning (setting_of w)) (node_meaning (setting_of w) (queries_of w)) typed_meaning infix_meaning postfix_meaning (record { operator = link.operator; right = link.right; ty = link.ty })

pub postfix_is : (w : World) (p : TypedPostfix) → postfix_of w p ≡ call_of w p.call
postfix_is w p = fold-roll-TypedPostfix Called Meaning Meaning Operated Called (call_meaning (setting_of w)) (node_meaning (setting_of w) (queries_of w)) typed_meaning infix_meaning postfix_meaning (record { call = p.call; ty = p.ty })
