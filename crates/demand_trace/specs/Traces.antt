-- The trace of a set of demands (QVT 1.3, section 7.10.1): the entries in their order, each with the values of its variables, what it makes and what
-- it demands, all by name. What isn't there has no name.
use Rattle.std.specs.Prelude.{ℕ, suc, Bool, ◌==◌, List, [], ◌∷◌, ◌++◌, map, codes, Option, None, Some, slice_get}
use Rattle.std.specs.List.{filter, filter_map, zip}
use Rattle.std.specs.Option.{option_map, option_map_or, unwrap_or}
use Rattle.mof_metamodel.specs.declared.desc.MetaDesc.{MetaDesc}
use Rattle.mof_metamodel.specs.declared.desc.ClassId.{ClassId}
use Rattle.mof_metamodel.specs.declared.desc.PropId.{PropId}
use Rattle.mof_metamodel.specs.Metamodels.{class_at, prop_at, enum_at, literal_at}
use Rattle.object_tables.specs.declared.value.Value.{Value}
use Rattle.object_tables.specs.declared.value.Value.TheVariants as values
use Rattle.object_tables.specs.Models.{ModelData, id_at}
use Rattle.ocl_environments.specs.Environments.{meta_at}
use Rattle.qv_syntax.specs.declared.program.Program.{Program}
use Rattle.qv_syntax.specs.declared.program.Rel.{Rel}
use Rattle.qv_syntax.specs.declared.program.Var.{Var}
use Rattle.qv_syntax.specs.declared.query.ModelSlot.{ModelSlot}
use Rattle.qvtr_semantics.specs.declared.datum.Datum.{Datum}
use Rattle.qvtr_semantics.specs.declared.datum.Datum.TheVariants.{Obj, Val}
use Rattle.repair_semantics.specs.declared.demand.Demand.{Demand}
use Rattle.repair_semantics.specs.declared.entry.Entry.{Entry}
use Rattle.repair_semantics.specs.declared.term.Term.{Term, fold-Term}
use Rattle.repair_semantics.specs.declared.term.TermValue.{TermValue, fold-TermValue}
use Rattle.repair_semantics.specs.declared.term.TermValue.TheOpen as of
use Rattle.repair_semantics.specs.EntryValues.{TermValues}
use Rattle.repair_semantics.specs.TargetItems.{target_metamodel, key_of}
use Rattle.demand_set.specs.DemandSets.{DemandData}
use Rattle.trace_log.specs.declared.trace.Trace.{Trace}
use Rattle.trace_log.specs.declared.trace.TraceDemand.{TraceDemand}
use Rattle.trace_log.specs.declared.trace.TraceEntry.{TraceEntry}
use Rattle.trace_log.specs.declared.trace.TracePair.{TracePair}
use Rattle.trace_log.specs.declared.trace.TraceTerm.{TraceTerm}
use Rattle.trace_log.specs.declared.trace.TraceValue.{TraceValue}
use Rattle.trace_log.specs.declared.trace.TraceValue.TheVariants as traces
use Rattle.trace_log.specs.TraceValues.{pair, term}

-- where names are found: a program in the direction of its target, its metamodels and its models
pub record World : Type 0 where
  pub program : Program
  pub metas : List MetaDesc
  pub models : List ModelData

-- ---- data and source objects

-- the name of a model
abbrev pub model_name : World → ℕ → List ℕ
model_name w m = option_map_or (λ (slot : ModelSlot). slot.name) (slice_get w.program.models m) []

-- the identifier of an object of a model
abbrev pub identifier_of : ModelData → ℕ → List ℕ
identifier_of model o = unwrap_or (id_at model o) []

abbrev pub identifier_in : Option ModelData → ℕ → List ℕ
identifier_in None o = []
identifier_in (Some model) o = identifier_of model o

-- `Enum::lit`
abbrev pub literal_name : MetaDesc → ℕ → ℕ → List ℕ
literal_name meta e n = (enum_at meta e).name ++ (codes "::" ++ literal_at meta e n)

-- a value of a data type; a literal is one of the metamodel
abbrev pub plain_trace : MetaDesc → Value → TraceValue
plain_trace meta (values.Str text) = traces.Str text
plain_trace meta (values.Int i) = traces.Int i
plain_trace meta (values.Bool b) = traces.Bool b
plain_trace meta (values.Lit e n) = traces.Lit (literal_name meta e.0 n)

-- an object of a source model
abbrev pub object_trace : World → ℕ → ℕ → TraceValue
object_trace w m o = traces.Obj (model_name w m) (identifier_in (slice_get w.models m) o)

-- the same, or a value of a data type
abbrev pub datum_trace : World → Datum → TraceValue
datum_trace w (Obj m o) = object_trace w m o.0
datum_trace w (Val m value) = plain_trace (meta_at w.metas m) value

-- ---- objects of the target, by their classes and keys

abbrev pub target_meta : World → MetaDesc
target_meta w = target_metamodel w.program w.models

abbrev pub class_name : World → ClassId → List ℕ
class_name w c = (class_at (target_meta w) c.0).name

abbrev pub prop_name : World → PropId → List ℕ
prop_name w p = (prop_at (target_meta w) p.0).name

-- the properties of the key of a class, in the key's order
abbrev pub key_props : World → ClassId → List PropId
key_props w c = unwrap_or (key_of w.program c.0) []

-- the properties of a key with their values
abbrev pub key_pairs : World → List PropId → List TraceValue → List TracePair
key_pairs w ps vs = map (λ x. pair (prop_name w x.0) x.1) (zip ps vs)

abbrev pub value_step : World → of.TermValue-F TraceValue TraceTerm → TraceValue
value_step w (of.Val d) = datum_trace w d
value_step w (of.Term t) = traces.Term t

abbrev pub term_step : World → of.Term-F TraceValue TraceTerm → TraceTerm
term_step w t = term (class_name w t.class) (key_pairs w (key_props w t.class) t.keys)

abbrev pub value_trace : World → TermValue → TraceValue
value_trace w = fold-TermValue TraceValue TraceTerm (value_step w) (term_step w)

abbrev pub term_trace : World → Term → TraceTerm
term_trace w = fold-Term TraceValue TraceTerm (value_step w) (term_step w)

-- ---- entries

abbrev pub relation_name : Option Rel → List ℕ
relation_name None = []
relation_name (Some rel) = rel.name

abbrev pub variables_of : Option Rel → List Var
variables_of None = []
variables_of (Some rel) = rel.vars

-- a variable with its value, if it has one
abbrev pub binding_trace : World → Var × Option TermValue → Option TracePair
binding_trace w x = option_map (λ v. pair x.0.name (value_trace w v)) x.1

-- the variables that have a value, each with it, in the order of the variables
abbrev pub bindings_trace : World → List Var → TermValues → List TracePair
bindings_trace w vars b = filter_map (binding_trace w) (zip vars b)

-- what is demanded, of an object of the target at one of its properties
abbrev pub demand_trace : World → Demand → TraceDemand
demand_trace w d = record { item = prop_name w d.prop; place = term_trace w d.owner; value = value_trace w d.value }

-- an entry of this relation, with its demands
abbrev pub entry_of : World → Option Rel → Entry → List Demand → TraceEntry
entry_of w rel e ds = record {
  relation = relation_name rel;
  called = e.called;
  values = bindings_trace w (variables_of rel) e.values;
  made = bindings_trace w (variables_of rel) e.made;
  demands = map (demand_trace w) ds;
}

abbrev pub entry_trace : World → Entry → List Demand → TraceEntry
entry_trace w e ds = entry_of w (slice_get w.program.rels e.rel) e ds

-- the demand is one of the entry of this number
abbrev pub is_of : ℕ → Demand → Bool
is_of number d = d.entry == number

-- entries from a number on, each with those of the demands that are its own
abbrev pub entries_trace : World → List Demand → ℕ → List Entry → List TraceEntry
entries_trace w ds number [] = []
entries_trace w ds number (e ∷ es) = entry_trace w e (filter (is_of number) ds) ∷ entries_trace w ds (suc number) es

abbrev pub trace_in : World → DemandData → Trace
trace_in w d = record {
  transformation = w.program.name;
  target = model_name w w.program.target;
  entries = entries_trace w d.list 0 d.entries;
}

-- the trace of a set of demands
abbrev pub trace_of : Program → List MetaDesc → List ModelData → DemandData → Trace
trace_of program metas models d = trace_in (record { program = program; metas = metas; models = models }) d
