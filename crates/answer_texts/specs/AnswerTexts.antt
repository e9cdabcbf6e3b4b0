-- What is printed of values, of a binding that fails, and of a chain of calls that is refused.
use Rattle.std.specs.Prelude.{ℕ, ◌==◌, List, [], ◌∷◌, ◌++◌, map, codes, Option, None, Some, if◌then◌else◌, slice_get}
use Rattle.std.specs.List.{concat, flat_map}
use Rattle.std.specs.Option.{option_map_or, unwrap_or}
use Rattle.std.specs.Fmt.{signed_decimal}
use Rattle.fault_lines.specs.Lines.{shown}
use Rattle.mof_metamodel.specs.declared.desc.MetaDesc.{MetaDesc}
use Rattle.mof_metamodel.specs.Metamodels.{enum_at, literal_at}
use Rattle.object_tables.specs.declared.value.Value.{Value}
use Rattle.object_tables.specs.declared.value.Value.TheVariants as values
use Rattle.object_tables.specs.Models.{ModelData, id_at}
use Rattle.xmi_profile.specs.Canon.{boolean_text}
use Rattle.qv_syntax.specs.declared.program.Dom.{Dom}
use Rattle.qv_syntax.specs.declared.program.Rel.{Rel}
use Rattle.qv_syntax.specs.declared.program.Var.{Var}
use Rattle.qv_syntax.specs.declared.query.ModelSlot.{ModelSlot}
use Rattle.qvtr_semantics.specs.declared.datum.Datum.{Datum}
use Rattle.qvtr_semantics.specs.declared.datum.Datum.TheVariants.{Obj, Val}
use Rattle.qvtr_semantics.specs.Templates.{Values, value_at}
use Rattle.qvtr_semantics.specs.Calls.{RelationCall}
use Rattle.ocl_environments.specs.Environments.{meta_at}
use Rattle.answer_texts.specs.Question.{Question}

-- ---- strings: between quotes, as they are written in a script

-- the letter that stands for a character behind a `\`: for `\`, `'`, tab, line feed and carriage return
abbrev pub escape_letter : ℕ → Option ℕ
escape_letter c =
    if c == 92 then Some 92 else if c == 39 then Some 39 else if c == 9 then Some 116 else if c == 10 then Some 110 else if c == 13 then Some 114 else None

abbrev pub written_as : ℕ → Option ℕ → List ℕ
written_as c None = c ∷ []
written_as c (Some letter) = 92 ∷ letter ∷ []

abbrev pub escaped : ℕ → List ℕ
escaped c = written_as c (escape_letter c)

abbrev pub quoted : List ℕ → List ℕ
quoted text = 39 ∷ (flat_map escaped text ++ 39 ∷ [])

-- ---- values

-- `Enum::lit`
abbrev pub literal_text : MetaDesc → ℕ → ℕ → List ℕ
literal_text meta e n = concat (shown (enum_at meta e).name ∷ codes "::" ∷ shown (literal_at meta e n) ∷ [])

-- a value of a data type; a literal is one of the metamodel
abbrev pub value_text : MetaDesc → Value → List ℕ
value_text meta (values.Str text) = shown (quoted text)
value_text meta (values.Int i) = signed_decimal i
value_text meta (values.Bool b) = boolean_text b
value_text meta (values.Lit e n) = literal_text meta e.0 n

abbrev pub model_name : Question → ℕ → List ℕ
model_name q m = option_map_or (λ (slot : ModelSlot). slot.name) (slice_get q.program.models m) []

abbrev pub identifier_in : Option ModelData → ℕ → List ℕ
identifier_in None o = []
identifier_in (Some model) o = unwrap_or (id_at model o) []

-- `model:identifier`
abbrev pub object_text : Question → ℕ → ℕ → List ℕ
object_text q m o = concat (shown (model_name q m) ∷ codes ":" ∷ shown (identifier_in (slice_get q.models m) o) ∷ [])

abbrev pub datum_text : Question → Datum → List ℕ
datum_text q (Obj m o) = object_text q m o.0
datum_text q (Val m value) = value_text (meta_at q.metas m) value

-- the value of a variable
abbrev pub text_at : Question → Values → ℕ → List ℕ
text_at q values v = option_map_or (datum_text q) (value_at values v) []

-- ---- a binding that fails: its relation, and a line for each universal variable

abbrev pub variable_name : Rel → ℕ → List ℕ
variable_name rel v = option_map_or (λ (var : Var). var.name) (slice_get rel.vars v) []

abbrev pub variable_line : Question → Rel → Values → ℕ → List ℕ
variable_line q rel b v = concat (codes "  " ∷ shown (variable_name rel v) ∷ codes " = " ∷ text_at q b v ∷ codes "\n" ∷ [])

abbrev pub failing_text : Question → Rel → Values → List ℕ
failing_text q rel b = concat (codes "no\n" ∷ codes "relation " ∷ shown rel.name ∷ codes "\n" ∷ map (variable_line q rel b) rel.universal)

-- ---- a chain of calls: a line for each, with the values of the roots of the relation's domains

abbrev pub root_text : Question → Values → Dom → List ℕ
root_text q roots domain = text_at q roots domain.root

-- with a comma between
abbrev pub root_texts : Question → Values → List Dom → List ℕ
root_texts q roots [] = []
root_texts q roots (first ∷ domains) = root_text q roots first ++ flat_map (λ domain. codes ", " ++ root_text q roots domain) domains

abbrev pub call_of : Question → Values → Rel → List ℕ
call_of q roots rel = concat (shown rel.name ∷ codes "(" ∷ root_texts q roots rel.domains ∷ codes ")\n" ∷ [])

abbrev pub call_line : Question → RelationCall → List ℕ
call_line q c = option_map_or (call_of q c.roots) (slice_get q.program.rels c.rel) []

abbrev pub chain_text : Question → List ℕ → List RelationCall → List ℕ
chain_text q word chain = word ++ flat_map (call_line q) chain

abbrev pub cycle_text : Question → List RelationCall → List ℕ
cycle_text q chain = chain_text q (codes "cycle\n") chain

abbrev pub deep_text : Question → List RelationCall → List ℕ
deep_text q chain = chain_text q (codes "deep\n") chain
