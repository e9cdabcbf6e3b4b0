-- What is printed of a rule that a program breaks, of terms and entries, of demands in conflict, and of chains of entries.
use Rattle.std.specs.Prelude.{ℕ, List, [], ◌∷◌, ◌++◌, map, codes, Option, None, Some, slice_get}
use Rattle.std.specs.List.{concat, flat_map, zip}
use Rattle.std.specs.Option.{option_map_or, unwrap_or}
use Rattle.std.specs.Fmt.{decimal}
use Rattle.fault_lines.specs.Lines.{shown}
use Rattle.mof_metamodel.specs.declared.desc.ClassId.{ClassId}
use Rattle.mof_metamodel.specs.declared.desc.PropId.{PropId}
use Rattle.mof_metamodel.specs.Metamodels.{class_at, prop_at}
use Rattle.qv_syntax.specs.declared.program.Rel.{Rel}
use Rattle.qv_syntax.specs.declared.program.Var.{Var}
use Rattle.repair_semantics.specs.declared.term.Term.{Term, fold-Term}
use Rattle.repair_semantics.specs.declared.term.TermValue.{TermValue, fold-TermValue}
use Rattle.repair_semantics.specs.declared.term.TermValue.TheOpen as of
use Rattle.repair_semantics.specs.declared.entry.Entry.{Entry}
use Rattle.repair_semantics.specs.declared.entry.EntryName.{EntryName}
use Rattle.repair_semantics.specs.declared.entry.Place.{Place}
use Rattle.repair_semantics.specs.declared.entry.Place.TheVariants as places
use Rattle.repair_semantics.specs.declared.demand.Clash.{Clash}
use Rattle.repair_semantics.specs.TargetItems.{target_metamodel, key_of}
use Rattle.enforcement_rules.specs.declared.fault.NotEnforceable.{NotEnforceable}
use Rattle.answer_texts.specs.Question.{Question}
use Rattle.answer_texts.specs.AnswerTexts.{datum_text}

-- ---- names; what isn't there has none

abbrev pub relation_name : Question → ℕ → List ℕ
relation_name q number = option_map_or (λ (rel : Rel). rel.name) (slice_get q.program.rels number) []

-- the name of a class of the target, and of a property
abbrev pub class_name : Question → ClassId → List ℕ
class_name q class = (class_at (target_metamodel q.program q.models) class.0).name

abbrev pub prop_name : Question → PropId → List ℕ
prop_name q prop = (prop_at (target_metamodel q.program q.models) prop.0).name

-- the properties of the key of a class, in the key's order
abbrev pub key_props : Question → ClassId → List PropId
key_props q class = unwrap_or (key_of q.program class.0) []

-- ---- terms: `Class[p = value, q = value]`

-- texts with a comma between
abbrev pub listed : List (List ℕ) → List ℕ
listed [] = []
listed (first ∷ texts) = first ++ flat_map (λ text. codes ", " ++ text) texts

-- `p = value`, of a property and the text of its value
abbrev pub pair_text : Question → PropId × List ℕ → List ℕ
pair_text q x = concat (shown (prop_name q x.0) ∷ codes " = " ∷ x.1 ∷ [])

-- the same of a value that is a datum or a source object, or of one that is a term with this text
abbrev pub value_step : Question → of.TermValue-F (List ℕ) (List ℕ) → List ℕ
value_step q (of.Val d) = datum_text q d
value_step q (of.Term text) = text

abbrev pub term_step : Question → of.Term-F (List ℕ) (List ℕ) → List ℕ
term_step q t = concat (shown (class_name q t.class) ∷ codes "[" ∷ listed (map (pair_text q) (zip (key_props q t.class) t.keys)) ∷ codes "]" ∷ [])

abbrev pub term_text : Question → Term → List ℕ
term_text q = fold-Term (List ℕ) (List ℕ) (value_step q) (term_step q)

abbrev pub term_value_text : Question → TermValue → List ℕ
term_value_text q = fold-TermValue (List ℕ) (List ℕ) (value_step q) (term_step q)

-- ---- an entry: its relation, and a line for each variable that has a value, in the order of the variables

-- nothing where the variable has no value
abbrev pub binding_line : Question → Var × Option TermValue → List ℕ
binding_line q x = option_map_or (λ v. concat (codes "  " ∷ shown x.0.name ∷ codes " = " ∷ term_value_text q v ∷ codes "\n" ∷ [])) x.1 []

abbrev pub entry_of : Question → Entry → Rel → List ℕ
entry_of q e rel = concat (codes "relation " ∷ shown rel.name ∷ codes "\n" ∷ map (binding_line q) (zip rel.vars e.values))

abbrev pub entry_text : Question → Entry → List ℕ
entry_text q e = option_map_or (entry_of q e) (slice_get q.program.rels e.rel) []

-- ---- two demands in conflict: the place, and each entry with its item

abbrev pub item_line : Question → PropId → TermValue → List ℕ
item_line q prop v = concat (codes "  item " ∷ pair_text q (prop, term_value_text q v) ∷ codes "\n" ∷ [])

-- the place that would get two values
abbrev pub spot_line : Question → Clash → List ℕ
spot_line q c = concat (codes "conflict " ∷ term_text q c.owner ∷ codes " " ∷ shown (prop_name q c.prop) ∷ codes "\n" ∷ [])

abbrev pub conflict_text : Question → Clash → List ℕ
conflict_text q c = concat (
    spot_line q c
    ∷ entry_text q c.first ∷ item_line q c.first_item c.first_value
    ∷ entry_text q c.second ∷ item_line q c.second_item c.second_value ∷ [])

-- ---- an entry that is unmet, and where: at a conjunct of the where clause by its number, or at an item by its property

abbrev pub place_line : Question → Place → List ℕ
place_line q (places.Where number) = concat (codes "  where " ∷ decimal number ∷ codes "\n" ∷ [])
place_line q (places.Item prop) = concat (codes "  item " ∷ shown (prop_name q prop) ∷ codes "\n" ∷ [])

abbrev pub unmet_text : Question → Entry → Place → List ℕ
unmet_text q e place = concat (codes "unmet\n" ∷ entry_text q e ∷ place_line q place ∷ [])

-- ---- a chain of entries: a line for each call, with the values of the roots of the relation's domains

abbrev pub call_of : Question → List TermValue → Rel → List ℕ
call_of q roots rel = concat (shown rel.name ∷ codes "(" ∷ listed (map (term_value_text q) roots) ∷ codes ")\n" ∷ [])

-- nothing where there is no such relation
abbrev pub entry_call_line : Question → EntryName → List ℕ
entry_call_line q c = option_map_or (call_of q c.roots) (slice_get q.program.rels c.rel) []

abbrev pub entry_chain_text : Question → List ℕ → List EntryName → List ℕ
entry_chain_text q word chain = word ++ flat_map (entry_call_line q) chain

abbrev pub entry_cycle_text : Question → List EntryName → List ℕ
entry_cycle_text q chain = entry_chain_text q (codes "cycle\n") chain

abbrev pub entry_deep_text : Question → List EntryName → List ℕ
entry_deep_text q chain = entry_chain_text q (codes "deep\n") chain

-- ---- a relation that breaks a rule, and the rule by its number: `not-enforceable R E4`

abbrev pub rule_text : Question → NotEnforceable → List ℕ
rule_text q broken = concat (codes "not-enforceable " ∷ shown (relation_name q broken.relation) ∷ codes " E" ∷ decimal broken.rule ∷ codes "\n" ∷ [])
