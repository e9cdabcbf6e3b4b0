-- The text of a quote, and what is printed of what isn't there.
use Rattle.std.proofs.Common.{◌≡◌, ℕ, ◌≤◌, List, [], ◌∷◌, length, refl, ap}
use Rattle.std.specs.Prelude.{codes, slice_index_or}
use Rattle.std.specs.List.{concat}
use Rattle.std.specs.Str.{chars}
use Rattle.std.proofs.lemmas.List.{get_or_past}
use Rattle.fault_lines.specs.Lines.{shown}
use Rattle.mof_metamodel.specs.declared.desc.EnumDesc.{EnumDesc}
use Rattle.mof_metamodel.specs.declared.desc.MetaDesc.{MetaDesc}
use Rattle.mof_metamodel.specs.Metamodels.{enum_count, no_enum}
use Rattle.ocl_environments.specs.Environments.{meta_at, no_meta}
use Rattle.answer_texts.specs.AnswerTexts.{literal_text}

pub quote_characters : chars (codes "'") ≡ codes "'"
unfolding chars
quote_characters = refl

-- a literal of an enumeration that the metamodel doesn't have
pub no_literal : (meta : MetaDesc) (e n : ℕ) → enum_count meta ≤ e → literal_text meta e n ≡ codes "::"
no_literal meta e n le = ap (λ (d : EnumDesc). concat (shown d.name ∷ codes "::" ∷ shown (slice_index_or d.literals n []) ∷ [])) (get_or_past meta.enums e no_enum le)

-- a literal of a metamodel that isn't there
pub no_metamodel : (metas : List MetaDesc) (m e n : ℕ) → length metas ≤ m → literal_text (meta_at metas m) e n ≡ codes "::"
no_metamodel metas m e n le = ap (λ (meta : MetaDesc). literal_text meta e n) (get_or_past metas m no_meta le)
