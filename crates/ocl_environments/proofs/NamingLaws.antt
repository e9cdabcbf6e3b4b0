-- The characters of words, and texts put together.
use Rattle.std.proofs.Common.{◌≡◌, ℕ, ◌<◌, ◌≤◌, List, [], ◌∷◌, ◌++◌, codes, length, refl, sym, ◌∙◌, ap, append_assoc, Result, Ok, Err, arith}
use Rattle.std.specs.Prelude.{IfOk}
use Rattle.std.specs.Str.{chars}
use Rattle.std.proofs.lemmas.List.{get_or_past}
use Rattle.mof_metamodel.specs.declared.desc.ClassDesc.{ClassDesc}
use Rattle.mof_metamodel.specs.declared.desc.EnumDesc.{EnumDesc}
use Rattle.mof_metamodel.specs.Metamodels.{class_count, enum_count, class_at, enum_at, no_class, no_enum}
use Rattle.ocl_environments.specs.Environments.{meta_at, no_meta}
use Rattle.qv_syntax.specs.declared.name.Name.{Name}
use Rattle.mof_metamodel.specs.declared.desc.MetaDesc.{MetaDesc}
use Rattle.qv_syntax.specs.declared.ty.Ty.{fold-roll-Ty}
use Rattle.qv_syntax.specs.declared.ty.Ty.TheVariants as types
use Rattle.qv_syntax.specs.declared.ty.Ty.TheOpen as of
use Rattle.ocl_environments.specs.Naming.{texts_of, joined_names, type_text, type_text_step}

pub string_characters : chars (codes "String") ≡ codes "String"
unfolding chars
string_characters = refl

pub integer_characters : chars (codes "Integer") ≡ codes "Integer"
unfolding chars
integer_characters = refl

pub boolean_characters : chars (codes "Boolean") ≡ codes "Boolean"
unfolding chars
boolean_characters = refl

pub null_characters : chars (codes "Null") ≡ codes "Null"
unfolding chars
null_characters = refl

pub set_characters : chars (codes "Set") ≡ codes "Set"
unfolding chars
set_characters = refl

pub bag_characters : chars (codes "Bag") ≡ codes "Bag"
unfolding chars
bag_characters = refl

pub sequence_characters : chars (codes "Sequence") ≡ codes "Sequence"
unfolding chars
sequence_characters = refl

pub ordered_set_characters : chars (codes "OrderedSet") ≡ codes "OrderedSet"
unfolding chars
ordered_set_characters = refl

pub colons_characters : chars (codes "::") ≡ codes "::"
unfolding chars
colons_characters = refl

pub joined : (xs ys zs : List ℕ) → (xs ++ ys) ++ zs ≡ xs ++ (ys ++ zs)
joined xs ys zs = append_assoc xs ys zs

-- a text in parentheses
pub enclosed : (a b : List ℕ) → ((a ++ 40 ∷ []) ++ b) ++ 41 ∷ [] ≡ a ++ (40 ∷ b ++ 41 ∷ [])
enclosed a b = append_assoc (a ++ 40 ∷ []) b (41 ∷ []) ∙ append_assoc a (40 ∷ []) (b ++ 41 ∷ [])

pub empty_characters : chars [] ≡ []
unfolding chars
empty_characters = refl

-- the types that have no parts
pub string_text : (metas : List MetaDesc) → codes "String" ≡ type_text metas types.Str
string_text metas = sym (ap (type_text metas) (sym types.rolls-Str) ∙ fold-roll-Ty (List ℕ) (type_text_step metas) of.Str)

pub integer_text : (metas : List MetaDesc) → codes "Integer" ≡ type_text metas types.Int
integer_text metas = sym (ap (type_text metas) (sym types.rolls-Int) ∙ fold-roll-Ty (List ℕ) (type_text_step metas) of.Int)

pub boolean_text : (metas : List MetaDesc) → codes "Boolean" ≡ type_text metas types.Bool
boolean_text metas = sym (ap (type_text metas) (sym types.rolls-Bool) ∙ fold-roll-Ty (List ℕ) (type_text_step metas) of.Bool)

pub null_text : (metas : List MetaDesc) → codes "Null" ≡ type_text metas types.Null
null_text metas = sym (ap (type_text metas) (sym types.rolls-Null) ∙ fold-roll-Ty (List ℕ) (type_text_step metas) of.Null)

-- what is one text is another that is the same
pub same_text : {E : Type 0} (r : Result (List ℕ) E) (a b : List ℕ) → a ≡ b → IfOk r (λ t. t ≡ a) → IfOk r (λ t. t ≡ b)
same_text (Ok t) a b same is = is ∙ same
same_text (Err e) a b same is = tt

pub no_names : (names : List Name) → length names < 1 → joined_names (texts_of names) ≡ []
no_names [] few = refl
no_names (n ∷ ns) few = absurd (omega arith)

-- a class or an enumeration that isn't there has no name
pub no_class_name : (desc : MetaDesc) (c : ℕ) → class_count desc ≤ c → [] ≡ (class_at desc c).name
no_class_name desc c past = sym (ap (λ (k : ClassDesc). k.name) (get_or_past desc.classes c no_class past))

pub no_enum_name : (desc : MetaDesc) (e : ℕ) → enum_count desc ≤ e → [] ≡ (enum_at desc e).name
no_enum_name desc e past = sym (ap (λ (k : EnumDesc). k.name) (get_or_past desc.enums e no_enum past))

pub no_meta_class_name : (metas : List MetaDesc) (m c : ℕ) → length metas ≤ m → [] ≡ (class_at (meta_at metas m) c).name
no_meta_class_name metas m c past = sym (ap (λ desc. (class_at desc c).name) (get_or_past metas m no_meta past) ∙ ap (λ (k : ClassDesc). k.name) (get_or_past [] c no_class (omega arith)))

pub no_meta_enum_name : (metas : List MetaDesc) (m e : ℕ) → length metas ≤ m → [] ≡ (enum_at (meta_at metas m) e).name
no_meta_enum_name metas m e past = sym (ap (λ desc. (enum_at desc e).name) (get_or_past metas m no_meta past) ∙ ap (λ (k : EnumDesc). k.name) (get_or_past [] e no_enum (omega arith)))
