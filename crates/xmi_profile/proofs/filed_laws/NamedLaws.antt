-- A primitive type that is added has its name as its only value at each property that is a name.
use Rattle.std.proofs.Common.{◌≡◌, ℕ, Bool, true, false, List, [], ◌∷◌, ◌++◌, refl, sym, ◌∙◌, ap, subst, inl, inr, None, Some}
use Rattle.std.specs.Prelude.{◌==◌, ◌||◌, ◌&&◌, Contains, filter_map, codes, Option, if◌then◌else◌}
use Rattle.std.proofs.lemmas.Bool.{true≢false, eq-eqb}
use Rattle.std.proofs.lemmas.List.Elements.{filter_map-append}
use Rattle.mof_metamodel.specs.declared.desc.MetaDesc.{MetaDesc}
use Rattle.mof_metamodel.specs.declared.desc.PropType.{PropType}
use Rattle.mof_metamodel.specs.declared.desc.PropType.TheVariants as types
use Rattle.mof_metamodel.specs.Characters.{same_name}
use Rattle.mof_metamodel.specs.Metamodels.{type_of}
use Rattle.mof_metamodel.proofs.SearchLemmas.{true_same}
use Rattle.object_tables.specs.declared.value.Value.{Value}
use Rattle.object_tables.specs.declared.value.Value.TheVariants as values
use Rattle.object_tables.specs.Models.{is_class_type}
use Rattle.model_assembly.specs.Content.{is_string}
use Rattle.xmi_profile.specs.Filing.{is_name_prop}
use Rattle.model_assembly.specs.Profile.{prop_name}
use Rattle.model_assembly.specs.Source.{is_at}
use Rattle.model_assembly.specs.Values.{value_of, unmet, without_repeats}
use Rattle.xmi_profile.proofs.filed_laws.EntryLaws.{OfInner, name_entries_if, name_entries, said_if, said_at, all_texts, at_property}
use Rattle.model_assembly.proofs.assembling.ListLaws.{in_cons}
use Rattle.mof_metamodel.proofs.Facts.{nothing_in}
use Rattle.mof_metamodel.proofs.Facts.{second_true}

abbrev Texts : Type 0
Texts = List (List ℕ)

-- each of the texts is this one
abbrev AllAre : List ℕ → Texts → Type 0
AllAre id [] = Unit {0}
AllAre id (text ∷ texts) = (text ≡ id) × AllAre id texts

abbrev has_text : Texts → Bool
has_text [] = false
has_text (text ∷ texts) = true

is_text_type : (t : Option PropType) → is_string t ≡ true → t ≡ Some types.Str
is_text_type (Some types.Str) h = refl
is_text_type (Some types.Int) h = absurd (true≢false (sym h))
is_text_type (Some types.Bool) h = absurd (true≢false (sym h))
is_text_type (Some (types.Enum e)) h = absurd (true≢false (sym h))
is_text_type (Some (types.Class c)) h = absurd (true≢false (sym h))
is_text_type None h = absurd (true≢false (sym h))

name_type : (meta : MetaDesc) (p : ℕ) → is_name_prop meta p ≡ true → type_of meta p ≡ Some types.Str
name_type meta p h = is_text_type (type_of meta p) (second_true (same_name (prop_name meta p) (codes "name")) (is_string (type_of meta p)) h)

pub name_is_attribute : (meta : MetaDesc) (p : ℕ) → is_name_prop meta p ≡ true → is_class_type (type_of meta p) ≡ false
name_is_attribute meta p h = ap is_class_type (name_type meta p h)

module _ (meta : MetaDesc) (o p : ℕ) (id : List ℕ) where
  abbrev told : List ℕ → Texts
  told ps = all_texts (said_at o p (name_entries meta o id ps))

  -- with one more property, which is a name or not, and this one or not
  abbrev told_with : Bool → Bool → List ℕ → Texts
  told_with named at ps = all_texts (if named then said_if at (OfInner id) (said_at o p (name_entries meta o id ps)) else said_at o p (name_entries meta o id ps))

  told_cons : (q : ℕ) (ps : List ℕ) (named : Bool) → is_name_prop meta q ≡ named → told (q ∷ ps) ≡ told_with named (is_at o p o q) ps
  told_cons q ps named e = ap (λ (b : Bool). all_texts (said_at o p (name_entries_if b o id q ++ name_entries meta o id ps))) e ∙ by named
    where
      by : (b : Bool) → all_texts (said_at o p (name_entries_if b o id q ++ name_entries meta o id ps)) ≡ told_with b (is_at o p o q) ps
      by true = refl
      by false = refl

  told_not : is_name_prop meta p ≡ false → (ps : List ℕ) → told ps ≡ []
  told_not h [] = refl
  told_not h (q ∷ ps) = by (is_name_prop meta q) refl (is_at o p o q) refl (told_not h ps)
    where
      by : (named : Bool) → is_name_prop meta q ≡ named → (at : Bool) → is_at o p o q ≡ at → told ps ≡ [] → told (q ∷ ps) ≡ []
      by false e at f r = told_cons q ps false e ∙ r
      by true e false f r = told_cons q ps true e ∙ ap (λ (b : Bool). told_with true b ps) f ∙ r
      by true e true f r = absurd (true≢false (sym e ∙ ap (is_name_prop meta) (at_property o p o q f) ∙ h))

  all_with : (named at : Bool) (ps : List ℕ) → AllAre id (told ps) → AllAre id (told_with named at ps)
  all_with false at ps a = a
  all_with true false ps a = a
  all_with true true ps a = (refl, a)

  told_same : (ps : List ℕ) → AllAre id (told ps)
  told_same [] = tt
  told_same (q ∷ ps) = subst (AllAre id) (sym (told_cons q ps (is_name_prop meta q) refl)) (all_with (is_name_prop meta q) (is_at o p o q) ps (told_same ps))

  some_with : (named at : Bool) (ps : List ℕ) → has_text (told ps) ≡ true → has_text (told_with named at ps) ≡ true
  some_with false at ps h = h
  some_with true false ps h = h
  some_with true true ps h = refl

  told_some : is_name_prop meta p ≡ true → (ps : List ℕ) → Contains ps p → has_text (told ps) ≡ true
  told_some h [] c = absurd (nothing_in p c)
  told_some h (q ∷ ps) c = elim (in_cons q ps p c) [
    | inl e ↦
        ap has_text
        (told_cons q ps true (ap (is_name_prop meta) e ∙ h)
        ∙ ap (λ (b : Bool). told_with true b ps) (ap (λ (b : Bool). b && (q == p)) (eq-eqb o o refl) ∙ eq-eqb q p e))
    | inr d ↦ ap has_text (told_cons q ps (is_name_prop meta q) refl) ∙ some_with (is_name_prop meta q) (is_at o p o q) ps (told_some h ps d)
  ]

abbrev str : List ℕ → Value
str text = values.Str text

-- the same value again
unmet_same : (meta : MetaDesc) (id : List ℕ) (texts : Texts) → AllAre id texts → unmet (str id ∷ []) (filter_map (value_of meta (Some types.Str)) texts) ≡ []
unmet_same meta id [] a = refl
unmet_same meta id (text ∷ texts) a =
    ap (unmet (str id ∷ [])) (filter_map-append (value_of meta (Some types.Str)) (text ∷ []) texts)
    ∙ ap (λ (b : Bool). if b || false then unmet (str id ∷ []) (filter_map (value_of meta (Some types.Str)) texts) else str text ∷ unmet (str text ∷ str id ∷ []) (filter_map (value_of meta (Some types.Str)) texts))
    (true_same text id a.0)
    ∙ unmet_same meta id texts a.1

one_value : (meta : MetaDesc) (id : List ℕ) (texts : Texts) → has_text texts ≡ true → AllAre id texts → without_repeats (filter_map (value_of meta (Some types.Str)) texts) ≡ str id ∷ []
one_value meta id [] h a = absurd (true≢false (sym h))
one_value meta id (text ∷ texts) h a =
    ap (unmet []) (filter_map-append (value_of meta (Some types.Str)) (text ∷ []) texts)
    ∙ ap (λ (t : List ℕ). str t ∷ unmet (str t ∷ []) (filter_map (value_of meta (Some types.Str)) texts)) a.0
    ∙ ap (λ (vs : List Value). str id ∷ vs) (unmet_same meta id texts a.1)

pub name_values : (meta : MetaDesc) (o p : ℕ) (id ps : List ℕ) → Contains ps p
    → without_repeats (filter_map (value_of meta (type_of meta p)) (all_texts (said_at o p (name_entries meta o id ps)))) ≡ (if is_name_prop meta p then values.Str id ∷ [] else [])
name_values meta o p id ps c = by (is_name_prop meta p) refl
  where
    by : (b : Bool) → is_name_prop meta p ≡ b → without_repeats (filter_map (value_of meta (type_of meta p)) (told meta o p id ps)) ≡ (if b then values.Str id ∷ [] else [])
    by true h =
        ap (λ (t : Option PropType). without_repeats (filter_map (value_of meta t) (told meta o p id ps))) (name_type meta p h)
        ∙ one_value meta id (told meta o p id ps) (told_some meta o p id h ps c) (told_same meta o p id ps)
    by false h = ap (λ (ts : Texts). without_repeats (filter_map (value_of meta (type_of meta p)) ts)) (told_not meta o p id h ps)
