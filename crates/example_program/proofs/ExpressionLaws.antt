-- What stands within the expressions of the example: the variables that each names, texts that are storable, and neither extents nor calls of queries.
use Rattle.std.proofs.Common.{◌≡◌, ℕ, Bool, true, false, List, [], ◌∷◌, refl, sym, ap, ◌∙◌, subst, arith, true≢false}
use Rattle.std.specs.Prelude.{Contains, IsTrue}
use Rattle.std.specs.List.{AllByRecursion}
use Rattle.std.proofs.lemmas.List.Elements.{All-contains, All-from_recursion}
use Rattle.mof_metamodel.specs.declared.desc.ClassId.{ClassId}
use Rattle.mof_metamodel.specs.Characters.{is_storable_text}
use Rattle.mof_metamodel.proofs.Facts.{contains_first}
use Rattle.qv_syntax.specs.declared.ty.Ty.{Ty}
use Rattle.qv_syntax.specs.declared.ty.Ty.TheVariants as types
use Rattle.qv_syntax.specs.declared.typed.Typed.{Typed}
use Rattle.qv_syntax.specs.declared.typed.Node.{Node, out-Node, out-roll-Node}
use Rattle.qv_syntax.specs.declared.typed.Node.TheVariants as nodes
use Rattle.qv_syntax.specs.declared.typed.Call.{Call}
use Rattle.qv_syntax.specs.declared.typed.Call.TheOpen as of
use Rattle.qv_syntax.specs.declared.typed.TypedInfix.{TypedInfix}
use Rattle.qv_syntax.specs.declared.typed.TypedPostfix.{TypedPostfix}
use Rattle.qv_syntax.specs.Parts.{IsWithin, Names, CallsQuery, parts_of, node_parts}
use Rattle.example_program.specs.Words.{text, the_text, the_object, equal_to, joined_to, is_empty, joined, prefixed}
use Rattle.example_program.proofs.Tests.{has, listed}
use Rattle.example_program.proofs.Plain.{Argument, object_argument, text_argument, word_argument, prefixed_argument, argument_of, names_of}

abbrev pub Layer : Type 0
Layer = of.Node-F Call Node Typed TypedInfix TypedPostfix

-- a variable among these, a storable text, operators or an `if`
abbrev pub plain_layer : List ℕ → Layer → Bool
plain_layer names (of.Variable v) = has names v
plain_layer names (of.Str s) = is_storable_text s
plain_layer names (of.Chain first rest) = true
plain_layer names (of.If condition one other) = true
plain_layer names layer = false

-- all that stands within the expression is
abbrev pub IsPlain : List ℕ → Typed → Type 0
IsPlain names e = (x : Typed) → IsWithin e x → plain_layer names (out-Node x.node) ≡ true

-- ---- how it comes to be

plain_by : (names : List ℕ) (e : Typed) → plain_layer names (out-Node e.node) ≡ true → ((part : Typed) → Contains (parts_of e) part → IsPlain names part) → IsPlain names e
plain_by names e own parts x (IsWithin.whole _) = own
plain_by names e own parts x (IsWithin.inside _ part _ among within) = parts part among x within

plain_from : (names : List ℕ) (e : Typed) (d : Layer) → out-Node e.node ≡ d → plain_layer names d ≡ true → AllByRecursion (IsPlain names) (node_parts d) → IsPlain names e
plain_from names e d is own parts =
    plain_by names e (subst (λ l. plain_layer names l ≡ true) (sym is) own)
    (λ part among. All-contains (IsPlain names) (node_parts d) part (All-from_recursion (IsPlain names) (node_parts d) parts) (subst (λ l. Contains (node_parts l) part) is among))

pub out_variable : (v : ℕ) → out-Node (nodes.Variable v) ≡ of.Variable v
out_variable v = ap out-Node (sym (nodes.rolls-Variable v)) ∙ out-roll-Node (of.Variable v)

pub out_text : (s : List ℕ) → out-Node (nodes.Str s) ≡ of.Str s
out_text s = ap out-Node (sym (nodes.rolls-Str s)) ∙ out-roll-Node (of.Str s)

pub out_chain : (first : Typed) (rest : List TypedInfix) → out-Node (nodes.Chain first rest) ≡ of.Chain first rest
out_chain first rest = ap out-Node (sym (nodes.rolls-Chain first rest)) ∙ out-roll-Node (of.Chain first rest)

pub out_if : (condition one other : Typed) → out-Node (nodes.If condition one other) ≡ of.If condition one other
out_if condition one other = ap out-Node (sym (nodes.rolls-If condition one other)) ∙ out-roll-Node (of.If condition one other)

pub plain_variable : (names : List ℕ) (ty : Ty) (v : ℕ) → has names v ≡ true → IsPlain names (record { ty = ty; node = nodes.Variable v })
plain_variable names ty v among = plain_from names (record { ty = ty; node = nodes.Variable v }) (of.Variable v) (out_variable v) among tt

pub plain_text : (names : List ℕ) (s : List ℕ) → is_storable_text s ≡ true → IsPlain names (text s)
plain_text names s storable = plain_from names (text s) (of.Str s) (out_text s) storable tt

listed_first : (v : ℕ) (rest : List ℕ) → has (v ∷ rest) v ≡ true
listed_first v rest = listed (v ∷ rest) v (contains_first v rest)

listed_second : (v w : ℕ) → has (v ∷ w ∷ []) w ≡ true
listed_second v w = listed (v ∷ w ∷ []) w (1, omega arith, refl)

module _ (prefix name : ℕ) where
  abbrev both_names : List ℕ
  both_names = prefix ∷ name ∷ []

  prefix_plain : IsPlain both_names (the_text prefix)
  prefix_plain = plain_variable both_names types.Str prefix (listed_first prefix (name ∷ []))

  name_plain : IsPlain both_names (the_text name)
  name_plain = plain_variable both_names types.Str name (listed_second prefix name)

  empty_plain : IsPlain both_names (is_empty prefix)
  empty_plain =
      plain_from both_names (is_empty prefix) (of.Chain (the_text prefix) (equal_to (text []) ∷ [])) (out_chain (the_text prefix) (equal_to (text []) ∷ [])) refl
      (prefix_plain, (plain_text both_names [] refl, tt))

  joined_plain : IsPlain both_names (joined prefix name)
  joined_plain =
      plain_from both_names (joined prefix name) (of.Chain (the_text prefix) (joined_to (text (95 ∷ [])) ∷ joined_to (the_text name) ∷ []))
      (out_chain (the_text prefix) (joined_to (text (95 ∷ [])) ∷ joined_to (the_text name) ∷ [])) refl
      (prefix_plain, (plain_text both_names (95 ∷ []) refl, (name_plain, tt)))

  pub plain_prefixed : IsPlain (prefix ∷ name ∷ []) (prefixed prefix name)
  plain_prefixed =
      plain_from both_names (prefixed prefix name) (of.If (is_empty prefix) (the_text name) (joined prefix name)) (out_if (is_empty prefix) (the_text name) (joined prefix name)) refl
      (empty_plain, (name_plain, (joined_plain, tt)))

-- a word is storable
abbrev pub is_good : Argument → Bool
is_good (object_argument variable model class) = true
is_good (text_argument variable) = true
is_good (word_argument word) = is_storable_text word
is_good (prefixed_argument prefix name) = true

pub argument_plain : (a : Argument) → is_good a ≡ true → IsPlain (names_of a) (argument_of a)
argument_plain (object_argument variable model class) good = plain_variable (variable ∷ []) (types.Class model (record { 0 = class })) variable (listed_first variable [])
argument_plain (text_argument variable) good = plain_variable (variable ∷ []) types.Str variable (listed_first variable [])
argument_plain (word_argument word) good = plain_text [] word good
argument_plain (prefixed_argument prefix name) good = plain_prefixed prefix name

-- ---- what it says

pub names_are : (names : List ℕ) (e : Typed) → IsPlain names e → (v : ℕ) → Names e v → has names v ≡ true
names_are names e plain v (ty, within) = subst (λ d. plain_layer names d ≡ true) (out_variable v) (plain (record { ty = ty; node = nodes.Variable v }) within)

pub no_extent : (names : List ℕ) (e : Typed) → IsPlain names e → (ty : Ty) (model : ℕ) (class : ClassId) → ¬ IsWithin e (record { ty = ty; node = nodes.Extent model class })
no_extent names e plain ty model class within =
    true≢false (sym (plain (record { ty = ty; node = nodes.Extent model class }) within) ∙ ap (plain_layer names) (ap out-Node (sym (nodes.rolls-Extent model class)) ∙ out-roll-Node (of.Extent model class)))

pub no_query : (names : List ℕ) (e : Typed) → IsPlain names e → (q : ℕ) → ¬ CallsQuery e q
no_query names e plain q (ty, args, within) =
    true≢false (sym (plain (record { ty = ty; node = nodes.Query q args }) within) ∙ ap (plain_layer names) (ap out-Node (sym (nodes.rolls-Query q args)) ∙ out-roll-Node (of.Query q args)))

pub storable_text : (names : List ℕ) (e : Typed) → IsPlain names e → (ty : Ty) (s : List ℕ) → IsWithin e (record { ty = ty; node = nodes.Str s }) → IsTrue (is_storable_text s)
storable_text names e plain ty s within = subst (λ d. plain_layer names d ≡ true) (out_text s) (plain (record { ty = ty; node = nodes.Str s }) within)
