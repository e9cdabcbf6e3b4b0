-- Where the names of a script are in order its models and its relations have distinct names, so that tables of them have each one's place.
use Rattle.std.proofs.Common.{◌≡◌, ℕ, zero, suc, ◌+◌, List, [], ◌∷◌, ◌++◌, cond, refl, sym, ◌∙◌, ap, subst, map, length, arith, append_assoc, append-nil}
use Rattle.std.specs.Prelude.{Option, Some, None, is_some, slice_get}
use Rattle.std.proofs.lemmas.Option.{none-some}
use Rattle.std.proofs.lemmas.List.{map-append}
use Rattle.mof_metamodel.specs.NameTables.{NamesWith, value_of, with_value}
use Rattle.qv_syntax.specs.declared.script.ModelTree.{ModelTree}
use Rattle.qv_syntax.specs.declared.script.Script.{Script}
use Rattle.script_scopes.specs.ScriptNames.{model_names}
use Rattle.script_scopes.specs.Environments.{metamodel_names, slot_of, slots_of}
use Rattle.script_scopes.specs.Declarations.{IsRepeated, relation_names, queries_of}
use Rattle.script_scopes.specs.Refusals.{AreInOrder}
use Rattle.script_scopes.specs.FirstEntries.{with_first, entries_onto, first_entries}
use Rattle.script_scopes.specs.VariableTypes.{metamodel_numbers}
use Rattle.script_scopes.proofs.MemberLemmas.{to_map}
use Rattle.script_scopes.proofs.OnceLemmas.{get_at}
use Rattle.script_scopes.proofs.RepeatLemmas.{at_left}
use Rattle.script_variables.proofs.FirstEntryLemmas.{value_among}

abbrev Names : Type 0
Names = List (List ℕ)

-- ---- parts of lists

get_left : (xs ys : Names) (k : ℕ) (x : List ℕ) → slice_get xs k ≡ Some x → slice_get (xs ++ ys) k ≡ Some x
get_left [] ys k x h = absurd (none-some x h)
get_left (w ∷ xs) ys zero x h = h
get_left (w ∷ xs) ys (suc k) x h = get_left xs ys k x h

get_right : (xs ys : Names) (k : ℕ) (x : List ℕ) → slice_get ys k ≡ Some x → (j : ℕ) × (j ≡ length xs + k) × (slice_get (xs ++ ys) j ≡ Some x)
get_right [] ys k x h = (k, omega arith, h)
get_right (w ∷ xs) ys k x h = let (j, e, g) = get_right xs ys k x h in (suc j, omega (arith, e), g)

pub repeated_left : (xs ys : Names) (n : List ℕ) → IsRepeated xs n → IsRepeated (xs ++ ys) n
repeated_left xs ys n h = record { first = h.first; second = h.second; order = h.order; one = get_left xs ys h.first n h.one; other = get_left xs ys h.second n h.other }

repeated_right : (xs ys : Names) (n : List ℕ) → IsRepeated ys n → IsRepeated (xs ++ ys) n
repeated_right xs ys n h =
    let (i, at, one) = get_right xs ys h.first n h.one in
    let (j, is, other) = get_right xs ys h.second n h.other in
    record { first = i; second = j; order = omega (arith, at, is, h.order); one = one; other = other }

module _ (script : Script) (target : List ℕ) (order : AreInOrder script target) where
  abbrev models : Names
  models = model_names script.models

  abbrev metas : Names
  metas = metamodel_names script

  abbrev queries : Names
  queries = map (λ q. q.name.text) (queries_of script)

  pub models_once : (n : List ℕ) → ¬ IsRepeated models n
  models_once n h = order.distinct n (repeated_left (models ++ metas ++ relation_names script) queries n (repeated_left (models ++ metas) (relation_names script) n (repeated_left models metas n h)))

  pub relations_once : (n : List ℕ) → ¬ IsRepeated (relation_names script) n
  relations_once n h = order.distinct n (repeated_left (models ++ metas ++ relation_names script) queries n (repeated_right (models ++ metas) (relation_names script) n h))

-- ---- tables of distinct names

module _ {X : Type 0} where
  abbrev keys : NamesWith X → Names
  keys es = map {A = List ℕ × X} {B = List ℕ} (λ e. e.0) es

  new_entry : (es ps : NamesWith X) (p : List ℕ × X) → ¬ IsRepeated (keys (es ++ p ∷ ps)) p.0 → with_first es p.0 p.1 ≡ es ++ p ∷ []
  new_entry es ps p once = by (value_of es p.0) refl
    where
      twice : (x : X) → value_of es p.0 ≡ Some x → IsRepeated (keys (es ++ p ∷ ps)) p.0
      twice x found =
          let (k, l, at) = to_map {X = List ℕ × X} {Y = List ℕ} (λ e. e.0) es (p.0, x) (value_among es p.0 x found) in
          subst (λ (ns : Names). IsRepeated ns p.0) (sym (map-append {A = List ℕ × X} {B = List ℕ} (λ e. e.0) es (p ∷ ps)))
          (record { first = k; second = length (keys es); order = l; one = at_left (keys es) (p.0 ∷ keys ps) k p.0 l at; other = get_at (keys es) p.0 (keys ps) })

      by : (o : Option X) → value_of es p.0 ≡ o → with_first es p.0 p.1 ≡ es ++ p ∷ []
      by None e = ap (λ (o : Option X). cond (is_some o) es (with_value es p.0 p.1)) e
      by (Some x) e = absurd (once (twice x e))

  onto_distinct : (es ps : NamesWith X) → ((n : List ℕ) → ¬ IsRepeated (keys (es ++ ps)) n) → entries_onto es ps ≡ es ++ ps
  onto_distinct es [] once = sym (append-nil es)
  onto_distinct es (p ∷ ps) once =
      ap (λ (fs : NamesWith X). entries_onto fs ps) (new_entry es ps p (once p.0))
      ∙ onto_distinct (es ++ p ∷ []) ps (λ n. subst (λ (fs : NamesWith X). ¬ IsRepeated (keys fs) n) (sym (append_assoc es (p ∷ []) ps)) (once n))
      ∙ append_assoc es (p ∷ []) ps

  pub distinct_entries : (ps : NamesWith X) → ((n : List ℕ) → ¬ IsRepeated (keys ps) n) → first_entries ps ≡ ps
  distinct_entries ps once = onto_distinct [] ps once

numbers_named : (script : Script) (ms : List ModelTree) → map {A = List ℕ × ℕ} {B = List ℕ} (λ e. e.0) (metamodel_numbers (map (slot_of script) ms)) ≡ model_names ms
numbers_named script [] = refl
numbers_named script (m ∷ ms) = ap (λ (ns : Names). m.name.text ∷ ns) (numbers_named script ms)

pub model_numbers : (script : Script) (target : List ℕ) → AreInOrder script target → map {A = List ℕ × ℕ} {B = List ℕ} (λ e. e.0) (first_entries (metamodel_numbers (slots_of script))) ≡ model_names script.models
model_numbers script target order =
    ap (map {A = List ℕ × ℕ} {B = List ℕ} (λ e. e.0)) (distinct_entries (metamodel_numbers (slots_of script)) (λ n. subst (λ (ns : Names). ¬ IsRepeated ns n) (sym (numbers_named script script.models)) (models_once script target order n)))
    ∙ numbers_named script script.models
