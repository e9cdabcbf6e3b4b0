-- The classes of the existential variables of a target template.
use Rattle.std.proofs.Common.{◌≡◌, ℕ, ◌+◌, ◌<◌, ◌≤◌, List, [], ◌∷◌, ◌++◌, Bool, true, false, cond, None, refl, sym, ap, ◌∙◌, arith, length, get_or, take, inl, inr}
use Rattle.std.specs.List.{flat_map, filter, filter_map}
use Rattle.std.specs.Option.{option_and_then, option_to_list}
use Rattle.std.proofs.lemmas.Bool.{cases_lt}
use Rattle.std.proofs.lemmas.List.{flat_map_more, take_more}
use Rattle.std.proofs.lemmas.Option.{slice_get_past}
use Rattle.mof_metamodel.specs.Tables.{table}
use Rattle.qv_syntax.specs.declared.program.Program.{Program}
use Rattle.qv_syntax.specs.declared.program.Rel.{Rel}
use Rattle.qv_syntax.specs.declared.program.Var.{Var}
use Rattle.qvtr_semantics.specs.Objects.{is_number_among}
use Rattle.repair_semantics.specs.TargetItems.{class_in, class_of_variable, nested_variables}
use Rattle.repair_semantics.specs.Deletions.{root_if_top, managed_variables, classes_in}
use Rattle.template_match.specs.Marks.{is_marked}
use Rattle.staying_objects.specs.Classes.{class_if, classes_among}
use Rattle.template_match.proofs.MarkLaws.{is_marked-table}
use Rattle.staying_objects.proofs.NestedLaws.{put_first}

module _ (rel : Rel) where
  abbrev existential : ℕ → Bool
  existential v = is_number_among v rel.existential

  abbrev marks : List Bool
  marks = table existential (length rel.vars)

  -- past the variables of the relation there is no class
  no_class : (v : ℕ) → length rel.vars ≤ v → class_of_variable rel v ≡ None
  no_class v past = ap (option_and_then (λ (var : Var). class_in var.ty)) (slice_get_past rel.vars v past)

  nothing : (b : Bool) → cond b (option_to_list {X = ℕ} None) [] ≡ []
  nothing true = refl
  nothing false = refl

  same_class : (v : ℕ) → class_if rel marks v ≡ cond (existential v) (option_to_list (class_of_variable rel v)) []
  same_class v = elim (cases_lt v (length rel.vars)) [
    | inl l ↦ ap (λ b. cond b (option_to_list (class_of_variable rel v)) []) (is_marked-table existential (length rel.vars) v l)
    | inr past ↦
        ap (λ o. cond (is_marked marks v) (option_to_list o) []) (no_class v past) ∙ nothing (is_marked marks v)
        ∙ sym (ap (λ o. cond (existential v) (option_to_list o) []) (no_class v past) ∙ nothing (existential v))
  ]

  kept_first : (b : Bool) (v : ℕ) (vs : List ℕ) → filter_map (class_of_variable rel) (cond b (v ∷ vs) vs)
      ≡ cond b (option_to_list (class_of_variable rel v)) [] ++ filter_map (class_of_variable rel) vs
  kept_first true v vs = put_first (class_of_variable rel v) (filter_map (class_of_variable rel) vs)
  kept_first false v vs = refl

  -- the marks of the existential variables give the classes of those
  classes_by_marks : (vs : List ℕ) → classes_among rel marks vs ≡ filter_map (class_of_variable rel) (filter existential vs)
  classes_by_marks [] = refl
  classes_by_marks (v ∷ vs) =
      ap (λ cs. cs ++ classes_among rel marks vs) (same_class v)
      ∙ ap (λ cs. cond (existential v) (option_to_list (class_of_variable rel v)) [] ++ cs) (classes_by_marks vs)
      ∙ sym (kept_first (existential v) v (filter existential vs))

-- the classes of a relation of the direction
pub classes_of_relation : (program : Program) (rel : Rel) (marked : List Bool) (variables : List ℕ) → rel.in_direction ≡ true
    → marked ≡ table (λ v. is_number_among v rel.existential) (length rel.vars)
    → variables ≡ root_if_top program rel ++ nested_variables program rel
    → classes_among rel marked variables ≡ classes_in program rel (nested_variables program rel)
classes_of_relation program rel marked variables direction marks_are variables_are =
    ap (λ ms. classes_among rel ms variables) marks_are
    ∙ classes_by_marks rel variables
    ∙ ap (λ vs. filter_map (class_of_variable rel) (filter (λ v. is_number_among v rel.existential) vs)) variables_are
    ∙ sym (ap (λ b. cond b (filter_map (class_of_variable rel) (managed_variables program rel (nested_variables program rel))) []) direction)

-- ---- relations

abbrev classes_of : Program → Rel → List ℕ
classes_of program rel = classes_in program rel (nested_variables program rel)

-- one relation more
pub relations_more : (program : Program) (rels items : List Rel) (i : ℕ) (rel : Rel) (before after : List ℕ) → items ≡ rels → i < length items
    → rel ≡ get_or items i rel
    → before ≡ flat_map (λ x. classes_in program x (nested_variables program x)) (take i rels)
    → after ≡ before ++ classes_in program rel (nested_variables program rel)
    → after ≡ flat_map (λ x. classes_in program x (nested_variables program x)) (take (i + 1) rels)
relations_more program rels items i rel before after same within is before_is after_is =
    let long = ap length same in
    let inside : i < length rels = omega (arith, within, long) in
    after_is ∙ ap (λ cs. cs ++ classes_of program rel) before_is
    ∙ flat_map_more (classes_of program) [] (take i rels) rel
    ∙ ap (flat_map (classes_of program))
    (sym (take_more rels i rel inside ∙ ap (λ y. take i rels ++ y ∷ []) (sym (is ∙ ap (λ xs. get_or xs i rel) same))))
