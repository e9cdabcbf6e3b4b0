-- A variable has at most one template, so that the variable of a domain's template is none of the templates within it.
use Rattle.std.specs.Prelude.{◌≡◌, ◌≢◌, ◌+◌, ℕ, zero, suc, List, [], ◌∷◌, ◌++◌, map, length, Some, slice_index_or, Contains, AllPairs}
use Rattle.std.specs.List.{flat_map}
use Rattle.std.specs.Option.{option_map_or}
use Rattle.std.proofs.Common.{sym, ap, ◌∙◌, subst, arith}
use Rattle.std.proofs.lemmas.List.{length-append, get_or_append_left, get_or-append-add}
use Rattle.mof_metamodel.specs.declared.desc.PropId.{PropId}
use Rattle.mof_metamodel.proofs.Facts.{contains_first, contains_map}
use Rattle.mof_metamodel.proofs.PropLemmas.{to_flat_map}
use Rattle.qv_syntax.specs.declared.program.Program.{Program}
use Rattle.qv_syntax.specs.declared.program.Rel.{Rel}
use Rattle.qv_syntax.specs.declared.program.Dom.{Dom}
use Rattle.qv_syntax.specs.declared.program.Tmpl.{Tmpl, out-Tmpl, fold-roll-Tmpl, roll-out-Tmpl}
use Rattle.qv_syntax.specs.declared.program.Item.{Item, fold-Item, fold-roll-Item}
use Rattle.qv_syntax.specs.declared.program.ItemValue.{ItemValue, fold-ItemValue, fold-roll-ItemValue}
use Rattle.qv_syntax.specs.declared.program.ItemValue.TheVariants as items
use Rattle.qv_syntax.specs.declared.program.ItemValue.TheOpen as layers
use Rattle.qv_syntax.specs.Parts.{IsNested, HasItem, value_variables, item_variables, template_step, template_variables}
use Rattle.qv_syntax.specs.Directions.{domain_variables, HasDomains}
use Rattle.template_match.proofs.ListLaws.{contains_later}
use Rattle.reading_laws.proofs.MeetingPlaces.{joined}

-- ---- lists whose elements are apart

module _ {X : Type 0} (R : X → X → Type 0) where
  left_apart : (xs ys : List X) → AllPairs R (xs ++ ys) → AllPairs R xs
  left_apart xs ys apart i j d less within =
      let many : length (xs ++ ys) ≡ length xs + length ys = length-append xs ys in
      subst (λ y. R (slice_index_or xs i d) y) (get_or_append_left xs ys d j within)
      (subst (λ x. R x (slice_index_or (xs ++ ys) j d)) (get_or_append_left xs ys d i (omega (arith, less, within)))
      (apart i j d less (omega (arith, within, many))))

  right_apart : (xs ys : List X) → AllPairs R (xs ++ ys) → AllPairs R ys
  right_apart xs ys apart i j d less within =
      let many : length (xs ++ ys) ≡ length xs + length ys = length-append xs ys in
      subst (λ y. R (slice_index_or ys i d) y) (get_or-append-add xs ys j d)
      (subst (λ x. R x (slice_index_or (xs ++ ys) (length xs + j) d)) (get_or-append-add xs ys i d)
      (apart (length xs + i) (length xs + j) d (omega (arith, less)) (omega (arith, within, many))))

  part_apart : {Y : Type 0} (f : Y → List X) (ys : List Y) (y : Y) → Contains ys y → AllPairs R (flat_map f ys) → AllPairs R (f y)
  part_apart f [] y (i, below, is) apart = absurd (omega (arith, below))
  part_apart f (z ∷ ys) y (zero, below, is) apart = subst (λ w. AllPairs R (f w)) is (left_apart (f z) (flat_map f ys) apart)
  part_apart f (z ∷ ys) y (suc i, below, is) apart = part_apart f ys y (i, omega (arith, below), is) (right_apart (f z) (flat_map f ys) apart)

  first_apart : (x y : X) (xs : List X) → AllPairs R (x ∷ xs) → Contains xs y → R x y
  first_apart x y xs apart (i, below, is) = subst (R x) is (apart 0 (suc i) y (omega arith) (omega (arith, below)))

-- ---- the variables of a template, form by form

abbrev names_of_item : Item → List ℕ
names_of_item = fold-Item (List ℕ) (List ℕ) (List ℕ) value_variables item_variables template_step

abbrev names_of_value : ItemValue → List ℕ
names_of_value = fold-ItemValue (List ℕ) (List ℕ) (List ℕ) value_variables item_variables template_step

-- those of the templates within it
abbrev variables_within : Tmpl → List ℕ
variables_within t = flat_map (λ vs. vs) (map names_of_item (out-Tmpl t).items)

variables_are : (t : Tmpl) → template_variables t ≡ (out-Tmpl t).var ∷ variables_within t
variables_are t =
    ap template_variables (sym (roll-out-Tmpl t))
    ∙ fold-roll-Tmpl (List ℕ) (List ℕ) (List ℕ) value_variables item_variables template_step (out-Tmpl t)

nested_names : (prop : PropId) (part : Tmpl) → names_of_item (record { prop = prop; value = items.Nested part }) ≡ template_variables part
nested_names prop part =
    fold-roll-Item (List ℕ) (List ℕ) (List ℕ) value_variables item_variables template_step (record { prop = prop; value = items.Nested part })
    ∙ ap names_of_value (sym (items.rolls-Nested part))
    ∙ fold-roll-ItemValue (List ℕ) (List ℕ) (List ℕ) value_variables item_variables template_step (layers.Nested part)

part_within : (root : Tmpl) (prop : PropId) (part : Tmpl) (v : ℕ) → HasItem root (record { prop = prop; value = items.Nested part })
    → Contains (template_variables part) v → Contains (variables_within root) v
part_within root prop part v has there =
    let item : Item = record { prop = prop; value = items.Nested part } in
    to_flat_map (λ vs. vs) (map names_of_item (out-Tmpl root).items) (names_of_item item) v
    (contains_map names_of_item (out-Tmpl root).items item has)
    (subst (λ vs. Contains vs v) (sym (nested_names prop part)) there)

nested_listed : (root t : Tmpl) → IsNested root t → Contains (template_variables root) (out-Tmpl t).var
nested_listed root t (IsNested.whole _) =
    subst (λ vs. Contains vs (out-Tmpl root).var) (sym (variables_are root)) (contains_first (out-Tmpl root).var (variables_within root))
nested_listed root t (IsNested.inside _ prop part _ has nested) =
    subst (λ vs. Contains vs (out-Tmpl t).var) (sym (variables_are root))
    (contains_later (out-Tmpl t).var (out-Tmpl root).var (variables_within root)
    (part_within root prop part (out-Tmpl t).var has (nested_listed part t nested)))

-- a template that is the value of an item stands within
value_within : (root t : Tmpl) → IsNested root t → (item : Item) (part : Tmpl) → HasItem t item → item.value ≡ items.Nested part
    → Contains (variables_within root) (out-Tmpl part).var
value_within root t (IsNested.whole _) item part has is =
    part_within root item.prop part (out-Tmpl part).var (subst (λ v. HasItem root (record { prop = item.prop; value = v })) is has)
    (nested_listed part part (IsNested.whole part))
value_within root t (IsNested.inside _ prop next _ there nested) item part has is =
    part_within root prop next (out-Tmpl part).var there (nested_listed next part (joined next t part nested item has is))

-- ---- the template of a domain

abbrev AreTwo : ℕ → ℕ → Type 0
AreTwo v w = v ≢ w

pub root_apart : (program : Program) (rel : Rel) → HasDomains program rel → (dom : Dom) → Contains rel.domains dom → (root t part : Tmpl)
    → dom.template ≡ Some root → IsNested root t
    → (item : Item) → HasItem t item → item.value ≡ items.Nested part → (out-Tmpl root).var ≢ (out-Tmpl part).var
root_apart program rel domains dom there root t part has nested item has_item is =
    first_apart AreTwo (out-Tmpl root).var (out-Tmpl part).var (variables_within root)
    (subst (AllPairs AreTwo) (ap (λ o. option_map_or template_variables o []) has ∙ variables_are root)
    (part_apart AreTwo domain_variables rel.domains dom there domains.templates))
    (value_within root t nested item part has_item is)
