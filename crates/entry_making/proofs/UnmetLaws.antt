-- An entry is unmet at the place that is found by numbers.
use Rattle.std.specs.Prelude.{◌≡◌, ◌&&◌, ◌++◌, not, ℕ, suc, Bool, true, false, List, [], ◌∷◌, Option, None, Some, is_none, if◌then◌else◌}
use Rattle.std.specs.List.{list_any}
use Rattle.std.specs.Option.{option_map, option_or}
use Rattle.std.proofs.Common.{refl, sym, ap, ◌∙◌}
use Rattle.object_tables.specs.Models.{ModelData}
use Rattle.qv_syntax.specs.declared.program.Program.{Program}
use Rattle.qv_syntax.specs.declared.program.Rel.{Rel}
use Rattle.qv_syntax.specs.declared.program.Conj.{Conj}
use Rattle.qv_syntax.specs.declared.program.Conj.TheVariants as conjuncts
use Rattle.qv_syntax.specs.declared.typed.Typed.{Typed}
use Rattle.repair_semantics.specs.declared.term.Term.{Term}
use Rattle.repair_semantics.specs.declared.entry.Place.{Place}
use Rattle.repair_semantics.specs.declared.entry.Place.TheVariants as places
use Rattle.repair_semantics.specs.EntryValues.{Known, is_target_alone}
use Rattle.repair_semantics.specs.TargetItems.{Content, TargetItem, target_items}
use Rattle.repair_semantics.specs.Unmet.{is_lacking, is_content_lacking, item_places, is_conjunct_unmet, conjunct_places, first_place, unmet_at}
use Rattle.term_table.specs.declared.numbered.NumberedValue.{NumberedValue}
use Rattle.term_table.specs.TermTables.{value_in}
use Rattle.entry_making.specs.declared.numbered_known.NumberedKnown.{NumberedKnown}
use Rattle.entry_making.specs.Givers.{expression_giver}
use Rattle.entry_making.specs.Numbered.{known_of, giver_number}
use Rattle.entry_making.specs.UnmetNumbers.{lacks, content_lacks, unmet_item, any_lacks, fails, unmet_conjunct}
use Rattle.entry_making.proofs.KeyedLaws.{expression_given}
use Rattle.entry_making.proofs.DecodedLaws.{giver_shown}

module _ (program : Program) (models : List ModelData) (rel : Rel) (terms : List Term) (k : NumberedKnown) where
  abbrev all : Known
  all = known_of terms k

  none_same : (o : Option NumberedValue) → is_none (option_map (value_in terms) o) ≡ is_none o
  none_same None = refl
  none_same (Some x) = refl

  lacking_is : (e : Typed) → is_lacking program models rel all e ≡ lacks program models rel k e
  lacking_is e =
      ap (λ b. not (is_target_alone program rel e) && b)
      (ap is_none (expression_given program models all e ∙ sym (giver_shown program models terms k.values k.scope (expression_giver e))) ∙ none_same (giver_number program models k.values k.scope (expression_giver e)))

  content_is : (c : Content) → is_content_lacking program models rel all c ≡ content_lacks program models rel k c
  content_is Content.empty = refl
  content_is (Content.expression e) = lacking_is e
  content_is (Content.template v) = refl

  any_is : (es : List Typed) → list_any (is_lacking program models rel all) es ≡ any_lacks program models rel k es
  any_is [] = refl
  any_is (e ∷ es) = rw (lacking_is e, any_is es) refl

  fails_is : (c : Conj) → is_conjunct_unmet program models rel all c ≡ fails program models rel k c
  fails_is (conjuncts.Cond e) = refl
  fails_is (conjuncts.Equation v e) = refl
  fails_is (conjuncts.Call number args) = any_is args

  first_item_place : (items : List TargetItem) (rest : List Place) → first_place (item_places program models rel all items ++ rest) ≡ option_or (unmet_item program models rel k items) (first_place rest)
  first_item_place [] rest = refl
  first_item_place (item ∷ items) rest =
      ap (λ b. first_place ((if b then places.Item item.prop ∷ item_places program models rel all items else item_places program models rel all items) ++ rest)) (content_is item.content)
      ∙ by (content_lacks program models rel k item.content) (first_item_place items rest)
    where
      by : (b : Bool) → first_place (item_places program models rel all items ++ rest) ≡ option_or (unmet_item program models rel k items) (first_place rest)
          → first_place ((if b then places.Item item.prop ∷ item_places program models rel all items else item_places program models rel all items) ++ rest)
          ≡ option_or (if b then Some (places.Item item.prop) else unmet_item program models rel k items) (first_place rest)
      by true h = refl
      by false h = h

  first_conjunct_place : (before : ℕ) (cs : List Conj) → first_place (conjunct_places program models rel all before cs) ≡ unmet_conjunct program models rel k before cs
  first_conjunct_place before [] = refl
  first_conjunct_place before (c ∷ cs) =
      ap (λ b. first_place (if b then places.Where (suc before) ∷ conjunct_places program models rel all (suc before) cs else conjunct_places program models rel all (suc before) cs)) (fails_is c)
      ∙ by (fails program models rel k c) (first_conjunct_place (suc before) cs)
    where
      by : (b : Bool) → first_place (conjunct_places program models rel all (suc before) cs) ≡ unmet_conjunct program models rel k (suc before) cs
          → first_place (if b then places.Where (suc before) ∷ conjunct_places program models rel all (suc before) cs else conjunct_places program models rel all (suc before) cs)
          ≡ (if b then Some (places.Where (suc before)) else unmet_conjunct program models rel k (suc before) cs)
      by true h = refl
      by false h = h

  unmet_is : unmet_at program models rel all ≡ option_or (unmet_item program models rel k (target_items program rel)) (unmet_conjunct program models rel k 0 rel.wheres)
  unmet_is =
      first_item_place (target_items program rel) (conjunct_places program models rel all 0 rel.wheres)
      ∙ ap (option_or (unmet_item program models rel k (target_items program rel))) (first_conjunct_place 0 rel.wheres)

  -- the entry is unmet at an item
  pub at_item : (items : List TargetItem) (p : Place) → items ≡ target_items program rel → Some p ≡ unmet_item program models rel k items → Some p ≡ unmet_at program models rel all
  at_item items p same is =
      ap (λ o. option_or o (unmet_conjunct program models rel k 0 rel.wheres)) (is ∙ ap (unmet_item program models rel k) same) ∙ sym unmet_is

  -- no item lacks its value, so it is unmet where a conjunct is
  pub at_conjunct : (items : List TargetItem) (o : Option Place) → items ≡ target_items program rel → None ≡ unmet_item program models rel k items
      → o ≡ unmet_conjunct program models rel k 0 rel.wheres → o ≡ unmet_at program models rel all
  at_conjunct items o same none is =
      is ∙ ap (λ q. option_or q (unmet_conjunct program models rel k 0 rel.wheres)) (none ∙ ap (unmet_item program models rel k) same) ∙ sym unmet_is
