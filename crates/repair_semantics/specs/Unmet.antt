-- Where an entry can't be fulfilled: an item, an equation or an argument of a call in its where clause has a value that is null or invalid,
-- or a condition there isn't true (QVT 1.3, sections 7.2.3 and 7.10.1; that such an entry is refused is this engine's own).
use Rattle.std.specs.Prelude.{ℕ, suc, Bool, true, false, ◌&&◌, not, List, [], ◌∷◌, ◌++◌, Option, None, Some, is_none, is_some, if◌then◌else◌}
use Rattle.std.specs.List.{list_any}
use Rattle.object_tables.specs.Models.{ModelData}
use Rattle.qv_syntax.specs.declared.program.Program.{Program}
use Rattle.qv_syntax.specs.declared.program.Rel.{Rel}
use Rattle.qv_syntax.specs.declared.program.Conj.{Conj}
use Rattle.qv_syntax.specs.declared.program.Conj.TheVariants as conjuncts
use Rattle.qv_syntax.specs.declared.typed.Typed.{Typed}
use Rattle.qvtr_semantics.specs.Outs.{datum_of, boolean_of}
use Rattle.qvtr_semantics.specs.Equality.{is_known_true}
use Rattle.qvtr_semantics.specs.Expressions.{value}
use Rattle.repair_semantics.specs.declared.entry.Place.{Place}
use Rattle.repair_semantics.specs.declared.entry.Place.TheVariants as places
use Rattle.repair_semantics.specs.EntryValues.{Known, given_value, is_target_alone}
use Rattle.repair_semantics.specs.TargetItems.{Content, TargetItem, target_items}

-- the value is null or invalid; of a variable of the target it never is
abbrev pub is_lacking : Program → List ModelData → Rel → Known → Typed → Bool
is_lacking program models rel k e = not (is_target_alone program rel e) && is_none (given_value program models k e)

-- the item's own value is null or invalid; that of a template within never is
abbrev pub is_content_lacking : Program → List ModelData → Rel → Known → Content → Bool
is_content_lacking program models rel k Content.empty = true
is_content_lacking program models rel k (Content.expression e) = is_lacking program models rel k e
is_content_lacking program models rel k (Content.template v) = false

-- the places of items that lack their values
abbrev pub item_places : Program → List ModelData → Rel → Known → List TargetItem → List Place
item_places program models rel k [] = []
item_places program models rel k (item ∷ items) =
    if is_content_lacking program models rel k item.content then places.Item item.prop ∷ item_places program models rel k items else item_places program models rel k items

-- a condition isn't true, or an equation or an argument lacks its value
abbrev pub is_conjunct_unmet : Program → List ModelData → Rel → Known → Conj → Bool
is_conjunct_unmet program models rel k (conjuncts.Cond e) = not (is_known_true (boolean_of (value program models e k.scope)))
is_conjunct_unmet program models rel k (conjuncts.Equation v e) = is_none (datum_of (value program models e k.scope))
is_conjunct_unmet program models rel k (conjuncts.Call number args) = list_any (is_lacking program models rel k) args

-- conjuncts are counted from 1, of which so many stand before these
abbrev pub conjunct_places : Program → List ModelData → Rel → Known → ℕ → List Conj → List Place
conjunct_places program models rel k before [] = []
conjunct_places program models rel k before (c ∷ cs) =
    if is_conjunct_unmet program models rel k c then places.Where (suc before) ∷ conjunct_places program models rel k (suc before) cs
    else conjunct_places program models rel k (suc before) cs

-- the first of some places
abbrev pub first_place : List Place → Option Place
first_place [] = None
first_place (p ∷ ps) = Some p

-- the places in text order at which an entry of the relation is unmet, of which the target template has these items: items, then conjuncts of the where clause
abbrev pub unmet_places : Program → List ModelData → Rel → Known → List TargetItem → List Place
unmet_places program models rel k items = item_places program models rel k items ++ conjunct_places program models rel k 0 rel.wheres

-- the first place at which an entry of the relation is unmet in which so much is known
abbrev pub unmet_at : Program → List ModelData → Rel → Known → Option Place
unmet_at program models rel k = first_place (unmet_places program models rel k (target_items program rel))

-- the entry is unmet
abbrev pub is_unmet : Program → List ModelData → Rel → Known → Bool
is_unmet program models rel k = is_some (unmet_at program models rel k)
