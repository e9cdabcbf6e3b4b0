-- The place at which an entry is unmet, and what its items demand, by the numbers of terms.
use Rattle.std.specs.Prelude.{ℕ, suc, Bool, true, false, ◌&&◌, not, List, [], ◌∷◌, map, Option, None, Some, is_none, slice_index_or, if◌then◌else◌}
use Rattle.std.specs.List.{list_any, flat_map}
use Rattle.std.specs.Option.{option_and_then, option_to_list}
use Rattle.object_tables.specs.Models.{ModelData}
use Rattle.qv_syntax.specs.declared.program.Program.{Program}
use Rattle.qv_syntax.specs.declared.program.Rel.{Rel}
use Rattle.qv_syntax.specs.declared.program.Conj.{Conj}
use Rattle.qv_syntax.specs.declared.program.Conj.TheVariants as conjuncts
use Rattle.qv_syntax.specs.declared.typed.Typed.{Typed}
use Rattle.qvtr_semantics.specs.Outs.{datum_of, boolean_of}
use Rattle.qvtr_semantics.specs.Equality.{is_known_true}
use Rattle.qvtr_semantics.specs.Expressions.{value}
use Rattle.repair_semantics.specs.declared.entry.Place.{Place}
use Rattle.repair_semantics.specs.declared.entry.Place.TheVariants as places
use Rattle.repair_semantics.specs.EntryValues.{is_target_alone}
use Rattle.repair_semantics.specs.TargetItems.{Content, TargetItem}
use Rattle.entry_making.specs.declared.numbered_known.NumberedKnown.{NumberedKnown}
use Rattle.entry_making.specs.Givers.{expression_giver}
use Rattle.entry_making.specs.Numbered.{giver_number}

-- the value is null or invalid; of a variable of the target it never is
abbrev pub lacks : Program → List ModelData → Rel → NumberedKnown → Typed → Bool
lacks program models rel k e = not (is_target_alone program rel e) && is_none (giver_number program models k.values k.scope (expression_giver e))

abbrev pub content_lacks : Program → List ModelData → Rel → NumberedKnown → Content → Bool
content_lacks program models rel k Content.empty = true
content_lacks program models rel k (Content.expression e) = lacks program models rel k e
content_lacks program models rel k (Content.template v) = false

-- the first item that lacks its value
abbrev pub unmet_item : Program → List ModelData → Rel → NumberedKnown → List TargetItem → Option Place
unmet_item program models rel k [] = None
unmet_item program models rel k (item ∷ items) = if content_lacks program models rel k item.content then Some (places.Item item.prop) else unmet_item program models rel k items

abbrev pub any_lacks : Program → List ModelData → Rel → NumberedKnown → List Typed → Bool
any_lacks program models rel k es = list_any (lacks program models rel k) es

-- a condition isn't true, or an equation or an argument lacks its value
abbrev pub fails : Program → List ModelData → Rel → NumberedKnown → Conj → Bool
fails program models rel k (conjuncts.Cond e) = not (is_known_true (boolean_of (value program models e k.scope)))
fails program models rel k (conjuncts.Equation v e) = is_none (datum_of (value program models e k.scope))
fails program models rel k (conjuncts.Call number args) = any_lacks program models rel k args

-- the first conjunct that fails, of which so many stand before these
abbrev pub unmet_conjunct : Program → List ModelData → Rel → NumberedKnown → ℕ → List Conj → Option Place
unmet_conjunct program models rel k before [] = None
unmet_conjunct program models rel k before (c ∷ cs) = if fails program models rel k c then Some (places.Where (suc before)) else unmet_conjunct program models rel k (suc before) cs
