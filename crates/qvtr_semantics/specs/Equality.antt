-- When two values are equal (OCL 2.4, sections 11.3.1 and 11.7.1): objects where they are one object, collections where their kinds and
-- their contents agree, null to null alone; to invalid nothing is equal or unequal.
use Rattle.std.specs.Prelude.{Bool, true, false, ◌&&◌, not, List, [], ◌∷◌, Option, None, Some}
use Rattle.std.specs.List.{list_all}
use Rattle.std.specs.Option.{option_map}
use Rattle.std.specs.Cmp.Lexicographic.{pointwise}
use Rattle.qv_syntax.specs.declared.type_tree.Kind.{Kind}
use Rattle.qv_syntax.specs.declared.type_tree.Kind.TheVariants.{Set, Bag, Sequence, OrderedSet}
use Rattle.qvtr_semantics.specs.declared.out.Out.{Out}
use Rattle.qvtr_semantics.specs.declared.out.Out.TheVariants as outs
use Rattle.qvtr_semantics.specs.Data.{same_datum}

abbrev pub same_kind : Kind → Kind → Bool
same_kind Set Set = true
same_kind Bag Bag = true
same_kind Sequence Sequence = true
same_kind OrderedSet OrderedSet = true
same_kind k l = false

-- Sets and Bags stand in value order, so that equal contents are equal lists
abbrev pub equal : Out → Out → Option Bool
equal outs.Invalid y = None
equal x outs.Invalid = None
equal outs.Null outs.Null = Some true
equal (outs.One d) (outs.One e) = Some (same_datum d e)
equal (outs.Many k ds) (outs.Many l es) = Some (same_kind k l && pointwise same_datum ds es)
equal x y = Some false

abbrev pub unequal : Out → Out → Option Bool
unequal x y = option_map not (equal x y)

-- the value is neither null nor invalid
abbrev pub is_defined : Out → Bool
is_defined (outs.One d) = true
is_defined (outs.Many k ds) = true
is_defined outs.Null = false
is_defined outs.Invalid = false

abbrev pub is_known_true : Option Bool → Bool
is_known_true None = false
is_known_true (Some b) = b

-- no two of the list are equal
abbrev pub all_differ : List Out → Bool
all_differ [] = true
all_differ (x ∷ xs) = list_all (λ y. is_known_true (unequal x y)) xs && all_differ xs
