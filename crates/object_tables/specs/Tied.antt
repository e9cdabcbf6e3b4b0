-- How the tables of a model are tied to its metamodel. The first two places of an object are the far ends of references without
-- an opposite, the first of composite ones and the second of others; then one place for each property of its class follows.
use Rattle.std.specs.Prelude.{◌≡◌, ℕ, suc, ◌<◌, ◌≤◌, ◌^◌, false, if◌then◌else◌, nat_lt, List, length, count_by, Option, None, Some, is_some, option_map, encode_utf8_all, Contains}
use Rattle.mof_metamodel.specs.declared.desc.MetaDesc.{MetaDesc}
use Rattle.mof_metamodel.specs.Metamodels.{class_count, class_at, props_of, prop_at, opposite_of}
use Rattle.mof_metamodel.specs.WellMeta.{WellMeta}
use Rattle.object_tables.specs.declared.limit.TheConstants.{MAX_ADDED}
use Rattle.object_tables.specs.declared.tables.Named.{Named}
use Rattle.object_tables.specs.Rows.{Row, row_at, joined_at}
use Rattle.object_tables.specs.Models.{index_of, slot_number}

-- the place of an object's property
abbrev pub near : MetaDesc → ℕ → ℕ → ℕ
near meta class p = suc (suc (slot_number meta class p))

-- the far end of a reference without an opposite
abbrev pub nameless : MetaDesc → ℕ → ℕ
nameless meta p = if (prop_at meta p).composite then 0 else 1

abbrev pub far_among : List ℕ → Option ℕ → ℕ → ℕ
far_among props None otherwise = otherwise
far_among props (Some q) otherwise = if nat_lt (index_of props q) (length props) then suc (suc (index_of props q)) else otherwise

-- the place of an object of the class that a link of the property joins: that of the opposite, where there is one
abbrev pub far : MetaDesc → ℕ → ℕ → ℕ
far meta class p = far_among (props_of meta class) (opposite_of meta p) (nameless meta p)

abbrev pub named_in : List Row → ℕ → Option Named
named_in rows o = (row_at rows o).named

abbrev pub class_in : List Row → ℕ → Option ℕ
class_in rows o = option_map (λ n. n.class) (named_in rows o)

-- an object's class and the number of its places
pub record IsShaped (meta : MetaDesc) (row : Row) (named : Named) : Type 0 where
  pub class : named.class < class_count meta
  pub concrete : (class_at meta named.class).is_abstract ≡ false
  pub places : length row.places ≡ suc (suc (length (props_of meta named.class)))
  pub small : suc (suc (length (props_of meta named.class))) < 2 ^ 32

-- a place that a property's place is joined to is one of a live object, and the far end of that property
pub record IsFarEnd (meta : MetaDesc) (rows : List Row) (p : ℕ) (e : ℕ × ℕ) : Type 0 where
  pub class : ℕ
  pub class_is : class_in rows e.0 ≡ Some class
  pub place : e.1 ≡ far meta class p

-- what a nameless place of an object of the class is joined to is the place of a property of a live object, whose far end it is
pub record IsNearEnd (meta : MetaDesc) (rows : List Row) (c k : ℕ) (e : ℕ × ℕ) : Type 0 where
  pub class : ℕ
  pub class_is : class_in rows e.0 ≡ Some class
  pub prop : ℕ
  pub has : Contains (props_of meta class) prop
  pub place : e.1 ≡ near meta class prop
  pub back : far meta c prop ≡ k

-- what the parts of a model have to do with each other; `finds` says which objects are looked at for the bytes of an identifier
pub record IsTied (meta : MetaDesc) (rows : List Row) (finds : List ℕ → ℕ → Type 0) (live : ℕ) : Type 0 where
  pub well : WellMeta meta
  pub few : length rows ≤ MAX_ADDED
  pub count : live ≡ count_by (λ r. is_some r.named) rows
  pub shaped : (o : ℕ) (n : Named) → named_in rows o ≡ Some n → IsShaped meta (row_at rows o) n
  pub far_ends : (o c p : ℕ) (e : ℕ × ℕ) → class_in rows o ≡ Some c → Contains (props_of meta c) p
      → Contains (joined_at rows o (near meta c p)) e → IsFarEnd meta rows p e
  pub near_ends : (o c k : ℕ) (e : ℕ × ℕ) → class_in rows o ≡ Some c → k < 2 → Contains (joined_at rows o k) e → IsNearEnd meta rows c k e
  pub found : (o : ℕ) (n : Named) → named_in rows o ≡ Some n → finds (encode_utf8_all n.id) o
