-- What is read of a value of JSON (RFC 8259): what it says, or the path of the first place that isn't as it has to be. A path has a `/`
-- before the name of each member and the number of each item that lead to the place (RFC 6901, without its escapes). Places go in the
-- order of their members by name, those that are missing among them, and of their items by number.
use Rattle.std.specs.Prelude.{◌≡◌, ℕ, suc, ⊤, Bool, List, [], ◌∷◌, ◌++◌, chars, Option, None, Some, Result, Ok, Err, String}
use denote.Ref.{Bor}
use Rattle.std.specs.Fmt.{decimal}
use Rattle.std.specs.Ordering.{nat_cmp, match_ordering}
use Rattle.std.specs.Cmp.Lexicographic.{slice_cmp}
use Rattle.std.specs.declared.alloc.Global.{Global}
use Rattle.serde_json.specs.Data.{Data, boolean, string, array, object, Items, no_items, item, Members, no_members, member}
use Rattle.serde_json.specs.View.{view, members_view}
use Rattle.serde_json.specs.declared.value.Value.{Value}
use Rattle.trace_log.specs.declared.trace.TraceError.{TraceError}
use Rattle.trace_log.specs.declared.trace.TraceError.TheVariants as errors

abbrev pub Path : Type 0
Path = List ℕ

-- what is read, or the path to the first place that is amiss
abbrev pub Reading : Type 0 → Type 0
Reading X = Result X Path

-- one reading and, behind it, another
infixl 10 ◌>>=◌
abbrev pub ◌>>=◌ : {X Y : Type 0} → Reading X → (X → Reading Y) → Reading Y
Ok x >>= next = next x
Err path >>= next = Err path

-- a reading of what stands one step further: its path has the step in front
abbrev pub at : {X : Type 0} → List ℕ → Reading X → Reading X
at step (Ok x) = Ok x
at step (Err path) = Err (47 ∷ step ++ path)

-- a member of this name is amiss
abbrev pub amiss_at : {X : Type 0} → List ℕ → Reading X
amiss_at name = Err (47 ∷ chars name)

-- Members of an object, in the order of their names

-- the value of the member of this name, if it comes first, and the members behind it
abbrev pub taken : List ℕ → Members → Reading (Data × Members)
taken wanted no_members = amiss_at wanted
taken wanted (member name d others) = match_ordering (slice_cmp nat_cmp name wanted) (amiss_at name) (Ok (d, others)) (amiss_at wanted)

-- what is read of the member of this name, and the members behind it
abbrev pub member_by : {X : Type 0} → (Data → Reading X) → List ℕ → Members → Reading (X × Members)
member_by read name members = do
  p ← taken name members
  x ← at (chars name) (read p.0)
  Ok (x, p.1)

-- no member is left
abbrev pub no_more : Members → Reading ⊤
no_more no_members = Ok tt
no_more (member name d others) = amiss_at name

-- the members of an object
abbrev pub members_of : Data → Reading Members
members_of (object members) = Ok members
members_of d = Err []

-- Lists

-- what is read of the items from a number on, behind what was read before
abbrev pub items_by : {X : Type 0} → (Data → Reading X) → List X → ℕ → Items → Reading (List X)
items_by read done place no_items = Ok done
items_by read done place (item d ds) = do
  x ← at (decimal place) (read d)
  items_by read (done ++ x ∷ []) (suc place) ds

abbrev pub list_by : {X : Type 0} → (Data → Reading X) → Data → Reading (List X)
list_by read (array ds) = items_by read [] 0 ds
list_by read d = Err []

-- the one member of an object, by its name and its value
abbrev pub sole_of : Data → Option (List ℕ × Data)
sole_of (object (member name d no_members)) = Some (name, d)
sole_of d = None

-- the items of a list of two
abbrev pub two_of : Data → Option (Data × Data)
two_of (array (item d (item e no_items))) = Some (d, e)
two_of d = None

-- Texts and Booleans

abbrev pub text_of : Data → Reading (List ℕ)
text_of (string s) = Ok (chars s)
text_of d = Err []

abbrev pub flag_of : Data → Reading Bool
flag_of (boolean b) = Ok b
flag_of d = Err []

-- What functions return

-- an error is the one that is meant, unless memory ran out
abbrev pub IsMeant : {X : Type 0} → TraceError → Reading X → Type 0
IsMeant errors.Syntax meaning = ⊥
IsMeant (errors.Shape path) meaning = meaning ≡ Err path
IsMeant errors.NoMemory meaning = Unit {0}

-- what a function returned is what is meant, unless memory ran out
abbrev pub Gives : {X : Type 0} → Result X TraceError → Reading X → Type 0
Gives (Ok x) meaning = meaning ≡ Ok x
Gives (Err e) meaning = IsMeant e meaning

-- the same of what is read of a member, with the members that are left behind it
abbrev pub GivesBefore : {X : Type 0} → List (String Global × Value) → Result X TraceError → Reading (X × Members) → Type 0
GivesBefore left (Ok x) meaning = meaning ≡ Ok (x, members_view left)
GivesBefore left (Err e) meaning = IsMeant e meaning

-- the same of the value of a member
abbrev pub GivesMember : List (String Global × Value) → Result (Bor Value) TraceError → Reading (Data × Members) → Type 0
GivesMember left (Ok v) meaning = meaning ≡ Ok (view v.now, members_view left)
GivesMember left (Err e) meaning = IsMeant e meaning

-- the same of the members of an object
abbrev pub GivesMembers : Result (List (String Global × Value)) TraceError → Reading Members → Type 0
GivesMembers (Ok left) meaning = meaning ≡ Ok (members_view left)
GivesMembers (Err e) meaning = IsMeant e meaning
