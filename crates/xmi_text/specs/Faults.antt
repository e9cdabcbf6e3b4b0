-- The faults of bytes that are no document. Where a fault of each kind stands is said by what may follow there: bytes may
-- follow where with them the bytes before begin a document. The fault of least place is told, and at one place the least kind.
use Rattle.std.specs.Prelude.{ℕ, ◌≡◌, ◌⊎◌, ◌+◌, ◌<◌, ◌≤◌, true, false, List, [], ◌∷◌, ◌++◌, length, take, drop, codes, encode_utf8, encode_utf8_all}
use Rattle.std.specs.Str.{all_scalars, IsUtf8}
use Rattle.mof_metamodel.specs.Characters.{is_blank}
use Rattle.xmi_text.specs.ByteClass.{begins_name, holds_in_name}
use Rattle.xmi_text.specs.Names.{is_far, is_name}
use Rattle.xmi_text.specs.Markup.{begins, Reference, reference_text, is_reference, Begins, Markup}
use Rattle.xmi_text.specs.Trees.{Tree}
use Rattle.xmi_text.specs.declared.error.TextFault.{TextFault}
use Rattle.xmi_text.specs.declared.error.TextKind.{TextKind}
use Rattle.xmi_text.specs.declared.error.TextKind.TheVariants as kinds

-- these bytes may follow the first n
abbrev pub May : List ℕ → ℕ → List ℕ → Type 0
May bytes n more = Begins (take n bytes ++ more)

-- the bytes from the n-th on begin with these
abbrev pub Stands : List ℕ → ℕ → List ℕ → Type 0
Stands bytes n part = begins part (drop n bytes) ≡ true

-- one list begins with the other
abbrev pub Agree : List ℕ → List ℕ → Type 0
Agree xs ys = (begins xs ys ≡ true) ⊎ (begins ys xs ≡ true)

-- a `<` is markup where a comment may begin with it, and no blank may follow it
pub record IsMarkup (bytes : List ℕ) (n : ℕ) : Type 0 where
  pub comment : May bytes n (codes "<!--")
  pub blank : ¬ May bytes n (codes "< ")

-- a byte that begins no name
abbrev pub IsNoName : List ℕ → ℕ → Type 0
IsNoName bytes n = (b : ℕ) × Stands bytes n (b ∷ []) × (b < 128) × (begins_name b ≡ false)

-- BadUtf8: a byte at which no whole character stands
pub record IsBadUtf8 (bytes : List ℕ) (n : ℕ) : Type 0 where
  pub within : n < length bytes
  pub before : IsUtf8 (take n bytes)
  pub none : (c : ℕ) → all_scalars (c ∷ []) ≡ true → ¬ Agree (encode_utf8 c) (drop n bytes)

-- BadMark: a byte with which the bytes so far begin no document, while those before it do
pub record IsBadMark (bytes : List ℕ) (n : ℕ) : Type 0 where
  pub within : n < length bytes
  pub before : May bytes n []
  pub through : ¬ May bytes (n + 1) []

-- BadName: a byte behind `<` that is none of `!`, `?` and `/`, or one behind `<?`, that begins no name
pub record IsBadStart (bytes : List ℕ) (n : ℕ) : Type 0 where
  pub less : ℕ
  pub markup : IsMarkup bytes less
  pub place : ((n ≡ less + 1) × Stands bytes less (codes "<") × (¬ Stands bytes n (codes "!")) × (¬ Stands bytes n (codes "?")) × (¬ Stands bytes n (codes "/")))
      ⊎ ((n ≡ less + 2) × Stands bytes less (codes "<?"))
  pub none : IsNoName bytes n

-- or the second colon of a name: a place where a name may go on, but not with a colon
pub record IsSecondColon (bytes : List ℕ) (n : ℕ) : Type 0 where
  pub colon : Stands bytes n (codes ":")
  pub dot : May bytes n (codes ".")
  pub dash : May bytes n (codes "-")
  pub none : ¬ May bytes n (codes ":")

-- OpenTag: the bytes begin a document, and are none
pub record IsOpenTag (bytes : List ℕ) (n : ℕ) : Type 0 where
  pub end : n ≡ length bytes
  pub begun : Begins bytes
  pub none : (tree : Tree) → ¬ Markup bytes tree

-- the name of the element that an end tag may end here
abbrev pub MayEnd : List ℕ → ℕ → List ℕ → Type 0
MayEnd bytes n name = (is_name name ≡ true) × (all_scalars name ≡ true) × May bytes n (codes "</" ++ (encode_utf8_all name ++ codes ">"))

-- WrongEnd: an end tag whose bytes are neither a part of that name nor the name and a byte that no name holds
pub record IsWrongEnd (bytes : List ℕ) (n : ℕ) : Type 0 where
  pub markup : IsMarkup bytes n
  pub end : Stands bytes n (codes "</")
  pub inside : May bytes n (codes "</")
  pub part : (name : List ℕ) → MayEnd bytes n name → ¬ (begins (drop (n + 2) bytes) (encode_utf8_all name) ≡ true)
  pub other : (name : List ℕ) (b : ℕ) → MayEnd bytes n name → holds_in_name b ≡ false → ¬ Stands bytes (n + 2) (encode_utf8_all name ++ b ∷ [])

-- DuplicateAttribute: a name behind a blank, and a byte behind it that no name holds, where an attribute of another name may
-- stand but none of this
pub record IsDuplicate (bytes : List ℕ) (n : ℕ) : Type 0 where
  pub name : List ℕ
  pub byte : ℕ
  pub named : is_name name ≡ true
  pub scalars : all_scalars name ≡ true
  pub ends : holds_in_name byte ≡ false
  pub there : Stands bytes n (encode_utf8_all name ++ byte ∷ [])
  pub other : List ℕ
  pub other_named : is_name other ≡ true
  pub other_scalars : all_scalars other ≡ true
  pub free : May bytes n (encode_utf8_all other ++ codes "=")
  pub taken : ¬ May bytes n (encode_utf8_all name ++ codes "=")
  pub blank : ℕ
  pub place : ℕ
  pub behind : (n ≡ place + 1) × Stands bytes place (blank ∷ []) × (is_blank blank ≡ true)

-- BadEntity: an `&` where a reference may stand and nothing else may begin with it, from which on the bytes begin none
pub record IsBadEntity (bytes : List ℕ) (n : ℕ) : Type 0 where
  pub ampersand : Stands bytes n (codes "&")
  pub reference : May bytes n (codes "&lt;")
  pub blank : ¬ May bytes n (codes "& ")
  pub none : (r : Reference) → is_reference r ≡ true → ¬ Agree (reference_text r) (drop n bytes)

-- Doctype: the `<` of `<!DOCTYPE`
pub record IsDoctype (bytes : List ℕ) (n : ℕ) : Type 0 where
  pub markup : IsMarkup bytes n
  pub word : Stands bytes n (codes "<!DOCTYPE")

-- Limit: the `<` of an element inside others, where no more may be nested
pub record IsLimit (bytes : List ℕ) (n : ℕ) : Type 0 where
  pub markup : IsMarkup bytes n
  pub inside : May bytes n (codes "</")
  pub full : ¬ May bytes n (codes "<a")
  pub first : ℕ
  pub begun : (begins_name first ≡ true) ⊎ ((is_far first ≡ true) × (all_scalars (first ∷ []) ≡ true))
  pub there : Stands bytes n (60 ∷ encode_utf8 first)

-- a fault of the kind stands at the place
abbrev pub IsFaultAt : List ℕ → TextKind → ℕ → Type 0
IsFaultAt bytes kinds.BadUtf8 n = IsBadUtf8 bytes n
IsFaultAt bytes kinds.BadMark n = IsBadMark bytes n
IsFaultAt bytes kinds.BadName n = IsBadStart bytes n ⊎ IsSecondColon bytes n
IsFaultAt bytes kinds.OpenTag n = IsOpenTag bytes n
IsFaultAt bytes kinds.WrongEnd n = IsWrongEnd bytes n
IsFaultAt bytes kinds.DuplicateAttribute n = IsDuplicate bytes n
IsFaultAt bytes kinds.BadEntity n = IsBadEntity bytes n
IsFaultAt bytes kinds.Doctype n = IsDoctype bytes n
IsFaultAt bytes kinds.Limit n = IsLimit bytes n

-- the order of kinds at one place; a bad mark stands behind every other
abbrev pub rank : TextKind → ℕ
rank kinds.BadUtf8 = 0
rank kinds.BadName = 1
rank kinds.OpenTag = 2
rank kinds.WrongEnd = 3
rank kinds.DuplicateAttribute = 4
rank kinds.BadEntity = 5
rank kinds.Doctype = 6
rank kinds.Limit = 7
rank kinds.BadMark = 8

-- one fault comes before another, or is it
abbrev pub IsBefore : ℕ → TextKind → ℕ → TextKind → Type 0
IsBefore m kind n other = (m < n) ⊎ ((m ≡ n) × (rank kind ≤ rank other))

-- the first fault that stands
pub record IsFirstFault (bytes : List ℕ) (fault : TextFault) : Type 0 where
  pub stands : IsFaultAt bytes fault.kind fault.at
  pub first : (kind : TextKind) (n : ℕ) → IsFaultAt bytes kind n → IsBefore fault.at fault.kind n kind
