-- Sets of texts.
use Rattle.std.specs.Prelude.{◌≡◌, ℕ, Bool, List}
use Rattle.std.specs.Cmp.Lexicographic.{slice_cmp}
use Rattle.std.specs.Ordering.{nat_cmp}
use Rattle.std.specs.BTreeSet.{contains_by}
use Rattle.qvtr_engine.specs.declared.text_set.TextSet.{TextSet}
use Rattle.qvtr_engine.specs.Names.{is_among}

-- the text is one of the set
abbrev pub has : TextSet → List ℕ → Bool
has set text = contains_by (λ k. slice_cmp nat_cmp text k.now) set.texts

-- the set is that of the list
abbrev pub IsSetOf : List (List ℕ) → TextSet → Type 0
IsSetOf texts set = (text : List ℕ) → has set text ≡ is_among texts text
