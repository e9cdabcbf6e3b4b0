-- Where values of JSON differ from the form of a trace, computed, and wrong answers that the definitions exclude.
use Rattle.std.specs.Prelude.{◌≡◌, [], ◌∷◌, ◌++◌, true, codes, None, Err}
use Rattle.std.specs.Fmt.{decimal}
use Rattle.std.specs.Str.{chars}
use Rattle.std.proofs.Common.{refl}
use Rattle.serde_json.proofs.OnLiterals.{serde_json_on_literals}
use Rattle.serde_json.specs.Data.{unsigned, Data, null, boolean, number, string, array, object, item, no_items, member, no_members}
use Rattle.serde_json.specs.Read.{read}
use Rattle.trace_log.specs.TraceEntries.{trace_of}
use Rattle.trace_log.specs.TraceForms.{one, two}
use Rattle.trace_log.specs.TraceValues.{value_of}

abbrev trace : Data → Data → Data
trace entries version =
    object (member (codes "entries") entries
    (member (codes "target") (string (codes "M")) (member (codes "transformation") (string (codes "T")) (member (codes "version") version no_members))))

abbrev entry : Data → Data
entry values =
    object (member (codes "called") (boolean true)
    (member (codes "demands") (array no_items)
    (member (codes "made") (array no_items) (member (codes "relation") (string (codes "R")) (member (codes "values") values no_members)))))

pub no_object : trace_of null ≡ Err []
no_object = refl

pub nothing_stands : trace_of (object no_members) ≡ Err (codes "/entries")
unfolding chars
nothing_stands = refl

pub other_member : trace_of (object (member (codes "a") null no_members)) ≡ Err (codes "/a")
unfolding chars
other_member = refl

pub another_version : trace_of (trace (array no_items) (number (unsigned 2))) ≡ Err (codes "/version")
unfolding chars
another_version = refl

-- a list of no items in place of a pair
pub wrong_length : trace_of (trace (array (item (entry (array (item (array no_items) no_items))) no_items)) (number (unsigned 1)))
    ≡ Err (codes "/entries" ++ (47 ∷ (decimal 0 ++ (codes "/values" ++ (47 ∷ (decimal 0 ++ []))))))
unfolding chars
wrong_length = refl

-- a content of another kind is amiss as a whole
pub wrong_content : value_of (one (codes "s") (boolean true)) ≡ Err []
wrong_content = refl

-- so is a term with something else among its pairs
pub wrong_pair : value_of (one (codes "t") (two (string (codes "C")) (array (item null no_items)))) ≡ Err []
wrong_pair = refl

-- a value within a term counts for itself
pub wrong_within : value_of (one (codes "t") (two (string (codes "C")) (array (item (two (string (codes "k")) null) no_items))))
    ≡ Err (codes "/t" ++ (47 ∷ (decimal 1 ++ (47 ∷ (decimal 0 ++ (47 ∷ (decimal 1 ++ [])))))))
unfolding chars
wrong_within = refl

-- a text with a byte order mark is no value
pub mark_is_no_value : read (0xef ∷ 0xbb ∷ 0xbf ∷ codes "{}") ≡ None
unfolding serde_json_on_literals
mark_is_no_value = refl
