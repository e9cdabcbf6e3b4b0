-- Tables by number, and names looked up in them.
use Rattle.std.proofs.Common.{◌≡◌, ℕ, zero, suc, ◌+◌, ◌<◌, List, [], ◌∷◌, ◌++◌, Bool, cond, refl, sym, ◌∙◌, ap, arith, length, get_or, map}
use Rattle.std.specs.Prelude.{String, string_bytes, nat_lt, not, Some, None, encode_utf8_all, chars, position, Option}
use Rattle.std.specs.List.{range_with_len, position_or_len, filter_map, cons_option}
use Rattle.std.specs.Option.{option_to_list}
use Rattle.std.specs.Str.{IsUtf8, bytes_eq}
use Rattle.std.proofs.lemmas.List.{get_or-map, length-map, map-id, map-append, length-append, append-nil, append_assoc, take_more, length-take-le, get_or_default}
use Rattle.std.proofs.lemmas.List.Elements.{All-map, filter_map-append}
use Rattle.std.proofs.lemmas.List.Sums.{sum_by-cons, sum_by_more, sum_by_more_le}
use Rattle.mof_metamodel.specs.declared.desc.ClassDesc.{ClassDesc}
use Rattle.std.proofs.lemmas.List.FromFn.{length-range_with_len, get_or-range_with_len, length-map-range_with_len, get_or-map-range_with_len, map-range_with_len_more, fill_by_all}
use Rattle.std.proofs.lemmas.Str.{encodes-chars, IsUtf8-string_bytes}
use Rattle.std.proofs.lemmas.Bool.Decides.{nat_tests}
use Rattle.std.specs.Prelude.{◌≤◌, IsTrue, sum_by, All, take}
use Rattle.mof_metamodel.specs.declared.desc.MetaDesc.{MetaDesc}
use Rattle.mof_metamodel.specs.Metamodels.{same_name, class_count, enum_count, class_at, no_class, no_prop, declared_from, prop_count, first_own}
use Rattle.mof_metamodel.specs.MetaFaults.{is_within_limits}
use Rattle.mof_metamodel.specs.Tables.{table, place_in, placed, IsPlace}
use Rattle.mof_metamodel.specs.declared.desc.PropDesc.{PropDesc}
use Rattle.mof_metamodel.specs.TextLaws.{equal_encodings}
use Rattle.mof_metamodel.specs.NameTables.{number_of}
use Rattle.mof_metamodel.proofs.NameLemmas.{named_bytes}

-- what the limits of a metamodel say
pub classes_fit : (desc : MetaDesc) → IsTrue (is_within_limits desc) → class_count desc ≤ 4096
classes_fit desc h = grind (arith, nat_tests)

pub enums_fit : (desc : MetaDesc) → IsTrue (is_within_limits desc) → enum_count desc ≤ 4096
enums_fit desc h = grind (arith, nat_tests)

pub props_fit : (desc : MetaDesc) → IsTrue (is_within_limits desc) → sum_by (λ c. length c.props) desc.classes ≤ 65536
props_fit desc h = grind (arith, nat_tests)

module _ {X Y : Type 0} (g : X → Y) (rows : List X) (f : ℕ → Y) (n : ℕ) where
  -- a table has a row for each number
  pub rows_count : map g rows ≡ table f n → length rows ≡ n
  rows_count e = sym (length-map rows g) ∙ ap length e ∙ length-map-range_with_len f 0 n

  -- and the row of a number is what is said of it
  pub row_is : map g rows ≡ table f n → (i : ℕ) (x : X) → i < n → x ≡ get_or rows i x → g x ≡ f i
  row_is e i x l r =
      let short : i < length rows = omega (arith, rows_count e) in
      ap g r ∙ sym (get_or-map g rows i x (g x) short) ∙ ap (λ xs. get_or xs i (g x)) e ∙ get_or-map-range_with_len f 0 n i i (g x) l (omega arith)

  -- one more row
  pub row_more : (x : X) → map g rows ≡ table f n → g x ≡ f n → map g (rows ++ x ∷ []) ≡ table f (n + 1)
  row_more x e h = simp (map-append) (ap (λ xs. xs ++ g x ∷ []) e ∙ ap (λ y. table f n ++ y ∷ []) h ∙ sym (map-range_with_len_more f 0 n n (omega arith)))

-- a table that is a list of its own
pub entry_is : {Y : Type 0} (rows : List Y) (f : ℕ → Y) (n : ℕ) → rows ≡ table f n → (i : ℕ) (x : Y) → i < n → x ≡ get_or rows i x → x ≡ f i
entry_is rows f n e i x l r = r ∙ ap (λ xs. get_or xs i x) e ∙ get_or-map-range_with_len f 0 n i i x l (omega arith)

pub entry_count : {Y : Type 0} (rows : List Y) (f : ℕ → Y) (n : ℕ) → rows ≡ table f n → length rows ≡ n
entry_count rows f n e = ap length e ∙ length-map-range_with_len f 0 n

-- one more entry
pub entry_more : {Y : Type 0} (rows : List Y) (f : ℕ → Y) (n : ℕ) (y : Y) → rows ≡ table f n → y ≡ f n → rows ++ y ∷ [] ≡ table f (n + 1)
entry_more rows f n y e h = ap (λ xs. xs ++ y ∷ []) e ∙ ap (λ z. table f n ++ z ∷ []) h ∙ sym (map-range_with_len_more f 0 n n (omega arith))

-- what a list of rows shows at one of them
pub shown_at : {X Y : Type 0} (g : X → Y) (rows : List X) (ys : List Y) → map g rows ≡ ys → (i : ℕ) (x : X) (e : Y) → i < length rows → x ≡ get_or rows i x → get_or ys i e ≡ g x
shown_at g rows ys same i x e l r = sym (ap (λ zs. get_or zs i e) same) ∙ get_or-map g rows i x e l ∙ sym (ap g r)

-- properties: how many, and where

pub declared_count : (k : ℕ) (cs : List ClassDesc) → length (declared_from k cs) ≡ sum_by (λ d. length d.props) cs
declared_count k [] = refl
declared_count k (d ∷ ds) = simp (length-append, length-map) (ap (λ n. length d.props + n) (declared_count (k + 1) ds) ∙ sym (sum_by-cons (λ d. length d.props) d ds))

pub prop_total : (desc : MetaDesc) → prop_count desc ≡ sum_by (λ d. length d.props) desc.classes
prop_total desc = declared_count 0 desc.classes

-- a property that a class owns is one of the properties
pub own_within : (desc : MetaDesc) (c i : ℕ) → c < class_count desc → i < length (class_at desc c).props → first_own desc c + i < prop_count desc
own_within desc c i l h = omega (arith, sum_by_more_le (λ d. length d.props) desc.classes c no_class l, prop_total desc)

pub props_fit_of : (desc : MetaDesc) (c : ℕ) → IsTrue (is_within_limits desc) → c < class_count desc → first_own desc c + length (class_at desc c).props ≤ 65536
props_fit_of desc c h l = omega (arith, sum_by_more_le (λ d. length d.props) desc.classes c no_class l, props_fit desc h)

-- a test that goes through a function finds the same place
pub position_or_len-map : {X Y : Type 0} (p : Y → Bool) (g : X → Y) (xs : List X) → position_or_len p (map g xs) ≡ position_or_len (λ x. p (g x)) xs
position_or_len-map p g [] = refl
position_or_len-map p g (x ∷ xs) = ap (λ n. cond (not (p (g x))) (1 + n) 0) (position_or_len-map p g xs)

pub position-map : {X Y : Type 0} (p : Y → Bool) (g : X → Y) (xs : List X) → position p (map g xs) ≡ position (λ x. p (g x)) xs
position-map p g xs = simp (position_or_len-map p g xs, length-map xs g)

-- tests that agree find the same place
pub position_or_len-agree : {X : Type 0} (p q : X → Bool) → ((x : X) → p x ≡ q x) → (xs : List X) → position_or_len p xs ≡ position_or_len q xs
position_or_len-agree p q same [] = refl
position_or_len-agree p q same (x ∷ xs) = ap (λ b. cond (not b) (1 + position_or_len p xs) 0) (same x) ∙ ap (λ n. cond (not (q x)) (1 + n) 0) (position_or_len-agree p q same xs)

pub position-agree : {X : Type 0} (p q : X → Bool) → ((x : X) → p x ≡ q x) → (xs : List X) → position p xs ≡ position q xs
position-agree p q same xs = ap (λ n. cond (nat_lt n (length xs)) (Some n) None) (position_or_len-agree p q same xs)

-- where a name stands among strings
pub string_position : {Y V : Type 0} (bs : List ℕ) (es : List (String Y × V)) → IsUtf8 bs
    → position (λ k. bytes_eq bs (string_bytes k)) (map (λ e. e.0) es) ≡ number_of (map (λ e. (chars (string_bytes e.0), e.1)) es) (chars bs)
string_position bs es utf8 =
    position-map _ (λ e. e.0) es ∙ position-agree _ _ (λ e. named_bytes bs (string_bytes e.0) utf8 (IsUtf8-string_bytes e.0)) es
    ∙ sym (position-map (same_name (chars bs)) (λ e. e.0) (map (λ e. (chars (string_bytes e.0), e.1)) es) ∙ position-map (λ e. same_name (chars bs) e.0) (λ e. (chars (string_bytes e.0), e.1)) es)

-- a name is looked up by its bytes
pub name_position : {K X : Type 0} (bytes_of : K → List ℕ) (name_of : X → List ℕ) (keys : List K) (xs : List X) (name : List ℕ) → IsUtf8 name
    → map bytes_of keys ≡ map (λ x. encode_utf8_all (name_of x)) xs → position (λ k. bytes_eq name (bytes_of k)) keys ≡ position (λ x. same_name (chars name) (name_of x)) xs
name_position bytes_of name_of keys xs name utf8 same =
    sym (position-map (bytes_eq name) bytes_of keys) ∙ ap (position (bytes_eq name)) same ∙ position-map (bytes_eq name) (λ x. encode_utf8_all (name_of x)) xs
    ∙ position-agree _ _ (λ x. ap (λ bs. bytes_eq bs (encode_utf8_all (name_of x))) (sym (encodes-chars name utf8)) ∙ sym (equal_encodings (chars name) (name_of x))) xs

-- ---- one more class

pub first_own_more : (desc : MetaDesc) (c : ℕ) (x : ClassDesc) → c < class_count desc → x ≡ get_or desc.classes c x → first_own desc (c + 1) ≡ first_own desc c + length x.props
first_own_more desc c x l r = sum_by_more (λ d. length d.props) desc.classes c x l ∙ ap (λ y. first_own desc c + length y.props) (sym r)

pub class_is : (desc : MetaDesc) (c : ℕ) (x : ClassDesc) → c < class_count desc → x ≡ get_or desc.classes c x → class_at desc c ≡ x
class_is desc c x l r = get_or_default desc.classes c no_class x l ∙ sym r

declared_from-push : (k : ℕ) (ds : List ClassDesc) (d : ClassDesc) → declared_from k (ds ++ d ∷ []) ≡ declared_from k ds ++ map (λ p. (k + length ds, p)) d.props
declared_from-push k [] d = append-nil _ ∙ ap (λ n. map (λ p. (n, p)) d.props) (omega arith)
declared_from-push k (e ∷ ds) d =
    ap (λ xs. map (λ p. (k, p)) e.props ++ xs) (declared_from-push (k + 1) ds d ∙ ap (λ n. declared_from (k + 1) ds ++ map (λ p. (n, p)) d.props) (omega arith))
    ∙ sym (append_assoc (map (λ p. (k, p)) e.props) (declared_from (k + 1) ds) _)

pub declared_more : (desc : MetaDesc) (c : ℕ) (x : ClassDesc) → c < class_count desc → x ≡ get_or desc.classes c x
    → declared_from 0 (take (c + 1) desc.classes) ≡ declared_from 0 (take c desc.classes) ++ map (λ p. (c, p)) x.props
declared_more desc c x l r =
    ap (declared_from 0) (take_more desc.classes c x l ∙ ap (λ y. take c desc.classes ++ y ∷ []) (sym r)) ∙ declared_from-push 0 (take c desc.classes) x
    ∙ ap (λ n. declared_from 0 (take c desc.classes) ++ map (λ p. (n, p)) x.props) (let e = length-take-le c desc.classes (omega (arith, l)) in omega (arith, e))

pub map-map : {A B C : Type 0} (f : B → C) (g : A → B) (xs : List A) → map f (map g xs) ≡ map (λ x. f (g x)) xs
map-map f g [] = refl
map-map f g (x ∷ xs) = ap (λ ys. f (g x) ∷ ys) (map-map f g xs)

-- the places of a class's properties show its properties
pub placed_own : (desc : MetaDesc) (c : ℕ) (props : List PropDesc) → (class_at desc c).props ≡ props → map (placed desc) (map (place_in c) (range_with_len 0 (length props))) ≡ map (λ p. (c, p)) props
placed_own desc c props same =
    map-map (placed desc) (place_in c) _
    ∙ ap (λ ps. map (λ i. (c, get_or ps i no_prop)) (range_with_len 0 (length props))) same
    ∙ sym (map-map (λ p. (c, p)) (λ i. get_or props i no_prop) _)
    ∙ ap (map (λ p. (c, p))) (sym (fill_by_all (λ i. get_or props i no_prop) props (length props) no_prop refl (λ k l. refl)))

pub places_own : (desc : MetaDesc) (c n : ℕ) → c < class_count desc → length (class_at desc c).props ≡ n → All (IsPlace desc) (map (place_in c) (range_with_len 0 n))
places_own desc c n l same = All-map (IsPlace desc) (place_in c) (range_with_len 0 n) (λ k d h.
    let short : k < n = omega (arith, length-range_with_len 0 n) in
    (l, (let at = get_or-range_with_len 0 n k d short in omega (arith, at))))

-- one more item of a filtered list
pub filter_map_more : {X Y : Type 0} (f : X → Option Y) (xs : List X) (i : ℕ) (x : X) → i < length xs → x ≡ get_or xs i x → filter_map f (take (i + 1) xs) ≡ filter_map f (take i xs) ++ option_to_list (f x)
filter_map_more {Y = Y} f xs i x l r =
    ap (filter_map f) (take_more xs i x l ∙ ap (λ y. take i xs ++ y ∷ []) (sym r)) ∙ filter_map-append f (take i xs) (x ∷ []) ∙ ap (λ ys. filter_map f (take i xs) ++ ys) (one (f x))
  where
    one : (o : Option Y) → cons_option o [] ≡ option_to_list o
    one None = refl
    one (Some y) = refl

-- tables of functions that agree are one
pub table_agree : {X : Type 0} (f g : ℕ → X) (n : ℕ) → ((c : ℕ) → c < n → f c ≡ g c) → table f n ≡ table g n
table_agree f g n same = from 0 n (λ c l h. same c (omega (arith, h)))
  where
    from : (a m : ℕ) → ((c : ℕ) → a ≤ c → c < a + m → f c ≡ g c) → map f (range_with_len a m) ≡ map g (range_with_len a m)
    from a zero h = refl
    from a (suc m) h = ap (λ x. x ∷ map f (range_with_len (a + 1) m)) (h a (omega arith) (omega arith)) ∙ ap (λ xs. g a ∷ xs) (from (a + 1) m (λ c l k. h c (omega arith) (omega arith)))

-- one more number
pub range_more : (a n j : ℕ) → a + n ≡ j → range_with_len a (n + 1) ≡ range_with_len a n ++ j ∷ []
range_more a n j e = sym (map-id _) ∙ map-range_with_len_more (λ x. x) a n j e ∙ ap (λ xs. xs ++ j ∷ []) (map-id _)
