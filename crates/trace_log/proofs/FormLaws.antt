-- A trace is read of a value of JSON exactly where the value is this trace.
use Rattle.std.proofs.Common.{◌≡◌, ℕ, suc, ℤ, List, [], ◌∷◌, ◌++◌, Bool, true, false, cond, refl, sym, ap, ◌∙◌, subst, append_assoc, append-nil, chars, Option, None, Some, Result, Ok, Err, Ordering, Less, Equal, Greater, nat_cmp, is_eq, bytes_eq, eqb-true, ◌↔◌}
use Rattle.std.specs.Prelude.{◌==◌, ⊤, codes, option_and_then}
use Rattle.std.specs.Fmt.{decimal}
use Rattle.std.specs.Cmp.Lexicographic.{slice_cmp}
use Rattle.std.specs.Ordering.{match_ordering}
use Rattle.std.proofs.lemmas.Map.Text.{is_eq-slice_cmp}
use Rattle.std.proofs.lemmas.Option.{same_Some}
use Rattle.std.proofs.lemmas.Slice.Eq.{bytes_eq-Decides}
use Rattle.serde_json.specs.Data.{Num, unsigned, Data, boolean, number, string, array, object, Items, no_items, item, Members, no_members, member}
use Rattle.serde_json.specs.Find.{as_number, as_str, as_i64}
use Rattle.trace_log.specs.declared.trace.Trace.{Trace}
use Rattle.trace_log.specs.declared.trace.TraceEntry.{TraceEntry}
use Rattle.trace_log.specs.declared.trace.TraceDemand.{TraceDemand}
use Rattle.trace_log.specs.declared.trace.TracePair.{TracePair}
use Rattle.trace_log.specs.declared.trace.TraceTerm.{TraceTerm}
use Rattle.trace_log.specs.declared.trace.TraceValue.{TraceValue}
use Rattle.trace_log.specs.declared.trace.TraceValue.TheVariants as values
use Rattle.trace_log.specs.declared.trace_values.Kind.{Kind}
use Rattle.trace_log.specs.declared.trace_values.Kind.TheVariants as kinds
use Rattle.trace_log.specs.Readings.{Path, Reading, ◌>>=◌, at, amiss_at, taken, member_by, no_more, members_of, items_by, list_by, two_of, text_of, flag_of}
use Rattle.trace_log.specs.TraceValues.{pair, term, kind_of, integer_of, source_of, source_in, plain_of, begins_text, are_pairs, value_by, named_by, term_by, value_of, term_of, keys_of, pair_of, pairs_of, bindings_of, place_by, place_of}
use Rattle.trace_log.specs.TraceEntries.{demand_of, entry_of, version_of, trace_of}
use Rattle.trace_log.specs.TraceForms.{one, two, IsValue, IsTerm, IsPair, ArePairs, AreAll, IsDemand, IsEntry, IsTrace}

-- ---- values that are of the form are read

is_a_pair : (d : Data) (p : TracePair) → IsPair d p → begins_text (two_of d) ≡ true
is_a_pair d p (IsPair.named name e v h) = refl

all_pairs : (ds : Items) (ps : List TracePair) → ArePairs ds ps → are_pairs ds ≡ true
all_pairs ds ps ArePairs.none = refl
all_pairs ds ps (ArePairs.first d p es qs h hs) = rw (is_a_pair d p h) (all_pairs es qs hs)

mutual
  value_read : (d : Data) (v : TraceValue) → IsValue d v → value_of d ≡ Ok v
  value_read d v (IsValue.text s) = refl
  value_read d v (IsValue.integer n i h) = ap integer_of h
  value_read d v (IsValue.flag b) = refl
  value_read d v (IsValue.literal s) = refl
  value_read d v (IsValue.source model id) = refl
  value_read d v (IsValue.target e t h) = ap (λ (r : Reading TraceTerm). r >>= (λ u. Ok (values.Term u))) (term_read e t h)

  term_read : (d : Data) (t : TraceTerm) → IsTerm d t → term_of d ≡ Ok t
  term_read d t (IsTerm.keyed class ds ps h) = rw (all_pairs ds ps h, pairs_read ds ps h [] 0) refl

  pair_read : (d : Data) (p : TracePair) → IsPair d p → pair_of d ≡ Ok p
  pair_read d p (IsPair.named name e v h) = rw (value_read e v h) refl

  pairs_read : (ds : Items) (ps : List TracePair) → ArePairs ds ps → (done : List TracePair) (place : ℕ) → pairs_of done place ds ≡ Ok (done ++ ps)
  pairs_read ds ps ArePairs.none done place = ap (λ xs. Ok xs) (sym (append-nil done))
  pairs_read ds ps (ArePairs.first d p es qs h hs) done place =
      rw (pair_read d p h) (pairs_read es qs hs (done ++ p ∷ []) (suc place) ∙ ap (λ xs. Ok xs) (append_assoc done (p ∷ []) qs))

all_read : {X : Type 0} (read : Data → Reading X) (Is : Data → X → Type 0) → ((d : Data) (x : X) → Is d x → read d ≡ Ok x)
    → (ds : Items) (xs : List X) → AreAll Is ds xs → (done : List X) (place : ℕ) → items_by read done place ds ≡ Ok (done ++ xs)
all_read read Is reads no_items [] h done place = ap (λ xs. Ok xs) (sym (append-nil done))
all_read read Is reads no_items (x ∷ xs) h done place = absurd h
all_read read Is reads (item d ds) [] h done place = absurd h
all_read read Is reads (item d ds) (x ∷ xs) h done place =
    rw (reads d x h.0) (all_read read Is reads ds xs h.1 (done ++ x ∷ []) (suc place) ∙ ap (λ ys. Ok ys) (append_assoc done (x ∷ []) xs))

demand_read : (d : Data) (x : TraceDemand) → IsDemand d x → demand_of d ≡ Ok x
demand_read d x (IsDemand.demand name place e t v h k) = rw (term_read place t h, value_read e v k) refl

entry_read : (d : Data) (x : TraceEntry) → IsEntry d x → entry_of d ≡ Ok x
entry_read d x (IsEntry.entry b ds ms vs name demands made vals h k l) =
    rw (all_read demand_of IsDemand demand_read ds demands h [] 0, pairs_read ms made k [] 0, pairs_read vs vals l [] 0) refl

trace_read : (d : Data) (t : Trace) → IsTrace d t → trace_of d ≡ Ok t
trace_read d t (IsTrace.trace ds target transformation entries h) = rw (all_read entry_of IsEntry entry_read ds entries h [] 0) refl

-- ---- values that are read are of the form

same_Ok : {X : Type 0} (x y : X) → ◌≡◌ {A = Reading X} (Ok x) (Ok y) → x ≡ y
same_Ok x y e = ap (λ (r : Result _ Path). elim r as (λ _. _) [ Ok z ↦ z | Err p ↦ x ]) e

bound : {X Y : Type 0} (r : Reading X) (f : X → Reading Y) (y : Y) → (r >>= f) ≡ Ok y → (x : X) × (r ≡ Ok x) × (f x ≡ Ok y)
bound (Ok x) f y e = (x, refl, e)
bound (Err p) f y e = absurd cc

stepped : {X : Type 0} (step : List ℕ) (r : Reading X) (x : X) → at step r ≡ Ok x → r ≡ Ok x
stepped step (Ok y) x e = e
stepped step (Err p) x e = absurd cc

-- ---- parts

text_is : (d : Data) (t : List ℕ) → text_of d ≡ Ok t → (s : List ℕ) × (d ≡ string s) × (t ≡ chars s)
text_is (string s) t e = (s, refl, sym (same_Ok (chars s) t e))
text_is d t e = absurd cc

flag_is : (d : Data) (b : Bool) → flag_of d ≡ Ok b → d ≡ boolean b
flag_is (boolean c) b e = ap boolean (same_Ok c b e)
flag_is d b e = absurd cc

number_is : (d : Data) (i : ℤ) → option_and_then as_i64 (as_number d) ≡ Some i → (n : Num) × (d ≡ number n) × (as_i64 n ≡ Some i)
number_is (number n) i e = (n, refl, e)
number_is d i e = absurd cc

integer_is : (o : Option ℤ) (v : TraceValue) → integer_of o ≡ Ok v → (i : ℤ) × (o ≡ Some i) × (v ≡ values.Int i)
integer_is (Some i) v e = (i, refl, sym (same_Ok (values.Int i) v e))
integer_is None v e = absurd cc

two_is : (d : Data) (p : Data × Data) → two_of d ≡ Some p → d ≡ two p.0 p.1
two_is (array (item a (item b no_items))) p e = ap (λ (q : Data × Data). two q.0 q.1) (same_Some (a, b) p e)
two_is d p e = absurd cc

string_is : (d : Data) (s : List ℕ) → as_str d ≡ Some s → d ≡ string s
string_is (string t) s e = ap string (same_Some t s e)
string_is d s e = absurd cc

named_is : (a b : Data) (m n : Option (List ℕ)) (v : TraceValue) → as_str a ≡ m → as_str b ≡ n → source_of m n ≡ Ok v
    → (model : List ℕ) × (id : List ℕ) × (a ≡ string model) × (b ≡ string id) × (v ≡ values.Obj (chars model) (chars id))
named_is a b (Some model) (Some id) v f g e = (model, id, string_is a model f, string_is b id g, sym (same_Ok (values.Obj (chars model) (chars id)) v e))
named_is a b (Some model) None v f g e = absurd cc
named_is a b None n v f g e = absurd cc

source_is : (d : Data) (o : Option (Data × Data)) (v : TraceValue) → two_of d ≡ o → source_in o ≡ Ok v
    → (model : List ℕ) × (id : List ℕ) × (d ≡ two (string model) (string id)) × (v ≡ values.Obj (chars model) (chars id))
source_is d (Some p) v f e =
    let (model, id, first, second, same) = named_is p.0 p.1 (as_str p.0) (as_str p.1) v refl refl e in
    (model, id, two_is d p f ∙ ap (λ x. two x p.1) first ∙ ap (two (string model)) second, same)
source_is d None v f e = absurd cc

-- ---- names of kinds

abbrev name_of : Kind → List ℕ
name_of kinds.Str = codes "s"
name_of kinds.Int = codes "i"
name_of kinds.Bool = codes "b"
name_of kinds.Lit = codes "e"
name_of kinds.Obj = codes "o"
name_of kinds.Term = codes "t"

by_name : (name text : List ℕ) (k j : Kind) (rest : Option Kind) (b : Bool) → bytes_eq name text ≡ b → text ≡ name_of k → (rest ≡ Some j → name ≡ name_of j)
    → cond b (Some k) rest ≡ Some j → name ≡ name_of j
by_name name text k j rest true f g h e = (bytes_eq-Decides name text).0 f ∙ g ∙ ap name_of (same_Some k j e)
by_name name text k j rest false f g h e = h e

kind_named : (name : List ℕ) (j : Kind) → kind_of name ≡ Some j → name ≡ name_of j
kind_named name j e =
    by_name name (codes "s") kinds.Str j _ _ refl refl
    (by_name name (codes "i") kinds.Int j _ _ refl refl
    (by_name name (codes "b") kinds.Bool j _ _ refl refl
    (by_name name (codes "e") kinds.Lit j _ _ refl refl
    (by_name name (codes "o") kinds.Obj j _ _ refl refl (by_name name (codes "t") kinds.Term j _ _ refl refl (λ f. absurd cc))))))
    e

-- ---- values

text_form : (name : List ℕ) (d : Data) (v : TraceValue) (s t : List ℕ) → name ≡ codes "s" → d ≡ string s → v ≡ values.Str t → t ≡ chars s → IsValue (one name d) v
text_form name d v s t e f g h = rw (e, f, g, h) (IsValue.text s)

integer_form : (name : List ℕ) (d : Data) (v : TraceValue) (n : Num) (i : ℤ) → name ≡ codes "i" → d ≡ number n → v ≡ values.Int i → as_i64 n ≡ Some i → IsValue (one name d) v
integer_form name d v n i e f g h = rw (e, f, g) (IsValue.integer n i h)

flag_form : (name : List ℕ) (d : Data) (v : TraceValue) (b : Bool) → name ≡ codes "b" → d ≡ boolean b → v ≡ values.Bool b → IsValue (one name d) v
flag_form name d v b e f g = rw (e, f, g) (IsValue.flag b)

literal_form : (name : List ℕ) (d : Data) (v : TraceValue) (s t : List ℕ) → name ≡ codes "e" → d ≡ string s → v ≡ values.Lit t → t ≡ chars s → IsValue (one name d) v
literal_form name d v s t e f g h = rw (e, f, g, h) (IsValue.literal s)

source_form : (name : List ℕ) (d : Data) (v : TraceValue) (model id : List ℕ) → name ≡ codes "o" → d ≡ two (string model) (string id)
    → v ≡ values.Obj (chars model) (chars id) → IsValue (one name d) v
source_form name d v model id e f g = rw (e, f, g) (IsValue.source model id)

target_form : (name : List ℕ) (d : Data) (v : TraceValue) (t : TraceTerm) → name ≡ codes "t" → v ≡ values.Term t → IsTerm d t → IsValue (one name d) v
target_form name d v t e g h = rw (e, g) (IsValue.target d t h)

pair_form : (a d : Data) (p : TracePair) (s t : List ℕ) (v : TraceValue) → a ≡ string s → t ≡ chars s → p ≡ pair t v → IsValue d v → IsPair (two a d) p
pair_form a d p s t v e f g h = rw (e, g, f) (IsPair.named s d v h)

term_form : (a : Data) (s : List ℕ) (ds : Items) (t : TraceTerm) (ps : List TracePair) → a ≡ string s → t ≡ term (chars s) ps → ArePairs ds ps → IsTerm (two a (array ds)) t
term_form a s ds t ps e f h = rw (e, f) (IsTerm.keyed s ds ps h)

-- values that are no terms
plain_is : (k : Option Kind) (name : List ℕ) (d : Data) (v : TraceValue) → kind_of name ≡ k → plain_of k d ≡ Ok v → IsValue (one name d) v
plain_is (Some kinds.Str) name d v f e =
    let (t, read, is) = bound (text_of d) (λ x. Ok (values.Str x)) v e in
    let (s, same, chars_of) = text_is d t read in
    text_form name d v s t (kind_named name kinds.Str f) same (sym (same_Ok (values.Str t) v is)) chars_of
plain_is (Some kinds.Int) name d v f e =
    let (i, read, is) = integer_is (option_and_then as_i64 (as_number d)) v e in
    let (n, same, fits) = number_is d i read in
    integer_form name d v n i (kind_named name kinds.Int f) same is fits
plain_is (Some kinds.Bool) name d v f e =
    let (b, read, is) = bound (flag_of d) (λ x. Ok (values.Bool x)) v e in
    flag_form name d v b (kind_named name kinds.Bool f) (flag_is d b read) (sym (same_Ok (values.Bool b) v is))
plain_is (Some kinds.Lit) name d v f e =
    let (t, read, is) = bound (text_of d) (λ x. Ok (values.Lit x)) v e in
    let (s, same, chars_of) = text_is d t read in
    literal_form name d v s t (kind_named name kinds.Lit f) same (sym (same_Ok (values.Lit t) v is)) chars_of
plain_is (Some kinds.Obj) name d v f e =
    let (model, id, same, is) = source_is d (two_of d) v refl e in
    source_form name d v model id (kind_named name kinds.Obj f) same is
plain_is (Some kinds.Term) name d v f e = absurd cc
plain_is None name d v f e = absurd cc

-- a value, where its content is known to be a term if it is read as one
by_kind : (k : Option Kind) (name : List ℕ) (d : Data) (v : TraceValue) → kind_of name ≡ k → ((t : TraceTerm) → term_of d ≡ Ok t → IsTerm d t)
    → value_by k d (term_of d) ≡ Ok v → IsValue (one name d) v
by_kind (Some kinds.Str) name d v f h e = plain_is (Some kinds.Str) name d v f e
by_kind (Some kinds.Int) name d v f h e = plain_is (Some kinds.Int) name d v f e
by_kind (Some kinds.Bool) name d v f h e = plain_is (Some kinds.Bool) name d v f e
by_kind (Some kinds.Lit) name d v f h e = plain_is (Some kinds.Lit) name d v f e
by_kind (Some kinds.Obj) name d v f h e = plain_is (Some kinds.Obj) name d v f e
by_kind (Some kinds.Term) name d v f h e =
    let (t, read, is) = bound (term_of d) (λ x. Ok (values.Term x)) v e in
    target_form name d v t (kind_named name kinds.Term f) (sym (same_Ok (values.Term t) v is)) (h t read)
by_kind None name d v f h e = absurd cc

listed : (b : Bool) (r : Reading (List TracePair)) (ps : List TracePair) → cond b (at (chars (codes "t")) (at (decimal 1) r)) (Err []) ≡ Ok ps → r ≡ Ok ps
listed true r ps e = stepped (decimal 1) r ps (stepped (chars (codes "t")) (at (decimal 1) r) ps e)
listed false r ps e = absurd cc

by_class : (o : Option (List ℕ)) (a : Data) (keys : Reading (List TracePair)) (t : TraceTerm) → as_str a ≡ o → term_by o keys ≡ Ok t
    → (s : List ℕ) × (ps : List TracePair) × (a ≡ string s) × (keys ≡ Ok ps) × (t ≡ term (chars s) ps)
by_class (Some s) a keys t f e =
    let (ps, read, is) = bound keys (λ x. Ok (term (chars s) x)) t e in
    (s, ps, string_is a s f, read, sym (same_Ok (term (chars s) ps) t is))
by_class None a keys t f e = absurd cc

mutual
  value_is : (d : Data) (v : TraceValue) → value_of d ≡ Ok v → IsValue d v
  value_is (object (member name d no_members)) v e = by_kind (kind_of name) name d v refl (term_is d) e
  value_is d v e = absurd cc

  term_is : (d : Data) (t : TraceTerm) → term_of d ≡ Ok t → IsTerm d t
  term_is (array (item class (item keys no_items))) t e =
      let (s, ps, is, read, same) = by_class (as_str class) class (keys_of keys) t refl e in
      keys_are keys class s t ps is same read
  term_is d t e = absurd cc

  keys_are : (keys class : Data) (s : List ℕ) (t : TraceTerm) (ps : List TracePair) → class ≡ string s → t ≡ term (chars s) ps → keys_of keys ≡ Ok ps → IsTerm (two class keys) t
  keys_are (array ds) class s t ps f g e =
      let (rest, same, are) = pairs_are ds [] ps 0 (listed (are_pairs ds) (pairs_of [] 0 ds) ps e) in
      term_form class s ds t ps f g (subst (ArePairs ds) same are)
  keys_are d class s t ps f g e = absurd cc

  pair_is : (d : Data) (p : TracePair) → pair_of d ≡ Ok p → IsPair d p
  pair_is (array (item name (item d no_items))) p e =
      let (t, read, more) = bound (at (decimal 0) (text_of name)) (λ text. named_by text (at (decimal 1) (value_of d))) p e in
      let (v, valued, is) = bound (at (decimal 1) (value_of d)) (λ value. Ok (pair t value)) p more in
      let (s, same, chars_of) = text_is name t (stepped (decimal 0) (text_of name) t read) in
      pair_form name d p s t v same chars_of (sym (same_Ok (pair t v) p is)) (value_is d v (stepped (decimal 1) (value_of d) v valued))
  pair_is d p e = absurd cc

  pairs_are : (ds : Items) (done ps : List TracePair) (place : ℕ) → pairs_of done place ds ≡ Ok ps → (rest : List TracePair) × (done ++ rest ≡ ps) × ArePairs ds rest
  pairs_are no_items done ps place e = ([], append-nil done ∙ same_Ok done ps e, ArePairs.none)
  pairs_are (item d ds) done ps place e =
      let (p, read, more) = bound (at (decimal place) (pair_of d)) (λ x. pairs_of (done ++ x ∷ []) (suc place) ds) ps e in
      let (rest, same, are) = pairs_are ds (done ++ p ∷ []) ps (suc place) more in
      (p ∷ rest, sym (append_assoc done (p ∷ []) rest) ∙ same, ArePairs.first d p ds rest (pair_is d p (stepped (decimal place) (pair_of d) p read)) are)

bindings_are : (d : Data) (ps : List TracePair) → bindings_of d ≡ Ok ps → (ds : Items) × (d ≡ array ds) × ArePairs ds ps
bindings_are (array ds) ps e = let (rest, same, are) = pairs_are ds [] ps 0 e in (ds, refl, subst (ArePairs ds) same are)
bindings_are d ps e = absurd cc

term_placed : (k : Option Kind) (name : List ℕ) (r : Reading TraceTerm) (t : TraceTerm) → kind_of name ≡ k → place_by k r ≡ Ok t → (name ≡ codes "t") × (r ≡ Ok t)
term_placed (Some kinds.Str) name r t f e = absurd cc
term_placed (Some kinds.Int) name r t f e = absurd cc
term_placed (Some kinds.Bool) name r t f e = absurd cc
term_placed (Some kinds.Lit) name r t f e = absurd cc
term_placed (Some kinds.Obj) name r t f e = absurd cc
term_placed (Some kinds.Term) name r t f e = (kind_named name kinds.Term f, e)
term_placed None name r t f e = absurd cc

place_is : (d : Data) (t : TraceTerm) → place_of d ≡ Ok t → (content : Data) × (d ≡ one (codes "t") content) × IsTerm content t
place_is (object (member name d no_members)) t e =
    let (named, read) = term_placed (kind_of name) name (term_of d) t refl e in (d, ap (λ x. one x d) named, term_is d t read)
place_is d t e = absurd cc

-- ---- lists and members

all_is : {X : Type 0} (read : Data → Reading X) (Is : Data → X → Type 0) → ((d : Data) (x : X) → read d ≡ Ok x → Is d x)
    → (ds : Items) (done xs : List X) (place : ℕ) → items_by read done place ds ≡ Ok xs → (rest : List X) × (done ++ rest ≡ xs) × AreAll Is ds rest
all_is read Is is no_items done xs place e = ([], append-nil done ∙ same_Ok done xs e, tt)
all_is read Is is (item d ds) done xs place e =
    let (x, here, more) = bound (at (decimal place) (read d)) (λ y. items_by read (done ++ y ∷ []) (suc place) ds) xs e in
    let (rest, same, are) = all_is read Is is ds (done ++ x ∷ []) xs (suc place) more in
    (x ∷ rest, sym (append_assoc done (x ∷ []) rest) ∙ same, (is d x (stepped (decimal place) (read d) x here), are))

list_is : {X : Type 0} (read : Data → Reading X) (Is : Data → X → Type 0) → ((d : Data) (x : X) → read d ≡ Ok x → Is d x)
    → (d : Data) (xs : List X) → list_by read d ≡ Ok xs → (ds : Items) × (d ≡ array ds) × AreAll Is ds xs
list_is read Is is (array ds) xs e = let (rest, same, are) = all_is read Is is ds [] xs 0 e in (ds, refl, subst (AreAll Is ds) same are)
list_is read Is is d xs e = absurd cc

members_is : (d : Data) (ms : Members) → members_of d ≡ Ok ms → d ≡ object ms
members_is (object os) ms e = ap object (same_Ok os ms e)
members_is d ms e = absurd cc

no_more_is : (ms : Members) (x : ⊤) → no_more ms ≡ Ok x → ms ≡ no_members
no_more_is no_members x e = refl
no_more_is (member name d ms) x e = absurd cc

named_so : (o : Ordering) (name wanted : List ℕ) (d : Data) (ms : Members) (p : Data × Members) → slice_cmp nat_cmp name wanted ≡ o
    → match_ordering o (amiss_at name) (Ok (d, ms)) (amiss_at wanted) ≡ Ok p → member name d ms ≡ member wanted p.0 p.1
named_so Less name wanted d ms p f e = absurd cc
named_so Equal name wanted d ms p f e =
    let same : name ≡ wanted = (bytes_eq-Decides name wanted).0 (sym (is_eq-slice_cmp name wanted) ∙ ap is_eq f) in
    ap (λ x. member x d ms) same ∙ ap (λ (q : Data × Members). member wanted q.0 q.1) (same_Ok (d, ms) p e)
named_so Greater name wanted d ms p f e = absurd cc

taken_is : (wanted : List ℕ) (ms : Members) (p : Data × Members) → taken wanted ms ≡ Ok p → ms ≡ member wanted p.0 p.1
taken_is wanted no_members p e = absurd cc
taken_is wanted (member name d ms) p e = named_so (slice_cmp nat_cmp name wanted) name wanted d ms p refl e

member_is : {X : Type 0} (read : Data → Reading X) (name : List ℕ) (ms : Members) (x : X × Members) → member_by read name ms ≡ Ok x
    → (d : Data) × (ms ≡ member name d x.1) × (read d ≡ Ok x.0)
member_is read name ms x e =
    let (p, first, more) = bound (taken name ms) (λ q. at (chars name) (read q.0) >>= (λ y. Ok (y, q.1))) x e in
    let (y, here, is) = bound (at (chars name) (read p.0)) (λ z. Ok (z, p.1)) x more in
    let same = same_Ok (y, p.1) x is in
    (p.0, taken_is name ms p first ∙ ap (λ z. member name p.0 z.1) same, stepped (chars name) (read p.0) y here ∙ ap (λ z. Ok z.0) same)

-- ---- demands, entries and traces

demand_form : (d d1 d2 d3 content : Data) (x : TraceDemand) (ms l1 l2 l3 : Members) (s n : List ℕ) (t : TraceTerm) (v : TraceValue)
    → d ≡ object ms → ms ≡ member (codes "item") d1 l1 → l1 ≡ member (codes "place") d2 l2 → l2 ≡ member (codes "value") d3 l3 → l3 ≡ no_members
    → d1 ≡ string s → d2 ≡ one (codes "t") content → x ≡ record { item = n; place = t; value = v } → n ≡ chars s → IsTerm content t → IsValue d3 v → IsDemand d x
demand_form d d1 d2 d3 content x ms l1 l2 l3 s n t v e0 e1 e2 e3 e4 e5 e6 e7 e8 h k =
    rw (e0, e1, e2, e3, e4, e5, e6, e7, e8) (IsDemand.demand s content d3 t v h k)

demand_is : (d : Data) (x : TraceDemand) → demand_of d ≡ Ok x → IsDemand d x
demand_is d x e =
    let (ms, outer, e1) = bound (members_of d) _ x e in
    let (named, e2, e3) = bound (member_by text_of (codes "item") ms) _ x e1 in
    let (placed, e4, e5) = bound (member_by place_of (codes "place") named.1) _ x e3 in
    let (valued, e6, e7) = bound (member_by value_of (codes "value") placed.1) _ x e5 in
    let (end, e8, is) = bound (no_more valued.1) _ x e7 in
    let (d1, same1, read1) = member_is text_of (codes "item") ms named e2 in
    let (d2, same2, read2) = member_is place_of (codes "place") named.1 placed e4 in
    let (d3, same3, read3) = member_is value_of (codes "value") placed.1 valued e6 in
    let (s, string1, chars_of) = text_is d1 named.0 read1 in
    let (content, one2, form2) = place_is d2 placed.0 read2 in
    demand_form d d1 d2 d3 content x ms named.1 placed.1 valued.1 s named.0 placed.0 valued.0
    (members_is d ms outer) same1 same2 same3 (no_more_is valued.1 end e8) string1 one2 (sym (same_Ok _ x is)) chars_of form2 (value_is d3 valued.0 read3)

entry_form : (d d1 d2 d3 d4 d5 : Data) (x : TraceEntry) (ms l1 l2 l3 l4 l5 : Members) (b : Bool) (ds gs vs : Items) (s n : List ℕ)
    (demands : List TraceDemand) (made vals : List TracePair)
    → d ≡ object ms → ms ≡ member (codes "called") d1 l1 → l1 ≡ member (codes "demands") d2 l2 → l2 ≡ member (codes "made") d3 l3
    → l3 ≡ member (codes "relation") d4 l4 → l4 ≡ member (codes "values") d5 l5 → l5 ≡ no_members
    → d1 ≡ boolean b → d2 ≡ array ds → d3 ≡ array gs → d4 ≡ string s → d5 ≡ array vs
    → x ≡ record { relation = n; called = b; values = vals; made = made; demands = demands } → n ≡ chars s
    → AreAll IsDemand ds demands → ArePairs gs made → ArePairs vs vals → IsEntry d x
entry_form d d1 d2 d3 d4 d5 x ms l1 l2 l3 l4 l5 b ds gs vs s n demands made vals e0 e1 e2 e3 e4 e5 e6 e7 e8 e9 e10 e11 e12 e13 h k l =
    rw (e0, e1, e2, e3, e4, e5, e6, e7, e8, e9, e10, e11, e12, e13) (IsEntry.entry b ds gs vs s demands made vals h k l)

entry_is : (d : Data) (x : TraceEntry) → entry_of d ≡ Ok x → IsEntry d x
entry_is d x e =
    let (ms, outer, e1) = bound (members_of d) _ x e in
    let (flagged, e2, e3) = bound (member_by flag_of (codes "called") ms) _ x e1 in
    let (asked, e4, e5) = bound (member_by (list_by demand_of) (codes "demands") flagged.1) _ x e3 in
    let (new, e6, e7) = bound (member_by bindings_of (codes "made") asked.1) _ x e5 in
    let (named, e8, e9) = bound (member_by text_of (codes "relation") new.1) _ x e7 in
    let (bindings, e10, e11) = bound (member_by bindings_of (codes "values") named.1) _ x e9 in
    let (end, e12, is) = bound (no_more bindings.1) _ x e11 in
    let (d1, same1, read1) = member_is flag_of (codes "called") ms flagged e2 in
    let (d2, same2, read2) = member_is (list_by demand_of) (codes "demands") flagged.1 asked e4 in
    let (d3, same3, read3) = member_is bindings_of (codes "made") asked.1 new e6 in
    let (d4, same4, read4) = member_is text_of (codes "relation") new.1 named e8 in
    let (d5, same5, read5) = member_is bindings_of (codes "values") named.1 bindings e10 in
    let (ds, array2, form2) = list_is demand_of IsDemand demand_is d2 asked.0 read2 in
    let (gs, array3, form3) = bindings_are d3 new.0 read3 in
    let (s, string4, chars_of) = text_is d4 named.0 read4 in
    let (vs, array5, form5) = bindings_are d5 bindings.0 read5 in
    entry_form d d1 d2 d3 d4 d5 x ms flagged.1 asked.1 new.1 named.1 bindings.1 flagged.0 ds gs vs s named.0 asked.0 new.0 bindings.0
    (members_is d ms outer) same1 same2 same3 same4 same5 (no_more_is bindings.1 end e12)
    (flag_is d1 flagged.0 read1) array2 array3 string4 array5 (sym (same_Ok _ x is)) chars_of form2 form3 form5

one_is : (n : ℕ) (x : ⊤) (b : Bool) → (n == 1) ≡ b → ◌≡◌ {A = Reading ⊤} (cond b (Ok tt) (Err [])) (Ok x) → number (unsigned n) ≡ number (unsigned 1)
one_is n x true f g = ap (λ m. number (unsigned m)) (eqb-true n 1 f)
one_is n x false f g = absurd cc

version_is : (d : Data) (x : ⊤) → version_of d ≡ Ok x → d ≡ number (unsigned 1)
version_is (number (unsigned n)) x e = one_is n x (n == 1) refl e
version_is d x e = absurd cc

trace_form : (d d1 d2 d3 d4 : Data) (x : Trace) (ms l1 l2 l3 l4 : Members) (ds : Items) (s t m n : List ℕ) (entries : List TraceEntry)
    → d ≡ object ms → ms ≡ member (codes "entries") d1 l1 → l1 ≡ member (codes "target") d2 l2 → l2 ≡ member (codes "transformation") d3 l3
    → l3 ≡ member (codes "version") d4 l4 → l4 ≡ no_members
    → d1 ≡ array ds → d2 ≡ string s → d3 ≡ string t → d4 ≡ number (unsigned 1)
    → x ≡ record { transformation = n; target = m; entries = entries } → m ≡ chars s → n ≡ chars t → AreAll IsEntry ds entries → IsTrace d x
trace_form d d1 d2 d3 d4 x ms l1 l2 l3 l4 ds s t m n entries e0 e1 e2 e3 e4 e5 e6 e7 e8 e9 e10 e11 e12 h =
    rw (e0, e1, e2, e3, e4, e5, e6, e7, e8, e9, e10, e11, e12) (IsTrace.trace ds s t entries h)

pub trace_is : (d : Data) (x : Trace) → trace_of d ≡ Ok x → IsTrace d x
trace_is d x e =
    let (ms, outer, e1) = bound (members_of d) _ x e in
    let (listing, e2, e3) = bound (member_by (list_by entry_of) (codes "entries") ms) _ x e1 in
    let (aimed, e4, e5) = bound (member_by text_of (codes "target") listing.1) _ x e3 in
    let (named, e6, e7) = bound (member_by text_of (codes "transformation") aimed.1) _ x e5 in
    let (numbered, e8, e9) = bound (member_by version_of (codes "version") named.1) _ x e7 in
    let (end, e10, is) = bound (no_more numbered.1) _ x e9 in
    let (d1, same1, read1) = member_is (list_by entry_of) (codes "entries") ms listing e2 in
    let (d2, same2, read2) = member_is text_of (codes "target") listing.1 aimed e4 in
    let (d3, same3, read3) = member_is text_of (codes "transformation") aimed.1 named e6 in
    let (d4, same4, read4) = member_is version_of (codes "version") named.1 numbered e8 in
    let (ds, array1, form1) = list_is entry_of IsEntry entry_is d1 listing.0 read1 in
    let (s, string2, chars2) = text_is d2 aimed.0 read2 in
    let (t, string3, chars3) = text_is d3 named.0 read3 in
    trace_form d d1 d2 d3 d4 x ms listing.1 aimed.1 named.1 numbered.1 ds s t aimed.0 named.0 listing.0
    (members_is d ms outer) same1 same2 same3 same4 (no_more_is numbered.1 end e10) array1 string2 string3 (version_is d4 numbered.0 read4)
    (sym (same_Ok _ x is)) chars2 chars3 form1

pub read_exactly : (d : Data) (t : Trace) → (trace_of d ≡ Ok t) ↔ IsTrace d t
read_exactly d t = (trace_is d t, trace_read d t)
