-- What bytes that are read whole are made of: the pieces of a document, read backwards from their end.
use Rattle.std.proofs.Common.{◌≡◌, ℕ, ◌<◌, Bool, true, false, List, [], ◌∷◌, ◌++◌, refl, sym, ◌∙◌, ap, subst, arith, append_assoc, append-nil, true≢false}
use Rattle.std.proofs.lemmas.Bool.{and_parts, and_from, or_from, both_ways, false_from_ne_true}
use Rattle.std.proofs.lemmas.Str.{encode_ascii}
use Rattle.std.specs.Prelude.{◌==◌, ◌||◌, ◌&&◌, not}
use Rattle.std.specs.List.{list_all}
use lib.Utf8.{encode, encodes, scalar, scalars, low_scalar}
use Rattle.mof_metamodel.specs.Characters.{is_blank, is_storable_character, is_storable_text}
use Rattle.xmi_text.specs.Names.{goes_on, is_name}
use Rattle.xmi_text.specs.Writing.{has}
use Rattle.xmi_text.specs.Markup.{begins, contains, starts, are_apart, ValuePart, Literal, is_literal, is_value_character, is_part, value_text, Attribute, IsAttribute, attributes_text, AreAttributes, IsTag, Piece, Characters, Referred, Cdata, Comment, Instruction, StartTag, EmptyTag, EndTag, piece_text, is_content_character, IsUpTo, IsPiece, IsAround, AllAround, is_characters, open_behind, Fits, Closing, IsRoot, texts}

-- ---- bytes and characters

pub record Spelt (bytes cs : List ℕ) : Type 0 where
  pub is : bytes ≡ encodes cs
  pub scalars : scalars cs ≡ true

pub spelt_low : (b : ℕ) (bytes cs : List ℕ) → b < 128 → Spelt bytes cs → Spelt (b ∷ bytes) (b ∷ cs)
spelt_low b bytes cs h e = record {
  is = ap (λ xs. b ∷ xs) e.is ∙ sym (ap (λ xs. xs ++ encodes cs) (encode_ascii b h));
  scalars = and_from (scalar b) (scalars cs) (low_scalar b (omega arith)) e.scalars;
}

pub spelt_far : (c : ℕ) (more bytes cs : List ℕ) → more ≡ encode c → scalar c ≡ true → Spelt bytes cs → Spelt (more ++ bytes) (c ∷ cs)
spelt_far c more bytes cs m s e = record {
  is = ap (λ xs. xs ++ bytes) m ∙ ap (λ xs. encode c ++ xs) e.is;
  scalars = and_from (scalar c) (scalars cs) s e.scalars;
}

-- ---- pieces in a row, before, in and behind the root element

abbrev pub rooted_behind : Bool → Piece → Bool
rooted_behind rooted (StartTag tag) = true
rooted_behind rooted (EmptyTag tag) = true
rooted_behind rooted _ = rooted

abbrev pub Outer : Bool → Piece → Type 0
Outer rooted (Characters text) = list_all is_blank text ≡ true
Outer rooted (Comment text) = IsPiece (Comment text)
Outer rooted (Instruction target text) = IsPiece (Instruction target text)
Outer rooted (StartTag tag) = (rooted ≡ false) × IsTag tag
Outer rooted (EmptyTag tag) = (rooted ≡ false) × IsTag tag
Outer rooted _ = ⊥

abbrev pub Fit : Bool → List (List ℕ) → Piece → Type 0
Fit rooted [] p = Outer rooted p
Fit rooted (name ∷ names) p = IsPiece p × Fits (name ∷ names) p

abbrev pub Row : Bool → List (List ℕ) → List Piece → Type 0
Row rooted [] [] = rooted ≡ true
Row rooted (name ∷ names) [] = ⊥
Row rooted names (p ∷ ps) = Fit rooted names p × Row (rooted_behind rooted p) (open_behind names p) ps

-- characters of a text, and pieces
pub record Content (rooted : Bool) (names : List (List ℕ)) (cs : List ℕ) : Type 0 where
  pub text : List ℕ
  pub pieces : List Piece
  pub is : cs ≡ text ++ texts pieces
  pub fits : Row rooted names (Characters text ∷ pieces)
  pub first : starts is_characters pieces ≡ false
  pub apart : are_apart is_characters pieces ≡ true

no_characters : (rooted : Bool) (names : List (List ℕ)) → Fit rooted names (Characters [])
no_characters rooted [] = refl
no_characters rooted (name ∷ names) = (refl, tt)

row_to : (rooted : Bool) (names : List (List ℕ)) (p : Piece) (ps : List Piece) → Fit rooted names p → Row (rooted_behind rooted p) (open_behind names p) ps → Row rooted names (p ∷ ps)
row_to rooted [] p ps f r = (f, r)
row_to rooted (name ∷ names) p ps f r = (f, r)

row_fit : (rooted : Bool) (names : List (List ℕ)) (p : Piece) (ps : List Piece) → Row rooted names (p ∷ ps) → Fit rooted names p
row_fit rooted [] p ps r = r.0
row_fit rooted (name ∷ names) p ps r = r.0

row_rest : (rooted : Bool) (names : List (List ℕ)) (p : Piece) (ps : List Piece) → Row rooted names (p ∷ ps) → Row (rooted_behind rooted p) (open_behind names p) ps
row_rest rooted [] p ps r = r.1
row_rest rooted (name ∷ names) p ps r = r.1

-- a piece before content
pub with_piece : (rooted : Bool) (names : List (List ℕ)) (p : Piece) (cs : List ℕ) → Fit rooted names p → is_characters p ≡ false → Content (rooted_behind rooted p) (open_behind names p) cs → Content rooted names (piece_text p ++ cs)
with_piece rooted names p cs f n k = record {
  text = [];
  pieces = p ∷ Characters k.text ∷ k.pieces;
  is = ap (λ xs. piece_text p ++ xs) k.is;
  fits = row_to rooted names (Characters []) (p ∷ Characters k.text ∷ k.pieces) (no_characters rooted names) (row_to rooted names p (Characters k.text ∷ k.pieces) f k.fits);
  first = n;
  apart = and_from (not (is_characters p && true)) _ (ap (λ b. not (b && true)) n)
      (and_from (not (true && starts is_characters k.pieces)) (are_apart is_characters k.pieces) (ap not k.first) k.apart);
}

-- a character of a text
abbrev pub Char : List (List ℕ) → ℕ → Type 0
Char [] c = is_blank c ≡ true
Char (name ∷ names) c = is_content_character c ≡ true

longer_text : (rooted : Bool) (names : List (List ℕ)) (c : ℕ) (text : List ℕ) → Char names c → Fit rooted names (Characters text) → Fit rooted names (Characters (c ∷ text))
longer_text rooted [] c text h f = and_from (is_blank c) (list_all is_blank text) h f
longer_text rooted (name ∷ names) c text h f = (and_from (is_content_character c) (list_all is_content_character text) h f.0, tt)

pub with_character : (rooted : Bool) (names : List (List ℕ)) (c : ℕ) (cs : List ℕ) → Char names c → Content rooted names cs → Content rooted names (c ∷ cs)
with_character rooted names c cs h k = record {
  text = c ∷ k.text;
  pieces = k.pieces;
  is = ap (λ xs. c ∷ xs) k.is;
  fits = row_to rooted names (Characters (c ∷ k.text)) k.pieces (longer_text rooted names c k.text h (row_fit rooted names (Characters k.text) k.pieces k.fits)) (row_rest rooted names (Characters k.text) k.pieces k.fits);
  first = k.first;
  apart = k.apart;
}

pub nothing_more : Content true [] []
nothing_more = record { text = []; pieces = []; is = refl; fits = (refl, refl); first = refl; apart = refl }

-- ---- a row is a document

record Inner (names : List (List ℕ)) (ps : List Piece) : Type 0 where
  inner : List Piece
  after : List Piece
  is : texts ps ≡ texts inner ++ texts after
  closing : Closing names inner
  apart : are_apart is_characters inner ≡ true
  first : starts is_characters inner ≡ true → starts is_characters ps ≡ true
  around : AllAround after

all_around : (ps : List Piece) → Row true [] ps → AllAround ps
all_around [] r = tt
all_around (Characters text ∷ ps) r = (r.0, all_around ps r.1)
all_around (Comment text ∷ ps) r = (r.0, all_around ps r.1)
all_around (Instruction target text ∷ ps) r = (r.0, all_around ps r.1)
all_around (StartTag tag ∷ ps) r = absurd (true≢false r.0.0)
all_around (EmptyTag tag ∷ ps) r = absurd (true≢false r.0.0)
all_around (Referred reference ∷ ps) r = absurd r.0
all_around (Cdata text ∷ ps) r = absurd r.0
all_around (EndTag name blanks ∷ ps) r = absurd r.0

rooted_stays : (p : Piece) → rooted_behind true p ≡ true
rooted_stays (StartTag tag) = refl
rooted_stays (EmptyTag tag) = refl
rooted_stays _ = refl

split_apart : (a b c : Bool) → not (a && b) ≡ true → (c ≡ true → b ≡ true) → not (a && c) ≡ true
split_apart true true c e f = absurd (true≢false (sym e))
split_apart true false true e f = absurd (true≢false (sym (f refl)))
split_apart true false false e f = refl
split_apart false b c e f = refl

split_inner : (ps : List Piece) (names : List (List ℕ)) → Row true names ps → are_apart is_characters ps ≡ true → Inner names ps
split_inner ps [] r a = record { inner = []; after = ps; is = refl; closing = tt; apart = refl; first = λ e. absurd (true≢false (sym e)); around = all_around ps r }
split_inner [] (name ∷ names) r a = absurd r
split_inner (p ∷ ps) (name ∷ names) r a =
    let parts = and_parts (not (is_characters p && starts is_characters ps)) (are_apart is_characters ps) a in
    let row : Row true (open_behind (name ∷ names) p) ps = subst (λ (b : Bool). Row b (open_behind (name ∷ names) p) ps) (rooted_stays p) r.1 in
    let i = split_inner ps (open_behind (name ∷ names) p) row parts.1 in
    record {
      inner = p ∷ i.inner;
      after = i.after;
      is = ap (λ xs. piece_text p ++ xs) i.is ∙ sym (append_assoc (piece_text p) (texts i.inner) (texts i.after));
      closing = (r.0.0, r.0.1, i.closing);
      apart = and_from (not (is_characters p && starts is_characters i.inner)) (are_apart is_characters i.inner)
          (split_apart (is_characters p) (starts is_characters ps) (starts is_characters i.inner) parts.0 i.first) i.apart;
      first = λ e. e;
      around = i.around;
    }

pub record Split (ps : List Piece) : Type 0 where
  pub before : List Piece
  pub root : Piece
  pub inner : List Piece
  pub after : List Piece
  pub is : texts ps ≡ texts before ++ (texts (root ∷ inner) ++ texts after)
  pub around : AllAround before
  pub root_is : IsRoot root
  pub closing : Closing (open_behind [] root) inner
  pub apart : are_apart is_characters inner ≡ true
  pub behind : AllAround after

with_before : (p : Piece) (ps : List Piece) → IsAround p → Split ps → Split (p ∷ ps)
with_before p ps f k = record {
  before = p ∷ k.before;
  root = k.root;
  inner = k.inner;
  after = k.after;
  is = ap (λ xs. piece_text p ++ xs) k.is ∙ sym (append_assoc (piece_text p) (texts k.before) (texts (k.root ∷ k.inner) ++ texts k.after));
  around = (f, k.around);
  root_is = k.root_is;
  closing = k.closing;
  apart = k.apart;
  behind = k.behind;
}

pub split : (ps : List Piece) → Row false [] ps → are_apart is_characters ps ≡ true → Split ps
split [] r a = absurd (true≢false (sym r))
split (Characters text ∷ ps) r a = with_before (Characters text) ps r.0 (split ps r.1 (and_parts (not (starts is_characters ps)) (are_apart is_characters ps) a).1)
split (Comment text ∷ ps) r a = with_before (Comment text) ps r.0 (split ps r.1 a)
split (Instruction target text ∷ ps) r a = with_before (Instruction target text) ps r.0 (split ps r.1 a)
split (StartTag tag ∷ ps) r a =
    let i = split_inner ps (tag.name ∷ []) r.1 a in
    record {
      before = [];
      root = StartTag tag;
      inner = i.inner;
      after = i.after;
      is = ap (λ xs. piece_text (StartTag tag) ++ xs) i.is ∙ sym (append_assoc (piece_text (StartTag tag)) (texts i.inner) (texts i.after));
      around = tt;
      root_is = r.0.1;
      closing = i.closing;
      apart = i.apart;
      behind = i.around;
    }
split (EmptyTag tag ∷ ps) r a = record {
  before = [];
  root = EmptyTag tag;
  inner = [];
  after = ps;
  is = ap (λ xs. xs ++ texts ps) (sym (append-nil (piece_text (EmptyTag tag))));
  around = tt;
  root_is = r.0.1;
  closing = tt;
  apart = refl;
  behind = all_around ps r.1;
}
split (Referred reference ∷ ps) r a = absurd r.0
split (Cdata text ∷ ps) r a = absurd r.0
split (EndTag name blanks ∷ ps) r a = absurd r.0

-- ---- what stands in a piece

-- text up to its end, and content
pub record Aside (end : List ℕ) (rooted : Bool) (names : List (List ℕ)) (cs : List ℕ) : Type 0 where
  pub text : List ℕ
  pub rest : List ℕ
  pub is : cs ≡ text ++ (end ++ rest)
  pub up_to : IsUpTo end text
  pub more : Content rooted names rest

begins_longer : (part xs ys : List ℕ) → begins part xs ≡ true → begins part (xs ++ ys) ≡ true
begins_longer [] xs ys e = refl
begins_longer (p ∷ part) [] ys e = absurd (true≢false (sym e))
begins_longer (p ∷ part) (x ∷ xs) ys e =
    let q = and_parts (p == x) (begins part xs) e in and_from (p == x) (begins part (xs ++ ys)) q.0 (begins_longer part xs ys q.1)

pub aside_more : (end : List ℕ) (rooted : Bool) (names : List (List ℕ)) (c : ℕ) (cs : List ℕ) → is_storable_character c ≡ true → begins end (c ∷ cs) ≡ false → Aside end rooted names cs → Aside end rooted names (c ∷ cs)
aside_more end rooted names c cs s n k = record {
  text = c ∷ k.text;
  rest = k.rest;
  is = ap (λ xs. c ∷ xs) k.is;
  up_to = (
    and_from (is_storable_character c) (is_storable_text k.text) s k.up_to.0,
    or_from (begins end (c ∷ k.text)) (contains end k.text)
        (false_from_ne_true (begins end (c ∷ k.text)) (λ e. both_ways (begins end (c ∷ cs)) n (ap (λ xs. begins end (c ∷ xs)) k.is ∙ begins_longer end (c ∷ k.text) (end ++ k.rest) e)))
        k.up_to.1,
  );
  more = k.more;
}

-- the rest of a tag
abbrev pub tag_tail : Bool → List ℕ
tag_tail true = 47 ∷ 62 ∷ []
tag_tail false = 62 ∷ []

abbrev pub within_tag : Bool → List (List ℕ) → List ℕ → List (List ℕ)
within_tag true names tag = names
within_tag false names tag = tag ∷ names

pub record Tail (names : List (List ℕ)) (tag : List ℕ) (seen : List (List ℕ)) (cs : List ℕ) : Type 0 where
  pub attributes : List Attribute
  pub blanks : List ℕ
  pub empty : Bool
  pub rest : List ℕ
  pub is : cs ≡ attributes_text attributes ++ (blanks ++ (tag_tail empty ++ rest))
  pub are : AreAttributes seen attributes
  pub blank : list_all is_blank blanks ≡ true
  pub more : Content true (within_tag empty names tag) rest

pub tail_end : (names : List (List ℕ)) (tag : List ℕ) (seen : List (List ℕ)) (empty : Bool) (cs : List ℕ) → Content true (within_tag empty names tag) cs → Tail names tag seen (tag_tail empty ++ cs)
tail_end names tag seen empty cs k = record { attributes = []; blanks = []; empty = empty; rest = cs; is = refl; are = tt; blank = refl; more = k }

blank_before : (b : ℕ) (a : Attribute) → is_blank b ≡ true → IsAttribute a → IsAttribute (record a { before = b ∷ a.before })
blank_before b a h k = record {
  parted = h;
  before = and_from (is_blank b) (list_all is_blank a.before) h k.before;
  name = k.name;
  behind_name = k.behind_name;
  before_value = k.before_value;
  quote = k.quote;
  value = k.value;
  runs = k.runs;
}

tail_by : (names : List (List ℕ)) (tag : List ℕ) (seen : List (List ℕ)) (b : ℕ) (cs : List ℕ) (attributes : List Attribute) (blanks : List ℕ) (empty : Bool) (rest : List ℕ) → is_blank b ≡ true → cs ≡ attributes_text attributes ++ (blanks ++ (tag_tail empty ++ rest)) → AreAttributes seen attributes → list_all is_blank blanks ≡ true → Content true (within_tag empty names tag) rest → Tail names tag seen (b ∷ cs)
tail_by names tag seen b cs [] blanks empty rest h e r l k = record {
  attributes = [];
  blanks = b ∷ blanks;
  empty = empty;
  rest = rest;
  is = ap (λ xs. b ∷ xs) e;
  are = tt;
  blank = and_from (is_blank b) (list_all is_blank blanks) h l;
  more = k;
}
tail_by names tag seen b cs (a ∷ attributes) blanks empty rest h e r l k = record {
  attributes = record a { before = b ∷ a.before } ∷ attributes;
  blanks = blanks;
  empty = empty;
  rest = rest;
  is = ap (λ xs. b ∷ xs) e;
  are = (blank_before b a h r.0, r.1, r.2);
  blank = l;
  more = k;
}

pub tail_blank : (names : List (List ℕ)) (tag : List ℕ) (seen : List (List ℕ)) (b : ℕ) (cs : List ℕ) → is_blank b ≡ true → Tail names tag seen cs → Tail names tag seen (b ∷ cs)
tail_blank names tag seen b cs h k = tail_by names tag seen b cs k.attributes k.blanks k.empty k.rest h k.is k.are k.blank k.more

-- the rest of a value, of what stands before it, and of a name
pub record Quoted (names : List (List ℕ)) (tag : List ℕ) (seen : List (List ℕ)) (q : ℕ) (cs : List ℕ) : Type 0 where
  pub text : List ℕ
  pub parts : List ValuePart
  pub rest : List ℕ
  pub is : cs ≡ (text ++ value_text parts) ++ q ∷ rest
  pub characters : list_all (is_value_character q) text ≡ true
  pub all : list_all (is_part q) parts ≡ true
  pub first : starts is_literal parts ≡ false
  pub apart : are_apart is_literal parts ≡ true
  pub more : Tail names tag seen rest

pub record Valued (names : List (List ℕ)) (tag : List ℕ) (seen : List (List ℕ)) (cs : List ℕ) : Type 0 where
  pub before : List ℕ
  pub quote : ℕ
  pub rest : List ℕ
  pub is : cs ≡ before ++ quote ∷ rest
  pub blank : list_all is_blank before ≡ true
  pub quotes : ((quote == 34) || (quote == 39)) ≡ true
  pub more : Quoted names tag seen quote rest

pub record Equals (names : List (List ℕ)) (tag : List ℕ) (seen : List (List ℕ)) (cs : List ℕ) : Type 0 where
  pub behind : List ℕ
  pub rest : List ℕ
  pub is : cs ≡ behind ++ 61 ∷ rest
  pub blank : list_all is_blank behind ≡ true
  pub more : Valued names tag seen rest

pub record Naming (colon : Bool) (names : List (List ℕ)) (tag : List ℕ) (seen : List (List ℕ)) (name : List ℕ) (cs : List ℕ) : Type 0 where
  pub letters : List ℕ
  pub rest : List ℕ
  pub is : cs ≡ letters ++ rest
  pub goes : goes_on colon letters ≡ true
  pub new : has seen (name ++ letters) ≡ false
  pub more : Equals names tag (seen ++ (name ++ letters) ∷ []) rest

pub record Titled (colon : Bool) (names : List (List ℕ)) (name : List ℕ) (known : List (List ℕ)) (cs : List ℕ) : Type 0 where
  pub letters : List ℕ
  pub rest : List ℕ
  pub is : cs ≡ letters ++ rest
  pub goes : goes_on colon letters ≡ true
  pub more : Tail names (name ++ letters) known rest

five : (b : ℕ) (name behind before text value : List ℕ) (q : ℕ) (more rest : List ℕ) → b ∷ (name ++ (behind ++ 61 ∷ (before ++ q ∷ ((text ++ value) ++ q ∷ (more ++ rest))))) ≡ ((b ∷ []) ++ (name ++ (behind ++ (61 ∷ (before ++ (q ∷ ((text ++ value) ++ q ∷ []))))))) ++ more ++ rest
five b name behind before text value q more rest = simp append_assoc

-- an attribute, and the rest of its tag
pub attribute_tail : (names : List (List ℕ)) (tag : List ℕ) (seen : List (List ℕ)) (b c : ℕ) (cs : List ℕ) → is_blank b ≡ true → ((letters : List ℕ) → goes_on false letters ≡ true → is_name (c ∷ letters) ≡ true) → Naming false names tag seen (c ∷ []) cs → Tail names tag seen (b ∷ c ∷ cs)
attribute_tail names tag seen b c cs h named k =
    let name : List ℕ = c ∷ k.letters in
    let e = k.more in
    let v = e.more in
    let q = v.more in
    let t = q.more in
    let a : Attribute = record { before = b ∷ []; name = name; behind_name = e.behind; before_value = v.before; quote = v.quote; value = Literal q.text ∷ q.parts } in
    let behind : List ℕ = t.blanks ++ (tag_tail t.empty ++ t.rest) in
    record {
      attributes = a ∷ t.attributes;
      blanks = t.blanks;
      empty = t.empty;
      rest = t.rest;
      is = ap (λ xs. b ∷ c ∷ xs) (k.is ∙ ap (λ xs. k.letters ++ xs) (e.is ∙ ap (λ xs. e.behind ++ 61 ∷ xs) (v.is ∙ ap (λ xs. v.before ++ v.quote ∷ xs) (q.is ∙ ap (λ xs. (q.text ++ value_text q.parts) ++ v.quote ∷ xs) t.is))))
          ∙ five b name e.behind v.before q.text (value_text q.parts) v.quote (attributes_text t.attributes) behind;
      are = (
        record {
          parted = h;
          before = and_from (is_blank b) true h refl;
          name = named k.letters k.goes;
          behind_name = e.blank;
          before_value = v.blank;
          quote = v.quotes;
          value = and_from (list_all (is_value_character v.quote) q.text) (list_all (is_part v.quote) q.parts) q.characters q.all;
          runs = and_from (not (true && starts is_literal q.parts)) (are_apart is_literal q.parts) (ap not q.first) q.apart;
        },
        k.new,
        t.are,
      );
      blank = t.blank;
      more = t.more;
    }
