-- Faults of attributes: a name that its tag has already.
use Rattle.std.proofs.Common.{◌≡◌, ℕ, ◌+◌, ◌≤◌, ◌<◌, ◌⊎◌, Bool, true, false, List, [], ◌∷◌, ◌++◌, length, take, replicate, zero, suc, refl, sym, ◌∙◌, ap, subst, arith, Option, Some, None, inl, inr, append_assoc, append-nil, length-append, codes}
use Rattle.std.proofs.Math.Seq.{take-length}
use Rattle.std.proofs.lemmas.List.{length-replicate}
use Rattle.std.proofs.lemmas.Bool.{and_parts, and_from, cond-true, cond-false, le-leb, leb-true, or_left, or_right, ne_eqb}
use Rattle.std.proofs.lemmas.Str.{encode_ascii, encodes-append}
use Rattle.std.specs.Prelude.{◌==◌, ◌||◌, ◌&&◌, not, nat_le}
use Rattle.std.specs.List.{list_all}
use Rattle.std.specs.Str.{all_scalars}
use lib.Utf8.{encode, encodes, scalar, scalars, low_scalar}
use Rattle.mof_metamodel.specs.Characters.{is_storable_character}
use Rattle.xmi_text.specs.ByteClass.{is_blank, begins_name, continues_name, holds_in_name}
use Rattle.xmi_text.specs.AttrNames.{has_name}
use Rattle.xmi_text.specs.Names.{is_far, is_name, goes_on}
use Rattle.xmi_text.specs.States.{go, fail, cleared, cleared_by}
use Rattle.xmi_text.specs.Automaton as automaton
use Rattle.xmi_text.specs.Automaton.{step, end_fault, fault_at}
use Rattle.xmi_text.specs.Reading.{state_from, state_of, fault_of, end_fault_of}
use Rattle.xmi_text.specs.Completion.{size}
use Rattle.xmi_text.specs.Markup.{Begins}
use Rattle.xmi_text.specs.Faults.{May, IsDuplicate}
use Rattle.xmi_text.specs.declared.error.TextFault.{TextFault}
use Rattle.xmi_text.specs.declared.error.TextKind.TheVariants as kinds
use Rattle.xmi_text.specs.declared.mark.Attr.{Attr}
use Rattle.xmi_text.specs.declared.utf_eight.Partial.{Partial}
use Rattle.xmi_text.specs.declared.state.State.{State}
use Rattle.xmi_text.specs.declared.state.Mode.{Mode}
use Rattle.xmi_text.specs.declared.state.Mode.TheVariants as modes
use Rattle.xmi_text.specs.declared.state.Ready.{Ready}
use Rattle.xmi_text.specs.declared.state.Ready.TheVariants as ready
use Rattle.xmi_text.proofs.completion.Sound.{sound_of}
use Rattle.xmi_text.proofs.reading.Reached.{state_of-append}
use Rattle.xmi_text.proofs.reading.Staying.{fault_stays, failed_mode}
use Rattle.xmi_text.proofs.completion.Completing.{longest}
use Rattle.xmi_text.proofs.backward.Backfar.{storable_far, small_scalar}
use Rattle.xmi_text.proofs.backward.Backsteps.{scalars_push}
use Rattle.xmi_text.proofs.faults.Reasons.{Goes, Character, Opens, GoesOn, Came, IsTwin, Reason, step_led}
use Rattle.xmi_text.proofs.faults.History.{Cutting, IsHeld, fails, Early, held_at, cut_of, bits_for, fills_whole, cleared_partial, goes_or_failed}
use Rattle.xmi_text.proofs.backward.Backward.{in_mode}
use Rattle.xmi_text.proofs.faults.Probing.{may, may_not, take_front, stands}
use Rattle.xmi_text.proofs.faults.Entities.{low_bytes, is_low}

-- ---- the name of an attribute

-- a name so far, with a colon or without
record Prefix (colon : Bool) (name : List ℕ) : Type 0 where
  first : ℕ
  rest : List ℕ
  is : name ≡ first ∷ rest
  begins : (begins_name first || is_far first) ≡ true
  goes : (more : List ℕ) → goes_on false (rest ++ more) ≡ goes_on colon more

prefix_name : (colon : Bool) (name : List ℕ) → Prefix colon name → is_name name ≡ true
prefix_name colon name p =
    ap is_name p.is ∙ and_from (begins_name p.first || is_far p.first) (goes_on false p.rest) p.begins (ap (goes_on false) (sym (append-nil p.rest)) ∙ p.goes [])

one_prefix : (c : ℕ) → (begins_name c || is_far c) ≡ true → Prefix false (c ∷ [])
one_prefix c e = record { first = c; rest = []; is = refl; begins = e; goes = λ more. refl }

more_prefix : (earlier colon : Bool) (name : List ℕ) (c : ℕ) → ((more : List ℕ) → goes_on earlier (c ∷ more) ≡ goes_on colon more) → Prefix earlier name → Prefix colon (name ++ c ∷ [])
more_prefix earlier colon name c f p = record {
  first = p.first;
  rest = p.rest ++ c ∷ [];
  is = ap (λ x. x ++ c ∷ []) p.is;
  begins = p.begins;
  goes = λ more. ap (goes_on false) (append_assoc p.rest (c ∷ []) more) ∙ p.goes (c ∷ more) ∙ f more;
}

-- bytes that end with a blank
record Behind (xs : List ℕ) : Type 0 where
  front : List ℕ
  blank : ℕ
  is : xs ≡ front ++ blank ∷ []
  blanks : is_blank blank ≡ true

-- bytes that end with an attribute's name
record Attributed (xs name : List ℕ) (at : ℕ) (colon : Bool) : Type 0 where
  before : List ℕ
  behind : Behind before
  is : xs ≡ before ++ encodes name
  place : length before ≡ at
  mode : (state_of before).mode ≡ modes.Tag
  none : (state_of before).partial ≡ None
  prefix : Prefix colon name
  scalars : all_scalars name ≡ true

abbrev AttrHeld : List ℕ → Attr → Mode → Type 0
AttrHeld xs a modes.Tag = Behind xs
AttrHeld xs a (modes.AttrName colon) = Attributed xs a.name a.at colon
AttrHeld xs a _ = Unit {0}

-- ---- one more byte

-- all bytes of a character
record Over (ys : List ℕ) (s : State) (m : Mode) (c lead : ℕ) : Type 0 where
  zs : List ℕ
  is : ys ≡ zs ++ encode c
  place : length zs ≡ lead
  mode : (state_of zs).mode ≡ m
  none : (state_of zs).partial ≡ None
  attr : (state_of zs).attr ≡ s.attr
  ok : scalar c ≡ true
  far : (s.partial ≡ None) ⊎ (is_far c ≡ true)
  held : AttrHeld zs s.attr m

abbrev Prior : List ℕ → ℕ → Type 0
Prior bytes n = (zs d : List ℕ) → bytes ≡ zs ++ d → length zs ≤ n → (state_of zs).partial ≡ None → AttrHeld zs (state_of zs).attr (state_of zs).mode

over : (bytes xs : List ℕ) (b : ℕ) (d : List ℕ) (m : Mode) (c lead : ℕ) → bytes ≡ xs ++ b ∷ d → (state_of xs).mode ≡ m → Goes (state_of xs).mode → Prior bytes (length xs) → Character (state_of xs) (length xs) b c lead → Over (xs ++ b ∷ []) (state_of xs) m c lead
over bytes xs b d m c lead e k g prior (inl w) = record {
  zs = xs;
  is = ap (λ y. xs ++ y ∷ []) (sym w.1) ∙ ap (λ y. xs ++ y) (sym (encode_ascii c (subst (λ y. y < 128) (sym w.1) w.2)));
  place = sym w.3;
  mode = k;
  none = w.0;
  attr = refl;
  ok = low_scalar c (omega (arith, w.1, w.2));
  far = inl w.0;
  held = subst (AttrHeld xs (state_of xs).attr) k (prior xs (b ∷ d) e (omega arith) w.0);
}
over bytes xs b d m c lead e k g prior (inr w) =
    let s : State = state_of xs in
    let front : take (length xs) bytes ≡ xs = take_front bytes xs (b ∷ d) (length xs) e refl in
    let many : length xs ≤ length bytes = omega (arith, ap (length {A = ℕ}) e, length-append xs (b ∷ d)) in
    let held : IsHeld xs s = subst (λ ys. IsHeld ys (state_of ys)) front (held_at bytes (length xs) many) in
    let h : Cutting xs s w.0 = cut_of xs s s.mode s.partial w.0 held g w.1 in
    let one = fills_whole w.0 b c (bits_for s.mode s.partial w.0 (sound_of xs).cut g w.1).1 w.2 in
    let fills = h.fills (b ∷ []) c one.0 (small_scalar c one.1) in
    let attr : (state_of h.before).attr ≡ s.attr = ap (λ (q : State). q.attr) h.same in
    let mode : (state_of h.before).mode ≡ m = ap (λ (q : State). q.mode) h.same ∙ k in
    let less : length h.before ≤ length xs = omega (arith, ap (length {A = ℕ}) h.is, length-append h.before h.part) in
    let earlier = prior h.before (h.part ++ b ∷ d) (e ∙ ap (λ y. y ++ b ∷ d) h.is ∙ append_assoc h.before h.part (b ∷ d)) less h.none in
    record {
      zs = h.before;
      is = ap (λ y. y ++ b ∷ []) h.is ∙ append_assoc h.before h.part (b ∷ []) ∙ ap (λ y. h.before ++ y) fills.0;
      place = h.place ∙ sym w.4;
      mode = mode;
      none = h.none;
      attr = attr;
      ok = one.1;
      far = inr (and_from (nat_le 128 c) (is_storable_character c) (le-leb 128 c one.2) (storable_far c one.2 w.3));
      held = subst (AttrHeld h.before s.attr) mode (subst (λ (a : Attr). AttrHeld h.before a (state_of h.before).mode) attr earlier);
    }

begins_by : (s : State) (c : ℕ) → (s.partial ≡ None → begins_name c ≡ true) → (s.partial ≡ None) ⊎ (is_far c ≡ true) → (begins_name c || is_far c) ≡ true
begins_by s c f (inl n) = or_left (begins_name c) (is_far c) (f n)
begins_by s c f (inr e) = or_right (begins_name c) (is_far c) e

opens_next : (ys : List ℕ) (s t : State) (at b : ℕ) (colon : Bool) → (o : Opens s at b t colon) → Over ys s modes.Tag o.c o.lead → Attributed ys t.attr.name t.attr.at colon
opens_next ys s t at b colon o v =
    let first : Attributed ys (o.c ∷ []) o.lead false = record {
      before = v.zs;
      behind = v.held;
      is = v.is ∙ ap (λ y. v.zs ++ y) (sym (append-nil (encode o.c)));
      place = v.place;
      mode = v.mode;
      none = v.none;
      prefix = one_prefix o.c (begins_by s o.c o.first v.far);
      scalars = and_from (scalar o.c) true v.ok refl;
    } in
    subst (λ (x : Bool). Attributed ys t.attr.name t.attr.at x) (sym o.plain)
    (subst (λ (x : ℕ). Attributed ys t.attr.name x false) (sym o.place) (subst (λ (x : List ℕ). Attributed ys x o.lead false) (sym o.name) first))

not_colon : (c : ℕ) → is_far c ≡ true → (c == 58) ≡ false
not_colon c e = ne_eqb c 58 (λ x. let l = leb-true 128 c (and_parts (nat_le 128 c) (is_storable_character c) e).0 in omega (arith, l, x))

letter : (c : ℕ) (earlier : Bool) → (c == 58) ≡ false → (continues_name c || is_far c) ≡ true → (more : List ℕ) → goes_on earlier (c ∷ more) ≡ goes_on earlier more
letter c earlier f e more = cond-false (c == 58) (not earlier && goes_on true more) ((continues_name c || is_far c) && goes_on earlier more) f ∙ ap (λ x. x && goes_on earlier more) e

flag_goes : (s : State) (c : ℕ) (earlier colon : Bool) → ((c ≡ 58) × (earlier ≡ false) × (colon ≡ true)) ⊎ ((colon ≡ earlier) × (s.partial ≡ None → ((c == 58) ≡ false) × (continues_name c ≡ true))) → (s.partial ≡ None) ⊎ (is_far c ≡ true) → (more : List ℕ) → goes_on earlier (c ∷ more) ≡ goes_on colon more
flag_goes s c earlier colon (inl w) far more = ap (λ x. goes_on earlier (x ∷ more)) w.0 ∙ ap (λ (x : Bool). not x && goes_on true more) w.1 ∙ ap (λ (x : Bool). goes_on x more) (sym w.2)
flag_goes s c earlier colon (inr w) (inl n) more = letter c earlier (w.1 n).0 (or_left (continues_name c) (is_far c) (w.1 n).1) more ∙ ap (λ (x : Bool). goes_on x more) (sym w.0)
flag_goes s c earlier colon (inr w) (inr e) more = letter c earlier (not_colon c e) (or_right (continues_name c) (is_far c) e) more ∙ ap (λ (x : Bool). goes_on x more) (sym w.0)

goes_next : (ys : List ℕ) (s t : State) (at b : ℕ) (earlier colon : Bool) → (o : GoesOn s at b earlier t colon) → Over ys s (modes.AttrName earlier) o.c o.lead → Attributed ys t.attr.name t.attr.at colon
goes_next ys s t at b earlier colon o v =
    let h : Attributed v.zs s.attr.name s.attr.at earlier = v.held in
    let more : Attributed ys (s.attr.name ++ o.c ∷ []) s.attr.at colon = record {
      before = h.before;
      behind = h.behind;
      is = v.is
          ∙ ap (λ y. y ++ encode o.c) h.is
          ∙ append_assoc h.before (encodes s.attr.name) (encode o.c)
          ∙ ap (λ y. h.before ++ (encodes s.attr.name ++ y)) (sym (append-nil (encode o.c)))
          ∙ ap (λ y. h.before ++ y) (sym (encodes-append s.attr.name (o.c ∷ [])));
      place = h.place;
      mode = h.mode;
      none = h.none;
      prefix = more_prefix earlier colon s.attr.name o.c (flag_goes s o.c earlier colon o.flag v.far) h.prefix;
      scalars = scalars_push s.attr.name o.c h.scalars v.ok;
    } in
    subst (λ (x : ℕ). Attributed ys t.attr.name x colon) (sym o.place) (subst (λ (x : List ℕ). Attributed ys x s.attr.at colon) (sym o.name) more)

attr_next : (bytes xs : List ℕ) (b : ℕ) (d : List ℕ) (t : State) (c : Option Partial) (n : Mode) → bytes ≡ xs ++ b ∷ d → Goes (state_of xs).mode → Prior bytes (length xs) → Came (state_of xs) (length xs) b (state_of xs).mode t c n → c ≡ None → AttrHeld (xs ++ b ∷ []) t.attr n
attr_next bytes xs b d t None modes.Tag e g prior h z = record { front = xs; blank = b; is = refl; blanks = h }
attr_next bytes xs b d t None (modes.AttrName colon) e g prior (inl o) z =
    opens_next (xs ++ b ∷ []) (state_of xs) t (length xs) b colon o.1 (over bytes xs b d modes.Tag o.1.c o.1.lead e o.0 g prior o.1.character)
attr_next bytes xs b d t None (modes.AttrName colon) e g prior (inr o) z =
    goes_next (xs ++ b ∷ []) (state_of xs) t (length xs) b o.0 colon o.2 (over bytes xs b d (modes.AttrName o.0) o.2.c o.2.lead e o.1 g prior o.2.character)
attr_next bytes xs b d t (Some q) modes.Tag e g prior h z = cc
attr_next bytes xs b d t (Some q) (modes.AttrName colon) e g prior h z = cc
attr_next bytes xs b d t c _ e g prior h z = tt

attr_cleared : (ys : List ℕ) (t : State) (r : Ready) → AttrHeld ys t.attr t.mode → AttrHeld ys (cleared_by t r).attr (cleared_by t r).mode
attr_cleared ys t ready.Nothing h = h
attr_cleared ys t ready.Data h = h
attr_cleared ys t ready.Open h = h
attr_cleared ys t ready.Empty h = h
attr_cleared ys t (ready.Close at) h = h

attr_step : (bytes xs : List ℕ) (b : ℕ) (d : List ℕ) → bytes ≡ xs ++ b ∷ d → Prior bytes (length xs) → (state_of (xs ++ b ∷ [])).partial ≡ None → AttrHeld (xs ++ b ∷ []) (state_of (xs ++ b ∷ [])).attr (state_of (xs ++ b ∷ [])).mode
unfolding fault_of
attr_step bytes xs b d e prior none =
    let s : State = state_of xs in
    let ys : List ℕ = xs ++ b ∷ [] in
    let t : State = step s (length xs) b in
    let is : state_of ys ≡ cleared t = state_of-append xs (b ∷ []) in
    elim (goes_or_failed s.mode) [
      | inl g ↦
          let came = (step_led s (length xs) b s.mode s.partial refl refl (sound_of xs).cut g).came in
          let whole : t.partial ≡ None = sym (ap (λ (q : State). q.partial) is ∙ cleared_partial t t.ready) ∙ none in
          subst (λ (q : State). AttrHeld ys q.attr q.mode) (sym is) (attr_cleared ys t t.ready (attr_next bytes xs b d t t.partial t.mode e g prior came whole))
      | inr f ↦
          let stays : (state_of ys).mode ≡ modes.Failed f.0 = failed_mode (state_of ys).mode f.0 (fault_stays xs (b ∷ []) f.0 (ap automaton.fault_by f.1)) in
          subst (AttrHeld ys (state_of ys).attr) (sym stays) tt
    ]

snoc_of : (x : ℕ) (zs : List ℕ) → (xs : List ℕ) × (b : ℕ) × (x ∷ zs ≡ xs ++ b ∷ [])
snoc_of x [] = ([], x, refl)
snoc_of x (y ∷ zs) = let r = snoc_of y zs in (x ∷ r.0, r.1, ap (λ ys. x ∷ ys) r.2)

attrs_upto : (bytes : List ℕ) (n : ℕ) → Prior bytes n
unfolding state_of
attrs_upto bytes n [] d e l none = tt
attrs_upto bytes zero (x ∷ zs) d e l none = absurd (omega arith)
attrs_upto bytes (suc n) (x ∷ zs) d e l none =
    let r = snoc_of x zs in
    let many : length r.0 ≤ n = omega (arith, l, ap (length {A = ℕ}) r.2, length-append r.0 (r.1 ∷ [])) in
    let all : bytes ≡ r.0 ++ r.1 ∷ d = e ∙ ap (λ ys. ys ++ d) r.2 ∙ append_assoc r.0 (r.1 ∷ []) d in
    subst (λ ys. AttrHeld ys (state_of ys).attr (state_of ys).mode) (sym r.2)
    (attr_step bytes r.0 r.1 d all (λ ws f g k p. attrs_upto bytes n ws f g (omega (arith, k, many)) p) (ap (λ ys. (state_of ys).partial) (sym r.2) ∙ none))

-- ---- another name

-- as many letters as make a name longer than all
abbrev letters : ℕ → List ℕ
letters k = replicate k 97

letters_low : (k : ℕ) → list_all is_low (letters k) ≡ true
letters_low zero = refl
letters_low (suc k) = letters_low k

letters_go : (k : ℕ) → goes_on false (letters k) ≡ true
letters_go zero = refl
letters_go (suc k) = letters_go k

letters_scalars : (k : ℕ) → scalars (letters k) ≡ true
letters_scalars zero = refl
letters_scalars (suc k) = and_from (scalar 97) (scalars (letters k)) (low_scalar 97 (omega arith)) (letters_scalars k)

-- a name that is new may stand
letters_may : (j : ℕ) (s : State) (colon : Bool) (at k : ℕ) → has_name s.attrs (s.attr.name ++ letters j) ≡ false → end_fault (state_from at (in_mode s (modes.AttrName colon)) (letters j ++ 61 ∷ [])) k ≡ Some (fault_at kinds.OpenTag k)
letters_may zero s colon at k e =
    let t : State = in_mode s (modes.AttrName colon) in
    let new : has_name s.attrs s.attr.name ≡ false = ap (has_name s.attrs) (sym (append-nil s.attr.name)) ∙ e in
    ap (λ (q : State). end_fault (cleared q) k) (cond-false (has_name s.attrs s.attr.name) (fail t kinds.DuplicateAttribute s.attr.at) (go t modes.BeforeValue) new)
letters_may (suc j) s colon at k e =
    letters_may j (record s { attr = record s.attr { name = s.attr.name ++ 97 ∷ [] }; returned = false }) colon (at + 1) k
    (ap (has_name s.attrs) (append_assoc s.attr.name (97 ∷ []) (letters j)) ∙ e)

other_may : (s : State) (at k : ℕ) → end_fault (state_from at (in_mode s modes.Tag) (letters (suc (size s.attrs)) ++ 61 ∷ [])) k ≡ Some (fault_at kinds.OpenTag k)
other_may s at k =
    letters_may (size s.attrs) (record s { attr = record { name = 97 ∷ []; value = []; at = at }; returned = false }) false (at + 1) k
    (longest s.attrs (97 ∷ letters (size s.attrs)) (omega (arith, length-replicate {A = ℕ} (size s.attrs) 97)))

-- a name that the tag has may not
twin_may_not : (s : State) (colon : Bool) (at k : ℕ) → has_name s.attrs s.attr.name ≡ true → end_fault (state_from at (in_mode s (modes.AttrName colon)) (codes "=")) k ≡ Some (fault_at kinds.DuplicateAttribute s.attr.at)
twin_may_not s colon at k e =
    let t : State = in_mode s (modes.AttrName colon) in
    ap (λ (q : State). end_fault (cleared q) k) (cond-true (has_name s.attrs s.attr.name) (fail t kinds.DuplicateAttribute s.attr.at) (go t modes.BeforeValue) e)

-- ---- the fault

twin_at : (bytes xs : List ℕ) (b : ℕ) (rest : List ℕ) (n : ℕ) (colon : Bool) → bytes ≡ xs ++ b ∷ rest → (state_of xs).mode ≡ modes.AttrName colon → (state_of xs).partial ≡ None → has_name (state_of xs).attrs (state_of xs).attr.name ≡ true → holds_in_name b ≡ false → Attributed xs (state_of xs).attr.name n colon → IsDuplicate bytes n
twin_at bytes xs b rest n colon e mode none has ends h =
    let s : State = state_of xs in
    let name : List ℕ = encodes s.attr.name in
    let tag : State = state_of h.before in
    let other : List ℕ = letters (suc (size tag.attrs)) in
    let all : bytes ≡ h.before ++ (name ++ b ∷ rest) = e ∙ ap (λ y. y ++ b ∷ rest) h.is ∙ append_assoc h.before name (b ∷ rest) in
    let front : take n bytes ≡ h.before = take_front bytes h.before (name ++ b ∷ rest) n all h.place in
    let same : take n bytes ++ (name ++ codes "=") ≡ take (length xs) xs ++ codes "=" =
    ap (λ y. y ++ (name ++ codes "=")) front
    ∙ sym (append_assoc h.before name (codes "="))
    ∙ ap (λ y. y ++ codes "=") (sym h.is)
    ∙ ap (λ y. y ++ codes "=") (sym (take-length xs)) in
    let written : other ≡ encodes other = sym (low_bytes other (letters_low (suc (size tag.attrs)))) in
    record {
      name = s.attr.name;
      byte = b;
      named = prefix_name colon s.attr.name h.prefix;
      scalars = h.scalars;
      ends = ends;
      there = stands bytes h.before (name ++ b ∷ []) rest n (all ∙ ap (λ y. h.before ++ y) (sym (append_assoc name (b ∷ []) rest))) h.place;
      other = other;
      other_named = letters_go (size tag.attrs);
      other_scalars = letters_scalars (suc (size tag.attrs));
      free = subst (λ y. May bytes n (y ++ codes "=")) written (may bytes h.before (other ++ codes "=") n modes.Tag front h.mode h.none (λ at k. other_may tag at k));
      taken = λ m. may_not xs xs (codes "=") (length xs) (modes.AttrName colon) (take-length xs) mode none (λ at k. (fault_at kinds.DuplicateAttribute s.attr.at, twin_may_not s colon at k has, tt)) (subst Begins same m);
      blank = h.behind.blank;
      place = length h.behind.front;
      behind = (
        sym h.place ∙ ap (length {A = ℕ}) h.behind.is ∙ length-append h.behind.front (h.behind.blank ∷ []),
        stands bytes h.behind.front (h.behind.blank ∷ []) (name ++ b ∷ rest) (length h.behind.front) (all ∙ ap (λ y. y ++ (name ++ b ∷ rest)) h.behind.is ∙ append_assoc h.behind.front (h.behind.blank ∷ []) (name ++ b ∷ rest)) refl,
        h.behind.blanks,
      );
    }

twin_by : (bytes xs : List ℕ) (b : ℕ) (rest : List ℕ) (n : ℕ) (m : Mode) → bytes ≡ xs ++ b ∷ rest → (state_of xs).mode ≡ m → IsTwin (state_of xs) (length xs) b m n → IsDuplicate bytes n
twin_by bytes xs b rest n (modes.AttrName colon) e k w =
    let s : State = state_of xs in
    let held : Attributed xs s.attr.name s.attr.at colon = subst (AttrHeld xs s.attr) k (attrs_upto bytes (length xs) xs (b ∷ rest) e (omega arith) w.3) in
    subst (IsDuplicate bytes) (sym w.0) (twin_at bytes xs b rest s.attr.at colon e k w.3 w.1 w.2 held)
twin_by bytes xs b rest n _ e k w = absurd w

pub duplicate : (bytes : List ℕ) (f : TextFault) → end_fault_of bytes ≡ Some f → f.kind ≡ kinds.DuplicateAttribute → IsDuplicate bytes f.at
duplicate bytes f e k =
    let h = fails bytes f (subst Early (sym k) tt) e in
    let s : State = state_of h.xs in
    let w = subst (λ kind. Reason s (length h.xs) h.b s.mode kind f.at) k h.reason in
    twin_by bytes h.xs h.b h.rest f.at s.mode h.is refl w
