-- What may follow bytes, by stepping over it; and faults of names, of document types and of markup.
use Rattle.std.proofs.Common.{◌≡◌, ℕ, ◌+◌, ◌<◌, ◌⊎◌, Bool, true, false, List, [], ◌∷◌, ◌++◌, length, take, drop, refl, sym, ◌∙◌, ap, subst, arith, Option, Some, None, inl, inr, append_assoc, codes, length-append}
use Rattle.std.proofs.Math.Seq.{take-append_seam, drop-append_seam}
use Rattle.std.proofs.lemmas.Bool.{eqb-true, eq-eqb, and_from, and_parts, ltb-false, eqb-false}
use Rattle.std.specs.Prelude.{◌==◌}
use Rattle.xmi_text.specs.ByteClass.{begins_name}
use Rattle.xmi_text.specs.Steps as steps
use Rattle.xmi_text.specs.Automaton.{end_fault, fault_at}
use Rattle.xmi_text.specs.Reading.{state_from, state_of, end_fault_of}
use Rattle.xmi_text.specs.Markup.{begins, Begins}
use Rattle.xmi_text.specs.Faults.{May, Stands, IsMarkup, IsNoName, IsBadStart, IsSecondColon, IsDoctype}
use Rattle.xmi_text.specs.declared.error.TextFault.{TextFault}
use Rattle.xmi_text.specs.declared.error.TextKind.TheVariants as kinds
use Rattle.xmi_text.specs.declared.utf_eight.Partial.{Partial}
use Rattle.xmi_text.specs.declared.state.State.{State}
use Rattle.xmi_text.specs.declared.state.Mode.{Mode}
use Rattle.xmi_text.specs.declared.state.Mode.TheVariants as modes
use Rattle.xmi_text.specs.declared.state.Ready.{Ready}
use Rattle.xmi_text.proofs.completion.Sound.{NotOpen, Takes, Cut, sound_of}
use Rattle.xmi_text.proofs.backward.Backward.{in_mode}
use Rattle.xmi_text.proofs.completion.Completing.{some_fault}
use Rattle.xmi_text.proofs.reading.Reached.{state_of-append}
use Rattle.xmi_text.proofs.reading.Staying.{idle_of}
use Rattle.xmi_text.proofs.backward.Whole.{goes_on_begins}
use Rattle.xmi_text.proofs.faults.Prefixes.{begins_goes_on}
use Rattle.xmi_text.proofs.faults.Standing.{same_kind}
use Rattle.xmi_text.proofs.faults.Reasons.{Goes, IsRound, NoName, Reason, IsWord}
use Rattle.xmi_text.proofs.faults.History.{Begun, Since, Held, fails, Early}

-- ---- probes

pub shape : (bytes : List ℕ) (m : Mode) → (state_of bytes).mode ≡ m → (state_of bytes).partial ≡ None → state_of bytes ≡ in_mode (state_of bytes) m
shape bytes m e n =
    let s : State = state_of bytes in
    ap (λ (k : Mode). record s { mode = k }) e
    ∙ ap (λ (c : Option Partial). record s { mode = m; partial = c }) n
    ∙ ap (λ (r : Ready). record s { mode = m; partial = None; ready = r }) (idle_of bytes)

-- what follows may
pub may : (bytes before more : List ℕ) (n : ℕ) (m : Mode) → take n bytes ≡ before → (state_of before).mode ≡ m → (state_of before).partial ≡ None → ((at k : ℕ) → end_fault (state_from at (in_mode (state_of before) m) more) k ≡ Some (fault_at kinds.OpenTag k)) → May bytes n more
unfolding end_fault_of
may bytes before more n m t e c f =
    let k : ℕ = length (before ++ more) in
    let s : State = state_of before in
    let ends : end_fault_of (before ++ more) ≡ Some (fault_at kinds.OpenTag k) =
    ap (λ (q : State). end_fault q k) (state_of-append before more ∙ ap (λ (q : State). state_from (length before) q more) (shape before m e c)) ∙ f (length before) k in
    subst (λ (xs : List ℕ). Begins (xs ++ more)) (sym t) (goes_on_begins (before ++ more) (inr ends))

-- or may not
pub may_not : (bytes before more : List ℕ) (n : ℕ) (m : Mode) → take n bytes ≡ before → (state_of before).mode ≡ m → (state_of before).partial ≡ None → ((at k : ℕ) → (f : TextFault) × (end_fault (state_from at (in_mode (state_of before) m) more) k ≡ Some f) × NotOpen f.kind) → May bytes n more → ⊥
unfolding end_fault_of
may_not bytes before more n m t e c f b =
    let k : ℕ = length (before ++ more) in
    let r = f (length before) k in
    let ends : end_fault_of (before ++ more) ≡ Some r.0 =
    ap (λ (q : State). end_fault q k) (state_of-append before more ∙ ap (λ (q : State). state_from (length before) q more) (shape before m e c)) ∙ r.1 in
    elim (begins_goes_on (before ++ more) (subst (λ (xs : List ℕ). Begins (xs ++ more)) t b)) [
      | inl x ↦ some_fault r.0 (sym ends ∙ x)
      | inr x ↦ subst NotOpen (same_kind r.0 kinds.OpenTag k (sym ends ∙ x)).0 r.2
    ]

-- ---- parts of bytes

pub take_front : (bytes before tail : List ℕ) (n : ℕ) → bytes ≡ before ++ tail → length before ≡ n → take n bytes ≡ before
take_front bytes before tail n e l = ap (take n) e ∙ ap (λ k. take k (before ++ tail)) (sym l) ∙ take-append_seam before tail

pub drop_front : (bytes before tail : List ℕ) (n : ℕ) → bytes ≡ before ++ tail → length before ≡ n → drop n bytes ≡ tail
drop_front bytes before tail n e l = ap (drop n) e ∙ ap (λ k. drop k (before ++ tail)) (sym l) ∙ drop-append_seam before tail

pub begins_with : (part rest : List ℕ) → begins part (part ++ rest) ≡ true
begins_with [] rest = refl
begins_with (x ∷ part) rest = and_from (x == x) (begins part (part ++ rest)) (eq-eqb x x refl) (begins_with part rest)

pub stands : (bytes before part rest : List ℕ) (n : ℕ) → bytes ≡ before ++ (part ++ rest) → length before ≡ n → Stands bytes n part
stands bytes before part rest n e l = ap (begins part) (drop_front bytes before (part ++ rest) n e l) ∙ begins_with part rest

pub stands_not : (bytes before rest : List ℕ) (n b c : ℕ) → bytes ≡ before ++ b ∷ rest → length before ≡ n → (b == c) ≡ false → Stands bytes n (c ∷ []) → ⊥
stands_not bytes before rest n b c e l f h =
    let p = and_parts (c == b) (begins [] rest) (ap (begins (c ∷ [])) (sym (drop_front bytes before (b ∷ rest) n e l)) ∙ h) in
    eqb-false b c f (sym (eqb-true c b p.0))

-- ---- markup

comment_may : (s : State) (m : Mode) (at k : ℕ) → IsRound m → end_fault (state_from at (in_mode s m) (codes "<!--")) k ≡ Some (fault_at kinds.OpenTag k)
comment_may s modes.Start at k r = refl
comment_may s modes.Outside at k r = refl
comment_may s modes.Inside at k r = refl
comment_may s _ at k r = absurd r

blank_may_not : (s : State) (m : Mode) (at k : ℕ) → IsRound m → end_fault (state_from at (in_mode s m) (codes "< ")) k ≡ Some (fault_at kinds.BadName (at + 1))
blank_may_not s modes.Start at k r = refl
blank_may_not s modes.Outside at k r = refl
blank_may_not s modes.Inside at k r = refl
blank_may_not s _ at k r = absurd r

pub is_markup : (bytes before : List ℕ) (n : ℕ) → take n bytes ≡ before → IsRound (state_of before).mode → (state_of before).partial ≡ None → IsMarkup bytes n
is_markup bytes before n t r c =
    let s : State = state_of before in
    record {
      comment = may bytes before (codes "<!--") n s.mode t refl c (λ at k. comment_may s s.mode at k r);
      blank = may_not bytes before (codes "< ") n s.mode t refl c (λ at k. (fault_at kinds.BadName (at + 1), blank_may_not s s.mode at k r, tt));
    }

-- bytes behind those before markup
pub whole_of : (bytes xs before part : List ℕ) (b : ℕ) (rest : List ℕ) → bytes ≡ xs ++ b ∷ rest → xs ≡ before ++ part → bytes ≡ before ++ (part ++ b ∷ rest)
whole_of bytes xs before part b rest e f = e ∙ ap (λ y. y ++ b ∷ rest) f ∙ append_assoc before part (b ∷ rest)

pub markup_of : (bytes xs part : List ℕ) (l b : ℕ) (rest : List ℕ) (names : List (List ℕ)) (r : Bool) → bytes ≡ xs ++ b ∷ rest → Begun xs l part names r → IsMarkup bytes l
markup_of bytes xs part l b rest names r e h = is_markup bytes h.before l (take_front bytes h.before (part ++ b ∷ rest) l (whole_of bytes xs h.before part b rest e h.is) h.place) h.round h.none

pub part_of : (bytes xs part : List ℕ) (l b : ℕ) (rest : List ℕ) (names : List (List ℕ)) (r : Bool) → bytes ≡ xs ++ b ∷ rest → Begun xs l part names r → Stands bytes l part
part_of bytes xs part l b rest names r e h = stands bytes h.before part (b ∷ rest) l (whole_of bytes xs h.before part b rest e h.is) h.place

place_of : (xs part : List ℕ) (l : ℕ) (names : List (List ℕ)) (r : Bool) → Begun xs l part names r → length xs ≡ l + length part
place_of xs part l names r h = ap (length {A = ℕ}) h.is ∙ length-append h.before part ∙ ap (λ k. k + length part) h.place

-- the history of a place where no character is cut
pub past_by : (xs : List ℕ) (s : State) (m : Mode) (c : Option Partial) → Held xs s m c → Cut c m → (Takes m → ⊥) → Goes m → Since xs s.elements s.rooted m
past_by xs s (modes.Failed f) c h z t g = absurd g
past_by xs s m None h z t g = h
past_by xs s m (Some p) h z t g = absurd (t z.0)

pub past_none : (xs : List ℕ) (s : State) (m : Mode) (c : Option Partial) → Held xs s m c → c ≡ None → Goes m → Since xs s.elements s.rooted m
past_none xs s (modes.Failed f) c h e g = absurd g
past_none xs s m None h e g = h
past_none xs s m (Some p) h e g = cc

-- ---- names

no_name : (bytes xs : List ℕ) (b : ℕ) (rest : List ℕ) (n : ℕ) → bytes ≡ xs ++ b ∷ rest → length xs ≡ n → b < 128 → begins_name b ≡ false → IsNoName bytes n
no_name bytes xs b rest n e l h f = (b, stands bytes xs (b ∷ []) rest n e l, h, f)

bad_start : (bytes xs : List ℕ) (b : ℕ) (rest : List ℕ) (n l : ℕ) (names : List (List ℕ)) (r : Bool) → bytes ≡ xs ++ b ∷ rest → n ≡ length xs → Begun xs l (60 ∷ []) names r → NoName (modes.Less l) b → IsBadStart bytes n
bad_start bytes xs b rest n l names r e p h w = record {
  less = l;
  markup = markup_of bytes xs (60 ∷ []) l b rest names r e h;
  place = inl (
    p ∙ place_of xs (60 ∷ []) l names r h,
    part_of bytes xs (60 ∷ []) l b rest names r e h,
    stands_not bytes xs rest n b 33 e (sym p) w.1,
    stands_not bytes xs rest n b 63 e (sym p) w.2,
    stands_not bytes xs rest n b 47 e (sym p) w.3,
  );
  none = no_name bytes xs b rest n e (sym p) w.0 w.4;
}

bad_target : (bytes xs : List ℕ) (b : ℕ) (rest : List ℕ) (n l : ℕ) (names : List (List ℕ)) (r : Bool) → bytes ≡ xs ++ b ∷ rest → n ≡ length xs → Begun xs l (60 ∷ 63 ∷ []) names r → b < 128 → begins_name b ≡ false → IsBadStart bytes n
bad_target bytes xs b rest n l names r e p h w f = record {
  less = l;
  markup = markup_of bytes xs (60 ∷ 63 ∷ []) l b rest names r e h;
  place = inr (p ∙ place_of xs (60 ∷ 63 ∷ []) l names r h, part_of bytes xs (60 ∷ 63 ∷ []) l b rest names r e h);
  none = no_name bytes xs b rest n e (sym p) w f;
}

-- where a name with a colon may go on
abbrev HasColon : Mode → Type 0
HasColon (modes.Target had) = had ≡ true
HasColon (modes.TagName had) = had ≡ true
HasColon (modes.AttrName had) = had ≡ true
HasColon _ = ⊥

dot_may : (s : State) (m : Mode) (at k : ℕ) → HasColon m → end_fault (state_from at (in_mode s m) (codes ".")) k ≡ Some (fault_at kinds.OpenTag k)
dot_may s (modes.Target had) at k h = refl
dot_may s (modes.TagName had) at k h = refl
dot_may s (modes.AttrName had) at k h = refl
dot_may s _ at k h = absurd h

dash_may : (s : State) (m : Mode) (at k : ℕ) → HasColon m → end_fault (state_from at (in_mode s m) (codes "-")) k ≡ Some (fault_at kinds.OpenTag k)
dash_may s (modes.Target had) at k h = refl
dash_may s (modes.TagName had) at k h = refl
dash_may s (modes.AttrName had) at k h = refl
dash_may s _ at k h = absurd h

colon_may_not : (s : State) (m : Mode) (at k : ℕ) → HasColon m → end_fault (state_from at (in_mode s m) (codes ":")) k ≡ Some (fault_at kinds.BadName at)
colon_may_not s (modes.Target had) at k h = subst (λ (had : Bool). end_fault (state_from at (in_mode s (modes.Target had)) (codes ":")) k ≡ Some (fault_at kinds.BadName at)) (sym h) refl
colon_may_not s (modes.TagName had) at k h = subst (λ (had : Bool). end_fault (state_from at (in_mode s (modes.TagName had)) (codes ":")) k ≡ Some (fault_at kinds.BadName at)) (sym h) refl
colon_may_not s (modes.AttrName had) at k h = subst (λ (had : Bool). end_fault (state_from at (in_mode s (modes.AttrName had)) (codes ":")) k ≡ Some (fault_at kinds.BadName at)) (sym h) refl
colon_may_not s _ at k h = absurd h

second_colon : (bytes xs : List ℕ) (b : ℕ) (rest : List ℕ) (n : ℕ) (m : Mode) → bytes ≡ xs ++ b ∷ rest → n ≡ length xs → (state_of xs).mode ≡ m → (state_of xs).partial ≡ None → HasColon m → b ≡ 58 → IsSecondColon bytes n
second_colon bytes xs b rest n m e p k c h w =
    let s : State = state_of xs in
    let t : take n bytes ≡ xs = take_front bytes xs (b ∷ rest) n e (sym p) in
    record {
      colon = subst (λ (x : ℕ). Stands bytes n (x ∷ [])) w (stands bytes xs (b ∷ []) rest n e (sym p));
      dot = may bytes xs (codes ".") n m t k c (λ at j. dot_may s m at j h);
      dash = may bytes xs (codes "-") n m t k c (λ at j. dash_may s m at j h);
      none = may_not bytes xs (codes ":") n m t k c (λ at j. (fault_at kinds.BadName at, colon_may_not s m at j h, tt));
    }

bad_name_by : (bytes xs : List ℕ) (b : ℕ) (rest : List ℕ) (n : ℕ) (m : Mode) → bytes ≡ xs ++ b ∷ rest → n ≡ length xs → (state_of xs).mode ≡ m → (state_of xs).partial ≡ None → Since xs (state_of xs).elements (state_of xs).rooted m → NoName m b → IsBadStart bytes n ⊎ IsSecondColon bytes n
bad_name_by bytes xs b rest n (modes.Less l) e p k c h w = inl (bad_start bytes xs b rest n l (state_of xs).elements (state_of xs).rooted e p h w)
bad_name_by bytes xs b rest n modes.Question e p k c h w = inl (bad_target bytes xs b rest n h.0 (state_of xs).elements (state_of xs).rooted e p h.1 w.0 w.1)
bad_name_by bytes xs b rest n (modes.Target had) e p k c h w = inr (second_colon bytes xs b rest n (modes.Target had) e p k c w.0 w.1)
bad_name_by bytes xs b rest n (modes.TagName had) e p k c h w = inr (second_colon bytes xs b rest n (modes.TagName had) e p k c w.0 w.1)
bad_name_by bytes xs b rest n (modes.AttrName had) e p k c h w = inr (second_colon bytes xs b rest n (modes.AttrName had) e p k c w.0 w.1)
bad_name_by bytes xs b rest n _ e p k c h w = absurd w

pub bad_name : (bytes : List ℕ) (f : TextFault) → end_fault_of bytes ≡ Some f → f.kind ≡ kinds.BadName → IsBadStart bytes f.at ⊎ IsSecondColon bytes f.at
bad_name bytes f e k =
    let h = fails bytes f (subst Early (sym k) tt) e in
    let s : State = state_of h.xs in
    let w = subst (λ kind. Reason s (length h.xs) h.b s.mode kind f.at) k h.reason in
    bad_name_by bytes h.xs h.b h.rest f.at s.mode h.is w.0 refl w.1 (past_none h.xs s s.mode s.partial h.held w.1 h.goes) w.2

-- ---- document types

six : (k b : ℕ) → k ≡ 6 → steps.is_wanted (steps.doctype_byte k) b ≡ true → b ≡ 69
six k b e w = sym (eqb-true 69 b (ap (λ n. steps.is_wanted (steps.doctype_byte n) b) (sym e) ∙ w))

doctype_by : (bytes xs : List ℕ) (b : ℕ) (rest : List ℕ) (n : ℕ) (m : Mode) (c : Option Partial) → bytes ≡ xs ++ b ∷ rest → Held xs (state_of xs) m c → Cut c m → IsWord (state_of xs) (length xs) b m n → IsDoctype bytes n
doctype_by bytes xs b rest n (modes.Doctype l w k) c e h z i =
    let names : List (List ℕ) = (state_of xs).elements in
    let r : Bool = (state_of xs).rooted in
    let past = past_by xs (state_of xs) (modes.Doctype l w k) c h z (λ x. x) tt in
    let last : k ≡ 6 = omega (arith, past.1, ltb-false k 6 i.2) in
    let begun : Begun xs l (codes "<!DOCTYP") names r = subst (λ j. Begun xs l (take (j + 2) (codes "<!DOCTYPE")) names r) last past.2 in
    let all : bytes ≡ begun.before ++ (codes "<!DOCTYPE" ++ rest) = whole_of bytes xs begun.before (codes "<!DOCTYP") b rest e begun.is ∙ ap (λ x. begun.before ++ (codes "<!DOCTYP" ++ x ∷ rest)) (six k b last i.1) in
    record {
      markup = subst (IsMarkup bytes) (sym i.0) (markup_of bytes xs (codes "<!DOCTYP") l b rest names r e begun);
      word = subst (λ j. Stands bytes j (codes "<!DOCTYPE")) (sym i.0) (stands bytes begun.before (codes "<!DOCTYPE") rest l all begun.place);
    }
doctype_by bytes xs b rest n _ c e h z i = absurd i

pub doctype : (bytes : List ℕ) (f : TextFault) → end_fault_of bytes ≡ Some f → f.kind ≡ kinds.Doctype → IsDoctype bytes f.at
doctype bytes f e k =
    let h = fails bytes f (subst Early (sym k) tt) e in
    let s : State = state_of h.xs in
    let w = subst (λ kind. Reason s (length h.xs) h.b s.mode kind f.at) k h.reason in
    doctype_by bytes h.xs h.b h.rest f.at s.mode s.partial h.is h.held (sound_of h.xs).cut w
