-- Names and blanks are stepped over.
use Rattle.std.proofs.Common.{◌≡◌, ℕ, ◌+◌, ◌≤◌, ◌<◌, Bool, true, false, List, [], ◌∷◌, ◌++◌, length, refl, sym, ◌∙◌, ap, subst, arith, None, inl, inr, append_assoc, append-nil}
use Rattle.std.specs.Prelude.{◌==◌, ◌||◌, ◌&&◌, not, nat_le, if◌then◌else◌}
use Rattle.std.specs.List.{list_all}
use Rattle.std.proofs.lemmas.Bool.{cases_eq, or_cases, and_parts, not-true, leb-true, eqb-true}
use lib.Utf8.{encode, encodes, scalars}
use lib.Utf8 as utf8
use Rattle.mof_metamodel.specs.Characters.{is_storable_character, is_blank}
use Rattle.xmi_text.specs.ByteClass.{within, begins_name, continues_name}
use Rattle.xmi_text.specs.Names.{is_far, goes_on}
use Rattle.xmi_text.specs.Automaton.{ascii, admitted, unstorable, is_unstorable}
use Rattle.xmi_text.specs.declared.utf_eight.Partial.{Partial}
use Rattle.xmi_text.specs.declared.state.State.{State}
use Rattle.xmi_text.specs.declared.state.Mode.{Mode}
use Rattle.xmi_text.specs.declared.state.Mode.TheVariants as modes
use Rattle.xmi_text.proofs.forward.Walks.{Walk, Walk-none, Walk-append, Walk-to}
use Rattle.xmi_text.proofs.forward.Encoded.{at_mode, within_character, IsPlain, behind_whole, if_true, if_false}
use Rattle.xmi_text.proofs.forward.Stepping.{quiet, other, storable_far, blank_cases}

-- ## tests

pub continues_low : (c : ℕ) → continues_name c ≡ true → c < 128
continues_low c e = elim (or_cases (begins_name c || within 48 57 c || (c == 45)) (c == 46) e) [
  | inl l ↦ elim (or_cases (begins_name c || within 48 57 c) (c == 45) l) [
    | inl k ↦ elim (or_cases (begins_name c) (within 48 57 c) k) [
      | inl b ↦ elim (or_cases (within 65 90 c || within 97 122 c) (c == 95) b) [
        | inl w ↦ elim (or_cases (within 65 90 c) (within 97 122 c) w) [ inl x ↦ below 65 90 x (omega arith) | inr x ↦ below 97 122 x (omega arith) ]
        | inr x ↦ omega (arith, eqb-true c 95 x)
      ]
      | inr x ↦ below 48 57 x (omega arith)
    ]
    | inr x ↦ omega (arith, eqb-true c 45 x)
  ]
  | inr x ↦ omega (arith, eqb-true c 46 x)
]
  where
    below : (low high : ℕ) → within low high c ≡ true → high < 128 → c < 128
    below low high w h = omega (arith, leb-true c high (and_parts (nat_le low c) (nat_le c high) w).1)

pub begins_continues : (c : ℕ) → begins_name c ≡ true → continues_name c ≡ true
begins_continues c e = ap (λ x. x || within 48 57 c || (c == 45) || (c == 46)) e

pub far_parts : (c : ℕ) → is_far c ≡ true → (128 ≤ c) × (is_storable_character c ≡ true)
far_parts c e = let p = and_parts (nat_le 128 c) (is_storable_character c) e in (leb-true 128 c p.0, p.1)

-- a character of a name below U+0080, or from there on
pub low_name : (c : ℕ) → (continues_name c || is_far c) ≡ true → c < 128 → continues_name c ≡ true
low_name c e h = elim (or_cases (continues_name c) (is_far c) e) [ inl x ↦ x | inr x ↦ absurd (omega (arith, (far_parts c x).0)) ]

pub high_name : (c : ℕ) → (continues_name c || is_far c) ≡ true → 128 ≤ c → is_unstorable c ≡ false
high_name c e h = elim (or_cases (continues_name c) (is_far c) e) [ inl x ↦ absurd (omega (arith, continues_low c x)) | inr x ↦ storable_far c h (far_parts c x).1 ]

-- ## the characters behind the first

-- a place in a name, which keeps its characters
pub record Naming (mode : Bool → Mode) (with : State → List ℕ → State) : Type 0 where
  pub plain : (k : Bool) → IsPlain (mode k)
  pub none : (s : State) → with s [] ≡ s
  pub more : (s : State) (xs ys : List ℕ) → with (with s xs) ys ≡ with s (xs ++ ys)
  pub colon : (s : State) (r : Bool) (at : ℕ) → ascii (at_mode s (mode false) r) (mode false) at 58 ≡ at_mode (with s (58 ∷ [])) (mode true) false
  pub low : (s : State) (k r : Bool) (at c : ℕ) → (c == 58) ≡ false → continues_name c ≡ true → ascii (at_mode s (mode k) r) (mode k) at c ≡ at_mode (with s (c ∷ [])) (mode k) false
  pub high : (s : State) (k r : Bool) (p : Partial) (last c : ℕ) → is_unstorable c ≡ false → behind_whole s (mode k) r p last c ≡ at_mode (with s (c ∷ [])) (mode k) false

goes_colon : (k : Bool) (cs : List ℕ) → goes_on k (58 ∷ cs) ≡ true → (k ≡ false) × (goes_on true cs ≡ true)
goes_colon k cs e = let p = and_parts (not k) (goes_on true cs) e in (not-true k p.0, p.1)

goes_other : (k : Bool) (c : ℕ) (cs : List ℕ) → (c == 58) ≡ false → goes_on k (c ∷ cs) ≡ true → ((continues_name c || is_far c) ≡ true) × (goes_on k cs ≡ true)
goes_other k c cs f e = and_parts (continues_name c || is_far c) (goes_on k cs) (sym (if_false (c == 58) (not k && goes_on true cs) _ f) ∙ e)

record Named (mode : Bool → Mode) (with : State → List ℕ → State) (at : ℕ) (s : State) (k : Bool) (c : ℕ) (cs : List ℕ) : Type 0 where
  had : Bool
  goes : goes_on had cs ≡ true
  walk : Walk at (at_mode s (mode k) false) (encode c) [] (at_mode (with s (c ∷ [])) (mode had) false)

one_colon : (mode : Bool → Mode) (with : State → List ℕ → State) → Naming mode with → (at : ℕ) (s : State) (k : Bool) (cs : List ℕ) → goes_on k (58 ∷ cs) ≡ true → Named mode with at s k 58 cs
one_colon mode with n at s k cs e =
    let p = goes_colon k cs e in
    record {
      had = true;
      goes = p.1;
      walk = subst (λ q. Walk at (at_mode s (mode q) false) (encode 58) [] (at_mode (with s (58 ∷ [])) (mode true) false)) (sym p.0)
          (quiet at s (mode false) false 58 (with s (58 ∷ [])) (mode true) false (n.plain false) refl (λ h. n.colon s false at) (λ h q last b. absurd (omega arith)));
    }

one_other : (mode : Bool → Mode) (with : State → List ℕ → State) → Naming mode with → (at : ℕ) (s : State) (k : Bool) (c : ℕ) (cs : List ℕ) → utf8.scalar c ≡ true → (c == 58) ≡ false → goes_on k (c ∷ cs) ≡ true → Named mode with at s k c cs
one_other mode with n at s k c cs ok f e =
    let p = goes_other k c cs f e in
    record {
      had = k;
      goes = p.1;
      walk = quiet at s (mode k) false c (with s (c ∷ [])) (mode k) false (n.plain k) ok (λ h. n.low s k false at c f (low_name c p.0 h)) (λ h q last b. n.high s k false q last c (high_name c p.0 h));
    }

one_named : (mode : Bool → Mode) (with : State → List ℕ → State) → Naming mode with → (at : ℕ) (s : State) (k : Bool) (c : ℕ) (cs : List ℕ) → utf8.scalar c ≡ true → goes_on k (c ∷ cs) ≡ true → Named mode with at s k c cs
one_named mode with n at s k c cs ok e = elim (cases_eq c 58) [
  | inl x ↦ subst (λ q. Named mode with at s k q cs) (sym x) (one_colon mode with n at s k cs (subst (λ q. goes_on k (q ∷ cs) ≡ true) x e))
  | inr y ↦ one_other mode with n at s k c cs ok (other c 58 y) e
]

pub name_run : (mode : Bool → Mode) (with : State → List ℕ → State) → Naming mode with → (at : ℕ) (s : State) (k : Bool) (cs : List ℕ) → scalars cs ≡ true → goes_on k cs ≡ true → (had : Bool) × Walk at (at_mode s (mode k) false) (encodes cs) [] (at_mode (with s cs) (mode had) false)
name_run mode with n at s k [] ok e = (k, Walk-to at _ _ _ _ _ _ (ap (λ x. at_mode x (mode k) false) (sym (n.none s))) refl (Walk-none at (at_mode s (mode k) false)))
name_run mode with n at s k (c ∷ cs) ok e =
    let o = and_parts (utf8.scalar c) (scalars cs) ok in
    let one = one_named mode with n at s k c cs o.0 e in
    let more = name_run mode with n (at + length (encode c)) (with s (c ∷ [])) one.had cs o.1 one.goes in (
      more.0,
      Walk-to at _ _ _ _ _ _ (ap (λ x. at_mode x (mode more.0) false) (n.more s (c ∷ []) cs)) refl
          (Walk-append at _ _ _ (encode c) (encodes cs) [] [] one.walk more.1),
    )

abbrev whole_of : State → State
whole_of s = record s { partial = None }

-- a character from U+0080 on that is storable
pub high_admitted : (s : State) (m : Mode) (r : Bool) (p : Partial) (last c : ℕ) (t : State) → behind_whole s m r p last c ≡ whole_of (if is_unstorable c then unstorable (within_character s m r p) m p.lead last else admitted (within_character s m r p) m p.lead c) → is_unstorable c ≡ false → whole_of (admitted (within_character s m r p) m p.lead c) ≡ t → behind_whole s m r p last c ≡ t
high_admitted s m r p last c t e f g =
    e ∙ ap whole_of (if_false (is_unstorable c) (unstorable (within_character s m r p) m p.lead last) (admitted (within_character s m r p) m p.lead c) f) ∙ g

-- the name of a start tag
abbrev pub with_tag : State → List ℕ → State
with_tag s cs = record s { tag = s.tag ++ cs }

pub tag_naming : Naming (λ k. modes.TagName k) with_tag
tag_naming = record {
  plain = λ k. tt;
  none = λ s. ap (λ x. record s { tag = x }) (append-nil s.tag);
  more = λ s xs ys. ap (λ x. record s { tag = x }) (append_assoc s.tag xs ys);
  colon = λ s r at. refl;
  low = λ s k r at c f e. if_false (c == 58) _ _ f ∙ if_true (continues_name c) _ _ e;
  high = λ s k r p last c f. high_admitted s (modes.TagName k) r p last c _ refl f refl;
}

-- an attribute's name
abbrev pub with_name : State → List ℕ → State
with_name s cs = record s { attr = record s.attr { name = s.attr.name ++ cs } }

pub attr_naming : Naming (λ k. modes.AttrName k) with_name
attr_naming = record {
  plain = λ k. tt;
  none = λ s. ap (λ x. record s { attr = record s.attr { name = x } }) (append-nil s.attr.name);
  more = λ s xs ys. ap (λ x. record s { attr = record s.attr { name = x } }) (append_assoc s.attr.name xs ys);
  colon = λ s r at. refl;
  low = λ s k r at c f e. if_false (c == 58) _ _ f ∙ if_true (continues_name c) _ _ e;
  high = λ s k r p last c f. high_admitted s (modes.AttrName k) r p last c _ refl f refl;
}

-- an instruction's
abbrev pub passing : State → List ℕ → State
passing s cs = s

pub target_naming : Naming (λ k. modes.Target k) passing
target_naming = record {
  plain = λ k. tt;
  none = λ s. refl;
  more = λ s xs ys. refl;
  colon = λ s r at. refl;
  low = λ s k r at c f e. if_false (c == 58) _ _ f ∙ if_true (continues_name c) _ _ e;
  high = λ s k r p last c f. high_admitted s (modes.Target k) r p last c _ refl f refl;
}

-- ## blanks

-- one blank
pub blank_step : (s : State) (from to : Mode) (r : Bool) → IsPlain from → ((at : ℕ) → ascii (at_mode s from r) from at 32 ≡ at_mode s to false) → ((at : ℕ) → ascii (at_mode s from r) from at 9 ≡ at_mode s to false) → ((at : ℕ) → ascii (at_mode s from r) from at 10 ≡ at_mode s to false) → ((at : ℕ) → ascii (at_mode s from r) from at 13 ≡ at_mode s to false) → (at c : ℕ) → is_blank c ≡ true → Walk at (at_mode s from r) (encode c) [] (at_mode s to false)
blank_step s from to r plain space tab feed return at c e =
    let one : (d : ℕ) → c ≡ d → utf8.scalar d ≡ true → d < 128 → ascii (at_mode s from r) from at d ≡ at_mode s to false → Walk at (at_mode s from r) (encode c) [] (at_mode s to false) = λ d x ok l f.
    subst (λ q. Walk at (at_mode s from r) (encode q) [] (at_mode s to false)) (sym x) (quiet at s from r d s to false plain ok (λ h. f) (λ h p last b. absurd (omega arith))) in
    elim (blank_cases c e) [
      | inl x ↦ one 32 x refl (omega arith) (space at)
      | inr k ↦ elim k [
        | inl x ↦ one 9 x refl (omega arith) (tab at)
        | inr l ↦ elim l [ inl x ↦ one 10 x refl (omega arith) (feed at) | inr x ↦ one 13 x refl (omega arith) (return at) ]
      ]
    ]

-- blanks, the first of which leads to where they go on
pub blank_run : (s : State) (from to : Mode) (r : Bool) → ((at c : ℕ) → is_blank c ≡ true → Walk at (at_mode s from r) (encode c) [] (at_mode s to false)) → ((at c : ℕ) → is_blank c ≡ true → Walk at (at_mode s to false) (encode c) [] (at_mode s to false)) → (at c : ℕ) (cs : List ℕ) → list_all is_blank (c ∷ cs) ≡ true → Walk at (at_mode s from r) (encodes (c ∷ cs)) [] (at_mode s to false)
blank_run s from to r f g at c [] e =
    let p = and_parts (is_blank c) true e in
    Walk-append at _ _ _ (encode c) [] [] [] (f at c p.0) (Walk-none (at + length (encode c)) (at_mode s to false))
blank_run s from to r f g at c (d ∷ cs) e =
    let p = and_parts (is_blank c) (list_all is_blank (d ∷ cs)) e in
    Walk-append at _ _ _ (encode c) (encodes (d ∷ cs)) [] [] (f at c p.0) (blank_run s to to false g g (at + length (encode c)) d cs p.1)

-- blanks in a place where they leave nothing
pub blanks_run : (s : State) (to : Mode) → ((at c : ℕ) → is_blank c ≡ true → Walk at (at_mode s to false) (encode c) [] (at_mode s to false)) → (at : ℕ) (cs : List ℕ) → list_all is_blank cs ≡ true → Walk at (at_mode s to false) (encodes cs) [] (at_mode s to false)
blanks_run s to g at [] e = Walk-none at (at_mode s to false)
blanks_run s to g at (c ∷ cs) e = blank_run s to to false g g at c cs e
