-- Where a name behind a blank may stand: in a text that goes on with any character, or as an attribute's.
use Rattle.std.proofs.Common.{◌≡◌, ℕ, ◌+◌, ◌≤◌, ◌<◌, Bool, true, false, cond, List, [], ◌∷◌, ◌++◌, length, refl, sym, ◌∙◌, ap, subst, arith, Option, Some, None, inl, inr, true≢false, append_assoc}
use Rattle.std.proofs.lemmas.Bool.{and_parts, and_from, or_cases, or_right, leb-true, le-leb, lt-ltb, le-ltb, eqb-true, cond-true, cond-false, cases_lt, both_ways, false_from_ne_true}
use Rattle.std.proofs.lemmas.Str.{encode_ascii}
use Rattle.std.specs.Prelude.{nat_lt, nat_le, ◌==◌, ◌&&◌, ◌||◌, not}
use lib.Utf8.{encode, encodes, scalar, scalars}
use Rattle.mof_metamodel.specs.Characters as characters
use Rattle.xmi_text.specs.ByteClass.{within, is_blank, is_storable_byte, begins_name, continues_name}
use Rattle.xmi_text.specs.Names.{is_far, is_name, goes_on}
use Rattle.xmi_text.specs.AttrNames.{has_name}
use Rattle.xmi_text.specs.UtfEight as utf
use Rattle.xmi_text.specs.References as refs
use Rattle.xmi_text.specs.States as states
use Rattle.xmi_text.specs.States.{go, fail, cleared}
use Rattle.xmi_text.specs.Steps as steps
use Rattle.xmi_text.specs.Automaton as automaton
use Rattle.xmi_text.specs.Automaton.{step_by, wanted}
use Rattle.xmi_text.specs.Reading.{state_from}
use Rattle.xmi_text.specs.declared.error.TextKind.TheVariants as kinds
use Rattle.xmi_text.specs.declared.reference.Reference.{Reference}
use Rattle.xmi_text.specs.declared.reference.Reference.TheVariants as ref
use Rattle.xmi_text.specs.declared.utf_eight.Partial.{Partial}
use Rattle.xmi_text.specs.declared.utf_eight.Growth.{Growth}
use Rattle.xmi_text.specs.declared.state.State.{State}
use Rattle.xmi_text.specs.declared.state.Mode.{Mode}
use Rattle.xmi_text.specs.declared.state.Mode.TheVariants as modes
use Rattle.xmi_text.specs.declared.state.Quote.{Quote}
use Rattle.xmi_text.specs.declared.state.Quote.TheVariants as quotes
use Rattle.xmi_text.specs.declared.state.Brackets.{Brackets}
use Rattle.xmi_text.specs.declared.state.Brackets.TheVariants as brackets
use Rattle.xmi_text.specs.declared.state.Ready.TheVariants as ready
use Rattle.xmi_text.proofs.completion.Sound.{IsSound, next_sound}
use Rattle.xmi_text.proofs.completion.Ending.{Dead, IsDead}
use Rattle.xmi_text.proofs.forward.Encoded.{IsPlain, encode_two, encode_three, encode_four, far, behind_whole, within_character}
use Rattle.xmi_text.proofs.forward.NameSteps.{continues_low, far_parts, low_name, high_name, begins_continues}
use Rattle.xmi_text.proofs.forward.Stepping.{blank_cases}
use Rattle.xmi_text.proofs.faults.Lettered.{is_letter, NameCharacter, goes_parts, starts_name}
use Rattle.xmi_text.proofs.reading.Reached.{state_from-append}
use Rattle.xmi_text.proofs.faults.ToldBytes.{all_high, high_first, high_bytes}
use Rattle.xmi_text.proofs.faults.Told.{here_same}
use Rattle.xmi_text.proofs.faults.ToldNames.{no_start}
use Rattle.xmi_text.proofs.faults.Probes.{here, Ends, ends_on, broken, cdata_other, other_name}

every : (P : ℕ → Type 0) → P 32 → P 9 → P 10 → P 13 → (b : ℕ) → characters.is_blank b ≡ true → P b
every P space tab line return b e = elim (blank_cases b e) [
  | inl q ↦ subst P (sym q) space
  | inr q ↦ elim q [ inl r ↦ subst P (sym r) tab | inr r ↦ elim r [ inl t ↦ subst P (sym t) line | inr t ↦ subst P (sym t) return ] ]
]

-- ---- behind a blank

abbrev pub BlankBy : Mode → Option Partial → Bool → Type 0
BlankBy (modes.Failed f) c returned = Unit {0}
BlankBy (modes.Doctype less word_at matched) c returned = Unit {0}
BlankBy modes.Outside None returned = Unit {0}
BlankBy modes.Inside None returned = Unit {0}
BlankBy modes.Comment None returned = Unit {0}
BlankBy (modes.Cdata held) None returned = Unit {0}
BlankBy modes.Instruction None returned = Unit {0}
BlankBy modes.Tag None returned = returned ≡ false
BlankBy modes.AfterName None returned = Unit {0}
BlankBy modes.BeforeValue None returned = Unit {0}
BlankBy (modes.Value q) None returned = Unit {0}
BlankBy (modes.EndTail less) None returned = Unit {0}
BlankBy m c returned = ⊥

abbrev pub Blanked : State → Type 0
Blanked t = BlankBy t.mode t.partial t.returned

abbrev pub After : State → ℕ → ℕ → Mode → Option Partial → Type 0
After s at b m c = Blanked (cleared (step_by (here s m c) at b m))

both : (b : Bool) (x y : State) → Blanked (cleared x) → Blanked (cleared y) → Blanked (cleared (cond b x y))
both true x y p q = p
both false x y p q = q

blank_no_reference : (part : Reference) (b : ℕ) → characters.is_blank b ≡ true → refs.extended part b ≡ None
blank_no_reference ref.Hash b e = every (λ x. refs.extended ref.Hash x ≡ None) refl refl refl refl b e
blank_no_reference part b e = every (λ x. refs.extended part x ≡ None) refl refl refl refl b e

blank_name : (s : State) (less matched at b : ℕ) (w : Option ℕ) → characters.is_blank b ≡ true → ((x : ℕ) → w ≡ Some x → is_letter x ≡ true) → Blanked (cleared (automaton.end_name_by (here s (modes.EndName less matched) None) less matched at b w))
blank_name s less matched at b None e f = every (λ x. Blanked (cleared (automaton.end_name_by (here s (modes.EndName less matched) None) less matched at x None))) tt tt tt tt b e
blank_name s less matched at b (Some w) e f =
    subst (λ (t : State). Blanked (cleared t)) (sym (other_name s less matched at b w (f w refl) (every (λ x. is_letter x ≡ false) refl refl refl refl b e))) tt

pub after_blank : (s : State) (m : Mode) (c : Option Partial) (at b : ℕ) → characters.is_blank b ≡ true → IsSound (here s m c) → ((matched x : ℕ) → wanted s matched ≡ Some x → is_letter x ≡ true) → After s at b m c
after_blank s (modes.Failed f) c at b e z l = tt
after_blank s (modes.Doctype less word_at matched) c at b e z l =
    let t : State = here s (modes.Doctype less word_at matched) c in
    let on : State = cond (nat_lt matched 6) (go t (modes.Doctype less word_at (matched + 1))) (fail t kinds.Doctype less) in
    both (not (steps.is_wanted (steps.doctype_byte matched) b)) (fail t kinds.BadMark word_at) on tt
    (both (nat_lt matched 6) (go t (modes.Doctype less word_at (matched + 1))) (fail t kinds.Doctype less) tt tt)
after_blank s (modes.EndName less matched) (Some p) at b e z l = let k = z.cut in absurd k.0
after_blank s (modes.Reference amp place part) (Some p) at b e z l = let k = z.cut in absurd k.0
after_blank s modes.Inside None at b e z l =
    let t : State = here s modes.Inside None in
    every (λ x. After s at x modes.Inside None) tt tt (both s.returned (go t modes.Inside) (states.add t modes.Inside (10 ∷ []) false) tt tt) tt b e
after_blank s (modes.CdataStart matched) None at b e z l =
    let t : State = here s (modes.CdataStart matched) None in
    let other = every (λ x. steps.is_wanted (steps.cdata_byte matched) x ≡ false) (cdata_other matched 32 refl refl refl refl refl) (cdata_other matched 9 refl refl refl refl refl) (cdata_other matched 10 refl refl refl refl refl) (cdata_other matched 13 refl refl refl refl refl) b e in
    let low : nat_lt b 128 ≡ true = every (λ x. nat_lt x 128 ≡ true) refl refl refl refl b e in
    subst (λ (u : State). Blanked (cleared u)) (sym (cond-true (nat_lt b 128) _ _ low ∙ ap (λ (q : Bool). cond (not q) (fail t kinds.BadMark at) (cond (nat_lt matched 6) (go t (modes.CdataStart (matched + 1))) (go t states.cdata))) other)) tt
after_blank s (modes.Cdata held) None at b e z l =
    let t : State = here s (modes.Cdata held) None in
    every (λ x. After s at x (modes.Cdata held) None) tt tt (both s.returned (go t states.cdata) (states.add t states.cdata (states.brackets held ++ 10 ∷ []) false) tt tt) tt b e
after_blank s (modes.TagName colon) None at b e z l = every (λ x. After s at x (modes.TagName colon) None) refl refl refl refl b e
after_blank s modes.Tag None at b e z l = every (λ x. After s at x modes.Tag None) refl refl refl refl b e
after_blank s (modes.AttrName colon) None at b e z l =
    let t : State = here s (modes.AttrName colon) None in
    let ended : Blanked (cleared (cond (has_name s.attrs s.attr.name) (fail t kinds.DuplicateAttribute s.attr.at) (go t modes.AfterName))) =
    both (has_name s.attrs s.attr.name) (fail t kinds.DuplicateAttribute s.attr.at) (go t modes.AfterName) tt tt in
    every (λ x. After s at x (modes.AttrName colon) None) ended ended ended ended b e
after_blank s (modes.Value quotes.Double) None at b e z l =
    let t : State = here s (modes.Value quotes.Double) None in
    every (λ x. After s at x (modes.Value quotes.Double) None) tt tt (both s.returned (go t (modes.Value quotes.Double)) (states.add_to_value t quotes.Double 32 false) tt tt) tt b e
after_blank s (modes.Value quotes.Single) None at b e z l =
    let t : State = here s (modes.Value quotes.Single) None in
    every (λ x. After s at x (modes.Value quotes.Single) None) tt tt (both s.returned (go t (modes.Value quotes.Single)) (states.add_to_value t quotes.Single 32 false) tt tt) tt b e
after_blank s modes.AfterValue None at b e z l = every (λ x. After s at x modes.AfterValue None) refl refl refl refl b e
after_blank s (modes.EndName less matched) None at b e z l = blank_name s less matched at b (wanted s matched) e (l matched)
after_blank s (modes.Reference amp place part) None at b e z l =
    let t : State = here s (modes.Reference amp place part) None in
    subst (λ (u : State). Blanked (cleared u)) (sym (cond-false (b == 59) _ _ (every (λ x. (x == 59) ≡ false) refl refl refl refl b e) ∙ ap (automaton.reference_on t amp place) (blank_no_reference part b e))) tt
after_blank s m None at b e z l = every (λ x. After s at x m None) tt tt tt tt b e
after_blank s m (Some p) at b e z l =
    let k = z.cut in
    let low : b < 128 = every (λ x. x < 128) (omega arith) (omega arith) (omega arith) (omega arith) b e in
    subst (λ (g : Growth). Blanked (cleared (automaton.partial_by (here s m (Some p)) m p.lead at g))) (sym (broken p b low k.1)) tt

-- ---- a text goes on with the characters of names

abbrev Text : Mode → Type 0
Text modes.Inside = Unit {0}
Text modes.Comment = Unit {0}
Text modes.CommentDash = Unit {0}
Text modes.CommentDashes = Unit {0}
Text (modes.Cdata held) = Unit {0}
Text modes.Instruction = Unit {0}
Text (modes.Value q) = Unit {0}
Text _ = ⊥

pub record InText (t : State) : Type 0 where
  pub mode : Text t.mode
  pub uncut : t.partial ≡ None
  pub idle : t.ready ≡ ready.Nothing

texts : (b : Bool) (x y : State) → (b ≡ true → InText (cleared x)) → (b ≡ false → InText (cleared y)) → InText (cleared (cond b x y))
texts true x y f g = f refl
texts false x y f g = g refl

-- a byte that means nothing but itself
record Calm (b : ℕ) : Type 0 where
  low : b < 128
  storable : is_storable_byte b ≡ true
  less : (b == 60) ≡ false
  amp : (b == 38) ≡ false
  greater : (b == 62) ≡ false
  question : (b == 63) ≡ false
  double : (b == 34) ≡ false
  single : (b == 39) ≡ false

continues_least : (c : ℕ) → continues_name c ≡ true → 32 ≤ c
continues_least c e = elim (or_cases (begins_name c || within 48 57 c || (c == 45)) (c == 46) e) [
  | inl l ↦ elim (or_cases (begins_name c || within 48 57 c) (c == 45) l) [
    | inl k ↦ elim (or_cases (begins_name c) (within 48 57 c) k) [
      | inl b ↦ elim (or_cases (within 65 90 c || within 97 122 c) (c == 95) b) [
        | inl w ↦ elim (or_cases (within 65 90 c) (within 97 122 c) w) [ inl x ↦ above 65 90 x (omega arith) | inr x ↦ above 97 122 x (omega arith) ]
        | inr x ↦ omega (arith, eqb-true c 95 x)
      ]
      | inr x ↦ above 48 57 x (omega arith)
    ]
    | inr x ↦ omega (arith, eqb-true c 45 x)
  ]
  | inr x ↦ omega (arith, eqb-true c 46 x)
]
  where
    above : (low high : ℕ) → within low high c ≡ true → 32 ≤ low → 32 ≤ c
    above low high w h = omega (arith, leb-true low c (and_parts (nat_le low c) (nat_le c high) w).0)

other_than : (b c : ℕ) → continues_name b ≡ true → continues_name c ≡ false → (b == c) ≡ false
other_than b c h n = false_from_ne_true (b == c) (λ e. true≢false (sym h ∙ ap continues_name (eqb-true b c e) ∙ n))

continues_calm : (b : ℕ) → continues_name b ≡ true → Calm b
continues_calm b e =
    let low = continues_low b e in
    let least = continues_least b e in
    record {
      low = low;
      storable = or_right _ (within 32 127 b) (and_from (nat_le 32 b) (nat_le b 127) (le-leb 32 b least) (le-leb b 127 (omega arith)));
      less = other_than b 60 e refl;
      amp = other_than b 38 e refl;
      greater = other_than b 62 e refl;
      question = other_than b 63 e refl;
      double = other_than b 34 e refl;
      single = other_than b 39 e refl;
    }

colon_calm : Calm 58
colon_calm = record { low = omega arith; storable = refl; less = refl; amp = refl; greater = refl; question = refl; double = refl; single = refl }

equals_calm : Calm 61
equals_calm = record { low = omega arith; storable = refl; less = refl; amp = refl; greater = refl; question = refl; double = refl; single = refl }

not_quote : (q : Quote) (b : ℕ) → Calm b → (b == steps.quote_byte q) ≡ false
not_quote quotes.Double b k = k.double
not_quote quotes.Single b k = k.single

never : (b : Bool) (goal : Type 0) → b ≡ false → b ≡ true → goal
never b goal f e = absurd (both_ways b f e)

comment_text : (s : State) (m next : Mode) (at b : ℕ) → Calm b → Text next → InText (cleared (steps.comment (here s m None) next at b))
comment_text s m next at b k h =
    texts (b == 45) _ _ (λ _. record { mode = h; uncut = refl; idle = refl })
    (λ _. texts (is_storable_byte b) _ _ (λ _. record { mode = tt; uncut = refl; idle = refl }) (λ e. never (is_storable_byte b) _ e k.storable))

bracket_text : (s : State) (m : Mode) (held : Brackets) → InText (cleared (steps.bracket (here s m None) held))
bracket_text s m brackets.None = record { mode = tt; uncut = refl; idle = refl }
bracket_text s m brackets.One = record { mode = tt; uncut = refl; idle = refl }
bracket_text s m brackets.Two = record { mode = tt; uncut = refl; idle = refl }

low_text : (s : State) (m : Mode) (at b : ℕ) → Text m → Calm b → InText (cleared (automaton.ascii (here s m None) m at b))
low_text s modes.Inside at b h k =
    texts (b == 60) _ _ (λ e. never (b == 60) _ k.less e)
    (λ _. texts (b == 38) _ _ (λ e. never (b == 38) _ k.amp e)
    (λ _. texts (b == 13) _ _ (λ _. record { mode = tt; uncut = refl; idle = refl })
    (λ _. texts ((b == 10) && s.returned) _ _ (λ _. record { mode = tt; uncut = refl; idle = refl })
    (λ _. texts (is_storable_byte b) _ _ (λ _. record { mode = tt; uncut = refl; idle = refl }) (λ e. never (is_storable_byte b) _ e k.storable)))))
low_text s modes.Comment at b h k = comment_text s modes.Comment modes.CommentDash at b k tt
low_text s modes.CommentDash at b h k = comment_text s modes.CommentDash modes.CommentDashes at b k tt
low_text s modes.CommentDashes at b h k = texts (b == 62) _ _ (λ e. never (b == 62) _ k.greater e) (λ _. comment_text s modes.CommentDashes modes.CommentDashes at b k tt)
low_text s (modes.Cdata held) at b h k =
    texts (b == 93) _ _ (λ _. bracket_text s (modes.Cdata held) held)
    (λ _. texts ((b == 62) && steps.are_two held) _ _ (λ e. never (b == 62) _ k.greater (and_parts (b == 62) (steps.are_two held) e).0)
    (λ _. texts (b == 13) _ _ (λ _. record { mode = tt; uncut = refl; idle = refl })
    (λ _. texts ((b == 10) && s.returned) _ _ (λ _. record { mode = tt; uncut = refl; idle = refl })
    (λ _. texts (is_storable_byte b) _ _ (λ _. record { mode = tt; uncut = refl; idle = refl }) (λ e. never (is_storable_byte b) _ e k.storable)))))
low_text s modes.Instruction at b h k =
    texts (b == 63) _ _ (λ e. never (b == 63) _ k.question e)
    (λ _. texts (is_storable_byte b) _ _ (λ _. record { mode = tt; uncut = refl; idle = refl }) (λ e. never (is_storable_byte b) _ e k.storable))
low_text s (modes.Value q) at b h k =
    texts (b == steps.quote_byte q) _ _ (λ e. never (b == steps.quote_byte q) _ (not_quote q b k) e)
    (λ _. texts (b == 60) _ _ (λ e. never (b == 60) _ k.less e)
    (λ _. texts (b == 38) _ _ (λ e. never (b == 38) _ k.amp e)
    (λ _. texts (b == 13) _ _ (λ _. record { mode = tt; uncut = refl; idle = refl })
    (λ _. texts ((b == 10) && s.returned) _ _ (λ _. record { mode = tt; uncut = refl; idle = refl })
    (λ _. texts ((b == 10) || (b == 9)) _ _ (λ _. record { mode = tt; uncut = refl; idle = refl })
    (λ _. texts (is_storable_byte b) _ _ (λ _. record { mode = tt; uncut = refl; idle = refl }) (λ e. never (is_storable_byte b) _ e k.storable)))))))
low_text s m at b h k = absurd h

-- one ASCII character
one_low : (s : State) (m : Mode) (at b : ℕ) → Text m → Calm b → InText (state_from at (here s m None) (b ∷ []))
one_low s m at b h k = subst (λ (u : State). InText (cleared u)) (sym (plain_text s m at b h k.low)) (low_text s m at b h k)
  where
    plain_text : (s : State) (m : Mode) (at b : ℕ) → Text m → b < 128 → step_by (here s m None) at b m ≡ automaton.ascii (here s m None) m at b
    plain_text s modes.Inside at b h l = cond-true (nat_lt b 128) _ _ (lt-ltb b 128 l)
    plain_text s modes.Comment at b h l = cond-true (nat_lt b 128) _ _ (lt-ltb b 128 l)
    plain_text s modes.CommentDash at b h l = cond-true (nat_lt b 128) _ _ (lt-ltb b 128 l)
    plain_text s modes.CommentDashes at b h l = cond-true (nat_lt b 128) _ _ (lt-ltb b 128 l)
    plain_text s (modes.Cdata held) at b h l = cond-true (nat_lt b 128) _ _ (lt-ltb b 128 l)
    plain_text s modes.Instruction at b h l = cond-true (nat_lt b 128) _ _ (lt-ltb b 128 l)
    plain_text s (modes.Value q) at b h l = cond-true (nat_lt b 128) _ _ (lt-ltb b 128 l)
    plain_text s m at b h l = absurd h

far_text : (s : State) (m : Mode) (r : Bool) (p : Partial) (last c : ℕ) → Text m → automaton.is_unstorable c ≡ false → InText (cleared (behind_whole s m r p last c))
far_text s modes.Inside r p last c h u = subst (λ (q : State). InText (cleared (record q { partial = None }))) (sym (cond-false (automaton.is_unstorable c) (automaton.unstorable (within_character s modes.Inside r p) modes.Inside p.lead last) (automaton.admitted (within_character s modes.Inside r p) modes.Inside p.lead c) u)) (record { mode = tt; uncut = refl; idle = refl })
far_text s modes.Comment r p last c h u = subst (λ (q : State). InText (cleared (record q { partial = None }))) (sym (cond-false (automaton.is_unstorable c) (automaton.unstorable (within_character s modes.Comment r p) modes.Comment p.lead last) (automaton.admitted (within_character s modes.Comment r p) modes.Comment p.lead c) u)) (record { mode = tt; uncut = refl; idle = refl })
far_text s modes.CommentDash r p last c h u = subst (λ (q : State). InText (cleared (record q { partial = None }))) (sym (cond-false (automaton.is_unstorable c) (automaton.unstorable (within_character s modes.CommentDash r p) modes.CommentDash p.lead last) (automaton.admitted (within_character s modes.CommentDash r p) modes.CommentDash p.lead c) u)) (record { mode = tt; uncut = refl; idle = refl })
far_text s modes.CommentDashes r p last c h u = subst (λ (q : State). InText (cleared (record q { partial = None }))) (sym (cond-false (automaton.is_unstorable c) (automaton.unstorable (within_character s modes.CommentDashes r p) modes.CommentDashes p.lead last) (automaton.admitted (within_character s modes.CommentDashes r p) modes.CommentDashes p.lead c) u)) (record { mode = tt; uncut = refl; idle = refl })
far_text s (modes.Cdata held) r p last c h u = subst (λ (q : State). InText (cleared (record q { partial = None }))) (sym (cond-false (automaton.is_unstorable c) (automaton.unstorable (within_character s (modes.Cdata held) r p) (modes.Cdata held) p.lead last) (automaton.admitted (within_character s (modes.Cdata held) r p) (modes.Cdata held) p.lead c) u)) (record { mode = tt; uncut = refl; idle = refl })
far_text s modes.Instruction r p last c h u = subst (λ (q : State). InText (cleared (record q { partial = None }))) (sym (cond-false (automaton.is_unstorable c) (automaton.unstorable (within_character s modes.Instruction r p) modes.Instruction p.lead last) (automaton.admitted (within_character s modes.Instruction r p) modes.Instruction p.lead c) u)) (record { mode = tt; uncut = refl; idle = refl })
far_text s (modes.Value v) r p last c h u = subst (λ (q : State). InText (cleared (record q { partial = None }))) (sym (cond-false (automaton.is_unstorable c) (automaton.unstorable (within_character s (modes.Value v) r p) (modes.Value v) p.lead last) (automaton.admitted (within_character s (modes.Value v) r p) (modes.Value v) p.lead c) u)) (record { mode = tt; uncut = refl; idle = refl })
far_text s m r p last c h u = absurd h

text_plain : (m : Mode) → Text m → IsPlain m
text_plain modes.Inside h = tt
text_plain modes.Comment h = tt
text_plain modes.CommentDash h = tt
text_plain modes.CommentDashes h = tt
text_plain (modes.Cdata held) h = tt
text_plain modes.Instruction h = tt
text_plain (modes.Value q) h = tt
text_plain m h = absurd h

text_here : (s : State) → InText s → here s s.mode None ≡ s
text_here s p = ap (here s s.mode) (sym p.uncut) ∙ here_same s p.idle

low_calm : (c : ℕ) → NameCharacter c → c < 128 → Calm c
low_calm c (inl e) h = subst Calm (sym e) colon_calm
low_calm c (inr e) h = continues_calm c (low_name c e h)

far_calm : (c : ℕ) → NameCharacter c → 128 ≤ c → automaton.is_unstorable c ≡ false
far_calm c (inl e) h = absurd (not_far e)
  where
    not_far : c ≡ 58 → ⊥
    not_far e = omega arith
far_calm c (inr e) h = high_name c e h

text_byte : (s : State) (at b : ℕ) → InText s → Calm b → InText (state_from at s (b ∷ []))
text_byte s at b p k = subst (λ (t : State). InText (state_from at t (b ∷ []))) (text_here s p) (one_low s s.mode at b p.mode k)

text_character : (s : State) (at c : ℕ) → InText s → scalar c ≡ true → NameCharacter c → InText (state_from at s (encode c))
text_character s at c p ok n = elim (cases_lt c 128) [
  | inl h ↦ subst (λ (bs : List ℕ). InText (state_from at s bs)) (sym (encode_ascii c h)) (text_byte s at c p (low_calm c n h))
  | inr h ↦
      let w = far at s s.mode s.returned c (text_plain s.mode p.mode) ok h in
      subst InText (sym (ap (λ (t : State). state_from at t (encode c)) (sym (text_here s p)) ∙ w.walk.state)) (far_text s s.mode s.returned w.p w.place c p.mode (far_calm c n h))
]

text_characters : (cs : List ℕ) (s : State) (at : ℕ) (k : Bool) → InText s → scalars cs ≡ true → goes_on k cs ≡ true → InText (state_from at s (encodes cs))
text_characters [] s at k p ok e = p
text_characters (c ∷ cs) s at k p ok e =
    let q = and_parts (scalar c) (scalars cs) ok in
    let g = goes_parts k c cs e in
    subst InText (sym (state_from-append (encode c) (encodes cs) at s))
    (text_characters cs (state_from at s (encode c)) (at + length (encode c)) g.1 (text_character s at c p q.0 g.0) q.1 g.2)

-- a name and a `=`
text_name : (name : List ℕ) (s : State) (at : ℕ) → InText s → scalars name ≡ true → is_name name ≡ true → InText (state_from at s (encodes name ++ 61 ∷ []))
text_name [] s at p ok e = absurd (true≢false (sym e))
text_name (c ∷ cs) s at p ok e =
    let n = and_parts (begins_name c || is_far c) (goes_on false cs) e in
    let q = and_parts (scalar c) (scalars cs) ok in
    let first = text_character s at c p q.0 (starts_name c n.0) in
    let all : InText (state_from at s (encodes (c ∷ cs))) =
    subst InText (sym (state_from-append (encode c) (encodes cs) at s)) (text_characters cs (state_from at s (encode c)) (at + length (encode c)) false first q.1 n.1) in
    subst InText (sym (state_from-append (encodes (c ∷ cs)) (61 ∷ []) at s)) (text_byte (state_from at s (encodes (c ∷ cs))) (at + length (encodes (c ∷ cs))) 61 all equals_calm)

text_goes : (t : State) (m : Mode) → Text m → IsDead t m None → ⊥
text_goes t modes.Inside h d = d
text_goes t modes.Comment h d = d
text_goes t modes.CommentDash h d = d
text_goes t modes.CommentDashes h d = d
text_goes t (modes.Cdata held) h d = d
text_goes t modes.Instruction h d = d
text_goes t (modes.Value q) h d = d
text_goes t m h d = h

pub text_alive : (name : List ℕ) (s : State) (at : ℕ) → InText s → scalars name ≡ true → is_name name ≡ true → Ends s at (encodes name ++ 61 ∷ []) → ⊥
text_alive name s at p ok e d =
    let t : State = state_from at s (encodes name ++ 61 ∷ []) in
    let q = text_name name s at p ok e in
    text_goes t t.mode q.mode (subst (IsDead t t.mode) q.uncut d)

-- ---- where no name may begin

abbrev pub Closed : Mode → Type 0
Closed modes.Outside = Unit {0}
Closed modes.AfterName = Unit {0}
Closed modes.BeforeValue = Unit {0}
Closed (modes.EndTail less) = Unit {0}
Closed _ = ⊥

no_blank : (b : ℕ) → begins_name b ≡ true → is_blank b ≡ false
no_blank b h = false_from_ne_true (is_blank b) (λ e. both_ways (begins_name b) (every (λ x. begins_name x ≡ false) refl refl refl refl b e) h)

fails_dead : (s t : State) (m : Mode) (at : ℕ) → t ≡ fail (here s m None) kinds.BadMark at → Dead (cleared t)
fails_dead s t m at e = subst (λ (u : State). Dead (cleared u)) (sym e) tt

low_closed : (s : State) (m : Mode) (at b : ℕ) → Closed m → begins_name b ≡ true → b < 128 → Dead (cleared (step_by (here s m None) at b m))
low_closed s modes.Outside at b h k l = fails_dead s _ modes.Outside at (cond-true (nat_lt b 128) _ _ (lt-ltb b 128 l) ∙ cond-false (b == 60) _ _ (no_start b 60 k refl) ∙ cond-false (is_blank b) _ _ (no_blank b k))
low_closed s modes.AfterName at b h k l = fails_dead s _ modes.AfterName at (cond-true (nat_lt b 128) _ _ (lt-ltb b 128 l) ∙ cond-false (b == 61) _ _ (no_start b 61 k refl) ∙ cond-false (is_blank b) _ _ (no_blank b k))
low_closed s modes.BeforeValue at b h k l =
    fails_dead s _ modes.BeforeValue at
    (cond-true (nat_lt b 128) _ _ (lt-ltb b 128 l) ∙ cond-false (b == 34) _ _ (no_start b 34 k refl) ∙ cond-false (b == 39) _ _ (no_start b 39 k refl) ∙ cond-false (is_blank b) _ _ (no_blank b k))
low_closed s (modes.EndTail less) at b h k l = fails_dead s _ (modes.EndTail less) at (cond-true (nat_lt b 128) _ _ (lt-ltb b 128 l) ∙ cond-false (b == 62) _ _ (no_start b 62 k refl) ∙ cond-false (is_blank b) _ _ (no_blank b k))
low_closed s m at b h k l = absurd h

lead_closed : (s : State) (m : Mode) (at : ℕ) (o : Option Partial) → Closed m → Dead (cleared (automaton.lead_on (here s m None) at o))
lead_closed s m at None h = tt
lead_closed s modes.Outside at (Some p) h = refl
lead_closed s modes.AfterName at (Some p) h = refl
lead_closed s modes.BeforeValue at (Some p) h = refl
lead_closed s (modes.EndTail less) at (Some p) h = refl
lead_closed s m at (Some p) h = absurd h

far_closed : (s : State) (m : Mode) (at b : ℕ) → Closed m → 128 ≤ b → Dead (cleared (step_by (here s m None) at b m))
far_closed s modes.Outside at b h k = subst (λ (u : State). Dead (cleared u)) (sym (cond-false (nat_lt b 128) _ _ (le-ltb b 128 k))) (lead_closed s modes.Outside at (utf.begun at b) tt)
far_closed s modes.AfterName at b h k = subst (λ (u : State). Dead (cleared u)) (sym (cond-false (nat_lt b 128) _ _ (le-ltb b 128 k))) (lead_closed s modes.AfterName at (utf.begun at b) tt)
far_closed s modes.BeforeValue at b h k = subst (λ (u : State). Dead (cleared u)) (sym (cond-false (nat_lt b 128) _ _ (le-ltb b 128 k))) (lead_closed s modes.BeforeValue at (utf.begun at b) tt)
far_closed s (modes.EndTail less) at b h k = subst (λ (u : State). Dead (cleared u)) (sym (cond-false (nat_lt b 128) _ _ (le-ltb b 128 k))) (lead_closed s (modes.EndTail less) at (utf.begun at b) tt)
far_closed s m at b h k = absurd h

high_closed : (s : State) (m : Mode) (at : ℕ) (bs more : List ℕ) → Closed m → IsSound (here s m None) → all_high bs ≡ true → (bs ≡ [] → ⊥) → Ends (here s m None) at (bs ++ more)
high_closed s m at [] more h z e f = absurd (f refl)
high_closed s m at (b ∷ bs) more h z e f = ends_on (at + 1) (cleared (step_by (here s m None) at b m)) (bs ++ more) (next_sound (here s m None) at b z) (far_closed s m at b h (high_first b bs e))

some_bytes : (c : ℕ) → 128 ≤ c → encode c ≡ [] → ⊥
some_bytes c h e = elim (cases_lt c 2048) [
  | inl l ↦ nothing (sym (encode_two c h l) ∙ e)
  | inr l ↦ elim (cases_lt c 65536) [ inl k ↦ nothing (sym (encode_three c l k) ∙ e) | inr k ↦ nothing (sym (encode_four c k) ∙ e) ]
]
  where
    nothing : {b : ℕ} {bs : List ℕ} → b ∷ bs ≡ [] → ⊥
    nothing e = cc

pub closed_ends : (name : List ℕ) (s : State) (m : Mode) (at : ℕ) (more : List ℕ) → Closed m → IsSound (here s m None) → is_name name ≡ true → Ends (here s m None) at (encodes name ++ more)
closed_ends [] s m at more h z e = absurd (true≢false (sym e))
closed_ends (c ∷ cs) s m at more h z e =
    let n = and_parts (begins_name c || is_far c) (goes_on false cs) e in
    subst (Ends (here s m None) at) (sym (append_assoc (encode c) (encodes cs) more))
    (elim (or_cases (begins_name c) (is_far c) n.0) [
      | inl b ↦
          let l = continues_low c (begins_continues c b) in
          subst (λ (bs : List ℕ). Ends (here s m None) at (bs ++ (encodes cs ++ more))) (sym (encode_ascii c l))
          (ends_on (at + 1) (cleared (step_by (here s m None) at c m)) (encodes cs ++ more) (next_sound (here s m None) at c z) (low_closed s m at c h b l))
      | inr f ↦ let l = (far_parts c f).0 in high_closed s m at (encode c) (encodes cs ++ more) h z (high_bytes c l) (some_bytes c l)
    ])
