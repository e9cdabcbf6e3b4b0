-- Comments, instructions and CDATA sections are stepped over.
use Rattle.std.proofs.Common.{◌≡◌, ℕ, ◌+◌, ◌≤◌, ◌<◌, Bool, true, false, List, [], ◌∷◌, ◌++◌, length, refl, sym, ◌∙◌, ap, subst, arith, inl, inr, append_assoc, append-nil}
use Rattle.std.specs.Prelude.{◌==◌, ◌||◌, ◌&&◌, nat_le, codes, if◌then◌else◌}
use Rattle.std.proofs.lemmas.Bool.{cases_eq, or_cases, or_parts, and_parts, and_from, le-leb, and_left, and_right, true≢false}
use lib.Utf8.{encode, encodes, scalars}
use lib.Utf8 as utf8
use Rattle.mof_metamodel.specs.Characters.{is_storable_character, is_storable_text}
use Rattle.xmi_text.specs.ByteClass.{begins_name, continues_name, is_storable_byte}
use Rattle.xmi_text.specs.Names.{is_far, is_name, goes_on}
use Rattle.xmi_text.specs.States.{around, is_inside}
use Rattle.xmi_text.specs.States as states
use Rattle.xmi_text.specs.Steps as steps
use Rattle.xmi_text.specs.Automaton.{ascii, is_unstorable}
use Rattle.xmi_text.specs.Markup.{begins, starts, contains, line_ends, IsUpTo, IsInstruction, is_name_character}
use Rattle.xmi_text.specs.declared.utf_eight.Partial.{Partial}
use Rattle.xmi_text.specs.declared.state.State.{State}
use Rattle.xmi_text.specs.declared.state.Mode.{Mode}
use Rattle.xmi_text.specs.declared.state.Mode.TheVariants as modes
use Rattle.xmi_text.specs.declared.state.Brackets.{Brackets}
use Rattle.xmi_text.specs.declared.state.Brackets.TheVariants.{None, One, Two}
use Rattle.xmi_text.proofs.forward.Walks.{Walk, Walk-none, Walk-append, Walk-to}
use Rattle.xmi_text.proofs.forward.Encoded.{at_mode, IsPlain, behind_whole, if_true, if_false}
use Rattle.xmi_text.proofs.forward.Stepping.{quiet, other, storable_byte, storable_far, Walk-characters, ends_cases, line_ends-other}
use Rattle.xmi_text.proofs.forward.NameSteps.{high_admitted, far_parts, continues_low, begins_continues, name_run, passing, target_naming}

-- what is in no list is in no end of it
pub contains-later : (part : List ℕ) (x : ℕ) (xs : List ℕ) → contains part (x ∷ xs) ≡ false → contains part xs ≡ false
contains-later part x xs e = (or_parts (begins part (x ∷ xs)) (contains part xs) e).1

-- the last characters, of which an end may consist
abbrev pub held : ℕ → Brackets → List ℕ
held x None = []
held x One = x ∷ []
held x Two = x ∷ x ∷ []

-- one more of them
abbrev pub one_more : Brackets → Brackets
one_more None = One
one_more One = Two
one_more Two = Two

more_held : (x : ℕ) (part : List ℕ) (h : Brackets) (cs : List ℕ) → contains part (held x h ++ x ∷ cs) ≡ false → contains part (held x (one_more h) ++ cs) ≡ false
more_held x part None cs e = e
more_held x part One cs e = e
more_held x part Two cs e = contains-later part x (x ∷ x ∷ cs) e

none_held : (x : ℕ) (part : List ℕ) (h : Brackets) (c : ℕ) (cs : List ℕ) → contains part (held x h ++ c ∷ cs) ≡ false → contains part cs ≡ false
none_held x part None c cs e = contains-later part c cs e
none_held x part One c cs e = contains-later part c cs (contains-later part x (c ∷ cs) e)
none_held x part Two c cs e = contains-later part c cs (contains-later part x (c ∷ cs) (contains-later part x (x ∷ c ∷ cs) e))

-- ## comments

abbrev pub dashed : Brackets → Mode
dashed None = modes.Comment
dashed One = modes.CommentDash
dashed Two = modes.CommentDashes

dashed_plain : (h : Brackets) → IsPlain (dashed h)
dashed_plain None = tt
dashed_plain One = tt
dashed_plain Two = tt

-- a dash
dash : (at : ℕ) (s : State) (h : Brackets) → Walk at (at_mode s (dashed h) false) (encode 45) [] (at_mode s (dashed (one_more h)) false)
dash at s None = quiet at s modes.Comment false 45 s modes.CommentDash false tt refl (λ h. refl) (λ h p last b. absurd (omega arith))
dash at s One = quiet at s modes.CommentDash false 45 s modes.CommentDashes false tt refl (λ h. refl) (λ h p last b. absurd (omega arith))
dash at s Two = quiet at s modes.CommentDashes false 45 s modes.CommentDashes false tt refl (λ h. refl) (λ h p last b. absurd (omega arith))

-- no end behind two dashes
no_end : (h : Brackets) (c : ℕ) (cs : List ℕ) → contains (codes "-->") (held 45 h ++ c ∷ cs) ≡ false → (h ≡ Two) → (c ≡ 62) → ⊥
no_end None c cs e k x = cc
no_end One c cs e k x = cc
no_end Two c cs e k x = true≢false (subst (λ q. contains (codes "-->") (45 ∷ 45 ∷ q ∷ cs) ≡ false) x e)

passed_low : (s : State) (h : Brackets) (at c : ℕ) → c < 128 → is_storable_character c ≡ true → (c == 45) ≡ false → ((h ≡ Two) → (c ≡ 62) → ⊥) → ascii (at_mode s (dashed h) false) (dashed h) at c ≡ at_mode s modes.Comment false
passed_low s None at c l e f n = if_false (c == 45) _ _ f ∙ if_true (is_storable_byte c) _ _ (storable_byte c l e)
passed_low s One at c l e f n = if_false (c == 45) _ _ f ∙ if_true (is_storable_byte c) _ _ (storable_byte c l e)
passed_low s Two at c l e f n = if_false (c == 62) _ _ (other c 62 (n refl)) ∙ if_false (c == 45) _ _ f ∙ if_true (is_storable_byte c) _ _ (storable_byte c l e)

passed_high : (s : State) (h : Brackets) (p : Partial) (last c : ℕ) → is_unstorable c ≡ false → behind_whole s (dashed h) false p last c ≡ at_mode s modes.Comment false
passed_high s None p last c f = high_admitted s modes.Comment false p last c _ refl f refl
passed_high s One p last c f = high_admitted s modes.CommentDash false p last c _ refl f refl
passed_high s Two p last c f = high_admitted s modes.CommentDashes false p last c _ refl f refl

pub comment_run : (at : ℕ) (s : State) (h : Brackets) (cs : List ℕ) → scalars cs ≡ true → is_storable_text cs ≡ true → contains (codes "-->") (held 45 h ++ cs) ≡ false → (k : Brackets) × Walk at (at_mode s (dashed h) false) (encodes cs) [] (at_mode s (dashed k) false)
comment_run at s h [] ok e n = (h, Walk-none at (at_mode s (dashed h) false))
comment_run at s h (c ∷ cs) ok e n =
    let o = and_parts (utf8.scalar c) (scalars cs) ok in
    let p = and_parts (is_storable_character c) (is_storable_text cs) e in
    elim (cases_eq c 45) [
      | inl x ↦
          let m : contains (codes "-->") (held 45 (one_more h) ++ cs) ≡ false = more_held 45 (codes "-->") h cs (subst (λ q. contains (codes "-->") (held 45 h ++ q ∷ cs) ≡ false) x n) in
          let more = comment_run (at + length (encode c)) s (one_more h) cs o.1 p.1 m in
          let one : Walk at (at_mode s (dashed h) false) (encode c) [] (at_mode s (dashed (one_more h)) false) = subst (λ q. Walk at (at_mode s (dashed h) false) (encode q) [] (at_mode s (dashed (one_more h)) false)) (sym x) (dash at s h) in
          (more.0, Walk-append at _ _ _ (encode c) (encodes cs) [] [] one more.1)
      | inr y ↦
          let more = comment_run (at + length (encode c)) s None cs o.1 p.1 (none_held 45 (codes "-->") h c cs n) in
          let one : Walk at (at_mode s (dashed h) false) (encode c) [] (at_mode s modes.Comment false) =
          quiet at s (dashed h) false c s modes.Comment false (dashed_plain h) o.0
          (λ l. passed_low s h at c l p.0 (other c 45 y) (no_end h c cs n))
          (λ l q last b. passed_high s h q last c (storable_far c l p.0)) in
          (more.0, Walk-append at _ _ _ (encode c) (encodes cs) [] [] one more.1)
    ]

comment_end : (at : ℕ) (s : State) (h : Brackets) → Walk at (at_mode s (dashed h) false) (encodes (codes "-->")) [] (at_mode s (around s) false)
unfolding encode
comment_end at s None = record { state = refl; marks = refl }
comment_end at s One = record { state = refl; marks = refl }
comment_end at s Two = record { state = refl; marks = refl }

-- ## the start of each, inside an element or outside

-- where text goes on
abbrev pub level : Bool → Mode
level inside = if inside then modes.Inside else modes.Outside

comment_start : (at : ℕ) (s : State) (inside r : Bool) → Walk at (at_mode s (level inside) r) (encodes (codes "<!--")) [] (at_mode s modes.Comment false)
unfolding encode
comment_start at s true r = record { state = refl; marks = refl }
comment_start at s false r = record { state = refl; marks = refl }

pub comment_walk : (at : ℕ) (s : State) (inside r : Bool) (text : List ℕ) → scalars text ≡ true → IsUpTo (codes "-->") text → Walk at (at_mode s (level inside) r) (encodes (codes "<!--" ++ (text ++ codes "-->"))) [] (at_mode s (around s) false)
comment_walk at s inside r text ok e =
    Walk-characters at _ _ _ (codes "<!--") (text ++ codes "-->") [] [] (comment_start at s inside r)
    (λ place.
    let run = comment_run place s None text ok e.0 e.1 in
    Walk-characters place _ _ _ text (codes "-->") [] [] run.1 (λ q. comment_end q s run.0))

-- ## instructions

abbrev asked : Bool → Mode
asked question = if question then modes.InstructionQuestion else modes.Instruction

abbrev mark : Bool → List ℕ
mark question = if question then 63 ∷ [] else []

instruction_end : (at : ℕ) (s : State) (q : Bool) → Walk at (at_mode s (asked q) false) (encodes (codes "?>")) [] (at_mode s (around s) false)
unfolding encode
instruction_end at s true = record { state = refl; marks = refl }
instruction_end at s false = record { state = refl; marks = refl }

target_end : (at : ℕ) (s : State) (k : Bool) → Walk at (at_mode s (modes.Target k) false) (encodes (codes "?>")) [] (at_mode s (around s) false)
unfolding encode
target_end at s k = record { state = refl; marks = refl }

instruction_start : (at : ℕ) (s : State) (inside r : Bool) → Walk at (at_mode s (level inside) r) (encodes (codes "<?")) [] (at_mode s modes.Question false)
unfolding encode
instruction_start at s true r = record { state = refl; marks = refl }
instruction_start at s false r = record { state = refl; marks = refl }

asked_plain : (q : Bool) → IsPlain (asked q)
asked_plain true = tt
asked_plain false = tt

question : (at : ℕ) (s : State) (q : Bool) → Walk at (at_mode s (asked q) false) (encode 63) [] (at_mode s modes.InstructionQuestion false)
question at s true = quiet at s modes.InstructionQuestion false 63 s modes.InstructionQuestion false tt refl (λ h. refl) (λ h p last b. absurd (omega arith))
question at s false = quiet at s modes.Instruction false 63 s modes.InstructionQuestion false tt refl (λ h. refl) (λ h p last b. absurd (omega arith))

more_asked : (q : Bool) (cs : List ℕ) → contains (codes "?>") (mark q ++ 63 ∷ cs) ≡ false → contains (codes "?>") (63 ∷ cs) ≡ false
more_asked true cs e = contains-later (codes "?>") 63 (63 ∷ cs) e
more_asked false cs e = e

none_asked : (q : Bool) (c : ℕ) (cs : List ℕ) → contains (codes "?>") (mark q ++ c ∷ cs) ≡ false → contains (codes "?>") cs ≡ false
none_asked true c cs e = contains-later (codes "?>") c cs (contains-later (codes "?>") 63 (c ∷ cs) e)
none_asked false c cs e = contains-later (codes "?>") c cs e

no_mark : (q : Bool) (c : ℕ) (cs : List ℕ) → contains (codes "?>") (mark q ++ c ∷ cs) ≡ false → (q ≡ true) → (c ≡ 62) → ⊥
no_mark true c cs e k x = true≢false (subst (λ n. contains (codes "?>") (63 ∷ n ∷ cs) ≡ false) x e)
no_mark false c cs e k x = cc

asked_low : (s : State) (q : Bool) (at c : ℕ) → c < 128 → is_storable_character c ≡ true → (c == 63) ≡ false → ((q ≡ true) → (c ≡ 62) → ⊥) → ascii (at_mode s (asked q) false) (asked q) at c ≡ at_mode s modes.Instruction false
asked_low s true at c l e f n = if_false (c == 62) _ _ (other c 62 (n refl)) ∙ if_false (c == 63) _ _ f ∙ if_true (is_storable_byte c) _ _ (storable_byte c l e)
asked_low s false at c l e f n = if_false (c == 63) _ _ f ∙ if_true (is_storable_byte c) _ _ (storable_byte c l e)

asked_high : (s : State) (q : Bool) (p : Partial) (last c : ℕ) → is_unstorable c ≡ false → behind_whole s (asked q) false p last c ≡ at_mode s modes.Instruction false
asked_high s true p last c f = high_admitted s modes.InstructionQuestion false p last c _ refl f refl
asked_high s false p last c f = high_admitted s modes.Instruction false p last c _ refl f refl

instruction_run : (at : ℕ) (s : State) (q : Bool) (cs : List ℕ) → scalars cs ≡ true → is_storable_text cs ≡ true → contains (codes "?>") (mark q ++ cs) ≡ false → (k : Bool) × Walk at (at_mode s (asked q) false) (encodes cs) [] (at_mode s (asked k) false)
instruction_run at s q [] ok e n = (q, Walk-none at (at_mode s (asked q) false))
instruction_run at s q (c ∷ cs) ok e n =
    let o = and_parts (utf8.scalar c) (scalars cs) ok in
    let p = and_parts (is_storable_character c) (is_storable_text cs) e in
    elim (cases_eq c 63) [
      | inl x ↦
          let m : contains (codes "?>") (mark true ++ cs) ≡ false = more_asked q cs (subst (λ d. contains (codes "?>") (mark q ++ d ∷ cs) ≡ false) x n) in
          let more = instruction_run (at + length (encode c)) s true cs o.1 p.1 m in
          let one : Walk at (at_mode s (asked q) false) (encode c) [] (at_mode s (asked true) false) = subst (λ d. Walk at (at_mode s (asked q) false) (encode d) [] (at_mode s (asked true) false)) (sym x) (question at s q) in
          (more.0, Walk-append at _ _ _ (encode c) (encodes cs) [] [] one more.1)
      | inr y ↦
          let more = instruction_run (at + length (encode c)) s false cs o.1 p.1 (none_asked q c cs n) in
          let one : Walk at (at_mode s (asked q) false) (encode c) [] (at_mode s (asked false) false) =
          quiet at s (asked q) false c s modes.Instruction false (asked_plain q) o.0
          (λ l. asked_low s q at c l p.0 (other c 63 y) (no_mark q c cs n))
          (λ l b last d. asked_high s q b last c (storable_far c l p.0)) in
          (more.0, Walk-append at _ _ _ (encode c) (encodes cs) [] [] one more.1)
    ]

-- the first character of a name
pub begins_low : (c : ℕ) → (begins_name c || is_far c) ≡ true → c < 128 → begins_name c ≡ true
begins_low c e h = elim (or_cases (begins_name c) (is_far c) e) [ inl x ↦ x | inr x ↦ absurd (omega (arith, (far_parts c x).0)) ]

pub begins_high : (c : ℕ) → (begins_name c || is_far c) ≡ true → 128 ≤ c → is_unstorable c ≡ false
begins_high c e h = elim (or_cases (begins_name c) (is_far c) e) [
  | inl x ↦ absurd (omega (arith, continues_low c (begins_continues c x)))
  | inr x ↦ storable_far c h (far_parts c x).1
]

target_walk : (at : ℕ) (s : State) (target : List ℕ) → scalars target ≡ true → is_name target ≡ true → (k : Bool) × Walk at (at_mode s modes.Question false) (encodes target) [] (at_mode s (modes.Target k) false)
target_walk at s [] ok e = absurd (true≢false (sym e))
target_walk at s (c ∷ cs) ok e =
    let o = and_parts (utf8.scalar c) (scalars cs) ok in
    let p = and_parts (begins_name c || is_far c) (goes_on false cs) e in
    let one : Walk at (at_mode s modes.Question false) (encode c) [] (at_mode s (modes.Target false) false) =
    quiet at s modes.Question false c s (modes.Target false) false tt o.0
    (λ l. if_true (begins_name c) _ _ (begins_low c p.0 l))
    (λ l b last d. high_admitted s modes.Question false b last c _ refl (begins_high c p.0 l) refl) in
    let more = name_run (λ k. modes.Target k) passing target_naming (at + length (encode c)) s false cs o.1 p.1 in
    (more.0, Walk-append at _ _ _ (encode c) (encodes cs) [] [] one more.1)

-- what follows an instruction's name
record Behind (at : ℕ) (s : State) (k : Bool) (c : ℕ) (cs : List ℕ) : Type 0 where
  asks : Bool
  rest : contains (codes "?>") (mark asks ++ cs) ≡ false
  walk : Walk at (at_mode s (modes.Target k) false) (encode c) [] (at_mode s (asked asks) false)

behind_target : (at : ℕ) (s : State) (k : Bool) (c : ℕ) (cs : List ℕ) → utf8.scalar c ≡ true → is_storable_character c ≡ true → is_name_character c ≡ false → contains (codes "?>") (c ∷ cs) ≡ false → Behind at s k c cs
behind_target at s k c cs ok e f n =
    let p = or_parts (continues_name c) ((c == 58) || is_far c) f in
    let q = or_parts (c == 58) (is_far c) p.1 in
    let near : 128 ≤ c → ⊥ = λ h. true≢false (sym (and_from (nat_le 128 c) (is_storable_character c) (le-leb 128 c h) e) ∙ q.1) in
    elim (cases_eq c 63) [
      | inl x ↦ record {
        asks = true;
        rest = subst (λ d. contains (codes "?>") (d ∷ cs) ≡ false) x n;
        walk = subst (λ d. Walk at (at_mode s (modes.Target k) false) (encode d) [] (at_mode s modes.InstructionQuestion false)) (sym x)
            (quiet at s (modes.Target k) false 63 s modes.InstructionQuestion false tt refl (λ h. refl) (λ h b last d. absurd (omega arith)));
      }
      | inr y ↦ record {
        asks = false;
        rest = contains-later (codes "?>") c cs n;
        walk = quiet at s (modes.Target k) false c s modes.Instruction false tt ok
            (λ l. if_false (c == 58) _ _ q.0 ∙ if_false (continues_name c) _ _ p.0 ∙ if_false (c == 63) _ _ (other c 63 y) ∙ if_true (is_storable_byte c) _ _ (storable_byte c l e))
            (λ l b last d. absurd (near l));
      }
    ]

behind_walk : (at : ℕ) (s : State) (k : Bool) (text : List ℕ) → scalars text ≡ true → starts is_name_character text ≡ false → IsUpTo (codes "?>") text → Walk at (at_mode s (modes.Target k) false) (encodes (text ++ codes "?>")) [] (at_mode s (around s) false)
behind_walk at s k [] ok f e = target_end at s k
behind_walk at s k (c ∷ cs) ok f e =
    let o = and_parts (utf8.scalar c) (scalars cs) ok in
    let p = and_parts (is_storable_character c) (is_storable_text cs) e.0 in
    let one = behind_target at s k c cs o.0 p.0 f e.1 in
    Walk-append at _ _ _ (encode c) (encodes (cs ++ codes "?>")) [] [] one.walk
    (let run = instruction_run (at + length (encode c)) s one.asks cs o.1 p.1 one.rest in
    Walk-characters (at + length (encode c)) _ _ _ cs (codes "?>") [] [] run.1 (λ q. instruction_end q s run.0))

pub instruction_walk : (at : ℕ) (s : State) (inside r : Bool) (target text : List ℕ) → scalars target ≡ true → scalars text ≡ true → IsInstruction target text → Walk at (at_mode s (level inside) r) (encodes (codes "<?" ++ (target ++ (text ++ codes "?>")))) [] (at_mode s (around s) false)
instruction_walk at s inside r target text ok_target ok_text e =
    Walk-characters at _ _ _ (codes "<?") (target ++ (text ++ codes "?>")) [] [] (instruction_start at s inside r)
    (λ place.
    let t = target_walk place s target ok_target e.named in
    Walk-characters place _ _ _ target (text ++ codes "?>") [] [] t.1 (λ q. behind_walk q s t.0 text ok_text e.longest e.up_to))

-- ## CDATA sections

-- the brackets that were held back behind a carriage return: none
IsHeld : Bool → Brackets → Type 0
IsHeld true None = Unit {0}
IsHeld true One = ⊥
IsHeld true Two = ⊥
IsHeld false h = Unit {0}

-- a character of a section, read as these
record Sectioned (at : ℕ) (s : State) (h : Brackets) (r : Bool) (c : ℕ) (cs : List ℕ) : Type 0 where
  run : List ℕ
  holds : Brackets
  returned : Bool
  read : List ℕ
  ends : line_ends r (c ∷ cs) ≡ read ++ line_ends returned cs
  same : run ++ held 93 holds ≡ (s.run ++ held 93 h) ++ read
  fine : IsHeld returned holds
  rest : contains (codes "]]>") (held 93 holds ++ cs) ≡ false
  walk : Walk at (at_mode s (modes.Cdata h) r) (encode c) [] (at_mode (record s { run = run }) (modes.Cdata holds) returned)

bracket_one : (at : ℕ) (s : State) (h : Brackets) (r : Bool) (cs : List ℕ) → contains (codes "]]>") (held 93 h ++ 93 ∷ cs) ≡ false → Sectioned at s h r 93 cs
unfolding IsHeld
bracket_one at s None r cs n = record {
  run = s.run;
  holds = One;
  returned = false;
  read = 93 ∷ [];
  ends = refl;
  same = sym (append_assoc s.run [] (93 ∷ []));
  fine = tt;
  rest = n;
  walk = quiet at s (modes.Cdata None) r 93 s (modes.Cdata One) false tt refl (λ h. refl) (λ h b last d. absurd (omega arith));
}
bracket_one at s One r cs n = record {
  run = s.run;
  holds = Two;
  returned = false;
  read = 93 ∷ [];
  ends = refl;
  same = sym (append_assoc s.run (93 ∷ []) (93 ∷ []));
  fine = tt;
  rest = n;
  walk = quiet at s (modes.Cdata One) r 93 s (modes.Cdata Two) false tt refl (λ h. refl) (λ h b last d. absurd (omega arith));
}
bracket_one at s Two r cs n = record {
  run = s.run ++ 93 ∷ [];
  holds = Two;
  returned = false;
  read = 93 ∷ [];
  ends = refl;
  same = append_assoc s.run (93 ∷ []) (93 ∷ 93 ∷ []) ∙ sym (append_assoc s.run (93 ∷ 93 ∷ []) (93 ∷ []));
  fine = tt;
  rest = contains-later (codes "]]>") 93 (93 ∷ 93 ∷ cs) n;
  walk = quiet at s (modes.Cdata Two) r 93 (record s { run = s.run ++ 93 ∷ [] }) (modes.Cdata Two) false tt refl (λ h. refl) (λ h b last d. absurd (omega arith));
}

brackets_held : (h : Brackets) → states.brackets h ≡ held 93 h
brackets_held None = refl
brackets_held One = refl
brackets_held Two = refl

no_bracket : (h : Brackets) (c : ℕ) (cs : List ℕ) → contains (codes "]]>") (held 93 h ++ c ∷ cs) ≡ false → ((c == 62) && steps.are_two h) ≡ false
no_bracket None c cs e = and_right (c == 62) false refl
no_bracket One c cs e = and_right (c == 62) false refl
no_bracket Two c cs e = elim (cases_eq c 62) [
  | inl x ↦ absurd (true≢false (subst (λ q. contains (codes "]]>") (93 ∷ 93 ∷ q ∷ cs) ≡ false) x e))
  | inr y ↦ and_left (c == 62) true (other c 62 y)
]

section_low : (s : State) (h : Brackets) (r : Bool) (at c : ℕ) → c < 128 → is_storable_character c ≡ true → (c == 93) ≡ false → ((c == 62) && steps.are_two h) ≡ false → (c ≡ 13 → ⊥) → ((c == 10) && r) ≡ false → ascii (at_mode s (modes.Cdata h) r) (modes.Cdata h) at c ≡ at_mode (record s { run = s.run ++ (held 93 h ++ c ∷ []) }) (modes.Cdata None) false
section_low s h r at c l e f g n k =
    if_false (c == 93) _ _ f
    ∙ if_false ((c == 62) && steps.are_two h) _ _ g
    ∙ if_false (c == 13) _ _ (other c 13 n)
    ∙ if_false ((c == 10) && r) _ _ k
    ∙ if_true (is_storable_byte c) _ _ (storable_byte c l e)
    ∙ ap (λ b. at_mode (record s { run = s.run ++ (b ++ c ∷ []) }) (modes.Cdata None) false) (brackets_held h)

section_high : (s : State) (h : Brackets) (r : Bool) (p : Partial) (last c : ℕ) → is_unstorable c ≡ false → behind_whole s (modes.Cdata h) r p last c ≡ at_mode (record s { run = s.run ++ (held 93 h ++ c ∷ []) }) (modes.Cdata None) false
section_high s h r p last c f =
    high_admitted s (modes.Cdata h) r p last c _ refl f refl
    ∙ ap (λ b. at_mode (record s { run = s.run ++ (b ++ c ∷ []) }) (modes.Cdata None) false) (brackets_held h)

section_return : (at : ℕ) (s : State) (h : Brackets) (r : Bool) (cs : List ℕ) → contains (codes "]]>") (held 93 h ++ 13 ∷ cs) ≡ false → Sectioned at s h r 13 cs
unfolding IsHeld
section_return at s h r cs n = record {
  run = s.run ++ (held 93 h ++ 10 ∷ []);
  holds = None;
  returned = true;
  read = 10 ∷ [];
  ends = refl;
  same = append-nil (s.run ++ (held 93 h ++ 10 ∷ [])) ∙ sym (append_assoc s.run (held 93 h) (10 ∷ []));
  fine = tt;
  rest = none_held 93 (codes "]]>") h 13 cs n;
  walk = quiet at s (modes.Cdata h) r 13 (record s { run = s.run ++ (held 93 h ++ 10 ∷ []) }) (modes.Cdata None) true tt refl
      (λ l. ap (λ b. at_mode (record s { run = s.run ++ (b ++ 10 ∷ []) }) (modes.Cdata None) true) (brackets_held h)) (λ l b last d. absurd (omega arith));
}

section_feed : (at : ℕ) (s : State) (h : Brackets) (cs : List ℕ) → IsHeld true h → contains (codes "]]>") (held 93 h ++ 10 ∷ cs) ≡ false → Sectioned at s h true 10 cs
unfolding IsHeld
section_feed at s One cs i n = absurd i
section_feed at s Two cs i n = absurd i
section_feed at s None cs i n = record {
  run = s.run;
  holds = None;
  returned = false;
  read = [];
  ends = refl;
  same = sym (append-nil (s.run ++ []));
  fine = tt;
  rest = contains-later (codes "]]>") 10 cs n;
  walk = quiet at s (modes.Cdata None) true 10 s (modes.Cdata None) false tt refl (λ l. refl) (λ l b last d. absurd (omega arith));
}

section_other : (at : ℕ) (s : State) (h : Brackets) (r : Bool) (c : ℕ) (cs : List ℕ) → utf8.scalar c ≡ true → is_storable_character c ≡ true → (c == 93) ≡ false → (c ≡ 13 → ⊥) → ((c == 10) && r) ≡ false → contains (codes "]]>") (held 93 h ++ c ∷ cs) ≡ false → Sectioned at s h r c cs
unfolding IsHeld
section_other at s h r c cs ok e f m k n = record {
  run = s.run ++ (held 93 h ++ c ∷ []);
  holds = None;
  returned = false;
  read = c ∷ [];
  ends = line_ends-other r c cs m k;
  same = append-nil (s.run ++ (held 93 h ++ c ∷ [])) ∙ sym (append_assoc s.run (held 93 h) (c ∷ []));
  fine = tt;
  rest = none_held 93 (codes "]]>") h c cs n;
  walk = quiet at s (modes.Cdata h) r c (record s { run = s.run ++ (held 93 h ++ c ∷ []) }) (modes.Cdata None) false tt ok
      (λ l. section_low s h r at c l e f (no_bracket h c cs n) m k) (λ l b last d. section_high s h r b last c (storable_far c l e));
}

section_one : (at : ℕ) (s : State) (h : Brackets) (r : Bool) (c : ℕ) (cs : List ℕ) → IsHeld r h → utf8.scalar c ≡ true → is_storable_character c ≡ true → contains (codes "]]>") (held 93 h ++ c ∷ cs) ≡ false → Sectioned at s h r c cs
section_one at s h r c cs i ok e n = elim (cases_eq c 93) [
  | inl x ↦ subst (λ q. Sectioned at s h r q cs) (sym x) (bracket_one at s h r cs (subst (λ q. contains (codes "]]>") (held 93 h ++ q ∷ cs) ≡ false) x n))
  | inr y ↦ elim (ends_cases r c) [
    | inl x ↦ subst (λ q. Sectioned at s h r q cs) (sym x) (section_return at s h r cs (subst (λ q. contains (codes "]]>") (held 93 h ++ q ∷ cs) ≡ false) x n))
    | inr k ↦ elim k [
      | inl z ↦ subst (λ q. Sectioned at s h q c cs) (sym z.0)
          (subst (λ q. Sectioned at s h true q cs) (sym z.1)
          (section_feed at s h cs (subst (λ q. IsHeld q h) z.0 i) (subst (λ q. contains (codes "]]>") (held 93 h ++ q ∷ cs) ≡ false) z.1 n)))
      | inr z ↦ section_other at s h r c cs ok e (other c 93 y) z.0 z.1 n
    ]
  ]
]

record Section (at : ℕ) (s : State) (h : Brackets) (r : Bool) (cs : List ℕ) : Type 0 where
  run : List ℕ
  holds : Brackets
  returned : Bool
  same : run ++ held 93 holds ≡ (s.run ++ held 93 h) ++ line_ends r cs
  walk : Walk at (at_mode s (modes.Cdata h) r) (encodes cs) [] (at_mode (record s { run = run }) (modes.Cdata holds) returned)

section_run : (at : ℕ) (s : State) (h : Brackets) (r : Bool) (cs : List ℕ) → IsHeld r h → scalars cs ≡ true → is_storable_text cs ≡ true → contains (codes "]]>") (held 93 h ++ cs) ≡ false → Section at s h r cs
section_run at s h r [] i ok e n = record {
  run = s.run;
  holds = h;
  returned = r;
  same = sym (append-nil (s.run ++ held 93 h));
  walk = Walk-none at (at_mode s (modes.Cdata h) r);
}
section_run at s h r (c ∷ cs) i ok e n =
    let o = and_parts (utf8.scalar c) (scalars cs) ok in
    let p = and_parts (is_storable_character c) (is_storable_text cs) e in
    let one = section_one at s h r c cs i o.0 p.0 n in
    let s1 : State = record s { run = one.run } in
    let more = section_run (at + length (encode c)) s1 one.holds one.returned cs one.fine o.1 p.1 one.rest in
    record {
      run = more.run;
      holds = more.holds;
      returned = more.returned;
      same = more.same ∙ ap (λ x. x ++ line_ends one.returned cs) one.same
          ∙ append_assoc (s.run ++ held 93 h) one.read (line_ends one.returned cs)
          ∙ ap (λ x. (s.run ++ held 93 h) ++ x) (sym one.ends);
      walk = Walk-append at _ _ _ (encode c) (encodes cs) [] [] one.walk more.walk;
    }

section_end : (at : ℕ) (s : State) (h : Brackets) (r : Bool) → Walk at (at_mode s (modes.Cdata h) r) (encodes (codes "]]>")) [] (at_mode (record s { run = s.run ++ held 93 h }) modes.Inside false)
unfolding encode
section_end at s None r = record { state = ap (λ x. at_mode (record s { run = x }) modes.Inside false) (sym (append-nil s.run)); marks = refl }
section_end at s One r = record { state = refl; marks = refl }
section_end at s Two r = record { state = ap (λ x. at_mode (record s { run = x }) modes.Inside false) (append_assoc s.run (93 ∷ []) (93 ∷ [])); marks = refl }

section_bang : (at : ℕ) (s : State) (r : Bool) → Walk at (at_mode s modes.Inside r) (encodes (codes "<!")) [] (at_mode s (modes.Bang at) false)
unfolding encode
section_bang at s r = record { state = refl; marks = refl }

section_word : (at : ℕ) (s : State) → Walk at (at_mode s (modes.CdataStart 1) false) (encodes (codes "CDATA[")) [] (at_mode s (modes.Cdata None) false)
unfolding encode
section_word at s = record { state = refl; marks = refl }

section_open : (at place : ℕ) (s : State) → is_inside s ≡ true → Walk at (at_mode s (modes.Bang place) false) (encodes (codes "[")) [] (at_mode s (modes.CdataStart 1) false)
section_open at place s e =
    Walk-append at _ _ _ (encode 91) [] [] []
    (quiet at s (modes.Bang place) false 91 s (modes.CdataStart 1) false tt refl
    (λ l. if_true (is_inside s) (at_mode s (modes.CdataStart 1) false) _ e) (λ l b last d. absurd (omega arith)))
    (Walk-none (at + length (encode 91)) (at_mode s (modes.CdataStart 1) false))

pub section_walk : (at : ℕ) (s : State) (r : Bool) (text : List ℕ) → is_inside s ≡ true → scalars text ≡ true → IsUpTo (codes "]]>") text → Walk at (at_mode s modes.Inside r) (encodes (codes "<![CDATA[" ++ (text ++ codes "]]>"))) [] (at_mode (record s { run = s.run ++ line_ends false text }) modes.Inside false)
unfolding IsHeld
section_walk at s r text inside ok e =
    Walk-characters at _ _ _ (codes "<!") (codes "[CDATA[" ++ (text ++ codes "]]>")) [] [] (section_bang at s r)
    (λ place. Walk-characters place _ _ _ (codes "[") (codes "CDATA[" ++ (text ++ codes "]]>")) [] [] (section_open place at s inside)
    (λ q. Walk-characters q _ _ _ (codes "CDATA[") (text ++ codes "]]>") [] [] (section_word q s)
    (λ l.
    let run = section_run l s None false text tt ok e.0 e.1 in
    Walk-to l _ _ _ _ _ _
    (ap (λ x. at_mode (record s { run = x }) modes.Inside false)
    (run.same ∙ ap (λ x. x ++ line_ends false text) (append-nil s.run)))
    refl
    (Walk-characters l _ _ _ text (codes "]]>") [] [] run.walk (λ m. section_end m (record s { run = run.run }) run.holds run.returned)))))
