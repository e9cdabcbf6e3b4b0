-- What one byte means for the characters behind a place: tags, end tags and sections.
use Rattle.std.proofs.Common.{◌≡◌, ℕ, zero, suc, ◌≤◌, ◌<◌, Bool, true, false, cond, List, [], ◌∷◌, ◌++◌, length, refl, sym, ◌∙◌, ap, subst, arith, append_assoc, true≢false, codes}
use Rattle.std.proofs.Math.Bool.{and-true}
use Rattle.std.proofs.lemmas.Bool.{and_parts, and_from, or_from, or_left, or_right, eqb-true, and_left, and_right, lt-leb, not-false}
use Rattle.std.specs.Prelude.{◌==◌, ◌||◌, ◌&&◌, not, nat_le}
use Rattle.mof_metamodel.specs.Characters.{is_storable_character}
use Rattle.xmi_text.specs.declared.limits.TheConstants.{MAX_XMI_NESTING}
use Rattle.xmi_text.specs.ByteClass as bytes
use Rattle.xmi_text.specs.ByteClass.{within}
use Rattle.xmi_text.specs.States as states
use Rattle.xmi_text.specs.States.{go, fail, is_inside, around, cleared, cleared_by}
use Rattle.xmi_text.specs.Steps as steps
use Rattle.xmi_text.specs.Markup as markup
use Rattle.xmi_text.specs.Markup.{piece_text}
use Rattle.xmi_text.specs.declared.error.TextKind.TheVariants as kinds
use Rattle.xmi_text.specs.declared.state.State.{State}
use Rattle.xmi_text.specs.declared.state.Mode.{Mode}
use Rattle.xmi_text.specs.declared.state.Mode.TheVariants as modes
use Rattle.xmi_text.specs.declared.state.Brackets.{Brackets}
use Rattle.xmi_text.specs.declared.state.Brackets.TheVariants as brackets
use Rattle.xmi_text.proofs.backward.Parsing.{Content, Fit, with_piece, Aside, aside_more, tag_tail, within_tag, Titled}
use Rattle.xmi_text.proofs.backward.Backward.{in_mode, Targeted, After, Read, Back, either, failed, gone, put, storable_low, grown, Has, IsRead}
use Rattle.xmi_text.specs.Names.{goes_on, is_name, is_far}
use Rattle.xmi_text.proofs.backward.Backsteps.{comment_begun, section_begun, aside_none, begins_first, asked_any, colon_goes, name_goes}

pub bang_back : (s : State) (names : List (List ℕ)) (less at b : ℕ) (bs : List ℕ) → b < 128 → Has s names → Back (Read (After s names (modes.Bang less)) (b ∷ bs)) bs (steps.bang (in_mode s (modes.Bang less)) less at b)
bang_back s names less at b bs h e =
    let C : List ℕ → Type 0 = λ xs. Content s.rooted names (60 ∷ 33 ∷ xs) in
    either (b == 45) (λ q. gone s (modes.Bang less) modes.Dash names b bs h e tt (λ cs k. put C b 45 cs q k))
    (λ _. either ((b == 91) && is_inside s) (λ q. gone s (modes.Bang less) (modes.CdataStart 1) names b bs h e tt (λ cs k. put C b 91 cs (and_parts _ _ q).0 k))
    (λ _. either (b == 68) (λ q. gone s (modes.Bang less) (modes.Doctype less at 1) names b bs h e tt (λ cs k. absurd k)) (λ _. failed _ bs s (modes.Bang less) names kinds.BadMark at e)))

pub dash_one : (s : State) (names : List (List ℕ)) (at b : ℕ) (bs : List ℕ) → b < 128 → Has s names → Back (Read (After s names modes.Dash) (b ∷ bs)) bs (steps.only (in_mode s modes.Dash) 45 modes.Comment at b)
dash_one s names at b bs h e =
    either (b == 45) (λ q. gone s modes.Dash modes.Comment names b bs h e tt (λ cs k. put (λ xs. Content s.rooted names (60 ∷ 33 ∷ 45 ∷ xs)) b 45 cs q (comment_begun s.rooted names cs k)))
    (λ _. failed _ bs s modes.Dash names kinds.BadMark at e)

pub wanted_one : (s : State) (m n : Mode) (names : List (List ℕ)) (w at b : ℕ) (bs : List ℕ) → b < 128 → Has s names → IsRead n → ((cs : List ℕ) → After s names n cs → After s names m (w ∷ cs)) → Back (Read (After s names m) (b ∷ bs)) bs (cond (not (w == b)) (fail (in_mode s m) kinds.BadMark at) (go (in_mode s m) n))
wanted_one s m n names w at b bs h e i f =
    either (not (w == b)) (λ _. failed _ bs s m names kinds.BadMark at e)
    (λ q. gone s m n names b bs h e i (λ cs k. subst (λ (x : ℕ). After s names m (x ∷ cs)) (eqb-true w b (not-false (w == b) q)) (f cs k)))

pub section_back : (s : State) (name : List ℕ) (names : List (List ℕ)) (m at b : ℕ) (bs : List ℕ) → 1 ≤ m → m ≤ 6 → b < 128 → Has s (name ∷ names) → Back (Read (After s (name ∷ names) (modes.CdataStart m)) (b ∷ bs)) bs (steps.cdata_start (in_mode s (modes.CdataStart m)) m at b)
section_back s name names zero at b bs l u h e = absurd (omega arith)
section_back s name names (suc zero) at b bs l u h e = wanted_one s (modes.CdataStart 1) (modes.CdataStart 2) (name ∷ names) 67 at b bs h e tt (λ cs k. k)
section_back s name names (suc (suc zero)) at b bs l u h e = wanted_one s (modes.CdataStart 2) (modes.CdataStart 3) (name ∷ names) 68 at b bs h e tt (λ cs k. k)
section_back s name names (suc (suc (suc zero))) at b bs l u h e = wanted_one s (modes.CdataStart 3) (modes.CdataStart 4) (name ∷ names) 65 at b bs h e tt (λ cs k. k)
section_back s name names (suc (suc (suc (suc zero)))) at b bs l u h e = wanted_one s (modes.CdataStart 4) (modes.CdataStart 5) (name ∷ names) 84 at b bs h e tt (λ cs k. k)
section_back s name names (suc (suc (suc (suc (suc zero))))) at b bs l u h e = wanted_one s (modes.CdataStart 5) (modes.CdataStart 6) (name ∷ names) 65 at b bs h e tt (λ cs k. k)
section_back s name names (suc (suc (suc (suc (suc (suc zero)))))) at b bs l u h e =
    wanted_one s (modes.CdataStart 6) (modes.Cdata brackets.None) (name ∷ names) 91 at b bs h e tt (λ cs k. section_begun s.rooted name names cs k)
section_back s name names (suc (suc (suc (suc (suc (suc (suc m))))))) at b bs l u h e = absurd (omega arith)

pub any_none : (rooted : Bool) (names : List (List ℕ)) (b : ℕ) (cs : List ℕ) → (b == 93) ≡ false → is_storable_character b ≡ true → Aside (codes "]]>") rooted names cs → Aside (codes "]]>") rooted names (b ∷ cs)
any_none rooted names b cs n t k = aside_more (codes "]]>") rooted names b cs t (begins_first 93 b (codes "]>") cs n) k

pub any_one : (rooted : Bool) (names : List (List ℕ)) (b : ℕ) (cs : List ℕ) → (b == 93) ≡ false → is_storable_character b ≡ true → Aside (codes "]]>") rooted names cs → Aside (codes "]]>") rooted names (93 ∷ b ∷ cs)
any_one rooted names b cs n t k = aside_more (codes "]]>") rooted names 93 (b ∷ cs) refl (begins_first 93 b (codes ">") cs n) (any_none rooted names b cs n t k)

pub any_section : (rooted : Bool) (names : List (List ℕ)) (held : Brackets) (b : ℕ) (cs : List ℕ) → (b == 93) ≡ false → ((b == 62) && steps.are_two held) ≡ false → is_storable_character b ≡ true → Aside (codes "]]>") rooted names cs → Aside (codes "]]>") rooted names (states.brackets held ++ b ∷ cs)
any_section rooted names brackets.None b cs n g t k = any_none rooted names b cs n t k
any_section rooted names brackets.One b cs n g t k = any_one rooted names b cs n t k
any_section rooted names brackets.Two b cs n g t k =
    aside_more (codes "]]>") rooted names 93 (93 ∷ b ∷ cs) refl (begins_first 62 b [] cs (sym (and-true (b == 62)) ∙ g)) (any_one rooted names b cs n t k)

pub bracket_back : (s : State) (held : Brackets) (names : List (List ℕ)) (b : ℕ) (bs : List ℕ) → b < 128 → Has s names → (b == 93) ≡ true → Back (Read (After s names (modes.Cdata held)) (b ∷ bs)) bs (steps.bracket (in_mode s (modes.Cdata held)) held)
bracket_back s brackets.None names b bs h e q = gone s (modes.Cdata brackets.None) (modes.Cdata brackets.One) names b bs h e tt (λ cs k. put (Aside (codes "]]>") s.rooted names) b 93 cs q k)
bracket_back s brackets.One names b bs h e q = gone s (modes.Cdata brackets.One) (modes.Cdata brackets.Two) names b bs h e tt (λ cs k. put (λ xs. Aside (codes "]]>") s.rooted names (93 ∷ xs)) b 93 cs q k)
bracket_back s brackets.Two names b bs h e q =
    grown s (modes.Cdata brackets.Two) (modes.Cdata brackets.Two) (93 ∷ []) false names b bs h e tt
    (λ cs k. put (λ xs. Aside (codes "]]>") s.rooted names (93 ∷ 93 ∷ xs)) b 93 cs q (aside_more (codes "]]>") s.rooted names 93 (93 ∷ 93 ∷ cs) refl refl k))

pub section_closed : (rooted : Bool) (names : List (List ℕ)) (held : Brackets) (b : ℕ) (cs : List ℕ) → ((b == 62) && steps.are_two held) ≡ true → Content rooted names cs → Aside (codes "]]>") rooted names (states.brackets held ++ b ∷ cs)
section_closed rooted names brackets.None b cs q k = absurd (true≢false (sym q ∙ and_right (b == 62) false refl))
section_closed rooted names brackets.One b cs q k = absurd (true≢false (sym q ∙ and_right (b == 62) false refl))
section_closed rooted names brackets.Two b cs q k = put (λ xs. Aside (codes "]]>") rooted names (93 ∷ 93 ∷ xs)) b 62 cs (and_parts _ _ q).0 (aside_none (codes "]]>") rooted names cs refl k)

pub cdata_back : (s : State) (held : Brackets) (names : List (List ℕ)) (at b : ℕ) (bs : List ℕ) → b < 128 → Has s names → Back (Read (After s names (modes.Cdata held)) (b ∷ bs)) bs (steps.cdata (in_mode s (modes.Cdata held)) held at b)
cdata_back s held names at b bs h e =
    let m : Mode = modes.Cdata held in
    either (b == 93) (λ q. bracket_back s held names b bs h e q)
    (λ n. either ((b == 62) && steps.are_two held) (λ q. gone s m modes.Inside names b bs h e tt (λ cs k. section_closed s.rooted names held b cs q k))
    (λ g. either (b == 13) (λ q. grown s m states.cdata (states.brackets held ++ 10 ∷ []) true names b bs h e tt (λ cs k. any_section s.rooted names held b cs n g (storable_low b h (or_left _ _ (or_right _ _ q))) k))
    (λ _. either ((b == 10) && s.returned) (λ q. gone s m states.cdata names b bs h e tt (λ cs k. any_section s.rooted names held b cs n g (storable_low b h (or_left _ _ (or_left _ _ (or_right (b == 9) (b == 10) (and_parts _ _ q).0)))) k))
    (λ _. either (bytes.is_storable_byte b) (λ q. grown s m states.cdata (states.brackets held ++ b ∷ []) false names b bs h e tt (λ cs k. any_section s.rooted names held b cs n g (storable_low b h q) k))
    (λ _. failed _ bs s m names kinds.BadMark at e)))))

-- instructions
pub fit_instruction : (rooted : Bool) (names : List (List ℕ)) (target text : List ℕ) → markup.IsInstruction target text → Fit rooted names (markup.Instruction target text)
fit_instruction rooted [] target text u = u
fit_instruction rooted (name ∷ names) target text u = (u, tt)

pub instruction_begun : (rooted : Bool) (names : List (List ℕ)) (b : ℕ) (cs : List ℕ) → ((letters : List ℕ) → goes_on false letters ≡ true → is_name (b ∷ letters) ≡ true) → Targeted false rooted names cs → Content rooted names (60 ∷ 63 ∷ b ∷ cs)
instruction_begun rooted names b cs n k =
    let target : List ℕ = b ∷ k.letters in
    subst (Content rooted names)
    (ap (λ xs. 60 ∷ 63 ∷ xs) (append_assoc target (k.text ++ codes "?>") k.rest ∙ ap (λ xs. target ++ xs) (append_assoc k.text (codes "?>") k.rest) ∙ ap (λ xs. b ∷ xs) (sym k.is)))
    (with_piece rooted names (markup.Instruction target k.text) k.rest (fit_instruction rooted names target k.text (record { named = n k.letters k.goes; longest = k.longest; up_to = k.up_to })) refl k.more)

pub name_low : (b : ℕ) → bytes.begins_name b ≡ true → (letters : List ℕ) → goes_on false letters ≡ true → is_name (b ∷ letters) ≡ true
name_low b q letters g = and_from (bytes.begins_name b || is_far b) (goes_on false letters) (or_left (bytes.begins_name b) (is_far b) q) g

pub question_back : (s : State) (names : List (List ℕ)) (at b : ℕ) (bs : List ℕ) → b < 128 → Has s names → Back (Read (After s names modes.Question) (b ∷ bs)) bs (steps.question (in_mode s modes.Question) at b)
question_back s names at b bs h e =
    either (bytes.begins_name b) (λ q. gone s modes.Question (modes.Target false) names b bs h e tt (λ cs k. instruction_begun s.rooted names b cs (name_low b q) k))
    (λ _. failed _ bs s modes.Question names kinds.BadName at e)

pub targeted_more : (had colon rooted : Bool) (names : List (List ℕ)) (c : ℕ) (cs : List ℕ) → ((letters : List ℕ) → goes_on colon letters ≡ true → goes_on had (c ∷ letters) ≡ true) → Targeted colon rooted names cs → Targeted had rooted names (c ∷ cs)
targeted_more had colon rooted names c cs g k = record { letters = c ∷ k.letters; text = k.text; rest = k.rest; is = ap (λ xs. c ∷ xs) k.is; goes = g k.letters k.goes; longest = k.longest; up_to = k.up_to; more = k.more }

pub first_of : (b : ℕ) (cs text rest : List ℕ) → b ∷ cs ≡ text ++ rest → markup.is_name_character b ≡ false → markup.starts markup.is_name_character text ≡ false
first_of b cs [] rest e n = refl
first_of b cs (y ∷ text) rest e n = let same : b ≡ y = cc in subst (λ (x : ℕ). markup.is_name_character x ≡ false) same n

pub targeted_end : (had rooted : Bool) (names : List (List ℕ)) (b : ℕ) (cs : List ℕ) → markup.is_name_character b ≡ false → Aside (codes "?>") rooted names (b ∷ cs) → Targeted had rooted names (b ∷ cs)
targeted_end had rooted names b cs n k = record { letters = []; text = k.text; rest = k.rest; is = k.is; goes = refl; longest = first_of b cs k.text (codes "?>" ++ k.rest) k.is n; up_to = k.up_to; more = k.more }

pub not_name : (b : ℕ) → b < 128 → (b == 58) ≡ false → bytes.continues_name b ≡ false → markup.is_name_character b ≡ false
not_name b h n c = or_from (bytes.continues_name b) _ c (or_from (b == 58) (is_far b) n (and_left (nat_le 128 b) (is_storable_character b) (lt-leb 128 b h)))

pub target_colon : (s : State) (had : Bool) (names : List (List ℕ)) (at b : ℕ) (bs : List ℕ) → b < 128 → Has s names → (b == 58) ≡ true → Back (Read (After s names (modes.Target had)) (b ∷ bs)) bs (cond had (fail (in_mode s (modes.Target had)) kinds.BadName at) (go (in_mode s (modes.Target had)) (modes.Target true)))
target_colon s true names at b bs h e q = failed _ bs s (modes.Target true) names kinds.BadName at e
target_colon s false names at b bs h e q = gone s (modes.Target false) (modes.Target true) names b bs h e tt (λ cs k. targeted_more false true s.rooted names b cs (colon_goes b q) k)

pub target_back : (s : State) (had : Bool) (names : List (List ℕ)) (at b : ℕ) (bs : List ℕ) → b < 128 → Has s names → Back (Read (After s names (modes.Target had)) (b ∷ bs)) bs (steps.target (in_mode s (modes.Target had)) had at b)
target_back s had names at b bs h e =
    let m : Mode = modes.Target had in
    either (b == 58) (λ q. target_colon s had names at b bs h e q)
    (λ n. either (bytes.continues_name b) (λ q. gone s m (modes.Target had) names b bs h e tt (λ cs k. targeted_more had had s.rooted names b cs (name_goes had b n q) k))
    (λ c. either (b == 63) (λ q. gone s m modes.InstructionQuestion names b bs h e tt (λ cs k. targeted_end had s.rooted names b cs (not_name b h n c) (put (Aside (codes "?>") s.rooted names) b 63 cs q k)))
    (λ w. either (bytes.is_storable_byte b) (λ q. gone s m modes.Instruction names b bs h e tt (λ cs k. targeted_end had s.rooted names b cs (not_name b h n c) (asked_any s names b cs w (storable_low b h q) k)))
    (λ _. failed _ bs s m names kinds.BadMark at e))))

-- ---- tags

-- an element may begin
abbrev pub Room : Bool → List (List ℕ) → Type 0
Room rooted [] = rooted ≡ false
Room rooted (name ∷ names) = length (name ∷ names) < MAX_XMI_NESTING

pub fit_start : (rooted : Bool) (names : List (List ℕ)) (tag : markup.Tag) → Room rooted names → markup.IsTag tag → Fit rooted names (markup.StartTag tag)
fit_start rooted [] tag r t = (r, t)
fit_start rooted (name ∷ names) tag r t = (t, r)

pub fit_empty : (rooted : Bool) (names : List (List ℕ)) (tag : markup.Tag) → Room rooted names → markup.IsTag tag → Fit rooted names (markup.EmptyTag tag)
fit_empty rooted [] tag r t = (r, t)
fit_empty rooted (name ∷ names) tag r t = (t, r)

pub tag_joined : (name attributes blanks tail rest : List ℕ) → ((name ++ (attributes ++ blanks)) ++ tail) ++ rest ≡ name ++ (attributes ++ (blanks ++ (tail ++ rest)))
tag_joined name attributes blanks tail rest = simp append_assoc

pub tag_content : (rooted : Bool) (names : List (List ℕ)) (tag : markup.Tag) (empty : Bool) (rest : List ℕ) → Room rooted names → markup.IsTag tag → Content true (within_tag empty names tag.name) rest → Content rooted names (60 ∷ (tag.name ++ (markup.attributes_text tag.attributes ++ (tag.blanks ++ (tag_tail empty ++ rest)))))
tag_content rooted names tag true rest r t k = subst (Content rooted names) (ap (λ xs. 60 ∷ xs) (tag_joined tag.name (markup.attributes_text tag.attributes) tag.blanks (47 ∷ 62 ∷ []) rest)) (with_piece rooted names (markup.EmptyTag tag) rest (fit_empty rooted names tag r t) refl k)
tag_content rooted names tag false rest r t k = subst (Content rooted names) (ap (λ xs. 60 ∷ xs) (tag_joined tag.name (markup.attributes_text tag.attributes) tag.blanks (62 ∷ []) rest)) (with_piece rooted names (markup.StartTag tag) rest (fit_start rooted names tag r t) refl k)

pub element_content : (rooted : Bool) (names : List (List ℕ)) (b : ℕ) (cs : List ℕ) → Room rooted names → ((letters : List ℕ) → goes_on false letters ≡ true → is_name (b ∷ letters) ≡ true) → Titled false names (b ∷ []) [] cs → Content rooted names (60 ∷ b ∷ cs)
element_content rooted names b cs r n k =
    let t = k.more in
    let tag : markup.Tag = record { name = b ∷ k.letters; attributes = t.attributes; blanks = t.blanks } in
    subst (Content rooted names) (ap (λ xs. 60 ∷ b ∷ xs) (sym (k.is ∙ ap (λ xs. k.letters ++ xs) t.is)))
    (tag_content rooted names tag t.empty t.rest r (record { name = n k.letters k.goes; attributes = t.are; blanks = t.blank }) t.more)
