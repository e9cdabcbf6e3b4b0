-- What one byte means for the characters behind a place.
use Rattle.std.proofs.Common.{◌≡◌, ℕ, ◌+◌, ◌<◌, Bool, true, false, cond, List, [], ◌∷◌, ◌++◌, refl, sym, ◌∙◌, ap, subst, arith, None, append_assoc, append-nil, codes}
use Rattle.std.proofs.lemmas.Bool.{and_parts, and_from, or_left, or_right, eqb-true, eq-eqb, and_left, cond-true, cond-false, both_ways, false_from_ne_true, not_from_false}
use Rattle.std.specs.Prelude.{◌==◌, ◌||◌, ◌&&◌, not}
use Rattle.std.specs.List.{list_all}
use lib.Utf8.{scalar, scalars, low_scalar}
use Rattle.mof_metamodel.specs.Characters.{is_blank, is_storable_character}
use Rattle.xmi_text.specs.ByteClass as bytes
use Rattle.xmi_text.specs.ByteClass.{within}
use Rattle.xmi_text.specs.States as states
use Rattle.xmi_text.specs.States.{go, fail, is_inside, around, cleared, cleared_by}
use Rattle.xmi_text.specs.Steps as steps
use Rattle.xmi_text.specs.Markup as markup
use Rattle.xmi_text.specs.Markup.{piece_text}
use Rattle.xmi_text.specs.declared.mark.Attr.{Attr}
use Rattle.xmi_text.specs.declared.error.TextKind.TheVariants as kinds
use Rattle.xmi_text.specs.declared.reference.Reference.TheVariants as ref
use Rattle.xmi_text.specs.declared.state.State.{State}
use Rattle.xmi_text.specs.declared.state.Mode.{Mode}
use Rattle.xmi_text.specs.declared.state.Mode.TheVariants as modes
use Rattle.xmi_text.specs.declared.state.Quote.{Quote}
use Rattle.xmi_text.specs.declared.state.Quote.TheVariants as quotes
use Rattle.xmi_text.specs.declared.state.Within.TheVariants as places
use Rattle.xmi_text.specs.declared.state.Ready.TheVariants as ready
use Rattle.xmi_text.proofs.forward.Spelled.{stacked}
use Rattle.xmi_text.proofs.backward.Parsing.{Content, Fit, with_piece, Aside, aside_more, Tail, tail_end, tail_blank, Quoted, Valued, Equals, Naming, Titled, attribute_tail}
use Rattle.xmi_text.proofs.backward.Backward.{in_mode, seen, Slashed, Referring, After, Read, Rested, Back, either, failed, low, gone, put, storable_low, Has, all_scalars}
use Rattle.xmi_text.specs.Names.{goes_on, is_far}
use Rattle.xmi_text.specs.AttrNames.{has_name}
use Rattle.xmi_text.specs.Writing.{has}
use Rattle.std.specs.Prelude.{nat_eq}
use Rattle.std.specs.Cmp.Lexicographic.{pointwise}

-- ---- comments, instructions and CDATA sections

pub fit_comment : (rooted : Bool) (names : List (List ℕ)) (text : List ℕ) → markup.IsUpTo (codes "-->") text → Fit rooted names (markup.Comment text)
fit_comment rooted [] text u = u
fit_comment rooted (name ∷ names) text u = (u, tt)

pub comment_begun : (rooted : Bool) (names : List (List ℕ)) (cs : List ℕ) → Aside (codes "-->") rooted names cs → Content rooted names (60 ∷ 33 ∷ 45 ∷ 45 ∷ cs)
comment_begun rooted names cs k =
    subst (Content rooted names) (ap (λ xs. 60 ∷ 33 ∷ 45 ∷ 45 ∷ xs) (append_assoc k.text (codes "-->") k.rest ∙ sym k.is))
    (with_piece rooted names (markup.Comment k.text) k.rest (fit_comment rooted names k.text k.up_to) refl k.more)

pub section_begun : (rooted : Bool) (name : List ℕ) (names : List (List ℕ)) (cs : List ℕ) → Aside (codes "]]>") rooted (name ∷ names) cs → Content rooted (name ∷ names) (60 ∷ 33 ∷ (codes "[CDATA[" ++ cs))
section_begun rooted name names cs k =
    subst (Content rooted (name ∷ names)) (ap (λ xs. 60 ∷ 33 ∷ (codes "[CDATA[" ++ xs)) (append_assoc k.text (codes "]]>") k.rest ∙ sym k.is))
    (with_piece rooted (name ∷ names) (markup.Cdata k.text) k.rest (k.up_to, tt) refl k.more)

pub aside_none : (end : List ℕ) (rooted : Bool) (names : List (List ℕ)) (cs : List ℕ) → markup.begins end [] ≡ false → Content rooted names cs → Aside end rooted names (end ++ cs)
aside_none end rooted names cs n k = record { text = []; rest = cs; is = refl; up_to = (refl, n); more = k }

pub around_content : (s : State) (m : Mode) (names : List (List ℕ)) (b : ℕ) (bs : List ℕ) (inside : Bool) → b < 128 → Has s names → ((cs : List ℕ) → Content s.rooted names cs → After s names m (b ∷ cs)) → Back (Read (After s names m) (b ∷ bs)) bs (go (in_mode s m) (cond inside modes.Inside modes.Outside))
around_content s m names b bs true h e f = gone s m modes.Inside names b bs h e tt f
around_content s m names b bs false h e f = gone s m modes.Outside names b bs h e tt f

pub begins_first : (p b : ℕ) (part cs : List ℕ) → (b == p) ≡ false → markup.begins (p ∷ part) (b ∷ cs) ≡ false
begins_first p b part cs n = and_left (p == b) (markup.begins part cs) (false_from_ne_true (p == b) (λ e. both_ways (b == p) n (eq-eqb b p (sym (eqb-true p b e)))))

pub comment_any : (s : State) (names : List (List ℕ)) (b : ℕ) (cs : List ℕ) → (b == 45) ≡ false → is_storable_character b ≡ true → Aside (codes "-->") s.rooted names cs → Aside (codes "-->") s.rooted names (b ∷ cs)
comment_any s names b cs n t k = aside_more (codes "-->") s.rooted names b cs t (begins_first 45 b (codes "->") cs n) k

pub comment_back : (s : State) (names : List (List ℕ)) (at b : ℕ) (bs : List ℕ) → b < 128 → Has s names → Back (Read (After s names modes.Comment) (b ∷ bs)) bs (steps.comment (in_mode s modes.Comment) modes.CommentDash at b)
comment_back s names at b bs h e =
    either (b == 45) (λ q. gone s modes.Comment modes.CommentDash names b bs h e tt (λ cs k. put (Aside (codes "-->") s.rooted names) b 45 cs q k))
    (λ n. either (bytes.is_storable_byte b) (λ q. gone s modes.Comment modes.Comment names b bs h e tt (λ cs k. comment_any s names b cs n (storable_low b h q) k)) (λ _. failed _ bs s modes.Comment names kinds.BadMark at e))

pub dash_any : (s : State) (names : List (List ℕ)) (b : ℕ) (cs : List ℕ) → (b == 45) ≡ false → is_storable_character b ≡ true → Aside (codes "-->") s.rooted names cs → Aside (codes "-->") s.rooted names (45 ∷ b ∷ cs)
dash_any s names b cs n t k = aside_more (codes "-->") s.rooted names 45 (b ∷ cs) refl (begins_first 45 b (codes ">") cs n) (comment_any s names b cs n t k)

pub dashes_any : (s : State) (names : List (List ℕ)) (b : ℕ) (cs : List ℕ) → (b == 45) ≡ false → (b == 62) ≡ false → is_storable_character b ≡ true → Aside (codes "-->") s.rooted names cs → Aside (codes "-->") s.rooted names (45 ∷ 45 ∷ b ∷ cs)
dashes_any s names b cs n g t k = aside_more (codes "-->") s.rooted names 45 (45 ∷ b ∷ cs) refl (begins_first 62 b [] cs g) (dash_any s names b cs n t k)

pub dash_back : (s : State) (names : List (List ℕ)) (at b : ℕ) (bs : List ℕ) → b < 128 → Has s names → Back (Read (After s names modes.CommentDash) (b ∷ bs)) bs (steps.comment (in_mode s modes.CommentDash) modes.CommentDashes at b)
dash_back s names at b bs h e =
    either (b == 45) (λ q. gone s modes.CommentDash modes.CommentDashes names b bs h e tt (λ cs k. put (λ xs. Aside (codes "-->") s.rooted names (45 ∷ xs)) b 45 cs q k))
    (λ n. either (bytes.is_storable_byte b) (λ q. gone s modes.CommentDash modes.Comment names b bs h e tt (λ cs k. dash_any s names b cs n (storable_low b h q) k)) (λ _. failed _ bs s modes.CommentDash names kinds.BadMark at e))

pub dashes_back : (s : State) (names : List (List ℕ)) (at b : ℕ) (bs : List ℕ) → b < 128 → Has s names → Back (Read (After s names modes.CommentDashes) (b ∷ bs)) bs (steps.comment_end (in_mode s modes.CommentDashes) at b)
dashes_back s names at b bs h e =
    either (b == 62) (λ q. around_content s modes.CommentDashes names b bs (is_inside s) h e (λ cs k. put (λ xs. Aside (codes "-->") s.rooted names (45 ∷ 45 ∷ xs)) b 62 cs q (aside_none (codes "-->") s.rooted names cs refl k)))
    (λ g. either (b == 45) (λ q. gone s modes.CommentDashes modes.CommentDashes names b bs h e tt (λ cs k. put (λ xs. Aside (codes "-->") s.rooted names (45 ∷ 45 ∷ xs)) b 45 cs q (aside_more (codes "-->") s.rooted names 45 (45 ∷ 45 ∷ cs) refl refl k)))
    (λ n. either (bytes.is_storable_byte b) (λ q. gone s modes.CommentDashes modes.Comment names b bs h e tt (λ cs k. dashes_any s names b cs n g (storable_low b h q) k)) (λ _. failed _ bs s modes.CommentDashes names kinds.BadMark at e)))

-- instructions
pub asked_any : (s : State) (names : List (List ℕ)) (b : ℕ) (cs : List ℕ) → (b == 63) ≡ false → is_storable_character b ≡ true → Aside (codes "?>") s.rooted names cs → Aside (codes "?>") s.rooted names (b ∷ cs)
asked_any s names b cs n t k = aside_more (codes "?>") s.rooted names b cs t (begins_first 63 b (codes ">") cs n) k

pub instruction_back : (s : State) (names : List (List ℕ)) (at b : ℕ) (bs : List ℕ) → b < 128 → Has s names → Back (Read (After s names modes.Instruction) (b ∷ bs)) bs (steps.instruction (in_mode s modes.Instruction) at b)
instruction_back s names at b bs h e =
    either (b == 63) (λ q. gone s modes.Instruction modes.InstructionQuestion names b bs h e tt (λ cs k. put (Aside (codes "?>") s.rooted names) b 63 cs q k))
    (λ n. either (bytes.is_storable_byte b) (λ q. gone s modes.Instruction modes.Instruction names b bs h e tt (λ cs k. asked_any s names b cs n (storable_low b h q) k)) (λ _. failed _ bs s modes.Instruction names kinds.BadMark at e))

pub question_any : (s : State) (names : List (List ℕ)) (b : ℕ) (cs : List ℕ) → (b == 62) ≡ false → Aside (codes "?>") s.rooted names (b ∷ cs) → Aside (codes "?>") s.rooted names (63 ∷ b ∷ cs)
question_any s names b cs n k = aside_more (codes "?>") s.rooted names 63 (b ∷ cs) refl (begins_first 62 b [] cs n) k

pub instruction_end_back : (s : State) (names : List (List ℕ)) (at b : ℕ) (bs : List ℕ) → b < 128 → Has s names → Back (Read (After s names modes.InstructionQuestion) (b ∷ bs)) bs (steps.instruction_end (in_mode s modes.InstructionQuestion) at b)
instruction_end_back s names at b bs h e =
    either (b == 62) (λ q. around_content s modes.InstructionQuestion names b bs (is_inside s) h e (λ cs k. put (λ xs. Aside (codes "?>") s.rooted names (63 ∷ xs)) b 62 cs q (aside_none (codes "?>") s.rooted names cs refl k)))
    (λ g. either (b == 63) (λ q. gone s modes.InstructionQuestion modes.InstructionQuestion names b bs h e tt (λ cs k. question_any s names b cs g (put (Aside (codes "?>") s.rooted names) b 63 cs q k)))
    (λ n. either (bytes.is_storable_byte b) (λ q. gone s modes.InstructionQuestion modes.Instruction names b bs h e tt (λ cs k. question_any s names b cs g (asked_any s names b cs n (storable_low b h q) k))) (λ _. failed _ bs s modes.InstructionQuestion names kinds.BadMark at e)))

-- ---- in a tag

pub blank_equals : (names : List (List ℕ)) (tag : List ℕ) (had : List (List ℕ)) (b : ℕ) (cs : List ℕ) → is_blank b ≡ true → Equals names tag had cs → Equals names tag had (b ∷ cs)
blank_equals names tag had b cs h k = record { behind = b ∷ k.behind; rest = k.rest; is = ap (λ xs. b ∷ xs) k.is; blank = and_from (is_blank b) (list_all is_blank k.behind) h k.blank; more = k.more }

pub blank_valued : (names : List (List ℕ)) (tag : List ℕ) (had : List (List ℕ)) (b : ℕ) (cs : List ℕ) → is_blank b ≡ true → Valued names tag had cs → Valued names tag had (b ∷ cs)
blank_valued names tag had b cs h k = record { before = b ∷ k.before; quote = k.quote; rest = k.rest; is = ap (λ xs. b ∷ xs) k.is; blank = and_from (is_blank b) (list_all is_blank k.before) h k.blank; quotes = k.quotes; more = k.more }

pub equals_back : (s : State) (m : Mode) (names : List (List ℕ)) (at b : ℕ) (bs : List ℕ) → b < 128 → Has s names → ((cs : List ℕ) → Equals names s.tag (seen s.attrs ++ s.attr.name ∷ []) (b ∷ cs) → After s names m (b ∷ cs)) → Back (Read (After s names m) (b ∷ bs)) bs (steps.equals (in_mode s m) at b)
equals_back s m names at b bs h e wrap =
    let had : List (List ℕ) = seen s.attrs ++ s.attr.name ∷ [] in
    either (b == 61) (λ q. gone s m modes.BeforeValue names b bs h e tt (λ cs k. wrap cs (put (Equals names s.tag had) b 61 cs q (record { behind = []; rest = cs; is = refl; blank = refl; more = k }))))
    (λ _. either (bytes.is_blank b) (λ q. gone s m modes.AfterName names b bs h e tt (λ cs k. wrap cs (blank_equals names s.tag had b cs q k)))
    (λ _. failed _ bs s m names kinds.BadMark at e))

pub before_value_back : (s : State) (names : List (List ℕ)) (at b : ℕ) (bs : List ℕ) → b < 128 → Has s names → Back (Read (After s names modes.BeforeValue) (b ∷ bs)) bs (steps.before_value (in_mode s modes.BeforeValue) at b)
before_value_back s names at b bs h e =
    let had : List (List ℕ) = seen s.attrs ++ s.attr.name ∷ [] in
    either (b == 34) (λ q. gone s modes.BeforeValue (modes.Value quotes.Double) names b bs h e tt (λ cs k. put (Valued names s.tag had) b 34 cs q (record { before = []; quote = 34; rest = cs; is = refl; blank = refl; quotes = refl; more = k })))
    (λ _. either (b == 39) (λ q. gone s modes.BeforeValue (modes.Value quotes.Single) names b bs h e tt (λ cs k. put (Valued names s.tag had) b 39 cs q (record { before = []; quote = 39; rest = cs; is = refl; blank = refl; quotes = refl; more = k })))
    (λ _. either (bytes.is_blank b) (λ q. gone s modes.BeforeValue modes.BeforeValue names b bs h e tt (λ cs k. blank_valued names s.tag had b cs q k))
    (λ _. failed _ bs s modes.BeforeValue names kinds.BadMark at e)))

pub slashed_tail : (names : List (List ℕ)) (tag : List ℕ) (had : List (List ℕ)) (cs : List ℕ) → Slashed names cs → Tail names tag had (47 ∷ cs)
slashed_tail names tag had cs k = subst (λ (xs : List ℕ). Tail names tag had (47 ∷ xs)) (sym k.is) (tail_end names tag had true k.rest k.more)

pub stacked_push : (elements names : List (List ℕ)) (tag : List ℕ) → elements ≡ stacked names → elements ++ tag ∷ [] ≡ stacked (tag ∷ names)
unfolding stacked
stacked_push elements names tag e = ap (λ xs. xs ++ tag ∷ []) e

pub part_back : (s : State) (m : Mode) (names : List (List ℕ)) (at b : ℕ) (bs : List ℕ) → b < 128 → Has s names → s.rooted ≡ true → ((cs : List ℕ) → Tail names s.tag (seen s.attrs) (b ∷ cs) → After s names m (b ∷ cs)) → Back (Read (After s names m) (b ∷ bs)) bs (steps.part (in_mode s m) at b)
part_back s m names at b bs h e r wrap =
    let T : List ℕ → Type 0 = Tail names s.tag (seen s.attrs) in
    either (b == 47) (λ q. gone s m modes.Slash names b bs h e tt (λ cs k. wrap cs (put T b 47 cs q (slashed_tail names s.tag (seen s.attrs) cs k))))
    (λ _. either (b == 62)
    (λ q. record {
      back = λ l. low (Content s.rooted (s.tag ∷ names)) (After s names m) b bs h
          (λ cs k. wrap cs (put T b 62 cs q (tail_end names s.tag (seen s.attrs) false cs (subst (λ (x : Bool). Content x (s.tag ∷ names) cs) r k))))
          (l (s.tag ∷ names) (stacked_push s.elements names s.tag e.0, and_from (scalars s.tag) (all_scalars names) e.2 e.1, refl));
    })
    (λ _. either (bytes.is_blank b) (λ q. gone s m modes.Tag names b bs h e tt (λ cs k. wrap cs (k b q))) (λ _. failed _ bs s m names kinds.BadMark at e)))

pub around_read : (t : State) (names : List (List ℕ)) (inside : Bool) (bs : List ℕ) → Rested (record t { mode = cond inside modes.Inside modes.Outside; partial = None; ready = ready.Nothing }) names (cond inside modes.Inside modes.Outside) None bs → Read (Content t.rooted names) bs
around_read t names true bs r = r
around_read t names false bs r = r

pub slash_back : (s : State) (names : List (List ℕ)) (at b : ℕ) (bs : List ℕ) → b < 128 → Has s names → s.rooted ≡ true → Back (Read (After s names modes.Slash) (b ∷ bs)) bs (steps.slash (in_mode s modes.Slash) at b)
slash_back s names at b bs h e r =
    either (b == 62)
    (λ q. record {
      back = λ l. low (Content s.rooted names) (Slashed names) b bs h
          (λ cs k. put (Slashed names) b 62 cs q (record { rest = cs; is = refl; more = subst (λ (x : Bool). Content x names cs) r k }))
          (around_read (record s { tag = []; attrs = []; run_at = at + 1; returned = false }) names (is_inside s) bs (l names (e.0, e.1, refl)));
    })
    (λ _. failed _ bs s modes.Slash names kinds.BadMark at e)

pub scalars_push : (cs : List ℕ) (c : ℕ) → scalars cs ≡ true → scalar c ≡ true → scalars (cs ++ c ∷ []) ≡ true
scalars_push [] c e f = and_from (scalar c) true f refl
scalars_push (x ∷ cs) c e f = let p = and_parts (scalar x) (scalars cs) e in and_from (scalar x) (scalars (cs ++ c ∷ [])) p.0 (scalars_push cs c p.1 f)

pub titled_more : (had colon : Bool) (names : List (List ℕ)) (tag : List ℕ) (known : List (List ℕ)) (c : ℕ) (cs : List ℕ) → ((letters : List ℕ) → goes_on colon letters ≡ true → goes_on had (c ∷ letters) ≡ true) → Titled colon names (tag ++ c ∷ []) known cs → Titled had names tag known (c ∷ cs)
titled_more had colon names tag known c cs g k = record {
  letters = c ∷ k.letters;
  rest = k.rest;
  is = ap (λ xs. c ∷ xs) k.is;
  goes = g k.letters k.goes;
  more = subst (λ (xs : List ℕ). Tail names xs known k.rest) (append_assoc tag (c ∷ []) k.letters) k.more;
}

pub naming_more : (had colon : Bool) (names : List (List ℕ)) (tag : List ℕ) (known : List (List ℕ)) (name : List ℕ) (c : ℕ) (cs : List ℕ) → ((letters : List ℕ) → goes_on colon letters ≡ true → goes_on had (c ∷ letters) ≡ true) → Naming colon names tag known (name ++ c ∷ []) cs → Naming had names tag known name (c ∷ cs)
naming_more had colon names tag known name c cs g k =
    let e : (name ++ c ∷ []) ++ k.letters ≡ name ++ c ∷ k.letters = append_assoc name (c ∷ []) k.letters in
    record {
      letters = c ∷ k.letters;
      rest = k.rest;
      is = ap (λ xs. c ∷ xs) k.is;
      goes = g k.letters k.goes;
      new = subst (λ (xs : List ℕ). has known xs ≡ false) e k.new;
      more = subst (λ (xs : List ℕ). Equals names tag (known ++ xs ∷ []) k.rest) e k.more;
    }

pub colon_goes : (b : ℕ) → (b == 58) ≡ true → (letters : List ℕ) → goes_on true letters ≡ true → goes_on false (b ∷ letters) ≡ true
colon_goes b e letters g = cond-true (b == 58) _ _ e ∙ g

pub name_goes : (had : Bool) (b : ℕ) → (b == 58) ≡ false → bytes.continues_name b ≡ true → (letters : List ℕ) → goes_on had letters ≡ true → goes_on had (b ∷ letters) ≡ true
name_goes had b n c letters g = cond-false (b == 58) _ _ n ∙ and_from (bytes.continues_name b || is_far b) (goes_on had letters) (or_left (bytes.continues_name b) (is_far b) c) g

pub tag_grown : (s : State) (had colon : Bool) (names : List (List ℕ)) (b : ℕ) (bs : List ℕ) → b < 128 → Has s names → ((letters : List ℕ) → goes_on colon letters ≡ true → goes_on had (b ∷ letters) ≡ true) → Back (Read (After s names (modes.TagName had)) (b ∷ bs)) bs (states.add_to_tag (in_mode s (modes.TagName had)) colon b)
tag_grown s had colon names b bs h e g = record {
  back = λ l. low (Titled colon names (s.tag ++ b ∷ []) (seen s.attrs)) (Titled had names s.tag (seen s.attrs)) b bs h (λ cs k. titled_more had colon names s.tag (seen s.attrs) b cs g k)
      (l names (e.0, e.1, scalars_push s.tag b e.2 (low_scalar b (omega arith))));
}

pub titled_end : (had : Bool) (names : List (List ℕ)) (tag : List ℕ) (known : List (List ℕ)) (cs : List ℕ) → Tail names tag known cs → Titled had names tag known cs
titled_end had names tag known cs k = record { letters = []; rest = cs; is = refl; goes = refl; more = subst (λ (xs : List ℕ). Tail names xs known cs) (sym (append-nil tag)) k }

pub colon_case : (s : State) (had : Bool) (names : List (List ℕ)) (at b : ℕ) (bs : List ℕ) → b < 128 → Has s names → (b == 58) ≡ true → Back (Read (After s names (modes.TagName had)) (b ∷ bs)) bs (cond had (fail (in_mode s (modes.TagName had)) kinds.BadName at) (states.add_to_tag (in_mode s (modes.TagName had)) true 58))
colon_case s true names at b bs h e q = failed _ bs s (modes.TagName true) names kinds.BadName at e
colon_case s false names at b bs h e q =
    subst (λ (c : ℕ). Back (Read (After s names (modes.TagName false)) (b ∷ bs)) bs (states.add_to_tag (in_mode s (modes.TagName false)) true c)) (eqb-true b 58 q)
    (tag_grown s false true names b bs h e (colon_goes b q))

pub swapped : (x y : Bool) → (x || y) ≡ true → (y || x) ≡ true
swapped true true e = refl
swapped true false e = refl
swapped false true e = refl
swapped false false e = e

pub tag_name_back : (s : State) (had : Bool) (names : List (List ℕ)) (at b : ℕ) (bs : List ℕ) → b < 128 → Has s names → s.rooted ≡ true → Back (Read (After s names (modes.TagName had)) (b ∷ bs)) bs (steps.tag_name (in_mode s (modes.TagName had)) had at b)
tag_name_back s had names at b bs h e r =
    either (b == 58) (λ q. colon_case s had names at b bs h e q)
    (λ n. either (bytes.continues_name b) (λ q. tag_grown s had had names b bs h e (name_goes had b n q))
    (λ _. part_back s (modes.TagName had) names at b bs h e r (λ cs k. titled_end had names s.tag (seen s.attrs) (b ∷ cs) k)))

pub has_seen : (attrs : List Attr) (name : List ℕ) → has_name attrs name ≡ has (seen attrs) name
has_seen [] name = refl
has_seen (a ∷ attrs) name = ap (λ x. pointwise nat_eq a.name name || x) (has_seen attrs name)

pub seen_push : (attrs : List Attr) (a : Attr) → seen (attrs ++ a ∷ []) ≡ seen attrs ++ a.name ∷ []
seen_push [] a = refl
seen_push (x ∷ attrs) a = ap (λ ns. x.name ∷ ns) (seen_push attrs a)

pub naming_end : (had : Bool) (s : State) (names : List (List ℕ)) (cs : List ℕ) → has_name s.attrs s.attr.name ≡ false → Equals names s.tag (seen s.attrs ++ s.attr.name ∷ []) cs → Naming had names s.tag (seen s.attrs) s.attr.name cs
naming_end had s names cs n k =
    let e : s.attr.name ≡ s.attr.name ++ [] = sym (append-nil s.attr.name) in
    record {
      letters = [];
      rest = cs;
      is = refl;
      goes = refl;
      new = subst (λ (xs : List ℕ). has (seen s.attrs) xs ≡ false) e (sym (has_seen s.attrs s.attr.name) ∙ n);
      more = subst (λ (xs : List ℕ). Equals names s.tag (seen s.attrs ++ xs ∷ []) cs) e k;
    }

pub attr_grown : (s : State) (had colon : Bool) (names : List (List ℕ)) (b : ℕ) (bs : List ℕ) → b < 128 → Has s names → ((letters : List ℕ) → goes_on colon letters ≡ true → goes_on had (b ∷ letters) ≡ true) → Back (Read (After s names (modes.AttrName had)) (b ∷ bs)) bs (states.add_to_name (in_mode s (modes.AttrName had)) colon b)
attr_grown s had colon names b bs h e g = record {
  back = λ l. low (Naming colon names s.tag (seen s.attrs) (s.attr.name ++ b ∷ [])) (Naming had names s.tag (seen s.attrs) s.attr.name) b bs h
      (λ cs k. naming_more had colon names s.tag (seen s.attrs) s.attr.name b cs g k) (l names e);
}

pub attr_colon : (s : State) (had : Bool) (names : List (List ℕ)) (at b : ℕ) (bs : List ℕ) → b < 128 → Has s names → (b == 58) ≡ true → Back (Read (After s names (modes.AttrName had)) (b ∷ bs)) bs (cond had (fail (in_mode s (modes.AttrName had)) kinds.BadName at) (states.add_to_name (in_mode s (modes.AttrName had)) true 58))
attr_colon s true names at b bs h e q = failed _ bs s (modes.AttrName true) names kinds.BadName at e
attr_colon s false names at b bs h e q =
    subst (λ (c : ℕ). Back (Read (After s names (modes.AttrName false)) (b ∷ bs)) bs (states.add_to_name (in_mode s (modes.AttrName false)) true c)) (eqb-true b 58 q)
    (attr_grown s false true names b bs h e (colon_goes b q))

pub attr_name_back : (s : State) (had : Bool) (names : List (List ℕ)) (at b : ℕ) (bs : List ℕ) → b < 128 → Has s names → Back (Read (After s names (modes.AttrName had)) (b ∷ bs)) bs (steps.attr_name (in_mode s (modes.AttrName had)) had at b)
attr_name_back s had names at b bs h e =
    either (b == 58) (λ q. attr_colon s had names at b bs h e q)
    (λ n. either (bytes.continues_name b) (λ q. attr_grown s had had names b bs h e (name_goes had b n q))
    (λ _. either (has_name s.attrs s.attr.name) (λ _. failed _ bs s (modes.AttrName had) names kinds.DuplicateAttribute s.attr.at e)
    (λ d. equals_back s (modes.AttrName had) names at b bs h e (λ cs k. naming_end had s names (b ∷ cs) d k))))

pub tag_back : (s : State) (names : List (List ℕ)) (at b : ℕ) (bs : List ℕ) → b < 128 → Has s names → s.rooted ≡ true → Back (Read (After s names modes.Tag) (b ∷ bs)) bs (steps.tag (in_mode s modes.Tag) at b)
tag_back s names at b bs h e r =
    either (bytes.begins_name b)
    (λ q. record {
      back = λ l. low (Naming false names s.tag (seen s.attrs) (b ∷ [])) (After s names modes.Tag) b bs h
          (λ cs k c z. attribute_tail names s.tag (seen s.attrs) c b cs z (λ letters g. and_from (bytes.begins_name b || is_far b) (goes_on false letters) (or_left (bytes.begins_name b) (is_far b) q) g) k)
          (l names e);
    })
    (λ _. part_back s modes.Tag names at b bs h e r (λ cs k c z. tail_blank names s.tag (seen s.attrs) c (b ∷ cs) z k))

-- ---- values

pub quoted_more : (names : List (List ℕ)) (tag : List ℕ) (had : List (List ℕ)) (q c : ℕ) (cs : List ℕ) → markup.is_value_character q c ≡ true → Quoted names tag had q cs → Quoted names tag had q (c ∷ cs)
quoted_more names tag had q c cs v k = record {
  text = c ∷ k.text;
  parts = k.parts;
  rest = k.rest;
  is = ap (λ xs. c ∷ xs) k.is;
  characters = and_from (markup.is_value_character q c) (list_all (markup.is_value_character q) k.text) v k.characters;
  all = k.all;
  first = k.first;
  apart = k.apart;
  more = k.more;
}

pub quoted_named : (names : List (List ℕ)) (tag : List ℕ) (had : List (List ℕ)) (q : ℕ) (cs : List ℕ) → Referring (Quoted names tag had q) ref.Begun cs → Quoted names tag had q (38 ∷ cs)
quoted_named names tag had q cs k =
    let f = k.finishes in
    let b = k.behind in
    let reference : List ℕ = markup.reference_text f.0 in
    record {
      text = [];
      parts = markup.Named f.0 ∷ markup.Literal b.text ∷ b.parts;
      rest = b.rest;
      is = ap (λ xs. 38 ∷ xs) k.is ∙ ap (λ xs. xs ++ k.rest) (sym f.1) ∙ ap (λ xs. reference ++ xs) b.is ∙ sym (append_assoc reference (b.text ++ markup.value_text b.parts) (q ∷ b.rest));
      characters = refl;
      all = and_from (markup.is_reference f.0) _ f.2 (and_from (list_all (markup.is_value_character q) b.text) (list_all (markup.is_part q) b.parts) b.characters b.all);
      first = refl;
      apart = and_from (not (true && markup.starts markup.is_literal b.parts)) (markup.are_apart markup.is_literal b.parts) (ap not b.first) b.apart;
      more = b.more;
    }

pub value_low : (q b : ℕ) → (b == q) ≡ false → (b == 60) ≡ false → (b == 38) ≡ false → is_storable_character b ≡ true → markup.is_value_character q b ≡ true
value_low q b n l a t = and_from (is_storable_character b) _ t (and_from (not (b == 60)) _ (not_from_false _ l) (and_from (not (b == 38)) (not (b == q)) (not_from_false _ a) (not_from_false _ n)))

pub value_grown : (s : State) (q : Quote) (c : ℕ) (returned : Bool) (names : List (List ℕ)) (b : ℕ) (bs : List ℕ) → b < 128 → Has s names → markup.is_value_character (steps.quote_byte q) b ≡ true → Back (Read (After s names (modes.Value q)) (b ∷ bs)) bs (states.add_to_value (in_mode s (modes.Value q)) q c returned)
value_grown s q c returned names b bs h e v = record {
  back = λ l. low (After s names (modes.Value q)) (After s names (modes.Value q)) b bs h (λ cs k. quoted_more names s.tag (seen s.attrs ++ s.attr.name ∷ []) (steps.quote_byte q) b cs v k) (l names e);
}

pub value_back : (s : State) (q : Quote) (names : List (List ℕ)) (at b : ℕ) (bs : List ℕ) → b < 128 → Has s names → Back (Read (After s names (modes.Value q)) (b ∷ bs)) bs (steps.value (in_mode s (modes.Value q)) q at b)
value_back s q names at b bs h e =
    let had : List (List ℕ) = seen s.attrs ++ s.attr.name ∷ [] in
    let k : ℕ = steps.quote_byte q in
    let Q : List ℕ → Type 0 = Quoted names s.tag had k in
    either (b == k)
    (λ z. record {
      back = λ l. low (Tail names s.tag (seen (s.attrs ++ s.attr ∷ []))) Q b bs h
          (λ cs t. put Q b k cs z (record { text = []; parts = []; rest = cs; is = refl; characters = refl; all = refl; first = refl; apart = refl; more = subst (λ (ns : List (List ℕ)). Tail names s.tag ns cs) (seen_push s.attrs s.attr) t }))
          (l names e);
    })
    (λ n. either (b == 60) (λ _. failed _ bs s (modes.Value q) names kinds.BadMark at e)
    (λ lt. either (b == 38) (λ z. gone s (modes.Value q) (modes.Reference at (places.Value q) ref.Begun) names b bs h e tt (λ cs t. put Q b 38 cs z (quoted_named names s.tag had k cs t)))
    (λ a. either (b == 13) (λ z. value_grown s q 32 true names b bs h e (value_low k b n lt a (storable_low b h (or_left _ _ (or_right _ _ z)))))
    (λ _. either ((b == 10) && s.returned) (λ z. gone s (modes.Value q) (modes.Value q) names b bs h e tt (λ cs t. quoted_more names s.tag had k b cs (value_low k b n lt a (storable_low b h (or_left _ _ (or_left _ _ (or_right (b == 9) (b == 10) (and_parts _ _ z).0))))) t))
    (λ _. either ((b == 10) || (b == 9)) (λ z. value_grown s q 32 false names b bs h e (value_low k b n lt a (storable_low b h (or_left _ _ (or_left _ _ (swapped (b == 10) (b == 9) z))))))
    (λ _. either (bytes.is_storable_byte b) (λ z. value_grown s q b false names b bs h e (value_low k b n lt a (storable_low b h z)))
    (λ _. failed _ bs s (modes.Value q) names kinds.BadMark at e)))))))
