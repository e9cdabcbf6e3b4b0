-- Bytes that are read whole are a document's.
use Rattle.std.proofs.Common.{◌≡◌, ℕ, ◌+◌, ◌*◌, ◌%◌, ◌≤◌, ◌<◌, Bool, true, false, cond, List, [], ◌∷◌, ◌++◌, length, refl, sym, ◌∙◌, ap, subst, arith, Option, Some, None, true≢false}
use Rattle.std.proofs.lemmas.Bool.{and_from, or_parts, ltb-true, ltb-false}
use Rattle.std.specs.Prelude.{◌||◌, ◌&&◌, not, nat_lt, nat_le}
use lib.Utf8.{encodes, scalar, scalars}
use Rattle.xmi_text.specs.UtfEight as utf
use Rattle.xmi_text.specs.States as states
use Rattle.xmi_text.specs.States.{go, fail, is_inside, around, cleared, cleared_by}
use Rattle.xmi_text.specs.Steps as steps
use Rattle.xmi_text.specs.Automaton as automaton
use Rattle.xmi_text.specs.Automaton.{step, step_by}
use Rattle.xmi_text.specs.Markup as markup
use Rattle.xmi_text.specs.Markup.{piece_text}
use Rattle.xmi_text.specs.declared.error.TextFault.{TextFault}
use Rattle.xmi_text.specs.declared.error.TextKind.TheVariants as kinds
use Rattle.xmi_text.specs.declared.reference.Reference.{Reference}
use Rattle.xmi_text.specs.declared.utf_eight.Partial.{Partial}
use Rattle.xmi_text.specs.declared.utf_eight.Rest.{Rest}
use Rattle.xmi_text.specs.declared.utf_eight.Rest.TheVariants as rests
use Rattle.xmi_text.specs.declared.utf_eight.Growth.{Growth}
use Rattle.xmi_text.specs.declared.utf_eight.Growth.TheVariants as growths
use Rattle.xmi_text.specs.declared.state.State.{State}
use Rattle.xmi_text.specs.declared.state.Mode.{Mode}
use Rattle.xmi_text.specs.declared.state.Mode.TheVariants as modes
use Rattle.xmi_text.specs.declared.state.Within.{Within}
use Rattle.xmi_text.specs.declared.state.Ready.{Ready}
use Rattle.xmi_text.specs.declared.state.Ready.TheVariants as ready
use Rattle.xmi_text.proofs.completion.Sound.{Bits}
use Rattle.xmi_text.proofs.forward.Spelled.{stacked, inside_by}
use Rattle.xmi_text.proofs.backward.Parsing.{Content, nothing_more}
use Rattle.xmi_text.proofs.backward.Backward.{in_mode, in_character, Opening, Behind, Referring, After, Read, CutRead, Rested, Later, Back, either, failed, outside_back, inside_back, Has, IsRead, fills_one, fills_two, fills_three}
use Rattle.xmi_text.proofs.backward.Backsteps.{comment_back, dash_back, dashes_back, instruction_back, instruction_end_back, equals_back, before_value_back, part_back, slash_back, tag_name_back, attr_name_back, tag_back, value_back}
use Rattle.xmi_text.proofs.backward.Backtags.{bang_back, dash_one, section_back, cdata_back, question_back, target_back}
use Rattle.xmi_text.proofs.backward.Backends.{less_back, tail_back, mapped, end_name_by}
use Rattle.xmi_text.proofs.backward.Backrefs.{reference_back}
use Rattle.xmi_text.proofs.completion.Sound.{Stands, Takes, Cut, IsSound, sound_start, next_sound, bits_of}
use Rattle.xmi_text.proofs.reading.Staying.{one_spelled}
use Rattle.xmi_text.proofs.backward.Parsing.{split}
use Rattle.xmi_text.specs.Reading.{state_from, state_of, end_fault_of}
use Rattle.xmi_text.specs.Automaton.{end_fault, end_fault_by}
use Rattle.xmi_text.proofs.backward.Backfar.{same_cut, lead_back, whole_back}
use Rattle.xmi_text.proofs.reading.Staying.{cleared_idle}
use Rattle.xmi_text.proofs.forward.Spelled.{markup_spelled}
use Rattle.xmi_text.proofs.forward.EventTrees.{has_tree}
use Rattle.xmi_text.proofs.completion.Completing.{completed}
use Rattle.xmi_text.specs.Completion.{MayGoOn, completion}
use Rattle.xmi_text.specs.Trees.{Tree, Spells}

growth : (goal : Type 0) (bs : List ℕ) (s : State) (m : Mode) (lead at : ℕ) (b : Bool) (x y : Growth) → (b ≡ true → Back goal bs (automaton.partial_by s m lead at x)) → (b ≡ false → Back goal bs (automaton.partial_by s m lead at y)) → Back goal bs (automaton.partial_by s m lead at (cond b x y))
growth goal bs s m lead at true x y f g = f refl
growth goal bs s m lead at false x y f g = g refl

broken : (goal : Type 0) (bs : List ℕ) (s : State) (m : Mode) (p : Partial) (names : List (List ℕ)) (at : ℕ) → Has s names → Back goal bs (automaton.partial_by (in_character s m p) m p.lead at growths.Broken)
broken goal bs s m p names at e = record { back = λ l. absurd (l names e) }

pub or_cond : (x y : Bool) → (x || y) ≡ cond x true y
or_cond true y = refl
or_cond false y = refl

found_back : (goal : Type 0) (bs : List ℕ) (s : State) (m : Mode) (p : Partial) (names : List (List ℕ)) (at c : ℕ) (x : Bool) → Has s names → (x ≡ true → Back goal bs (automaton.partial_by (in_character s m p) m p.lead at (growths.Whole c))) → Back goal bs (automaton.partial_by (in_character s m p) m p.lead at (utf.found (cond x (Some c) None)))
found_back goal bs s m p names at c true e f = f refl
found_back goal bs s m p names at c false e f = broken goal bs s m p names at e

added_back : (s : State) (names : List (List ℕ)) (m : Mode) (p : Partial) (rest : Rest) (at b : ℕ) (bs : List ℕ) → Bits rest p.low p.high → p.low ≤ b → b ≤ p.high → IsRead m → Stands (is_inside s) s.rooted m → Has s names → Back (CutRead (After s names m) p.low rest (b ∷ bs)) bs (automaton.partial_by (in_character s m p) m p.lead at (utf.added p rest b))
added_back s names m p (rests.Three bits) at b bs z l u i h e = record {
  back = λ k.
      let q : Partial = record { lead = p.lead; low = 0x80; high = 0xbf; rest = rests.Two (bits * 64 + b % 64) } in
      let r = same_cut s q names m bs i (k names e) in
      record { more = b ∷ r.more; c = r.c; rest = r.rest; is = ap (λ xs. b ∷ xs) r.is; fills = fills_three bits p.low b r.more r.c (omega (arith, z.1, l)) (omega (arith, z.3, u)) l r.fills; scalar = r.scalar; read = r.read };
}
added_back s names m p (rests.Two bits) at b bs z l u i h e = record {
  back = λ k.
      let q : Partial = record { lead = p.lead; low = 0x80; high = 0xbf; rest = rests.One (bits * 64 + b % 64) } in
      let r = same_cut s q names m bs i (k names e) in
      record { more = b ∷ r.more; c = r.c; rest = r.rest; is = ap (λ xs. b ∷ xs) r.is; fills = fills_two bits p.low b r.more r.c (omega (arith, z.1, l)) (omega (arith, z.3, u)) l r.fills; scalar = r.scalar; read = r.read };
}
added_back s names m p (rests.One bits) at b bs z l u i h e =
    let c : ℕ = bits * 64 + b % 64 in
    growth _ bs (in_character s m p) m p.lead at (nat_lt 0x4fff bits) _ _ (λ _. broken _ bs s m p names at e)
    (λ _. found_back _ bs s m p names at c (nat_lt c 0xd800 || (nat_le 0xe000 c && nat_lt c 0x110000)) e
    (λ v. let t : scalar c ≡ true = sym (or_cond (nat_lt c 0xd800) (nat_le 0xe000 c && nat_lt c 0x110000)) ∙ v in
    mapped (λ r. record { more = b ∷ []; c = c; rest = bs; is = refl; fills = fills_one bits p.low b c (omega (arith, z.3, l)) (omega (arith, z.4, u)) refl; scalar = t; read = r })
    (whole_back s names m p p.lead at c bs (omega (arith, z.0)) t h e)))

partial_back : (s : State) (names : List (List ℕ)) (m : Mode) (p : Partial) (at b : ℕ) (bs : List ℕ) → Bits p.rest p.low p.high → IsRead m → Stands (is_inside s) s.rooted m → Has s names → Back (CutRead (After s names m) p.low p.rest (b ∷ bs)) bs (automaton.partial (in_character s m p) m p at b)
partial_back s names m p at b bs z i h e =
    growth _ bs (in_character s m p) m p.lead at (nat_lt b p.low || nat_lt p.high b) _ _ (λ _. broken _ bs s m p names at e)
    (λ x. let q = or_parts (nat_lt b p.low) (nat_lt p.high b) x in added_back s names m p p.rest at b bs z (ltb-false b p.low q.0) (ltb-false p.high b q.1) i h e)

-- ---- one byte

ascii_back : (s : State) (names : List (List ℕ)) (m : Mode) (at b : ℕ) (bs : List ℕ) → b < 128 → Takes m → (is_inside s ≡ true → s.rooted ≡ true) → Stands (is_inside s) s.rooted m → Has s names → Back (Read (After s names m) (b ∷ bs)) bs (automaton.ascii (in_mode s m) m at b)
ascii_back s [] modes.Start at b bs h t r k e = outside_back s modes.Start at b bs h e (λ cs c. record { marked = false; rest = cs; is = refl; more = c })
ascii_back s (name ∷ names) modes.Start at b bs h t r k e = absurd (true≢false (sym (inside_by s.elements (name ∷ names) e.0) ∙ k.0))
ascii_back s [] modes.Outside at b bs h t r k e = outside_back s modes.Outside at b bs h e (λ cs c. c)
ascii_back s (name ∷ names) modes.Outside at b bs h t r k e = absurd (true≢false (sym (inside_by s.elements (name ∷ names) e.0) ∙ k))
ascii_back s [] modes.Inside at b bs h t r k e = absurd (true≢false (sym k ∙ inside_by s.elements [] e.0))
ascii_back s (name ∷ names) modes.Inside at b bs h t r k e = inside_back s name names at b bs h e
ascii_back s names (modes.Less less) at b bs h t r k e = less_back s names less at b bs h e
ascii_back s names (modes.Bang less) at b bs h t r k e = bang_back s names less at b bs h e
ascii_back s names modes.Dash at b bs h t r k e = dash_one s names at b bs h e
ascii_back s names modes.Comment at b bs h t r k e = comment_back s names at b bs h e
ascii_back s names modes.CommentDash at b bs h t r k e = dash_back s names at b bs h e
ascii_back s names modes.CommentDashes at b bs h t r k e = dashes_back s names at b bs h e
ascii_back s names (modes.Doctype less word_at matched) at b bs h t r k e = absurd t
ascii_back s [] (modes.CdataStart matched) at b bs h t r k e = absurd (true≢false (sym k.0 ∙ inside_by s.elements [] e.0))
ascii_back s (name ∷ names) (modes.CdataStart matched) at b bs h t r k e = section_back s name names matched at b bs k.1 k.2 h e
ascii_back s names (modes.Cdata held) at b bs h t r k e = cdata_back s held names at b bs h e
ascii_back s names modes.Question at b bs h t r k e = question_back s names at b bs h e
ascii_back s names (modes.Target colon) at b bs h t r k e = target_back s colon names at b bs h e
ascii_back s names modes.Instruction at b bs h t r k e = instruction_back s names at b bs h e
ascii_back s names modes.InstructionQuestion at b bs h t r k e = instruction_end_back s names at b bs h e
ascii_back s names (modes.TagName colon) at b bs h t r k e = tag_name_back s colon names at b bs h e k
ascii_back s names modes.Tag at b bs h t r k e = tag_back s names at b bs h e k
ascii_back s names (modes.AttrName colon) at b bs h t r k e = attr_name_back s colon names at b bs h e
ascii_back s names modes.AfterName at b bs h t r k e = equals_back s modes.AfterName names at b bs h e (λ cs c. c)
ascii_back s names modes.BeforeValue at b bs h t r k e = before_value_back s names at b bs h e
ascii_back s names (modes.Value q) at b bs h t r k e = value_back s q names at b bs h e
ascii_back s names modes.AfterValue at b bs h t r k e = part_back s modes.AfterValue names at b bs h e k (λ cs c. c)
ascii_back s names modes.Slash at b bs h t r k e = slash_back s names at b bs h e k
ascii_back s names (modes.EndName less matched) at b bs h t r k e = absurd t
ascii_back s [] (modes.EndTail less) at b bs h t r k e = absurd (true≢false (sym k ∙ inside_by s.elements [] e.0))
ascii_back s (name ∷ names) (modes.EndTail less) at b bs h t r k e = tail_back s (modes.EndTail less) name names less at b bs h e
ascii_back s names (modes.Reference amp place part) at b bs h t r k e = absurd t
ascii_back s names (modes.Failed f) at b bs h t r k e = absurd t

doctype_gone : (goal : Type 0) (s : State) (names : List (List ℕ)) (less word_at matched : ℕ) (bs : List ℕ) → Has s names → Back goal bs (go (in_mode s (modes.Doctype less word_at matched)) (modes.Doctype less word_at (matched + 1)))
doctype_gone goal s names less word_at matched bs e = record { back = λ l. let r : Read (λ cs. ⊥) bs = l names e in absurd r.are }

doctype_back : (goal : Type 0) (s : State) (names : List (List ℕ)) (less word_at matched b : ℕ) (bs : List ℕ) → Has s names → Back goal bs (steps.doctype (in_mode s (modes.Doctype less word_at matched)) less word_at matched b)
doctype_back goal s names less word_at matched b bs e =
    either (not (steps.is_wanted (steps.doctype_byte matched) b)) (λ _. failed _ bs s (modes.Doctype less word_at matched) names kinds.BadMark word_at e)
    (λ _. either (nat_lt matched 6) (λ _. doctype_gone goal s names less word_at matched bs e) (λ _. failed _ bs s (modes.Doctype less word_at matched) names kinds.Doctype less e))

abbrev read_of : State → List (List ℕ) → Mode → Option Partial → List ℕ → Type 0
read_of s names m None bs = Read (After s names m) bs
read_of s names m (Some p) bs = CutRead (After s names m) p.low p.rest bs

read_back : (s : State) (names : List (List ℕ)) (m : Mode) (c : Option Partial) (at b : ℕ) (bs : List ℕ) → IsRead m → Takes m → Cut c m → (is_inside s ≡ true → s.rooted ≡ true) → Stands (is_inside s) s.rooted m → Has s names → Back (read_of s names m c (b ∷ bs)) bs (automaton.character_by (record s { mode = m; partial = c; ready = ready.Nothing }) m at b c)
read_back s names m None at b bs i t k r h e = either (nat_lt b 128) (λ q. ascii_back s names m at b bs (ltb-true b 128 q) t r h e) (λ _. lead_back s names m at b bs i e)
read_back s names m (Some p) at b bs i t k r h e = partial_back s names m p at b bs (bits_of m p t k) i h e

below_reference : (s : State) (names : List (List ℕ)) (amp : ℕ) (place : Within) (part : Reference) (at b : ℕ) (bs : List ℕ) → Has s names → Back (Read (Referring (Behind s names place) part) (b ∷ bs)) bs (automaton.reference (in_mode s (modes.Reference amp place part)) amp place part b)
below_reference s names amp place part at b bs e = reference_back s names amp place part b bs e

step_back : (s : State) (names : List (List ℕ)) (m : Mode) (c : Option Partial) (at b : ℕ) (bs : List ℕ) → Cut c m → (is_inside s ≡ true → s.rooted ≡ true) → Stands (is_inside s) s.rooted m → Has s names → Back (Rested s names m c (b ∷ bs)) bs (step_by (record s { mode = m; partial = c; ready = ready.Nothing }) at b m)
step_back s names (modes.Failed f) c at b bs k r h e = record { back = λ l. l names e }
step_back s names (modes.Doctype less word_at matched) None at b bs k r h e = doctype_back _ s names less word_at matched b bs e
step_back s names (modes.Doctype less word_at matched) (Some p) at b bs k r h e = absurd k.0
step_back s [] (modes.EndName less matched) None at b bs k r h e = absurd (true≢false (sym h ∙ inside_by s.elements [] e.0))
step_back s (name ∷ names) (modes.EndName less matched) None at b bs k r h e = end_name_by s name names less matched at b bs (automaton.wanted s matched) refl e
step_back s names (modes.EndName less matched) (Some p) at b bs k r h e = absurd k.0
step_back s names (modes.Reference amp place part) None at b bs k r h e = below_reference s names amp place part at b bs e
step_back s names (modes.Reference amp place part) (Some p) at b bs k r h e = absurd k.0
step_back s names m None at b bs k r h e = read_back s names m None at b bs tt tt k r h e
step_back s names m (Some p) at b bs k r h e = read_back s names m (Some p) at b bs tt tt k r h e

-- ---- all bytes

some_fault : (f : TextFault) → Some f ≡ None → ⊥
some_fault f e = cc

root_ended : (b : Bool) (f : TextFault) → cond b None (Some f) ≡ None → b ≡ true
root_ended true f e = refl
root_ended false f e = absurd (some_fault f e)

at_end : (s : State) (names : List (List ℕ)) (n : ℕ) (m : Mode) (c : Option Partial) → s.partial ≡ c → Stands (is_inside s) s.rooted m → Has s names → end_fault_by s n m ≡ None → Rested s names m c []
at_end s names n (modes.Failed f) c q h e x = absurd (some_fault f x)
at_end s names n (modes.Doctype less word_at matched) c q h e x = absurd (some_fault _ x)
at_end s [] n modes.Outside None q h e x =
    let r = root_ended s.rooted _ (ap (automaton.ended_by s modes.Outside n) (sym q) ∙ x) in
    record { cs = []; spelt = record { is = refl; scalars = refl }; are = subst (λ (b : Bool). Content b [] []) (sym r) nothing_more }
at_end s (name ∷ names) n modes.Outside None q h e x = absurd (true≢false (sym (inside_by s.elements (name ∷ names) e.0) ∙ h))
at_end s names n m None q h e x = absurd (some_fault _ (ap (automaton.ended_by s m n) (sym q) ∙ x))
at_end s names n m (Some p) q h e x = absurd (some_fault _ (ap (automaton.ended_by s m n) (sym q) ∙ x))

idle_same : (s : State) → s.ready ≡ ready.Nothing → record s { ready = ready.Nothing } ≡ s
idle_same s e = ap (λ (r : Ready). record s { ready = r }) (sym e)

reads : (bs : List ℕ) (at n : ℕ) (s : State) → IsSound s → s.ready ≡ ready.Nothing → end_fault (state_from at s bs) n ≡ None → (names : List (List ℕ)) → Has s names → Rested s names s.mode s.partial bs
reads [] at n s p i x names e = at_end s names n s.mode s.partial refl p.stands e x
reads (b ∷ bs) at n s p i x names e =
    let t : State = step s at b in
    let later : Later (cleared t) bs = reads bs (at + 1) n (cleared t) (next_sound s at b p) (cleared_idle t t.ready refl) x in
    let back : Back (Rested s names s.mode s.partial (b ∷ bs)) bs t =
    subst (λ (q : State). Back (Rested s names s.mode s.partial (b ∷ bs)) bs (step q at b)) (idle_same s i) (step_back s names s.mode s.partial at b bs p.cut p.rooted p.stands e) in
    back.back later

none_stacked : [] ≡ stacked []
unfolding stacked
none_stacked = refl

opened : (bs : List ℕ) → end_fault_of bs ≡ None → Read (Opening false []) bs
unfolding end_fault_of state_of
opened bs x = reads bs 0 (length bs) states.start (sound_start) refl x [] (none_stacked, refl, refl)

pub whole_markup : (bs : List ℕ) → end_fault_of bs ≡ None → (tree : Tree) × markup.Markup bs tree
whole_markup bs x =
    let r = opened bs x in
    let o = r.are in
    let k = o.more in
    let sp = split (markup.Characters k.text ∷ k.pieces) k.fits (and_from (not (true && markup.starts markup.is_characters k.pieces)) (markup.are_apart markup.is_characters k.pieces) (ap not k.first) k.apart) in
    let d : markup.Document = record { marked = o.marked; before = sp.before; root = sp.root; inner = sp.inner; after = sp.after } in
    let is : r.cs ≡ markup.document_text d = o.is ∙ ap (λ xs. markup.order_mark o.marked ++ xs) (k.is ∙ sp.is) in
    let tree = has_tree sp.root sp.inner sp.root_is sp.closing in (
      tree.0,
      record {
        document = d;
        whole = record { before = sp.around; root = sp.root_is; inner = sp.closing; runs = sp.apart; after = sp.behind };
        scalars = subst (λ (cs : List ℕ). scalars cs ≡ true) is r.spelt.scalars;
        written = r.spelt.is ∙ ap encodes is;
        means = tree.1;
      },
    )

pub spelled_markup : (bs : List ℕ) (tree : Tree) → Spells bs tree → markup.Markup bs tree
spelled_markup bs tree s =
    let m = whole_markup bs s.whole in
    subst (markup.Markup bs) (one_spelled bs m.0 tree (markup_spelled bs m.0 m.1) s) m.1

pub completed_markup : (bs : List ℕ) → MayGoOn bs → (tree : Tree) × markup.Markup (bs ++ completion (state_of bs)) tree
completed_markup bs o = whole_markup (bs ++ completion (state_of bs)) (completed bs o)

pub goes_on_begins : (bs : List ℕ) → MayGoOn bs → markup.Begins bs
goes_on_begins bs o =
    let m = completed_markup bs o in
    (completion (state_of bs), m.0, m.1)
