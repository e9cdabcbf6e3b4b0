-- What one byte means for the characters behind a place: characters of several bytes.
use Rattle.std.proofs.Common.{◌≡◌, ℕ, ◌≤◌, ◌<◌, Bool, true, false, cond, List, [], ◌∷◌, ◌++◌, length, refl, sym, ◌∙◌, ap, subst, arith, Option, Some, None, inl, inr, true≢false, codes}
use Rattle.std.proofs.lemmas.Bool.{and_from, or_parts, or_right, ltb-true, and_left, cond-false, le-leb, not_from_false, ne_eqb}
use Rattle.std.specs.Prelude.{◌==◌, ◌||◌, ◌&&◌, not, nat_lt, nat_le}
use lib.Utf8.{scalar}
use Rattle.mof_metamodel.specs.Characters.{is_storable_character}
use Rattle.xmi_text.specs.declared.limits.TheConstants.{MAX_XMI_NESTING}
use Rattle.xmi_text.specs.ByteClass as bytes
use Rattle.xmi_text.specs.ByteClass.{within}
use Rattle.xmi_text.specs.UtfEight as utf
use Rattle.xmi_text.specs.States as states
use Rattle.xmi_text.specs.States.{go, fail, is_inside, around, cleared, cleared_by}
use Rattle.xmi_text.specs.Steps as steps
use Rattle.xmi_text.specs.Automaton as automaton
use Rattle.xmi_text.specs.Automaton.{step, step_by}
use Rattle.xmi_text.specs.declared.error.TextKind.{TextKind}
use Rattle.xmi_text.specs.declared.error.TextKind.TheVariants as kinds
use Rattle.xmi_text.specs.declared.utf_eight.Partial.{Partial}
use Rattle.xmi_text.specs.declared.state.State.{State}
use Rattle.xmi_text.specs.declared.state.Mode.{Mode}
use Rattle.xmi_text.specs.declared.state.Mode.TheVariants as modes
use Rattle.xmi_text.specs.declared.state.Quote.{Quote}
use Rattle.xmi_text.specs.declared.state.Quote.TheVariants as quotes
use Rattle.xmi_text.specs.declared.state.Ready.TheVariants as ready
use Rattle.xmi_text.proofs.forward.Spelled.{inside_by}
use Rattle.xmi_text.proofs.backward.Parsing.{Spelt, spelt_far, Content, with_character, Aside, Quoted, Naming, Titled, attribute_tail}
use Rattle.xmi_text.proofs.backward.Backward.{in_mode, in_character, seen, Opening, Targeted, After, Read, CutRead, Rested, Back, either, failed, put, content_low, Has, IsRead, begun_leads, Leads}
use Rattle.xmi_text.specs.Names.{goes_on, is_name, is_far}
use Rattle.xmi_text.proofs.backward.Backsteps.{comment_any, dash_any, dashes_any, asked_any, question_any, scalars_push, titled_more, naming_more, quoted_more, value_low}
use Rattle.xmi_text.proofs.backward.Backtags.{any_section, instruction_begun, targeted_more, element_content, Room}
use Rattle.xmi_text.proofs.backward.Backends.{room_inside, room_outside}
use lib.Utf8.{scalar_cases}
use Rattle.xmi_text.proofs.completion.Sound.{Stands}
use Rattle.xmi_text.specs.Automaton.{end_fault, end_fault_by}

pub same_cut : (s : State) (p : Partial) (names : List (List ℕ)) (m : Mode) (bs : List ℕ) → IsRead m → Rested (record s { mode = m; partial = Some p; ready = ready.Nothing }) names m (Some p) bs → CutRead (After s names m) p.low p.rest bs
same_cut s p names (modes.Failed f) bs i r = absurd i
same_cut s p names (modes.EndName less matched) bs i r = absurd i
same_cut s p names _ bs i r = r

pub small_scalar : (c : ℕ) → scalar c ≡ true → c < 0x110000
small_scalar c e = elim (scalar_cases c e) [ inl l ↦ omega arith | inr r ↦ r.1 ]

lead_read : (P : List ℕ → Type 0) (b : ℕ) (bs : List ℕ) (p : Partial) → Leads b (Some p) → CutRead P p.low p.rest bs → Read P (b ∷ bs)
lead_read P b bs p f k =
    let w = f k.more k.c k.fills (small_scalar k.c k.scalar) in
    record {
      cs = k.c ∷ k.read.cs;
      spelt = subst (λ (xs : List ℕ). Spelt xs (k.c ∷ k.read.cs)) (ap (λ xs. b ∷ xs) (sym k.is)) (spelt_far k.c (b ∷ k.more) k.rest k.read.cs w.0 k.scalar k.read.spelt);
      are = k.read.are;
    }

lead_on_back : (s : State) (names : List (List ℕ)) (m : Mode) (at b : ℕ) (bs : List ℕ) (o : Option Partial) → Leads b o → IsRead m → Has s names → Back (Read (After s names m) (b ∷ bs)) bs (automaton.lead_on (in_mode s m) at o)
lead_on_back s names m at b bs None f i e = failed _ bs s m names kinds.BadUtf8 at e
lead_on_back s names m at b bs (Some p) f i e = record { back = λ l. lead_read (After s names m) b bs p f (same_cut s p names m bs i (l names e)) }

pub lead_back : (s : State) (names : List (List ℕ)) (m : Mode) (at b : ℕ) (bs : List ℕ) → IsRead m → Has s names → Back (Read (After s names m) (b ∷ bs)) bs (automaton.lead (in_mode s m) m at b)
lead_back s names m at b bs i e =
    either (automaton.ends_twin (in_mode s m) m b) (λ _. failed _ bs s m names kinds.DuplicateAttribute s.attr.at e) (λ _. lead_on_back s names m at b bs (utf.begun at b) (begun_leads at b) i e)

clear : {goal : Type 0} {bs : List ℕ} (b : Bool) (x y : State) → (b ≡ true → Back goal bs (record x { partial = None })) → (b ≡ false → Back goal bs (record y { partial = None })) → Back goal bs (record (cond b x y) { partial = None })
clear true x y f g = f refl
clear false x y f g = g refl

dead_clear : (goal : Type 0) (bs : List ℕ) (s : State) (m : Mode) (p : Partial) (names : List (List ℕ)) (k : TextKind) (at : ℕ) → Has s names → Back goal bs (record (fail (in_character s m p) k at) { partial = None })
dead_clear goal bs s m p names k at e = record { back = λ l. absurd (l names e) }

pub storable_far : (c : ℕ) → 128 ≤ c → automaton.is_unstorable c ≡ false → is_storable_character c ≡ true
storable_far c l u =
    let p = or_parts (c == 0xfffe) (c == 0xffff) u in
    or_right ((c == 9) || (c == 10) || (c == 13)) _ (and_from (nat_le 32 c && not (c == 0xfffe)) _ (and_from (nat_le 32 c) _ (le-leb 32 c (omega arith)) (not_from_false _ p.0)) (not_from_false _ p.1))

pub far_goes : (had : Bool) (c : ℕ) → 128 ≤ c → is_far c ≡ true → (letters : List ℕ) → goes_on had letters ≡ true → goes_on had (c ∷ letters) ≡ true
far_goes had c l f letters g = cond-false (c == 58) _ _ (ne_eqb c 58 (λ z. omega arith)) ∙ and_from (bytes.continues_name c || is_far c) (goes_on had letters) (or_right (bytes.continues_name c) (is_far c) f) g

pub name_far : (c : ℕ) → is_far c ≡ true → (letters : List ℕ) → goes_on false letters ≡ true → is_name (c ∷ letters) ≡ true
name_far c f letters g = and_from (bytes.begins_name c || is_far c) (goes_on false letters) (or_right (bytes.begins_name c) (is_far c) f) g

pub then : (P Q : List ℕ → Type 0) (bs : List ℕ) → ((cs : List ℕ) → P cs → Q cs) → Read P bs → Read Q bs
then P Q bs f r = record { cs = r.cs; spelt = r.spelt; are = f r.cs r.are }

begun_far : (s : State) (run : List ℕ) (names : List (List ℕ)) (less c : ℕ) (bs : List ℕ) → scalar c ≡ true → is_far c ≡ true → Has s names → Room s.rooted names → Back (Read (λ cs. Content s.rooted names (60 ∷ c ∷ cs)) bs) bs (states.begin_tag (record s { mode = modes.Less less; partial = None; ready = ready.Nothing; run = run }) less c)
begun_far s [] names less c bs t f e r = record { back = λ l. then (Titled false names (c ∷ []) []) _ bs (λ cs k. element_content s.rooted names c cs r (name_far c f) k) (l names (e.0, e.1, and_from (scalar c) true t refl)) }
begun_far s (x ∷ run) names less c bs t f e r = record { back = λ l. then (Titled false names (c ∷ []) []) _ bs (λ cs k. element_content s.rooted names c cs r (name_far c f) k) (l names (e.0, e.1, and_from (scalar c) true t refl)) }

deep_clear : (goal : Type 0) (bs : List ℕ) (s : State) (run : List ℕ) (m : Mode) (names : List (List ℕ)) (at : ℕ) → Has s names → Back goal bs (record (fail (record s { mode = m; run = run; ready = states.due run }) kinds.Limit at) { partial = None })
deep_clear goal bs s [] m names at e = record { back = λ l. absurd (l names e) }
deep_clear goal bs s (c ∷ run) m names at e = record { back = λ l. absurd (l names e) }

not_quote : (q : Quote) (c : ℕ) → 128 ≤ c → (c == steps.quote_byte q) ≡ false
not_quote quotes.Double c l = ne_eqb c 34 (λ z. omega arith)
not_quote quotes.Single c l = ne_eqb c 39 (λ z. omega arith)

abbrev NotLess : Mode → Type 0
NotLess (modes.Less less) = ⊥
NotLess _ = Unit {0}

admitted_back : (s : State) (names : List (List ℕ)) (m : Mode) (p : Partial) (lead c : ℕ) (bs : List ℕ) → 128 ≤ c → is_storable_character c ≡ true → scalar c ≡ true → is_far c ≡ true → Stands (is_inside s) s.rooted m → Has s names → NotLess m → Back (Read (λ cs. After s names m (c ∷ cs)) bs) bs (record (automaton.admitted (in_character s m p) m lead c) { partial = None })
admitted_back s [] modes.Inside p lead c bs l t v f h e n = absurd (true≢false (sym h ∙ inside_by s.elements [] e.0))
admitted_back s (name ∷ names) modes.Inside p lead c bs l t v f h e n = record { back = λ k. then (Content s.rooted (name ∷ names)) _ bs (λ cs a. with_character s.rooted (name ∷ names) c cs (content_low c t (ne_eqb c 60 (λ z. omega arith)) (ne_eqb c 38 (λ z. omega arith))) a) (k (name ∷ names) e) }
admitted_back s names (modes.Cdata held) p lead c bs l t v f h e n = record { back = λ k. then (Aside (codes "]]>") s.rooted names) _ bs (λ cs a. any_section s.rooted names held c cs (ne_eqb c 93 (λ z. omega arith)) (and_left (c == 62) (steps.are_two held) (ne_eqb c 62 (λ z. omega arith))) t a) (k names e) }
admitted_back s names (modes.TagName colon) p lead c bs l t v f h e n = record { back = λ k. then (Titled colon names (s.tag ++ c ∷ []) (seen s.attrs)) _ bs (λ cs a. titled_more colon colon names s.tag (seen s.attrs) c cs (far_goes colon c l f) a) (k names (e.0, e.1, scalars_push s.tag c e.2 v)) }
admitted_back s names modes.Tag p lead c bs l t v f h e n = record { back = λ k. then (Naming false names s.tag (seen s.attrs) (c ∷ [])) _ bs (λ cs a b z. attribute_tail names s.tag (seen s.attrs) b c cs z (name_far c f) a) (k names e) }
admitted_back s names (modes.AttrName colon) p lead c bs l t v f h e n = record { back = λ k. then (Naming colon names s.tag (seen s.attrs) (s.attr.name ++ c ∷ [])) _ bs (λ cs a. naming_more colon colon names s.tag (seen s.attrs) s.attr.name c cs (far_goes colon c l f) a) (k names e) }
admitted_back s names (modes.Value q) p lead c bs l t v f h e n = record { back = λ k. then (Quoted names s.tag (seen s.attrs ++ s.attr.name ∷ []) (steps.quote_byte q)) _ bs (λ cs a. quoted_more names s.tag (seen s.attrs ++ s.attr.name ∷ []) (steps.quote_byte q) c cs (value_low (steps.quote_byte q) c (not_quote q c l) (ne_eqb c 60 (λ z. omega arith)) (ne_eqb c 38 (λ z. omega arith)) t) a) (k names e) }
admitted_back s names modes.Comment p lead c bs l t v f h e n = record { back = λ k. then (Aside (codes "-->") s.rooted names) _ bs (λ cs a. comment_any s names c cs (ne_eqb c 45 (λ z. omega arith)) t a) (k names e) }
admitted_back s names modes.CommentDash p lead c bs l t v f h e n = record { back = λ k. then (Aside (codes "-->") s.rooted names) _ bs (λ cs a. dash_any s names c cs (ne_eqb c 45 (λ z. omega arith)) t a) (k names e) }
admitted_back s names modes.CommentDashes p lead c bs l t v f h e n = record { back = λ k. then (Aside (codes "-->") s.rooted names) _ bs (λ cs a. dashes_any s names c cs (ne_eqb c 45 (λ z. omega arith)) (ne_eqb c 62 (λ z. omega arith)) t a) (k names e) }
admitted_back s names modes.Question p lead c bs l t v f h e n = record { back = λ k. then (Targeted false s.rooted names) _ bs (λ cs a. instruction_begun s.rooted names c cs (name_far c f) a) (k names e) }
admitted_back s names (modes.Target colon) p lead c bs l t v f h e n = record { back = λ k. then (Targeted colon s.rooted names) _ bs (λ cs a. targeted_more colon colon s.rooted names c cs (far_goes colon c l f) a) (k names e) }
admitted_back s names modes.Instruction p lead c bs l t v f h e n = record { back = λ k. then (Aside (codes "?>") s.rooted names) _ bs (λ cs a. asked_any s names c cs (ne_eqb c 63 (λ z. omega arith)) t a) (k names e) }
admitted_back s names modes.InstructionQuestion p lead c bs l t v f h e n = record { back = λ k. then (Aside (codes "?>") s.rooted names) _ bs (λ cs a. question_any s names c cs (ne_eqb c 62 (λ z. omega arith)) (asked_any s names c cs (ne_eqb c 63 (λ z. omega arith)) t a)) (k names e) }
admitted_back s names (modes.Less less) p lead c bs l t v f h e n = absurd n
admitted_back s names _ p lead c bs l t v f h e n = record { back = λ k. absurd (k names e) }

pub whole_back : (s : State) (names : List (List ℕ)) (m : Mode) (p : Partial) (lead at c : ℕ) (bs : List ℕ) → 128 ≤ c → scalar c ≡ true → Stands (is_inside s) s.rooted m → Has s names → Back (Read (λ cs. After s names m (c ∷ cs)) bs) bs (record (automaton.whole (in_character s m p) m lead at c) { partial = None })
whole_back s names modes.Start p lead at c bs l v h e =
    clear (c == 0xfeff) _ _
    (λ q. record { back = λ k. then (Content s.rooted names) _ bs (λ cs a. put (Opening s.rooted names) c 0xfeff cs q (record { marked = true; rest = cs; is = refl; more = a })) (k names e) })
    (λ _. clear (within 0xfec0 0xfefe c) _ _ (λ _. dead_clear _ bs s modes.Start p names kinds.BadMark 2 e)
    (λ _. clear (within 0xf000 0xffff c) _ _ (λ _. dead_clear _ bs s modes.Start p names kinds.BadMark 1 e) (λ _. dead_clear _ bs s modes.Start p names kinds.BadMark lead e)))
whole_back s names (modes.Less less) p lead at c bs l v h e =
    clear (automaton.is_unstorable c) _ _ (λ _. dead_clear _ bs s (modes.Less less) p names kinds.BadMark _ e)
    (λ u. let f : is_far c ≡ true = and_from (nat_le 128 c) (is_storable_character c) (le-leb 128 c l) (storable_far c l u) in
    clear (is_inside s) _ _
    (λ i. clear (nat_lt (length s.elements) MAX_XMI_NESTING) _ _ (λ r. begun_far s s.run names less c bs v f e (room_inside s names e.0 i (ltb-true (length s.elements) MAX_XMI_NESTING r)))
    (λ _. deep_clear _ bs s s.run (modes.Less less) names less e))
    (λ i. clear s.rooted _ _ (λ _. dead_clear _ bs s (modes.Less less) p names kinds.BadMark lead e) (λ r. begun_far s s.run names less c bs v f e (room_outside s names e.0 i r))))
whole_back s names m p lead at c bs l v h e =
    clear (automaton.is_unstorable c) _ _ (λ _. dead_clear _ bs s m p names kinds.BadMark _ e)
    (λ u. let t = storable_far c l u in admitted_back s names m p lead c bs l t v (and_from (nat_le 128 c) (is_storable_character c) (le-leb 128 c l) t) h e tt)
