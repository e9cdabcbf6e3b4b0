-- Faults of names and of nesting are told: a byte that begins no name, a second colon, a document type, and an element too
-- deep.
use Rattle.std.proofs.Common.{◌≡◌, ℕ, ◌+◌, ◌≤◌, ◌<◌, ◌⊎◌, Bool, true, false, cond, List, [], ◌∷◌, length, take, refl, sym, ◌∙◌, ap, subst, arith, None, inl, inr, true≢false, codes}
use Rattle.std.proofs.lemmas.Bool.{lt-ltb, cond-true, cond-false, eqb-true, ne_eqb, false_from_ne_true, true_from_ne_false, cases_Bool}
use Rattle.std.proofs.lemmas.Str.{encode_ascii}
use Rattle.std.specs.Prelude.{nat_lt, ◌==◌}
use lib.Utf8.{encode}
use Rattle.xmi_text.specs.declared.limits.TheConstants.{MAX_XMI_NESTING}
use Rattle.xmi_text.specs.ByteClass.{begins_name}
use Rattle.xmi_text.specs.Names.{is_far}
use Rattle.xmi_text.specs.States as states
use Rattle.xmi_text.specs.States.{go, fail, is_inside, cleared, cleared_by}
use Rattle.xmi_text.specs.Steps as steps
use Rattle.xmi_text.specs.Automaton as automaton
use Rattle.xmi_text.specs.Automaton.{step_by, fault_at}
use Rattle.xmi_text.specs.Reading.{state_from}
use Rattle.xmi_text.specs.Faults.{May, Stands, IsMarkup, IsBadStart, IsSecondColon, IsDoctype, IsLimit}
use Rattle.xmi_text.specs.declared.error.TextKind.TheVariants as kinds
use Rattle.xmi_text.specs.declared.state.State.{State}
use Rattle.xmi_text.specs.declared.state.Mode.TheVariants as modes
use Rattle.xmi_text.specs.declared.state.Ready.{Ready}
use Rattle.xmi_text.specs.declared.state.Ready.TheVariants as ready
use Rattle.xmi_text.proofs.completion.Sound.{IsSound, sound_of}
use Rattle.xmi_text.proofs.reading.Staying.{idle_of}
use Rattle.xmi_text.proofs.completion.Ending.{Dead}
use Rattle.xmi_text.proofs.forward.NameSteps.{begins_continues, continues_low, far_parts}
use Rattle.xmi_text.proofs.forward.Stepping.{storable_far}
use Rattle.xmi_text.proofs.forward.Encoded.{far, behind_whole, within_character}
use Rattle.xmi_text.proofs.faults.Probes.{Ends, colon_here}
use Rattle.xmi_text.proofs.faults.Told.{state_at, stands_within, stands_join, may_go, may_not, told, told_behind, told_here, less_at, behind_less, here_same, IsTold}

-- ---- a byte that begins no name

-- behind `<`
less_fails : (s : State) (less b : ℕ) → b < 128 → (b == 33) ≡ false → (b == 63) ≡ false → (b == 47) ≡ false → begins_name b ≡ false
    → (state_from (less + 1) (less_at s less) (b ∷ [])).mode ≡ modes.Failed (fault_at kinds.BadName (less + 1))
less_fails s less b h m q e n =
    let t : State = less_at s less in
    ap (λ (u : State). (cleared u).mode)
    (cond-true (nat_lt b 128) _ _ (lt-ltb b 128 h) ∙ cond-false (b == 33) _ _ m ∙ cond-false (b == 63) _ _ q ∙ cond-false (b == 47) _ _ e ∙ cond-false (begins_name b) _ (fail t kinds.BadName (less + 1)) n)

-- behind `<?`
question_fails : (s : State) (less b : ℕ) → b < 128 → begins_name b ≡ false → (state_from (less + 1) (less_at s less) (63 ∷ b ∷ [])).mode ≡ modes.Failed (fault_at kinds.BadName (less + 1 + 1))
question_fails s less b h n =
    let t : State = go (less_at s less) modes.Question in
    ap (λ (u : State). (cleared u).mode) (cond-true (nat_lt b 128) _ _ (lt-ltb b 128 h) ∙ cond-false (begins_name b) _ (fail t kinds.BadName (less + 1 + 1)) n)

other_byte : (bytes : List ℕ) (n b c : ℕ) → Stands bytes n (b ∷ []) → ¬ Stands bytes n (c ∷ []) → (b == c) ≡ false
other_byte bytes n b c e differs = false_from_ne_true (b == c) (λ q. differs (subst (λ (x : ℕ). Stands bytes n (x ∷ [])) (eqb-true b c q) e))

start_told : (bytes : List ℕ) (n : ℕ) → IsBadStart bytes n → IsTold bytes kinds.BadName n
start_told bytes n f =
    let none = f.none in
    let b : ℕ = none.0 in
    elim f.place [
      | inl p ↦
          let here : n ≡ f.less + 1 = p.0 in
          let both : Stands bytes f.less (60 ∷ b ∷ []) = stands_join bytes f.less (60 ∷ []) (b ∷ []) p.1 (subst (λ (k : ℕ). Stands bytes k (b ∷ [])) here none.1) in
          told_here bytes kinds.BadName n (f.less + 1) (sym here)
          (told_behind bytes f.less (b ∷ []) (fault_at kinds.BadName (f.less + 1)) f.markup both
          (less_fails (state_at bytes f.less) f.less b none.2 (other_byte bytes n b 33 none.1 p.2) (other_byte bytes n b 63 none.1 p.3) (other_byte bytes n b 47 none.1 p.4) none.3))
      | inr p ↦
          let here : n ≡ f.less + 2 = p.0 in
          let both : Stands bytes f.less (60 ∷ 63 ∷ b ∷ []) = stands_join bytes f.less (60 ∷ 63 ∷ []) (b ∷ []) p.1 (subst (λ (k : ℕ). Stands bytes k (b ∷ [])) here none.1) in
          told_here bytes kinds.BadName n (f.less + 1 + 1) (omega (arith, here))
          (told_behind bytes f.less (63 ∷ b ∷ []) (fault_at kinds.BadName (f.less + 1 + 1)) f.markup both (question_fails (state_at bytes f.less) f.less b none.2 none.3))
    ]

-- ---- a second colon

colon_told : (bytes : List ℕ) (n : ℕ) → IsSecondColon bytes n → IsTold bytes kinds.BadName n
colon_told bytes n f =
    let s : State = state_at bytes n in
    let same = here_same s (idle_of (take n bytes)) in
    let inside = stands_within bytes n 58 [] f.colon in
    let h : n ≤ length bytes = omega (arith, inside) in
    let fails = colon_here s s.mode s.partial n (subst IsSound (sym same) (sound_of (take n bytes)))
    (λ d. may_go bytes n (46 ∷ []) h f.dot (subst (λ (t : State). Ends t n (46 ∷ [])) same d))
    (λ d. may_go bytes n (45 ∷ []) h f.dash (subst (λ (t : State). Ends t n (45 ∷ [])) same d))
    (subst (λ (t : State). Ends t n (58 ∷ [])) (sym same) (may_not bytes n (58 ∷ []) h f.none)) in
    told_here bytes kinds.BadName n n refl
    (told bytes n (58 ∷ []) (fault_at kinds.BadName n) h f.colon (ap (λ (t : State). (state_from n t (58 ∷ [])).mode) (sym same) ∙ ap (λ (t : State). (cleared t).mode) fails))

pub name_told : (bytes : List ℕ) (n : ℕ) → IsBadStart bytes n ⊎ IsSecondColon bytes n → IsTold bytes kinds.BadName n
name_told bytes n (inl f) = start_told bytes n f
name_told bytes n (inr f) = colon_told bytes n f

-- ---- a document type

pub doctype_told : (bytes : List ℕ) (n : ℕ) → IsDoctype bytes n → IsTold bytes kinds.Doctype n
doctype_told bytes n f = told_here bytes kinds.Doctype n n refl (told_behind bytes n (codes "!DOCTYPE") (fault_at kinds.Doctype n) f.markup f.word refl)

-- ---- an element too deep

-- inside an element
pub inside_here : (bytes : List ℕ) (n b : ℕ) (part : List ℕ) → IsMarkup bytes n → Stands bytes n (b ∷ part) → May bytes n (codes "</") → is_inside (state_at bytes n) ≡ true
inside_here bytes n b part m e f =
    let s : State = state_at bytes n in
    let t : State = less_at s n in
    let inside = stands_within bytes n b part e in
    let h : n ≤ length bytes = omega (arith, inside) in
    true_from_ne_false (is_inside s)
    (λ o. may_go bytes n (60 ∷ 47 ∷ []) h f
    (subst Dead (sym (behind_less bytes n (47 ∷ []) h m)) (subst (λ (q : Bool). Dead (cleared (cond q (states.begin_end t n) (fail t kinds.BadMark (n + 1))))) (sym o) tt)))

tag_goes_on : (s : State) (run : List ℕ) (less c : ℕ) → Dead (cleared (states.begin_tag (record s { partial = None; run = run }) less c)) → ⊥
tag_goes_on s [] less c d = d
tag_goes_on s (x ∷ run) less c d = d

-- and no more may be nested
full_here : (bytes : List ℕ) (n b : ℕ) (part : List ℕ) → IsMarkup bytes n → Stands bytes n (b ∷ part) → is_inside (state_at bytes n) ≡ true → ¬ May bytes n (codes "<a") → nat_lt (length (state_at bytes n).elements) MAX_XMI_NESTING ≡ false
full_here bytes n b part m e i f =
    let s : State = state_at bytes n in
    let t : State = less_at s n in
    let inside = stands_within bytes n b part e in
    let h : n ≤ length bytes = omega (arith, inside) in
    let ends : Dead (cleared (steps.begin_element t n (n + 1) 97)) = subst Dead (behind_less bytes n (97 ∷ []) h m) (may_not bytes n (60 ∷ 97 ∷ []) h f) in
    false_from_ne_true (nat_lt (length s.elements) MAX_XMI_NESTING)
    (λ few. tag_goes_on t s.run n 97 (subst (λ (u : State). Dead (cleared u)) (cond-true (is_inside s) _ _ i ∙ cond-true (nat_lt (length s.elements) MAX_XMI_NESTING) _ _ few) ends))

cleared_mode : (s : State) (r : Ready) → (cleared_by s r).mode ≡ s.mode
cleared_mode s ready.Nothing = refl
cleared_mode s ready.Data = refl
cleared_mode s ready.Open = refl
cleared_mode s ready.Empty = refl
cleared_mode s (ready.Close at) = refl

too_deep : (s : State) (less at c : ℕ) → is_inside s ≡ true → nat_lt (length s.elements) MAX_XMI_NESTING ≡ false → (steps.begin_element s less at c).mode ≡ modes.Failed (fault_at kinds.Limit less)
too_deep s less at c i f = ap (λ (u : State). u.mode) (cond-true (is_inside s) _ _ i ∙ cond-false (nat_lt (length s.elements) MAX_XMI_NESTING) _ (steps.too_deep s less) f)

pub no_start : (b c : ℕ) → begins_name b ≡ true → begins_name c ≡ false → (b == c) ≡ false
no_start b c h n = false_from_ne_true (b == c) (λ e. true≢false (sym h ∙ ap begins_name (eqb-true b c e) ∙ n))

low_deep : (s : State) (less b : ℕ) → begins_name b ≡ true → is_inside s ≡ true → nat_lt (length s.elements) MAX_XMI_NESTING ≡ false → (state_from (less + 1) (less_at s less) (b ∷ [])).mode ≡ modes.Failed (fault_at kinds.Limit less)
low_deep s less b e i f =
    let t : State = less_at s less in
    let u : State = automaton.character_by t (modes.Less less) (less + 1) b None in
    cleared_mode u u.ready
    ∙ ap (λ (q : State). q.mode)
    (cond-true (nat_lt b 128) _ _ (lt-ltb b 128 (continues_low b (begins_continues b e))) ∙ cond-false (b == 33) _ _ (no_start b 33 e refl) ∙ cond-false (b == 63) _ _ (no_start b 63 e refl) ∙ cond-false (b == 47) _ _ (no_start b 47 e refl)
    ∙ cond-true (begins_name b) _ (fail t kinds.BadName (less + 1)) e)
    ∙ too_deep t less (less + 1) b i f

far_deep : (s : State) (less c : ℕ) → is_far c ≡ true → lib.Utf8.scalar c ≡ true → is_inside s ≡ true → nat_lt (length s.elements) MAX_XMI_NESTING ≡ false → (state_from (less + 1) (less_at s less) (encode c)).mode ≡ modes.Failed (fault_at kinds.Limit less)
far_deep s less c e k i f =
    let p = far_parts c e in
    let w = far (less + 1) s (modes.Less less) false c tt k p.0 in
    let t : State = within_character s (modes.Less less) false w.p in
    let u : State = behind_whole s (modes.Less less) false w.p w.place c in
    ap (λ (q : State). q.mode) w.walk.state
    ∙ cleared_mode u u.ready
    ∙ ap (λ (q : State). q.mode) (cond-false (automaton.is_unstorable c) _ (steps.begin_element t less w.p.lead c) (storable_far c p.0 p.1))
    ∙ too_deep t less w.p.lead c i f

pub limit_told : (bytes : List ℕ) (n : ℕ) → IsLimit bytes n → IsTold bytes kinds.Limit n
limit_told bytes n f =
    let s : State = state_at bytes n in
    let i = inside_here bytes n 60 (encode f.first) f.markup f.there f.inside in
    let full = full_here bytes n 60 (encode f.first) f.markup f.there i f.full in
    told_here bytes kinds.Limit n n refl
    (told_behind bytes n (encode f.first) (fault_at kinds.Limit n) f.markup f.there
    (elim f.begun [
      | inl e ↦ subst (λ (bs : List ℕ). (state_from (n + 1) (less_at s n) bs).mode ≡ modes.Failed (fault_at kinds.Limit n)) (sym (encode_ascii f.first (continues_low f.first (begins_continues f.first e)))) (low_deep s n f.first e i full)
      | inr e ↦ far_deep s n f.first e.0 (one_scalar f.first e.1) i full
    ]))
  where
    one_scalar : (c : ℕ) → Rattle.std.specs.Str.all_scalars (c ∷ []) ≡ true → lib.Utf8.scalar c ≡ true
    one_scalar c e = (Rattle.std.proofs.lemmas.Bool.and_parts (lib.Utf8.scalar c) true e).0
