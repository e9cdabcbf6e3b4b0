-- Where an `&` begins no reference, that is told.
use Rattle.std.proofs.Common.{◌≡◌, ℕ, ◌+◌, ◌*◌, ◌≤◌, Bool, true, false, cond, List, [], ◌∷◌, length, take, drop, refl, sym, ◌∙◌, ap, subst, arith, Option, Some, None, inl, inr, codes}
use Rattle.std.proofs.lemmas.Bool.{ltb-true, ltb-false, eq-eqb, cond-true, cond-false, cases_Bool, eqb-true}
use Rattle.std.specs.Prelude.{nat_lt, ◌==◌, ◌&&◌, not}
use Rattle.xmi_text.specs.AttrNames.{has_name}
use Rattle.xmi_text.specs.References as refs
use Rattle.xmi_text.specs.States as states
use Rattle.xmi_text.specs.States.{go, fail, is_inside, cleared, cleared_by}
use Rattle.xmi_text.specs.Automaton as automaton
use Rattle.xmi_text.specs.Automaton.{step_by, fault_at, wanted}
use Rattle.xmi_text.specs.Reading.{state_from}
use Rattle.xmi_text.specs.Markup as markup
use Rattle.xmi_text.specs.Markup.{begins}
use Rattle.xmi_text.specs.Faults.{Stands, Agree, IsBadEntity}
use Rattle.xmi_text.specs.declared.error.TextKind.TheVariants as kinds
use Rattle.xmi_text.specs.declared.reference.Reference.{Reference}
use Rattle.xmi_text.specs.declared.reference.Reference.TheVariants as ref
use Rattle.xmi_text.specs.declared.utf_eight.Partial.{Partial}
use Rattle.xmi_text.specs.declared.state.State.{State}
use Rattle.xmi_text.specs.declared.state.Mode.{Mode}
use Rattle.xmi_text.specs.declared.state.Mode.TheVariants as modes
use Rattle.xmi_text.specs.declared.state.Quote.TheVariants as quotes
use Rattle.xmi_text.specs.declared.state.Within.{Within}
use Rattle.xmi_text.specs.declared.state.Within.TheVariants as places
use Rattle.xmi_text.specs.declared.state.Ready.TheVariants as ready
use Rattle.xmi_text.proofs.completion.Sound.{Reachable, Grows, extended_grows, IsSound, sound_of}
use Rattle.xmi_text.proofs.completion.Completing.{storable_is, surrogate, grown_more, IsBase, decimals, hexadecimals}
use Rattle.xmi_text.proofs.reading.Staying.{idle_of}
use Rattle.xmi_text.proofs.backward.Backward.{Finishes}
use Rattle.xmi_text.proofs.backward.Backrefs.{grows, ends}
use Rattle.xmi_text.proofs.faults.Lettered.{is_letter, lettered_wanted}
use Rattle.xmi_text.proofs.faults.Probes.{here, Ends, EndsIn, ends_on, both_end, cut_ends, cdata_other, other_name}
use Rattle.xmi_text.proofs.faults.Told.{state_at, stands_within, may_go, may_not, told, told_here, here_same, begins_split, IsTold}

-- ---- a place where a reference may stand

record Refers (s : State) (m : Mode) (c : Option Partial) (at : ℕ) : Type 0 where
  uncut : c ≡ None
  place : Within
  step : step_by (here s m c) at 38 m ≡ go (here s m c) (modes.Reference at place ref.Begun)

amp_no_reference : (part : Reference) → refs.extended part 38 ≡ None
amp_no_reference ref.Hash = refl
amp_no_reference _ = refl

amp_no_name : (s : State) (less matched at : ℕ) (w : Option ℕ) → ((x : ℕ) → w ≡ Some x → is_letter x ≡ true) → EndsIn (at + 1) (108 ∷ 116 ∷ 59 ∷ []) (automaton.end_name_by (here s (modes.EndName less matched) None) less matched at 38 w)
amp_no_name s less matched at None f = tt
amp_no_name s less matched at (Some w) f = subst (EndsIn (at + 1) (108 ∷ 116 ∷ 59 ∷ [])) (sym (other_name s less matched at 38 w (f w refl) refl)) tt

reference_place : (s : State) (m : Mode) (c : Option Partial) (at : ℕ) → IsSound (here s m c) → ((matched x : ℕ) → wanted s matched ≡ Some x → is_letter x ≡ true)
    → (Ends (here s m c) at (38 ∷ 108 ∷ 116 ∷ 59 ∷ []) → ⊥) → Ends (here s m c) at (38 ∷ 32 ∷ []) → Refers s m c at
reference_place s (modes.Failed f) c at z l a d = absurd (a tt)
reference_place s (modes.Doctype less word_at matched) c at z l a d = absurd (a (ends_on at (here s (modes.Doctype less word_at matched) c) (38 ∷ 108 ∷ 116 ∷ 59 ∷ []) z tt))
reference_place s (modes.EndName less matched) (Some p) at z l a d = let k = z.cut in absurd k.0
reference_place s (modes.Reference amp place part) (Some p) at z l a d = let k = z.cut in absurd k.0
reference_place s modes.Inside None at z l a d = record { uncut = refl; place = places.Content; step = refl }
reference_place s modes.Comment None at z l a d = absurd d
reference_place s modes.CommentDash None at z l a d = absurd d
reference_place s modes.CommentDashes None at z l a d = absurd d
reference_place s (modes.CdataStart matched) None at z l a d =
    let t : State = here s (modes.CdataStart matched) None in
    absurd (a (subst (λ (q : Bool). EndsIn (at + 1) (108 ∷ 116 ∷ 59 ∷ []) (cond (not q) (fail t kinds.BadMark at) (cond (nat_lt matched 6) (go t (modes.CdataStart (matched + 1))) (go t states.cdata)))) (sym (cdata_other matched 38 refl refl refl refl refl)) tt))
reference_place s (modes.Cdata held) None at z l a d = absurd d
reference_place s (modes.Target colon) None at z l a d = absurd d
reference_place s modes.Instruction None at z l a d = absurd d
reference_place s modes.InstructionQuestion None at z l a d = absurd d
reference_place s (modes.AttrName colon) None at z l a d =
    let t : State = here s (modes.AttrName colon) None in
    absurd (a (both_end (at + 1) (108 ∷ 116 ∷ 59 ∷ []) (has_name s.attrs s.attr.name) (fail t kinds.DuplicateAttribute s.attr.at) (fail t kinds.BadMark at) tt tt))
reference_place s (modes.Value quotes.Double) None at z l a d = record { uncut = refl; place = places.Value quotes.Double; step = refl }
reference_place s (modes.Value quotes.Single) None at z l a d = record { uncut = refl; place = places.Value quotes.Single; step = refl }
reference_place s (modes.EndName less matched) None at z l a d = absurd (a (amp_no_name s less matched at (wanted s matched) (l matched)))
reference_place s (modes.Reference amp place part) None at z l a d =
    let t : State = here s (modes.Reference amp place part) None in
    absurd (a (subst (λ (o : Option Reference). EndsIn (at + 1) (108 ∷ 116 ∷ 59 ∷ []) (automaton.reference_on t amp place o)) (sym (amp_no_reference part)) tt))
reference_place s m None at z l a d = absurd (a tt)
reference_place s m (Some p) at z l a d = let k = z.cut in absurd (a (cut_ends s m p at 38 (108 ∷ 116 ∷ 59 ∷ []) (omega arith) k.1 tt))

-- ---- each part of a reference goes on to one

number_finish : (made : ℕ → Reference) (base n : ℕ) (o : Option ℕ) → IsBase made base → n ≤ 0x10ffff → refs.storable n ≡ o → (more : List ℕ) × Finishes (made n) more
number_finish made base n (Some c) base' u e = (59 ∷ [], ends (made n) c (base'.is n ∙ e))
number_finish made base n None base' u e =
    elim (cases_Bool (nat_lt n 32)) [
      | inl l ↦
          let few = base'.small n (ltb-true n 32 l) in
          let five : ℕ = n * base + 5 in
          let last : ℕ = five * base + 0 in (
            53 ∷ 48 ∷ 59 ∷ [],
            grows (made n) 53 (48 ∷ 59 ∷ []) (made five) (base'.five n ∙ grown_more made base n 5 u few.0)
                (grows (made five) 48 (59 ∷ []) (made last) (base'.none five ∙ grown_more made base five 0 few.0 (omega (arith, few.2)))
                (ends (made last) last (base'.is last ∙ storable_is last few.1 (inl few.2) (omega (arith, few.2))))),
          )
      | inr l ↦
          let between = surrogate n u (ltb-false n 32 l) e in
          let many = base'.large n between.0 between.1 in
          let last : ℕ = n * base + 0 in (
            48 ∷ 59 ∷ [],
            grows (made n) 48 (59 ∷ []) (made last) (base'.none n ∙ grown_more made base n 0 u many.1)
                (ends (made last) last (base'.is last ∙ storable_is last (omega (arith, many.0)) (inr many.0) many.1)),
          )
    ]

finish : (part : Reference) → Reachable part → (more : List ℕ) × Finishes part more
finish ref.Begun k = (codes "lt;", (markup.Lt, refl, refl))
finish ref.A k = (codes "mp;", (markup.Amp, refl, refl))
finish ref.Am k = (codes "p;", (markup.Amp, refl, refl))
finish ref.Amp k = (codes ";", (markup.Amp, refl, refl))
finish ref.Ap k = (codes "os;", (markup.Apos, refl, refl))
finish ref.Apo k = (codes "s;", (markup.Apos, refl, refl))
finish ref.Apos k = (codes ";", (markup.Apos, refl, refl))
finish ref.L k = (codes "t;", (markup.Lt, refl, refl))
finish ref.Lt k = (codes ";", (markup.Lt, refl, refl))
finish ref.G k = (codes "t;", (markup.Gt, refl, refl))
finish ref.Gt k = (codes ";", (markup.Gt, refl, refl))
finish ref.Q k = (codes "uot;", (markup.Quot, refl, refl))
finish ref.Qu k = (codes "ot;", (markup.Quot, refl, refl))
finish ref.Quo k = (codes "t;", (markup.Quot, refl, refl))
finish ref.Quot k = (codes ";", (markup.Quot, refl, refl))
finish ref.Hash k = (codes "50;", (markup.Decimal (53 ∷ 48 ∷ []), refl, refl))
finish ref.Hexadecimal k = (codes "50;", (markup.Hexadecimal (53 ∷ 48 ∷ []), refl, refl))
finish (ref.Decimal n) k = number_finish ref.Decimal 10 n (refs.storable n) decimals k refl
finish (ref.Digits n) k = number_finish ref.Digits 16 n (refs.storable n) hexadecimals k refl

-- ---- the bytes of a reference

-- some of the bytes lead to the fault
record Refuses (s : State) (n at : ℕ) (place : Within) (part : Reference) (xs : List ℕ) : Type 0 where
  read : List ℕ
  are : begins read xs ≡ true
  fails : (state_from at (record s { mode = modes.Reference n place part; partial = None; ready = ready.Nothing }) read).mode ≡ modes.Failed (fault_at kinds.BadEntity n)

same_byte : (b : ℕ) → (b == b) ≡ true
same_byte b = eq-eqb b b refl

pub one_read : (b : ℕ) (xs : List ℕ) → begins (b ∷ []) (b ∷ xs) ≡ true
one_read b xs = ap (λ (q : Bool). q && true) (same_byte b)

pub more_read : (b : ℕ) (ys xs : List ℕ) → begins ys xs ≡ true → begins (b ∷ ys) (b ∷ xs) ≡ true
more_read b ys xs e = ap (λ (q : Bool). q && begins ys xs) (same_byte b) ∙ e

pub more_agree : (b : ℕ) (ys xs : List ℕ) → Agree ys xs → Agree (b ∷ ys) (b ∷ xs)
more_agree b ys xs (inl e) = inl (more_read b ys xs e)
more_agree b ys xs (inr e) = inr (more_read b xs ys e)

abbrev at_part : State → ℕ → Within → Reference → State
at_part s n place part = record s { mode = modes.Reference n place part; partial = None; ready = ready.Nothing }

no_end : (s : State) (n at : ℕ) (place : Within) (part : Reference) (b : ℕ) (xs : List ℕ) (c : Option ℕ) → (b == 59) ≡ true → refs.character part ≡ c → ((more : List ℕ) → Finishes part more → Agree more (b ∷ xs) → ⊥) → Refuses s n at place part (b ∷ xs)
no_end s n at place part b xs (Some c) e k f = absurd (f (59 ∷ []) (ends part c k) (inl (subst (λ (x : ℕ). begins (59 ∷ []) (x ∷ xs) ≡ true) (sym (eqb-true b 59 e)) refl)))
no_end s n at place part b xs None e k f = record {
  read = b ∷ [];
  are = one_read b xs;
  fails = ap (λ (t : State). (cleared t).mode) (cond-true (b == 59) _ (automaton.reference_on (at_part s n place part) n place (refs.extended part b)) e ∙ ap (automaton.reference_to (at_part s n place part) n place) k) ∙ by_place place;
}
  where
    by_place : (place : Within) → (cleared (automaton.reference_to (at_part s n place part) n place None)).mode ≡ modes.Failed (fault_at kinds.BadEntity n)
    by_place places.Content = refl
    by_place (places.Value q) = refl

-- one more byte, where what is behind it is refused
refuses_on : (s : State) (n at : ℕ) (place : Within) (part : Reference) (b : ℕ) (xs : List ℕ) (next : Option Reference) → (b == 59) ≡ false → refs.extended part b ≡ next → Grows next
    → ((made : Reference) → Reachable made → ((more : List ℕ) → Finishes made more → Agree more xs → ⊥) → Refuses (record s { returned = false }) n (at + 1) place made xs)
    → ((more : List ℕ) → Finishes part more → Agree more (b ∷ xs) → ⊥) → Refuses s n at place part (b ∷ xs)
refuses_on s n at place part b xs None e k g rest f = record {
  read = b ∷ [];
  are = one_read b xs;
  fails = ap (λ (t : State). (cleared t).mode) (cond-false (b == 59) (automaton.reference_end (at_part s n place part) n place part) _ e ∙ ap (automaton.reference_on (at_part s n place part) n place) k);
}
refuses_on s n at place part b xs (Some made) e k g rest f =
    let r = rest made g (λ more done agrees. f (b ∷ more) (grows part b more made k done) (more_agree b more xs agrees)) in
    record {
      read = b ∷ r.read;
      are = more_read b r.read xs r.are;
      fails = ap (λ (t : State). (state_from (at + 1) (cleared t) r.read).mode) (cond-false (b == 59) (automaton.reference_end (at_part s n place part) n place part) _ e ∙ ap (automaton.reference_on (at_part s n place part) n place) k) ∙ r.fails;
    }

refuses : (xs : List ℕ) (s : State) (n at : ℕ) (place : Within) (part : Reference) → Reachable part → ((more : List ℕ) → Finishes part more → Agree more xs → ⊥) → Refuses s n at place part xs
refuses [] s n at place part k f = let m = finish part k in absurd (f m.0 m.1 (inr refl))
refuses (b ∷ xs) s n at place part k f =
    elim (cases_Bool (b == 59)) [
      | inl e ↦ no_end s n at place part b xs (refs.character part) e refl f
      | inr e ↦ refuses_on s n at place part b xs (refs.extended part b) e refl (extended_grows part b) (λ made g h. refuses xs (record s { returned = false }) n (at + 1) place made g h) f
    ]

pub entity_told : (bytes : List ℕ) (n : ℕ) → IsBadEntity bytes n → IsTold bytes kinds.BadEntity n
entity_told bytes n f =
    let s : State = state_at bytes n in
    let same = here_same s (idle_of (take n bytes)) in
    let inside = stands_within bytes n 38 [] f.ampersand in
    let h : n ≤ length bytes = omega (arith, inside) in
    let k : Refers s s.mode s.partial n =
    reference_place s s.mode s.partial n (subst IsSound (sym same) (sound_of (take n bytes))) (lettered_wanted (take n bytes))
    (λ d. may_go bytes n (38 ∷ 108 ∷ 116 ∷ 59 ∷ []) h f.reference (subst (λ (t : State). Ends t n (38 ∷ 108 ∷ 116 ∷ 59 ∷ [])) same d))
    (subst (λ (t : State). Ends t n (38 ∷ 32 ∷ [])) (sym same) (may_not bytes n (38 ∷ 32 ∷ []) h f.blank)) in
    let split = begins_split (38 ∷ []) (drop n bytes) f.ampersand in
    let xs : List ℕ = split.0 in
    let r = refuses xs (record s { returned = false }) n (n + 1) k.place ref.Begun tt
    (λ more done agrees. f.none done.0 done.2 (subst (λ (ys : List ℕ). Agree (markup.reference_text done.0) ys) (sym split.1) (subst (λ (ys : List ℕ). Agree ys (38 ∷ xs)) (sym done.1) (more_agree 38 more xs agrees)))) in
    let stands : Stands bytes n (38 ∷ r.read) = subst (λ (ys : List ℕ). begins (38 ∷ r.read) ys ≡ true) (sym split.1) (more_read 38 r.read xs r.are) in
    told_here bytes kinds.BadEntity n n refl
    (told bytes n (38 ∷ r.read) (fault_at kinds.BadEntity n) h stands
    (ap (λ (t : State). (state_from n t (38 ∷ r.read)).mode) (sym same)
    ∙ ap (λ (t : State). (state_from (n + 1) (cleared t) r.read).mode) k.step
    ∙ ap (λ (o : Option Partial). (state_from (n + 1) (record s { mode = modes.Reference n k.place ref.Begun; partial = o; ready = ready.Nothing; returned = false }) r.read).mode) k.uncut
    ∙ r.fails))
