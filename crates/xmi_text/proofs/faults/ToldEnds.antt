-- An end tag of another name than the open element's is told.
use Rattle.std.proofs.Common.{◌≡◌, ℕ, zero, suc, ◌+◌, ◌-◌, ◌≤◌, ◌<◌, true, false, List, [], ◌∷◌, ◌++◌, length, take, drop, refl, sym, ◌∙◌, ap, subst, arith, Option, Some, None, inl, inr, append_assoc}
use Rattle.std.proofs.lemmas.Bool.{ltb-true, cond-true, cond-false, cases_Bool, eqb-true}
use Rattle.std.specs.Prelude.{◌==◌, slice_get}
use lib.Utf8.{encodes}
use Rattle.xmi_text.specs.ByteClass.{holds_in_name}
use Rattle.xmi_text.specs.States as states
use Rattle.xmi_text.specs.States.{go, fail, is_inside, cleared, front}
use Rattle.xmi_text.specs.Automaton as automaton
use Rattle.xmi_text.specs.Automaton.{step, end_fault, fault_at, innermost}
use Rattle.xmi_text.specs.Reading.{state_from, state_of, end_fault_of}
use Rattle.xmi_text.specs.Completion.{end_tags}
use Rattle.xmi_text.specs.Writing.{named}
use Rattle.xmi_text.specs.Markup.{begins, Markup}
use Rattle.xmi_text.specs.Faults.{IsMarkup, MayEnd, IsWrongEnd}
use Rattle.xmi_text.specs.declared.error.TextKind.TheVariants as kinds
use Rattle.xmi_text.specs.declared.state.State.{State}
use Rattle.xmi_text.specs.declared.state.Mode.TheVariants as modes
use Rattle.xmi_text.proofs.completion.Sound.{sound_of}
use Rattle.xmi_text.proofs.completion.Completing.{slash_wholes, all_ended, drop_more}
use Rattle.xmi_text.proofs.backward.Whole.{whole_markup}
use Rattle.xmi_text.proofs.faults.Named.{Good, AllGood, names_of}
use Rattle.xmi_text.proofs.faults.ToldReferences.{more_read, one_read}
use Rattle.xmi_text.proofs.faults.ToldBytes.{left_of, wanted_none, wanted_some, in_name}
use Rattle.xmi_text.proofs.faults.Told.{state_at, state_behind, stands_within, stands_join, told_behind, told_here, less_at, behind_less, IsTold}
use Rattle.xmi_text.proofs.faults.ToldNames.{inside_here}

-- ---- the innermost element

record HasName (o : Option (List ℕ)) : Type 0 where
  name : List ℕ
  is : o ≡ Some name
  good : Good name

named_at : (names : List (List ℕ)) (n : ℕ) → AllGood names → n < length names → HasName (slice_get names n)
named_at [] n p h = absurd (none n h)
  where
    none : (n : ℕ) → n < 0 → ⊥
    none n h = omega arith
named_at (name ∷ names) zero p h = record { name = name; is = refl; good = p.0 }
named_at (name ∷ names) (suc n) p h = named_at names n p.1 (omega arith)

innermost_named : (bytes : List ℕ) → is_inside (state_of bytes) ≡ true → HasName (innermost (state_of bytes).elements)
innermost_named bytes i =
    let names : List (List ℕ) = (state_of bytes).elements in
    let many = ltb-true 0 (length names) i in
    named_at names (length names - 1) (names_of bytes) (omega (arith, many))

-- its end tag may stand here
may_end : (bytes : List ℕ) (n : ℕ) (name : List ℕ) → n ≤ length bytes → IsMarkup bytes n → is_inside (state_at bytes n) ≡ true → innermost (state_at bytes n).elements ≡ Some name → Good name → MayEnd bytes n name
unfolding end_fault_of
may_end bytes n name h m i e good =
    let s : State = state_at bytes n in
    let first : List ℕ = take n bytes in
    let text : List ℕ = encodes name in
    let more : List ℕ = end_tags (front s.elements) in
    let known : encodes (named (innermost s.elements)) ≡ text = ap (λ (o : Option (List ℕ)). encodes (named o)) e in
    let part : List ℕ = 47 ∷ (text ++ 62 ∷ more) in
    let all : List ℕ = first ++ (60 ∷ part) in
    let whole = slash_wholes (record s { returned = false }) n more i ((sound_of first).rooted i) (all_ended (front s.elements)) in
    let ends : end_fault_of all ≡ None =
    ap (λ (t : State). end_fault t (length all)) (state_behind bytes n (60 ∷ part) h ∙ behind_less bytes n part h m)
    ∙ ap (λ (xs : List ℕ). end_fault (state_from (n + 1) (less_at s n) (47 ∷ (xs ++ 62 ∷ more))) (length all)) (sym known)
    ∙ whole (n + 1) (length all) in
    let w = whole_markup all ends in
    let joined : all ≡ (first ++ (60 ∷ 47 ∷ (text ++ 62 ∷ []))) ++ more =
    sym (append_assoc first (60 ∷ 47 ∷ (text ++ 62 ∷ [])) more ∙ ap (λ (xs : List ℕ). first ++ (60 ∷ 47 ∷ xs)) (append_assoc text (62 ∷ []) more)) in
    (good.0, good.1, (more, w.0, subst (λ (xs : List ℕ). Markup xs w.0) joined w.1))

-- ---- another name

record IsOther (s : State) (n at : ℕ) (xs : List ℕ) : Type 0 where
  read : List ℕ
  are : begins read xs ≡ true
  fails : (state_from at s read).mode ≡ modes.Failed (fault_at kinds.WrongEnd n)

-- one more byte, which makes it another
other_now : (s : State) (n matched at b : ℕ) (xs : List ℕ) → step (in_name s n matched) at b ≡ fail (in_name s n matched) kinds.WrongEnd n → IsOther (in_name s n matched) n at (b ∷ xs)
other_now s n matched at b xs e = record { read = b ∷ []; are = one_read b xs; fails = ap (λ (t : State). (cleared t).mode) e }

other_walk : (ds xs : List ℕ) (s : State) (n matched at : ℕ) → left_of s matched ≡ ds → (begins xs ds ≡ true → ⊥) → ((b : ℕ) → holds_in_name b ≡ false → begins (ds ++ b ∷ []) xs ≡ true → ⊥) → IsOther (in_name s n matched) n at xs
other_walk ds [] s n matched at e part f = absurd (part refl)
other_walk [] (x ∷ xs) s n matched at e part f =
    elim (cases_Bool (holds_in_name x)) [
      | inl k ↦ other_now s n matched at x xs (ap (automaton.end_name_by (in_name s n matched) n matched at x) (wanted_none s matched e) ∙ cond-true (holds_in_name x) _ _ k)
      | inr k ↦ absurd (f x k (one_read x xs))
    ]
other_walk (d ∷ ds) (x ∷ xs) s n matched at e part f =
    let t : State = in_name s n matched in
    elim (cases_Bool (d == x)) [
      | inl k ↦
          let same : d ≡ x = eqb-true d x k in
          let r = other_walk ds xs (record s { returned = false }) n (matched + 1) (at + 1) (drop_more (encodes (named (innermost s.elements))) matched ∙ ap (drop 1) e)
          (λ q. part (subst (λ (y : ℕ). begins (x ∷ xs) (y ∷ ds) ≡ true) (sym same) (more_read x xs ds q)))
          (λ b o q. f b o (subst (λ (y : ℕ). begins (y ∷ (ds ++ b ∷ [])) (x ∷ xs) ≡ true) (sym same) (more_read x (ds ++ b ∷ []) xs q))) in
          record {
            read = x ∷ r.read;
            are = more_read x r.read xs r.are;
            fails = ap (λ (q : State). (state_from (at + 1) (cleared q) r.read).mode) (ap (automaton.end_name_by t n matched at x) (wanted_some s matched d ds e) ∙ cond-true (d == x) (go t (modes.EndName n (matched + 1))) (fail t kinds.WrongEnd n) k) ∙ r.fails;
          }
      | inr k ↦ other_now s n matched at x xs (ap (automaton.end_name_by t n matched at x) (wanted_some s matched d ds e) ∙ cond-false (d == x) (go t (modes.EndName n (matched + 1))) (fail t kinds.WrongEnd n) k)
    ]

-- behind `</`
behind_slash : (s : State) (run : List ℕ) (n at : ℕ) (xs : List ℕ) → ((run' : List ℕ) → IsOther (in_name (record s { run = run'; returned = false }) n 0) n at xs) → IsOther (cleared (states.begin_end (less_at (record s { run = run }) n) n)) n at xs
behind_slash s [] n at xs w = w []
behind_slash s (c ∷ run) n at xs w = w []

pub end_told : (bytes : List ℕ) (n : ℕ) → IsWrongEnd bytes n → IsTold bytes kinds.WrongEnd n
end_told bytes n f =
    let s : State = state_at bytes n in
    let within = stands_within bytes n 60 (47 ∷ []) f.end in
    let h : n ≤ length bytes = omega (arith, within) in
    let i = inside_here bytes n 60 (47 ∷ []) f.markup f.end f.inside in
    let o = innermost_named (take n bytes) i in
    let may = may_end bytes n o.name h f.markup i o.is o.good in
    let xs : List ℕ = drop (n + 2) bytes in
    let left : left_of s 0 ≡ encodes o.name = ap (λ (q : Option (List ℕ)). encodes (named q)) o.is in
    let w : IsOther (cleared (states.begin_end (less_at s n) n)) n (n + 1 + 1) xs =
    behind_slash s s.run n (n + 1 + 1) xs (λ run. other_walk (encodes o.name) xs (record s { run = run; returned = false }) n 0 (n + 1 + 1) left (f.part o.name may) (λ b k q. f.other o.name b may k q)) in
    told_here bytes kinds.WrongEnd n n refl
    (told_behind bytes n (47 ∷ w.read) (fault_at kinds.WrongEnd n) f.markup (stands_join bytes n (60 ∷ 47 ∷ []) w.read f.end w.are)
    (ap (λ (t : State). (state_from (n + 1 + 1) (cleared t) w.read).mode) (cond-true (is_inside s) (states.begin_end (less_at s n) n) (fail (less_at s n) kinds.BadMark (n + 1)) i) ∙ w.fails))
